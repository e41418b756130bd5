mod Agreed
mod FieldLemmas
mod LinesRead
mod Misfits
mod RaceDrafted
mod RaceGathered
mod RaceShaped
mod RecordsLeft
mod RidPoints
mod ScriptDrafted
mod Shaped
mod SpelledKeys
mod SpelledLists
mod Stopped
mod ToldLines
mod Words
pub mod Zips
