pub mod FilledLemmas
pub mod ListLemmas
pub mod QueueLemmas
