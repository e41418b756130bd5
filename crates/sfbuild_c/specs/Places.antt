-- What is told of a table, as C sees it: the place of a row, and how far a build is.
use Rattle.keybytes.specs.declared.rid.Rid.{Rid}
use Rattle.kept_table.specs.declared.progress.Progress.{Progress}
use Rattle.sfbuild_c.specs.declared.place.Place.{Place}
use Rattle.sfbuild_c.specs.declared.progress.ProgressOf.{ProgressOf}

abbrev pub no_place : Place
no_place = record { page = 0; slot = 0 }

abbrev pub place_of : Rid → Place
place_of rid = record { page = rid.page; slot = rid.slot }

abbrev pub rid_of : Place → Rid
rid_of place = record { page = place.page; slot = place.slot }

abbrev pub progress_of : Progress → ProgressOf
progress_of progress = record {
  running = progress.running;
  pages = progress.pages;
  scanned = progress.scanned;
  indexes = progress.indexes;
  loaded = progress.loaded;
  waiting = progress.waiting;
}
