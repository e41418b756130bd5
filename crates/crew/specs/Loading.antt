-- The loads of a build's indexes, in threads of their own.
use Rattle.std.specs.Prelude.{◌≡◌, List, ◌++◌}
use Rattle.std.specs.List.{AllZip}
use Rattle.index_load.specs.IndexLoad.{HasRun, IndexLoadValue}

-- the first of these loads went to threads, and the others ran
pub record AreLoadsOf (loads gone ran : List IndexLoadValue) : Type 0 where
  pub others : List IndexLoadValue
  pub all : loads ≡ gone ++ others
  pub have_run : AllZip HasRun others ran
