-- Copies of pages, by the build and the columns that they were made for.
use Rattle.std.specs.Prelude.{◌≡◌, ℕ, ◌==◌, ◌&&◌, Bool, List, map, filter}
use Rattle.keybytes.specs.Schemas.{same_kinds}
use Rattle.keybytes.specs.declared.kind.Kind.{Kind}
use Rattle.heap_table.specs.Images.{ImageValue}
use Rattle.page_workers.specs.declared.copied.Copied.{Copied}

-- the copy was made for that build, of a table of these columns
pub record IsFor (build : ℕ) (kinds : List Kind) (copied : Copied) : Type 0 where
  pub number : copied.build ≡ build
  pub columns : copied.image.schema ≡ kinds

-- whether it was
abbrev pub is_for : ℕ → List Kind → Copied → Bool
is_for build kinds copied = copied.build == build && same_kinds copied.image.schema kinds

-- the pages of a table of these columns that were copied for that build, in order
abbrev pub images_of : ℕ → List Kind → List Copied → List ImageValue
images_of build kinds copies = map (λ copied. copied.image) (filter (λ copied. is_for build kinds copied) copies)
