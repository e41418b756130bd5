-- Short logs: what their definitions make of them, at values that a reader can check by hand.
use Rattle.std.proofs.Common.{◌≡◌, [], ◌∷◌, List, Some, None, refl}
use Rattle.keybytes.specs.declared.cell.Cell.{Cell}
use Rattle.keybytes.specs.declared.rid.Rid.{Rid}
use Rattle.heap_log.specs.declared.record.LogRec.TheVariants.{Write, Undo, Commit}
use Rattle.heap_log.specs.Standing.{live_at, standing_before}

abbrev first : Rid
first = record { page = 0; slot = 1 }

abbrev second : Rid
second = record { page = 1; slot = 0 }

-- the undo of the newest write brings the row before it back
newest_taken_back : (ten eleven : List Cell) → live_at (Write 1 first (Some ten) ∷ Write 1 first (Some eleven) ∷ Undo 1 2 ∷ []) first ≡ Some ten
newest_taken_back ten eleven = refl

-- the undo of an older write leaves the row
older_taken_back : (ten eleven : List Cell) → live_at (Write 1 first (Some ten) ∷ Write 2 first (Some eleven) ∷ Undo 1 1 ∷ []) first ≡ Some eleven
older_taken_back ten eleven = refl

-- a delete leaves none
deleted : (ten : List Cell) → live_at (Write 1 first (Some ten) ∷ Commit 1 ∷ Write 2 first None ∷ []) first ≡ None
deleted ten = refl

-- a page and a slot are no other page and slot
elsewhere : (ten : List Cell) → live_at (Write 1 first (Some ten) ∷ []) second ≡ None
elsewhere ten = refl

-- the write before another is the newest that stands
before : standing_before (Write 1 first None ∷ Write 2 first None ∷ Write 3 first None ∷ Undo 2 2 ∷ []) 3 ≡ Some 1
before = refl
