-- The workers of a build hand their spools over, one after another.
use Rattle.std.proofs.Common.{◌≡◌, ℕ, zero, suc, ◌+◌, ◌<◌, ◌≤◌, List, [], ◌∷◌, ◌++◌, length, map, take, drop, set, get_or, Some, refl, sym, ap, ◌∙◌, subst}
use Rattle.std.proofs.Common.{arith, append_assoc, append-nil, length-append}
use Rattle.std.specs.List.{slice_get}
use Rattle.std.proofs.lemmas.List.{drop-set-lt, drop_more, map_more, take_all, take_more_set}
use Rattle.std.proofs.lemmas.Option.{get_or_from_slice_get, same_Some}
use Rattle.side_file.specs.Ends.{RingId}
use Rattle.side_file.specs.declared.entry.Entry.{Entry}
use Rattle.page_workers.specs.IntakeValue.{IntakeValue}
use Rattle.page_workers.specs.SpoolValue.{SpoolValue}
use Rattle.side_file.specs.Ends.{TakeEnd}
use Rattle.page_workers.specs.WorkerValue.{WorkerValue}
use Rattle.building.specs.BuildingValue.{intakes}
use Rattle.building.specs.Holding.{all_spools, workers_spools}
use Rattle.building.specs.Rings.{AreTakeEnds}
use Rattle.building.specs.Working.{handed_over}
use Rattle.page_workers.proofs.Places.{mapped}

-- a worker's spools are among those of all
pub own_within : (workers : List WorkerValue) (k : ℕ) (worker : WorkerValue) → slice_get workers k ≡ Some worker → length worker.spools ≤ length (workers_spools workers)
own_within [] k worker at = absurd (cc)
own_within (w ∷ ws) zero worker at = omega (arith, length-append w.spools (workers_spools ws), ap (λ (v : WorkerValue). length v.spools) (same_Some w worker at))
own_within (w ∷ ws) (suc k) worker at = let less = own_within ws k worker at in omega (arith, length-append w.spools (workers_spools ws), less)

-- there is room for them where there is room for all
pub room_for :
    (workers : List WorkerValue) (home : List SpoolValue) (k : ℕ) (worker : WorkerValue) → slice_get workers k ≡ Some worker
    → length home + length worker.spools ≤ length (all_spools workers home)
room_for workers home k worker at = let less = own_within workers k worker at in omega (arith, length-append home (workers_spools workers), less)

-- they go behind those that came before, and all stay the same
pub moved_home :
    (workers before : List WorkerValue) (k : ℕ) (worker after : WorkerValue) (home own : List SpoolValue) → take k workers ≡ map handed_over before
    → slice_get workers k ≡ Some worker → own ≡ worker.spools → after ≡ handed_over worker
    → all_spools (set workers k after) (home ++ own) ≡ all_spools workers home
moved_home [] before k worker after home own so_far at is left = absurd (cc)
moved_home (w ∷ ws) before zero worker after home own so_far at is left =
    let same : own ≡ w.spools = is ∙ ap (λ (v : WorkerValue). v.spools) (sym (same_Some w worker at)) in
    ap (λ (v : WorkerValue). (home ++ own) ++ (v.spools ++ workers_spools ws)) left
    ∙ append_assoc home own (workers_spools ws)
    ∙ ap (λ (l : List SpoolValue). home ++ (l ++ workers_spools ws)) same
moved_home (w ∷ ws) [] (suc k) worker after home own so_far at is left = absurd (cc)
moved_home (w ∷ ws) (b ∷ bs) (suc k) worker after home own so_far at is left =
    let first : w ≡ handed_over b = cc in
    let rest : take k ws ≡ map handed_over bs = cc in
    let none : w.spools ≡ [] = ap (λ (v : WorkerValue). v.spools) first in
    ap (λ (l : List SpoolValue). (home ++ own) ++ (l ++ workers_spools (set ws k after))) none
    ∙ moved_home ws bs k worker after home own rest at is left
    ∙ ap (λ (l : List SpoolValue). home ++ (l ++ workers_spools ws)) (sym none)

-- one worker more has handed its spools over
module _
    (old workers : List WorkerValue) (k : ℕ) (worker after : WorkerValue) (many : length workers ≡ length old) (less : k < length old)
    (so_far : take k workers ≡ map handed_over (take k old)) (rest : drop k workers ≡ drop k old) (at : slice_get workers k ≡ Some worker)
    (left : after ≡ handed_over worker) where
  there : k < length workers
  there = omega (arith, many, less)

  was : get_or old k worker ≡ worker
  was =
      let mine = drop_more workers k worker there in
      let its = drop_more old k worker less in
      let here = get_or_from_slice_get workers k worker worker at in
      cc

  pub one_more : take (k + 1) (set workers k after) ≡ map handed_over (take (k + 1) old)
  one_more =
      take_more_set workers k after there
      ∙ ap (λ (ws : List WorkerValue). ws ++ after ∷ []) so_far
      ∙ ap (λ (v : WorkerValue). map handed_over (take k old) ++ v ∷ []) (left ∙ ap handed_over (sym was))
      ∙ sym (map_more handed_over old k worker less)

  pub others : drop (k + 1) (set workers k after) ≡ drop (k + 1) old
  others =
      let mine = drop_more workers k worker there in
      let its = drop_more old k worker less in
      let same : drop (k + 1) workers ≡ drop (k + 1) old = cc in
      drop-set-lt (k + 1) workers k after (omega arith) ∙ same

-- who handed its spools over has none
pub none_left : (workers : List WorkerValue) → workers_spools (map handed_over workers) ≡ []
none_left [] = refl
none_left (w ∷ ws) = none_left ws

-- and still has its ring
pub rings_kept : (old new : List WorkerValue) (idle : List IntakeValue) → new ≡ map handed_over old → intakes new idle ≡ intakes old idle
rings_kept old new idle is =
    ap (λ (ws : List WorkerValue). intakes ws idle) is
    ∙ ap (λ (own : List IntakeValue). own ++ idle) (mapped handed_over (λ (w : WorkerValue). w.intake) old)

pub ends_kept :
    (old new : List WorkerValue) (page_rings entry_rings : List RingId) (idle : List IntakeValue) (sides : List (TakeEnd Entry)) → new ≡ map handed_over old
    → AreTakeEnds page_rings entry_rings (intakes old idle) sides → AreTakeEnds page_rings entry_rings (intakes new idle) sides
ends_kept old new page_rings entry_rings idle sides is are =
    subst (λ (all : List IntakeValue). AreTakeEnds page_rings entry_rings all sides) (sym (rings_kept old new idle is)) are

-- all spools are then those that no worker has
pub none_away : (old new : List WorkerValue) (home : List SpoolValue) → new ≡ map handed_over old → all_spools new home ≡ home
none_away old new home is = ap (λ (l : List SpoolValue). home ++ l) (ap workers_spools is ∙ none_left old) ∙ append-nil home

-- once all have, the workers have none
pub all_home :
    (old workers : List WorkerValue) (k : ℕ) (home all : List SpoolValue) → length workers ≤ k → length old ≤ k → take k workers ≡ map handed_over (take k old)
    → all_spools workers home ≡ all → home ≡ all
all_home old workers k home all past end so_far same =
    let each : workers ≡ map handed_over old = sym (take_all k workers past) ∙ so_far ∙ ap (map handed_over) (take_all k old end) in
    sym (append-nil home) ∙ ap (λ (l : List SpoolValue). home ++ l) (sym (ap workers_spools each ∙ none_left old)) ∙ same
