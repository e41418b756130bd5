-- What a build begins with: rings that were sent nothing of it, makers that made nothing, and spools that are empty.
use Rattle.std.proofs.Common.{◌≡◌, ◌∙◌, ◌+◌, [], ◌≤◌, ◌<◌, ℕ, List, length, Some, ◌++◌, append-nil, refl, ap, sym, subst, arith}
use Rattle.std.specs.Prelude.{map, Bool, true, false, ◌*◌}
use Rattle.std.specs.List.{All, list_all, slice_get}
use Rattle.std.proofs.lemmas.List.{length-map}
use Rattle.keybytes.specs.Keys.{KeySpecValue}
use Rattle.keybytes.specs.declared.kind.Kind.{Kind}
use Rattle.side_file.specs.Ends.{PutEnd, RingId}
use Rattle.side_file.specs.declared.entry.Entry.{Entry}
use Rattle.side_file.specs.Ends.{TakeEnd}
use Rattle.page_workers.specs.IntakeValue.{IntakeValue}
use Rattle.page_workers.specs.declared.copied.Copied.{Copied}
use Rattle.building.specs.BuildingValue.{BuildingValue, worker_state, intakes}
use Rattle.page_workers.specs.SpoolValue.{SpoolValue}
use Rattle.building.specs.Holding.{all_spools, fresh_maker, spools_state}
use Rattle.building.specs.Equipped.{IsFresh, IsNewMaker}
use Rattle.page_workers.specs.WorkerValue.{WorkerValue}
use Rattle.run_maker.specs.Making.{MakerValue}
use Rattle.keybytes.specs.declared.pair.Pair.{Pair}
use Rattle.table_scan.specs.SideFiles.{drained_end, side_rings, taken_rings}
use Rattle.page_workers.proofs.Places.{all_at, all_from, as_long, at_map, map_at, mapped}
use Rattle.building.proofs.AtWork.{intake_at}
use Rattle.std.proofs.lemmas.List.Elements.{All-weaker}
use Rattle.build_events.specs.declared.plan.Plan.{Plan}
use Rattle.building.proofs.LeftBeside.{at_home, each_empty}
use Rattle.run_spool.specs.Spools.{holds_nothing}
use Rattle.building.specs.Rings.{all_sent, put_rings, take_rings, AreOfBuilds, AreTakeEnds, begun_on}

-- where no worker is, each intake is of a ring that has none
pub idle_rings :
    (page_rings entry_rings : List RingId) (workers : List WorkerValue) (idle : List IntakeValue) (sides : List (TakeEnd Entry))
    → AreTakeEnds page_rings entry_rings (intakes workers idle) sides → workers ≡ [] → take_rings idle ≡ page_rings
idle_rings page_rings entry_rings workers idle sides are none = ap (λ (ws : List WorkerValue). take_rings (intakes ws idle)) (sym none) ∙ are.intakes_are

-- the ends that take stay those of the table's rings where each ring is emptied for a build
pub ends_emptied :
    (page_rings entry_rings : List RingId) (workers : List WorkerValue) (idle : List IntakeValue) (sides : List (TakeEnd Entry))
    → AreTakeEnds page_rings entry_rings (intakes workers idle) sides → workers ≡ [] → (build : ℕ) (pages : List (PutEnd Copied)) (puts : List (PutEnd Entry))
    → put_rings pages ≡ page_rings → side_rings puts ≡ entry_rings → (begun : List IntakeValue) (drained : List (TakeEnd Entry)) → begun ≡ map (begun_on build) pages
    → drained ≡ map drained_end puts → AreTakeEnds page_rings entry_rings (intakes workers begun) drained
ends_emptied page_rings entry_rings workers idle sides are none build pages puts page_puts side_puts begun drained begins drains =
    let ring : IntakeValue → RingId = λ i. i.end.ring in
    let taken : TakeEnd Entry → RingId = λ e. e.ring in
    let alone : intakes workers begun ≡ begun = ap (λ (ws : List WorkerValue). intakes ws begun) none in
    let pages_are : take_rings (intakes workers begun) ≡ page_rings = ap take_rings (alone ∙ begins) ∙ mapped (begun_on build) ring pages ∙ page_puts in
    let sides_are : taken_rings drained ≡ entry_rings = ap taken_rings drains ∙ mapped drained_end taken puts ∙ side_puts in
    record {
      intakes_are = pages_are;
      sides_are = sides_are;
      sixteen = as_long ring ring (intakes workers begun) (intakes workers idle) (pages_are ∙ sym are.intakes_are) ∙ are.sixteen;
      eight = as_long taken taken drained sides (sides_are ∙ sym are.sides_are) ∙ are.eight;
    }

-- an intake that begins a build was sent nothing of it
pub all_fresh : (builds : ℕ) (pages : List (PutEnd Copied)) → AreOfBuilds builds (all_sent pages) → All (IsFresh (builds + 1)) (map (begun_on (builds + 1)) pages)
all_fresh builds pages before = all_from (IsFresh (builds + 1)) (map (begun_on (builds + 1)) pages) each where
  each : (k : ℕ) (intake : IntakeValue) → slice_get (map (begun_on (builds + 1)) pages) k ≡ Some intake → IsFresh (builds + 1) intake
  each k intake at =
      let end = at_map (begun_on (builds + 1)) pages k intake at in
      let old = all_at (λ (sent : List Copied). All (λ copied. copied.build ≤ builds) sent) (all_sent pages) k end.0.sent before
      (map_at (λ (e : PutEnd Copied). e.sent) pages k end.0 end.1) in
      subst (IsFresh (builds + 1)) end.2 (record {
        begins = refl;
        earlier = All-weaker (λ (copied : Copied). copied.build ≤ builds) (λ (copied : Copied). copied.build < builds + 1) (λ copied le. omega (arith, le)) end.0.sent old;
      })

-- a worker that begins has taken nothing
pub all_first :
    (builds : ℕ) (pages : List (PutEnd Copied)) (workers : List WorkerValue) (idle : List IntakeValue) → intakes workers idle ≡ map (begun_on (builds + 1)) pages
    → All (λ worker. worker_state worker.intake ≡ record { taken = 0; sealed = 0 }) workers
all_first builds pages workers idle are = all_from (λ (worker : WorkerValue). worker_state worker.intake ≡ record { taken = 0; sealed = 0 }) workers each where
  each : (k : ℕ) (worker : WorkerValue) → slice_get workers k ≡ Some worker → worker_state worker.intake ≡ record { taken = 0; sealed = 0 }
  each k worker at =
      let end = at_map (begun_on (builds + 1)) pages k worker.intake
      (ap (λ (is : List IntakeValue). slice_get is k) (sym are) ∙ intake_at workers idle k worker at) in
      ap worker_state (sym end.2)

-- no run of a maker that has made nothing is open
none_begun : (specs : List KeySpecValue) → All (λ (begun : List Pair). begun ≡ []) (map (λ _. []) specs)
none_begun specs = all_from (λ (begun : List Pair). begun ≡ []) (map (λ _. []) specs) each where
  each : (k : ℕ) (begun : List Pair) → slice_get (map (λ _. []) specs) k ≡ Some begun → begun ≡ []
  each k begun at = sym (at_map (λ (s : KeySpecValue). []) specs k begun at).2

is_new : (maker : MakerValue) (kinds : List Kind) (specs : List KeySpecValue) → maker ≡ fresh_maker kinds specs → IsNewMaker specs maker
is_new maker kinds specs is = rw is (record { specs_are = refl; none = none_begun specs })

-- spools that are left were given to no build
not_given : (given : Bool) (spools : List SpoolValue) → 1 ≤ length (spools_state given spools).left → given ≡ false
not_given true spools some = absurd (omega (arith, some))
not_given false spools some = refl

-- there is one, for one worker and one index at least
pub some_spools : (workers indexes : ℕ) → 1 ≤ workers → 1 ≤ indexes → 1 ≤ workers * indexes
some_spools workers indexes some one = grind arith

-- where a plan finds the spools that it wants, none was given to a build
pub left_for :
    (building : BuildingValue) (plan : Plan) → length (spools_state building.given (all_spools building.workers building.spools)).left ≡ plan.workers * length plan.specs.items
    → 1 ≤ plan.workers → 1 ≤ length plan.specs.items → building.given ≡ false
left_for building plan many some one =
    let all = some_spools plan.workers (length plan.specs.items) some one in
    not_given building.given (all_spools building.workers building.spools) (omega (arith, many, all))

-- so many are at home
pub left_many :
    (given : Bool) (workers : List WorkerValue) (spools : List SpoolValue) → given ≡ false → workers ≡ []
    → length (spools_state given (all_spools workers spools)).left ≡ length spools
left_many given workers spools is none =
    rw (is, none) (length-map (spools ++ []) (λ (s : SpoolValue). holds_nothing s.runs s.open_run) ∙ ap length (append-nil spools))

-- there is room for as many as are left
pub as_many_fit : (asked left many room : ℕ) → asked ≡ left → left ≡ many → asked ≤ room → many ≤ room
as_many_fit asked left many room is same fits = omega (arith, is, same, fits)

-- the spools that are left are empty
pub left_empty :
    (building : BuildingValue) (spools : List SpoolValue) → spools ≡ building.spools → building.given ≡ false → building.workers ≡ []
    → list_all (λ is_empty. is_empty) (spools_state building.given (all_spools building.workers building.spools)).left ≡ true
    → All (λ spool. (spool.runs ≡ []) × (spool.open_run ≡ [])) spools
left_empty building spools same given none empty =
    let left : List SpoolValue → Bool → Bool = λ all is. list_all (λ is_empty. is_empty) (spools_state is all).left in
    let all : left building.spools false ≡ true =
    ap (left building.spools) (sym given) ∙ ap (λ (ss : List SpoolValue). left ss building.given) (sym (at_home building.workers building.spools none)) ∙ empty in
    subst (All (λ spool. (spool.runs ≡ []) × (spool.open_run ≡ []))) (sym same)
    (all_from (λ (spool : SpoolValue). (spool.runs ≡ []) × (spool.open_run ≡ [])) building.spools (each_empty building.spools all))

-- makers that have made nothing have no run open
pub fresh_makers :
    {X : Type 0} (maker : X → MakerValue) (kinds : List Kind) (specs : List KeySpecValue) (all : List X)
    → All (λ it. maker it ≡ fresh_maker kinds specs) all → All (λ it. IsNewMaker specs (maker it)) all
fresh_makers maker kinds specs all are =
    All-weaker (λ it. maker it ≡ fresh_maker kinds specs) (λ it. IsNewMaker specs (maker it)) (λ it. is_new (maker it) kinds specs) all are

-- the workers have the makers that were made for them
pub their_makers :
    {X : Type 0} (maker : X → MakerValue) (m : MakerValue) (all : List X) (workers : List WorkerValue) → map (λ worker. worker.maker) workers ≡ map maker all
    → All (λ it. maker it ≡ m) all → All (λ worker. worker.maker ≡ m) workers
their_makers maker m all workers same are = all_from (λ (worker : WorkerValue). worker.maker ≡ m) workers each where
  each : (k : ℕ) (worker : WorkerValue) → slice_get workers k ≡ Some worker → worker.maker ≡ m
  each k worker at =
      let it = at_map maker all k worker.maker
      (ap (λ (ms : List MakerValue). slice_get ms k) (sym same) ∙ map_at (λ (w : WorkerValue). w.maker) workers k worker at) in
      sym it.2 ∙ all_at (λ x. maker x ≡ m) all k it.0 are it.1
