use Rattle.std.proofs.Common.{false, refl, ◌≡◌, ◌<◌, ◌+◌, ◌∙◌, ◌++◌, [], ℕ, List, length, get_or, map, sym, ap, subst, arith, None}
use Rattle.std.specs.Option.{option_to_list}
use Rattle.std.proofs.lemmas.Result.{err_from_is_err_and}
use Rattle.keybytes.specs.Keys.{KeySpecValue}
use Rattle.keybytes.specs.Pairs.{pair_with}
use Rattle.keybytes.specs.declared.pair.Pair.{Pair}
use Rattle.heap_table.specs.Pages.{rid_at}
use Rattle.run_maker.proofs.FullSpools.{full_given}
use Rattle.run_maker.specs.Spooling.{Adds}
use Rattle.run_maker.specs.Making.{AddsAt, AddsFirst, AreHeldWithCopy, AreHeldWithRow, Holdings, spec_at}
use Rattle.run_maker.proofs.CopyPairs.{around_slot, has_pairs, of_copy, pairs_before, shows_in, slot_more}
use Rattle.run_maker.proofs.Parts.{first_more}
use Rattle.run_maker.proofs.Spoolings.{adds_more, adds_none}
use Rattle.run_maker.proofs.images.add_image.Goals as goal

pub add_slot-requires-clause-row : goal.add_slot-requires-clause-row
add_slot-requires-clause-row g c = (c.requires.rows.0 c.loop-slot.slot, c.requires.rows.1 c.loop-slot.slot)

pub loop-slot-init : goal.loop-slot-init
loop-slot-init g c = record {
  added = λ i lt made has. adds_none (get_or (map g.S.Spool.runs c.args.spools.now) i []) (get_or c.args.begun.now i []);
  ready = c.requires.ready;
  sorted = λ all. all;
  intact = λ all. all;
  stakes = refl;
  long_spools = refl;
  long_begun = refl;
}

pub returns-in_err-add_slot-clause-full : goal.returns-in_err-add_slot-clause-full
returns-in_err-add_slot-clause-full g c =
    let slot = c.loop-slot.slot in
    let image = c.args.image.now in
    let specs = c.args.specs.now in
    let rows = c.requires.rows in
    let inside : slot < length image.slots = omega (arith, c.loop-slot-test.true, c.loop-slot.auto.slot-end, c.slots-slot-end.ensures) in
    let runs = g.S.Spool.runs in
    let start : Holdings = record { runs = map runs c.args.spools.now; begun = c.args.begun.now } in
    let middle : Holdings = record { runs = map runs c.loop-slot.spools; begun = c.loop-slot.begun } in
    let added : (i : ℕ) → i < length specs → AddsAt i (pairs_before (spec_at specs i) image.page rows.0 slot) start middle =
    λ i lt. c.loop-slot.invariant.added i lt _ (has_pairs specs c.args.schema.now image rows.0 rows.1 c.requires.columns i lt) in
    let long : length c.add_slot.new.spools ≡ length specs =
    omega (arith, c.add_slot.auto.spools, c.loop-slot.invariant.long_spools, c.requires.spools) in
    let p = err_from_is_err_and c.from_residual.result c.from_residual.ensures.1 in
    rw (p.1, p.2) (λ no_page.
    full_given g.S.Spool.is_full runs g.S.Spool.open_run 4096 4096 start.runs middle.runs c.add_slot.new.spools
    (AreHeldWithRow specs (rid_at image.page slot) (rows.0 slot) middle) (AreHeldWithCopy specs image start) (omega arith)
    (λ i less. (added i (omega (arith, less, long))).full_runs)
    (λ i pairs less are.
    let lt : i < length specs = omega (arith, less, long) in
    of_copy specs c.args.schema.now image rows.0 rows.1 c.requires.columns i lt slot inside start middle (added i lt).all pairs are)
    (c.in_err-add_slot.ensures.full no_page (rows.0 slot) (rows.1 slot)))

pub returns-in_err-add_slot-clause-part : goal.returns-in_err-add_slot-clause-part
returns-in_err-add_slot-clause-part g c =
    let slot = c.loop-slot.slot in
    let image = c.args.image.now in
    let runs = g.S.Spool.runs in
    let start : Holdings = record { runs = map runs c.args.spools.now; begun = c.args.begun.now } in
    let middle : Holdings = record { runs = map runs c.loop-slot.spools; begun = c.loop-slot.begun } in
    let end : Holdings = record { runs = map runs c.add_slot.new.spools; begun = c.add_slot.new.begun } in
    let inside : slot < length image.slots = omega (arith, c.loop-slot-test.true, c.loop-slot.auto.slot-end, c.slots-slot-end.ensures) in
    let p = err_from_is_err_and c.from_residual.result c.from_residual.ensures.1 in
    rw (p.1, p.2) (λ memory i lt made has.
    let spec = spec_at c.args.specs.now i in
    let shows = shows_in c.args.schema.now image spec (c.requires.columns i (record { kinds = []; columns = []; unique = false; condition = None }) lt) made has slot in
    let parts = around_slot spec image.page has.rows slot (length image.slots) inside in
    subst (λ (ps : List Pair). AddsFirst i ps start end) (sym (has.pairs_are ∙ parts.1))
    (first_more (pairs_before spec image.page has.rows slot) (option_to_list (pair_with spec (rid_at image.page slot) (has.rows slot))) parts.0 i
    start middle end (c.loop-slot.invariant.added i lt made has) (c.in_err-add_slot.ensures.part memory (has.rows slot) shows i lt)))

pub loop-slot-preserved : goal.loop-slot-preserved
loop-slot-preserved g c =
    let slot = c.loop-slot.slot in
    let image = c.args.image.now in
    let was = c.loop-slot.invariant in
    let none : KeySpecValue = record { kinds = []; columns = []; unique = false; condition = None } in
    record {
      added = λ i lt made has.
          let spec = spec_at c.args.specs.now i in
          let shows = shows_in c.args.schema.now image spec (c.requires.columns i none lt) made has slot in
          let pair = option_to_list (pair_with spec (rid_at image.page slot) (has.rows slot)) in
          let more : pairs_before spec image.page has.rows (slot + 1) ≡ pairs_before spec image.page has.rows slot ++ pair =
          slot_more spec image.page has.rows slot (pair_with spec (rid_at image.page slot) (has.rows slot)) refl in
          rw more
          (adds_more (pairs_before spec image.page has.rows slot) pair
          (get_or (map g.S.Spool.runs c.args.spools.now) i []) (get_or c.args.begun.now i [])
          (get_or (map g.S.Spool.runs c.loop-slot.spools) i []) (get_or c.loop-slot.begun i [])
          (get_or (map g.S.Spool.runs c.add_slot.new.spools) i []) (get_or c.add_slot.new.begun i [])
          (was.added i lt made has) (c.in_ok-add_slot.ensures.added (has.rows slot) shows i lt));
      ready = c.in_ok-add_slot.ensures.ready;
      sorted = λ all. c.add_slot.ensures.sorted (was.sorted all);
      intact = λ all. c.add_slot.ensures.intact (was.intact all);
      stakes = c.add_slot.ensures.stakes ∙ was.stakes;
      long_spools = omega (arith, c.add_slot.auto.spools, was.long_spools);
      long_begun = omega (arith, c.add_slot.auto.begun, was.long_begun);
    }

pub returns-clause-taken : goal.returns-clause-taken
returns-clause-taken g c = λ i lt made has.
    let image = c.args.image.now in
    let spec = spec_at c.args.specs.now i in
    let count : c.loop-slot.slot ≡ length image.slots = omega (arith, c.loop-slot-test.false, c.loop-slot.auto.slot-end, c.slots-slot-end.ensures) in
    let all : pairs_before spec image.page has.rows c.loop-slot.slot ≡ made = ap (pairs_before spec image.page has.rows) count ∙ sym has.pairs_are in
    subst (λ (ps : List Pair). Adds ps (get_or (map g.S.Spool.runs c.args.spools.now) i []) (get_or c.args.begun.now i [])
    (get_or (map g.S.Spool.runs c.loop-slot.spools) i []) (get_or c.loop-slot.begun i []))
    all (c.loop-slot.invariant.added i lt made has)
