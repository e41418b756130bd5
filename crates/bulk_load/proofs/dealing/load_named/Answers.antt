use Rattle.std.proofs.Common.{rules, ◌≡◌, [], ◌∷◌, All, List, length, map, vec_len, sym, ap, ◌∙◌, subst, arith}
use Rattle.std.specs.Prelude.{IsPermutation}
use Rattle.std.specs.List.{flat_map}
use Rattle.std.proofs.lemmas.List.{length-map}
use Rattle.std.proofs.lemmas.Result.{IfOk-weaker}
use Rattle.btree.specs.TreeValue.{TreeValue}
use Rattle.keybytes.specs.Pairs.{AreOrdered}
use Rattle.keybytes.specs.declared.pair.Pair.{Pair}
use Rattle.run_merge.specs.Merging.{all_runs}
use Rattle.run_spool.specs.Spools.{all_pairs}
use Rattle.bulk_load.specs.Each.{AreEachOnce, in_order}
use Rattle.bulk_load.proofs.Dealt.{are_ordered, each_once, flat_ones, still_once, whole_moved}
use Rattle.bulk_load.proofs.dealing.load_named.Goals as goal

pub deal-seats-requires-clause-once : goal.deal-seats-requires-clause-once
deal-seats-requires-clause-once g c = each_once (map g.S.Spool.runs c.args.spools.items) c.requires.once

pub load_dealt-requires-clause-room : goal.load_dealt-requires-clause-room
load_dealt-requires-clause-room g c κs within =
    let seats = ap (flat_map (λ l. l)) c.deal-seats.ensures.stakes ∙ flat_ones g.S.Spool.stake c.args.spools.items in
    let many = ap length seats ∙ length-map c.args.spools.items g.S.Spool.stake in
    let rooms = rw c.in-Ok.is at c.new_rooms-made.ensures.room in
    let dealt = ap length c.deal-seats.ensures.stakes ∙ length-map c.args.spools.items (λ spool. g.S.Spool.stake spool ∷ []) in
    let seats_len : vec_len c.deal-seats.result.0 ≡ length c.deal-seats.result.0.items = search rules in
    let spools_len : vec_len c.args.spools ≡ length c.args.spools.items = search rules in
    (omega (arith, dealt, seats_len, spools_len, rooms.2, c.len.ensures), omega (arith, many, spools_len, rooms.3, c.len.ensures))

pub load_dealt-requires-clause-sorted : goal.load_dealt-requires-clause-sorted
load_dealt-requires-clause-sorted g c κs within =
    subst (All AreOrdered) (c.requires.names ∙ sym c.deal-seats.ensures.streams) (are_ordered (map g.S.Spool.runs c.args.spools.items))

pub load_dealt-requires-clause-once : goal.load_dealt-requires-clause-once
load_dealt-requires-clause-once g c κs within =
    subst (λ (l : List (List Pair)). AreEachOnce (all_pairs l)) (c.requires.names ∙ sym c.deal-seats.ensures.streams)
    (still_once (map g.S.Spool.runs c.args.spools.items) c.requires.once)

pub returns-clause-all : goal.returns-clause-all
returns-clause-all g c =
    let spools = map g.S.Spool.runs c.args.spools.items in
    let made : List Pair = all_pairs (all_runs spools) in
    let moved : IsPermutation made (in_order (map in_order spools)) = whole_moved spools c.requires.once in
    let same = ap in_order (c.requires.names ∙ sym c.deal-seats.ensures.streams) in
    IfOk-weaker c.load_dealt.result.0 _ (λ (tree : TreeValue). IsPermutation made tree.pairs)
    (λ tree is. subst (IsPermutation made) (same ∙ sym is) moved) c.load_dealt.ensures.all

pub returns-clause-stakes : goal.returns-clause-stakes
returns-clause-stakes g c =
    c.load_dealt.ensures.stakes ∙ ap (flat_map (λ l. l)) c.deal-seats.ensures.stakes ∙ flat_ones g.S.Spool.stake c.args.spools.items
