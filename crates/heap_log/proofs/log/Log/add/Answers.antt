use Rattle.std.proofs.Common.{◌≡◌, ◌∙◌, refl, sym, ap, arith, subst, List, [], ◌∷◌, ◌++◌, length}
use Rattle.heap_log.specs.LogValue.{LogValue}
use Rattle.heap_log.specs.declared.record.LogRec.{LogRec}
use Rattle.heap_log.specs.Growing.{Added}
use Rattle.heap_log.specs.Heads.{AreHeadsAfter, with_txn, with_rid}
use Rattle.heap_log.specs.Links.{IsLinkOf}
use Rattle.heap_log.specs.Places.{HasPlaceFor}
use Rattle.heap_log.specs.Standing.{NamesEarlier}
use Rattle.heap_log.proofs.Growing.{names_more}
use Rattle.heap_log.proofs.Linked.{links_grow}
use Rattle.heap_log.proofs.Placed.{change_numbered, change_placed, change_by_placed}
use Rattle.heap_log.proofs.log.Log.add.Goals as goal

-- what one record more makes of the records, it makes of the log that contracts see
shown : (log seen new : List LogRec) (added : LogRec) → log ≡ seen → new ≡ log ++ added ∷ [] → Added log added (log ++ added ∷ []) → Added seen added new
shown log seen new added same is adds = rw (← same, is) adds

-- a record that names an earlier one of the log that contracts see, names one of the records
earlier : (log seen : List LogRec) (added : LogRec) → log ≡ seen → NamesEarlier (length seen) added → NamesEarlier (length log) added
earlier log seen added same names = rw same names

-- the places that contracts see are those of the fields
placed_inside : (added : LogRec) (inside seen : LogValue) → inside ≡ seen → HasPlaceFor added seen.places seen.txns
    → HasPlaceFor added inside.places inside.txns
placed_inside added inside seen same place = subst (λ (v : LogValue). HasPlaceFor added v.places v.txns) (sym same) place

pub set_rid_head-requires-clause-place : goal.set_rid_head-requires-clause-place
set_rid_head-requires-clause-place c =
    let same = ap (λ (v : LogValue). v.records) c.self.view_is in
    change_placed c.self.inside.records.items c.self.inside.rids _ c.args.added c.heads_after-heads.result c.self.invariant.rids
    (placed_inside c.args.added _ c.args.self.now c.self.view_is c.requires.place) (rw same c.heads_after-heads.ensures.rid)

pub set_txn_head-requires : goal.set_txn_head-requires
set_txn_head-requires c =
    let same = ap (λ (v : LogValue). v.records) c.self.view_is in
    change_by_placed c.self.inside.records.items c.self.inside.txns.items _ c.args.added c.heads_after-heads.result c.self.invariant.txns
    (placed_inside c.args.added _ c.args.self.now c.self.view_is c.requires.place) (rw same c.heads_after-heads.ensures.by)

pub set_rid_head-requires-clause-numbered : goal.set_rid_head-requires-clause-numbered
set_rid_head-requires-clause-numbered c =
    change_numbered c.args.self.now.records (c.args.self.now.records ++ c.args.added ∷ []) c.heads_after-heads.result c.heads_after-heads.ensures.heads

pub invariant_of-self : goal.invariant_of-self
invariant_of-self c =
    let log : List LogRec = c.self.inside.records.items in
    let same : log ≡ c.args.self.now.records = ap (λ (v : LogValue). v.records) c.self.view_is in
    let link : IsLinkOf log c.args.added c.link_of-link.result = rw same c.link_of-link.ensures in
    let names = earlier log _ c.args.added same c.requires.earlier in
    let heads : AreHeadsAfter log (log ++ c.args.added ∷ []) c.heads_after-heads.result = rw same c.heads_after-heads.ensures.heads in
    record {
      links = rw (c.push_reserved.ensures.items, c.push_reserved-2.ensures.items)
          (links_grow _ _ _ _ _ c.self.invariant.links c.mark_undone.ensures.marked names link);
      txns = λ txn. c.set_txn_head.ensures.set txn ∙ ap (with_txn c.heads_after-heads.result txn) (c.self.invariant.txns txn)
          ∙ sym (rw c.push_reserved.ensures.items (heads.txns txn));
      rids = λ rid. c.set_rid_head.ensures.set rid ∙ ap (with_rid c.heads_after-heads.result rid) (c.self.invariant.rids rid)
          ∙ sym (rw c.push_reserved.ensures.items (heads.rids rid));
      records_room = omega arith;
      links_room = omega arith;
    }

pub returns-clause-added : goal.returns-clause-added
returns-clause-added c =
    let log : List LogRec = c.self.inside.records.items in
    let same : log ≡ c.args.self.now.records = ap (λ (v : LogValue). v.records) c.self.view_is in
    let names = earlier log _ c.args.added same c.requires.earlier in
    shown log _ _ c.args.added same c.push_reserved.ensures.items
    (record { records = refl; earlier = names_more log c.args.added c.self.invariant.links.earlier names })
