-- Links: how they lead back, and how they go on with the log.
use Rattle.std.proofs.Common.{◌≡◌, ℕ, zero, suc, ◌+◌, ◌-◌, ◌<◌, ◌≤◌, Bool, true, false, List, [], ◌∷◌, ◌++◌, length, get_or, Option, Some, None, refl, sym, ap}
use Rattle.std.proofs.Common.{◌∙◌, subst, arith, add-one, length-append, inl, inr}
use Rattle.std.specs.Prelude.{◌&&◌, ◌||◌, not, IsSome}
use Rattle.std.specs.Option.{unwrap_or}
use Rattle.std.proofs.lemmas.Bool.{cases_eq, cases_lt, and_right, and_from, and_parts, not_from_true, not_from_false, false≢true}
use Rattle.std.proofs.lemmas.List.{get_or_append_left}
use Rattle.std.proofs.Math.Seq.{get_or-append_seam}
use Rattle.keybytes.specs.declared.cell.Cell.{Cell}
use Rattle.keybytes.specs.declared.rid.Rid.{Rid}
use Rattle.heap_log.specs.declared.record.LogRec.{LogRec}
use Rattle.heap_log.specs.declared.record.LogRec.TheVariants.{Write}
use Rattle.heap_log.specs.declared.link.Link.{Link}
use Rattle.heap_log.specs.declared.chain.Chain.{Chain}
use Rattle.heap_log.specs.declared.chain.Chain.TheVariants.{OfTxn, AtRid}
use Rattle.heap_log.specs.KeptNumbers.{number_in}
use Rattle.heap_log.specs.Links.{AreLinks, AreMarked, IsLinkOf, LeadsTo, on_chain, link_before, stands_by}
use Rattle.heap_log.specs.Standing.{record_at, undone, last_below, last_of, is_write_of, is_write_at, is_undo_of, place_of, txn_of, rid_of, newest_standing}
use Rattle.heap_log.specs.Standing.{newest_at, NamesEarlier}
use Rattle.heap_log.proofs.Growing.{undone-past, names_more}
use Rattle.heap_log.proofs.Added.{undone-later, last_of-kept}
use Rattle.heap_log.proofs.Last.{IsLast, last_below_some, last_below_none, last_below_is, last_below_none_is}
use Rattle.heap_log.proofs.Records.{record_at-kept, record_at-added, undone-added, write_within, txn_of-write, rid_of-write, writes_there, writes_by}
use Rattle.heap_log.proofs.Records.{some_place-by, some_place-there}

-- the newest standing record is where a link of the next one leads
pub newest_leads : (passes : Option LogRec → Bool) (log : List LogRec) (n : ℕ) (place : Option ℕ) → place ≡ last_below (stands_by passes log) n
    → LeadsTo passes log n place
newest_leads passes log n None e = record {
  there = λ k f. absurd (cc);
  passed = λ k a b. last_below_none (stands_by passes log) n (sym e) k b;
}
newest_leads passes log n (Some m) e =
    let last : IsLast (stands_by passes log) n m = last_below_some (stands_by passes log) n m (sym e) in
    let here : passes (record_at log m) ≡ true = (and_parts (passes (record_at log m)) (not (undone log m)) last.passes).0 in
    record {
      there = λ k f. let is : m ≡ k = (cc) in (omega (arith, last.below), ap (λ j. passes (record_at log j)) (sym is) ∙ here);
      passed = λ k a b. last.after k (omega (arith, a)) b;
    }

pub walk_found : (passes : Option LogRec → Bool) (log : List LogRec) (n m : ℕ) → LeadsTo passes log n (Some m) → undone log m ≡ false
    → last_below (stands_by passes log) n ≡ Some m
walk_found passes log n m leads stands =
    let at : (m < n) × (passes (record_at log m) ≡ true) = leads.there m refl in
    last_below_is (stands_by passes log) n m (record {
      below = at.0;
      passes = and_from (passes (record_at log m)) (not (undone log m)) at.1 (not_from_false (undone log m) stands);
      after = λ k a b. leads.passed k (omega arith) b;
    })

pub walk_ends : (passes : Option LogRec → Bool) (log : List LogRec) (n : ℕ) → LeadsTo passes log n None → last_below (stands_by passes log) n ≡ None
walk_ends passes log n leads = last_below_none_is (stands_by passes log) n (λ k b. leads.passed k (omega arith) b)

pub walk_on : (passes : Option LogRec → Bool) (log : List LogRec) (n m : ℕ) (next : Option ℕ) → LeadsTo passes log n (Some m) → undone log m ≡ true
    → LeadsTo passes log m next → LeadsTo passes log n next
walk_on passes log n m next leads gone on = record {
  there = λ k e. let at : (k < m) × (passes (record_at log k) ≡ true) = on.there k e in (omega (arith, at.0, (leads.there m refl).0), at.1);
  passed = λ k a b. elim (cases_lt k m) [
    | inl l ↦ on.passed k a l
    | inr ge ↦ elim (cases_eq k m) [
      | inl is ↦ and_right (passes (record_at log k)) (not (undone log k)) (not_from_true (undone log k) (ap (undone log) is ∙ gone))
      | inr ne ↦ leads.passed k (omega arith) b
    ]
  ];
}

-- a write on the chain is one, and has the same chain
pub on_chain-place : (chain : Chain) (write rec : Option LogRec) → on_chain chain write rec ≡ true → IsSome (place_of rec)
on_chain-place OfTxn write rec e = some_place-by (txn_of write) rec e
on_chain-place AtRid write rec e = some_place-there (rid_of write) rec e

pub on_chain-same : (chain : Chain) (write rec : Option LogRec) → on_chain chain write rec ≡ true → on_chain chain rec ≡ on_chain chain write
on_chain-same OfTxn write rec e = ap is_write_of (txn_of-write (txn_of write) rec e)
on_chain-same AtRid write rec e = ap is_write_at (rid_of-write (rid_of write) rec e)

pub on_chain-self : (chain : Chain) (rec : Option LogRec) → IsSome (place_of rec) → on_chain chain rec rec ≡ true
on_chain-self OfTxn rec h = writes_by rec h
on_chain-self AtRid rec h = writes_there rec h

-- what the link of a write says
pub record Linked (log : List LogRec) (links : List Link) (n : ℕ) : Type 0 where
  pub low : 0 < n
  pub high : n ≤ length log
  pub inside : n - 1 < length links
  pub flag : (link : Link) → link ≡ get_or links (n - 1) link → link.undone ≡ undone log n
  pub back : (link : Link) (chain : Chain) → link ≡ get_or links (n - 1) link → LeadsTo (on_chain chain (record_at log n)) log n (link_before chain link)
  pub previous : (link : Link) → link ≡ get_or links (n - 1) link → number_in link.previous ≡ last_of log (txn_of (record_at log n)) n

pub linked : (log : List LogRec) (links : List Link) → AreLinks log links → (n : ℕ) → IsSome (place_of (record_at log n)) → Linked log links n
linked log links h zero some = absurd (false≢true some)
linked log links h (suc i) some =
    let within : (0 < suc i) × (suc i < length log + 1) =
    write_within log (suc i) (is_write_at (rid_of (record_at log (suc i)))) refl (writes_there (record_at log (suc i)) some) in
    let in' : i < length log = omega (arith, within.1) in
    let less : suc i - 1 ≡ i = omega arith in
    record {
      low = within.0;
      high = omega (arith, within.1);
      inside = omega (arith, h.lengths, in');
      flag = λ link is. ap (λ x. x.undone) (rw less at is) ∙ rw add-one at (h.flags i link in');
      back = λ link chain is.
          let P : Link → Type 0 = λ x. LeadsTo (on_chain chain (record_at log (suc i))) log (suc i) (link_before chain x) in
          let here : P (get_or links i link) = rw add-one at (h.back i link chain in' (rw add-one some)) in
          subst P (sym (rw less at is)) here;
      previous = λ link is. ap (λ x. number_in x.previous) (rw less at is) ∙ rw add-one at (h.previous i link in' (rw add-one some));
    }

-- a walk along the chain of a write has come to the write m
pub walk_at : (log : List LogRec) (links : List Link) → AreLinks log links → (chain : Chain) (write : Option LogRec) (n m : ℕ)
    → LeadsTo (on_chain chain write) log n (Some m) → Linked log links m
walk_at log links h chain write n m leads = linked log links h m (on_chain-place chain write (record_at log m) (leads.there m refl).1)

pub walk_hits : (log : List LogRec) (links : List Link) → AreLinks log links → (chain : Chain) (write : Option LogRec) (n m : ℕ)
    → LeadsTo (on_chain chain write) log n (Some m) → (link : Link) → link ≡ get_or links (m - 1) link → link.undone ≡ false
    → last_below (stands_by (on_chain chain write) log) n ≡ Some m
walk_hits log links h chain write n m leads link is stands =
    walk_found (on_chain chain write) log n m leads (sym ((walk_at log links h chain write n m leads).flag link is) ∙ stands)

pub walk_goes : (log : List LogRec) (links : List Link) → AreLinks log links → (chain : Chain) (write : Option LogRec) (n m : ℕ)
    → LeadsTo (on_chain chain write) log n (Some m) → (link : Link) → link ≡ get_or links (m - 1) link → link.undone ≡ true
    → LeadsTo (on_chain chain write) log n (link_before chain link)
walk_goes log links h chain write n m leads link is gone =
    let at : Linked log links m = walk_at log links h chain write n m leads in
    let same : on_chain chain (record_at log m) ≡ on_chain chain write = on_chain-same chain write (record_at log m) (leads.there m refl).1 in
    let P : (Option LogRec → Bool) → Type 0 = λ passes. LeadsTo passes log m (link_before chain link) in
    walk_on (on_chain chain write) log n m (link_before chain link) leads (sym (at.flag link is) ∙ gone) (subst P same (at.back link chain is))

smaller : (passes : Option LogRec → Bool) (log : List LogRec) (m : ℕ) (place : Option ℕ) → 0 < m → LeadsTo passes log m place → unwrap_or place 0 < m
smaller passes log m None low leads = low
smaller passes log m (Some k) low leads = (leads.there k refl).0

pub walk_smaller : (log : List LogRec) (links : List Link) → AreLinks log links → (chain : Chain) (write : Option LogRec) (n m : ℕ)
    → LeadsTo (on_chain chain write) log n (Some m) → (link : Link) → link ≡ get_or links (m - 1) link → unwrap_or (link_before chain link) 0 < m
walk_smaller log links h chain write n m leads link is =
    let at : Linked log links m = walk_at log links h chain write n m leads in
    smaller (on_chain chain (record_at log m)) log m (link_before chain link) at.low (at.back link chain is)

-- the links of a log with one record more
still_none : (a b u : Bool) → (a && not b) ≡ false → (a && not (b || u)) ≡ false
still_none false b u e = refl
still_none true true u e = refl
still_none true false u e = absurd (false≢true (sym e))

leads_grow : (passes : Option LogRec → Bool) (log : List LogRec) (rec : LogRec) (n : ℕ) (place : Option ℕ) → n ≤ length log + 1 → LeadsTo passes log n place
    → LeadsTo passes (log ++ rec ∷ []) n place
leads_grow passes log rec n place l leads = record {
  there = λ k e. let at : (k < n) × (passes (record_at log k) ≡ true) = leads.there k e in
      (at.0, ap passes (record_at-kept log rec k (omega (arith, at.0))) ∙ at.1);
  passed = λ k a b.
      rw (record_at-kept log rec k (omega (arith, b)), undone-added log rec k)
      (still_none (passes (record_at log k)) (undone log k) (is_undo_of k rec) (leads.passed k a b));
}

before_kept : (chain : Chain) (old new : Link) → new.of_txn ≡ old.of_txn → new.at_rid ≡ old.at_rid → link_before chain new ≡ link_before chain old
before_kept OfTxn old new e f = ap number_in e
before_kept AtRid old new e f = ap number_in f

pub links_grow : (log : List LogRec) (links marked : List Link) (rec : LogRec) (link : Link) → AreLinks log links → AreMarked rec links marked
    → NamesEarlier (length log) rec → IsLinkOf log rec link → AreLinks (log ++ rec ∷ []) (marked ++ link ∷ [])
links_grow log links marked rec link h m names is_link = record {
  lengths = omega (arith, length-append log (rec ∷ []), length-append marked (link ∷ []), m.lengths, h.lengths);
  flags = λ i d l. elim (cases_lt i (length log)) [
    | inl within ↦
        let in' : i < length links = omega (arith, h.lengths) in
        ap (λ x. x.undone) (get_or_append_left marked (link ∷ []) d i (omega (arith, m.lengths))) ∙ m.flags i d in'
        ∙ ap (λ b. b || is_undo_of (i + 1) rec) (h.flags i d within) ∙ sym (undone-added log rec (i + 1))
    | inr past ↦
        let i_is : i ≡ length marked = omega (arith, length-append log (rec ∷ []), m.lengths, h.lengths) in
        let none : undone (log ++ rec ∷ []) (i + 1) ≡ false =
        undone-later log rec (i + 1) (undone-past log h.earlier (i + 1) (omega arith)) names (omega arith) in
        rw i_is (ap (λ x. x.undone) (get_or-append_seam marked link [] d) ∙ is_link.stands) ∙ sym none
  ];
  back = λ i d chain l some. elim (cases_lt i (length log)) [
    | inl within ↦
        let in' : i < length links = omega (arith, h.lengths) in
        let app : get_or (marked ++ link ∷ []) i d ≡ get_or marked i d = get_or_append_left marked (link ∷ []) d i (omega (arith, m.lengths)) in
        let kept : record_at (log ++ rec ∷ []) (i + 1) ≡ record_at log (i + 1) = record_at-kept log rec (i + 1) (omega arith) in
        let some' : IsSome (place_of (record_at log (i + 1))) = rw kept at some in
        let same : link_before chain (get_or (marked ++ link ∷ []) i d) ≡ link_before chain (get_or links i d) =
        before_kept chain (get_or links i d) (get_or (marked ++ link ∷ []) i d) (ap (λ x. x.of_txn) app ∙ m.of_txn i d in')
        (ap (λ x. x.at_rid) app ∙ m.at_rid i d in') in
        rw (kept, same) (leads_grow (on_chain chain (record_at log (i + 1))) log rec (i + 1) (link_before chain (get_or links i d)) (omega arith)
        (h.back i d chain within some'))
    | inr past ↦
        let i_is : i ≡ length log = omega (arith, length-append log (rec ∷ [])) in
        let m_is : i ≡ length marked = omega (arith, i_is, m.lengths, h.lengths) in
        let here : get_or (marked ++ link ∷ []) i d ≡ link = rw m_is (get_or-append_seam marked link [] d) in
        let added : record_at (log ++ rec ∷ []) (i + 1) ≡ Some rec = rw i_is (record_at-added log rec) in
        let some' : IsSome (place_of (Some rec)) = rw added at some in
        rw (here, added, i_is) (leads_grow (on_chain chain (Some rec)) log rec (length log + 1) (link_before chain link) (omega arith)
        (is_link.back chain some'))
  ];
  previous = λ i d l some. elim (cases_lt i (length log)) [
    | inl within ↦
        let in' : i < length links = omega (arith, h.lengths) in
        let kept : record_at (log ++ rec ∷ []) (i + 1) ≡ record_at log (i + 1) = record_at-kept log rec (i + 1) (omega arith) in
        let some' : IsSome (place_of (record_at log (i + 1))) = rw kept at some in
        ap (λ x. number_in x.previous) (get_or_append_left marked (link ∷ []) d i (omega (arith, m.lengths)))
        ∙ ap number_in (m.previous i d in') ∙ h.previous i d within some'
        ∙ sym (ap (λ r. last_of (log ++ rec ∷ []) (txn_of r) (i + 1)) kept ∙ last_of-kept log rec (txn_of (record_at log (i + 1))) (i + 1) (omega arith))
    | inr past ↦
        let i_is : i ≡ length log = omega (arith, length-append log (rec ∷ [])) in
        let m_is : i ≡ length marked = omega (arith, i_is, m.lengths, h.lengths) in
        let here : get_or (marked ++ link ∷ []) i d ≡ link = rw m_is (get_or-append_seam marked link [] d) in
        let added : record_at (log ++ rec ∷ []) (i + 1) ≡ Some rec = rw i_is (record_at-added log rec) in
        let some' : IsSome (place_of (Some rec)) = rw added at some in
        rw (here, added, i_is) (is_link.previous some' ∙ sym (last_of-kept log rec (txn_of (Some rec)) (length log + 1) (omega arith)))
  ];
  earlier = names_more log rec h.earlier names;
}

-- the link of a write that comes next
pub link_of-write : (log : List LogRec) (txn : ℕ) (rid : Rid) (row : Option (List Cell)) (link : Link) → link.undone ≡ false
    → number_in link.of_txn ≡ newest_standing log txn → number_in link.at_rid ≡ newest_at log rid → number_in link.previous ≡ last_of log txn (length log + 1)
    → IsLinkOf log (Write txn rid row) link
link_of-write log txn rid row link stands of at previous = record { stands = stands; back = leads; previous = λ some. previous }
  where
    leads : (chain : Chain) → IsSome (place_of (Some (Write txn rid row)))
        → LeadsTo (on_chain chain (Some (Write txn rid row))) log (length log + 1) (link_before chain link)
    leads OfTxn some = newest_leads (is_write_of txn) log (length log + 1) (number_in link.of_txn) of
    leads AtRid some = newest_leads (is_write_at rid) log (length log + 1) (number_in link.at_rid) at
