use Rattle.std.proofs.Common.{rules, ◌≡◌, ◌++◌, ◌∷◌, [], All, List, ℕ, map, drop, vec_len, sym, ap, ◌∙◌, subst}
use Rattle.std.proofs.lemmas.List.Elements.{All-head, All-tail}
use Rattle.keybytes.specs.declared.pair.Pair.{Pair}
use Rattle.run_merge.specs.Merging.{all_runs}
use Rattle.run_spool.specs.Spools.{AreSorted, all_pairs}
use Rattle.bulk_load.specs.Each.{AreEachOnce, in_order}
use Rattle.bulk_load.specs.Streams.{StreamValue, stream_at}
use Rattle.bulk_load.proofs.Dealt.{behind_head, first_taken, head_at, moved, moved_on, one_spool}
use Rattle.bulk_load.proofs.dealing.deal.Goals as goal

pub new-requires-clause-sorted : goal.new-requires-clause-sorted
new-requires-clause-sorted g c =
    let spools = c.loop-rings.spools.items in
    let own = c.remove.result in
    let rest = c.remove.new.self.items in
    let first : spools ≡ own ∷ rest = first_taken spools own rest (search rules) c.remove.ensures.value c.remove.ensures.items in
    let alone : c.push_reserved.new.self.items ≡ own ∷ [] = c.push_reserved.ensures.items ∙ ap (λ l. l ++ own ∷ []) c.in-Some.own.new.3 in
    let runs : all_runs (map g.S.Spool.runs c.push_reserved.new.self.items) ≡ g.S.Spool.runs own =
    ap (λ l. all_runs (map g.S.Spool.runs l)) alone ∙ one_spool (g.S.Spool.runs own) in
    subst AreSorted (sym runs)
    (All-head AreSorted (g.S.Spool.runs own) (map g.S.Spool.runs rest) (subst (λ l. All AreSorted (map g.S.Spool.runs l)) first c.loop-rings.invariant.sorted))

pub new-requires-clause-once : goal.new-requires-clause-once
new-requires-clause-once g c =
    let spools = c.loop-rings.spools.items in
    let own = c.remove.result in
    let rest = c.remove.new.self.items in
    let first : spools ≡ own ∷ rest = first_taken spools own rest (search rules) c.remove.ensures.value c.remove.ensures.items in
    let alone : c.push_reserved.new.self.items ≡ own ∷ [] = c.push_reserved.ensures.items ∙ ap (λ l. l ++ own ∷ []) c.in-Some.own.new.3 in
    let runs : all_runs (map g.S.Spool.runs c.push_reserved.new.self.items) ≡ g.S.Spool.runs own =
    ap (λ l. all_runs (map g.S.Spool.runs l)) alone ∙ one_spool (g.S.Spool.runs own) in
    let P : List (List Pair) → Type 0 = λ r. AreEachOnce (all_pairs r) in
    subst P (sym runs)
    (All-head P (g.S.Spool.runs own) (map g.S.Spool.runs rest) (subst (λ l. All P (map g.S.Spool.runs l)) first c.loop-rings.invariant.once))

pub new-requires-clause-stream : goal.new-requires-clause-stream
new-requires-clause-stream g c =
    let inv = c.loop-rings.invariant in
    let spools = c.loop-rings.spools.items in
    let own = c.remove.result in
    let rest = c.remove.new.self.items in
    let first : spools ≡ own ∷ rest = first_taken spools own rest (search rules) c.remove.ensures.value c.remove.ensures.items in
    let alone : c.push_reserved.new.self.items ≡ own ∷ [] = c.push_reserved.ensures.items ∙ ap (λ l. l ++ own ∷ []) c.in-Some.own.new.3 in
    let runs : all_runs (map g.S.Spool.runs c.push_reserved.new.self.items) ≡ g.S.Spool.runs own =
    ap (λ l. all_runs (map g.S.Spool.runs l)) alone ∙ one_spool (g.S.Spool.runs own) in
    let left = inv.names ∙ ap (λ l. map in_order (map g.S.Spool.runs l)) first in
    ap in_order runs ∙ sym (head_at g.T.Loading.streams (vec_len c.loop-rings.seats) [] (in_order (g.S.Spool.runs own)) (map in_order (map g.S.Spool.runs rest)) left)
    ∙ ap (stream_at g.T.Loading.streams) (sym c.len-number.ensures)

pub loop-rings-preserved : goal.loop-rings-preserved
loop-rings-preserved g c =
    let inv = c.loop-rings.invariant in
    let streams = g.T.Loading.streams in
    let spools = c.loop-rings.spools.items in
    let seats = c.loop-rings.seats.items in
    let own = c.remove.result in
    let rest = c.remove.new.self.items in
    let number : ℕ = vec_len c.loop-rings.seats in
    let first : spools ≡ own ∷ rest = first_taken spools own rest (search rules) c.remove.ensures.value c.remove.ensures.items in
    let alone : c.push_reserved.new.self.items ≡ own ∷ [] = c.push_reserved.ensures.items ∙ ap (λ l. l ++ own ∷ []) c.in-Some.own.new.3 in
    let its : List Pair = in_order (g.S.Spool.runs own) in
    let others : List (List Pair) = map in_order (map g.S.Spool.runs rest) in
    let left = inv.names ∙ ap (λ l. map in_order (map g.S.Spool.runs l)) first in
    let P : List (List Pair) → Type 0 = λ r. AreEachOnce (all_pairs r) in
    let stream : c.new-in-loop-rings.result.pairs ≡ its =
    c.new-in-loop-rings.ensures ∙ ap (stream_at streams) c.len-number.ensures ∙ head_at streams number [] its others left in
    record {
      names = ap (λ (n : ℕ). drop n streams) c.push_reserved-in-loop-rings.ensures.len ∙ behind_head streams number its others left;
      streams = ap (λ l. map (λ (s : StreamValue). s.pairs) l ++ others) c.push_reserved-in-loop-rings-2.ensures.items
          ∙ moved (λ (s : StreamValue). s.pairs) c.loop-rings.streams.items c.new-in-loop-rings.result its others streams
          (ap (λ l. map (λ (s : StreamValue). s.pairs) c.loop-rings.streams.items ++ map in_order (map g.S.Spool.runs l)) (sym first) ∙ inv.streams) stream;
      seats = ap (λ l. l ++ map (λ spool. g.S.Spool.stake spool ∷ []) rest) c.push_reserved-in-loop-rings.ensures.items
          ∙ moved_on seats c.new.result (g.S.Spool.stake own ∷ []) (map (λ spool. g.S.Spool.stake spool ∷ []) rest) (map (λ spool. g.S.Spool.stake spool ∷ []) c.args.spools.items)
          (ap (λ l. seats ++ map (λ spool. g.S.Spool.stake spool ∷ []) l) (sym first) ∙ inv.seats) (c.new.ensures ∙ ap (map g.S.Spool.stake) alone);
      sorted = All-tail AreSorted (g.S.Spool.runs own) (map g.S.Spool.runs rest) (subst (λ l. All AreSorted (map g.S.Spool.runs l)) first inv.sorted);
      once = All-tail P (g.S.Spool.runs own) (map g.S.Spool.runs rest) (subst (λ l. All P (map g.S.Spool.runs l)) first inv.once);
      all = search rules;
      same = search rules;
      rings = search rules;
      room = search rules;
    }
