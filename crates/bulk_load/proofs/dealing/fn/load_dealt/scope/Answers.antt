use Rattle.std.proofs.Common.{rules, ◌≡◌, ◌++◌, ◌∷◌, List, Option, length, map, vec_len, refl, sym, ap, ◌∙◌, arith, append_assoc, length-append}
use Rattle.std.specs.List.{flat_map}
use Rattle.std.proofs.lemmas.Grind.{flat_map-append}
use Rattle.std.proofs.lemmas.List.{length-map}
use Rattle.std.proofs.lemmas.Result.{IfOk-weaker}
use Rattle.btree.specs.TreeValue.{TreeValue}
use Rattle.spool_ledger.specs.Accounts.{Stake}
use Rattle.bulk_load.specs.Each.{in_order}
use Rattle.bulk_load.specs.Streams.{StreamValue}
use Rattle.bulk_load.proofs.Dealt.{flat_of_map}
use Rattle.bulk_load.proofs.dealing.fn.load_dealt.scope.Given as given
use Rattle.bulk_load.proofs.dealing.fn.load_dealt.scope.Goals as goal

abbrev flat : List (List (Option Stake)) → List (Option Stake)
flat = flat_map (λ l. l)

-- each seat has a thread
module _ (g : given.Over) (c : goal.After-filled-tree g) where
  handled : flat_map (λ handle. handle.promise.seat.value) c.start-handles.result.0.items ≡ flat c.captures.seats.items
  handled = flat_of_map (λ handle. handle.promise.seat.value) c.start-handles.result.0.items ∙ ap flat (rw c.in-Ok.is at c.start-handles.ensures.all)

pub join_all-requires : goal.join_all-requires
join_all-requires g c =
    let many = ap length (handled g c) in
    let none : vec_len c.captures.home ≡ 0 = search rules in
    omega (arith, many, none, c.requires.room.1)

pub returns-in-Ok : goal.returns-in-Ok
returns-in-Ok g c =
    let same = rw c.in-Ok.is at c.start-handles.ensures.same in
    record {
      all = IfOk-weaker c.filled-tree.result _ (λ (tree : TreeValue). tree.pairs ≡ in_order (map (λ (s : StreamValue). s.pairs) c.captures.streams.items))
          (λ tree is. is ∙ ap (λ l. in_order (map (λ (s : StreamValue). s.pairs) l)) same) c.filled-tree.ensures.all;
      stakes = c.join_all.ensures.all
          ∙ ap (λ l. map g.S.Spool.stake l ++ flat_map (λ handle. handle.promise.seat.value) c.start-handles.result.0.items) c.requires.none.1
          ∙ flat_of_map (λ handle. handle.promise.seat.value) c.start-handles.result.0.items ∙ ap flat (rw c.in-Ok.is at c.start-handles.ensures.all);
      memory = c.filled-tree.ensures.memory;
    }

pub join_all-home-requires : goal.join_all-home-requires
join_all-home-requires g c =
    let handles = c.start-handles.result.0.items in
    let seats = rw c.in-Err.is at c.start-handles.ensures.rest in
    let all = ap flat (sym seats) ∙ flat_map-append (λ l. l) (map (λ handle. handle.promise.seat.value) handles) (map g.S.Spool.stake c.in-Err.spools.items ∷ c.in-Err.rest.items) in
    let long = ap length all in
    let parts = length-append (flat (map (λ handle. handle.promise.seat.value) handles)) (flat (map g.S.Spool.stake c.in-Err.spools.items ∷ c.in-Err.rest.items)) in
    let same = ap length (flat_of_map (λ handle. handle.promise.seat.value) handles) in
    let none : vec_len c.captures.home ≡ 0 = search rules in
    omega (arith, long, parts, same, none, c.requires.room.1)

pub take_rest-requires : goal.take_rest-requires
take_rest-requires g c =
    let handles = c.start-handles.result.0.items in
    let spools = c.in-Err.spools.items in
    let rest = c.in-Err.rest.items in
    let home = c.join_all-home.result.items in
    let seats = rw c.in-Err.is at c.start-handles.ensures.rest in
    let all = ap flat (sym seats) ∙ flat_map-append (λ l. l) (map (λ handle. handle.promise.seat.value) handles) (map g.S.Spool.stake spools ∷ rest) in
    let long = ap length all in
    let parts = length-append (flat (map (λ handle. handle.promise.seat.value) handles)) (flat (map g.S.Spool.stake spools ∷ rest)) in
    let two = length-append (map g.S.Spool.stake spools) (flat rest) in
    let same = ap length (flat_of_map (λ handle. handle.promise.seat.value) handles) in
    let back = ap length (c.join_all-home.ensures.all ∙ ap (λ l. map g.S.Spool.stake l ++ flat_map (λ handle. handle.promise.seat.value) handles) c.requires.none.1) in
    let home_long = length-map home g.S.Spool.stake in
    let spools_long = length-map spools g.S.Spool.stake in
    let home_len : vec_len c.join_all-home.result ≡ length home = search rules in
    let spools_len : vec_len c.in-Err.spools ≡ length spools = search rules in
    omega (arith, long, parts, two, same, back, home_long, spools_long, home_len, spools_len, c.join_all-home.ensures.room, c.requires.room.1)

pub returns-in-Err : goal.returns-in-Err
returns-in-Err g c =
    let handles = c.start-handles.result.0.items in
    let spools = c.in-Err.spools.items in
    let rest = c.in-Err.rest.items in
    let seats = rw c.in-Err.is at c.start-handles.ensures.rest in
    let all = ap flat (sym seats) ∙ flat_map-append (λ l. l) (map (λ handle. handle.promise.seat.value) handles) (map g.S.Spool.stake spools ∷ rest) in
    let back = c.join_all-home.ensures.all ∙ ap (λ l. map g.S.Spool.stake l ++ flat_map (λ handle. handle.promise.seat.value) handles) c.requires.none.1
    ∙ flat_of_map (λ handle. handle.promise.seat.value) handles in
    record {
      all = tt;
      stakes = c.take_rest.ensures ∙ ap (λ l. l ++ map g.S.Spool.stake spools ++ flat rest) back
          ∙ append_assoc (flat (map (λ handle. handle.promise.seat.value) handles)) (map g.S.Spool.stake spools) (flat rest) ∙ sym all;
      memory = refl;
    }
