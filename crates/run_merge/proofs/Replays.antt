-- The way of a new head to the root, where each node keeps the loser of its game.
use Rattle.std.proofs.Common.{◌≡◌, ◌≢◌, ℕ, zero, suc, ◌+◌, ◌*◌, ◌/◌, ◌≤◌, ◌<◌, ◌⊎◌, List, length, get_or, set, refl, sym, ap, ◌∙◌, subst, arith, inl, inr}
use Rattle.std.specs.Prelude.{true, false, Option, Some, None}
use Rattle.std.specs.Option.{is_some}
use Rattle.std.proofs.lemmas.Bool.{false≢true, true≢false}
use Rattle.std.proofs.lemmas.Bool.{cases_eq, cases_lt}
use Rattle.std.proofs.lemmas.List.{get_or-set_other, get_or-set_same, get_or_default, length-set}
use Rattle.run_merge.specs.Leading.{is_ahead, MayLead, HeadsValue, AllDone, IsFirst}
use Rattle.run_merge.specs.Tournaments.{IsWinner, up, HasLeaves, IsPlayed, IsWon}
use Rattle.run_merge.specs.Losers.{IsLoser, IsLost, beside, IsReplay}
use Rattle.keybytes.specs.declared.pair.Pair.{Pair}
use Rattle.run_merge.proofs.Games.{up_half, none_above_root, above_next, above_left, above_right, way, still_played, still_leaves, first_leads}

-- a way goes to lesser numbers
up_le : (k n : ℕ) → up k n ≤ n
up_le zero n = omega arith
up_le (suc k) n = let h : n / 2 ≤ n = omega arith in omega (arith, up_le k (n / 2), h)

-- two nodes of one way that have one node above them are one
same_level : (i j leaf : ℕ) → up i leaf / 2 ≡ up j leaf / 2 → 0 < up j leaf / 2 → up i leaf ≡ up j leaf
same_level zero zero leaf e some = refl
same_level zero (suc j) leaf e some =
    let low = up_le j (leaf / 2) in absurd (omega (arith, low, e, some))
same_level (suc i) zero leaf e some =
    let low = up_le i (leaf / 2) in absurd (omega (arith, low, e, some))
same_level (suc i) (suc j) leaf e some = same_level i j (leaf / 2) e some

-- the winner of all won each game on its way
won_way : (heads : List (Option Pair)) (wins : List ℕ) (leaf : ℕ) → IsWon heads wins → leaf < length heads → get_or wins 1 0 ≡ leaf
    → (fuel n j : ℕ) → n ≡ up j (length heads + leaf) → 0 < n → n ≤ fuel → get_or wins n 0 ≡ leaf
won_way heads wins leaf won inside first zero n j is some le = absurd (omega (arith, some, le))
won_way heads wins leaf won inside first (suc fuel) n j is some le =
    elim (cases_lt 1 n) [
      | inr one ↦ let e : 1 ≡ n = omega (arith, some, one) in subst (λ (i : ℕ). get_or wins i 0 ≡ leaf) e first
      | inl more ↦
          let h = n / 2 in
          let above : h ≡ up (suc j) (length heads + leaf) = ap (λ m. m / 2) is ∙ up_half j (length heads + leaf) in
          let positive : 0 < h = omega (arith, more) in
          let short : h ≤ fuel = omega (arith, more, le) in
          let low : h < length heads = omega (arith, is, up_le j (length heads + leaf), inside) in
          let up' = won_way heads wins leaf won inside first fuel h (suc j) above positive short in
          let same : (c : ℕ) → c / 2 ≡ h → c < 2 * length heads → 0 < c → get_or wins c 0 ≡ leaf → get_or wins n 0 ≡ leaf = λ c half lt pos named.
          let found = way heads wins leaf won inside (2 * length heads) c pos lt (omega arith) named in
          let parents : up found.0 (length heads + leaf) / 2 ≡ up j (length heads + leaf) / 2 = sym (ap (λ m. m / 2) found.1) ∙ (half ∙ ap (λ m. m / 2) is) in
          let top : 0 < up j (length heads + leaf) / 2 = omega (arith, positive, ap (λ m. m / 2) is) in
          let one = same_level found.0 j (length heads + leaf) parents top in
          subst (λ (i : ℕ). get_or wins i 0 ≡ leaf) (found.1 ∙ (one ∙ sym is)) named in
          elim (won.played h positive low).one [
            | inl e ↦ same (2 * h) (omega arith) (omega (arith, low)) (omega (arith, positive)) (sym e ∙ up')
            | inr e ↦ same (2 * h + 1) (omega arith) (omega (arith, low)) (omega arith) (sym e ∙ up')
          ]
    ]

-- beside a node of the way waits the loser of the game above
waits : (wins : List ℕ) (loser leaf c : ℕ) → 0 < c / 2 → IsLoser wins loser (c / 2) → get_or wins (c / 2) 0 ≡ leaf → get_or wins c 0 ≡ leaf
    → (get_or wins (beside c) 0 ≡ leaf → ⊥) → loser ≡ get_or wins (beside c) 0
waits wins loser leaf c some lost above here other =
    elim (cases_eq c (2 * (c / 2))) [
      | inl even ↦
          let side : beside c ≡ 2 * (c / 2) + 1 = omega (arith, even) in
          elim lost [
            | inl (won, is) ↦ is ∙ ap (λ (i : ℕ). get_or wins i 0) (sym side)
            | inr (won, is) ↦ absurd (other (ap (λ (i : ℕ). get_or wins i 0) side ∙ (sym won ∙ above)))
          ]
      | inr odd ↦
          let side : beside c ≡ 2 * (c / 2) = omega (arith, odd) in
          elim lost [
            | inl (won, is) ↦ absurd (other (ap (λ (i : ℕ). get_or wins i 0) side ∙ (sym won ∙ above)))
            | inr (won, is) ↦ is ∙ ap (λ (i : ℕ). get_or wins i 0) (sym side)
          ]
    ]

-- another head in place of the first one
pub replay_starts : (heads : List (Option Pair)) (nodes : List ℕ) → IsLost heads nodes → 0 < length heads → (leaf : ℕ) → leaf ≡ get_or nodes 0 0
    → (head : Option Pair)
    → (leaf < length heads) × IsReplay (set heads leaf head) nodes (length heads + leaf) leaf
replay_starts heads nodes lost some leaf is head =
    let wins = lost.wins in
    let first : get_or wins 1 0 ≡ leaf = sym (is ∙ lost.first some) in
    let inside : leaf < length heads = omega (arith, first, lost.won.tree.inside 1 (omega (arith, some, lost.won.tree.long))) in
    let same : length (set heads leaf head) ≡ length heads = length-set heads leaf head in
    let start = length heads + leaf in (
      inside,
      record {
        wins = wins;
        tree = still_leaves heads wins leaf head lost.won.tree;
        long = lost.long ∙ sym same;
        here = lost.won.tree.leaves leaf inside;
        played = λ n pos lt apart. still_played heads wins leaf head lost.won inside n pos (omega (arith, lt, same)) apart;
        losers = λ n pos lt apart. lost.losers n pos (omega (arith, lt, same));
        waiting = λ k more.
            let c = up k start in
            let half : c / 2 ≡ up (suc k) start = up_half k start in
            let top : 0 < c / 2 = omega (arith, more) in
            let low : c < 2 * length heads = omega (arith, up_le k start, inside) in
            let loser : IsLoser wins (get_or nodes (c / 2) 0) (c / 2) = lost.losers (c / 2) top (omega (arith, low)) in
            let here = won_way heads wins leaf lost.won inside first c c k refl (omega (arith, more)) (omega arith) in
            let above = won_way heads wins leaf lost.won inside first c (c / 2) (suc k) half top (omega arith) in
            let other : get_or wins (beside c) 0 ≡ leaf → ⊥ = λ named.
            let found = way heads wins leaf lost.won inside (2 * length heads) (beside c) (omega (arith, more)) (omega (arith, low)) (omega arith) named in
            let parents : up found.0 start / 2 ≡ up k start / 2 = sym (ap (λ m. m / 2) found.1) ∙ (let e : beside c / 2 ≡ c / 2 = omega (arith, more) in e) in
            let one : beside c ≡ c = found.1 ∙ same_level found.0 k start parents top in
            omega (arith, one, more) in
            ap (λ (i : ℕ). get_or nodes i 0) (sym half) ∙ waits wins (get_or nodes (c / 2) 0) leaf c top loser above here other;
      },
    )

-- the last game is played
pub replay_ends : (heads : List (Option Pair)) (nodes : List ℕ) (node winner : ℕ) → node ≡ 1 → IsReplay heads nodes node winner
    → IsLost heads (set nodes 0 winner)
replay_ends heads nodes node winner root r = record {
  wins = r.wins;
  won = record {
    tree = r.tree;
    played = λ n pos lt. r.played n pos lt (none_above_root n node pos root);
  };
  long = length-set nodes 0 winner ∙ r.long;
  first = λ some. get_or-set_same nodes 0 winner 0 (omega (arith, some, r.long)) ∙ (sym r.here ∙ ap (λ (i : ℕ). get_or r.wins i 0) root);
  losers = λ n pos lt.
      let off : n ≢ 0 = omega (arith, pos) in
      let L : ℕ → Type 0 = λ l. IsLoser r.wins l n in
      subst L (sym (get_or-set_other nodes 0 n winner 0 off)) (r.losers n pos lt (none_above_root n node pos root));
}

-- a game between those who won below
game_played : (heads : List (Option Pair)) (wins : List ℕ) (q won a b : ℕ) → get_or wins q 0 ≡ won → get_or wins (2 * q) 0 ≡ a → get_or wins (2 * q + 1) 0 ≡ b
    → IsWinner heads won a b → IsPlayed heads wins q
game_played heads wins q won a b wq wl wr h = rw (wq, wl, wr) h

-- and its loser
game_lost : (wins : List ℕ) (q won lost a b : ℕ) → get_or wins q 0 ≡ won → get_or wins (2 * q) 0 ≡ a → get_or wins (2 * q + 1) 0 ≡ b
    → ((won ≡ a) × (lost ≡ b)) ⊎ ((won ≡ b) × (lost ≡ a)) → IsLoser wins lost q
game_lost wins q won lost a b wq wl wr (inl (x, y)) = inl (wq ∙ (x ∙ sym wl), y ∙ sym wr)
game_lost wins q won lost a b wq wl wr (inr (x, y)) = inr (wq ∙ (x ∙ sym wr), y ∙ sym wl)

-- the winner of a game whichever of the two comes first
turned : (heads : List (Option Pair)) (won a b : ℕ) → IsWinner heads won a b → IsWinner heads won b a
turned heads won a b h = record { one = elim h.one [ inl e ↦ inr e | inr e ↦ inl e ]; leads_left = h.leads_right; leads_right = h.leads_left }

-- and its loser
turned_lost : (won lost a b : ℕ) → ((won ≡ a) × (lost ≡ b)) ⊎ ((won ≡ b) × (lost ≡ a)) → ((won ≡ b) × (lost ≡ a)) ⊎ ((won ≡ a) × (lost ≡ b))
turned_lost won lost a b (inl h) = inr h
turned_lost won lost a b (inr h) = inl h

-- what the game at the next node up leaves there
at_next : (heads : List (Option Pair)) (wins : List ℕ) (node winner other won lost : ℕ) → 1 < node → node < length wins → get_or wins node 0 ≡ winner
    → other ≡ get_or wins (beside node) 0
    → IsWinner heads won winner other → ((won ≡ winner) × (lost ≡ other)) ⊎ ((won ≡ other) × (lost ≡ winner))
    → IsPlayed heads (set wins (node / 2) won) (node / 2) × IsLoser (set wins (node / 2) won) lost (node / 2)
at_next heads wins node winner other won lost more lt here waits h l =
    let q = node / 2 in
    let new = set wins q won in
    let hit : get_or new q 0 ≡ won = get_or-set_same wins q won 0 (omega (arith, lt)) in
    let left-off : 2 * q ≢ q = omega (arith, more) in
    let right-off : 2 * q + 1 ≢ q = omega arith in
    let left : get_or new (2 * q) 0 ≡ get_or wins (2 * q) 0 = get_or-set_other wins q (2 * q) won 0 left-off in
    let right : get_or new (2 * q + 1) 0 ≡ get_or wins (2 * q + 1) 0 = get_or-set_other wins q (2 * q + 1) won 0 right-off in
    elim (cases_eq node (2 * q)) [
      | inl even ↦
          let side : beside node ≡ 2 * q + 1 = omega (arith, even) in
          let a : get_or new (2 * q) 0 ≡ winner = left ∙ (ap (λ (i : ℕ). get_or wins i 0) (sym even) ∙ here) in
          let b : get_or new (2 * q + 1) 0 ≡ other = right ∙ (ap (λ (i : ℕ). get_or wins i 0) (sym side) ∙ sym waits) in
          (game_played heads new q won winner other hit a b h, game_lost new q won lost winner other hit a b l)
      | inr odd ↦
          let is : node ≡ 2 * q + 1 = omega (arith, odd) in
          let side : beside node ≡ 2 * q = omega (arith, is) in
          let a : get_or new (2 * q) 0 ≡ other = left ∙ (ap (λ (i : ℕ). get_or wins i 0) (sym side) ∙ sym waits) in
          let b : get_or new (2 * q + 1) 0 ≡ winner = right ∙ (ap (λ (i : ℕ). get_or wins i 0) (sym is) ∙ here) in (
            game_played heads new q won other winner hit a b (turned heads won winner other h),
            game_lost new q won lost other winner hit a b
                (turned_lost won lost winner other l),
          )
    ]

-- a change at one node leaves the games that it takes no part in
other_played : (heads : List (Option Pair)) (wins : List ℕ) (q won n : ℕ) → n ≢ q → 2 * n ≢ q → 2 * n + 1 ≢ q → IsPlayed heads wins n
    → IsPlayed heads (set wins q won) n
other_played heads wins q won n a b d h =
    rw (get_or-set_other wins q n won 0 a, get_or-set_other wins q (2 * n) won 0 b, get_or-set_other wins q (2 * n + 1) won 0 d) h

-- the game at one node is of no matter to the loser at another
other_lost : (wins nodes : List ℕ) (q won lost n : ℕ) → n ≢ q → 2 * n ≢ q → 2 * n + 1 ≢ q → IsLoser wins (get_or nodes n 0) n
    → IsLoser (set wins q won) (get_or (set nodes q lost) n 0) n
other_lost wins nodes q won lost n a b d h =
    simp (
      get_or-set_other wins q n won 0 a,
      get_or-set_other wins q (2 * n) won 0 b,
      get_or-set_other wins q (2 * n + 1) won 0 d,
      get_or-set_other nodes q n
          lost 0 a,
    ) h

-- the leaves stay when a game above them is played
still_tree : (heads : List (Option Pair)) (wins : List ℕ) (q won : ℕ) → q < length heads → won < length heads → HasLeaves heads wins
    → HasLeaves heads (set wins q won)
still_tree heads wins q won low inside tree = record {
  long = length-set wins q won ∙ tree.long;
  inside = λ n lt.
      let lt' : n < length wins = omega (arith, lt, length-set wins q won) in
      elim (cases_eq n q) [
        | inl e ↦ omega (arith, inside, ap (λ (i : ℕ). get_or (set wins q won) i 0) e, get_or-set_same wins q won 0 (omega (arith, low, tree.long)))
        | inr ne ↦ omega (arith, get_or-set_other wins q n won 0 ne, tree.inside n lt')
      ];
  leaves = λ k lt.
      let off : length heads + k ≢ q = omega (arith, low) in
      get_or-set_other wins q (length heads + k) won 0 off ∙ tree.leaves k lt;
}

-- no node above this one, nor one beside those, is this one
no_way_back : (k q : ℕ) → 0 < q → up (suc k) q ≢ q
no_way_back k q some = let low = up_le k (q / 2) in λ e. omega (arith, low, e, some)

-- the node beside one of the way is not above it
not_beside : (k q : ℕ) → 1 < up k q → beside (up k q) ≢ q
not_beside zero q more = λ e. omega (arith, e, more)
not_beside (suc k) q more = let low = up_le k (q / 2) in λ e. omega (arith, low, e, more)

-- the next game up
pub replay_steps : (heads : List (Option Pair)) (nodes : List ℕ) (node winner : ℕ) → IsReplay heads nodes node winner → 1 < node → node < 2 * length heads
    → (won lost : ℕ) → won < length heads → IsWinner heads won winner (get_or nodes (node / 2) 0)
    → ((won ≡ winner) × (lost ≡ get_or nodes (node / 2) 0)) ⊎ ((won ≡ get_or nodes (node / 2) 0) × (lost ≡ winner))
    → IsReplay heads (set nodes (node / 2) lost) (node / 2) won
replay_steps heads nodes node winner r more lt won lost inside h l =
    let q = node / 2 in
    let wins = r.wins in
    let some : 0 < q = omega (arith, more) in
    let low : q < length heads = omega (arith, lt) in
    let next = at_next heads wins node winner (get_or nodes q 0) won lost more (omega (arith, lt, r.tree.long)) r.here (r.waiting 0 more) h l in
    record {
      wins = set wins q won;
      tree = still_tree heads wins q won low inside r.tree;
      long = length-set nodes q lost ∙ r.long;
      here = get_or-set_same wins q won 0 (omega (arith, low, r.tree.long));
      played = λ n pos lt' apart.
          elim (cases_eq n q) [
            | inl e ↦ subst (λ (i : ℕ). IsPlayed heads (set wins q won) i) (sym e) next.0
            | inr ne ↦ other_played heads wins q won n ne (λ e. apart (above_left n q e)) (λ e. apart (above_right n q e))
                (r.played n pos lt' (λ a. apart (above_next n node ne a)))
          ];
      losers = λ n pos lt' apart.
          elim (cases_eq n q) [
            | inl e ↦
                let stored : get_or (set nodes q lost) q 0 ≡ lost = get_or-set_same nodes q lost 0 (omega (arith, low, r.long)) in
                let L : ℕ → Type 0 = λ v. IsLoser (set wins q won) v q in
                subst (λ (i : ℕ). IsLoser (set wins q won) (get_or (set nodes q lost) i 0) i) (sym e) (subst L (sym stored) next.1)
            | inr ne ↦ other_lost wins nodes q won lost n ne (λ e. apart (above_left n q e)) (λ e. apart (above_right n q e))
                (r.losers n pos lt' (λ a. apart (above_next n node ne a)))
          ];
      waiting = λ k more'.
          get_or-set_other nodes q (up (suc k) q) lost 0 (no_way_back k q some)
          ∙ (r.waiting (suc k) more' ∙ sym (get_or-set_other wins q (beside (up k q)) won 0 (not_beside k q more')));
    }

-- the same, of lists that are those
pub replay_starts_at : (heads hs : List (Option Pair)) (nodes ns : List ℕ) (leaf : ℕ) (head : Option Pair) → hs ≡ set heads leaf head → ns ≡ nodes
    → IsLost heads nodes → 0 < length heads
    → leaf ≡ get_or nodes 0 0 → IsReplay hs ns (length hs + leaf) leaf
replay_starts_at heads hs nodes ns leaf head is-hs is-ns lost some is =
    let start = (replay_starts heads nodes lost some leaf is head).1 in
    let same : length heads ≡ length (set heads leaf head) = sym (length-set heads leaf head) in
    let at-set : IsReplay (set heads leaf head) nodes (length (set heads leaf head) + leaf) leaf =
    subst (λ (m : ℕ). IsReplay (set heads leaf head) nodes (m + leaf) leaf) same start in
    let by-heads : IsReplay hs nodes (length hs + leaf) leaf =
    subst (λ (zs : List (Option Pair)). IsReplay zs nodes (length zs + leaf) leaf) (sym is-hs) at-set in
    subst (λ (zs : List ℕ). IsReplay hs zs (length hs + leaf) leaf) (sym is-ns) by-heads

-- node 0 names one of the heads
pub first_inside : (heads : List (Option Pair)) (nodes : List ℕ) → IsLost heads nodes → 0 < length heads → get_or nodes 0 0 < length heads
first_inside heads nodes lost some = omega (arith, lost.first some, lost.won.tree.inside 1 (omega (arith, some, lost.won.tree.long)))

-- and that one may lead every other
pub root_leads : (heads : List (Option Pair)) (nodes : List ℕ) → IsLost heads nodes → 0 < length heads → (other : ℕ) → MayLead heads (get_or nodes 0 0) other
root_leads heads nodes lost some other =
    subst (λ (i : ℕ). MayLead heads i other) (sym (lost.first some)) (first_leads heads lost.wins lost.won other)

-- the one who waits at a node is one of the heads
pub waiting_inside : (heads : List (Option Pair)) (nodes : List ℕ) (node winner : ℕ) → IsReplay heads nodes node winner → 1 < node → node < 2 * length heads
    → get_or nodes (node / 2) 0 < length heads
waiting_inside heads nodes node winner r more lt =
    let side : beside node < length r.wins = omega (arith, more, lt, r.tree.long) in
    omega (arith, r.waiting 0 more, r.tree.inside (beside node) side)

-- what is not ahead of none is none
done : (x : Option Pair) → is_ahead x None ≡ false → x ≡ None
done None h = refl
done (Some a) h = absurd (true≢false h)

-- where the one that node 0 names has no pair left, none has
pub all_done : (heads : List (Option Pair)) (nodes : List ℕ) → IsLost heads nodes → 0 < length heads → (x : Option Pair)
    → x ≡ get_or heads (get_or nodes 0 0) x → is_some x ≡ false → AllDone heads
all_done heads nodes lost some (Some a) at none = absurd (true≢false none)
all_done heads nodes lost some None at none = λ place.
    let led = root_leads heads nodes lost some place in
    done (get_or heads place None) (subst (λ (x : Option Pair). is_ahead (get_or heads place None) x ≡ false) (sym at) led)

-- and where it has one, that is the first
pub root_is_first : (value : HeadsValue) (nodes : List ℕ) → IsLost value.heads nodes → 0 < length value.heads → get_or nodes 0 0 ≡ value.first
    → (x : Option Pair)
    → x ≡ get_or value.heads value.first x → is_some x ≡ true → IsFirst value value.first
root_is_first value nodes lost some root None at there = absurd (false≢true there)
root_is_first value nodes lost some root (Some a) at there =
    let inside : value.first < length value.heads = omega (arith, root, first_inside value.heads nodes lost some) in
    record {
      is = refl;
      inside = inside;
      leads = λ other. subst (λ (i : ℕ). MayLead value.heads i other) root (root_leads value.heads nodes lost some other);
      pair = a;
      there = get_or_default value.heads value.first None (Some a) inside ∙ sym at;
    }
