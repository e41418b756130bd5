-- Pairs pushed into a spool.
use Rattle.std.proofs.Common.{◌≡◌, ℕ, ◌+◌, ◌-◌, ◌*◌, ◌≤◌, ◌<◌, List, [], ◌∷◌, ◌++◌, length, get_or, set, take, refl, sym, ap, ◌∙◌, subst, arith}
use Rattle.std.proofs.Common.{Some}
use Rattle.std.specs.List.{All}
use Rattle.std.proofs.Math.Seq.{get_or-append_seam}
use Rattle.std.proofs.lemmas.List.{length-append, length-set, length-take-le}
use Rattle.std.proofs.lemmas.List.Elements.{All-head, All-tail, All-pop, All-push, All-set, All-take, All-nil}
use Rattle.std.proofs.lemmas.List.Sums.{sum_by-cons, sum_by-append, sum_by-set}
use Rattle.spool_ledger.specs.Accounts.{AccountValue, with_free}
use Rattle.keybytes.specs.declared.pair.Pair.{Pair}
use Rattle.run_spool.specs.Pages.{PageValue, no_page, last_key, size_on, page_with, with_pair, pairs_size, IsPacked}
use Rattle.run_spool.specs.Runs.{pairs_of, last_of, on_last, HasPairs, IsFilled, without_pairs}
use Rattle.run_spool.specs.PagedSpools.{PagedSpoolValue, with_freed, without_runs, IsSpool, run_pages}
use Rattle.run_spool.specs.Spools.{NoneEmpty}
use Rattle.run_spool.proofs.Chains.{count_append, count_one, count_last, same_last}
use Rattle.run_spool.proofs.Filled.{filled_freed, filled_grown, filled_more}
use Rattle.run_spool.proofs.RunSteps.{each_without, fewer_pages, without_all, given_more}
use Rattle.run_spool.proofs.Sizes.{count_le_size, size_more, last_more}

-- pages have at most 4,096 pairs each
pub pairs_small : (size : List ℕ → Pair → ℕ) → ((before : List ℕ) (pair : Pair) → 0 < size before pair) → (run : List PageValue) → All (IsPacked size) run →
    length (pairs_of run) ≤ 4096 * length run
pairs_small size some [] packed = omega arith
pairs_small size some (p ∷ ps) packed =
    let one : pairs_size size [] p.pairs + p.room ≡ 4096 = All-head (IsPacked size) p ps packed in
    omega (arith, length-append p.pairs (pairs_of ps), count_le_size size some [] p.pairs, pairs_small size some ps (All-tail (IsPacked size) p ps packed))

-- what a chain keeps whose last page was written
pub record Opened (size : List ℕ → Pair → ℕ) (chain front : List PageValue) (page : PageValue) : Type 0 where
  pub long : length chain ≡ length front + 1
  pub count : length (pairs_of chain) ≡ length (pairs_of front) + length page.pairs
  pub each : All HasPairs chain
  pub packed : All (IsPacked size) chain
  pub last : last_of chain ≡ page

opened : (size : List ℕ → Pair → ℕ) (chain front : List PageValue) (page : PageValue) → chain ≡ front ++ page ∷ [] → All HasPairs front →
    All (IsPacked size) front → HasPairs page → IsPacked size page → Opened size chain front page
opened size chain front page is each packed some full =
    let n : length (front ++ page ∷ []) - 1 ≡ length front = omega (arith, length-append front (page ∷ [])) in
    let all : Opened size (front ++ page ∷ []) front page = record {
      long = length-append front (page ∷ []);
      count = omega (arith, count_append front (page ∷ []), count_one page);
      each = All-push HasPairs front page each some;
      packed = All-push (IsPacked size) front page packed full;
      last = ap (λ (k : ℕ). get_or (front ++ page ∷ []) k no_page) n ∙ get_or-append_seam front page [] no_page;
    } in
    subst (λ (xs : List PageValue). Opened size xs front page) (sym is) all

-- the last page of a chain that has room for a pair
pub record Last (size : List ℕ → Pair → ℕ) (chain : List PageValue) : Type 0 where
  pub there : 0 < length chain
  pub each : All HasPairs (take (length chain - 1) chain)
  pub packed : All (IsPacked size) (take (length chain - 1) chain)
  pub good : IsPacked size (last_of chain)
  pub some : HasPairs (last_of chain)
  pub long : length (take (length chain - 1) chain) + 1 ≡ length chain
  pub count : length (pairs_of chain) ≡ length (pairs_of (take (length chain - 1) chain)) + length (last_of chain).pairs

some_chain : (chain : List PageValue) → 0 < (last_of chain).room → 0 < length chain
some_chain [] lt = absurd (omega arith)
some_chain (x ∷ xs) lt = omega arith

last_of_chain : (size : List ℕ → Pair → ℕ) (chain : List PageValue) → 0 < (last_of chain).room → All HasPairs chain → All (IsPacked size) chain →
    Last size chain
last_of_chain size chain lt each packed =
    let there = some_chain chain lt in
    let k = length chain - 1 in
    let e : k + 1 ≡ length chain = omega arith in
    record {
      there = there;
      each = All-take HasPairs k chain each;
      packed = All-take (IsPacked size) k chain packed;
      good = packed k no_page (omega arith);
      some = each k no_page (omega arith);
      long = omega (arith, length-take-le k chain (omega arith));
      count = count_last chain k e;
    }

-- there are no more runs with a page than pages
pub runs_le : (runs : List (List PageValue)) → NoneEmpty runs → length runs ≤ run_pages runs
runs_le [] some = omega arith
runs_le (r ∷ rs) some =
    let one : 0 < length r = All-head (λ run. 0 < length run) r rs some in
    omega (arith, sum_by-cons (λ (run : List PageValue). length run) r rs, runs_le rs (All-tail (λ run. 0 < length run) r rs some))

-- the fields of a spool after a pair was written on the last page
pub pushed_last : {size : List ℕ → Pair → ℕ} {account : AccountValue} {spare : ℕ} {runs : List (List PageValue)} {places : ℕ} {chain : List PageValue} {len : ℕ}
    {last : List ℕ} (pair : Pair) (new : List PageValue) → IsSpool size account spare runs places chain len last → 0 < size_on size (last_of chain) pair
    → size_on size (last_of chain) pair ≤ (last_of chain).room → new ≡ on_last size chain pair → IsSpool size account spare runs places new (len + 1) pair.key
pushed_last {size = size} {chain = chain} pair new s some fits is =
    let l = last_of_chain size chain (omega arith) s.each s.packed in
    let page = with_pair size (last_of chain) pair in
    let more : length page.pairs ≡ length (last_of chain).pairs + 1 = omega (arith, length-append (last_of chain).pairs (pair ∷ [])) in
    let good = l.good in
    let full : IsPacked size page = omega (arith, size_more size [] (last_of chain).pairs pair) in
    let o = opened size new (take (length chain - 1) chain) page is l.each l.packed (omega arith) full in
    let long = o.long in
    let same = l.long in
    let count = o.count in
    let before = l.count in
    let len_is = s.open_len_is in
    let law = s.law in
    let there = l.there in
    record {
      law = omega arith;
      spare_is = s.spare_is;
      small = s.small;
      open_len_is = omega arith;
      each = o.each;
      packed = o.packed;
      filled = subst (IsFilled size) (sym is) (filled_grown size (take (length chain - 1) chain) (last_of chain) pair l.some
          (subst (IsFilled size) (sym (same_last chain there)) s.filled));
      closed = s.closed;
      all_filled = s.all_filled;
      room = s.room;
      fits = s.fits;
      open_fits = λ (_ : 0 < length new). s.open_fits there;
      last_is = λ (_ : 0 < length new). (sym (last_more [] (last_of chain).pairs pair) ∙ ap (λ (p : PageValue). last_key p.pairs) (sym o.last));
    }

-- the fields of a spool after a pair was written on a new page
pub pushed_new : {size : List ℕ → Pair → ℕ} {account : AccountValue} {spare : ℕ} {runs : List (List PageValue)} {places : ℕ} {chain : List PageValue} {len : ℕ}
    {last : List ℕ} (pair : Pair) (leased : AccountValue) (left : ℕ) (new : List PageValue) → IsSpool size account spare runs places chain len last
    → size [] pair ≤ 4096 → (last_of chain).room < size_on size (last_of chain) pair → NoneEmpty runs → 0 < account.free → leased ≡ with_free account (account.free - 1) → left + 1 ≡ spare
    → new ≡ chain ++ page_with size pair ∷ [] → IsSpool size leased left runs places new (len + 1) pair.key
pushed_new {size = size} {account = account} {runs = runs} {chain = chain} {len = len} pair leased left new s fits none some there is_leased is_left is =
    let full : IsPacked size (page_with size pair) = omega arith in
    let o = opened size new chain (page_with size pair) is s.each s.packed (omega arith) full in
    let long = o.long in
    let count = o.count in
    let len_is = s.open_len_is in
    let law = s.law in
    let spare_is = s.spare_is in
    let small = s.small in
    let room = s.room in
    let free = ap (λ (a : AccountValue). a.free) is_leased in
    let quota = ap (λ (a : AccountValue). a.quota) is_leased in
    let few = runs_le runs some in
    let fewer = s.fits in
    record {
      law = omega arith;
      spare_is = omega arith;
      small = omega arith;
      open_len_is = omega arith;
      each = o.each;
      packed = o.packed;
      filled = subst (IsFilled size) (sym is) (filled_more size chain (page_with size pair) s.filled none);
      closed = s.closed;
      all_filled = s.all_filled;
      room = omega arith;
      fits = omega arith;
      open_fits = λ (_ : 0 < length new). omega arith;
      last_is = λ (_ : 0 < length new). ap (λ (p : PageValue). last_key p.pairs) (sym o.last);
    }

-- the fields of a spool whose open run was closed
pub run_closed : {size : List ℕ → Pair → ℕ} {account : AccountValue} {spare : ℕ} {runs : List (List PageValue)} {places : ℕ} {chain : List PageValue} {len : ℕ}
    {last : List ℕ} (more : List (List PageValue)) (room : ℕ) (none : List PageValue) → IsSpool size account spare runs places chain len last
    → 0 < length chain → more ≡ runs ++ chain ∷ [] → room ≡ places → none ≡ [] → IsSpool size account spare more room none 0 last
run_closed {size = size} {runs = runs} {chain = chain} more room none s some is same empty =
    let pages = ap run_pages is ∙ sum_by-append (λ (r : List PageValue). length r) runs (chain ∷ []) in
    let one = sum_by-cons (λ (r : List PageValue). length r) chain [] in
    let long = ap (λ (xs : List (List PageValue)). length xs) is ∙ length-append runs (chain ∷ []) in
    let left = ap (λ (xs : List PageValue). length xs) empty in
    let law = s.law in
    let enough = s.room in
    let fits = s.open_fits some in
    record {
      law = omega arith;
      spare_is = s.spare_is;
      small = s.small;
      open_len_is = ap (λ (ps : List PageValue). length (pairs_of ps)) (sym empty);
      each = subst (λ (ps : List PageValue). All HasPairs ps) (sym empty) (All-nil HasPairs);
      packed = subst (λ (ps : List PageValue). All (IsPacked size) ps) (sym empty) (All-nil (IsPacked size));
      filled = subst (IsFilled size) (sym empty) tt;
      closed = subst (All (All HasPairs)) (sym is) (All-push (All HasPairs) runs chain s.closed s.each);
      all_filled = subst (All (IsFilled size)) (sym is) (All-push (IsFilled size) runs chain s.all_filled s.filled);
      room = omega arith;
      fits = omega arith;
      open_fits = λ (lt : 0 < length none). absurd (omega arith);
      last_is = λ (lt : 0 < length none). absurd (omega arith);
    }

-- the fields of a spool of which pairs of a run were let go
pub run_freed : {size : List ℕ → Pair → ℕ} {account : AccountValue} {spare : ℕ} {runs : List (List PageValue)} {places : ℕ} {chain : List PageValue}
    {len : ℕ} {last : List ℕ}
    (given : AccountValue) (left i n : ℕ) (run after : List PageValue) → IsSpool size account spare runs places chain len last → i < length runs
    → run ≡ get_or runs i [] → after ≡ without_pairs n run → given.free + length after ≡ account.free + length run → given ≡ with_free account given.free
    → left + length after ≡ spare + length run → IsSpool size given left (set runs i after) places chain len last
run_freed {size = size} {account = account} {spare = spare} {runs = runs} {chain = chain} given left i n run after s there is gone counted kept frames =
    let pages = sum_by-set (λ (r : List PageValue). length r) runs i after [] there in
    let same = ap (λ (r : List PageValue). length r) is in
    let long = length-set runs i after in
    let quota = ap (λ (a : AccountValue). a.quota) kept in
    let law = s.law in
    let spare_is = s.spare_is in
    let small = s.small in
    let enough = s.room in
    let fits = s.fits in
    let each : All HasPairs after = subst (All HasPairs) (sym gone) (each_without run n (subst (All HasPairs) (sym is) (s.closed i [] there))) in
    let filled : IsFilled size after = subst (IsFilled size) (sym gone) (filled_freed size n run (subst (IsFilled size) (sym is) (s.all_filled i [] there))) in
    record {
      law = omega arith;
      spare_is = omega arith;
      small = omega arith;
      open_len_is = s.open_len_is;
      each = s.each;
      packed = s.packed;
      filled = s.filled;
      closed = All-set (All HasPairs) runs i after each s.closed;
      all_filled = All-set (IsFilled size) runs i after filled s.all_filled;
      room = omega arith;
      fits = omega arith;
      open_fits = λ (lt : 0 < length chain). (let few = s.open_fits lt in omega arith);
      last_is = s.last_is;
    }

-- the fields of a spool whose last run has given its pages back
pub run_ended : {size : List ℕ → Pair → ℕ} {account : AccountValue} {spare : ℕ} {runs : List (List PageValue)} {places : ℕ} {chain : List PageValue}
    {len : ℕ} {last : List ℕ}
    (given : AccountValue) (left : ℕ) (rest : List (List PageValue)) (run after : List PageValue) (room n : ℕ) →
    IsSpool size account spare runs places chain len last →
    runs ≡ rest ++ run ∷ [] → room ≡ places → n ≡ length (pairs_of run) → after ≡ without_pairs n run
    → given.free + length after ≡ account.free + length run →
    given ≡ with_free account given.free → left + length after ≡ spare + length run → IsSpool size given left rest room chain len last
run_ended {size = size} {runs = runs} {chain = chain} given left rest run after room n s is same all gone count kept frames =
    let none = ap (λ (xs : List PageValue). length xs) (gone ∙ without_all run n all) in
    let pages = ap run_pages is ∙ sum_by-append (λ (r : List PageValue). length r) rest (run ∷ []) in
    let one = sum_by-cons (λ (r : List PageValue). length r) run [] in
    let long = ap (λ (xs : List (List PageValue)). length xs) is ∙ length-append rest (run ∷ []) in
    let quota = ap (λ (a : AccountValue). a.quota) kept in
    let law = s.law in
    let spare_is = s.spare_is in
    let small = s.small in
    let enough = s.room in
    let fits = s.fits in
    record {
      law = omega arith;
      spare_is = omega arith;
      small = omega arith;
      open_len_is = s.open_len_is;
      each = s.each;
      packed = s.packed;
      filled = s.filled;
      closed = (All-pop (All HasPairs) runs rest (Some run) is s.closed).0;
      all_filled = (All-pop (IsFilled size) runs rest (Some run) is s.all_filled).0;
      room = omega arith;
      fits = omega arith;
      open_fits = λ (lt : 0 < length chain). (let few = s.open_fits lt in omega arith);
      last_is = s.last_is;
    }

-- a spool that has ended
pub record Ended (size : List ℕ → Pair → ℕ) (last : List ℕ) (start given : AccountValue) (left : ℕ) (runs : List (List PageValue)) (room : ℕ)
    (chain : List PageValue) : Type 0 where
  pub spool : IsSpool size given left runs room chain 0 last
  pub none : runs ≡ []
  pub chain_is : chain ≡ []
  pub whole : given ≡ with_free start start.quota

none_left : {A : Type 0} → (xs : List A) → length xs ≡ 0 → xs ≡ []
none_left [] e = refl
none_left (x ∷ xs) e = absurd (omega arith)

pub open_ended : {size : List ℕ → Pair → ℕ} {account : AccountValue} {spare : ℕ} {runs : List (List PageValue)} {places : ℕ} {chain : List PageValue}
    {len : ℕ} {last : List ℕ}
    (start given : AccountValue) (left : ℕ) (new : List PageValue) (rest : List (List PageValue)) (room : ℕ)
    → IsSpool size account spare runs places chain len last →
    length runs ≡ 0 → runs ≡ rest ++ [] → room ≡ places → account ≡ with_free start account.free →
    new ≡ without_pairs len chain → given.free + length new ≡ account.free + length chain →
    given ≡ with_free account given.free → left + length new ≡ spare + length chain → Ended size last start given left rest room new
open_ended {size = size} {account = account} {runs = runs} {chain = chain} {len = len} start given left new rest room s no_runs runs_is room_is from gone count
    kept frames =
    let none : new ≡ [] = gone ∙ without_all chain len s.open_len_is in
    let long = ap (λ (xs : List PageValue). length xs) none in
    let empty : runs ≡ [] = none_left runs no_runs in
    let pages = ap run_pages empty in
    let few = ap (λ (xs : List (List PageValue)). length xs) runs_is ∙ length-append rest [] in
    let no_rest : rest ≡ [] = none_left rest (omega arith) in
    let none_rest = ap run_pages no_rest in
    let quota = ap (λ (a : AccountValue). a.quota) kept in
    let quota2 = ap (λ (a : AccountValue). a.quota) from in
    let law = s.law in
    let spare_is = s.spare_is in
    let small = s.small in
    let enough = s.room in
    let all : given.free ≡ start.quota = omega arith in
    record {
      spool = record {
        law = omega arith;
        spare_is = omega arith;
        small = omega arith;
        open_len_is = ap (λ (ps : List PageValue). length (pairs_of ps)) (sym none);
        each = subst (λ (ps : List PageValue). All HasPairs ps) (sym none) (All-nil HasPairs);
        packed = subst (λ (ps : List PageValue). All (IsPacked size) ps) (sym none) (All-nil (IsPacked size));
        filled = subst (IsFilled size) (sym none) tt;
        closed = subst (All (All HasPairs)) (sym no_rest) (All-nil (All HasPairs));
        all_filled = subst (All (IsFilled size)) (sym no_rest) (All-nil (IsFilled size));
        room = omega arith;
        fits = omega arith;
        open_fits = λ (lt : 0 < length new). absurd (omega arith);
        last_is = λ (lt : 0 < length new). absurd (omega arith);
      };
      none = no_rest;
      chain_is = none;
      whole = given_more start account given given.free kept from ∙ ap (with_free start) all;
    }

-- a spool of which pairs of a run were let go
pub freed_spool :
    (spool : PagedSpoolValue) (i n : ℕ) (run after : List PageValue) (account : AccountValue)
    → run ≡ get_or spool.runs i [] → after ≡ without_pairs n run → account ≡ with_free spool.account account.free
    → account.free + length after ≡ spool.account.free + length run
    → record { runs = set spool.runs i after; open_run = spool.open_run; account = account } ≡ with_freed spool i n
freed_spool spool i n run after account is gone kept counted =
    let here : after ≡ without_pairs n (get_or spool.runs i []) = gone ∙ ap (without_pairs n) is in
    let few = fewer_pages run n in
    let free : account.free ≡ spool.account.free + (length (get_or spool.runs i []) - length (without_pairs n (get_or spool.runs i []))) =
    rw (← is, ← gone) (omega (arith, counted, ap length gone, few)) in
    let made : List PageValue → AccountValue → PagedSpoolValue = λ pages a. record { runs = set spool.runs i pages; open_run = spool.open_run; account = a } in
    ap (λ pages. made pages account) here ∙ ap (made (without_pairs n (get_or spool.runs i []))) (kept ∙ ap (with_free spool.account) free)

pub ended_spool :
    (spool : PagedSpoolValue) (runs : List (List PageValue)) (chain : List PageValue) (account : AccountValue)
    → runs ≡ [] → chain ≡ [] → account ≡ with_free spool.account spool.account.quota
    → record { runs = runs; open_run = chain; account = account } ≡ without_runs spool
ended_spool spool runs chain account none empty whole =
    let made : List (List PageValue) → List PageValue → AccountValue → PagedSpoolValue = λ r o a. record { runs = r; open_run = o; account = a } in
    ap (λ r. made r chain account) none ∙ ap (λ o. made [] o account) empty ∙ ap (made [] []) whole
