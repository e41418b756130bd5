-- The steps of a walk over the pages of a run.
use Rattle.std.proofs.Common.{◌≡◌, ℕ, ◌+◌, ◌-◌, ◌≤◌, ◌<◌, List, [], ◌∷◌, ◌++◌, length, take, drop, refl, sym, ap, ◌∙◌, subst, arith, append_assoc}
use Rattle.std.proofs.Common.{ltb, inl, inr}
use Rattle.std.specs.List.{All}
use Rattle.std.proofs.lemmas.Bool.{lt-ltb, le-ltb, cond-true, cases_lt}
use Rattle.std.proofs.lemmas.List.{take-append-drop, length-append, length-drop, length-take-le, drop_all, drop_at, drop-drop, drop-append-le}
use Rattle.std.proofs.lemmas.List.Elements.{All-head, All-tail, All-cons}
use Rattle.spool_ledger.specs.Accounts.{AccountValue, with_free}
use Rattle.run_spool.specs.Pages.{PageValue, without_first}
use Rattle.run_spool.specs.Runs.{pairs_of, first_of, last_of, with_first, HasPairs, without_pairs, IsRun}
use Rattle.run_spool.proofs.Chains.{count_append, count_first, count_last, count_one}

-- the same frames, parted elsewhere
pub parted : {passed ahead : List PageValue} {before len : ℕ} (p a : List PageValue) (n : ℕ) → IsRun passed ahead before len →
    p ++ a ≡ passed ++ ahead → n ≡ length (pairs_of p) → IsRun p a n len
parted {passed = passed} {ahead = ahead} p a n run same is =
    let small = run.small in
    let long = ap length same in
    record {
      before_is = is;
      len_is = run.len_is ∙ ap (λ (xs : List PageValue). length (pairs_of xs)) (sym same);
      each = subst (λ (xs : List PageValue). All HasPairs xs) (sym same) run.each;
      small = omega (arith, long, length-append p a, length-append passed ahead);
    }

-- a step back, over the last page that was passed
pub record Back (passed ahead : List PageValue) (before len : ℕ) : Type 0 where
  pub there : 0 < length passed
  pub fewer : length (last_of passed).pairs ≤ before
  pub same : take (length passed - 1) passed ++ (drop (length passed - 1) passed ++ ahead) ≡ passed ++ ahead
  pub run : IsRun (take (length passed - 1) passed) (drop (length passed - 1) passed ++ ahead) (before - length (last_of passed).pairs) len
  pub nearer : length (take (length passed - 1) passed) < length passed

some_passed : (passed : List PageValue) (before : ℕ) → before ≡ length (pairs_of passed) → 0 < before → 0 < length passed
some_passed [] before is lt = absurd (omega arith)
some_passed (x ∷ xs) before is lt = omega arith

pub back : {passed ahead : List PageValue} {before len : ℕ} → IsRun passed ahead before len → 0 < before → Back passed ahead before len
back {passed = passed} {ahead = ahead} {before = before} run lt =
    let is = run.before_is in
    let there : 0 < length passed = some_passed passed before is lt in
    let k = length passed - 1 in
    let last : k + 1 ≡ length passed = omega arith in
    let count = count_last passed k last in
    let same : take k passed ++ (drop k passed ++ ahead) ≡ passed ++ ahead =
    sym (append_assoc (take k passed) (drop k passed) ahead) ∙ ap (λ (xs : List PageValue). xs ++ ahead) (take-append-drop k passed) in
    record {
      there = there;
      fewer = omega arith;
      same = same;
      run = parted (take k passed) (drop k passed ++ ahead) (before - length (last_of passed).pairs) run same (omega arith);
      nearer = omega (arith, length-take-le k passed (omega arith));
    }

-- a step on, over the first page ahead
pub record Forth (passed ahead : List PageValue) (before len : ℕ) : Type 0 where
  pub there : 0 < length ahead
  pub same : (passed ++ take 1 ahead) ++ drop 1 ahead ≡ passed ++ ahead
  pub run : IsRun (passed ++ take 1 ahead) (drop 1 ahead) (before + length (first_of ahead).pairs) len
  pub nearer : length (drop 1 ahead) < length ahead

pub forth : {passed : List PageValue} {before len : ℕ} (ahead : List PageValue) → IsRun passed ahead before len → before < len
    → Forth passed ahead before len
forth {passed = passed} {before = before} {len = len} [] run lt =
    let is = run.before_is in
    let all = run.len_is in
    absurd (omega (arith, count_append passed []))
forth {passed = passed} {before = before} {len = len} (x ∷ xs) run lt =
    let is = run.before_is in
    let same : (passed ++ x ∷ []) ++ xs ≡ passed ++ x ∷ xs = append_assoc passed (x ∷ []) xs in
    record {
      there = omega arith;
      same = same;
      run = parted (passed ++ x ∷ []) xs (before + length x.pairs) run same (omega (arith, count_append passed (x ∷ []), count_one x));
      nearer = omega arith;
    }

-- pages that each have a pair lose none where no pair is let go
pub without_none : (run : List PageValue) → All HasPairs run → without_pairs 0 run ≡ run
without_none [] each = refl
without_none (p ∷ ps) each =
    cond-true (ltb 0 (length p.pairs)) (p ∷ ps) (without_pairs (0 - length p.pairs) ps) (lt-ltb 0 (length p.pairs) (All-head HasPairs p ps each))

-- the last step of letting pairs go, on a page that keeps some
pub free_part : (chain : List PageValue) (left : ℕ) → left < length (first_of chain).pairs →
    with_first chain (without_first (first_of chain) left) ≡ without_pairs left chain
free_part [] left lt = absurd (omega arith)
free_part (page ∷ run) left lt =
    let less = without_pairs (left - length page.pairs) run in
    sym (cond-true (ltb left (length page.pairs)) (without_first page left ∷ run) less (lt-ltb left (length page.pairs) lt))

-- a step of letting pairs go, by a whole page
pub record FreeWhole (chain : List PageValue) (left : ℕ) : Type 0 where
  pub there : 0 < length chain
  pub some : 0 < length (first_of chain).pairs
  pub pages : without_pairs (left - length (first_of chain).pairs) (drop 1 chain) ≡ without_pairs left chain
  pub within : left - length (first_of chain).pairs ≤ length (pairs_of (drop 1 chain))
  pub each : All HasPairs (drop 1 chain)
  pub shorter : length (drop 1 chain) + 1 ≡ length chain

pub free_whole : (chain : List PageValue) (left : ℕ) → 0 < left → length (first_of chain).pairs ≤ left →
    left ≤ length (pairs_of chain) →
    All HasPairs chain → FreeWhole chain left
free_whole [] left lt le all each = absurd (omega arith)
free_whole (x ∷ xs) left lt le all each = record {
  there = omega arith;
  some = All-head HasPairs x xs each;
  pages = (let e = le-ltb left (length x.pairs) le in rw e refl);
  within = omega (arith, count_first x xs);
  each = All-tail HasPairs x xs each;
  shorter = omega arith;
}

-- the pairs of a run whose first n pairs are let go
pub pairs_without : (run : List PageValue) (n : ℕ) → pairs_of (without_pairs n run) ≡ drop n (pairs_of run)
pairs_without [] n = sym (drop_all n [] (omega arith))
pairs_without (p ∷ ps) n =
    elim (cases_lt n (length p.pairs)) [
      | inl lt ↦
          rw (lt-ltb n (length p.pairs) lt) (sym (drop-append-le n p.pairs (pairs_of ps) (omega arith)))
      | inr le ↦
          (let m = n - length p.pairs in
          let e : length p.pairs + m ≡ n = omega arith in
          rw (le-ltb n (length p.pairs) le)
          (pairs_without ps m ∙ ap (drop m) (sym (drop_at p.pairs (pairs_of ps) (length p.pairs) refl))
          ∙ drop-drop m (length p.pairs) (p.pairs ++ pairs_of ps) ∙ ap (λ (k : ℕ). drop k (p.pairs ++ pairs_of ps)) e))
    ]

-- each page of it has a pair
pub each_without : (run : List PageValue) (n : ℕ) → All HasPairs run → All HasPairs (without_pairs n run)
each_without [] n each = each
each_without (p ∷ ps) n each =
    elim (cases_lt n (length p.pairs)) [
      | inl lt ↦
          rw (lt-ltb n (length p.pairs) lt) (All-cons HasPairs (without_first p n) ps (omega (arith, length-drop n p.pairs)) (All-tail HasPairs p ps each))
      | inr le ↦ rw (le-ltb n (length p.pairs) le) (each_without ps (n - length p.pairs) (All-tail HasPairs p ps each))
    ]

-- it has no more pages
pub fewer_pages : (run : List PageValue) (n : ℕ) → length (without_pairs n run) ≤ length run
fewer_pages [] n = omega arith
fewer_pages (p ∷ ps) n =
    elim (cases_lt n (length p.pairs)) [
      | inl lt ↦ rw (lt-ltb n (length p.pairs) lt) (omega arith)
      | inr le ↦ rw (le-ltb n (length p.pairs) le) (omega (arith, fewer_pages ps (n - length p.pairs)))
    ]

-- an account that was given pages
pub given_more : (a b c : AccountValue) (n : ℕ) → c ≡ with_free b n → b ≡ with_free a b.free → c ≡ with_free a c.free
given_more a b c n e f = e ∙ ap (λ (x : AccountValue). with_free x n) f ∙ ap (with_free a) (sym (ap (λ (x : AccountValue). x.free) e))

-- a run without its first n pairs, which has all its pages ahead
pub freed_run : {passed ahead : List PageValue} {before len : ℕ} (n : ℕ) (none chain : List PageValue)
    → IsRun passed ahead before len → n ≤ len →
    none ≡ [] → chain ≡ without_pairs n (passed ++ ahead) → IsRun none chain 0 (len - n)
freed_run {passed = passed} {ahead = ahead} {len = len} n none chain run le is_none pages =
    let small = run.small in
    let all = run.len_is in
    let e = ap length (pairs_without (passed ++ ahead) n) in
    let short : length chain ≤ length (passed ++ ahead) =
    omega (arith, ap length pages, fewer_pages (passed ++ ahead) n) in
    let parts = length-append passed ahead in
    let count : len - n ≡ length (pairs_of chain) =
    rw pages (omega (arith, e, length-drop n (pairs_of (passed ++ ahead)))) in
    rw is_none (record {
      before_is = refl;
      len_is = count;
      each = rw pages (each_without (passed ++ ahead) n run.each);
      small = omega arith;
    })

-- a run without all its pairs has no page
pub without_all : (run : List PageValue) (n : ℕ) → n ≡ length (pairs_of run) → without_pairs n run ≡ []
without_all [] n e = refl
without_all (p ∷ ps) n e =
    let parts = length-append p.pairs (pairs_of ps) in
    rw (le-ltb n (length p.pairs) (omega arith)) (without_all ps (n - length p.pairs) (omega arith))
