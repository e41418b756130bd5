-- Digests of a worker, one after another.
use Rattle.std.proofs.Common.{◌≡◌, ℕ, ◌+◌, ◌*◌, ◌/◌, ◌%◌, ◌≤◌, Bool, true, false, List, [], ◌∷◌, ◌++◌, length, take, drop, append_assoc}
use Rattle.std.proofs.Common.{refl, sym, ap, ap₂, ◌∙◌, subst, arith, length-append}
use Rattle.std.proofs.lemmas.List.{length-take, drop-drop}
use Rattle.std.proofs.Math.Nat.{mod-add-div', add-mul-mod_self_right}
use Rattle.std.proofs.Math.Seq.{take-add}
use Rattle.keybytes.specs.declared.kind.Kind.{Kind}
use Rattle.heap_table.specs.Images.{ImageValue}
use Rattle.page_workers.specs.declared.copied.Copied.{Copied}
use Rattle.page_workers.specs.Copies.{is_for, images_of}
use Rattle.side_file.specs.Ends.{TakeEnd, after_taking}
use Rattle.page_workers.specs.IntakeValue.{IntakeValue}
use Rattle.page_workers.specs.Work.{StopsAt, next_images, after_digest}
use Rattle.page_workers.proofs.ManyPairs.{images-append, images_few}

abbrev ImageList : Type 0
ImageList = List ImageValue

no_copy : (copies : List Copied) → length copies ≡ 0 → copies ≡ []
no_copy [] none = refl
no_copy (copied ∷ copies) none = absurd (omega (arith, none))

-- the next copy, which is of its build and of these columns
pub next_one :
    (kinds : List Kind) (worker : IntakeValue) (copied : Copied) (rest : List Copied) → worker.end.known ≡ copied ∷ rest
    → is_for worker.build kinds copied ≡ true → next_images 1 kinds worker ≡ copied.image ∷ []
next_one kinds worker copied rest known own = rw (known, own) refl

-- it is, by the test of its build and its columns
pub next_tested :
    (kinds seen : List Kind) (build : ℕ) (worker : IntakeValue) (copied : Copied) (rest : List Copied) (test : Bool) → worker.end.known ≡ copied ∷ rest
    → build ≡ worker.build → seen ≡ kinds → test ≡ is_for build seen copied → test ≡ true → next_images 1 kinds worker ≡ copied.image ∷ []
next_tested kinds seen build worker copied rest test known number columns tested own =
    let is : is_for worker.build kinds copied ≡ true =
    ap₂ (λ (b : ℕ) (ks : List Kind). is_for b ks copied) (sym number) (sym columns) ∙ (sym tested ∙ own) in
    next_one kinds worker copied rest known is

-- the next copy, which is not
pub next_other :
    (kinds : List Kind) (worker : IntakeValue) (copied : Copied) (rest : List Copied) → worker.end.known ≡ copied ∷ rest
    → is_for worker.build kinds copied ≡ false → next_images 1 kinds worker ≡ []
next_other kinds worker copied rest known other = rw (known, other) refl

-- no next copy
pub next_missing : (kinds : List Kind) (worker : IntakeValue) → length worker.end.known ≡ 0 → next_images 1 kinds worker ≡ []
next_missing kinds worker none = ap (λ copies. images_of worker.build kinds (take 1 copies)) (no_copy worker.end.known none)

-- the next n copies, and the m after them
pub taking_more : {X : Type 0} (n m : ℕ) (end : TakeEnd X) → after_taking m (after_taking n end) ≡ after_taking (n + m) end
taking_more n m end =
    let received : (end.received ++ take n end.known) ++ take m (drop n end.known) ≡ end.received ++ take (n + m) end.known =
    append_assoc end.received (take n end.known) (take m (drop n end.known)) ∙ ap (λ xs. end.received ++ xs) (sym (take-add n m end.known)) in
    let known = drop-drop m n end.known in cc

-- the images of a build among the next n copies, and among the m after them
pub images_more :
    (n m : ℕ) (kinds : List Kind) (worker next : IntakeValue) → next.build ≡ worker.build → next.end ≡ after_taking n worker.end
    → next_images (n + m) kinds worker ≡ next_images n kinds worker ++ next_images m kinds next
images_more n m kinds worker next build end =
    ap (images_of worker.build kinds) (take-add n m worker.end.known)
    ∙ images-append worker.build kinds (take n worker.end.known) (take m (drop n worker.end.known))
    ∙ ap₂ (λ (b : ℕ) (e : TakeEnd Copied). next_images n kinds worker ++ images_of b kinds (take m e.known)) (sym build) (sym end)

-- whole runs don't count in an open run
pub whole_runs : (begun made : ℕ) → (begun + made % 4096) % 4096 ≡ (begun + made) % 4096
whole_runs begun made =
    let whole : made % 4096 + made / 4096 * 4096 ≡ made = mod-add-div' made 4096 in
    let apart : begun + made ≡ (begun + made % 4096) + made / 4096 * 4096 = omega (arith, whole) in
    sym (ap (λ n. n % 4096) apart ∙ add-mul-mod_self_right (begun + made % 4096) (made / 4096) 4096)

-- an open run goes on
pub open_more : (a b : ℕ) → (a % 4096 + b) % 4096 ≡ (a + b) % 4096
open_more a b =
    let turn : a % 4096 + b ≡ b + a % 4096 = omega arith in
    let all : b + a ≡ a + b = omega arith in
    ap (λ n. n % 4096) turn ∙ (whole_runs b a ∙ ap (λ n. n % 4096) all)

worker_of : ℕ → TakeEnd Copied → ℕ → ℕ → IntakeValue
worker_of build end taken sealed = record { build = build; end = end; taken = taken; sealed = sealed }

-- two workers that agree in each part
pub same_worker : (a b : IntakeValue) → a.build ≡ b.build → a.end ≡ b.end → a.taken ≡ b.taken → a.sealed ≡ b.sealed → a ≡ b
unfolding worker_of
same_worker a b build end taken sealed =
    let same : worker_of a.build a.end a.taken a.sealed ≡ worker_of b.build b.end b.taken b.sealed = cc in
    same

-- a digest of n copies, and then one of m
pub digest_more : (n m : ℕ) (kinds : List Kind) (worker : IntakeValue) → after_digest m kinds (after_digest n kinds worker) ≡ after_digest (n + m) kinds worker
digest_more n m kinds worker =
    let next : IntakeValue = after_digest n kinds worker in
    let first : ImageList = next_images n kinds worker in
    let last : ImageList = next_images m kinds next in
    let images : next_images (n + m) kinds worker ≡ first ++ last = images_more n m kinds worker next refl refl in
    let taken : (worker.taken + length first) + length last ≡ worker.taken + length (next_images (n + m) kinds worker) =
    omega (arith, ap length images, length-append first last) in
    same_worker (after_digest m kinds next) (after_digest (n + m) kinds worker) refl (taking_more n m worker.end) taken refl

-- n copies have at most n images of a build
pub next_few : (n : ℕ) (kinds : List Kind) (worker : IntakeValue) → length (next_images n kinds worker) ≤ n
next_few n kinds worker = omega (arith, images_few worker.build kinds (take n worker.end.known), length-take n worker.end.known)

-- nor more than were seen
pub next_known : (n : ℕ) (kinds : List Kind) (worker : IntakeValue) → length (next_images n kinds worker) ≤ length worker.end.known
next_known n kinds worker = omega (arith, images_few worker.build kinds (take n worker.end.known), length-take n worker.end.known)

-- it stops at the next copy
pub stops_here :
    (kinds : List Kind) (worker new : IntakeValue) (image : ImageValue) → next_images 1 kinds worker ≡ image ∷ [] → new.build ≡ worker.build
    → new.end ≡ after_taking 1 worker.end → new.taken ≡ worker.taken → new.sealed ≡ worker.sealed → StopsAt 0 kinds worker new
stops_here kinds worker new image one build end taken sealed = record {
  own = ap (λ (images : ImageList). length images) one;
  left = same_worker new (record (after_digest 0 kinds worker) { end = after_taking (0 + 1) worker.end }) build end (omega (arith, taken)) sealed;
}

-- or at the next one behind the first n
pub stops_behind :
    (n : ℕ) (kinds seen : List Kind) (worker middle new : IntakeValue) → middle ≡ after_digest n kinds worker → seen ≡ kinds → StopsAt 0 seen middle new
    → StopsAt n kinds worker new
stops_behind n kinds seen worker middle new is same stops =
    let next = after_digest n kinds worker in
    let here : StopsAt 0 kinds next new = subst (λ (ks : List Kind). StopsAt 0 ks next new) same (subst (λ (w : IntakeValue). StopsAt 0 seen w new) is stops) in
    let left : new ≡ record (after_digest 0 kinds next) { end = after_taking 1 next.end } = here.left in
    let taken = ap (λ (w : IntakeValue). w.taken) left in
    record {
      own = here.own;
      left = same_worker new (record next { end = after_taking (n + 1) worker.end }) (ap (λ (w : IntakeValue). w.build) left)
          (ap (λ (w : IntakeValue). w.end) left ∙ taking_more n 1 worker.end) (omega (arith, taken)) (ap (λ (w : IntakeValue). w.sealed) left);
    }
