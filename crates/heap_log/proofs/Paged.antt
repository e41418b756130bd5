-- The heads of RIDs in the arrays of their pages.
use Rattle.std.proofs.Common.{◌≡◌, ℕ, zero, suc, ◌+◌, ◌-◌, ◌<◌, ◌≤◌, Bool, true, false, List, [], ◌∷◌, ◌++◌, length, map, get_or, set, take, replicate}
use Rattle.std.proofs.Common.{refl, sym, ap, ◌∙◌, arith, inl, inr}
use Rattle.std.specs.Prelude.{◌==◌, if◌then◌else◌}
use Rattle.std.proofs.lemmas.Bool.{cases_eq, cases_lt, and_from, eq-eqb, false_from_ne_true}
use Rattle.std.proofs.lemmas.List.{get_or-set_same, get_or-set_other, get_or_read, get_or_past, length-set, append_assoc, length-append, length-replicate}
use Rattle.std.proofs.lemmas.List.{map-append, take_all, length-map}
use Rattle.keybytes.specs.Rids.{same_rid}
use Rattle.keybytes.specs.declared.rid.Rid.{Rid}
use Rattle.keybytes.proofs.SameRids.{same_rid-true}
use Rattle.heap_log.specs.declared.rid_head.RidHead.{RidHead}
use Rattle.heap_log.specs.PageHeads.{no_head, rid_head_in, places_of, IsReserved}
use Rattle.heap_log.specs.Places.{HasPlace}

-- how many slots of a page have places
pub places_at : (pages : List (List RidHead)) (page : ℕ) → get_or (places_of pages) page 0 ≡ length (get_or pages page [])
places_at [] page = refl
places_at (slots ∷ pages) zero = refl
places_at (slots ∷ pages) (suc page) = places_at pages page

pub place_in : (pages : List (List RidHead)) (rid : Rid) → HasPlace rid (places_of pages) → rid.slot < length (get_or pages rid.page [])
place_in pages rid place = omega (arith, place, places_at pages rid.page)

pub place_from : (pages : List (List RidHead)) (rid : Rid) → rid.slot < length (get_or pages rid.page []) → HasPlace rid (places_of pages)
place_from pages rid place = omega (arith, place, places_at pages rid.page)

-- a place is on a page that is there
pub page_of_place : (pages : List (List RidHead)) (rid : Rid) → HasPlace rid (places_of pages) → rid.page < length pages
page_of_place pages rid place =
    elim (cases_lt rid.page (length pages)) [
      | inl less ↦ less
      | inr past ↦
          let none : length (get_or pages rid.page []) ≡ 0 = ap length (get_or_past pages rid.page [] past) in
          absurd (omega (arith, none, place_in pages rid place))
    ]

-- a RID with another head has a place
pub place_of_head : (pages : List (List RidHead)) (rid : Rid) → (rid_head_in pages rid ≡ no_head → ⊥) → HasPlace rid (places_of pages)
place_of_head pages rid some =
    elim (cases_lt rid.slot (length (get_or pages rid.page []))) [
      | inl less ↦ place_from pages rid less
      | inr past ↦ absurd (some (get_or_past (get_or pages rid.page []) rid.slot no_head past))
    ]

if-true : {X : Type 0} (b : Bool) (x y : X) → b ≡ true → (if b then x else y) ≡ x
if-true b x y e = rw e refl

if-false : {X : Type 0} (b : Bool) (x y : X) → b ≡ false → (if b then x else y) ≡ y
if-false b x y e = rw e refl

-- a page with one head set, put among the others
pub head_set : (pages : List (List RidHead)) (slots : List RidHead) (rid : Rid) (head : RidHead) → slots ≡ get_or pages rid.page slots
    → HasPlace rid (places_of pages) → (other : Rid)
    → rid_head_in (set pages rid.page (set slots rid.slot head)) other ≡ (if same_rid rid other then head else rid_head_in pages other)
head_set pages slots rid head is place other =
    let new = set slots rid.slot head in
    let page : rid.page < length pages = page_of_place pages rid place in
    let here : slots ≡ get_or pages rid.page [] = get_or_read pages rid.page slots page is [] in
    let inside : rid.slot < length slots = rw here (place_in pages rid place) in
    let was = rid_head_in pages other in
    elim (cases_eq other.page rid.page) [
      | inl p ↦
          let found : get_or (set pages rid.page new) other.page [] ≡ new =
          ap (λ n. get_or (set pages rid.page new) n []) p ∙ get_or-set_same pages rid.page new [] page in
          elim (cases_eq other.slot rid.slot) [
            | inl s ↦
                let one : same_rid rid other ≡ true =
                and_from (rid.page == other.page) (rid.slot == other.slot) (eq-eqb rid.page other.page (sym p)) (eq-eqb rid.slot other.slot (sym s)) in
                ap (λ list. get_or list other.slot no_head) found ∙ ap (λ n. get_or new n no_head) s ∙ get_or-set_same slots rid.slot head no_head inside
                ∙ sym (if-true (same_rid rid other) head was one)
            | inr ne ↦
                let two : same_rid rid other ≡ false =
                false_from_ne_true (same_rid rid other) (λ e. ne (ap (λ (r : Rid). r.slot) (sym (same_rid-true rid other e)))) in
                let same : get_or slots other.slot no_head ≡ was =
                ap (λ list. get_or list other.slot no_head) (here ∙ ap (λ n. get_or pages n []) (sym p)) in
                ap (λ list. get_or list other.slot no_head) found ∙ get_or-set_other slots rid.slot other.slot head no_head ne ∙ same
                ∙ sym (if-false (same_rid rid other) head was two)
          ]
      | inr ne ↦
          let two : same_rid rid other ≡ false =
          false_from_ne_true (same_rid rid other) (λ e. ne (ap (λ (r : Rid). r.page) (sym (same_rid-true rid other e)))) in
          ap (λ list. get_or list other.slot no_head) (get_or-set_other pages rid.page other.page new [] ne)
          ∙ sym (if-false (same_rid rid other) head was two)
    ]

-- the places stay where a page is put among the others that has as many as it had
pub places_set : (pages : List (List RidHead)) (page : ℕ) (new : List RidHead) → length new ≡ length (get_or pages page [])
    → places_of (set pages page new) ≡ places_of pages
places_set [] page new e = refl
places_set (slots ∷ pages) zero new e = ap (λ n. n ∷ places_of pages) e
places_set (slots ∷ pages) (suc page) new e = ap (λ (list : List ℕ). length slots ∷ list) (places_set pages page new e)

pub places_kept : (pages : List (List RidHead)) (slots : List RidHead) (rid : Rid) (head : RidHead) → slots ≡ get_or pages rid.page slots
    → HasPlace rid (places_of pages) → places_of (set pages rid.page (set slots rid.slot head)) ≡ places_of pages
places_kept pages slots rid head is place =
    let here : slots ≡ get_or pages rid.page [] = get_or_read pages rid.page slots (page_of_place pages rid place) is [] in
    places_set pages rid.page (set slots rid.slot head) (length-set slots rid.slot head ∙ ap length here)

-- a list with its default at the end is the same at every place
pub at_padded : {X : Type 0} (xs : List X) (n k : ℕ) (d : X) → get_or (xs ++ replicate n d) k d ≡ get_or xs k d
at_padded [] zero k d = refl
at_padded [] (suc n) zero d = refl
at_padded [] (suc n) (suc k) d = at_padded [] n k d
at_padded (x ∷ xs) n zero d = refl
at_padded (x ∷ xs) n (suc k) d = at_padded xs n k d

-- what is made of a list of which some are all, and of copies at its end
pub made_padded : {X Y : Type 0} (f : X → Y) (xs : List X) (n : ℕ) (x : X) → length xs ≤ n
    → map f (take n xs ++ replicate (n - length xs) x) ≡ map f xs ++ replicate (n - length (map f xs)) (f x)
made_padded f xs n x less =
    map-append f (take n xs) (replicate (n - length xs) x)
    ∙ ap (λ list. list ++ map f (replicate (n - length xs) x)) (ap (map f) (take_all n xs less))
    ∙ ap (λ list. map f xs ++ list) (made_copies f (n - length xs) x ∙ ap (λ k. replicate (n - k) (f x)) (sym (length-map xs f)))
  where
    made_copies : {X Y : Type 0} (f : X → Y) (n : ℕ) (x : X) → map f (replicate n x) ≡ replicate n (f x)
    made_copies f zero x = refl
    made_copies f (suc n) x = ap (λ list. f x ∷ list) (made_copies f n x)

-- pages that have the slots that they had, and more, without a head
pub record Grown (old new : List (List RidHead)) : Type 0 where
  pub longer : (page : ℕ) → length (get_or old page []) ≤ length (get_or new page [])
  pub heads : (page slot : ℕ) → get_or (get_or new page []) slot no_head ≡ get_or (get_or old page []) slot no_head

pub reserved : (rid : Rid) (old new : List (List RidHead)) → Grown old new → rid.slot < length (get_or new rid.page []) → IsReserved rid old new
reserved rid old new grown place = record {
  place = place_from new rid place;
  kept = λ other had. let more = grown.longer other.page in place_from new other (omega (arith, more, place_in old other had));
  heads = λ other. grown.heads other.page other.slot;
}

-- a page that is there gets places for the slots up to one
pub page_reserved : (pages : List (List RidHead)) (slots new : List RidHead) (rid : Rid) → rid.page < length pages → slots ≡ get_or pages rid.page slots
    → new ≡ slots ++ replicate (rid.slot + 1 - length slots) no_head → IsReserved rid pages (set pages rid.page new)
page_reserved pages slots new rid page is more =
    let here : slots ≡ get_or pages rid.page [] = get_or_read pages rid.page slots page is [] in
    let count : length new ≡ length slots + (rid.slot + 1 - length slots) =
    ap length more ∙ length-append slots (replicate (rid.slot + 1 - length slots) no_head)
    ∙ ap (λ n. length slots + n) (length-replicate (rid.slot + 1 - length slots) no_head) in
    let at : get_or (set pages rid.page new) rid.page [] ≡ new = get_or-set_same pages rid.page new [] page in
    reserved rid pages (set pages rid.page new)
    (record {
      longer = λ p. elim (cases_eq p rid.page) [
        | inl e ↦ rw (e, at, ← here) (omega (arith, count))
        | inr ne ↦ rw (get_or-set_other pages rid.page p new [] ne) (omega arith)
      ];
      heads = λ p slot. elim (cases_eq p rid.page) [
        | inl e ↦ rw (e, at, ← here, more) (at_padded slots (rid.slot + 1 - length slots) slot no_head)
        | inr ne ↦ ap (λ list. get_or list slot no_head) (get_or-set_other pages rid.page p new [] ne)
      ];
    })
    (rw at (omega (arith, count)))

-- pages that come after those that are there leave them their slots
longer_pages : (pages more : List (List RidHead)) (page : ℕ) → length (get_or pages page []) ≤ length (get_or (pages ++ more) page [])
longer_pages [] more page = omega arith
longer_pages (slots ∷ pages) more zero = omega arith
longer_pages (slots ∷ pages) more (suc page) = longer_pages pages more page

-- and the heads, where they have none
same_heads : (pages more : List (List RidHead)) → ((page slot : ℕ) → get_or (get_or more page []) slot no_head ≡ no_head) → (page slot : ℕ)
    → get_or (get_or (pages ++ more) page []) slot no_head ≡ get_or (get_or pages page []) slot no_head
same_heads [] more none page slot = none page slot
same_heads (slots ∷ pages) more none zero slot = refl
same_heads (slots ∷ pages) more none (suc page) slot = same_heads pages more none page slot

-- pages without a slot, and one without a head
no_heads : (below count page slot : ℕ) → get_or (get_or (replicate below [] ++ replicate count no_head ∷ []) page []) slot no_head ≡ no_head
no_heads zero count zero slot = at_padded [] count slot no_head
no_heads zero count (suc page) slot = refl
no_heads (suc below) count zero slot = refl
no_heads (suc below) count (suc page) slot = no_heads below count page slot

last_page : (pages : List (List RidHead)) (below page : ℕ) (slots : List RidHead) → page ≡ length pages + below
    → get_or (pages ++ (replicate below [] ++ slots ∷ [])) page [] ≡ slots
last_page [] zero page slots is = rw is refl
last_page [] (suc below) zero slots is = absurd (omega arith)
last_page [] (suc below) (suc page) slots is = last_page [] below page slots (omega arith)
last_page (s ∷ pages) below zero slots is = absurd (omega arith)
last_page (s ∷ pages) below (suc page) slots is = last_page pages below page slots (omega arith)

-- the pages up to that of a RID are added
pub pages_reserved : (old new : List (List RidHead)) (slots : List RidHead) (rid : Rid) (below : ℕ) → rid.page ≡ length old + below
    → new ≡ old ++ replicate below [] ++ slots ∷ [] → slots ≡ replicate (rid.slot + 1) no_head → IsReserved rid old new
pages_reserved old new slots rid below is more made =
    let count = rid.slot + 1 in
    let added : List (List RidHead) = replicate below [] ++ replicate count no_head ∷ [] in
    let all : new ≡ old ++ added =
    more ∙ append_assoc old (replicate below []) (slots ∷ []) ∙ ap (λ (s : List RidHead). old ++ (replicate below [] ++ s ∷ [])) made in
    let last = last_page old below rid.page (replicate count no_head) is in
    rw all (reserved rid old (old ++ added) (record { longer = longer_pages old added; heads = same_heads old added (no_heads below count) })
    (rw last (omega (arith, length-replicate count no_head))))
