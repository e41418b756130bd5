-- The rooms that are kept of a table's pages.
use Rattle.std.proofs.Common.{◌≡◌, inl, inr, ℕ, suc, ◌+◌, ◌<◌, Bool, List, [], ◌∷◌, ◌++◌, length, get_or, set, Some, None, refl, sym, ap, ◌∙◌, subst, arith}
use Rattle.std.proofs.Common.{get_or-set_same, get_or-set_other}
use Rattle.std.specs.Prelude.{position, is_some, nat_le, nat_lt, not, cond}
use Rattle.std.specs.List.{position_or_len}
use Rattle.std.proofs.lemmas.Bool.{cases_eq, cases_lt}
use Rattle.std.proofs.lemmas.List.{length-set, length-append, get_or_default, get_or_past, get_or_append_left, get_or_push}
use Rattle.keybytes.specs.declared.rid.Rid.{Rid}
use Rattle.slotted_page.specs.Slot.{Slot, free, held, row, IsRow, IsTaken}
use Rattle.slotted_page.specs.Page.{PageValue, slot_at, room_for}
use Rattle.heap_table.specs.HeapState.{takes}
use Rattle.heap_table.specs.PageLists.{RoomsAreOf, new_page, slot_in}

-- tests that agree at each place find the same place
first_same :
    {A B : Type 0} (p : A → Bool) (q : B → Bool) (xs : List A) (ys : List B) → length xs ≡ length ys
    → ((i : ℕ) (d : A) (e : B) → i < length xs → p (get_or xs i d) ≡ q (get_or ys i e)) → position_or_len p xs ≡ position_or_len q ys
first_same p q [] [] count same = refl
first_same p q [] (y ∷ ys) count same = absurd (omega (arith, count))
first_same p q (x ∷ xs) [] count same = absurd (omega (arith, count))
first_same p q (x ∷ xs) (y ∷ ys) count same =
    let here : p x ≡ q y = same 0 x y (omega arith) in
    let rest : position_or_len p xs ≡ position_or_len q ys = first_same p q xs ys (omega (arith, count)) (λ i d e l. same (suc i) d e (omega arith)) in
    ap (λ (b : Bool). cond (not b) (1 + position_or_len p xs) 0) here ∙ ap (λ (n : ℕ). cond (not (q y)) (1 + n) 0) rest

position_same :
    {A B : Type 0} (p : A → Bool) (q : B → Bool) (xs : List A) (ys : List B) → length xs ≡ length ys
    → ((i : ℕ) (d : A) (e : B) → i < length xs → p (get_or xs i d) ≡ q (get_or ys i e)) → position p xs ≡ position q ys
position_same p q xs ys count same =
    let first = first_same p q xs ys count same in
    ap (λ (k : ℕ). cond (nat_lt k (length xs)) (Some k) None) first
    ∙ ap (λ (n : ℕ). cond (nat_lt (position_or_len q ys) n) (Some (position_or_len q ys)) None) count

pub lowest_room : (pages : List PageValue) (rooms : List ℕ) (len : ℕ) → RoomsAreOf pages rooms → 0 < len
    → position (λ room. nat_le len room) rooms ≡ position (takes len) pages
lowest_room pages rooms len follow some =
    sym (position_same (takes len) (λ room. nat_le len room) pages rooms (sym follow.count)
    (λ i d e below. follow.takes i len d below some ∙ ap (nat_le len) (get_or_default rooms i 0 e (omega (arith, below, follow.count)))))

-- a page has changed
pub rooms_set :
    (pages : List PageValue) (rooms : List ℕ) (n room : ℕ) (page : PageValue) → RoomsAreOf pages rooms → n < length pages
    → ((len : ℕ) → 0 < len → is_some (room_for page len) ≡ nat_le len room) → RoomsAreOf (set pages n page) (set rooms n room)
rooms_set pages rooms n room page follow below takes_room = record {
  count = length-set rooms n room ∙ (follow.count ∙ sym (length-set pages n page));
  takes = λ i len d inside some. elim (cases_eq i n) [
    | inl same ↦
        let in_rooms : n < length rooms = omega (arith, below, follow.count) in
        rw same (ap (λ (q : PageValue). is_some (room_for q len)) (get_or-set_same pages n page d below)
        ∙ (takes_room len some ∙ sym (ap (nat_le len) (get_or-set_same rooms n room 0 in_rooms))))
    | inr other ↦
        ap (λ (q : PageValue). is_some (room_for q len)) (get_or-set_other pages n i page d other)
        ∙ (follow.takes i len d (omega (arith, inside, length-set pages n page)) some ∙ sym (ap (nat_le len) (get_or-set_other rooms n i room 0 other)))
  ];
}

-- there is a page more
pub rooms_pushed :
    (pages : List PageValue) (rooms : List ℕ) (room : ℕ) (page : PageValue) → RoomsAreOf pages rooms
    → ((len : ℕ) → 0 < len → is_some (room_for page len) ≡ nat_le len room) → RoomsAreOf (pages ++ page ∷ []) (rooms ++ room ∷ [])
rooms_pushed pages rooms room page follow takes_room = record {
  count = length-append rooms (room ∷ []) ∙ (ap (λ (n : ℕ). n + 1) follow.count ∙ sym (length-append pages (page ∷ [])));
  takes = λ i len d inside some. elim (cases_lt i (length pages)) [
    | inl old ↦
        ap (λ (q : PageValue). is_some (room_for q len)) (get_or_append_left pages (page ∷ []) d i old)
        ∙ (follow.takes i len d old some ∙ sym (ap (nat_le len) (get_or_append_left rooms (room ∷ []) 0 i (omega (arith, old, follow.count)))))
    | inr last ↦
        let count = length-append pages (page ∷ []) in
        let at : i ≡ length pages = omega (arith, inside, count, last) in
        let at_rooms : i ≡ length rooms = omega (arith, at, follow.count) in
        ap (λ (q : PageValue). is_some (room_for q len)) (get_or_push pages page d i (sym at))
        ∙ (takes_room len some ∙ sym (ap (nat_le len) (get_or_push rooms room 0 i (sym at_rooms))))
  ];
}

-- a page with a row or a held slot is there
pub page_inside : (pages : List PageValue) (rid : Rid) → IsTaken (slot_in pages rid) → rid.page < length pages
page_inside pages rid taken = elim (cases_lt rid.page (length pages)) [
  | inl below ↦ below
  | inr past ↦ absurd (subst IsTaken (ap (λ (p : PageValue). slot_at p rid.slot) (get_or_past pages rid.page (new_page 0) past)) taken)
]

pub row_inside : (pages : List PageValue) (rid : Rid) → IsRow (slot_in pages rid) → rid.page < length pages
row_inside pages rid has = page_inside pages rid (taken (slot_in pages rid) has) where
  taken : (x : Slot) → IsRow x → IsTaken x
  taken free e = e
  taken (held r) e = tt
  taken (row bytes r) e = tt
