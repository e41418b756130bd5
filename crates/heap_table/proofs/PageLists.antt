-- Lists of pages: pages by a function of the RID, and pages with another slot at a RID.
use Rattle.std.proofs.Common.{◌≡◌, ◌≢◌, inl, inr, ℕ, zero, suc, ◌+◌, ◌<◌, ◌≤◌, max, Bool, true, false, List, [], ◌∷◌, ◌++◌, map, length, get_or, set, refl, sym}
use Rattle.std.proofs.Common.{ap, ◌∙◌, subst, arith, get_or-set_same, get_or-set_other}
use Rattle.std.specs.Prelude.{nat_lt, cond, Some}
use Rattle.std.proofs.Math.Seq.{set-append_seam}
use Rattle.std.specs.List.{range_with_len}
use Rattle.std.proofs.lemmas.Bool.Decides.{nat_tests}
use Rattle.std.proofs.lemmas.Bool.{cases_eq, cases_lt}
use Rattle.std.proofs.lemmas.List.{length-set, set-get_or, ext_get_or, get_or_default, get_or_past, length-append, get_or_append_left, get_or_push}
use Rattle.std.proofs.lemmas.Option.{same_Some}
use Rattle.std.proofs.lemmas.List.FromFn.{fill_by_all, length-map-range_with_len, get_or-map-range_with_len}
use Rattle.keybytes.specs.declared.rid.Rid.{Rid}
use Rattle.slotted_page.specs.Slot.{Slot, free, held, row, put, is_held, reserve_of, IsHeld}
use Rattle.slotted_page.specs.Page.{PageValue, slot_at, with_slot, room_for}
use Rattle.heap_table.specs.Pages.{rid_at}
use Rattle.heap_table.specs.PageLists.{new_page, page_or_new, slot_in, page_with_slot, with_slot_in, page_by, pages_by}
use Rattle.slotted_page.proofs.PageValues.{put_same, get_put}

map_same : {X Y : Type 0} (f g : X → Y) (xs : List X) → ((x : X) → f x ≡ g x) → map f xs ≡ map g xs
map_same f g [] same = refl
map_same f g (x ∷ xs) same = rw (same x, map_same f g xs same) refl

same_page : {xs ys : List Slot} {m n : ℕ} → xs ≡ ys → m ≡ n
    → (let p : PageValue = record { slots = xs; limit = m } in p) ≡ (let q : PageValue = record { slots = ys; limit = n } in q)
same_page {xs = xs} {ys = ys} {m = m} {n = n} e f =
    ap (λ (zs : List Slot). let p : PageValue = record { slots = zs; limit = m } in p) e
    ∙ ap (λ (k : ℕ). let p : PageValue = record { slots = ys; limit = k } in p) f

length_put : (slots : List Slot) (s : ℕ) (x : Slot) → s ≤ length slots → length (put slots s x) ≡ max (length slots) (s + 1)
length_put [] s x within = let none : s ≡ 0 = omega arith in rw none refl
length_put (y ∷ slots) zero x within = omega arith
length_put (y ∷ slots) (suc s) x within = let rest = length_put slots s x (omega arith) in omega arith

get_or_put_other : (slots : List Slot) (s k : ℕ) (x d : Slot) → s ≤ length slots → k ≢ s → k < length slots → get_or (put slots s x) k d ≡ get_or slots k d
get_or_put_other [] s k x d within other below = absurd (omega arith)
get_or_put_other (y ∷ slots) zero zero x d within other below = absurd (other refl)
get_or_put_other (y ∷ slots) zero (suc k) x d within other below = refl
get_or_put_other (y ∷ slots) (suc s) zero x d within other below = refl
get_or_put_other (y ∷ slots) (suc s) (suc k) x d within other below =
    get_or_put_other slots s k x d (omega arith) (λ e. other (ap suc e)) (omega arith)

pub length_page_by : (f : Rid → Slot) (m : ℕ → ℕ) (limit page : ℕ) → length (page_by f m limit page).slots ≡ m page
length_page_by f m limit page = length-map-range_with_len (λ k. f (rid_at page k)) 0 (m page)

pub get_or_page_by :
    (f : Rid → Slot) (m : ℕ → ℕ) (limit page k : ℕ) (d : Slot) → k < m page
    → get_or (page_by f m limit page).slots k d ≡ f (rid_at page k)
get_or_page_by f m limit page k d below =
    get_or-map-range_with_len (λ k. f (rid_at page k)) 0 (m page) k k d below (omega arith)

pub length_pages_by : (f : Rid → Slot) (m : ℕ → ℕ) (c limit : ℕ) → length (pages_by f m c limit) ≡ c
length_pages_by f m c limit = length-map-range_with_len (page_by f m limit) 0 c

pub get_or_pages_by :
    (f : Rid → Slot) (m : ℕ → ℕ) (c limit p : ℕ) (d : PageValue) → p < c
    → get_or (pages_by f m c limit) p d ≡ page_by f m limit p
get_or_pages_by f m c limit p d below = get_or-map-range_with_len (page_by f m limit) 0 c p p d below (omega arith)

-- the page of that number, of those that are there or the next new one
pub page_or_new_pages_by :
    (f : Rid → Slot) (m : ℕ → ℕ) (c limit p : ℕ) → p ≤ c → (c ≤ p → m p ≡ 0)
    → page_or_new (pages_by f m c limit) limit p ≡ page_by f m limit p
page_or_new_pages_by f m c limit p within none = elim (cases_lt p c) [
  | inl below ↦ get_or_pages_by f m c limit p (new_page limit) below
  | inr past ↦
      get_or_past (pages_by f m c limit) p (new_page limit) (omega (arith, length_pages_by f m c limit, past))
      ∙ ap (λ (n : ℕ). let p : PageValue = record { slots = map (λ k. f (rid_at p k)) (range_with_len 0 n); limit = limit } in p)
      (sym (none past))
]

-- a page whose slots hold the same
page_by_same :
    (f g : Rid → Slot) (m n : ℕ → ℕ) (limit p : ℕ) → ((k : ℕ) → f (rid_at p k) ≡ g (rid_at p k)) → m p ≡ n p
    → page_by f m limit p ≡ page_by g n limit p
page_by_same f g m n limit p slots count =
    same_page (ap (λ (j : ℕ). map (λ k. f (rid_at p k)) (range_with_len 0 j)) count
    ∙ map_same (λ k. f (rid_at p k)) (λ k. g (rid_at p k)) (range_with_len 0 (n p)) slots) refl

pub pages_by_same :
    (f g : Rid → Slot) (m n : ℕ → ℕ) (c limit : ℕ) → ((rid : Rid) → f rid ≡ g rid) → ((p : ℕ) → m p ≡ n p)
    → pages_by f m c limit ≡ pages_by g n c limit
pages_by_same f g m n c limit slots counts =
    map_same (page_by f m limit) (page_by g n limit) (range_with_len 0 c)
    (λ p. page_by_same f g m n limit p (λ k. slots (rid_at p k)) (counts p))

-- the page of a RID whose slot changes
page_by_changed :
    (f g : Rid → Slot) (m n : ℕ → ℕ) (limit : ℕ) (rid : Rid) → ((other : Rid) → other ≢ rid → g other ≡ f other)
    → rid.slot ≤ m rid.page → n rid.page ≡ max (m rid.page) (rid.slot + 1)
    → with_slot (page_by f m limit rid.page) rid.slot (g rid) ≡ page_by g n limit rid.page
page_by_changed f g m n limit rid others within grown =
    let slots = (page_by f m limit rid.page).slots in
    let len : length slots ≡ m rid.page = length_page_by f m limit rid.page in
    let there : rid.slot ≤ length slots = omega (arith, len, within) in
    let count : length (put slots rid.slot (g rid)) ≡ n rid.page =
    length_put slots rid.slot (g rid) there ∙ (ap (λ (j : ℕ). max j (rid.slot + 1)) len ∙ sym grown) in
    same_page (ext_get_or free (put slots rid.slot (g rid)) (page_by g n limit rid.page).slots (count ∙ sym (length_page_by g n limit rid.page))
    (λ k below.
    let in_new : k < n rid.page = omega (arith, below, count) in
    rw (get_or_page_by g n limit rid.page k free in_new) (elim (cases_eq k rid.slot) [
      | inl same ↦ rw same (get_put slots rid.slot (g rid) there)
      | inr differs ↦
          let in_old : k < length slots = omega (arith, below, count, grown, len, within) in
          get_or_put_other slots rid.slot k (g rid) free there differs in_old
          ∙ (get_or_page_by f m limit rid.page k free (omega (arith, in_old, len))
          ∙ sym (others (rid_at rid.page k) (λ e. differs (ap (λ (r : Rid). r.slot) e))))
    ]))) refl

-- any other page
page_by_other :
    (f g : Rid → Slot) (m n : ℕ → ℕ) (limit : ℕ) (rid : Rid) (p : ℕ) → ((other : Rid) → other ≢ rid → g other ≡ f other)
    → ((p : ℕ) → p ≢ rid.page → n p ≡ m p) → p ≢ rid.page → page_by f m limit p ≡ page_by g n limit p
page_by_other f g m n limit rid p others counts differs =
    page_by_same f g m n limit p (λ k. sym (others (rid_at p k) (λ e. differs (ap (λ (r : Rid). r.page) e))))
    (sym (counts p differs))

-- another slot on a page that is there
with_slot_there :
    (pages : List PageValue) (limit : ℕ) (rid : Rid) (slot : Slot) (d : PageValue) → rid.page < length pages
    → with_slot_in pages limit rid slot ≡ set pages rid.page (with_slot (get_or pages rid.page d) rid.slot slot)
with_slot_there pages limit rid slot d below =
    let test : nat_lt rid.page (length pages) ≡ true = grind (arith, nat_tests, below) in
    rw test (ap (λ (page : PageValue). set pages rid.page (with_slot page rid.slot slot)) (get_or_default pages rid.page (new_page limit) d below))

-- a slot on the next new page
with_slot_new :
    (pages : List PageValue) (limit : ℕ) (rid : Rid) (slot : Slot) → length pages ≤ rid.page
    → with_slot_in pages limit rid slot ≡ pages ++ with_slot (new_page limit) rid.slot slot ∷ []
with_slot_new pages limit rid slot past =
    let test : nat_lt rid.page (length pages) ≡ false = grind (arith, nat_tests, past) in
    rw test (ap (λ (page : PageValue). pages ++ with_slot page rid.slot slot ∷ []) (get_or_past pages rid.page (new_page limit) past))

-- the pages with another slot on one of them
pages_by_set :
    (f g : Rid → Slot) (m n : ℕ → ℕ) (c limit : ℕ) (rid : Rid) → ((other : Rid) → other ≢ rid → g other ≡ f other)
    → rid.page < c → rid.slot ≤ m rid.page → n rid.page ≡ max (m rid.page) (rid.slot + 1)
    → ((p : ℕ) → p ≢ rid.page → n p ≡ m p) → (limit2 : ℕ)
    → with_slot_in (pages_by f m c limit) limit2 rid (g rid) ≡ pages_by g n c limit
pages_by_set f g m n c limit rid others below within grown counts limit2 =
    let pages = pages_by f m c limit in
    let here = with_slot (get_or pages rid.page (new_page limit)) rid.slot (g rid) in
    let len : length pages ≡ c = length_pages_by f m c limit in
    let in_list : rid.page < length pages = omega (arith, len, below) in
    let here_is : here ≡ page_by g n limit rid.page =
    ap (λ (p : PageValue). with_slot p rid.slot (g rid)) (get_or_pages_by f m c limit rid.page (new_page limit) below)
    ∙ page_by_changed f g m n limit rid others within grown in
    with_slot_there pages limit2 rid (g rid) (new_page limit) in_list
    ∙ fill_by_all (page_by g n limit) (set pages rid.page here) c here (length-set pages rid.page here ∙ len)
    (λ k k_below. elim (cases_eq k rid.page) [
      | inl same ↦ rw same (get_or-set_same pages rid.page here here in_list ∙ here_is)
      | inr differs ↦
          get_or-set_other pages rid.page k here here differs
          ∙ (get_or_pages_by f m c limit k here k_below ∙ page_by_other f g m n limit rid k others counts differs)
    ])

-- the pages with a slot on the next new one
pages_by_pushed :
    (f g : Rid → Slot) (m n : ℕ → ℕ) (c limit : ℕ) (rid : Rid) → ((other : Rid) → other ≢ rid → g other ≡ f other)
    → rid.page ≡ c → rid.slot ≤ m rid.page → n rid.page ≡ max (m rid.page) (rid.slot + 1)
    → ((p : ℕ) → p ≢ rid.page → n p ≡ m p) → m rid.page ≡ 0
    → with_slot_in (pages_by f m c limit) limit rid (g rid) ≡ pages_by g n (c + 1) limit
pages_by_pushed f g m n c limit rid others next within grown counts none =
    let pages = pages_by f m c limit in
    let here = with_slot (new_page limit) rid.slot (g rid) in
    let len : length pages ≡ c = length_pages_by f m c limit in
    let past : length pages ≤ rid.page = omega (arith, len, next) in
    let new_is : new_page limit ≡ page_by f m limit rid.page =
    sym (get_or_past pages rid.page (new_page limit) past)
    ∙ page_or_new_pages_by f m c limit rid.page (omega (arith, next)) (λ _. none) in
    let here_is : here ≡ page_by g n limit rid.page =
    ap (λ (p : PageValue). with_slot p rid.slot (g rid)) new_is ∙ page_by_changed f g m n limit rid others within grown in
    with_slot_new pages limit rid (g rid) past
    ∙ fill_by_all (page_by g n limit) (pages ++ here ∷ []) (c + 1) here
    (length-append pages (here ∷ []) ∙ omega (arith, len))
    (λ k k_below. elim (cases_eq k rid.page) [
      | inl same ↦ rw same (get_or_push pages here here rid.page (omega (arith, len, next)) ∙ here_is)
      | inr differs ↦
          let in_old : k < c = omega (arith, k_below, next, differs) in
          get_or_append_left pages (here ∷ []) here k (omega (arith, len, in_old))
          ∙ (get_or_pages_by f m c limit k here in_old ∙ page_by_other f g m n limit rid k others counts differs)
    ])

-- the pages whose slots change at one RID, on a page that is there or on the next new one
pub pages_by_changed :
    (f g : Rid → Slot) (m n : ℕ → ℕ) (c d limit : ℕ) (rid : Rid) → ((other : Rid) → other ≢ rid → g other ≡ f other)
    → rid.page ≤ c → rid.slot ≤ m rid.page → d ≡ max c (rid.page + 1) → n rid.page ≡ max (m rid.page) (rid.slot + 1)
    → ((p : ℕ) → p ≢ rid.page → n p ≡ m p) → ((p : ℕ) → c ≤ p → m p ≡ 0)
    → with_slot_in (pages_by f m c limit) limit rid (g rid) ≡ pages_by g n d limit
pages_by_changed f g m n c d limit rid others in_pages in_slots count grown counts none = elim (cases_lt rid.page c) [
  | inl below ↦
      let stays : c ≡ d = omega (arith, count, below) in
      pages_by_set f g m n c limit rid others below in_slots grown counts limit ∙ ap (λ (j : ℕ). pages_by g n j limit) stays
  | inr past ↦
      let next : rid.page ≡ c = omega (arith, past, in_pages) in
      let more : c + 1 ≡ d = omega (arith, count, next) in
      pages_by_pushed f g m n c limit rid others next in_slots grown counts (none rid.page past)
      ∙ ap (λ (j : ℕ). pages_by g n j limit) more
]

-- the pages whose slots change at a RID that has one
pub pages_by_inside :
    (f g : Rid → Slot) (m : ℕ → ℕ) (c limit : ℕ) (rid : Rid) → ((other : Rid) → other ≢ rid → g other ≡ f other)
    → rid.page < c → rid.slot < m rid.page → (limit2 : ℕ)
    → with_slot_in (pages_by f m c limit) limit2 rid (g rid) ≡ pages_by g m c limit
pages_by_inside f g m c limit rid others in_pages in_slots limit2 =
    pages_by_set f g m m c limit rid others in_pages (omega (arith, in_slots)) (omega (arith, in_slots)) (λ p differs. refl) limit2

-- the slot of a RID, one that is there and one that is not
pub slot_in_pages :
    (f : Rid → Slot) (m : ℕ → ℕ) (c limit : ℕ) (rid : Rid) → rid.page < c → rid.slot < m rid.page
    → slot_in (pages_by f m c limit) rid ≡ f rid
slot_in_pages f m c limit rid in_pages in_slots =
    ap (λ (p : PageValue). slot_at p rid.slot) (get_or_pages_by f m c limit rid.page (new_page 0) in_pages)
    ∙ get_or_page_by f m limit rid.page rid.slot free in_slots

pub slot_in_past :
    (f : Rid → Slot) (m : ℕ → ℕ) (c limit : ℕ) (rid : Rid) → (rid.page < c → m rid.page ≤ rid.slot)
    → slot_in (pages_by f m c limit) rid ≡ free
slot_in_past f m c limit rid outside = elim (cases_lt rid.page c) [
  | inl below ↦
      ap (λ (p : PageValue). slot_at p rid.slot) (get_or_pages_by f m c limit rid.page (new_page 0) below)
      ∙ get_or_past (page_by f m limit rid.page).slots rid.slot free (omega (arith, length_page_by f m limit rid.page, outside below))
  | inr past ↦
      ap (λ (p : PageValue). slot_at p rid.slot) (get_or_past (pages_by f m c limit) rid.page (new_page 0) (omega (arith, length_pages_by f m c limit, past)))
]

-- the page of that number, where a new one was added unless it was there
opened_there :
    (pages opened : List PageValue) (limit p : ℕ) → p < length pages
    → opened ≡ cond (nat_lt p (length pages)) pages (pages ++ new_page limit ∷ []) → opened ≡ pages
opened_there pages opened limit p below is =
    let test : nat_lt p (length pages) ≡ true = grind (arith, nat_tests, below) in
    is ∙ ap (λ (b : Bool). cond b pages (pages ++ new_page limit ∷ [])) test

opened_new :
    (pages opened : List PageValue) (limit p : ℕ) → length pages ≤ p
    → opened ≡ cond (nat_lt p (length pages)) pages (pages ++ new_page limit ∷ []) → opened ≡ pages ++ new_page limit ∷ []
opened_new pages opened limit p past is =
    let test : nat_lt p (length pages) ≡ false = grind (arith, nat_tests, past) in
    is ∙ ap (λ (b : Bool). cond b pages (pages ++ new_page limit ∷ [])) test

opened_page :
    (pages opened : List PageValue) (limit p : ℕ) (page : PageValue) → p ≤ length pages
    → opened ≡ cond (nat_lt p (length pages)) pages (pages ++ new_page limit ∷ []) → page ≡ get_or opened p page
    → page ≡ page_or_new pages limit p
opened_page pages opened limit p page within is here = elim (cases_lt p (length pages)) [
  | inl below ↦
      here
      ∙ (ap (λ (xs : List PageValue). get_or xs p page) (opened_there pages opened limit p below is)
      ∙ get_or_default pages p page (new_page limit) below)
  | inr past ↦
      let last : length pages ≡ p = omega (arith, past, within) in
      here
      ∙ (ap (λ (xs : List PageValue). get_or xs p page) (opened_new pages opened limit p past is)
      ∙ (get_or_push pages (new_page limit) page p last
      ∙ sym (get_or_past pages p (new_page limit) past)))
]

opened_set :
    (pages opened : List PageValue) (limit : ℕ) (rid : Rid) (slot : Slot) → rid.page ≤ length pages
    → opened ≡ cond (nat_lt rid.page (length pages)) pages (pages ++ new_page limit ∷ [])
    → set opened rid.page (page_with_slot pages limit rid slot) ≡ with_slot_in pages limit rid slot
opened_set pages opened limit rid slot within is =
    let here = page_with_slot pages limit rid slot in
    elim (cases_lt rid.page (length pages)) [
      | inl below ↦
          ap (λ (xs : List PageValue). set xs rid.page here) (opened_there pages opened limit rid.page below is)
          ∙ sym (with_slot_there pages limit rid slot (new_page limit) below)
      | inr past ↦
          let last : rid.page ≡ length pages = omega (arith, past, within) in
          let test : nat_lt rid.page (length pages) ≡ false = grind (arith, nat_tests, past) in
          ap (λ (xs : List PageValue). set xs rid.page here) (opened_new pages opened limit rid.page past is)
          ∙ (ap (λ (k : ℕ). set (pages ++ new_page limit ∷ []) k here) last
          ∙ (set-append_seam pages (new_page limit) [] here ∙ sym (rw test refl)))
    ]

-- a row put on a page with room for it, one that was there or was added
pub insert_opened :
    (pages opened : List PageValue) (limit : ℕ) (rid : Rid) (bytes : List ℕ) (page changed : PageValue) (slot : ℕ)
    → rid.page ≤ length pages → opened ≡ cond (nat_lt rid.page (length pages)) pages (pages ++ new_page limit ∷ [])
    → page ≡ get_or opened rid.page page → room_for (page_or_new pages limit rid.page) (length bytes) ≡ Some rid.slot
    → room_for page (length bytes) ≡ Some slot → changed ≡ with_slot page slot (row bytes (length bytes))
    → set opened rid.page changed ≡ with_slot_in pages limit rid (row bytes (length bytes))
insert_opened pages opened limit rid bytes page changed slot within is here room found put_is =
    let same : page ≡ page_or_new pages limit rid.page = opened_page pages opened limit rid.page page within is here in
    let place : slot ≡ rid.slot =
    same_Some slot rid.slot (sym found ∙ (ap (λ (p : PageValue). room_for p (length bytes)) same ∙ room)) in
    ap (λ (p : PageValue). set opened rid.page p) (put_is ∙ (ap (λ (k : ℕ). with_slot page k (row bytes (length bytes))) place
    ∙ ap (λ (p : PageValue). with_slot p rid.slot (row bytes (length bytes))) same))
    ∙ opened_set pages opened limit rid (row bytes (length bytes)) within is

-- a held slot that stays held
pub held_stays :
    (pages : List PageValue) (limit : ℕ) (rid : Rid) → IsHeld (slot_in pages rid) → pages ≡ with_slot_in pages limit rid (held (reserve_of (slot_in pages rid)))
held_stays pages limit rid is_held = elim (cases_lt rid.page (length pages)) [
  | inl below ↦
      let page = get_or pages rid.page (new_page 0) in
      elim (cases_lt rid.slot (length page.slots)) [
        | inl inside ↦
            let same : with_slot page rid.slot (held (reserve_of (slot_at page rid.slot))) ≡ page =
            same_page (put_same page.slots rid.slot (held (reserve_of (slot_at page rid.slot))) inside (held_is (slot_at page rid.slot) is_held)) refl in
            sym (with_slot_there pages limit rid (held (reserve_of (slot_in pages rid))) (new_page 0) below
            ∙ (ap (set pages rid.page) same ∙ set-get_or pages rid.page (new_page 0)))
        | inr past ↦ absurd (subst IsHeld (get_or_past page.slots rid.slot free past) is_held)
      ]
  | inr past ↦
      let none : slot_in pages rid ≡ free = ap (λ (p : PageValue). slot_at p rid.slot) (get_or_past pages rid.page (new_page 0) past) in
      absurd (subst IsHeld none is_held)
] where
  held_is : (x : Slot) → IsHeld x → x ≡ held (reserve_of x)
  held_is free e = absurd e
  held_is (held r) e = refl
  held_is (row bytes r) e = absurd e
