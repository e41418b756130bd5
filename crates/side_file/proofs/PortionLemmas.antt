-- Lemmas on the portions of a ring and the end that takes them.
use Rattle.std.proofs.Common.{◌≡◌, ℕ, ◌+◌, ◌-◌, ◌^◌, ◌<◌, ◌≤◌, List, [], ◌∷◌, ◌++◌, length, take, drop, All, refl, sym, ap, ◌∙◌, arith}
use Rattle.std.proofs.lemmas.List.{length-append, length-take-le, append-nil, append_assoc, take-append-le, take_at, drop_at}
use Rattle.std.proofs.lemmas.List.Concat.{flat_map-append}
use Rattle.std.proofs.lemmas.List.Elements.{All-head, All-tail, All-drop, All-same}
use mathlib.Core.List.{IsPrefix}
use Rattle.std.proofs.Common.{subst}
use Rattle.std.specs.declared.alloc.Global.{Global}
use Rattle.rtrb.specs.declared.consumer.Consumer.{Consumer}
use Rattle.rtrb.specs.declared.producer.Producer.{Producer}
use Rattle.rtrb.specs.Ring.{sent, known_free, producer_capacity, received, known_items, SameConsumer, ConsumerLooked, ProducerLooked}
use Rattle.side_file.specs.Changes.{IsSideFile}
use Rattle.side_file.specs.Kept.{IsKept, last_ones}
use Rattle.std.proofs.lemmas.List.{length-drop}
use Rattle.std.proofs.lemmas.List.Elements.{All-push}
use Rattle.side_file.specs.Ends.{RingId, TakeEnd, ring_take, TakeEndLooked}
use Rattle.side_file.specs.declared.entry.Entry.{Entry}
use Rattle.side_file.specs.declared.portion.Portion.{Portion}
use Rattle.side_file.specs.EntryEnds.{Brings, IsWhole, take_entries}
use Rattle.side_file.specs.Portions.{portion_entries, entries_of, HasSome}
use Rattle.side_file.specs.Queues.{IsAtHand}
use Rattle.std.specs.Prelude.{Option, None}

-- no more portions than entries
pub portions_few : (portions : List Portion) → All HasSome portions → length portions ≤ length (entries_of portions)
portions_few [] some = omega arith
portions_few (portion ∷ portions) some =
    omega (
      arith,
      length-append (portion_entries portion) (entries_of portions),
      All-head HasSome portion portions some,
      portions_few portions (All-tail HasSome portion portions some),
    )

-- so among the last of them
pub last_portions_few : (gone ahead all : List Portion) → gone ++ ahead ≡ all → All HasSome all → length ahead ≤ length (entries_of ahead)
last_portions_few gone ahead all is some =
    portions_few ahead (All-same HasSome ahead (drop (length gone) all) (sym (drop_at gone ahead (length gone) refl) ∙ ap (drop (length gone)) is)
    (All-drop HasSome (length gone) all some))

pub entries-append : (ps qs : List Portion) → entries_of (ps ++ qs) ≡ entries_of ps ++ entries_of qs
entries-append ps qs = flat_map-append portion_entries ps qs

pub entries-push : (ps : List Portion) (p : Portion) → entries_of (ps ++ p ∷ []) ≡ entries_of ps ++ portion_entries p
entries-push ps p = entries-append ps (p ∷ []) ∙ ap (λ es. entries_of ps ++ es) (append-nil (portion_entries p))

-- what is known of more portions
pub known_prefix : (hand : List Entry) (ps qs : List Portion) → IsPrefix ps qs → IsPrefix (hand ++ entries_of ps) (hand ++ entries_of qs)
known_prefix hand ps qs more = (
  entries_of more.0,
  append_assoc hand (entries_of ps) (entries_of more.0) ∙ ap (λ es. hand ++ es) (sym (entries-append ps more.0) ∙ ap entries_of more.1),
)

module _ (gone ahead : List Portion) (hand : List Entry) (new_gone new_ahead : List Portion) (new_hand : List Entry)
    (brings : Brings gone ahead hand new_gone new_ahead new_hand) where
  -- what is known stays
  pub known_brought : new_hand ++ entries_of new_ahead ≡ hand ++ entries_of ahead
  known_brought =
      ap (λ es. es ++ entries_of new_ahead) brings.entries ∙ append_assoc hand (entries_of brings.portions) (entries_of new_ahead)
      ∙ ap (λ es. hand ++ es) (sym (entries-append brings.portions new_ahead) ∙ ap entries_of (sym brings.left))

  gone_entries : entries_of new_gone ≡ entries_of gone ++ entries_of brings.portions
  gone_entries = ap entries_of brings.came ∙ entries-append gone brings.portions

  -- and so does what was taken
  pub taken_brought : (taken : ℕ) → taken ≤ length (entries_of gone) → take taken (entries_of new_gone) ≡ take taken (entries_of gone)
  taken_brought taken less = ap (take taken) gone_entries ∙ take-append-le taken (entries_of gone) (entries_of brings.portions) less

  pub whole_brought : (taken known : ℕ) → IsWhole gone ahead hand taken known → IsWhole new_gone new_ahead new_hand taken known
  whole_brought taken known h = record {
    whole = ap (λ es. es ++ new_hand) (taken_brought taken h.taken_came) ∙ ap (λ es. take taken (entries_of gone) ++ es) brings.entries
        ∙ sym (append_assoc (take taken (entries_of gone)) hand (entries_of brings.portions)) ∙ ap (λ es. es ++ entries_of brings.portions) h.whole
        ∙ sym gone_entries;
    taken_came = omega (arith, h.taken_came, ap length gone_entries, length-append (entries_of gone) (entries_of brings.portions));
    counted = omega (arith, h.counted, ap length known_brought, length-append hand (entries_of ahead), length-append new_hand (entries_of new_ahead));
    countable = h.countable;
  }

-- the first entry at hand is taken
module _ (gone ahead : List Portion) (entry : Entry) (hand new_hand : List Entry) (taken known : ℕ) (h : IsWhole gone ahead hand taken known)
    (first : hand ≡ entry ∷ new_hand) where
  pub taken_one : take (taken + 1) (entries_of gone) ≡ take taken (entries_of gone) ++ entry ∷ []
  taken_one =
      let before : List Entry = take taken (entries_of gone) in
      let all : entries_of gone ≡ (before ++ entry ∷ []) ++ new_hand =
      sym h.whole ∙ ap (λ es. before ++ es) first ∙ sym (append_assoc before (entry ∷ []) new_hand) in
      ap (take (taken + 1)) all ∙ take_at (before ++ entry ∷ []) new_hand (taken + 1)
      (omega (arith, length-append before (entry ∷ []), length-take-le taken (entries_of gone) h.taken_came))

  pub whole_one : IsWhole gone ahead new_hand (taken + 1) (known - 1)
  whole_one =
      let before : List Entry = take taken (entries_of gone) in
      let long : length before ≡ taken = length-take-le taken (entries_of gone) h.taken_came in
      let all : before ++ entry ∷ new_hand ≡ entries_of gone = ap (λ es. before ++ es) (sym first) ∙ h.whole in
      record {
        whole = ap (λ es. es ++ new_hand) taken_one ∙ append_assoc before (entry ∷ []) new_hand ∙ all;
        taken_came = omega (arith, long, ap length all, length-append before (entry ∷ new_hand));
        counted = omega (arith, h.counted, ap length first);
        countable = omega (arith, h.countable, h.counted, ap length first);
      }

-- more portions are known
pub whole_seen : (gone ahead more : List Portion) (hand : List Entry) (taken known : ℕ) → IsWhole gone ahead hand taken known
    → taken + (length hand + length (entries_of more)) < 2 ^ 60 → IsWhole gone more hand taken (length hand + length (entries_of more))
whole_seen gone ahead more hand taken known h few = record { whole = h.whole; taken_came = h.taken_came; counted = refl; countable = few }

-- where no entry is at hand, there is room for twice the portions of a ring
pub empty_room : (first : Option Entry) (chunks : List Entry) (next : List Portion) (len places : ℕ) → IsAtHand first chunks next len places → first ≡ None
    → (count : ℕ) → length next ≡ count → 256 ≤ places - count
empty_room first chunks next len places h none count is =
    omega (arith, h.places_are, portions_few next h.some, ap length (h.first_is none), length-append chunks (entries_of next))

pub prefix_then : {X : Type 0} (xs ys zs : List X) → IsPrefix xs ys → IsPrefix ys zs → IsPrefix xs zs
prefix_then xs ys zs first then =
    (first.0 ++ then.0, sym (append_assoc xs first.0 then.0) ∙ ap (λ es. es ++ then.0) first.1 ∙ then.1)

-- as many portions wait in the ring as entries at the most
pub waiting_few : (gone ahead all : List Portion) (taken : ℕ) → gone ++ ahead ≡ all → All HasSome all → taken ≤ length (entries_of gone)
    → length ahead ≤ length (entries_of all) - taken
waiting_few gone ahead all taken is some came =
    omega (
      arith,
      last_portions_few gone ahead all is some,
      ap (λ ps. length (entries_of ps)) is,
      ap length (entries-append gone ahead),
      length-append (entries_of gone) (entries_of ahead),
    )

module _ {P : Type 0} where
  pub same_ring : (old new : Consumer Portion Global P) → SameConsumer old new → ring_take new ≡ ring_take old
  same_ring old new same = cc

  pub looked_then : (old mid new : Consumer Portion Global P) → ConsumerLooked old mid → ConsumerLooked mid new → ConsumerLooked old new
  looked_then old mid new first then =
      let words : new.end.words ≡ old.end.words = cc in
      let slots : new.end.slots ≡ old.end.slots = cc in
      let names : new.end.names ≡ old.end.names = cc in
      let heap : new.end.heap ≡ old.end.heap = cc in
      let capacity : new.capacity ≡ old.capacity = cc in (
        ((words, slots, names, heap), capacity),
        then.1 ∙ first.1,
        prefix_then (known_items old) (known_items mid) (known_items new) first.2 then.2,
      )

  -- the ring was looked into, and portions came to hand
  pub looked_end :
      (taken : ℕ) (hand new_hand : List Entry) (old seen new : Consumer Portion Global P) → ConsumerLooked old seen → SameConsumer seen new
      → Brings (received seen) (known_items seen) hand (received new) (known_items new) new_hand → taken ≤ length (entries_of (received old))
      → (end : TakeEnd Entry) → take_entries taken hand old ≡ end → TakeEndLooked end (take_entries taken new_hand new)
  looked_end taken hand new_hand old seen new looked same brings came end is =
      let gone : received seen ≡ received old = looked.1 in
      let came_then : taken ≤ length (entries_of (received seen)) = omega (arith, came, ap (λ ps. length (entries_of ps)) gone) in
      subst (λ (e : TakeEnd Entry). TakeEndLooked e (take_entries taken new_hand new)) is
      record {
        ring = same_ring seen new same ∙ same_ring old seen looked.0;
        received = taken_brought (received seen) (known_items seen) hand (received new) (known_items new) new_hand brings taken came_then
            ∙ ap (λ ps. take taken (entries_of ps)) gone;
        known = subst (λ (es : List Entry). IsPrefix (hand ++ entries_of (known_items old)) es)
            (sym (known_brought (received seen) (known_items seen) hand (received new) (known_items new) new_hand brings))
            (known_prefix hand (known_items old) (known_items seen) looked.2);
      }

  -- with both ends at hand each place without an entry is free
  pub beside_free :
      (put taken : ℕ) (p q r : Producer Portion Global P) (a b c : Consumer Portion Global P) → ProducerLooked p q → ProducerLooked q r → ConsumerLooked a b
      → ConsumerLooked b c → known_free q + length (sent q) ≡ producer_capacity q + length (received b) → received c ++ known_items c ≡ sent r
      → All HasSome (sent p) → put ≡ length (entries_of (sent p)) → taken ≤ length (entries_of (received a))
      → producer_capacity r ≤ known_free r + (put - taken)
  beside_free put taken p q r a b c first then seen more free fifo some all came =
      let same : sent r ≡ sent p = then.1 ∙ first.1 in
      let gone : received c ≡ received a = more.1 ∙ seen.1 in
      let capacity : producer_capacity r ≡ producer_capacity q = then.0.1 in
      omega (
        arith,
        waiting_few (received c) (known_items c) (sent r) taken fifo (All-same HasSome (sent r) (sent p) same some)
            (omega (arith, came, ap (λ ps. length (entries_of ps)) gone)),
        ap (λ ps. length (entries_of ps)) same,
        ap length fifo,
        length-append (received c) (known_items c),
        ap length then.1,
        ap length more.1,
      )

-- a portion more was sent
pub sent_more : (put count : ℕ) (old mid new : List Portion) (portion : Portion) → mid ≡ old → new ≡ mid ++ portion ∷ []
    → length (portion_entries portion) ≡ count
    → 0 < count → All HasSome old → put ≡ length (entries_of old) → All HasSome new × (put + count ≡ length (entries_of new))
sent_more put count old mid new portion same pushed long more some is =
    let here : HasSome portion = omega (arith, long, more) in (
      All-same HasSome new (mid ++ portion ∷ []) pushed (All-push HasSome mid portion (All-same HasSome mid old same some) here),
      omega (
        arith,
        is,
        long,
        ap (λ ps. length (entries_of ps)) pushed,
        ap (λ ps. length (entries_of ps)) same,
        ap length (entries-push mid portion),
        length-append (entries_of mid) (portion_entries portion),
      ),
    )

-- the last of the last ones
last_again : {X : Type 0} (n : ℕ) (xs : List X) → n ≤ length xs → last_ones (length (last_ones n xs)) xs ≡ last_ones n xs
last_again n xs less = ap (λ m. drop (length xs - m) xs) (omega (arith, length-drop (length xs - n) xs))

pub side_laws :
    (ring : RingId) (capacity free : ℕ) (portions : List Portion) (put fed : ℕ) (left : List Entry) (room : ℕ)
    → IsKept capacity portions put fed (length left) room → free ≤ capacity → capacity ≤ free + length portions
    → IsSideFile
    record {
      fed = last_ones fed (entries_of portions);
      left = left;
      room = room;
      end = record { ring = ring; capacity = capacity; sent = entries_of portions; free = free };
    }
side_laws ring capacity free portions put fed left room kept few unused =
    let all : List Entry = entries_of portions in
    record {
      capacity = kept.ring;
      fed_last = last_again fed all (omega (arith, kept.counted, kept.fed_was_sent));
      fed_was_sent = omega (arith, length-drop (length all - fed) all);
      spare = few;
      unused = omega (arith, unused, portions_few portions kept.some);
      few = omega (arith, length-drop (length all - fed) all, kept.counted, kept.fed_was_sent, kept.countable);
    }
