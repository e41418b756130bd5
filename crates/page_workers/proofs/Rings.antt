-- A ring out of which all was taken.
use Rattle.std.proofs.Common.{◌≡◌, ℕ, List, [], ◌++◌, length, append-nil, sym, ap, ◌∙◌, arith, length-append}
use Rattle.std.proofs.lemmas.List.{nil_from_length}
use Rattle.side_file.specs.Ends.{RingId, PutEnd}
use Rattle.side_file.specs.Ends.{TakeEnd}

-- what was taken is all, where nothing is seen in the ring
pub all_taken : {X : Type 0} (xs ys zs : List X) → xs ++ ys ≡ zs → length ys ≡ 0 → xs ≡ zs
all_taken xs ys zs e none = sym (append-nil xs) ∙ (ap (λ l. xs ++ l) (sym (nil_from_length ys none)) ∙ e)

-- nothing is in the ring, where all was taken
pub none_left : {X : Type 0} (xs ys zs : List X) → xs ++ ys ≡ zs → xs ≡ zs → ys ≡ []
none_left xs ys zs e all = nil_from_length ys (omega (arith, ap length e, ap length all, length-append xs ys))

take_of : {X : Type 0} → RingId → List X → List X → TakeEnd X
take_of ring received known = record { ring = ring; received = received; known = known }

-- an end that took all that was sent
pub emptied_end :
    {X : Type 0} (end : TakeEnd X) (ring : RingId) (sent : List X) → end.ring ≡ ring → end.received ≡ sent → end.received ++ end.known ≡ sent
    → end ≡ record { ring = ring; received = sent; known = [] }
unfolding take_of
emptied_end end ring sent same all in_order =
    let none = none_left end.received end.known sent in_order all in
    let parts : take_of end.ring end.received end.known ≡ take_of ring sent [] = cc in
    parts

put_of : {X : Type 0} → RingId → ℕ → List X → ℕ → PutEnd X
put_of ring capacity sent free = record { ring = ring; capacity = capacity; sent = sent; free = free }

-- the other end, which knows each of its four places to be free
pub freed_end :
    {X : Type 0} (old new : PutEnd X) → new.ring ≡ old.ring → new.capacity ≡ old.capacity → new.sent ≡ old.sent → new.free ≡ 4
    → new ≡ record { ring = old.ring; capacity = old.capacity; sent = old.sent; free = 4 }
unfolding put_of
freed_end old new ring capacity sent free =
    let parts : put_of new.ring new.capacity new.sent new.free ≡ put_of old.ring old.capacity old.sent 4 = cc in
    parts
