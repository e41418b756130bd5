-- What an input gives, record by record and line by line.
use Rattle.std.proofs.Common.{◌≡◌, ◌==◌, ℕ, ◌+◌, Bool, List, [], ◌∷◌, ◌++◌, length, length-append, Option, Some, None, true, false, arith, refl, ap, sym, subst, ◌∙◌}
use Rattle.std.proofs.lemmas.List.{append-nil, append_assoc}
use Rattle.std.specs.Io.BufRead.{DropsThrough, drop_through, take_through}
use Rattle.std.specs.Io.KnownBytes.{IsAtEnd}
use Rattle.std.specs.List.{AllZip}
use Rattle.script.specs.InputLines.{IsTold, input_lines, put_first, records_in_lines}
use Rattle.script.specs.Records.{records_of}
use Rattle.script.specs.declared.input_record.InputRecord.{InputRecord}
use Rattle.shell.specs.Inputs.{AreAllOf, Gives, GivesNext, HasEnded, InputValue, IsReadOut, StayKnown, records_by_line}
use Rattle.shell.specs.declared.numbered_record.NumberedRecord.{NumberedRecord}

pub bool_cases : (b : Bool) {A : Type 0} → (b ≡ true → A) → (b ≡ false → A) → A
bool_cases true = λ yes no. yes refl
bool_cases false = λ yes no. no refl

-- the first line of a text that isn't empty
pub first_line : (byte : ℕ) (text : List ℕ)
    → input_lines (byte ∷ text) ≡ take_through 10 (byte ∷ text) ∷ input_lines (drop_through 10 (byte ∷ text))
first_line byte [] = bool_cases (byte == 10) (λ feed. rw feed refl) (λ other. rw other refl)
first_line byte (next ∷ text) = bool_cases (byte == 10)
    (λ feed. rw feed refl)
    (λ other. rw other (ap (put_first byte) (first_line next text)))

-- where something is taken of it, the records of a text are those of its first line and those behind it
pub records_of_first : (left : List ℕ) (line : List ℕ) → line ≡ take_through 10 left → (length line ≡ 0 → ⊥)
    → records_by_line left ≡ records_of line ++ records_by_line (drop_through 10 left)
records_of_first [] line is some = absurd (some (rw is refl))
records_of_first (byte ∷ left) line is some = rw is (ap records_in_lines (first_line byte left))

-- two lists of records, one behind the other
zip_append : {A B : Type 0} (R : A → B → Type 0) (xs : List A) (ys : List B) (zs : List A) (ws : List B)
    → AllZip R xs ys → AllZip R zs ws → AllZip R (xs ++ zs) (ys ++ ws)
zip_append R [] [] zs ws all more = more
zip_append R [] (y ∷ ys) zs ws all more = absurd all
zip_append R (x ∷ xs) [] zs ws all more = absurd all
zip_append R (x ∷ xs) (y ∷ ys) zs ws all more = (all.0, zip_append R xs ys zs ws all.1 more)

-- nothing was given in between
pub gives_none : (input : InputValue) → Gives input [] input
gives_none input = record {
  counted = omega arith;
  behind = λ text before given. rw (append-nil before) given;
}

-- records were given, and then others
pub gives_both : (a b c : InputValue) (told more : List InputRecord) → Gives a told b → Gives b more c → Gives a (told ++ more) c
gives_both a b c told more first second = record {
  counted = (let one = first.counted in let two = second.counted in let long = length-append told more in omega arith);
  behind = λ text before given.
      rw (← append_assoc before told more) (second.behind text (before ++ told) (first.behind text before given));
}

-- where nothing was given in between, the next record is the next one from before
pub gives_behind : (old mid new : InputValue) (next : NumberedRecord) → Gives old [] mid → GivesNext mid new next → GivesNext old new next
gives_behind old mid new next none one = (
  (let counted = none.counted in let here = one.0 in omega arith),
  gives_both old mid new [] (next.record ∷ []) none one.1,
)

-- and the end is the end from before
pub ended_behind : (old mid : InputValue) → Gives old [] mid → HasEnded mid → HasEnded old
ended_behind old mid none ended = λ text told given.
    subst (λ (all : List InputRecord). AreAllOf text all) (append-nil told) (ended text (told ++ []) (none.behind text told given))

-- bytes that are known stay so where a line of them is read
pub stay_known : (old new : Option (List ℕ)) → DropsThrough old new 10 → StayKnown old new
stay_known None new drops = λ some. (cc)
stay_known (Some xs) new drops = λ some. rw drops refl

-- and at their end none is left
pub read_out : (old new : Option (List ℕ)) → IsAtEnd old → DropsThrough old new 10 → IsReadOut old new
read_out None new end drops = λ some. (cc)
read_out (Some xs) new end drops = λ some. drops ∙ ap (λ (bytes : List ℕ). Some (drop_through 10 bytes)) end

-- a record that waits is given
pub gives_first : (old new : InputValue) (first : InputRecord) → old.waiting ≡ first ∷ new.waiting → new.bytes ≡ old.bytes
    → new.given ≡ old.given + 1 → Gives old (first ∷ []) new
gives_first old new first waits same counted = record {
  counted = counted;
  behind = λ text before given. record {
    read = given.read;
    left = given.left;
    known = same ∙ given.known;
    split = given.split;
    each = rw (append_assoc before (first ∷ []) new.waiting) (rw waits at given.each);
  };
}

-- the next line is read
pub gives_line : (old new : InputValue) (line : List ℕ) → old.waiting ≡ [] → new.given ≡ old.given → (length line ≡ 0 → ⊥)
    → ((left : List ℕ) → old.bytes ≡ Some left → (line ≡ take_through 10 left) × (new.bytes ≡ Some (drop_through 10 left)))
    → AllZip IsTold (records_of line) new.waiting → Gives old [] new
gives_line old new line none counted some read told = record {
  counted = (let same = counted in omega arith);
  behind = λ text before given.
      let both = read given.left given.known in
      record {
        read = given.read ++ records_of line;
        left = drop_through 10 given.left;
        known = both.1;
        split = given.split ∙ rw (records_of_first given.left line both.0 some) (sym (append_assoc given.read (records_of line) _));
        each = zip_append IsTold given.read (before ++ []) (records_of line) new.waiting (rw none at given.each) told;
      };
}

-- there is no further line
pub ends_here : (input : InputValue) → input.waiting ≡ [] → ((left : List ℕ) → input.bytes ≡ Some left → left ≡ []) → HasEnded input
ends_here input none read = λ text told given.
    let end = read given.left given.known in
    let all : records_by_line text ≡ given.read = given.split ∙ rw end (append-nil given.read) in
    rw all (subst (λ (told : List InputRecord). AllZip IsTold given.read told) (append-nil told) (rw none at given.each))
