-- What sessions leave is gathered, one after the other.
use Rattle.std.proofs.Common.{◌≡◌, ◌+◌, List, [], ◌∷◌, ◌++◌, All, Bool, true, false, cond, length, map, take, drop, refl, sym, ap, subst, ◌∙◌, arith, append_assoc}
use Rattle.std.specs.Prelude.{Contains}
use Rattle.std.specs.List.{AllZip}
use Rattle.std.proofs.lemmas.List.{append-nil, get_or_append_left, get_or-append-add, length-append, map-append, take-append-drop}
use Rattle.std.proofs.lemmas.List.Concat.{flat_map-append}
use Rattle.std.proofs.lemmas.List.Elements.{All-append, All-cons, All-head, All-nil, All-tail, All-weaker}
use mathlib.Core.List.{IsPrefix}
use Rattle.heap_log.specs.declared.record.LogRec.{LogRec}
use Rattle.script.proofs.Zips.{zip_push}
use Rattle.race.specs.OneLog.{AreGathered, HasKept, receipts_of}
use Rattle.race.specs.Sessions.{EndedValue, HasRun}
use Rattle.race.specs.declared.session_line.SessionLine.{SessionLine}
use Rattle.race.specs.declared.session_script.SessionScript.{SessionScript}

module _ {X : Type 0} where
  contains_left : (xs ys : List X) (x : X) → Contains xs x → Contains (xs ++ ys) x
  contains_left xs ys x at = (at.0, omega (arith, at.1, length-append xs ys), get_or_append_left xs ys x at.0 at.1 ∙ at.2)

  contains_right : (xs ys : List X) (x : X) → Contains ys x → Contains (xs ++ ys) x
  contains_right xs ys x at = (length xs + at.0, omega (arith, at.1, length-append xs ys), get_or-append-add xs ys at.0 x ∙ at.2)

contains_each : (xs : List (List LogRec)) → All (Contains xs) xs
contains_each [] = All-nil (Contains [])
contains_each (x ∷ xs) =
    All-cons (Contains (x ∷ xs)) x xs (0, omega arith, refl)
    (All-weaker (Contains xs) (Contains (x ∷ xs)) (contains_right (x ∷ []) xs) xs (contains_each xs))

-- receipts were kept, and one more or not
pub kept_more : (old done mid new : List (List LogRec)) (more : List (List LogRec)) → HasKept old done mid → HasKept mid more new → HasKept old (done ++ more) new
kept_more old done mid new more first then = (
  first.0 ++ then.0,
  then.1 ∙ ap (λ (l : List (List LogRec)). l ++ then.0) first.1 ∙ append_assoc old first.0 then.0,
  All-append (Contains (done ++ more)) first.0 then.0
      (All-weaker (Contains done) (Contains (done ++ more)) (contains_left done more) first.0 first.2)
      (All-weaker (Contains more) (Contains (done ++ more)) (contains_right done more) then.0 then.2),
)

pub kept_none : (old : List (List LogRec)) → HasKept old [] old
kept_none old = ([], sym (append-nil old), All-nil (Contains []))

-- a receipt was pushed, if memory allowed it
pub kept_pushed : (ok : Bool) (old now : List (List LogRec)) (x : List LogRec) → now ≡ cond ok (old ++ x ∷ []) old → HasKept old (x ∷ []) now
kept_pushed true old now x is = (x ∷ [], is, All-cons (Contains (x ∷ [])) x [] (0, omega arith, refl) (All-nil (Contains (x ∷ []))))
kept_pushed false old now x is = ([], is ∙ sym (append-nil old), All-nil (Contains (x ∷ [])))

-- the next of them is kept, or not
pub kept_next :
    (old all done left rest mid now : List (List LogRec)) (x : List LogRec) → done ++ left ≡ all → left ≡ x ∷ rest → HasKept old done mid
    → HasKept mid (x ∷ []) now → (more : List (List LogRec)) × (more ++ rest ≡ all) × HasKept old more now
kept_next old all done left rest mid now x whole next first then = (
  done ++ x ∷ [],
  append_assoc done (x ∷ []) rest ∙ ap (λ (l : List (List LogRec)). done ++ l) (sym next) ∙ whole,
  kept_more old done mid now (x ∷ []) first then,
)

pub kept_all : (old all done left now : List (List LogRec)) → done ++ left ≡ all → left ≡ [] → HasKept old done now → HasKept old all now
kept_all old all done left now whole none kept =
    subst (λ (l : List (List LogRec)). HasKept old l now)
    (sym (append-nil done) ∙ ap (λ (l : List (List LogRec)). done ++ l) (sym none) ∙ whole) kept

module _ (opening : List LogRec) where
  -- nothing is gathered but what was there first
  pub gathered_none :
      (first : List (List LogRec)) (lines : List SessionLine) (known : List (List LogRec)) → lines ≡ [] → known ≡ [] → AreGathered opening first [] lines known first
  gathered_none first lines known no_lines no_known = record {
    sessions = [];
    ran = tt;
    lines_are = no_lines;
    known_are = no_known;
    kept = contains_each first;
    own = All-weaker (Contains first) (Contains (first ++ [])) (contains_left first []) first (contains_each first);
  }

  -- one session more
  pub gathered_more :
      (first : List (List LogRec)) (scripts : List SessionScript) (script : SessionScript) (ended : EndedValue)
      (lines new_lines : List SessionLine) (known new_known receipts new_receipts : List (List LogRec))
      → AreGathered opening first scripts lines known receipts → HasRun opening script ended
      → new_lines ≡ lines ++ ended.line ∷ [] → new_known ≡ known ++ ended.left.log ∷ [] → HasKept receipts ended.left.receipts new_receipts
      → AreGathered opening first (scripts ++ script ∷ []) new_lines new_known new_receipts
  gathered_more first scripts script ended lines new_lines known new_known receipts new_receipts so_far runs more_lines more_known kept =
      let all : List EndedValue = so_far.sessions ++ ended ∷ [] in
      let own : List (List LogRec) = first ++ receipts_of so_far.sessions in
      let both : receipts_of all ≡ receipts_of so_far.sessions ++ ended.left.receipts =
      flat_map-append (λ (it : EndedValue). it.left.receipts) so_far.sessions (ended ∷ [])
      ∙ ap (λ (l : List (List LogRec)). receipts_of so_far.sessions ++ l) (append-nil ended.left.receipts) in
      let whole : own ++ ended.left.receipts ≡ first ++ receipts_of all =
      append_assoc first (receipts_of so_far.sessions) ended.left.receipts ∙ ap (λ (l : List (List LogRec)). first ++ l) (sym both) in
      record {
        sessions = all;
        ran = zip_push (HasRun opening) scripts so_far.sessions script ended so_far.ran runs;
        lines_are = more_lines ∙ ap (λ (l : List SessionLine). l ++ ended.line ∷ []) so_far.lines_are
            ∙ sym (map-append (λ (it : EndedValue). it.line) so_far.sessions (ended ∷ []));
        known_are = more_known ∙ ap (λ (l : List (List LogRec)). l ++ ended.left.log ∷ []) so_far.known_are
            ∙ sym (map-append (λ (it : EndedValue). it.left.log) so_far.sessions (ended ∷ []));
        kept = subst (λ (l : List (List LogRec)). All (Contains l) first) (sym kept.1)
            (All-weaker (Contains receipts) (Contains (receipts ++ kept.0)) (contains_left receipts kept.0) first so_far.kept);
        own = subst (λ (l : List (List LogRec)). All (Contains (first ++ receipts_of all)) l) (sym kept.1)
            (subst (λ (l : List (List LogRec)). All (Contains l) (receipts ++ kept.0)) whole
            (All-append (Contains (own ++ ended.left.receipts)) receipts kept.0
            (All-weaker (Contains own) (Contains (own ++ ended.left.receipts)) (contains_left own ended.left.receipts) receipts so_far.own)
            (All-weaker (Contains ended.left.receipts) (Contains (own ++ ended.left.receipts)) (contains_right own ended.left.receipts) kept.0 kept.2)));
      }

-- The next of those that are left is gathered: of threads, and of sessions that had none.
module _ (opening : List LogRec) (first : List (List LogRec)) where
  pub gathered_next :
      {H : Type 0} (script_of : H → SessionScript) (all : List SessionScript) (handles rest : List H) (handle : H) (ended : EndedValue)
      (lines new_lines : List SessionLine) (known new_known receipts new_receipts : List (List LogRec))
      → (done : List SessionScript) × (done ++ map script_of handles ≡ all) × AreGathered opening first done lines known receipts
      → handles ≡ handle ∷ rest → HasRun opening (script_of handle) ended
      → new_lines ≡ lines ++ ended.line ∷ [] → new_known ≡ known ++ ended.left.log ∷ [] → HasKept receipts ended.left.receipts new_receipts
      → (done : List SessionScript) × (done ++ map script_of rest ≡ all) × AreGathered opening first done new_lines new_known new_receipts
  gathered_next script_of all handles rest handle ended lines new_lines known new_known receipts new_receipts before next runs more_lines more_known kept = (
    before.0 ++ script_of handle ∷ [],
    append_assoc before.0 (script_of handle ∷ []) (map script_of rest) ∙ ap (λ l. before.0 ++ map script_of l) (sym next) ∙ before.1,
    gathered_more opening first before.0 (script_of handle) ended lines new_lines known new_known receipts new_receipts before.2 runs more_lines more_known kept,
  )

  -- these scripts are left, each with what its session leaves
  pub record AreLeftOver (all left : List SessionScript) (ended : List EndedValue) (lines : List SessionLine) (known receipts : List (List LogRec)) : Type 0 where
    pub done : List SessionScript
    pub whole : done ++ left ≡ all
    pub ran : AllZip (HasRun opening) left ended
    pub gathered : AreGathered opening first done lines known receipts

  abbrev pub SomeLeftOver : List SessionScript → List EndedValue → List SessionLine → List (List LogRec) → List (List LogRec) → Type 0
  SomeLeftOver all ended lines known receipts = (left : List SessionScript) × AreLeftOver all left ended lines known receipts

  pub left_over_next :
      (all : List SessionScript) (items rest : List EndedValue) (ended : EndedValue) (lines new_lines : List SessionLine)
      (known new_known receipts new_receipts : List (List LogRec))
      → SomeLeftOver all items lines known receipts → items ≡ ended ∷ rest
      → new_lines ≡ lines ++ ended.line ∷ [] → new_known ≡ known ++ ended.left.log ∷ [] → HasKept receipts ended.left.receipts new_receipts
      → SomeLeftOver all rest new_lines new_known new_receipts
  left_over_next all items rest ended lines new_lines known new_known receipts new_receipts before next more_lines more_known kept =
      step before.0 before.1.done before.1.whole (subst (AllZip (HasRun opening) before.0) next before.1.ran) before.1.gathered where
        step : (left done : List SessionScript) → done ++ left ≡ all → AllZip (HasRun opening) left (ended ∷ rest) → AreGathered opening first done lines known receipts
            → SomeLeftOver all rest new_lines new_known new_receipts
        step [] done whole ran gathered = absurd ran
        step (script ∷ left) done whole ran gathered = (
          left,
          record {
            done = done ++ script ∷ [];
            whole = append_assoc done (script ∷ []) left ∙ whole;
            ran = ran.1;
            gathered = gathered_more opening first done script ended lines new_lines known new_known receipts new_receipts gathered ran.0 more_lines more_known kept;
          },
        )

  pub none_left_over :
      (all : List SessionScript) (items : List EndedValue) (lines : List SessionLine) (known receipts : List (List LogRec))
      → SomeLeftOver all items lines known receipts → items ≡ [] → AreGathered opening first all lines known receipts
  none_left_over all items lines known receipts before none =
      step before.0 before.1.done before.1.whole (subst (AllZip (HasRun opening) before.0) none before.1.ran) before.1.gathered where
        step : (left done : List SessionScript) → done ++ left ≡ all → AllZip (HasRun opening) left [] → AreGathered opening first done lines known receipts
            → AreGathered opening first all lines known receipts
        step [] done whole ran gathered = subst (λ (l : List SessionScript). AreGathered opening first l lines known receipts) (sym (append-nil done) ∙ whole) gathered
        step (script ∷ left) done whole ran gathered = absurd ran

-- sessions run here, one after the other
pub ran_next :
    (opening : List LogRec) (all left rest : List SessionScript) (script : SessionScript) (first items now : List EndedValue) (one : EndedValue)
    → (done : List SessionScript) × (done ++ left ≡ all)
    × ((before : List SessionScript) → AllZip (HasRun opening) before first → AllZip (HasRun opening) (before ++ done) items)
    → left ≡ script ∷ rest → now ≡ items ++ one ∷ [] → HasRun opening script one
    → (done : List SessionScript) × (done ++ rest ≡ all)
    × ((before : List SessionScript) → AllZip (HasRun opening) before first → AllZip (HasRun opening) (before ++ done) now)
ran_next opening all left rest script first items now one so_far next pushed runs = (
  so_far.0 ++ script ∷ [],
  append_assoc so_far.0 (script ∷ []) rest ∙ ap (λ (l : List SessionScript). so_far.0 ++ l) (sym next) ∙ so_far.1,
  λ before ran.
      subst (λ (l : List SessionScript). AllZip (HasRun opening) l now) (append_assoc before so_far.0 (script ∷ []))
      (subst (λ (l : List EndedValue). AllZip (HasRun opening) ((before ++ so_far.0) ++ script ∷ []) l) (sym pushed)
      (zip_push (HasRun opening) (before ++ so_far.0) items script one (so_far.2 before ran) runs)),
)

-- a front of the whole is a beginning of it
pub prefix_from_take : {A : Type 0} (xs ys : List A) → take (length xs) ys ≡ xs → IsPrefix xs ys
prefix_from_take xs ys front = (drop (length xs) ys, ap (λ l. l ++ drop (length xs) ys) (sym front) ∙ take-append-drop (length xs) ys)

-- what holds of each that was taken from a list of values holds of these
pub all_mapped_back : {A B : Type 0} (P : B → Type 0) (f : A → B) (xs : List A) (ys : List B) → ys ≡ map f xs → All P ys → All (λ x. P (f x)) xs
all_mapped_back {A} {B} P f xs ys is all = back xs (subst (All P) is all) where
  back : (xs : List A) → All P (map f xs) → All (λ x. P (f x)) xs
  back [] h = All-nil (λ x. P (f x))
  back (x ∷ xs) h = All-cons (λ y. P (f y)) x xs (All-head P (f x) (map f xs) h) (back xs (All-tail P (f x) (map f xs) h))
