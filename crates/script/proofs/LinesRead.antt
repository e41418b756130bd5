-- The lines of a text that were read.
use Rattle.std.proofs.Common.{◌≡◌, ℕ, ◌+◌, ◌-◌, List, [], ◌∷◌, ◌++◌, length, arith}
use Rattle.std.proofs.Common.{length-append, refl, sym, ap, ◌∙◌}
use Rattle.std.proofs.lemmas.List.{append-nil, append_assoc}
use Rattle.std.proofs.lemmas.Slice.Zip.{AllZip-long}
use Rattle.script.specs.Explanations.{Explains, IsLacking}
use Rattle.script.specs.Grammars.{AreAllGood, AreInOrder, Grammar, HasRead, IsFirstBadIn, MayStand, RecordSpells, SpellsAll, StandsBehind, names}
use Rattle.script.specs.Records.{records_of}
use Rattle.script.specs.Stops.{TakesLine}
use Rattle.script.specs.declared.check_error.CheckError.TheVariants.{Bad}
use Rattle.script.specs.declared.explanation.Explanation.{Explanation}
use Rattle.script.proofs.Zips.{zip_push}

module _ {Name Line : Type 0} (grammar : Grammar Name Line) where
  -- one line more that may stand behind those in order
  in_order_more : (before lines : List Line) (line : Line) → AreInOrder grammar before lines → MayStand grammar (before ++ lines) line
      → AreInOrder grammar before (lines ++ line ∷ [])
  in_order_more before [] line ordered may = (rw append-nil at may, tt)
  in_order_more before (first ∷ lines) line ordered may =
      (ordered.0, in_order_more (before ++ first ∷ []) lines line ordered.1 (rw append_assoc may))

  -- before the first record
  pub none_read : (Has : List Line → Type 0) (text : List ℕ) → Has [] → HasRead grammar Has text (records_of text) 1
  none_read Has text blank = ([], record { before = []; split = refl; spelled = (tt, tt); numbered = refl }, blank)

  -- one record more was read
  pub more_read : (Had Has : List Line → Type 0) (text : List ℕ) (left rest : List (List (List ℕ))) (number : ℕ) (line : Line)
      → HasRead grammar Had text left number → TakesLine grammar left rest line
      → ((lines : List Line) → Had lines → number ≡ length lines + 1 → MayStand grammar lines line × Has (lines ++ line ∷ []))
      → HasRead grammar Has text rest (number + 1)
  more_read Had Has text left rest number line read takes added =
      let behind = read.1 in
      let lines = read.0 ++ line ∷ [] in
      let more = added read.0 read.2 behind.numbered in (
        lines,
        record {
          before = behind.before ++ takes.0 ∷ [];
          split = behind.split ∙ ap (λ (more : List (List (List ℕ))). behind.before ++ more) takes.1 ∙ sym (append_assoc behind.before (takes.0 ∷ []) rest);
          spelled = (
            zip_push (RecordSpells grammar) behind.before read.0 takes.0 line behind.spelled.0 takes.2,
            in_order_more [] read.0 line behind.spelled.1 more.0,
          );
          numbered = simp (behind.numbered, length-append) (omega arith);
        },
        more.1,
      )

  -- all records are those that stand before, where none is left
  all_before : (text : List ℕ) (lines : List Line) (number : ℕ) (behind : StandsBehind grammar text lines [] number) → records_of text ≡ behind.before
  all_before text lines number behind = behind.split ∙ append-nil behind.before

  module _ (Has : List Line → Type 0) (text : List ℕ) (number : ℕ) (read : HasRead grammar Has text [] number) where
    -- no record is left, and nothing is missing
    pub good_end : {Script : Type 0} (Gives : List Line → Script → Type 0) (script : Script)
        → ((lines : List Line) → Has lines → grammar.are_whole (names grammar lines)) → ((lines : List Line) → Has lines → Gives lines script)
        → SpellsAll grammar Gives text script
    good_end Gives script whole gives =
        (read.0, rw (all_before text read.0 number read.1) read.1.spelled, whole read.0 read.2, gives read.0 read.2)

    pub all_good : ((lines : List Line) → Has lines → grammar.are_whole (names grammar lines)) → AreAllGood grammar text (number - 1)
    all_good whole =
        let all = all_before text read.0 number read.1 in
        let long = AllZip-long (RecordSpells grammar) read.1.before read.0 read.1.spelled.0 in
        let numbered = read.1.numbered in
        let count : number - 1 ≡ length read.1.before = omega arith in
        (read.0, rw all read.1.spelled, whole read.0 read.2, count ∙ ap length (sym all))

    -- no record is left, and something is missing
    pub bad_end : (missing : Explanation) → ((lines : List Line) → Has lines → IsLacking grammar lines missing) → IsFirstBadIn grammar text number
    bad_end missing lacks = (read.0, [], read.1, (lacks read.0 read.2).0)

    pub missing_record : (missing : Explanation) → ((lines : List Line) → Has lines → IsLacking grammar lines missing)
        → Explains grammar text (Bad number missing)
    missing_record missing lacks = let lack = lacks read.0 read.2 in (read.0, [], read.1, lack.0, lack.1)
