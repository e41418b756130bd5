-- Entries that are taken and applied, one after another.
use Rattle.std.proofs.Common.{◌≡◌, ℕ, ◌+◌, List, [], ◌∷◌, ◌++◌, length, length-append, append_assoc, append-nil, sym, ap, ◌∙◌, arith, subst}
use Rattle.std.proofs.Common.{refl}
use Rattle.std.proofs.lemmas.List.{nil_from_length}
use Rattle.btree.specs.declared.change.Change.{Change}
use Rattle.keybytes.specs.Pairs.{set_of}
use Rattle.side_file.specs.Ends.{TakeEnd, TakeEndLooked}
use Rattle.side_file.specs.declared.entry.Entry.{Entry}
use Rattle.visibility.specs.Applied.{apply_entries}
use Rattle.visibility.proofs.Changes.{apply-append}
use Rattle.catch_up.specs.Applying.{Applied, Taken, TakesKnown}
use Rattle.catch_up.specs.Batches.{changes_to}
use Rattle.catch_up.specs.Built.{BuiltValue, told_to}
use Rattle.catch_up.proofs.Telling.{told_to-append, changes_to-append}

pub applied_none : (a b : BuiltValue) → b ≡ a → Applied [] a b
applied_none a b same = record { build = ap (λ v. v.build) same; unique = ap (λ v. v.unique) same; pairs = ap (λ v. set_of v.pairs) same }

pub applied_then : (es fs : List Entry) (a b c : BuiltValue) → Applied es a b → Applied fs b c → Applied (es ++ fs) a c
applied_then es fs a b c first then = record {
  build = then.build ∙ first.build;
  unique = then.unique ∙ first.unique;
  pairs = then.pairs ∙ ap (λ n. apply_entries (told_to n fs) (set_of b.pairs)) first.build
      ∙ ap (apply_entries (told_to a.build fs)) first.pairs
      ∙ sym (apply-append (told_to a.build es) (told_to a.build fs) (set_of a.pairs))
      ∙ ap (λ xs. apply_entries xs (set_of a.pairs)) (sym (told_to-append a.build es fs));
}

pub taken_looked : (a b : TakeEnd Entry) → TakeEndLooked a b → Taken [] a b
taken_looked a b looked = record { ring = looked.ring; received = looked.received ∙ sym (append-nil a.received); known = looked.known }

pub taken_then : (es fs : List Entry) (a b c : TakeEnd Entry) → Taken es a b → Taken fs b c → Taken (es ++ fs) a c
taken_then es fs a b c first then = record {
  ring = then.ring ∙ first.ring;
  received = then.received ∙ ap (λ xs. xs ++ fs) first.received ∙ append_assoc a.received es fs;
  known = (
    first.known.0 ++ then.known.0,
    sym (append_assoc a.known first.known.0 then.known.0) ∙ ap (λ xs. xs ++ then.known.0) first.known.1
        ∙ append_assoc es b.known then.known.0 ∙ ap (λ xs. es ++ xs) then.known.1 ∙ sym (append_assoc es fs c.known),
  );
}

-- what only looks at the ring, before or after, takes no more
pub looked_taken : (es : List Entry) (a b c : TakeEnd Entry) → TakeEndLooked a b → Taken es b c → Taken es a c
looked_taken es a b c looked taken = taken_then [] es a b c (taken_looked a b looked) taken

pub taken_waits : (es : List Entry) (a b c : TakeEnd Entry) → Taken es a b → Taken [] b c → Taken es a c
taken_waits es a b c taken waits = subst (λ (xs : List Entry). Taken xs a c) (append-nil es) (taken_then es [] a b c taken waits)

-- so many entries were taken and applied
pub record AppliedSoFar (n : ℕ) (old : BuiltValue) (before : TakeEnd Entry) (new : BuiltValue) (after : TakeEnd Entry) : Type 0 where
  pub entries : List Entry
  pub count : length entries ≡ n
  pub taken : Taken entries before after
  pub applied : Applied entries old new

-- and so many more
pub so_far_then :
    (n m : ℕ) (es : List Entry) (old now new : BuiltValue) (before here after : TakeEnd Entry) → AppliedSoFar n old before now here
    → length es ≡ m → Taken es here after → Applied es now new → AppliedSoFar (n + m) old before new after
so_far_then n m es old now new before here after so_far count taken applied = record {
  entries = so_far.entries ++ es;
  count = omega (arith, length-append so_far.entries es, so_far.count, count);
  taken = taken_then so_far.entries es before here after so_far.taken taken;
  applied = applied_then so_far.entries es old now new so_far.applied applied;
}

-- so many entries were taken out of the ring, and those of that build are in the batch
pub record BatchSoFar (n build : ℕ) (before after : TakeEnd Entry) (batch : List Change) : Type 0 where
  pub entries : List Entry
  pub count : length entries ≡ n
  pub ring : after.ring ≡ before.ring
  pub received : after.received ≡ before.received ++ entries
  pub known : before.known ≡ entries ++ after.known
  pub changes : batch ≡ changes_to build entries

pub batch_more :
    (n build : ℕ) (entry : Entry) (before here after : TakeEnd Entry) (batch more : List Change) → BatchSoFar n build before here batch → after.ring ≡ here.ring
    → after.received ≡ here.received ++ entry ∷ [] → here.known ≡ entry ∷ after.known → more ≡ batch ++ changes_to build (entry ∷ [])
    → BatchSoFar (n + 1) build before after more
batch_more n build entry before here after batch more so_far ring received known pushed = record {
  entries = so_far.entries ++ entry ∷ [];
  count = omega (arith, length-append so_far.entries (entry ∷ []), so_far.count);
  ring = ring ∙ so_far.ring;
  received = received ∙ ap (λ es. es ++ entry ∷ []) so_far.received ∙ append_assoc before.received so_far.entries (entry ∷ []);
  known = so_far.known ∙ ap (λ es. so_far.entries ++ es) known ∙ sym (append_assoc so_far.entries (entry ∷ []) after.known);
  changes = pushed ∙ ap (λ cs. cs ++ changes_to build (entry ∷ [])) so_far.changes ∙ sym (changes_to-append build so_far.entries (entry ∷ []));
}

-- where none is left, all were taken
pub batch_whole : (n build : ℕ) (before after : TakeEnd Entry) (batch : List Change) → BatchSoFar n build before after batch → length before.known ≡ n
    → TakesKnown before after × (batch ≡ changes_to build before.known)
batch_whole n build before after batch so_far all =
    let none : after.known ≡ [] = nil_from_length after.known (omega (
      arith,
      all,
      so_far.count,
      ap length so_far.known,
      length-append so_far.entries after.known,
    )) in
    let whole : before.known ≡ so_far.entries = so_far.known ∙ ap (λ es. so_far.entries ++ es) none ∙ append-nil so_far.entries in (
      record {
        taken = record {
          ring = so_far.ring;
          received = so_far.received ∙ ap (λ es. before.received ++ es) (sym whole);
          known = (after.known, refl);
        };
        none_left = none;
      },
      so_far.changes ∙ ap (changes_to build) (sym whole),
    )
