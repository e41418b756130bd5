-- What entries do to an index, part by part.
use Rattle.std.proofs.Common.{◌≡◌, ℕ, List, [], ◌∷◌, ◌++◌, map, refl, ap, ◌∙◌}
use Rattle.std.specs.Prelude.{filter, ◌==◌}
use Rattle.std.proofs.lemmas.Bool.{eq-eqb}
use Rattle.std.proofs.lemmas.List.{map-append}
use Rattle.std.proofs.lemmas.List.Elements.{filter-append}
use Rattle.side_file.specs.Entries.{entry_of}
use Rattle.side_file.specs.declared.entry.Entry.{Entry}
use Rattle.visibility.specs.SideEntries.{SideEntry, delete, insert}
use Rattle.std.specs.FinSet.{FinSet}
use Rattle.keybytes.specs.Pairs.{pair_cmp}
use Rattle.keybytes.specs.declared.pair.Pair.{Pair}
use Rattle.btree.specs.Changes.{changed, changed_by}
use Rattle.side_file.specs.declared.op.Op.{Op}
use Rattle.side_file.specs.declared.op.Op.TheVariants.{Delete, Insert}
use Rattle.visibility.specs.Applied.{apply_entry, apply_entries}
use Rattle.catch_up.specs.Batches.{puts_in, change_of, changes_to}
use Rattle.catch_up.specs.Built.{change_by, told, told_to}

pub told_to-append : (build : ℕ) (es fs : List Entry) → told_to build (es ++ fs) ≡ told_to build es ++ told_to build fs
told_to-append build es fs =
    ap (map told) (filter-append (λ entry. entry.build == build) es fs)
    ∙ map-append told (filter (λ entry. entry.build == build) es) (filter (λ entry. entry.build == build) fs)

-- the entries of changes tell these changes
alone : (build : ℕ) (entry : Entry) → entry.build ≡ build → told_to build (entry ∷ []) ≡ told entry ∷ []
alone build entry own = rw (eq-eqb entry.build build own) refl

pub told_entries : (build : ℕ) (changes : List SideEntry) → told_to build (map (entry_of build) changes) ≡ changes
told_entries build [] = refl
told_entries build (delete pair ∷ changes) =
    told_to-append build (entry_of build (delete pair) ∷ []) (map (entry_of build) changes)
    ∙ ap (λ es. es ++ told_to build (map (entry_of build) changes)) (alone build (entry_of build (delete pair)) refl)
    ∙ ap (λ es. delete pair ∷ es) (told_entries build changes)
told_entries build (insert pair ∷ changes) =
    told_to-append build (entry_of build (insert pair) ∷ []) (map (entry_of build) changes)
    ∙ ap (λ es. es ++ told_to build (map (entry_of build) changes)) (alone build (entry_of build (insert pair)) refl)
    ∙ ap (λ es. insert pair ∷ es) (told_entries build changes)

pub changes_to-append : (build : ℕ) (es fs : List Entry) → changes_to build (es ++ fs) ≡ changes_to build es ++ changes_to build fs
changes_to-append build es fs =
    ap (map change_of) (filter-append (λ entry. entry.build == build) es fs)
    ∙ map-append change_of (filter (λ entry. entry.build == build) es) (filter (λ entry. entry.build == build) fs)

-- the changes of entries make of a set of pairs what the entries do
one_same : (op : Op) (pair : Pair) (pairs : FinSet pair_cmp)
    → changed_by (record { puts_in = puts_in op; pair = pair }) pairs ≡ apply_entry (change_by op pair) pairs
one_same Delete pair pairs = refl
one_same Insert pair pairs = refl

all_same : (es : List Entry) (pairs : FinSet pair_cmp) → changed (map change_of es) pairs ≡ apply_entries (map told es) pairs
all_same [] pairs = refl
all_same (e ∷ es) pairs =
    all_same es (changed_by (change_of e) pairs)
    ∙ ap (apply_entries (map told es)) (one_same e.op (record { key = e.key; rid = e.rid }) pairs)

pub changes_same : (build : ℕ) (es : List Entry) (pairs : FinSet pair_cmp) → changed (changes_to build es) pairs ≡ apply_entries (told_to build es) pairs
changes_same build es pairs = all_same (filter (λ entry. entry.build == build) es) pairs
