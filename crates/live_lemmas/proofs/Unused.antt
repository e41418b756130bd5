-- What the rings of the side-files gave before a build tells it nothing.
use Rattle.std.proofs.Common.{◌≡◌, ℕ, ◌+◌, ◌<◌, ◌≤◌, ◌==◌, false, List, [], ◌∷◌, map, refl, arith}
use Rattle.std.specs.List.{All}
use Rattle.std.proofs.lemmas.Bool.{ne_eqb}
use Rattle.std.proofs.lemmas.List.Elements.{All-head, All-tail, All-weaker}
use Rattle.side_file.specs.Ends.{PutEnd}
use Rattle.side_file.specs.declared.entry.Entry.{Entry}
use Rattle.catch_up.specs.Built.{told_to}
use Rattle.side_file.specs.Ends.{TakeEnd}
use Rattle.table_scan.specs.SideFiles.{EntriesAreOfBuilds, drained_end}
use Rattle.page_workers.proofs.Places.{all_at, mapped_of}

-- entries of earlier builds tell a build nothing
none_told : (build : ℕ) (entries : List Entry) → All (λ entry. entry.build < build) entries → told_to build entries ≡ []
none_told build [] all = refl
none_told build (e ∷ es) all =
    let earlier : e.build < build = All-head (λ (entry : Entry). entry.build < build) e es all in
    let other : (e.build == build) ≡ false = ne_eqb e.build build (λ same. omega (arith, earlier, same)) in
    rw other (none_told build es (All-tail (λ (entry : Entry). entry.build < build) e es all))

-- so the emptied rings told the next one nothing
pub unused_ends :
    (builds : ℕ) (puts : List (PutEnd Entry)) → EntriesAreOfBuilds builds puts → All (λ end. told_to (builds + 1) end.received ≡ []) (map drained_end puts)
unused_ends builds puts before =
    mapped_of (λ (end : TakeEnd Entry). told_to (builds + 1) end.received ≡ []) drained_end puts (λ k put at.
    none_told (builds + 1) put.sent
    (All-weaker (λ (entry : Entry). entry.build ≤ builds) (λ (entry : Entry). entry.build < builds + 1) (λ entry le. omega (arith, le)) put.sent
    (all_at (λ (p : PutEnd Entry). All (λ entry. entry.build ≤ builds) p.sent) puts k put before at)))
