-- New accounts have all their pages.
use Rattle.std.proofs.Common.{◌≡◌, ℕ, List, [], ◌∷◌, map, refl, sym, subst}
use Rattle.std.proofs.lemmas.List.Elements.{All-nil, All-cons}
use Rattle.std.specs.List.{All}
use Rattle.spool_ledger.specs.Accounts.{AccountValue, IsWhole, new_account}

new_are_whole : (pool : ℕ) (quotas : List ℕ) → All IsWhole (map (new_account pool) quotas)
new_are_whole pool [] = All-nil IsWhole
new_are_whole pool (quota ∷ quotas) = All-cons IsWhole (new_account pool quota) (map (new_account pool) quotas) refl (new_are_whole pool quotas)

pub are_whole : (pool : ℕ) (quotas : List ℕ) (accounts : List AccountValue) → accounts ≡ map (new_account pool) quotas → All IsWhole accounts
are_whole pool quotas accounts each = subst (All IsWhole) (sym each) (new_are_whole pool quotas)
