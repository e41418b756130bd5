use Rattle.std.proofs.Common.{◌≡◌, ◌∙◌, ◌+◌, ◌<◌, List, length, drop, get_or, ap, sym, set, arith}
use Rattle.std.proofs.lemmas.List.Edits.{map_over_more}
use Rattle.std.proofs.lemmas.List.Sums.{sum_by-drop_more}
use Rattle.std.specs.List.{sum_by}
use Rattle.spool_ledger.specs.Accounts.{AccountValue, leased, filled}
use Rattle.spool_ledger.proofs.Fills.{reached}
use Rattle.spool_ledger.proofs.pool.fill_all.Goals as goal

pub fill-requires : goal.fill-requires
fill-requires c =
    let i = c.loop-account.account-index in
    let accounts : List AccountValue = c.args.accounts.now in
    let account : AccountValue = c.account-item.result in
    let within : i < length accounts = omega arith in
    let here : account ≡ get_or accounts i account =
    reached filled accounts c.loop-account.accounts i account within c.loop-account.invariant.filled c.account-item.is in
    let rest : sum_by leased (drop i accounts) ≡ leased account + sum_by leased (drop (i + 1) accounts) =
    sum_by-drop_more leased accounts i account within ∙ ap (λ a. leased a + sum_by leased (drop (i + 1) accounts)) (sym here) in
    record { enough = rw (← c.account-item.is) (omega (arith, c.loop-account.invariant.taken, c.requires.enough, rest)) }

pub loop-account-preserved : goal.loop-account-preserved
loop-account-preserved c =
    let i = c.loop-account.account-index in
    let accounts : List AccountValue = c.args.accounts.now in
    let account : AccountValue = c.account-item.result in
    let within : i < length accounts = omega arith in
    let here : account ≡ get_or accounts i account =
    reached filled accounts c.loop-account.accounts i account within c.loop-account.invariant.filled c.account-item.is in
    let rest : sum_by leased (drop i accounts) ≡ leased account + sum_by leased (drop (i + 1) accounts) =
    sum_by-drop_more leased accounts i account within ∙ ap (λ a. leased a + sum_by leased (drop (i + 1) accounts)) (sym here) in
    let whole : c.fill.new.self ≡ filled account = c.fill.ensures.whole ∙ ap filled (sym c.account-item.is) in
    let taken = ap (λ a. leased a) (sym c.account-item.is) in
    record {
      filled =
          ap (λ a. set c.loop-account.accounts i a) whole
          ∙ map_over_more filled accounts c.loop-account.accounts i account within c.loop-account.invariant.filled c.account-item.is;
      taken = omega (arith, c.loop-account.invariant.taken, c.fill.ensures.taken, rest, taken);
      room = c.fill.ensures.room ∙ c.loop-account.invariant.room;
    }
