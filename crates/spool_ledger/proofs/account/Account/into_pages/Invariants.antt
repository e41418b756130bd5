use Rattle.std.proofs.Common.{◌≡◌, ◌+◌, ◌≤◌, vec_len, vec_capacity}
use Rattle.spool_ledger.proofs.account.Account.into_pages.Given as goal

abbrev pub invariant-loop-page : goal.invariant-loop-page
invariant-loop-page l = record {
  given : vec_len l.pages + vec_len l.self-inside.free ≡ vec_len l.initial.pages + vec_len l.initial.self-inside.free;
  fits : vec_len l.pages + vec_len l.self-inside.free ≤ vec_capacity l.pages;
  room : vec_capacity l.pages ≡ vec_capacity l.initial.pages;
}

abbrev pub decreases-loop-page : goal.decreases-loop-page
decreases-loop-page l = vec_len l.self-inside.free
