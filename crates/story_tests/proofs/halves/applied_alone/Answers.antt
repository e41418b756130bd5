use Rattle.std.proofs.Common.{◌≤◌, ◌<◌, rules, sym, subst, length}
use Rattle.std.proofs.Math.Nat.{min-le_right}
use Rattle.page_workers.proofs.Places.{there_is}
use Rattle.building.specs.BuildingValue.{WorkValue}
use Rattle.building.proofs.Applying.{can_apply_seen}
use Rattle.story_tests.proofs.halves.applied_alone.Goals as goal

pub apply-requires : goal.apply-requires
apply-requires g c =
    let work : WorkValue = c.in-Some.work.now in
    let seen = c.look_for_entries-seen in
    let less : 0 < length work.indexes = search rules in
    let it = there_is work.indexes 0 less in
    let few : c.min.result ≤ seen.result = subst (λ n. n ≤ seen.result) (sym c.min.ensures) (min-le_right c.args.most seen.result) in
    can_apply_seen 0 c.min.result seen.result c.args.building.now seen.new.self work it.0 seen.ensures c.in-Some.ensures c.in_ok-check.ensures it.1
    (sym (c.if-not-is_loaded.ensures it.0 it.1)) few
