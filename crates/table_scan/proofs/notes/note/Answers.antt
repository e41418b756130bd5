use Rattle.std.proofs.Common.{◌≡◌, ap, ◌∙◌, sym, subst, List, Option, length, map}
use Rattle.std.specs.Prelude.{IfSome}
use Rattle.side_file.specs.SideFileValue.{SideFileValue}
use Rattle.table_scan.specs.Noting.{HaveAppended, HaveNoted, OthersStay, sides_used, without_room}
use Rattle.table_scan.specs.SideFiles.{put_ends}
use Rattle.page_workers.proofs.Places.{mapped}
use Rattle.build_events.specs.CoreState.{BuildState}
use Rattle.table_scan.proofs.Noting.{all_noted, none_noted, noted_over, others_stay}
use Rattle.table_scan.proofs.notes.note.Goals as goal

-- room changes no end
same_ends : (olds news : List SideFileValue) → map without_room news ≡ map without_room olds → put_ends news ≡ put_ends olds
same_ends olds news same =
    sym (mapped without_room (λ (s : SideFileValue). s.end) news) ∙ ap put_ends same ∙ mapped without_room (λ (s : SideFileValue). s.end) olds

pub returns-in_err-reserve_each-clause-ends : goal.returns-in_err-reserve_each-clause-ends
returns-in_err-reserve_each-clause-ends c = same_ends c.args.sides.now.items c.reserve_each.new.sides.items c.reserve_each.ensures.same

pub returns-clause-ends : goal.returns-clause-ends
returns-clause-ends c =
    c.append_each.ensures.ends ∙ same_ends c.args.sides.now.items c.reserve_each.new.sides.items c.reserve_each.ensures.same

pub returns-clause-noted : goal.returns-clause-noted
returns-clause-noted c =
    let b : BuildState = c.in-Some.build in
    let ready = c.args.ready.now in
    let mids = c.reserve_each.new.sides.items in
    let news = c.append_each.new.sides.items in
    let changes = c.in_ok-changes.changes.items in
    let appended : HaveAppended b.number ready.rid changes mids news =
    subst (λ n. HaveAppended n ready.rid changes mids news) c.number.ensures c.append_each.ensures.appended in
    subst (λ (o : Option BuildState). IfSome o (λ x. HaveNoted x ready c.args.sides.now.items news)) (sym c.in-Some.is)
    (noted_over b ready c.args.sides.now.items mids news c.reserve_each.ensures.same
    (all_noted b ready changes mids news c.in_ok-changes.ensures.many c.in_ok-changes.ensures.ok appended))

pub returns-in_default-clause-others : goal.returns-in_default-clause-others
returns-in_default-clause-others c = none_noted _ c.args.sides.now.items

pub returns-clause-others : goal.returns-clause-others
returns-clause-others c =
    let b : BuildState = c.in-Some.build in
    let ready = c.args.ready.now in
    let olds = c.args.sides.now.items in
    let mids = c.reserve_each.new.sides.items in
    let news = c.append_each.new.sides.items in
    subst (λ (o : Option BuildState). OthersStay (sides_used o) olds news) (sym c.in-Some.is)
    (others_stay _ ready.rid c.in_ok-changes.changes.items olds mids news (length b.specs) c.in_ok-changes.ensures.many c.reserve_each.ensures.same c.append_each.ensures.appended)
