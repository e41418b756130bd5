use Rattle.std.proofs.Common.{◌≡◌, ◌∙◌, ◌++◌, [], length, All, sym, ap, subst, arith}
use Rattle.std.specs.Prelude.{IfSome}
use Rattle.std.proofs.lemmas.List.{append_cancel_left, append-nil, nil_from_length}
use Rattle.std.proofs.lemmas.Option.{get_or_from_slice_get}
use Rattle.side_file.specs.Ends.{PutEnd}
use Rattle.page_workers.specs.WorkerValue.{WorkerValue}
use Rattle.page_workers.specs.declared.copied.Copied.{Copied}
use Rattle.page_workers.proofs.Places.{at_map}
use Rattle.building.proofs.rings.is_unsealed.Goals as goal

pub returns-then-waiting-gt0-clause-seen : goal.returns-then-waiting-gt0-clause-seen
returns-then-waiting-gt0-clause-seen g c = λ sent w there at.
    let end = at_map (λ (e : PutEnd Copied). e.sent) c.waiting.new.pages.items c.args.worker sent there in
    c.waiting.ensures.in_order end.0 w end.1 at ∙ end.2

pub returns-else-waiting-gt0-clause-seen : goal.returns-else-waiting-gt0-clause-seen
returns-else-waiting-gt0-clause-seen g c = λ sent w there at.
    let end = at_map (λ (e : PutEnd Copied). e.sent) c.waiting.new.pages.items c.args.worker sent there in
    c.waiting.ensures.in_order end.0 w end.1 at ∙ end.2

pub returns-then-waiting-gt0-clause-unsealed : goal.returns-then-waiting-gt0-clause-unsealed
returns-then-waiting-gt0-clause-unsealed g c = λ is sent w there at sealed.
    let end = at_map (λ (e : PutEnd Copied). e.sent) c.waiting.new.pages.items c.args.worker sent there in
    let in_order = c.waiting.ensures.in_order end.0 w end.1 at in
    let none : w.intake.end.known ≡ [] =
    append_cancel_left w.intake.end.received w.intake.end.known [] (in_order ∙ end.2 ∙ sym sealed.taken ∙ sym (append-nil w.intake.end.received)) in
    let seen : c.waiting.result ≡ length w.intake.end.known = subst (λ o. IfSome o (λ (v : WorkerValue). c.waiting.result ≡ length v.intake.end.known)) at c.waiting.ensures.seen in
    omega (arith, seen, ap length none, c.if-waiting-gt0.true)

pub returns-else-waiting-gt0-clause-unsealed : goal.returns-else-waiting-gt0-clause-unsealed
returns-else-waiting-gt0-clause-unsealed g c = λ is sent w there at sealed.
    let here : c.index.result.now ≡ w =
    c.index.ensures ∙ get_or_from_slice_get c.waiting.new.workers.items c.args.worker w c.index.result.now at in
    c.has_open_run.ensures.some is (subst (λ (v : WorkerValue). All (λ begun. begun ≡ []) v.maker.begun) (sym here) sealed.closed)

pub returns-else-waiting-gt0-clause-sealed : goal.returns-else-waiting-gt0-clause-sealed
returns-else-waiting-gt0-clause-sealed g c = λ is sent w there at.
    let here : c.index.result.now ≡ w =
    c.index.ensures ∙ get_or_from_slice_get c.waiting.new.workers.items c.args.worker w c.index.result.now at in
    let end = at_map (λ (e : PutEnd Copied). e.sent) c.waiting.new.pages.items c.args.worker sent there in
    let seen : c.waiting.result ≡ length w.intake.end.known = subst (λ o. IfSome o (λ (v : WorkerValue). c.waiting.result ≡ length v.intake.end.known)) at c.waiting.ensures.seen in
    let none : w.intake.end.known ≡ [] = nil_from_length w.intake.end.known (omega (arith, seen, c.if-waiting-gt0.false)) in
    record {
      taken = sym (append-nil w.intake.end.received) ∙ ap (λ ks. w.intake.end.received ++ ks) (sym none) ∙ c.waiting.ensures.in_order end.0 w end.1 at ∙ end.2;
      closed = subst (λ (v : WorkerValue). All (λ begun. begun ≡ []) v.maker.begun) here (c.has_open_run.ensures.none is);
    }
