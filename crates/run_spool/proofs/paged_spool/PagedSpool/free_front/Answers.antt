use Rattle.std.proofs.Common.{◌≡◌, ◌<◌, ◌∙◌, List, [], get_or, length, ap, arith}
use Rattle.std.proofs.lemmas.List.{get_or_default}
use Rattle.run_spool.specs.Pages.{PageValue}
use Rattle.run_spool.specs.PagedSpools.{PagedSpoolValue}
use Rattle.run_spool.proofs.SpoolSteps.{freed_spool, run_freed}
use Rattle.run_spool.proofs.paged_spool.PagedSpool.free_front.Goals as goal

pub invariant_of-self : goal.invariant_of-self
invariant_of-self g c =
    let i = c.self.inside in
    let n = c.args.i in
    let same = ap (λ (s : PagedSpoolValue). s.runs) c.self.view_is in
    let there : n < length i.runs.items = omega (arith, c.requires.run, ap (λ (runs : List (List PageValue)). length runs) same) in
    let before : List PageValue = c.index_mut-run.result.now in
    let run : before ≡ get_or i.runs.items n [] = c.index_mut-run.ensures.value ∙ get_or_default i.runs.items n before [] there in
    let f = c.free_front.ensures in
    run_freed c.free_front.new.account (length c.free_front.new.spare) n c.args.n before c.free_front.new.self c.self.invariant there run
    f.run f.given f.account f.frames

pub returns : goal.returns
returns g c =
    let i = c.self.inside in
    let n = c.args.i in
    let spool : PagedSpoolValue = record { runs = i.runs.items; open_run = i.open_run; account = i.account } in
    let same = ap (λ (s : PagedSpoolValue). s.runs) c.self.view_is in
    let there : n < length i.runs.items = omega (arith, c.requires.run, ap (λ (runs : List (List PageValue)). length runs) same) in
    let before : List PageValue = c.index_mut-run.result.now in
    let run : before ≡ get_or i.runs.items n [] = c.index_mut-run.ensures.value ∙ get_or_default i.runs.items n before [] there in
    rw (← c.self.view_is)
    (freed_spool spool n c.args.n before c.free_front.new.self c.free_front.new.account run
    c.free_front.ensures.run c.free_front.ensures.account c.free_front.ensures.given)
