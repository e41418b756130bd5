use Rattle.std.proofs.Common.{◌≡◌, ◌∙◌, ◌+◌, ◌≤◌, ◌<◌, ◌++◌, List, length, refl, sym, ap, subst, arith, Option, Some}
use Rattle.std.specs.Prelude.{IfSome}
use Rattle.std.specs.List.{slice_get}
use Rattle.std.proofs.lemmas.Option.{same_Some}
use Rattle.side_file.specs.Ends.{PutEnd, RingId}
use Rattle.page_workers.specs.WorkerValue.{WorkerValue}
use Rattle.page_workers.specs.declared.copied.Copied.{Copied}
use Rattle.building.specs.Rings.{unseen}
use Rattle.table_scan.proofs.LookedEnds.{all_unlooked, one_looked}
use Rattle.page_workers.proofs.Places.{at_index, kept, here_set, map_at}
use Rattle.building.proofs.rings.waiting.Goals as goal

pub waiting-requires : goal.waiting-requires
waiting-requires g c =
    let pages : List (PutEnd Copied) = c.args.pages.now.items in
    let workers : List WorkerValue = c.args.workers.now.items in
    let put : PutEnd Copied = c.index_mut-2.result.now in
    let it : WorkerValue = c.index_mut.result.now in
    let less : c.args.worker < length pages = let there = c.requires.there in let few = c.requires.few in omega (arith, there, few) in
    let there : slice_get pages c.args.worker ≡ Some put = at_index pages c.args.worker put c.index_mut-2.ensures.value less in
    let here : slice_get workers c.args.worker ≡ Some it = at_index workers c.args.worker it c.index_mut.ensures.value c.requires.there in
    let table : slice_get g.T.TableRings.pages c.args.worker ≡ Some put.ring =
    ap (λ (rings : List RingId). slice_get rings c.args.worker) (sym c.requires.rings) ∙ map_at (λ (e : PutEnd Copied). e.ring) pages c.args.worker put there in
    same_Some put.ring it.intake.end.ring (sym table ∙ c.requires.at c.args.worker it here)

pub returns-clause-looked : goal.returns-clause-looked
returns-clause-looked g c =
    let pages : List (PutEnd Copied) = c.args.pages.now.items in
    let workers : List WorkerValue = c.args.workers.now.items in
    let putter : PutEnd Copied = c.index_mut-2.result.now in
    let worker : WorkerValue = c.index_mut.result.now in
    record {
      puts = one_looked pages pages c.args.worker putter c.waiting.new.putter (all_unlooked pages) c.index_mut-2.ensures.value c.waiting.ensures.putter;
      same = kept unseen workers _ c.args.worker c.waiting.new.self worker refl
          (ap unseen c.waiting.ensures.worker ∙ ap unseen c.index_mut.ensures.value);
    }

pub returns-clause-seen : goal.returns-clause-seen
returns-clause-seen g c =
    subst (λ (o : Option WorkerValue). IfSome o (λ w. c.waiting.result ≡ length w.intake.end.known))
    (sym (here_set c.args.workers.now.items c.args.worker c.waiting.new.self c.requires.there)) c.waiting.ensures.value

pub returns-clause-in_order : goal.returns-clause-in_order
returns-clause-in_order g c = λ end w there at.
    let less : c.args.worker < length c.args.pages.now.items = let here = c.requires.there in let few = c.requires.few in omega (arith, here, few) in
    let putter : c.waiting.new.putter ≡ end =
    same_Some c.waiting.new.putter end (sym (here_set c.args.pages.now.items c.args.worker c.waiting.new.putter less) ∙ there) in
    let worker : c.waiting.new.self ≡ w =
    same_Some c.waiting.new.self w (sym (here_set c.args.workers.now.items c.args.worker c.waiting.new.self c.requires.there) ∙ at) in
    ap (λ (v : WorkerValue). v.intake.end.received ++ v.intake.end.known) (sym worker) ∙ c.waiting.ensures.in_order ∙ ap (λ (e : PutEnd Copied). e.sent) putter

pub returns-clause-free : goal.returns-clause-free
returns-clause-free g c = λ end there.
    let less : c.args.worker < length c.args.pages.now.items = let here = c.requires.there in let few = c.requires.few in omega (arith, here, few) in
    let putter : c.waiting.new.putter ≡ end =
    same_Some c.waiting.new.putter end (sym (here_set c.args.pages.now.items c.args.worker c.waiting.new.putter less) ∙ there) in
    subst (λ (e : PutEnd Copied). 4 ≤ e.free + c.waiting.result) putter c.waiting.ensures.free
