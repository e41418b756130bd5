use Rattle.std.proofs.Common.{◌≡◌, ◌∙◌, ◌<◌, ◌++◌, ◌∷◌, [], List, length, map, take, take_all, refl, sym, ap, ap₂, subst, arith, get_or}
use Rattle.std.specs.List.{All}
use Rattle.std.proofs.lemmas.List.{map-append, take_more_set}
use Rattle.std.proofs.lemmas.List.Elements.{All-head, All-tail, All-push}
use Rattle.side_file.specs.Ends.{PutEnd, RingId}
use Rattle.page_workers.specs.Work.{at_start}
use Rattle.page_workers.specs.IntakeValue.{IntakeValue}
use Rattle.page_workers.specs.declared.copied.Copied.{Copied}
use Rattle.building.specs.Rings.{all_free, begun_on}
use Rattle.page_workers.proofs.Places.{kept, both_at, as_long}
use Rattle.building.proofs.rings.restart_all.Goals as goal

abbrev IsFree : PutEnd Copied → Type 0
IsFree end = end.free ≡ 4

-- ends that know each place to be free
free_already : (ends : List (PutEnd Copied)) → All IsFree ends → map all_free ends ≡ ends
free_already [] all = refl
free_already (end ∷ ends) all =
    ap₂ ◌∷◌ (ap (λ n. record end { free = n }) (sym (All-head IsFree end ends all))) (free_already ends (All-tail IsFree end ends all))

pub restart-requires : goal.restart-requires
restart-requires c =
    let putter = c.index_mut-in-loop-k.result.now in
    let worker = c.index_mut.result.now in
    let same = c.loop-k.invariant.put_ones ∙ sym c.loop-k.invariant.take_ones in
    let long = as_long (λ (end : PutEnd Copied). end.ring) (λ (worker : IntakeValue). worker.end.ring) c.loop-k.pages.items c.loop-k.intakes.items same in
    let kept = as_long (λ (end : PutEnd Copied). end.ring) (λ (end : PutEnd Copied). end.ring) c.loop-k.pages.items c.args.pages.now.items c.loop-k.invariant.put_ones in
    let less : c.loop-k.k < length c.loop-k.pages.items = omega (arith, kept) in
    ap (λ (end : PutEnd Copied). end.ring) c.index_mut-in-loop-k.ensures.value
    ∙ both_at (λ (end : PutEnd Copied). end.ring) (λ (worker : IntakeValue). worker.end.ring) c.loop-k.pages.items c.loop-k.intakes.items c.loop-k.k putter worker
    same less (omega (arith, long, less))
    ∙ sym (ap (λ (worker : IntakeValue). worker.end.ring) c.index_mut.ensures.value)

pub loop-k-preserved : goal.loop-k-preserved
loop-k-preserved c =
    let pages : List (PutEnd Copied) = c.loop-k.pages.items in
    let workers : List IntakeValue = c.loop-k.intakes.items in
    let old : PutEnd Copied = c.index_mut-in-loop-k.result.now in
    let new : PutEnd Copied = c.restart.new.putter in
    let worker : IntakeValue = c.index_mut.result.now in
    let same = c.loop-k.invariant.put_ones ∙ sym c.loop-k.invariant.take_ones in
    let long = as_long (λ (end : PutEnd Copied). end.ring) (λ (worker : IntakeValue). worker.end.ring) pages workers same in
    let as_many = as_long (λ (end : PutEnd Copied). end.ring) (λ (end : PutEnd Copied). end.ring) pages c.args.pages.now.items c.loop-k.invariant.put_ones in
    let less : c.loop-k.k < length pages = omega (arith, as_many) in
    let here : worker.end.ring ≡ old.ring =
    ap (λ (w : IntakeValue). w.end.ring) c.index_mut.ensures.value
    ∙ sym (both_at (λ (end : PutEnd Copied). end.ring) (λ (w : IntakeValue). w.end.ring) pages workers c.loop-k.k old worker same less (omega (arith, long, less)))
    ∙ sym (ap (λ (end : PutEnd Copied). end.ring) c.index_mut-in-loop-k.ensures.value) in
    let Begun : RingId → IntakeValue = λ ring. at_start c.args.build (record { ring = ring; received = old.sent; known = [] }) in
    let begun : c.restart.new.self ≡ begun_on c.args.build new =
    c.restart.ensures.worker ∙ ap Begun here ∙ sym (ap (begun_on c.args.build) c.restart.ensures.putter) in
    let put : new ≡ record (get_or pages c.loop-k.k old) { free = 4 } =
    c.restart.ensures.putter ∙ ap (λ (end : PutEnd Copied). record end { free = 4 }) c.index_mut-in-loop-k.ensures.value in
    record {
      put_ones = kept (λ (end : PutEnd Copied). end.ring) pages _ c.loop-k.k new old c.loop-k.invariant.put_ones (ap (λ (end : PutEnd Copied). end.ring) put);
      sent = kept (λ (end : PutEnd Copied). end.sent) pages _ c.loop-k.k new old c.loop-k.invariant.sent (ap (λ (end : PutEnd Copied). end.sent) put);
      freed = kept all_free pages _ c.loop-k.k new old c.loop-k.invariant.freed (ap all_free put);
      free = subst (All IsFree) (sym (take_more_set pages c.loop-k.k new less))
          (All-push IsFree (take c.loop-k.k pages) new c.loop-k.invariant.free (ap (λ (end : PutEnd Copied). end.free) c.restart.ensures.putter));
      take_ones = kept (λ (w : IntakeValue). w.end.ring) workers _ c.loop-k.k c.restart.new.self worker c.loop-k.invariant.take_ones
          (ap (λ (w : IntakeValue). w.end.ring) (c.restart.ensures.worker) ∙ ap (λ (w : IntakeValue). w.end.ring) c.index_mut.ensures.value);
      so_far =
          take_more_set workers c.loop-k.k c.restart.new.self (omega (arith, long, less))
          ∙ ap (λ ws. ws ++ c.restart.new.self ∷ []) c.loop-k.invariant.so_far
          ∙ ap (λ (w : IntakeValue). map (begun_on c.args.build) (take c.loop-k.k pages) ++ w ∷ []) begun
          ∙ sym (map-append (begun_on c.args.build) (take c.loop-k.k pages) (new ∷ []))
          ∙ ap (map (begun_on c.args.build)) (sym (take_more_set pages c.loop-k.k new less));
    }

pub returns-clause-intakes : goal.returns-clause-intakes
returns-clause-intakes c =
    let pages : List (PutEnd Copied) = c.loop-k.pages.items in
    let workers : List IntakeValue = c.loop-k.intakes.items in
    let same = c.loop-k.invariant.put_ones ∙ sym c.loop-k.invariant.take_ones in
    let long = as_long (λ (end : PutEnd Copied). end.ring) (λ (worker : IntakeValue). worker.end.ring) pages workers same in
    let kept = as_long (λ (end : PutEnd Copied). end.ring) (λ (end : PutEnd Copied). end.ring) pages c.args.pages.now.items c.loop-k.invariant.put_ones in
    sym (take_all c.loop-k.k workers (omega (arith, long, kept)))
    ∙ c.loop-k.invariant.so_far
    ∙ ap (map (begun_on c.args.build)) (take_all c.loop-k.k pages (omega (arith, kept)))

pub returns-clause-free : goal.returns-clause-free
returns-clause-free c =
    let pages : List (PutEnd Copied) = c.loop-k.pages.items in
    let many = as_long (λ (end : PutEnd Copied). end.ring) (λ (end : PutEnd Copied). end.ring) pages c.args.pages.now.items c.loop-k.invariant.put_ones in
    sym (free_already pages (subst (All IsFree) (take_all c.loop-k.k pages (omega (arith, many))) c.loop-k.invariant.free)) ∙ c.loop-k.invariant.freed
