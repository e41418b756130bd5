use Rattle.std.proofs.Common.{◌∙◌, ◌∷◌, ◌++◌, [], List, append_assoc, append-nil, map, sym, ap, subst, arith}
use Rattle.std.proofs.lemmas.List.{nil_from_length}
use Rattle.std.specs.List.{AllZip}
use Rattle.std.specs.Vec.Iter.{into_iter_items}
use Rattle.index_load.specs.IndexLoad.{HasRun, IndexLoadValue}
use Rattle.crew.proofs.Placewise.{zip_append}
use Rattle.crew.proofs.online_build.loading.join_all.Goals as goal

pub loop-handle-preserved : goal.loop-handle-preserved
loop-handle-preserved g c =
    let was = c.loop-handle.invariant.2 in
    let its : IndexLoadValue = c.in-Some.handle.promise.load.value in
    let rest = into_iter_items c.next.new.self in
    let ran = zip_append HasRun was.0 (its ∷ []) c.loop-handle.back.items (c.join.result ∷ []) was.1 (c.join.ensures, tt) in
    let next = ap (λ l. was.0 ++ map (λ handle. handle.promise.load.value) l) c.in-Some.ensures.steps.0 in (
      tt,
      tt,
      (
        was.0 ++ its ∷ [],
        subst (AllZip HasRun (was.0 ++ its ∷ [])) (sym c.push_reserved.ensures.items) ran,
        append_assoc was.0 (its ∷ []) (map (λ handle. handle.promise.load.value) rest) ∙ sym next ∙ was.2,
      ),
      grind (arith, c.loop-handle.invariant.3, c.push_reserved.ensures, c.in-Some.ensures.steps.0),
      c.push_reserved.ensures.capacity ∙ c.loop-handle.invariant.4,
    )

pub returns : goal.returns
returns g c = λ loads of.
    let was = c.loop-handle.invariant.2 in
    let no_handle = nil_from_length (into_iter_items c.loop-handle.handle-iterator) (sym c.loop-handle.handle-iterator.rest.ok.0 ∙ c.in-None.ensures.steps.0) in
    let no_load = nil_from_length (into_iter_items c.loop-load.load-iterator) (sym c.loop-load.load-iterator.rest.ok.0 ∙ c.in-None-load.ensures.steps.0) in
    let gone = sym (append-nil was.0) ∙ sym (ap (λ l. was.0 ++ map (λ handle. handle.promise.load.value) l) no_handle) ∙ was.2 in
    let all = ap (λ (l : List IndexLoadValue). l ++ of.others) gone ∙ sym of.all in
    let back = sym (append-nil c.loop-load.back.items) ∙ sym (ap (λ l. c.loop-load.back.items ++ l) no_load) ∙ c.loop-load.invariant.2 in
    subst (λ (l : List IndexLoadValue). AllZip HasRun l c.loop-load.back.items) all
    (subst (AllZip HasRun (was.0 ++ of.others)) (sym back) (zip_append HasRun was.0 of.others c.loop-handle.back.items c.args.rest.items was.1 of.have_run))
