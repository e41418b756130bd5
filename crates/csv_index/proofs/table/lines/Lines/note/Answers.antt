use Rattle.std.proofs.Common.{◌≡◌, ◌≢◌, ◌<◌, ℕ, List, [], map, length, slice_index, slice_index_or, sym, ap, subst, ◌∙◌, arith}
use Rattle.std.specs.Global.{Vec}
use Rattle.std.specs.Vec.{vec_items}
use Rattle.std.proofs.lemmas.List.{get_or-map, length-map, map-set}
use Rattle.csv_index.specs.Lines.{line_of}
use Rattle.csv_index.proofs.Paged.{noted_on}
use Rattle.csv_index.proofs.table.lines.Lines.note.Goals as goal

pub returns : goal.returns
returns c =
    let rid = c.args.rid in
    let pages : List (Vec ℕ) = c.add_pages.new.pages.items in
    let page : Vec ℕ = c.index_mut.result.now in
    let noted : Vec ℕ = c.note_slot.new.lines in
    let inside : rid.page < length pages = omega (arith, c.in_ok-add_pages.ensures.there, c.add_pages.new.pages.ok.0) in
    let inside_lines : rid.page < length (map vec_items pages) = omega (arith, inside, length-map pages vec_items) in
    let old : slice_index_or (map vec_items pages) rid.page [] ≡ page.items =
    get_or-map vec_items pages rid.page page [] inside ∙ sym (ap vec_items c.index_mut.ensures.value) in
    let here = subst (λ (slot : ℕ). slice_index noted.items slot ≡ c.args.line) c.from.ensures c.in_ok-note_slot.ensures.here in
    let others = subst (λ (slot : ℕ). (other : ℕ) → other ≢ slot → slice_index noted.items other ≡ slice_index page.items other) c.from.ensures
    c.in_ok-note_slot.ensures.elsewhere in
    let on = noted_on (map vec_items pages) _ noted.items rid c.args.line inside_lines (map-set vec_items pages rid.page noted) here (λ slot differs.
    others slot differs ∙ sym (ap (λ (lines : List ℕ). slice_index lines slot) old)) in
    record {
      here = on.here;
      elsewhere = λ other differs.
          on.elsewhere other differs
          ∙ (c.in_ok-add_pages.ensures.same other ∙ ap (λ (lines : List (List ℕ)). line_of lines other) c.self.view_is);
    }
