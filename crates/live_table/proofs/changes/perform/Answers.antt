use Rattle.std.proofs.Common.{◌≡◌, length, sym, subst, ap, ◌∙◌, refl}
use Rattle.heap_table.specs.HeapState.{HeapState}
use Rattle.heap_table.specs.Pages.{SetsRow}
use Rattle.side_file.specs.SideFileValue.{SideFileValue}
use Rattle.table_scan.specs.TableBuilds.{BuildFollows}
use Rattle.building.specs.WorkOn.{WorkMatches}
use Rattle.live_lemmas.specs.Rings.{PagesFollow}
use Rattle.table_scan.specs.SideFiles.{SidesFollow}
use Rattle.page_workers.proofs.Places.{as_long}
use Rattle.table_scan.proofs.Performed.{schema_is, follows_on, sides_follow_on, fits_build, few_specs}
use Rattle.live_lemmas.proofs.Performed.{fits_each, pages_on, works_on}
use Rattle.table_scan.proofs.SideKept.{sides_stay}
use Rattle.live_table.proofs.changes.perform.Goals as goal

pub prepare-requires : goal.prepare-requires
prepare-requires c =
    record { fits = fits_each c.args.heap.now.state c.args.ready (c.laws.ensures.ready c.args.ready c.requires.ready) c.args.indexes.now.indexes c.requires.indexes }

pub returns-in_err-prepare-clause-indexes : goal.returns-in_err-prepare-clause-indexes
returns-in_err-prepare-clause-indexes c = c.prepare.ensures.follow _ _ c.requires.indexes

pub returns-in_err-note-clause-indexes : goal.returns-in_err-note-clause-indexes
returns-in_err-note-clause-indexes c = c.prepare.ensures.follow _ _ c.requires.indexes

pub perform-requires-clause-follow : goal.perform-requires-clause-follow
perform-requires-clause-follow c = c.prepare.ensures.follow _ _ c.requires.indexes

pub note-requires-clause-fits : goal.note-requires-clause-fits
note-requires-clause-fits c =
    let heap = c.args.heap.now in
    let ready = c.args.ready in
    fits_build heap.state ready (c.laws.ensures.ready ready c.requires.ready) c.args.build.now c.requires.build.follows

pub note-requires-clause-many : goal.note-requires-clause-many
note-requires-clause-many c = few_specs c.args.heap.now.state c.args.build.now c.args.sides.now.items c.requires.build.follows c.requires.build.eight

pub returns-clause-heard : goal.returns-clause-heard
returns-clause-heard c =
    let heap = c.args.heap.now in
    let ready = c.args.ready in
    let build = c.args.build.now in
    let olds = c.args.sides.now.items in
    let news = c.note.new.sides.items in
    let lawful = c.laws.ensures.ready ready c.requires.ready in
    let done = c.perform.ensures.performed in
    let rows = subst (λ (h : HeapState). SetsRow heap.state.log ready.rid ready.new h.log) done c.perform.ensures.rows in
    let many : length olds ≡ length news = as_long (λ (s : SideFileValue). s.end) (λ (s : SideFileValue). s.end) olds news (sym c.note.ensures.ends) in
    let was = c.requires.build in
    record {
      follows = subst (λ (h : HeapState). BuildFollows h.schema h.log build) (sym done) (follows_on heap ready c.requires.ready lawful rows build was.follows);
      noted = subst (λ (h : HeapState). SidesFollow h.log build news) (sym done)
          (sides_follow_on heap ready c.requires.ready lawful rows build olds news many was.follows was.noted c.in_ok-note.ensures.noted);
      ends = c.note.ensures.ends;
      put = λ builds all put. subst (λ (h : HeapState). PagesFollow h.schema h.log builds build all) (sym done)
          (pages_on heap ready c.requires.ready lawful rows builds build all was.follows put);
      works = λ work works. subst (λ (h : HeapState). WorkMatches h.schema h.log build work) (sym done)
          (works_on heap ready c.requires.ready lawful rows build work was.follows works);
      columns = ap (λ (h : HeapState). h.schema) done ∙ schema_is heap ready c.requires.ready lawful rows;
    }

pub returns-in_err-note-clause-heard : goal.returns-in_err-note-clause-heard
returns-in_err-note-clause-heard c = record {
  follows = c.requires.build.follows;
  noted =
      sides_stay c.args.heap.now.state.log c.args.build.now c.args.sides.now.items c.note.new.sides.items c.requires.build.noted c.in_err-note.ensures.unchanged;
  ends = c.note.ensures.ends;
  put = λ builds all put. put;
  works = λ work works. works;
  columns = refl;
}
