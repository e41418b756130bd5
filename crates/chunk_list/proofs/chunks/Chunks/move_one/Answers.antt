use Rattle.std.proofs.Common.{Some, arith}
use Rattle.std.proofs.lemmas.List.Elements.{All-pop, All-rest, All-head, All-push, All-same}
use Rattle.chunk_list.specs.Chunks.{IsSpare, IsFull}
use Rattle.chunk_list.proofs.chunks.Chunks.move_one.Goals as goal

pub keep-requires-clause-kept : goal.keep-requires-clause-kept
keep-requires-clause-kept g c = record {
  first = c.requires.kept.first;
  full = All-rest IsFull c.in-Some.chunk c.pop_front.new.self.items c.args.self.now.full.items c.in-Some.ensures.items c.requires.kept.full;
  last = c.requires.kept.last;
  in_use = c.requires.kept.in_use;
  spare = c.requires.kept.spare;
  pointers = omega (arith, c.requires.kept.pointers, c.in-Some.ensures.cases, c.pop_front.ensures.capacity);
}

pub keep-requires-clause-empty : goal.keep-requires-clause-empty
keep-requires-clause-empty g c =
    (All-pop IsSpare c.args.taken.now.spare.items c.pop.new.self.items (Some c.in-Some-pop.empty) c.in-Some-pop.ensures.items c.requires.taken_kept.spare).1.0

pub returns-clause-taken_kept : goal.returns-clause-taken_kept
returns-clause-taken_kept g c =
    let is_full = All-head IsFull c.in-Some.chunk c.pop_front.new.self.items (rw c.in-Some.ensures.items at c.requires.kept.full) in
    let spares = All-pop IsSpare c.args.taken.now.spare.items c.pop.new.self.items (Some c.in-Some-pop.empty) c.in-Some-pop.ensures.items
    c.requires.taken_kept.spare in
    record {
      first = c.requires.taken_kept.first;
      full = All-same IsFull _ _ c.push_back_reserved.ensures.items (All-push IsFull c.args.taken.now.full.items c.in-Some.chunk c.requires.taken_kept.full
          is_full);
      last = c.requires.taken_kept.last;
      in_use = c.requires.taken_kept.in_use;
      spare = spares.0;
      pointers = omega (
        arith,
        c.requires.taken_kept.pointers,
        c.in-Some-pop.ensures.cases,
        c.push_back_reserved.ensures.len,
        c.push_back_reserved.ensures.capacity,
      );
    }
