use Rattle.std.proofs.Common.{deque_len, ap, arith}
use Rattle.std.proofs.lemmas.List.Elements.{All-rest, All-head}
use Rattle.chunk_list.specs.Chunks.{IsFull}
use Rattle.chunk_list.proofs.chunks.Chunks.pop_front.Goals as goal

pub keep-requires-clause-kept : goal.keep-requires-clause-kept
keep-requires-clause-kept g c =
    let is_full = All-head IsFull c.in-Some-pop_front.chunk c.pop_front-2.new.self.items (rw c.in-Some-pop_front.ensures.items at c.requires.full) in
    record {
      first = omega (arith, is_full, ap deque_len c.replace-empty.ensures.after);
      full = All-rest IsFull c.in-Some-pop_front.chunk c.pop_front-2.new.self.items c.args.self.now.full.items c.in-Some-pop_front.ensures.items
          c.requires.full;
      last = c.requires.last;
      in_use = c.requires.in_use;
      spare = c.requires.spare;
      pointers = omega (arith, c.requires.pointers, c.in-Some-pop_front.ensures.cases, c.pop_front-2.ensures.capacity);
    }
