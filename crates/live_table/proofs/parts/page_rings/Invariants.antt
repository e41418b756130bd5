use Rattle.std.proofs.Common.{◌≡◌, ◌≤◌, [], All, length, vec_capacity}
use Rattle.building.specs.Rings.{put_rings, take_rings, all_sent, AreOfBuilds}
use Rattle.live_table.proofs.parts.page_rings.Given as goal

abbrev pub invariant-loop : goal.invariant-loop
invariant-loop l = record {
  rings : put_rings l.pages.items ≡ take_rings l.intakes.items;
  pages : length l.pages.items ≡ l.counter;
  intakes : length l.intakes.items ≡ l.counter;
  unused : AreOfBuilds 0 (all_sent l.pages.items);
  no_copies : All (λ end. end.sent ≡ []) l.pages.items;
  room : 16 ≤ vec_capacity l.pages;
  more_room : 16 ≤ vec_capacity l.intakes;
}
