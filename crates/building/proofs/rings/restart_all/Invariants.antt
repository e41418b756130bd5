use Rattle.std.proofs.Common.{◌≡◌, All, map, take}
use Rattle.building.specs.Rings.{put_rings, take_rings, all_sent, all_free, begun_on}
use Rattle.building.proofs.rings.restart_all.Given as goal

abbrev pub invariant-loop-k : goal.invariant-loop-k
invariant-loop-k l = record {
  put_ones : put_rings l.pages.items ≡ put_rings l.initial.pages.items;
  sent : all_sent l.pages.items ≡ all_sent l.initial.pages.items;
  freed : map all_free l.pages.items ≡ map all_free l.initial.pages.items;
  free : All (λ end. end.free ≡ 4) (take l.k l.pages.items);
  take_ones : take_rings l.intakes.items ≡ put_rings l.initial.pages.items;
  so_far : take l.k l.intakes.items ≡ map (begun_on l.build) (take l.k l.pages.items);
}
