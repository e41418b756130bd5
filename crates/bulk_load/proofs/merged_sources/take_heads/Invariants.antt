use Rattle.std.proofs.Common.{◌≡◌, ◌≤◌, ◌<◌, ℕ, length, map, get_or, None, [], vec_capacity}
use Rattle.run_merge.specs.Merging.{head_of}
use Rattle.bulk_load.specs.Headed.{with_heads}
use Rattle.bulk_load.proofs.merged_sources.take_heads.Given as goal

abbrev pub invariant-loop-place : goal.invariant-loop-place
invariant-loop-place g l = record {
  taken : length l.heads.items ≡ l.place;
  room : l.place-end ≤ vec_capacity l.heads;
  many : length l.sources.items ≡ l.place-end;
  all : with_heads l.heads.items (map g.X.Source.left l.sources.items) ≡ map g.X.Source.left l.initial.sources.items;
  at : (k : ℕ) → k < l.place → get_or l.heads.items k None ≡ head_of (get_or (map g.X.Source.left l.initial.sources.items) k []);
  same : (k : ℕ) → l.place ≤ k → get_or (map g.X.Source.left l.sources.items) k [] ≡ get_or (map g.X.Source.left l.initial.sources.items) k [];
}
