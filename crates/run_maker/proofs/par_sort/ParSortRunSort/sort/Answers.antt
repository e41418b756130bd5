use Rattle.run_maker.proofs.par_sort.ParSortRunSort.sort.Goals as goal

pub par_sort_unstable-requires-sync-typeof-rt : goal.par_sort_unstable-requires-sync-typeof-rt
par_sort_unstable-requires-sync-typeof-rt g c κs within = record { shared = g.met.R.Shareable.says c.runtime.ensures }
