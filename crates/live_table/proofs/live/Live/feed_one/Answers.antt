use Rattle.std.proofs.Common.{◌≡◌, ℕ, ◌<◌, ◌∙◌, length, Option, None, Some, refl, ap}
use Rattle.build_events.specs.BuildSteps.{OnBuild}
use Rattle.build_events.specs.CoreState.{BuildState}
use Rattle.live_lemmas.specs.Builds.{LiveValue}
use Rattle.table_scan.specs.SideFiles.{side_refusal}
use Rattle.live_lemmas.proofs.ApplyCauses.{inside_of}
use Rattle.live_lemmas.proofs.FedBeside.{batch_beside}
use Rattle.live_lemmas.proofs.Feeding.{works_side_looked}
use Rattle.live_table.proofs.live.Live.feed_one.Goals as goal

-- there is a side-file for each index of a build
free_of : (o : Option BuildState) (index : ℕ) → OnBuild o (λ b. index < length b.specs) → side_refusal o index ≡ None
free_of None index there = absurd there
free_of (Some b) index there = rw (inside_of b index there) refl

pub feed_batch-requires-clause-there : goal.feed_batch-requires-clause-there
feed_batch-requires-clause-there g c =
    let looked = c.look_at_side.ensures.looked in
    ap (λ (l : LiveValue). side_refusal l.state.build c.args.index) looked.puts ∙ free_of c.args.self.now.state.build c.args.index c.requires.there

pub returns-clause-works : goal.returns-clause-works
returns-clause-works g c =
    c.feed_batch.ensures.works c.look_at_side.new.building
    (works_side_looked c.args.index c.args.self.now c.look_at_side.new.self c.args.building.now c.look_at_side.new.building c.look_at_side.ensures.looked c.requires.works)

pub returns-clause-fed : goal.returns-clause-fed
returns-clause-fed g c =
    let looked = c.look_at_side in
    batch_beside c.args.index c.args.self.now looked.new.self c.args.building.now looked.new.building looked.ensures.looked c.requires.works looked.ensures.follows
    looked.result looked.ensures.sees c.args.most c.feed_batch.new.self c.feed_batch.result c.requires.there c.requires.empty c.feed_batch.ensures.fed
