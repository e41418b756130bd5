use Rattle.std.proofs.Common.{arith, subst}
use Rattle.side_file.specs.SideFileValue.{SideFileValue}
use Rattle.side_file.specs.Changes.{IsSideFile}
use Rattle.side_file.proofs.PortionLemmas.{side_laws}
use Rattle.side_file.proofs.side_file.SideFile.laws.Goals as goal

pub returns : goal.returns
returns c =
    subst (λ (side : SideFileValue). IsSideFile side) c.self.view_is
    (side_laws _ _ _ _ _ _ _ _ c.self.invariant (omega (arith, c.self.inside.producer.counts)) (omega (arith, c.self.inside.producer.counts)))
