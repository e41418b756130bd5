-- The field says only that a proof exists. An entailment is a proposition, so the proof may be opened in front of the walk that Rattle made.
use seplogic.Bi.Basic.{Entails-prop}
use mathlib.Core.Logic.{∥∥₁_elim}
use base.Logic.{via, mono_r}
use denote.Triple.Entry.{on_entry}
use borrow.Fn.Kinds.{sig_of}
use contract.Monad.{fact_mono}
use Rattle.run_maker.proofs.par_sort.ParSort.runtime.Statement.{statement}
use Rattle.run_maker.proofs.par_sort.ParSort.runtime.Lts as lts
use Rattle.run_maker.proofs.par_sort.ParSort.runtime.Reads as reads
use Rattle.run_maker.proofs.par_sort.ParSort.runtime.Tie as tie

pub runtime_spec : {M : Type 1} → statement M
runtime_spec {M} =
    tie.close (λ R L g d w met 𝓤 𝓛 𝓣 y.
    ∥∥₁_elim y.0.3.0.now.shared (Entails-prop 𝓤.op _ _) (λ shared.
    via 𝓤 _ (mono_r 𝓤 (on_entry 𝓛 (sig_of 3 (lts.ps R L g d) (lts.r R L g d)) y.0.0 y.0.1 y.0.3 y.0.4) (fact_mono 𝓤 _ (reads.Pre R L g d y.0.0 y.0.3 × g.shared) (λ p. (p, shared))))
    (lts.spec R L g d (λ κs a. reads.Pre R L g d κs a × g.shared) (reads.Post R L g d) (λ c. c.requires.1) 𝓤 𝓛 𝓣 y)))
