use Rattle.std.proofs.Common.{◌≡◌, true, false, length, Option, refl, ap, sym, subst, ◌∙◌}
use Rattle.std.specs.Option.{IfSome}
use Rattle.live_lemmas.specs.Builds.{LiveValue, core_state, IsRunning}
use Rattle.building.specs.BuildingValue.{BuildingValue, WorkValue}
use Rattle.live_lemmas.proofs.Loaded.{lent_once, put_inside}
use Rattle.live_lemmas.proofs.HandedOver.{can_hand_over, handed_is, handed_run, handed_state}
use Rattle.live_table.proofs.live.Live.hand_over.Goals as goal

pub hand_over-requires : goal.hand_over-requires
hand_over-requires g c =
    let may = c.requires in
    let live : LiveValue = c.args.self.now in
    let scans : may.work.handed ≡ false = sym (subst (λ (o : Option WorkValue). IfSome o (λ work. false ≡ work.handed)) may.runs.work_is c.if-not-is_loading.ensures.handed) in
    let rings : length live.pages ≡ 16 = sym (ap (λ (l : LiveValue). length l.pages) c.self.view_is) ∙ c.self.invariant.5.sixteen in
    let put = put_inside _ live may.build c.self.view_is may.runs.build_is c.self.invariant.3 in
    can_hand_over live c.args.building.now may.build may.work may.runs may.fine scans rings may.sealed may.all (may.holding scans)
    (lent_once live c.args.building.now may.build may.work may.runs may.fine scans rings may.sealed may.all (may.holding scans) put)

pub returns-then-not-is_loading-clause-state : goal.returns-then-not-is_loading-clause-state
returns-then-not-is_loading-clause-state g c =
    let may = c.requires in
    let live : LiveValue = c.args.self.now in
    let old : BuildingValue = c.args.building.now in
    let scans : may.work.handed ≡ false = sym (subst (λ (o : Option WorkValue). IfSome o (λ work. false ≡ work.handed)) may.runs.work_is c.if-not-is_loading.ensures.handed) in
    let rings : length live.pages ≡ 16 = sym (ap (λ (l : LiveValue). length l.pages) c.self.view_is) ∙ c.self.invariant.5.sixteen in
    ap (core_state live) (handed_is live old may.build may.work may.runs may.fine scans rings may.sealed may.all (may.holding scans) c.hand_over.new.self c.hand_over.ensures)
    ∙ handed_state live old may.build may.work may.runs may.fine scans rings may.sealed may.all (may.holding scans)

pub returns-then-not-is_loading-clause-loads : goal.returns-then-not-is_loading-clause-loads
returns-then-not-is_loading-clause-loads g c =
    let may = c.requires in
    let live : LiveValue = c.args.self.now in
    let old : BuildingValue = c.args.building.now in
    let scans : may.work.handed ≡ false = sym (subst (λ (o : Option WorkValue). IfSome o (λ work. false ≡ work.handed)) may.runs.work_is c.if-not-is_loading.ensures.handed) in
    let rings : length live.pages ≡ 16 = sym (ap (λ (l : LiveValue). length l.pages) c.self.view_is) ∙ c.self.invariant.5.sixteen in
    let after : WorkValue = record may.work { handed = true } in
    record {
      build = may.build;
      work = after;
      runs = subst (λ (x : BuildingValue). IsRunning live x may.build after)
          (sym (handed_is live old may.build may.work may.runs may.fine scans rings may.sealed may.all (may.holding scans) c.hand_over.new.self c.hand_over.ensures))
          (handed_run live old may.build may.work may.runs may.fine scans rings may.sealed may.all (may.holding scans));
      fine = may.fine;
      there = may.there;
      loads = refl;
    }
