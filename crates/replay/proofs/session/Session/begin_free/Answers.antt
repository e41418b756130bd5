use Rattle.std.proofs.Common.{Some, inl, inr, refl, ◌∙◌}
use Rattle.std.proofs.lemmas.Result.{err_from_is_err_and}
use Rattle.build_events.specs.declared.reply.Reply.TheVariants.{Begun}
use Rattle.replay.proofs.Begins.{no_page_told, only_memory, wanting_begin}
use Rattle.replay.proofs.LabelNames.{renamed_behind}
use Rattle.replay.specs.Sessions.{state_of}
use Rattle.replay.proofs.session.Session.begin_free.Goals as goal

pub returns : goal.returns
returns g c =
    let core = c.args.leased.now in
    let told = Begun c.in_ok-begun.begun in
    record {
      core = (told, c.in_ok-begun.ensures.ok, no_page_told core told c.begin.new.leased c.in_ok-begun.ensures.ok, refl);
      labels = inr (
        (λ is. cc),
        inl (c.in_ok-begun.begun, refl, renamed_behind c.args.self.now.labels c.make_room.new.self c.name.new.self c.args.label.now (Some c.in_ok-begun.begun) c.make_room.ensures.same c.name.ensures),
      );
      choice = refl;
      status = refl;
    }

pub returns-in_err-make_room : goal.returns-in_err-make_room
returns-in_err-make_room g c =
    let told = err_from_is_err_and c.from_residual.result c.from_residual.ensures.1 in
    rw (told.1) (wanting_begin (state_of c.args.leased.now c.args.self.now)
    (state_of c.args.leased.now (record c.args.self.now { labels = c.make_room.new.self })) c.args.label.now told.0 c.requires
    (told.2 ∙ c.in_err-make_room.ensures.memory) refl c.make_room.ensures.same refl refl)

pub returns-in_err-begun : goal.returns-in_err-begun
returns-in_err-begun g c =
    let told = err_from_is_err_and c.from_residual-in_err-begun.result c.from_residual-in_err-begun.ensures.1 in
    let wants = only_memory c.args.leased.now c.in_err-begun.field-0.0 c.begin.new.leased c.requires c.in_err-begun.ensures.refused in
    rw (told.1) (wanting_begin (state_of c.args.leased.now c.args.self.now)
    (state_of c.begin.new.leased (record c.args.self.now { labels = c.make_room.new.self })) c.args.label.now told.0 c.requires
    (told.2 ∙ wants.0) wants.1 c.make_room.ensures.same refl refl)
