use Rattle.std.proofs.Common.{◌++◌, sym, ap, ◌∙◌, map-id}
use Rattle.std.specs.String.{string_bytes}
use Rattle.std.proofs.lemmas.Iterator.{YieldsList-from_chars}
use Rattle.std.proofs.lemmas.Iterator.Consumers.{YieldsList-end}
use Rattle.picture.specs.Escapes.{escaped}
use Rattle.picture.proofs.timeline_svg.escape.push_escaped.Goals as goal

-- at the end all characters of the text were put behind
pub returns : goal.returns
returns c =
    let end = YieldsList-end (YieldsList-from_chars c.args.text.now c.utf8.text cc) c.loop-character.yielded _ c.loop-character.yielded_by _ _ c.in-None.is c.next.ensures.steps in
    c.loop-character.invariant ∙ ap (λ told. string_bytes c.args.out.now ++ escaped told) (sym (map-id c.loop-character.yielded) ∙ end.0)
