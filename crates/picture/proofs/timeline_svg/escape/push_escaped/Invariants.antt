use Rattle.std.proofs.Common.{◌≡◌, ◌++◌}
use Rattle.std.specs.String.{string_bytes}
use Rattle.picture.specs.Escapes.{escaped}
use Rattle.picture.proofs.timeline_svg.escape.push_escaped.Given as goal

-- the characters so far stand behind what was there
abbrev pub invariant-loop-character : goal.invariant-loop-character
invariant-loop-character l = string_bytes l.out ≡ string_bytes l.initial.out ++ escaped l.yielded
