-- What is told of an index of a build: whether its keys are unique.
use Rattle.std.specs.Prelude.{Option, Some, None}
use Rattle.unique_verdict.specs.declared.verdict.Verdict.{Verdict}
use Rattle.unique_verdict.specs.declared.verdict.Verdict.TheVariants.{Unique}
use Rattle.catch_up.specs.Built.{BuiltValue, verdict_of}
use Rattle.building.specs.BuildingValue.{IndexValue}

-- whether the keys of an index of a build are unique, if it has to know that
abbrev pub built_verdict : Option BuiltValue → Verdict
built_verdict None = Unique
built_verdict (Some built) = verdict_of built

abbrev pub its_verdict : IndexValue → Verdict
its_verdict index = built_verdict index.built
