-- Each op of a lowered source keeps the limits.
use Rattle.hlfir_ops.specs.Rules.{limits_fit}
use Rattle.lower_constructs.specs.Sites.{Test, EveryOpPasses}

abbrev pub limits_test : Test
limits_test f p op = limits_fit p.around f.values p.before op

abbrev pub EveryOpKeepsTheLimits : Type 0
EveryOpKeepsTheLimits = EveryOpPasses limits_test
