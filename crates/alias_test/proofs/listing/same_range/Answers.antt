use Rattle.std.proofs.Common.{sym, ap, of_z, ◌∙◌, w32, arith, rules}
use Rattle.alias_test.proofs.Numbers.{bits-int_eq, same_from_bits}
use Rattle.alias_test.proofs.Ranges.{ranges_of_other_counts, empty_ranges, ranges_of_one, ranges_of_other_first, ranges_of_one_first}
use Rattle.alias_test.proofs.listing.same_range.Goals as goal

pub returns-then-count-count_of : goal.returns-then-count-count_of
returns-then-count-count_of c = ranges_of_other_counts _ _ c.requires.t_stride c.requires.u_stride (λ e. c.if-count-count_of.true (c.count_of-count.ensures ∙ (e ∙ sym c.count_of.ensures)))

pub returns-in-0 : goal.returns-in-0
returns-in-0 c = empty_ranges _ _ c.requires.t_stride c.requires.u_stride (omega arith) (omega arith)

pub returns-in-1 : goal.returns-in-1
returns-in-1 c = ranges_of_one _ _ _ c.requires.t_stride c.requires.u_stride (omega arith) (omega arith) (bits-int_eq c.args.t.now.l c.args.u.now.l (search rules) (search rules))

pub returns-then-t-u : goal.returns-then-t-u
returns-then-t-u c = ranges_of_one_first _ _ _ c.requires.t_stride c.requires.u_stride (omega arith) (omega arith) (same_from_bits c.args.t.now.l c.args.u.now.l (search rules) (search rules) c.if-t-u.true) (bits-int_eq c.args.t.now.s c.args.u.now.s (search rules) (search rules))

pub returns-else-t-u : goal.returns-else-t-u
returns-else-t-u c = ranges_of_other_first _ _ _ c.requires.t_stride c.requires.u_stride (omega arith) (omega arith) (λ e. c.if-t-u.false (ap (of_z w32) e)) (bits-int_eq c.args.t.now.l c.args.u.now.l (search rules) (search rules))
