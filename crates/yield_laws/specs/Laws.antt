-- What the regions of each lowered op yield, the sides of assignments, and the places and uses of declares.
use Rattle.hlfir_ops.specs.declared.op.Op.{out-Op}
use Rattle.hlfir_ops.specs.Rules.{yields_of, sides_of, realloc_of, declares_fit}
use Rattle.lower_constructs.specs.Sites.{EveryOpPasses}

-- A region that yields holds value ops, and ends with a yield of its form.
abbrev pub YieldsAreOfTheirForms : Type 0
YieldsAreOfTheirForms = EveryOpPasses (λ f p op. yields_of f.values (out-Op op).what (out-Op op).regions)

-- The right side of an assignment is a scalar or has the left side's rank, and has its type.
abbrev pub SidesAgree : Type 0
SidesAgree = EveryOpPasses (λ f p op. sides_of f.values (out-Op op).what (out-Op op).regions)

-- An assignment has `realloc` exactly where its left side is an allocatable's declare, outside where and forall.
abbrev pub ReallocsAreOfWholes : Type 0
ReallocsAreOfWholes = EveryOpPasses (λ f p op. realloc_of p.around.masked f.values (out-Op op).what (out-Op op).regions)

-- Declares stand first, with different names, and what an allocatable holds is reached by its box.
abbrev pub DeclaresFit : Type 0
DeclaresFit = EveryOpPasses (λ f p op. declares_fit p.around.own f.values p.before op)
