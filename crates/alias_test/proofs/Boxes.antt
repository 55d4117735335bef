-- The variable under boxes.
use Rattle.std.proofs.Common.{◌≡◌, refl, ap, sym, ◌∙◌, ℕ, ◌<◌, Bool, true, false, List, [], ◌∷◌, Option, Some, None, if◌then◌else◌}
use Rattle.std.specs.Prelude.{nat_lt, slice_get}
use Rattle.std.proofs.lemmas.Bool.{ltb-true}
use Rattle.hlfir_ops.specs.declared.what.What.{What}
use Rattle.hlfir_ops.specs.declared.what.What.TheVariants as what
use Rattle.hlfir_ops.specs.declared.op.ValueId.{ValueId}
use Rattle.hlfir_ops.specs.declared.op.Op.{Op, out-Op}
use Rattle.alias_test.specs.Tables.{entries_before}
use Rattle.alias_test.specs.Givers.{held_by, held_given, held_at, variable_under, variable_after, variable_of}
use Rattle.alias_test.proofs.Tabled.{get_or-entries_before}

-- the one choice of two that is something
chosen : (b : Bool) (p v : ValueId) → (if b then Some p else None) ≡ Some v → (b ≡ true) × (p ≡ v)
chosen true p v e = (refl, cc)
chosen false p v e = cc

pub held_first : (n : ℕ) (p : ValueId) (more : List ValueId) (v : ValueId) → held_by what.Boxed (p ∷ more) n ≡ Some v → (nat_lt p.number n ≡ true) × (p ≡ v)
held_first n p more v e = chosen (nat_lt p.number n) p v e

held_by-earlier : (w : What) (os : List ValueId) (n : ℕ) (v : ValueId) → held_by w os n ≡ Some v → v.number < n
held_by-earlier what.Boxed (p ∷ more) n v e = let both = held_first n p more v e in ltb-true v.number n (ap (λ (q : ValueId). nat_lt q.number n) (sym both.1) ∙ both.0)
held_by-earlier what.Boxed [] n v e = cc
held_by-earlier w os n v e = cc

held_given-earlier : (o : Option Op) (n : ℕ) (v : ValueId) → held_given o n ≡ Some v → v.number < n
held_given-earlier (Some op) n v e = held_by-earlier (out-Op op).what (out-Op op).operands n v e
held_given-earlier None n v e = cc

pub held_at-earlier : (gs : List Op) (n : ℕ) (v : ValueId) → held_at gs n ≡ Some v → v.number < n
held_at-earlier gs n v e = held_given-earlier (slice_get gs n) n v e

pub variable_of-box : (gs : List Op) (n : ℕ) (v : ValueId) → held_at gs n ≡ Some v → variable_of gs n ≡ variable_of gs v.number
unfolding variable_of
variable_of-box gs n v e = ap (λ o. variable_under o n (entries_before (variable_after gs) n)) e ∙ get_or-entries_before (variable_after gs) n v.number n (held_at-earlier gs n v e)

pub variable_of-itself : (gs : List Op) (n : ℕ) → held_at gs n ≡ None → variable_of gs n ≡ n
unfolding variable_of
variable_of-itself gs n e = ap (λ o. variable_under o n (entries_before (variable_after gs) n)) e
