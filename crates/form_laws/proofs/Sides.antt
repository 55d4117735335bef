-- Expressions as they stand in statements, and left sides.
use Rattle.std.proofs.Common.{◌≡◌, refl, ap, ℕ, Bool, true, false, List, [], Option, Some, None, pos, arith}
use Rattle.ws_base.specs.declared.name.Name.{Name}
use Rattle.ws_tree.specs.declared.expr.Expr.{Expr}
use Rattle.ws_tree.specs.declared.expr.Expr.TheVariants.{TooDeep, Named, Part'}
use Rattle.ws_tree.specs.Grammatical.{IsSide, IsDesignator, IsOptional}
use Rattle.ws_types.specs.declared.types.Row.{Row}
use Rattle.ws_types.specs.Expressions.{faults}
use Rattle.ws_types.specs.Lists.{given_faults}
use Rattle.ws_sema.proofs.NoFaults.{none_first, none_after}
use Rattle.hlfir_ops.specs.declared.kinds.Elem.TheVariants.{I32}
use Rattle.hlfir_ops.specs.RulesValues.{Value, kind_of}
use Rattle.lower_values.specs.declared.operand.Operand.{Operand}
use Rattle.lower_values.specs.Scopes.{Scope}
use Rattle.lower_values.specs.Lowerings.{done}
use Rattle.lower_values.specs.Operations.{constant}
use Rattle.lower_values.specs.References.{nothing, variable_of, or_nothing, declare_of, boxed}
use Rattle.lower_values.specs.Values.{value}
use Rattle.lower_values.specs.Lists.{stride}
use Rattle.lower_assign.specs.Statements.{whole_left, left_of, left}
use Rattle.form_laws.proofs.Passing.{AreFit, fit-none}
use Rattle.kind_laws.proofs.Sides.{sides_are_expressions}
use Rattle.kind_laws.proofs.TypesTold.{no_wide}
use Rattle.form_laws.proofs.References.{boxed-boxed, constant-good, variable-found}
use Rattle.form_laws.proofs.Lowered as lowered
use Rattle.form_laws.proofs.Values.{value-good, subs-leave}
use Rattle.form_laws.proofs.Stages.{Stage}
use Rattle.form_laws.proofs.Regions.{Walks, walks-done, walks-scoped}

module _ (vs : List Value) where
  module _ (t : List Row) (s : Scope) (h : Stage vs t s) (inside : Bool) (line : ℕ) where
    pub walks-side : (e : Expr) → IsSide e → faults t inside line e ≡ [] → Walks vs s (value e)
    walks-side e g f = record { fits = λ n held. (value-good vs t s h inside line e n (sides_are_expressions t inside line e g f) f held).fit }

    pub walks-one : Walks vs s (constant I32 (pos 1))
    walks-one = record { fits = λ n held. (constant-good vs I32 (pos 1) refl s n).fit }

    pub walks-stride : (e : Option Expr) → IsOptional e → given_faults t inside line e ≡ [] → Walks vs s (stride e)
    walks-stride None g f = walks-one
    walks-stride (Some e) g f = walks-side e g (none_first _ _ f)

    -- ---- left sides

    no_box : (n : ℕ) → AreFit vs false (boxed nothing s n).ops
    unfolding boxed done
    no_box n = fit-none vs false

    whole_by : (by_box : Bool) (o : Option Operand) (x : Name) → variable_of s.names.variables x ≡ o → Walks vs s (whole_left by_box (or_nothing o))
    whole_by false o x is = walks-done vs s (or_nothing o)
    whole_by true None x is = record { fits = λ n held. no_box n }
    whole_by true (Some d) x is = record { fits = λ n held. (boxed-boxed vs d s n (ap kind_of (variable-found vs s h.scope x d is)) held).fit }

    pub walks-left_of : (by_box : Bool) (e : Expr) → IsDesignator e → faults t inside line e ≡ [] → Walks vs s (left_of by_box e)
    walks-left_of by_box (Named x) g f = walks-scoped vs s (λ c. whole_left by_box (declare_of c.names x)) (whole_by by_box (variable_of s.names.variables x) x refl)
    walks-left_of by_box (Part' x _ subs) g f = record {
      fits = λ n held. (lowered.part-lowered vs t s h inside line x subs n g.1 (none_first _ _ (none_first _ _ f)) (none_after _ _ f)
          (λ r k at reference many under. subs-leave vs t s h inside line r at reference subs 1 k (omega arith) (omega (arith, many)) g.2 (none_after _ _ (none_first _ _ f)) under) held).fit;
    }
    walks-left_of by_box TooDeep g f = no_wide line f
    walks-left_of by_box _ g f = absurd g

    pub walks-left : (e : Expr) → IsDesignator e → faults t inside line e ≡ [] → Walks vs s (left e)
    unfolding left
    walks-left e g f = walks-scoped vs s (λ c. left_of c.masked e) (walks-left_of s.masked e g f)
