-- Inquiries over combinations.
use Rattle.std.proofs.Common.{◌≡◌, refl, sym, ap, ◌∙◌, subst, ℕ, ◌<◌, Bool, true, false, List, [], map, Option, Some, Ok, ℤ, true≢false, if◌then◌else◌, arith, inl, inr}
use Rattle.std.specs.Prelude.{⊤}
use mathlib.Core.Former.{Count}
use Rattle.ws_base.specs.declared.name.Name.{Name}
use Rattle.ws_base.specs.declared.op.CallWord.{CallWord}
use Rattle.ws_base.specs.declared.op.CallWord.TheVariants as words
use Rattle.ws_base.specs.declared.refusal.Refusal.{Refusal}
use Rattle.ws_base.specs.declared.refusal.RefusalKind.TheVariants as kind
use Rattle.ws_base.specs.Outcomes.{Staged, each}
use Rattle.ws_space.specs.declared.state.VarState.{VarState}
use Rattle.ws_space.specs.Values.{state_of}
use Rattle.ws_tree.specs.declared.expr.Expr.{Expr}
use Rattle.ws_tree.specs.declared.expr.Expr.TheVariants.{Number, Named}
use Rattle.ws_tree.specs.Trees.{Exprs, end_exprs, more_exprs}
use Rattle.ws_tree.specs.Grammatical.{IsName, IsOneName, HasDimension, Takes}
use Rattle.ws_types.specs.declared.types.Row.{Row}
use Rattle.ws_types.specs.Kinds.{when}
use Rattle.ws_types.specs.Names.{standing_of}
use Rattle.ws_types.specs.Operations.{is_inquiry, is_allocated_word, inquiry_faults}
use Rattle.ws_types.specs.Expressions.{listed, first_standing}
use Rattle.ws_sema.proofs.NoFaults.{impossible}
use Rattle.array_meaning.specs.declared.world.World.{World}
use Rattle.array_meaning.specs.Forall as source
use Rattle.array_meaning.specs.Forall.{Combination}
use Rattle.array_meaning.specs.Stage1 as once
use Rattle.hlfir_meaning.specs.Environments.{variable, Environment}
use Rattle.hlfir_meaning.specs.Places.{over_ops}
use Rattle.lower_values.specs.declared.operand.Operand.{Operand}
use Rattle.lower_values.specs.Scopes.{Scope}
use Rattle.lower_values.specs.Lowerings.{scoped, ◌>>=◌ as ◌then◌}
use Rattle.lower_values.specs.References.{variable_of, or_nothing, declare_of, boxed, reference, first_name, dimension_in, bound_word, bound_or_size, is_allocated, inquiry_of, inquiry_or_nothing, inquiry}
use Rattle.kind_laws.specs.Standing.{Knows}
use Rattle.value_laws.proofs.Walking.{does-then, does-scoped}
use Rattle.world_laws.proofs.Fitting.{DeclaredAt, state_fits, is_below, refers}
use Rattle.forall_laws.specs.Walks.{DoesOver, IsColumn, IsReference}
use Rattle.forall_laws.specs.Combined.{StandsOver}
use Rattle.forall_laws.proofs.Columns.{each-over}
use Rattle.forall_laws.proofs.References.{over-bound_or_size, over-is_allocated, over-boxed}
use Rattle.forall_laws.proofs.Ranks.{inquiry_variable}

-- ---- what is asked about

pub record Asks {m : Count} (t : List Row) (es : Exprs m) : Type 0 where
  pub name : Name
  pub first : first_name (listed es) ≡ Some name
  pub standing : first_standing t (listed es) ≡ standing_of t name
  pub same : once.name_in es ≡ name

first_named : {m : Count} (t : List Row) (e : Expr) (es : Exprs m) → IsName e → Asks t (more_exprs e es)
first_named t (Named x) es h = record { name = x; first = refl; standing = refl; same = refl }
first_named t _ es h = absurd h

one_named : {m : Count} (t : List Row) (es : Exprs m) → IsOneName es → Asks t es
one_named t end_exprs h = absurd h
one_named t (more_exprs e end_exprs) h = first_named t e end_exprs h
one_named t (more_exprs e (more_exprs f es)) h = absurd h

two_named : {m : Count} (t : List Row) (es : Exprs m) → HasDimension es → Asks t es
two_named t end_exprs h = absurd h
two_named t (more_exprs e end_exprs) h = absurd h
two_named t (more_exprs e (more_exprs f end_exprs)) h = first_named t e (more_exprs f end_exprs) h.0
two_named t (more_exprs e (more_exprs f (more_exprs g es))) h = absurd h

pub asks_name : {m : Count} (t : List Row) (w : CallWord) (es : Exprs m) → is_inquiry w ≡ true → Takes w es → Asks t es
asks_name t words.Size es i (inl h) = one_named t es h
asks_name t words.Size es i (inr h) = two_named t es h
asks_name t words.Lbound es i h = two_named t es h
asks_name t words.Ubound es i h = two_named t es h
asks_name t words.Allocated es i h = one_named t es h
asks_name t _ es i h = absurd (true≢false (sym i))

pub dimension-same : {m : Count} (es : Exprs m) → dimension_in (listed es) ≡ once.dimension_in es
dimension-same end_exprs = refl
dimension-same (more_exprs e end_exprs) = refl
dimension-same (more_exprs e (more_exprs (Number k) es)) = refl
dimension-same (more_exprs e (more_exprs f es)) = refl

pub asked_faults : (right b : Bool) (line : ℕ) (asked parts : List Refusal) → (if right then (if b then asked else parts) else when true line kind.Unsupported) ≡ [] → b ≡ true → asked ≡ []
asked_faults false b line asked parts f h = impossible line kind.Unsupported f
asked_faults true true line asked parts f h = f
asked_faults true false line asked parts f h = absurd (true≢false (sym h))

-- ---- the answers

declare_is : (s : Scope) (x : Name) (d : Operand) → variable_of s.names.variables x ≡ Some d → declare_of s.names x ≡ d
declare_is s x d h = ap or_nothing h

module _ (at : List ℕ) (of : ℕ → Combination) (s : Scope) (w : World) (n : ℕ) (env : Environment) (stands : StandsOver at of s w n env) where
  module _ (x : Name) (d : Operand) (is : variable_of s.names.variables x ≡ Some d) where
    abbrev declared : DeclaredAt 0 w.vars x d
    declared = state_fits s.names w x d stands.world is

    low : d.value.number < n
    low = omega (arith, is_below w.vars x d declared, stands.declared)

    found : env d.value.number ≡ variable declared.var
    found = refers w.vars x d declared env stands.variables

    -- the variable of this name
    pub over-reference : (none : ⊤) → DoesOver at s n env (reference x) (Ok none) (IsReference declared.var)
    unfolding reference
    over-reference none = does-scoped (over_ops at) s n env (λ q. boxed (declare_of q.names x)) (Ok none) (IsReference declared.var)
        (subst (λ y. DoesOver at s n env (boxed y) (Ok none) (IsReference declared.var)) (sym (declare_is s x d is)) (over-boxed at s n env d declared.var none found low))

    abbrev answers : CallWord → Option ℕ → VarState → Staged (List ℤ)
    answers word dim q = each (λ _. source.without_element (once.inquired word q dim)) at

    allocated_word : (word : CallWord) → is_allocated_word word ≡ true → word ≡ words.Allocated
    allocated_word words.Allocated h = refl
    allocated_word _ h = absurd (true≢false (sym h))

    asked_by : (word : CallWord) (dim : Option ℕ) (b : Bool) (none : ⊤) → is_inquiry word ≡ true → is_allocated_word word ≡ b →
        DoesOver at s n env (if b then scoped (λ q. is_allocated (declare_of q.names x)) else (reference x then bound_or_size (bound_word word) dim)) (answers word dim declared.var.state) IsColumn
    asked_by word dim true none i a =
        subst (λ v. DoesOver at s n env (scoped (λ q. is_allocated (declare_of q.names x))) (answers v dim declared.var.state) IsColumn) (sym (allocated_word word a))
        (does-scoped (over_ops at) s n env (λ q. is_allocated (declare_of q.names x)) (answers words.Allocated dim declared.var.state) IsColumn
        (subst (λ y. DoesOver at s n env (is_allocated y) (answers words.Allocated dim declared.var.state) IsColumn) (sym (declare_is s x d is)) (over-is_allocated at s n env d declared.var found dim)))
    asked_by word dim false none i a =
        does-then (over_ops at) s n env (reference x) (bound_or_size (bound_word word) dim) (Ok none) (λ (u : ⊤). answers word dim declared.var.state) (IsReference declared.var) IsColumn (over-reference none)
        (λ u m middle at_m kept r. over-bound_or_size at s m middle (reference x s n).made declared.var r.found word i a dim)

    pub over-asked : (word : CallWord) (dim : Option ℕ) → is_inquiry word ≡ true → DoesOver at s n env (inquiry_of word x dim) (answers word dim (state_of w.vars x)) IsColumn
    over-asked word dim i = subst (λ q. DoesOver at s n env (inquiry_of word x dim) (answers word dim q) IsColumn) declared.state (asked_by word dim (is_allocated_word word) (let u : ⊤ = tt in u) i refl)

  -- an inquiry of a source
  pub over-inquiry : {m : Count} (t : List Row) (line : ℕ) (word : CallWord) (es : Exprs m) → Knows t s → is_inquiry word ≡ true → Takes word es → inquiry_faults line word (first_standing t (listed es)) (listed es) ≡ [] →
      DoesOver at s n env (inquiry word (listed es)) (source.inquiries w (source.without_element (once.inquired word (state_of w.vars (once.name_in es)) (once.dimension_in es))) (map of at)) IsColumn
  unfolding inquiry
  over-inquiry t line word es k i g f =
      let asks = asks_name t word es i g in
      let x = asks.name in
      let var = inquiry_variable t line s word x (listed es) k (ap (λ st. inquiry_faults line word st (listed es)) (sym asks.standing) ∙ f) in
      subst (λ r. DoesOver at s n env (inquiry_or_nothing (first_name (listed es)) word (dimension_in (listed es))) r IsColumn)
      (sym (each-over of (source.without_element (once.inquired word (state_of w.vars (once.name_in es)) (once.dimension_in es))) at))
      (subst (λ o. DoesOver at s n env (inquiry_or_nothing o word (dimension_in (listed es))) (answers x var.0 var.1 word (once.dimension_in es) (state_of w.vars (once.name_in es))) IsColumn) (sym asks.first)
      (subst (λ y. DoesOver at s n env (inquiry_of word x (dimension_in (listed es))) (answers x var.0 var.1 word (once.dimension_in es) (state_of w.vars y)) IsColumn) (sym asks.same)
      (subst (λ dim. DoesOver at s n env (inquiry_of word x (dimension_in (listed es))) (answers x var.0 var.1 word dim (state_of w.vars x)) IsColumn) (dimension-same es)
      (over-asked x var.0 var.1 word (dimension_in (listed es)) i))))
