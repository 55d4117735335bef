-- The declares of a source have their forms.
use Rattle.std.proofs.Common.{◌≡◌, refl, ℕ, suc, Bool, true, false, nat_lt, List, [], ◌∷◌, ◌++◌, map, Some}
use Rattle.std.proofs.lemmas.Bool.{true≢false, false≢true}
use Rattle.std.specs.List.{AllByRecursion}
use Rattle.ws_space.specs.declared.shape.Dim.{Dim}
use Rattle.ws_space.specs.Shapes.{shape_of}
use Rattle.ws_tree.specs.declared.stmt.Bound.{Bound}
use Rattle.ws_tree.specs.declared.stmt.Decl.{Decl}
use Rattle.ws_types.specs.declared.constant.Constant.{Constant}
use Rattle.ws_sema.specs.Declarations.{is_some, is_empty, is_left_out, shape_faults, decls_faults, with_constant}
use Rattle.ws_sema.proofs.NoFaults.{none_first, none_after, not_broken}
use Rattle.hlfir_ops.specs.declared.kinds.Elem.{Elem}
use Rattle.hlfir_ops.specs.declared.what.What.TheVariants as what
use Rattle.hlfir_ops.specs.RulesValues.{Value}
use Rattle.hlfir_ops.specs.RulesForms.{is_variable}
use Rattle.lower_values.specs.declared.names.Variable.{Variable}
use Rattle.lower_values.specs.Scopes.{Scope}
use Rattle.lower_values.specs.Lowerings.{done, in_turn, giving}
use Rattle.lower_assign.specs.Known.{elem, bound_dim, declared_shape, variable_kind, declares_variable, if_variable, variable_decls, numbered}
use Rattle.lower_constructs.specs.Modules.{declaration}
use Rattle.form_laws.proofs.Passing.{fit-op}
use Rattle.form_laws.proofs.Regions.{Walks, walks-then, walks-done, walks-in_turn}

-- ---- kinds of variables

-- only an array is allocatable
abbrev IsShaped : Decl → Type 0
IsShaped d = d.allocatable ≡ true → is_empty d.shape ≡ false

has_shape : (allocatable constant scalar : Bool) → is_left_out allocatable constant scalar ≡ false → allocatable ≡ true → scalar ≡ false
has_shape true constant true h is = absurd (true≢false h)
has_shape true constant false h is = refl
has_shape false constant scalar h is = absurd (false≢true is)

shaped-one : (cs : List Constant) (d : Decl) → shape_faults cs d ≡ [] → IsShaped d
unfolding shape_faults
shaped-one cs d f = has_shape d.allocatable (is_some d.constant) (is_empty d.shape) (not_broken _ _ _ (none_first _ _ f))

shaped : (before : List Decl) (cs : List Constant) (ds : List Decl) → decls_faults before cs ds ≡ [] → AllByRecursion IsShaped ds
shaped before cs [] f = tt
shaped before cs (d ∷ ds) f = (shaped-one cs d (none_after _ _ (none_first _ _ f)), shaped (before ++ d ∷ []) (with_constant cs d) ds (none_after _ _ f))

one_variable : (b : Bool) (d : Decl) (ds : List Decl) → IsShaped d → AllByRecursion IsShaped ds → AllByRecursion IsShaped (if_variable b d ++ ds)
one_variable true d ds h g = (h, g)
one_variable false d ds h g = g

variables_shaped : (ds : List Decl) → AllByRecursion IsShaped ds → AllByRecursion IsShaped (variable_decls ds)
variables_shaped [] h = tt
variables_shaped (d ∷ ds) h = one_variable (declares_variable d.constant) d (variable_decls ds) h.0 (variables_shaped ds h.1)

some_rank : (d : Dim) (ds : List Dim) → nat_lt 0 (shape_of (d ∷ ds)).rank ≡ true
some_rank a [] = refl
some_rank a (b ∷ []) = refl
some_rank a (b ∷ c ∷ ds) = refl

variable_is : (allocatable : Bool) (e : Elem) (cs : List Constant) (bs : List Bound) → (allocatable ≡ true → is_empty bs ≡ false) → is_variable (Some (variable_kind allocatable e (declared_shape cs bs) bs)) ≡ true
variable_is true e cs [] h = absurd (true≢false (h refl))
variable_is true e cs (b ∷ bs) h = some_rank (bound_dim cs b) (map (bound_dim cs) bs)
variable_is false e cs [] h = refl
variable_is false e cs (b ∷ bs) h = some_rank (bound_dim cs b) (map (bound_dim cs) bs)

abbrev pub IsVariable : Variable → Type 0
IsVariable v = is_variable (Some v.declare.kind) ≡ true

numbered_are : (n : ℕ) (cs : List Constant) (ds : List Decl) → AllByRecursion IsShaped ds → AllByRecursion IsVariable (numbered n cs ds)
numbered_are n cs [] h = tt
numbered_are n cs (d ∷ ds) h = (variable_is d.allocatable (elem d.truth) cs d.shape h.0, numbered_are (suc n) cs ds h.1)

pub variables-are : (cs : List Constant) (ds : List Decl) → decls_faults [] [] ds ≡ [] → AllByRecursion IsVariable (numbered 0 cs (variable_decls ds))
variables-are cs ds f = numbered_are 0 cs (variable_decls ds) (variables_shaped ds (shaped [] [] ds f))

module _ (vs : List Value) where
  walks-declaration : (s : Scope) (k : ℕ) (v : Variable) → IsVariable v → Walks vs s (declaration k v)
  unfolding declaration giving
  walks-declaration s k v h = walks-then vs s (giving (what.Declare v.name) [] v.declare.kind) (λ _. done tt)
      (record { fits = λ n held. fit-op vs false (what.Declare v.name) s.line [] (Some v.declare.kind) [] h tt }) (λ _. walks-done vs s tt)

  pub walks-declarations : (s : Scope) (k : ℕ) (variables : List Variable) → AllByRecursion IsVariable variables → Walks vs s (in_turn declaration k variables)
  walks-declarations s k variables h = walks-in_turn vs s IsVariable declaration k variables (λ j v is. walks-declaration s j v is) h
