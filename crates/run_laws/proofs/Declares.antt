-- The variables of a run as it begins are those of the declares.
use Rattle.std.proofs.Common.{◌≡◌, refl, sym, ap, ◌∙◌, subst, ℕ, suc, ◌≤◌, ◌==◌, Bool, true, false, List, [], ◌∷◌, ◌++◌, map, length, Option, Some, None, Ok, ℤ, pos, if◌then◌else◌, arith}
use Rattle.std.proofs.lemmas.List.{length-map}
use Rattle.std.proofs.lemmas.Bool.{ltb-false}
use Rattle.ws_base.specs.declared.refusal.RefusalKind.TheVariants as kinds
use Rattle.ws_base.specs.Outcomes.{Staged, ◌>>=◌}
use Rattle.ws_space.specs.declared.shape.Dim.{Dim}
use Rattle.ws_space.specs.declared.shape.Shape.{Shape}
use Rattle.ws_space.specs.declared.state.VarState.TheVariants as state
use Rattle.ws_space.specs.declared.state.Var.{Var}
use Rattle.ws_space.specs.Shapes.{dims, shape_of, declared_dim}
use Rattle.ws_space.specs.Replace.{zeros}
use Rattle.ws_tree.specs.declared.expr.Expr.{Expr}
use Rattle.ws_tree.specs.declared.stmt.Bound.{Bound}
use Rattle.ws_tree.specs.declared.stmt.Bound.TheVariants as bound
use Rattle.ws_tree.specs.declared.stmt.Decl.{Decl}
use Rattle.ws_types.specs.declared.constant.Constant as types
use Rattle.ws_types.specs.Constants.{constancy, constant_faults}
use Rattle.ws_sema.specs.Declarations.{is_large, bound_faults, bounds_faults, shape_faults, decl_faults, decls_faults, with_constant, constants_after}
use Rattle.array_meaning.specs.declared.world.Constant.{Constant}
use Rattle.array_meaning.specs.Forall.{scalar}
use Rattle.array_meaning.specs.Program as source
use Rattle.array_meaning.specs.Program.{constants_alone, staged_or, declaring, declared}
use Rattle.hlfir_ops.specs.declared.kinds.Elem.{Elem}
use Rattle.hlfir_ops.specs.RulesValues.{elem_of, rank_of}
use Rattle.hlfir_meaning.specs.Meaning.{is_truth, first_state}
use Rattle.lower_values.specs.declared.names.Variable.{Variable}
use Rattle.lower_assign.specs.Known.{elem, value_or_zero, bound_dim, declared_shape, variable_kind, kind_of, variable, declares_variable, if_variable, variable_decls, numbered}
use Rattle.kind_laws.proofs.ConstantsKnown.{value_after, new_name}
use Rattle.small_laws.proofs.NoFaults.{none_first, none_after, not_broken, left_false, impossible}
use Rattle.small_laws.proofs.Constancy.{Agree, IsComputed, computed, scalar_is, valued}
use Rattle.small_laws.proofs.Constants.{HasOnly, agree_after, only_after}
use Rattle.value_laws.specs.Variables.{Fits}
use Rattle.world_laws.specs.Worlds.{FitsDeclare, FitDeclares}
use Rattle.world_laws.proofs.Filling.{declared_fits}
use Rattle.run_laws.proofs.States.{shape_rank}
use Rattle.kind_laws.proofs.Extended.{Extends, constancy-extends}

-- ---- bounds

module _ (cs more : List types.Constant) (ks : List Constant) (agree : Agree cs ks) (extends : Extends cs more) where
  -- the value of a bound, and what is found for it where more constants are known
  bound_value : (line : ℕ) (e : Expr) → constant_faults line (constancy cs e) ≡ [] → scalar (constants_alone ks) e ≡ Ok (value_or_zero (constancy more e))
  bound_value line e f =
      let v = valued line (constancy cs e) (IsComputed ks e) f (computed cs ks agree e) in
      scalar_is ks e v.0 v.2 ∙ ap (λ c. let r : Staged ℤ = Ok (value_or_zero c) in r) (sym (constancy-extends cs more extends e v.0 v.1))

  one_dim : (line : ℕ) (b : Bound) → bound_faults cs line false b ≡ [] → source.bound_dim (constants_alone ks) b ≡ Ok (bound_dim more b)
  unfolding bound_faults
  one_dim line (bound.Upper u) f = ap (λ r. r >>= (λ z. let s : Staged Dim = Ok (declared_dim (pos 1) z) in s)) (bound_value line u (none_first _ _ f))
  one_dim line (bound.Both l u) f =
      let both = none_first _ _ f in
      ap (λ r. r >>= (λ y. scalar (constants_alone ks) u >>= (λ z. let s : Staged Dim = Ok (declared_dim y z) in s))) (bound_value line l (none_first _ _ both))
      ∙ ap (λ r. r >>= (λ z. let s : Staged Dim = Ok (declared_dim (value_or_zero (constancy more l)) z) in s)) (bound_value line u (none_after _ _ both))
  one_dim line bound.Deferred f = impossible line kinds.NotAllocatable f

  all_dims : (line : ℕ) (bs : List Bound) → bounds_faults cs line false bs ≡ [] → source.bound_dims (constants_alone ks) bs ≡ Ok (map (bound_dim more) bs)
  all_dims line [] f = refl
  all_dims line (b ∷ bs) f =
      ap (λ r. r >>= (λ d. source.bound_dims (constants_alone ks) bs >>= (λ ds. let s : Staged (List Dim) = Ok (d ∷ ds) in s))) (one_dim line b (none_first _ _ f))
      ∙ ap (λ r. r >>= (λ ds. let s : Staged (List Dim) = Ok (bound_dim more b ∷ ds) in s)) (all_dims line bs (none_after _ _ f))

-- ---- shapes

dims-shape_of : (ds : List Dim) → length ds ≤ 3 → dims (shape_of ds) ≡ ds
dims-shape_of [] h = refl
dims-shape_of (a ∷ []) h = refl
dims-shape_of (a ∷ b ∷ []) h = refl
dims-shape_of (a ∷ b ∷ c ∷ []) h = refl
dims-shape_of (a ∷ b ∷ c ∷ d ∷ ds) h = absurd (omega (arith, h))

module _ (cs : List types.Constant) (bs : List Bound) (narrow : length bs ≤ 3) where
  narrow_dims : length (map (bound_dim cs) bs) ≤ 3
  narrow_dims = subst (λ n. n ≤ 3) (sym (length-map bs (bound_dim cs))) narrow

  rank_is : (declared_shape cs bs).rank ≡ length bs
  rank_is = shape_rank (map (bound_dim cs) bs) narrow_dims ∙ length-map bs (bound_dim cs)

  dims_are : dims (declared_shape cs bs) ≡ map (bound_dim cs) bs
  dims_are = dims-shape_of (map (bound_dim cs) bs) narrow_dims

-- ---- one variable

-- as a declare begins it
abbrev pub beginning : Variable → Var
beginning v = record { name = v.name; truth = is_truth (elem_of v.declare.kind); state = first_state v.declare.kind }

abbrev pub beginnings : List Variable → List Var
beginnings [] = []
beginnings (v ∷ vs) = beginning v ∷ beginnings vs

truth_is : (allocatable truth : Bool) (shape : Shape) (bs : List Bound) → truth ≡ is_truth (elem_of (variable_kind allocatable (elem truth) shape bs))
truth_is true true shape bs = refl
truth_is true false shape bs = refl
truth_is false true shape [] = refl
truth_is false false shape [] = refl
truth_is false true shape (b ∷ bs) = refl
truth_is false false shape (b ∷ bs) = refl

module _ (cs more : List types.Constant) (ks : List Constant) (agree : Agree cs ks) (extends : Extends cs more) (line : ℕ) (truth : Bool) where
  state_is : (allocatable : Bool) (bs : List Bound) → length bs ≤ 3 → bounds_faults cs line allocatable bs ≡ [] →
      (if allocatable then state.Unallocated (length bs) else zeros (source.declared_dims ks bs)) ≡ first_state (variable_kind allocatable (elem truth) (declared_shape more bs) bs)
  state_is true bs narrow f = ap state.Unallocated (sym (rank_is more bs narrow))
  state_is false [] narrow f = refl
  state_is false (b ∷ bs) narrow f = ap (λ r. zeros (staged_or [] r)) (all_dims cs more ks agree extends line (b ∷ bs) f) ∙ ap zeros (sym (dims_are more (b ∷ bs) narrow))

narrow_kind : (cs : List types.Constant) (e : Elem) (allocatable : Bool) (bs : List Bound) → length bs ≤ 3 → rank_of (variable_kind allocatable e (declared_shape cs bs) bs) ≤ 3
narrow_kind cs e true bs narrow = subst (λ n. n ≤ 3) (sym (rank_is cs bs narrow)) narrow
narrow_kind cs e false [] narrow = omega arith
narrow_kind cs e false (b ∷ bs) narrow = subst (λ n. n ≤ 3) (sym (rank_is cs (b ∷ bs) narrow)) narrow

first_fits : (cs : List types.Constant) (e : Elem) (allocatable : Bool) (bs : List Bound) → length bs ≤ 3 → Fits (variable_kind allocatable e (declared_shape cs bs) bs) (first_state (variable_kind allocatable e (declared_shape cs bs) bs))
first_fits cs e true bs narrow = tt
first_fits cs e false [] narrow = tt
first_fits cs e false (b ∷ bs) narrow =
    let shape = declared_shape cs (b ∷ bs) in
    let rank = rank_is cs (b ∷ bs) narrow in
    let many : length (dims shape) ≡ shape.rank = ap length (dims_are cs (b ∷ bs) narrow) ∙ (length-map (b ∷ bs) (bound_dim cs) ∙ sym rank) in
    let some : (shape.rank == 0) ≡ false = grind (arith, rank) in
    declared_fits e shape (dims shape) _ many some (subst (λ n. n ≤ 3) (sym rank) narrow)

-- ---- all variables

-- these declares, numbered from n on, begin these variables
pub record Begin (n : ℕ) (ds : List Variable) (vars : List Var) : Type 0 where
  pub same : vars ≡ beginnings ds
  pub fit : FitDeclares n ds vars

begins : (n : ℕ) (d : Variable) (ds : List Variable) (v : Var) (vars : List Var) → d.declare.value.number ≡ n → v ≡ beginning d → FitsDeclare d (beginning d) → Begin (suc n) ds vars → Begin n (d ∷ ds) (v ∷ vars)
begins n d ds v vars number is fits rest = record {
  same = ap (λ x. x ∷ vars) is ∙ ap (λ l. beginning d ∷ l) rest.same;
  fit = (number, subst (FitsDeclare d) (sym is) fits, rest.fit);
}

narrow_shape : (cs : List types.Constant) (d : Decl) → shape_faults cs d ≡ [] → length d.shape ≤ 3
unfolding shape_faults
narrow_shape cs d f = ltb-false 3 (length d.shape) (left_false _ _ (not_broken (is_large cs d.shape) _ _ (none_after _ _ f)))

module _ (before : List Decl) (cs more : List types.Constant) (ks : List Constant) (d : Decl) (ds : List Decl) (agree : Agree cs ks) (extends : Extends cs more) (f : decl_faults before cs d ≡ []) where
  narrow : length d.shape ≤ 3
  narrow = narrow_shape cs d (none_after _ _ f)

  fits_here : (n : ℕ) → FitsDeclare (variable n more d) (beginning (variable n more d))
  fits_here n = record { name = refl; truth = refl; narrow = narrow_kind more (elem d.truth) d.allocatable d.shape narrow; state = first_fits more (elem d.truth) d.allocatable d.shape narrow }

  same_here : (n : ℕ) → (let v : Var = record { name = d.name; truth = d.truth; state = source.first_state ks d } in v) ≡ beginning (variable n more d)
  same_here n =
      ap (λ b. let v : Var = record { name = d.name; truth = b; state = source.first_state ks d } in v) (truth_is d.allocatable d.truth (declared_shape more d.shape) d.shape)
      ∙ ap (λ s. let v : Var = record { name = d.name; truth = is_truth (elem_of (kind_of more d)); state = s } in v) (state_is cs more ks agree extends d.line d.truth d.allocatable d.shape narrow (none_after _ _ (none_first _ _ f)))

  begin_at : (n : ℕ) (o : Option Expr) → ((m : ℕ) → Begin m (numbered m more (variable_decls ds)) (declared (declaring o ks d).0 ds).1) →
      Begin n (numbered n more (if_variable (declares_variable o) d ++ variable_decls ds)) ((declaring o ks d).1 ++ (declared (declaring o ks d).0 ds).1)
  begin_at n None rest = begins n (variable n more d) _ _ _ refl (same_here n) (fits_here n) (rest (suc n))
  begin_at n (Some e) rest = rest n

pub begin : (before : List Decl) (cs more : List types.Constant) (ks : List Constant) (n : ℕ) (ds : List Decl) → Agree cs ks → HasOnly before ks → Extends (constants_after cs ds) more → decls_faults before cs ds ≡ [] →
    Begin n (numbered n more (variable_decls ds)) (declared ks ds).1
begin before cs more ks n [] agree only extends f = record { same = refl; fit = tt }
begin before cs more ks n (d ∷ ds) agree only extends f =
    let here = none_first _ _ f in
    let new = new_name before d (none_first _ _ (none_first _ _ (none_first _ _ here))) in
    begin_at before cs more ks d ds agree (λ x z is. extends x z (value_after cs (d ∷ ds) x z is)) here n d.constant
    (λ m. begin (before ++ d ∷ []) (with_constant cs d) more (declaring d.constant ks d).0 m ds (agree_after before cs ks d agree only new) (only_after before ks d only) extends (none_after _ _ f))
