-- One assignment of a FORALL at the active combinations leaves the variables that its source leaves.
use Rattle.std.proofs.Common.{◌≡◌, refl, sym, ap, ◌∙◌, subst, ℕ, List, Option, Some, None, Result, Ok, Err, ℤ}
use Rattle.ws_base.specs.declared.fault.Fault.{Fault}
use Rattle.ws_base.specs.declared.name.Name.{Name}
use Rattle.ws_base.specs.Outcomes.{Staged, ◌>>=◌}
use Rattle.ws_space.specs.declared.state.ArrayValue.{ArrayValue}
use Rattle.ws_space.specs.declared.state.VarState.{VarState}
use Rattle.ws_space.specs.declared.state.VarState.TheVariants as state
use Rattle.ws_space.specs.declared.state.Var.{Var}
use Rattle.ws_space.specs.Faults.{at_places}
use Rattle.ws_space.specs.Values.{state_of, with_state, first_repeat, stored}
use Rattle.ws_space.specs.Replace.{filled, unless_repeated}
use Rattle.ws_tree.specs.declared.expr.Expr.{Expr}
use Rattle.array_meaning.specs.declared.world.World.{World}
use Rattle.array_meaning.specs.Forall as source
use Rattle.array_meaning.specs.Assign as assigned
use Rattle.array_meaning.specs.Assign.{target_name}
use Rattle.hlfir_ops.specs.declared.op.Region.{Region}
use Rattle.hlfir_ops.specs.RulesRegions.{ops_in}
use Rattle.hlfir_meaning.specs.Environments.{Value, placed, Yielded, result, state_in}
use Rattle.hlfir_meaning.specs.Places.{column_at}
use Rattle.hlfir_meaning.specs.Assign.{with_target}
use Rattle.hlfir_meaning.specs.Steps.{after_first, second_region}
use Rattle.hlfir_meaning.specs.Combinations.{Header, at_combinations, combined, places_in, replaced_over, forall_assign}
use Rattle.lower_values.specs.declared.names.Names.{Names}
use Rattle.value_laws.specs.Variables.{Fits}
use Rattle.world_laws.specs.Worlds.{FitsNames}
use Rattle.world_laws.specs.Meanings.{LeavesWorld}
use Rattle.world_laws.proofs.Fitting.{state_fits, takes_state, FitsWhereDeclared}
use Rattle.world_laws.proofs.Filling.{filled_fits}
use Rattle.forall_laws.proofs.Yields.{YieldsOver}

-- what is yielded has these values
abbrev pub IsValue : List ℕ → List ℤ → Yielded → Type 0
IsValue at xs y = column_at at (result y) ≡ xs

-- what is yielded is this variable's element at these places
abbrev pub IsTarget : Var → List ℕ → Yielded → Type 0
IsTarget v ps y = result y ≡ placed v ps

module _ (names : Names) (w : World) (fits : FitsNames names w) (left : Expr) (line : ℕ) (at : List ℕ) where
  abbrev x : Name
  x = target_name left

  -- the state that is put into the target's variable
  abbrev put : Result VarState Fault → Result (List Var) Fault
  put r = r >>= (λ s. let q : Result (List Var) Fault = Ok (with_state w.vars x s) in q)

  abbrev put_source : Result VarState Fault → Result World Fault
  put_source r = r >>= (λ s. let q : Result World Fault = Ok (assigned.with_target w left s) in q)

  new_state : (s : VarState) → FitsWhereDeclared names.variables x s → LeavesWorld names (put (Ok s)) (put_source (Ok s))
  new_state s h = (refl, takes_state names w x s fits h)

  array_state : (a : ArrayValue) (ts : List ℕ) (xs : List ℤ) (o : Option ℕ) → state_of w.vars x ≡ state.Array a → LeavesWorld names (put (unless_repeated line at o (filled a ts xs))) (put_source (unless_repeated line at o (filled a ts xs)))
  array_state a ts xs None is = new_state (filled a ts xs)
      (λ d known. let at_d = state_fits names w x d fits known in filled_fits d.kind (state.Array a) a (stored a.values ts xs) at_d.narrow (subst (Fits d.kind) is at_d.fits) refl)
  array_state a ts xs (Some k) is = refl

  same_state : (s : VarState) → state_of w.vars x ≡ s → LeavesWorld names (put (Ok s)) (put_source (Ok s))
  same_state s is = new_state s (λ d known. let at_d = state_fits names w x d fits known in subst (Fits d.kind) is at_d.fits)

  replaced_same : (s : VarState) (ts : List ℕ) (xs : List ℤ) → state_of w.vars x ≡ s → LeavesWorld names (put (replaced_over line at s ts xs)) (put_source (source.replaced_over line at s ts xs))
  replaced_same (state.Array a) ts xs is = array_state a ts xs (first_repeat ts) is
  replaced_same (state.Scalar z) ts xs is = same_state (state.Scalar z) is
  replaced_same (state.Unallocated r) ts xs is = same_state (state.Unallocated r) is

  module _ (v : Var) (name : v.name ≡ x) (held : v.state ≡ state_of w.vars x) where
    abbrev carried : Value → List ℤ → Result (List Var) Fault
    carried l xs = replaced_over line at (state_in l) (places_in l) xs >>= (λ s. Ok (with_target w.vars l s))

    carried_same : (l : Value) (ts : List ℕ) (xs ys : List ℤ) → l ≡ placed v ts → ys ≡ xs → LeavesWorld names (carried l ys) (put_source (source.replaced_over line at (state_of w.vars x) ts xs))
    carried_same l ts xs ys is same =
        subst (λ q. LeavesWorld names q (put_source (source.replaced_over line at (state_of w.vars x) ts xs)))
        (sym (ap (λ u. carried u ys) is ∙ (ap (carried (placed v ts)) same
        ∙ (ap (λ y. replaced_over line at v.state ts xs >>= (λ s. let q : Result (List Var) Fault = Ok (with_state w.vars y s) in q)) name ∙ ap (λ q. put (replaced_over line at q ts xs)) held))))
        (replaced_same (state_of w.vars x) ts xs refl)

    module _ (h : Header) (n : ℕ) (rs : List Region) where
      abbrev left_part : Yielded → Result (List Var) Fault
      left_part r = at_places line at (combined w.vars h at (second_region n rs)) >>= (λ l. carried (result l) (column_at at (result r)))

      abbrev left_source : Staged (List ℕ) → List ℤ → Result World Fault
      left_source q xs = at_places line at q >>= (λ ts. put_source (source.replaced_over line at (state_of w.vars x) ts xs))

      left_same : (q : Staged (List ℕ)) (r : Yielded) (xs : List ℤ) → IsValue at xs r → YieldsOver at (after_first n rs) (at_combinations w.vars h at) (ops_in rs 1) q (IsTarget v) → LeavesWorld names (left_part r) (left_source q xs)
      left_same (Ok ts) r xs is g = subst (λ p. LeavesWorld names (at_places line at p >>= (λ l. carried (result l) (column_at at (result r)))) (left_source (Ok ts) xs)) (sym g.1) (carried_same (result g.0) ts xs (column_at at (result r)) g.2 is)
      left_same (Err t) r xs is g = ap (λ p. at_places line at p >>= (λ l. carried (result l) (column_at at (result r)))) g

      both_same : (p : Staged (List ℤ)) (q : Staged (List ℕ)) → YieldsOver at n (at_combinations w.vars h at) (ops_in rs 0) p (IsValue at) → YieldsOver at (after_first n rs) (at_combinations w.vars h at) (ops_in rs 1) q (IsTarget v) →
          LeavesWorld names (forall_assign w.vars h at line n rs) (at_places line at p >>= left_source q)
      both_same (Ok xs) q f g = subst (λ p. LeavesWorld names (at_places line at p >>= left_part) (left_source q xs)) (sym f.1) (left_same q f.0 xs f.2 g)
      both_same (Err t) q f g = ap (λ p. at_places line at p >>= left_part) f

      pub assigned_same : (right : Expr) (cs : List source.Combination) → YieldsOver at n (at_combinations w.vars h at) (ops_in rs 0) (source.over w right cs) (IsValue at) →
          YieldsOver at (after_first n rs) (at_combinations w.vars h at) (ops_in rs 1) (source.over_targets w left cs) (IsTarget v) → LeavesWorld names (forall_assign w.vars h at line n rs) (source.forall_assign w line left right at cs)
      assigned_same right cs f g = both_same (source.over w right cs) (source.over_targets w left cs) f g
