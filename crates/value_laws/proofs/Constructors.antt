-- Listed values: constructors, and operations that are evaluated whole as vector subscripts.
use Rattle.std.proofs.Common.{◌≡◌, refl, ap, ◌∙◌, subst, inr, ℕ, ◌+◌, ◌<◌, ◌≤◌, ◌==◌, false, List, [], ◌∷◌, map, All, Some, Ok, ℤ, arith}
use Rattle.std.proofs.lemmas.List.Elements.{All-head, All-tail}
use Rattle.ws_base.specs.Outcomes.{Staged}
use Rattle.array_meaning.specs.declared.term.Term.{Term}
use Rattle.array_meaning.specs.declared.term.Term.TheVariants as term
use Rattle.array_meaning.specs.Stage1 as source
use Rattle.hlfir_ops.specs.declared.kinds.Elem.{Elem}
use Rattle.hlfir_ops.specs.declared.kinds.ValueKind.TheVariants.{Array}
use Rattle.hlfir_ops.specs.declared.what.What.TheVariants as what
use Rattle.hlfir_ops.specs.declared.op.Op.{Op}
use Rattle.hlfir_ops.specs.Trees.{op_of}
use Rattle.hlfir_ops.specs.Numbers.{numbers_of}
use Rattle.hlfir_ops.proofs.Numbered.{op_numbers-op_of}
use Rattle.hlfir_meaning.specs.Environments.{Value, Environment, with_value, scalar_in}
use Rattle.hlfir_meaning.specs.Places.{column_at}
use Rattle.hlfir_meaning.specs.Stage1 as walked
use Rattle.lower_values.specs.declared.operand.Operand.{Operand}
use Rattle.lower_values.specs.Scopes.{Scope}
use Rattle.lower_values.specs.Lowerings.{giving}
use Rattle.lower_values.specs.Operations.{values_of, first_elem, vector}
use Rattle.value_laws.specs.Standing.{Goes, Does, Stands, StandEach}
use Rattle.value_laws.specs.Singles.{IsSingle}
use Rattle.value_laws.proofs.Ordered.{ordered-none}
use Rattle.value_laws.proofs.Elementals.{each-bounds}
use Rattle.value_laws.proofs.Walking.{with_value-here, goes-op}
use Rattle.value_laws.proofs.Scalars.{settled-not}

pub listed-stands : (base low high n : ℕ) (env : Environment) (e : Elem) (rank : ℕ) (vs : List ℤ) → low ≤ n → n < high → (rank == 0) ≡ false → env n ≡ walked.vector vs →
    Stands base low high env (record { value = record { number = n }; kind = Array e rank }) (term.Listed vs)
listed-stands base low high n env e rank vs l h ranked is = record {
  value = walked.vector vs;
  found = is;
  own = inr (l, h);
  rank = ranked;
  whole = tt;
  shapes = refl;
  ordered = ordered-none low high;
  gives = λ other at alike _. (other, refl, ap (column_at at) (alike n (inr (l, h)) ∙ is), record { below = λ k _. refl; above = λ k _. refl });
}

single-value : (base low high : ℕ) (env : Environment) (x : Operand) (t : Term) → IsSingle t → Stands base low high env x t → scalar_in (env x.value.number) ≡ source.value_of t
single-value base low high env x (term.Scalar z) single h = ap scalar_in (h.found ∙ h.rank.1)
single-value base low high env x t single h = absurd single

each-single : (base : ℕ) (env : Environment) (low high : ℕ) (xs : List Operand) (ts : List Term) → All IsSingle ts → StandEach base low high env xs ts → walked.scalars env (values_of xs) ≡ map source.value_of ts
each-single base env low high [] [] s h = refl
each-single base env low high [] (t ∷ ts) s h = absurd h
each-single base env low high (x ∷ xs) [] s h = absurd h
each-single base env low high (x ∷ xs) (t ∷ ts) s h =
    ap (λ z. z ∷ walked.scalars env (values_of xs)) (single-value base low h.0 env x t (All-head IsSingle t ts s) h.2)
    ∙ ap (λ zs. source.value_of t ∷ zs) (each-single base env h.0 high xs ts (All-tail IsSingle t ts s) h.3)

module _ (vectors : List ℕ) (base low : ℕ) (s : Scope) (n : ℕ) (env : Environment) (xs : List Operand) (ts : List Term) (singles : All IsSingle ts) (h : StandEach base low n env xs ts) where
  abbrev vector_op : Op
  vector_op = op_of what.Vector s.line (values_of xs) (Some (Array (first_elem xs) 1)) []

  abbrev listed : Value
  listed = walked.vector (map source.value_of ts)

  vector_goes : Goes vectors n env (vector_op ∷ []) (Ok listed) (λ x after. after ≡ with_value n x env)
  vector_goes = subst (λ q. Goes vectors n env (vector_op ∷ []) q (λ x after. after ≡ with_value n x env))
      (settled-not n env (walked.made n env what.Vector (values_of xs) []) ∙ ap (λ vs. let v : Staged Value = Ok (walked.vector vs) in v) (each-single base env low n xs ts singles h))
      (goes-op vectors what.Vector s.line (values_of xs) (Some (Array (first_elem xs) 1)) [] n env refl)

  -- with the value that it leaves
  pub vector-given : Does vectors s n env (vector xs) (Ok (term.Listed (map source.value_of ts))) (λ x t m after. Stands base low m after x t × (after x.value.number ≡ walked.vector (map source.value_of ts)))
  unfolding vector giving
  vector-given =
      let at = ap (λ f. f n) vector_goes.2 ∙ with_value-here n listed env in (
        vector_goes.0,
        vector_goes.1,
        (
          listed-stands base low (n + numbers_of (vector_op ∷ [])) n vector_goes.0 (first_elem xs) 1 (map source.value_of ts) (each-bounds base env low n xs ts h)
              (omega (arith, op_numbers-op_of what.Vector s.line (values_of xs) (Some (Array (first_elem xs) 1)) [])) refl at,
          at,
        ),
      )

  pub does-vector : Does vectors s n env (vector xs) (Ok (term.Listed (map source.value_of ts))) (λ x t m after. Stands base low m after x t)
  does-vector = (vector-given.0, vector-given.1, vector-given.2.0)
