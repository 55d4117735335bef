-- The parts of a triplet: given ones, bounds of the array's dimension, and the stride 1.
use Rattle.std.proofs.Common.{◌≡◌, refl, sym, ap, ◌∙◌, subst, ℕ, ◌+◌, ◌<◌, ◌≤◌, ◌==◌, true, List, [], ◌∷◌, Ok, Err, ℤ, pos, arith}
use Rattle.std.proofs.lemmas.Bool.{true≢false}
use Rattle.ws_base.specs.Outcomes.{Staged, scalar_of, ◌>>=◌}
use Rattle.ws_space.specs.declared.shape.Dim.{Dim}
use Rattle.ws_space.specs.declared.shape.Triplet.{Triplet}
use Rattle.ws_space.specs.declared.state.ArrayValue.{ArrayValue}
use Rattle.ws_space.specs.declared.state.VarState.TheVariants as state
use Rattle.ws_space.specs.declared.state.Var.{Var}
use Rattle.ws_space.specs.Shapes.{dims}
use Rattle.ws_space.specs.Sections.{omitted_upper}
use Rattle.ws_space.specs.Inquiries.{dim_at}
use Rattle.ws_tree.specs.declared.expr.Sub.TheVariants as sub
use Rattle.ws_tree.specs.Trees.{Given, absent, given}
use Rattle.array_meaning.specs.declared.world.World.{World}
use Rattle.array_meaning.specs.declared.term.Term.{Term}
use Rattle.array_meaning.specs.declared.term.Term.TheVariants as term
use Rattle.array_meaning.specs.declared.term.Pick.{Pick}
use Rattle.array_meaning.specs.declared.term.Pick.TheVariants as pick
use Rattle.array_meaning.specs.Stage1 as source
use Rattle.hlfir_ops.specs.declared.kinds.Elem.TheVariants.{I32}
use Rattle.hlfir_ops.specs.declared.what.BoundWord.{BoundWord}
use Rattle.hlfir_ops.specs.declared.what.BoundWord.TheVariants.{Lower, Upper}
use Rattle.hlfir_ops.specs.declared.what.What.TheVariants as what
use Rattle.hlfir_ops.specs.Numbers.{numbers_of}
use Rattle.hlfir_ops.specs.RulesValues.{rank_of}
use Rattle.hlfir_meaning.specs.Environments.{variable, Environment, scalar_in, state_in}
use Rattle.hlfir_meaning.specs.References.{allocated, bound_value, inquired}
use Rattle.hlfir_meaning.specs.Stage1 as walked
use Rattle.hlfir_meaning.specs.Stage1.{stage1}
use Rattle.lower_values.specs.declared.operand.Operand.{Operand}
use Rattle.lower_values.specs.declared.operand.Subscript.{Subscript}
use Rattle.lower_values.specs.declared.operand.Subscript.TheVariants.{Range}
use Rattle.lower_values.specs.Scopes.{Scope}
use Rattle.lower_values.specs.Lowerings.{Lowering, done, ◌>>=◌ as ◌then◌}
use Rattle.lower_values.specs.Operations.{constant}
use Rattle.lower_values.specs.References.{bound}
use Rattle.lower_values.specs.Values.{value, given_or}
use Rattle.value_laws.specs.Standing.{Kept, Does, Stands}
use Rattle.value_laws.proofs.Elementals.{own-small}
use Rattle.value_laws.proofs.Scalars.{does-scalar, does-constant}
use Rattle.value_laws.proofs.Walking.{does-done, does-then}
use Rattle.part_laws.specs.Selects.{Selects, selected_by}
use Rattle.part_laws.specs.Subscripts.{after_given, GivenStands, SubscriptStands}
use Rattle.part_laws.proofs.Vectors.{Adds}

-- the operand is this number
pub record IsNumber (x : Operand) (z : ℤ) (n : ℕ) (env : Environment) : Type 0 where
  pub found : scalar_in (env x.value.number) ≡ z
  pub small : x.value.number < n

number-kept : (x : Operand) (z : ℤ) (n : ℕ) (env after : Environment) → IsNumber x z n env → Kept n env after → scalar_in (after x.value.number) ≡ z
number-kept x z n env after h kept = ap scalar_in (kept x.value.number h.small) ∙ h.found

triplet-adds : (x y z : Operand) (i j k : ℤ) (rho : Environment) (d : Dim) → scalar_in (rho x.value.number) ≡ i → scalar_in (rho y.value.number) ≡ j → scalar_in (rho z.value.number) ≡ k →
    (ds : List Dim) (ss : List Subscript) (ps : List Pick) → Selects ds (selected_by rho ss) ps → Selects (d ∷ ds) (selected_by rho (Range x.value y.value z.value ∷ ss)) (pick.Range (record { l = i; u = j; s = k }) ∷ ps)
triplet-adds x y z i j k rho d hx hy hz ds ss ps rest = (
  ap (λ c. let o : Triplet = record { l = c; u = scalar_in (rho y.value.number); s = scalar_in (rho z.value.number) } in o) hx
      ∙ (ap (λ c. let o : Triplet = record { l = i; u = c; s = scalar_in (rho z.value.number) } in o) hy
      ∙ ap (λ c. let o : Triplet = record { l = i; u = j; s = c } in o) hz),
  rest,
)

module _ (vectors : List ℕ) (base : ℕ) (s : Scope) (n : ℕ) (env : Environment) (g : base ≤ n) where
  stands-number : (m : ℕ) (after : Environment) (x : Operand) (t : Term) → n ≤ m → (rank_of x.kind == 0) ≡ true → Stands base n m after x t → IsNumber x (source.value_of t) m after
  stands-number m after x (term.Scalar z) l none h = record { found = ap scalar_in (h.found ∙ h.rank.1); small = own-small base n m x.value.number g l h.own }
  stands-number m after x t l none h = absurd (true≢false (sym none ∙ h.rank))

  of_scalar : (p : Lowering Operand) (r : Staged ℤ) → Does vectors s n env p (r >>= (λ z. Ok (term.Scalar z))) (λ x t m after. Stands base n m after x t) → Does vectors s n env p r IsNumber
  of_scalar p (Ok z) h = (h.0, h.1, stands-number (n + numbers_of (p s n).ops) h.0 (p s n).made (term.Scalar z) (omega arith) h.2.rank.0 h.2)
  of_scalar p (Err t) h = h

  of_single : (p : Lowering Operand) (r : Staged Term) → (rank_of (p s n).made.kind == 0) ≡ true → Does vectors s n env p r (λ x t m after. Stands base n m after x t) → Does vectors s n env p (r >>= (λ t. Ok (source.value_of t))) IsNumber
  of_single p (Ok t) none h = (h.0, h.1, stands-number (n + numbers_of (p s n).ops) h.0 (p s n).made t (omega arith) none h.2)
  of_single p (Err t) none h = h

  does-stride : Does vectors s n env (constant I32 (pos 1)) (Ok (pos 1)) IsNumber
  does-stride = of_scalar (constant I32 (pos 1)) (Ok (pos 1)) (does-constant vectors base n I32 (pos 1) s n env (omega arith))

  module _ (r : Operand) (v : Var) (a : ArrayValue) (found : env r.value.number ≡ variable v) (holds : v.state ≡ state.Array a) (dim : ℕ) (d : Dim) (at : dim_at (dims a.shape) dim ≡ d) where
    does-bound : (w : BoundWord) → Does vectors s n env (bound w dim r) (scalar_of (bound_value w d)) IsNumber
    unfolding bound
    does-bound w = of_scalar (bound w dim r) (scalar_of (bound_value w d))
        (does-scalar vectors base n (what.Bound w dim) (r.value ∷ []) I32 s n env (omega arith) (scalar_of (bound_value w d)) refl (λ b. refl)
        (ap (λ x. walked.as_scalar (inquired (what.Bound w dim) (state_in x))) found
        ∙ (ap (λ q. walked.as_scalar (allocated q >>= (λ b. scalar_of (bound_value w (dim_at (dims b.shape) dim))))) holds
        ∙ ap (λ e. walked.as_scalar (scalar_of (bound_value w e))) at)))

  does-given : (w : World) (start : Environment) (other : Lowering Operand) (r : Staged ℤ) → Kept base start env → Does vectors s n env other r IsNumber → (t : Given) → GivenStands vectors base start s w n t →
      Does vectors s n env (given_or other t) (source.end w r t) IsNumber
  does-given w start other r kept h absent given-stands = h
  does-given w start other r kept h (given e) given-stands = of_single (value e) (source.walk w e) given-stands.0 (given-stands.1 env kept)

-- ---- all three

-- The variable stands here, and what comes later has kept the values below `from`; the declares are those of the start.
module _ (vectors : List ℕ) (base from : ℕ) (start here : Environment) (s : Scope) (w : World) (g : base ≤ from) (declares : Kept base start here) (r : Operand) (v : Var) (a : ArrayValue) (small : r.value.number < from)
    (found : here r.value.number ≡ variable v) (holds : v.state ≡ state.Array a) where
  pub declares-kept : (env : Environment) → Kept from here env → Kept base start env
  declares-kept env kept k low = kept k (omega (arith, low, g)) ∙ declares k low

  module _ (dim : ℕ) (d : Dim) (at : dim_at (dims a.shape) dim ≡ d) where
    bound_stands : (n : ℕ) (env : Environment) → from ≤ n → Kept from here env → (b : BoundWord) → Does vectors s n env (bound b dim r) (scalar_of (bound_value b d)) IsNumber
    bound_stands n env l kept b = does-bound vectors base s n env (omega (arith, g, l)) r v a (kept r.value.number small ∙ found) holds dim d at b

    part_stands : (n : ℕ) (env : Environment) → from ≤ n → Kept from here env → (other : Lowering Operand) (q : Staged ℤ) → Does vectors s n env other q IsNumber → (t : Given) → GivenStands vectors base start s w n t →
        Does vectors s n env (given_or other t) (source.end w q t) IsNumber
    part_stands n env l kept other q h t stands = does-given vectors base s n env (omega (arith, g, l)) w start other q (declares-kept env kept) h t stands

    module _ (n : ℕ) (env : Environment) (l : from ≤ n) (kept : Kept from here env) (p q t : Given) (stands : SubscriptStands vectors base start s w r dim n (sub.Range' p q t)) where
      abbrev lower : Lowering Operand
      lower = given_or (bound Lower dim r) p

      abbrev upper : Lowering Operand
      upper = given_or (bound Upper dim r) q

      abbrev stride : Lowering Operand
      stride = given_or (constant I32 (pos 1)) t

      abbrev pick_by : ℤ → ℤ → ℤ → Pick
      pick_by i j k = pick.Range (record { l = i; u = j; s = k })

      last_part : (m k : ℕ) (middle after : Environment) (x y : Operand) (i j : ℤ) → m ≡ n + numbers_of (lower s n).ops → k ≡ m + numbers_of (upper s m).ops → Kept from here after → IsNumber x i k after → IsNumber y j k after →
          Does vectors s k after (stride then (λ z. done (Range x.value y.value z.value))) (source.end w (Ok (pos 1)) t >>= (λ c. Ok (pick_by i j c))) Adds
      last_part m k middle after x y i j at1 at2 kept' hx hy =
          does-then (stage1 vectors) s k after stride (λ z. done (Range x.value y.value z.value)) (source.end w (Ok (pos 1)) t) (λ c. Ok (pick_by i j c)) IsNumber Adds
          (part_stands k after (omega (arith, at1, at2, l)) kept' (constant I32 (pos 1)) (Ok (pos 1)) (does-stride vectors base s k after (omega (arith, at1, at2, l, g))) t
          (subst (λ o. GivenStands vectors base start s w o t) (sym (at2 ∙ ap (after_given s (bound Upper dim r) q) at1)) stands.2))
          (λ c o last at3 kept3 hz. does-done (stage1 vectors) s o last (Range x.value y.value (stride s k).made.value) (pick_by i j c) Adds
          (λ rho later d' ds ss ps rest.
          let till : Kept k after rho = λ b low. later b (omega (arith, low, at3)) ∙ kept3 b low in
          triplet-adds x y (stride s k).made i j c rho d' (number-kept x i k after rho hx till) (number-kept y j k after rho hy till) (number-kept (stride s k).made c o last rho hz later) ds ss ps rest))

      pub does-triplet : Does vectors s n env (lower then (λ x. upper then (λ y. stride then (λ z. done (Range x.value y.value z.value)))))
          (source.end w (Ok d.lower) p >>= (λ i. source.end w (omitted_upper d) q >>= (λ j. source.end w (Ok (pos 1)) t >>= (λ k. Ok (pick_by i j k))))) Adds
      does-triplet =
          does-then (stage1 vectors) s n env lower (λ x. upper then (λ y. stride then (λ z. done (Range x.value y.value z.value)))) (source.end w (Ok d.lower) p)
          (λ i. source.end w (omitted_upper d) q >>= (λ j. source.end w (Ok (pos 1)) t >>= (λ k. Ok (pick_by i j k)))) IsNumber Adds
          (part_stands n env l kept (bound Lower dim r) (Ok d.lower) (bound_stands n env l kept Lower) p stands.0)
          (λ i m middle at1 kept1 hx.
          let x = (lower s n).made in
          let kept' : Kept from here middle = λ b low. kept1 b (omega (arith, low, l)) ∙ kept b low in
          let l' : from ≤ m = omega (arith, at1, l) in
          does-then (stage1 vectors) s m middle upper (λ y. stride then (λ z. done (Range x.value y.value z.value))) (source.end w (omitted_upper d) q) (λ j. source.end w (Ok (pos 1)) t >>= (λ k. Ok (pick_by i j k))) IsNumber Adds
          (part_stands m middle l' kept' (bound Upper dim r) (omitted_upper d) (bound_stands m middle l' kept' Upper) q (subst (λ o. GivenStands vectors base start s w o q) (sym at1) stands.1))
          (λ j k after at2 kept2 hy.
          last_part m k middle after x (upper s m).made i j at1 at2 (λ b low. kept2 b (omega (arith, low, l')) ∙ kept' b low)
          (record { found = number-kept x i m middle after hx kept2; small = omega (arith, hx.small, at2) }) hy))
