-- The subscripts of a designator, one after another.
use Rattle.std.proofs.Common.{◌≡◌, refl, sym, ◌∙◌, subst, ℕ, suc, ◌+◌, ◌<◌, ◌≤◌, Bool, true, false, List, [], ◌∷◌, Ok, Err, arith}
use Rattle.ws_base.specs.Outcomes.{Staged, ◌>>=◌}
use Rattle.ws_space.specs.declared.shape.Dim.{Dim}
use Rattle.ws_space.specs.declared.state.ArrayValue.{ArrayValue}
use Rattle.ws_space.specs.declared.state.VarState.TheVariants as state
use Rattle.ws_space.specs.declared.state.Var.{Var}
use Rattle.ws_space.specs.Shapes.{dims}
use Rattle.ws_space.specs.Inquiries.{dim_at}
use Rattle.ws_tree.specs.declared.expr.Sub.{Sub}
use Rattle.ws_tree.specs.declared.expr.Sub.TheVariants as sub
use Rattle.ws_tree.specs.Trees.{Subs, end_subs, more_subs}
use Rattle.ws_types.specs.Sections.{is_designator}
use Rattle.array_meaning.specs.declared.world.World.{World}
use Rattle.array_meaning.specs.declared.term.Term.{Term}
use Rattle.array_meaning.specs.declared.term.Pick.{Pick}
use Rattle.array_meaning.specs.Stage1 as source
use Rattle.hlfir_ops.specs.Numbers.{numbers_of}
use Rattle.hlfir_ops.specs.RulesValues.{rank_of}
use Rattle.hlfir_meaning.specs.Environments.{variable, Environment}
use Rattle.hlfir_meaning.specs.Stage1.{stage1}
use Rattle.lower_values.specs.declared.operand.Operand.{Operand}
use Rattle.lower_values.specs.Scopes.{Scope}
use Rattle.lower_values.specs.Lowerings.{Lowering, done, ◌>>=◌ as ◌then◌}
use Rattle.lower_values.specs.References.{subscript_of}
use Rattle.lower_values.specs.Values.{value, subscripts, subscript}
use Rattle.value_laws.specs.Standing.{Kept, Does, settled}
use Rattle.value_laws.proofs.Copies.{settled-subscript}
use Rattle.value_laws.proofs.Walking.{does-done, does-then}
use Rattle.part_laws.specs.Parts.{StandsTaken}
use Rattle.part_laws.specs.Subscripts.{ready, SubscriptStands, SubscriptsStand, AreWithin, SelectsLater}
use Rattle.part_laws.proofs.Triplets.{declares-kept, does-triplet}
use Rattle.part_laws.proofs.Vectors.{pick_of, subscript-picks, Adds, taken-adds}

-- ---- dimensions, by their numbers

-- these are the dimensions from this number on
abbrev pub AreFrom : List Dim → ℕ → List Dim → Type 0
AreFrom all dim [] = Unit {0}
AreFrom all dim (d ∷ ds) = (dim_at all dim ≡ d) × AreFrom all (suc dim) ds

one_later : (b : Dim) (all : List Dim) (k : ℕ) (ds : List Dim) → AreFrom all (suc k) ds → AreFrom (b ∷ all) (suc (suc k)) ds
one_later b all k [] h = tt
one_later b all k (d ∷ ds) h = (h.0, one_later b all (suc k) ds h.1)

from_first : (ds : List Dim) → AreFrom ds (suc 0) ds
from_first [] = tt
from_first (d ∷ ds) = (refl, one_later d ds 0 ds (from_first ds))

pub all-from : (ds : List Dim) → AreFrom ds 1 ds
all-from ds = subst (λ k. AreFrom ds k ds) (let one : suc 0 ≡ 1 = refl in one) (from_first ds)

-- ---- one value

after_ready : (b : Bool) (r : Staged Term) → ((r >>= ready b) >>= (λ t. Ok (pick_of t))) ≡ (r >>= source.subscript b)
after_ready true (Ok t) = sym (subscript-picks t)
after_ready false (Ok t) = picks_settled (settled t) ∙ sym (settled-subscript t)
  where
    picks_settled : (q : Staged Term) → (q >>= (λ u. let p : Staged Pick = Ok (pick_of u) in p)) ≡ (q >>= source.subscript true)
    picks_settled (Ok u) = sym (subscript-picks u)
    picks_settled (Err t) = refl
after_ready b (Err t) = refl

module _ (vectors : List ℕ) (base : ℕ) (s : Scope) (n : ℕ) (env : Environment) (g : base ≤ n) where
  taken_adds : (p : Lowering Operand) (r : Staged Term) → rank_of (p s n).made.kind ≤ 1 → Does vectors s n env p r (λ x t m after. StandsTaken base n m after x t) →
      Does vectors s n env p r (λ x t m after. Adds (subscript_of x) (pick_of t) m after)
  taken_adds p (Ok t) few h = (h.0, h.1, taken-adds base n (n + numbers_of (p s n).ops) h.0 (p s n).made t g (omega arith) few h.2)
  taken_adds p (Err t) few h = h

  pub does-value : (p : Lowering Operand) (b : Bool) (r : Staged Term) → rank_of (p s n).made.kind ≤ 1 → Does vectors s n env p (r >>= ready b) (λ x t m after. StandsTaken base n m after x t) →
      Does vectors s n env (p then (λ x. done (subscript_of x))) (r >>= source.subscript b) Adds
  does-value p b r few h =
      subst (λ q. Does vectors s n env (p then (λ x. done (subscript_of x))) q Adds) (after_ready b r)
      (does-then (stage1 vectors) s n env p (λ x. done (subscript_of x)) (r >>= ready b) (λ t. Ok (pick_of t)) (λ x t m after. Adds (subscript_of x) (pick_of t) m after) Adds
      (taken_adds p (r >>= ready b) few h)
      (λ t m middle at kept adds. does-done (stage1 vectors) s m middle (subscript_of (p s n).made) (pick_of t) Adds adds))

-- ---- all of them

module _ (vectors : List ℕ) (base from : ℕ) (start here : Environment) (s : Scope) (w : World) (g : base ≤ from) (declares : Kept base start here) (r : Operand) (v : Var) (a : ArrayValue) (small : r.value.number < from)
    (found : here r.value.number ≡ variable v) (holds : v.state ≡ state.Array a) where
  does-subscript : (x : Sub) (dim : ℕ) (d : Dim) → dim_at (dims a.shape) dim ≡ d → (n : ℕ) (env : Environment) → from ≤ n → Kept from here env → SubscriptStands vectors base start s w r dim n x →
      Does vectors s n env (subscript r dim x) (source.one_pick w d x) Adds
  does-subscript (sub.One e) dim d at n env l kept h =
      does-value vectors base s n env (omega (arith, g, l)) (value e) (is_designator e) (source.walk w e) h.0 (h.1 env (declares-kept vectors base from start here s w g declares r v a small found holds env kept))
  does-subscript (sub.Range' p q t) dim d at n env l kept h = does-triplet vectors base from start here s w g declares r v a small found holds dim d at n env l kept p q t h

  pub does-subscripts : {k : _} (xs : Subs k) (dim : ℕ) (ds : List Dim) → AreFrom (dims a.shape) dim ds → AreWithin xs ds → (n : ℕ) (env : Environment) → from ≤ n → Kept from here env → SubscriptsStand vectors base start s w r dim n xs →
      Does vectors s n env (subscripts r dim xs) (source.picks w ds xs) (SelectsLater ds)
  does-subscripts end_subs dim ds are within n env l kept h = does-done (stage1 vectors) s n env [] [] (SelectsLater ds) (λ rho later. tt)
  does-subscripts (more_subs x xs) dim [] are within n env l kept h = absurd within
  does-subscripts (more_subs x xs) dim (d ∷ ds) are within n env l kept h =
      does-then (stage1 vectors) s n env (subscript r dim x) (λ y. subscripts r (suc dim) xs then (λ ys. done (y ∷ ys))) (source.one_pick w d x) (λ p. source.picks w ds xs >>= (λ ps. Ok (p ∷ ps))) Adds (SelectsLater (d ∷ ds))
      (does-subscript x dim d are.0 n env l kept h.0)
      (λ p m middle at1 kept1 adds.
      let y = (subscript r dim x s n).made in
      does-then (stage1 vectors) s m middle (subscripts r (suc dim) xs) (λ ys. done (y ∷ ys)) (source.picks w ds xs) (λ ps. Ok (p ∷ ps)) (SelectsLater ds) (SelectsLater (d ∷ ds))
      (does-subscripts xs (suc dim) ds are.1 within m middle (omega (arith, at1, l)) (λ b low. kept1 b (omega (arith, low, l)) ∙ kept b low) (subst (λ o. SubscriptsStand vectors base start s w r (suc dim) o xs) (sym at1) h.1))
      (λ ps o after at2 kept2 rest.
      let ys = (subscripts r (suc dim) xs s m).made in
      does-done (stage1 vectors) s o after (y ∷ ys) (p ∷ ps) (SelectsLater (d ∷ ds))
      (λ rho later. adds rho (λ b low. later b (omega (arith, low, at2)) ∙ kept2 b low) d ds ys ps (rest rho later))))
