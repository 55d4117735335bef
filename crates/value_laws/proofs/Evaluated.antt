-- What stands for a term is evaluated as the term: its values at places, and all of it with its conformance.
use Rattle.std.proofs.Common.{◌≡◌, refl, sym, ap, ◌∙◌, subst, ℕ, zero, suc, ◌+◌, ◌<◌, ◌≤◌, ◌==◌, Bool, true, false, List, [], ◌∷◌, All, Ok, Err, ℤ, arith, if◌then◌else◌}
use Rattle.std.specs.Prelude.{◌&&◌}
use Rattle.std.proofs.lemmas.Bool.{true≢false}
use Rattle.std.proofs.lemmas.List.Elements.{All-nil, All-cons, All-head}
use Rattle.ws_base.specs.declared.fault.FaultName.TheVariants.{Shape as Shape'}
use Rattle.ws_base.specs.Numbers.{default_half, reduction}
use Rattle.ws_base.specs.Outcomes.{Staged, trouble, scalar_of, ◌>>=◌}
use Rattle.ws_space.specs.Faults.{over_all_places}
use Rattle.ws_space.specs.Shapes.{Extents, size, same_extents, agreed, places_from, all_places}
use Rattle.array_meaning.specs.declared.term.Term.{Term}
use Rattle.array_meaning.specs.declared.term.Term.TheVariants as term
use Rattle.array_meaning.specs.Stage1 as source
use Rattle.array_meaning.specs.Stage2 as later
use Rattle.hlfir_ops.specs.declared.what.Reduction.{Reduction}
use Rattle.hlfir_ops.specs.declared.what.Reduction.TheVariants as totals
use Rattle.hlfir_ops.specs.declared.what.What.TheVariants as what
use Rattle.hlfir_ops.specs.RulesForms.{total_elem}
use Rattle.hlfir_meaning.specs.Environments.{Environment, Deferred, yielding}
use Rattle.hlfir_meaning.specs.Operators.{reduction_word}
use Rattle.hlfir_meaning.specs.Places.{column_at}
use Rattle.hlfir_meaning.specs.Stage1.{as_scalar}
use Rattle.hlfir_meaning.specs.Stage2.{deferred_by, stage2, values, whole}
use Rattle.lower_values.specs.declared.operand.Operand.{Operand}
use Rattle.lower_values.specs.Scopes.{Scope}
use Rattle.lower_values.specs.Operations.{call_on, total}
use Rattle.value_laws.specs.Standing.{Does, Gives, AreIn, Stands}
use Rattle.value_laws.proofs.Ordered.{all-weaker}
use Rattle.value_laws.proofs.Elementals.{left-gives, shapes-are}
use Rattle.value_laws.proofs.Scalars.{does-scalar}

-- ---- conformance

same_from : (m n : ℕ) (ms ns : Extents) (b : Bool) → (m == n) ≡ b → (same_extents ms ns ≡ true → ms ≡ ns) → (b && same_extents ms ns) ≡ true → (let es : Extents = m ∷ ms in es) ≡ n ∷ ns
same_from m n ms ns true e rest h = let same : m ≡ n = grind (arith, e) in ap (λ k. k ∷ ms) same ∙ ap (λ l. n ∷ l) (rest h)
same_from m n ms ns false e rest h = absurd (true≢false (sym h))

same_extents-equal : (e f : Extents) → same_extents e f ≡ true → e ≡ f
same_extents-equal [] [] h = refl
same_extents-equal [] (n ∷ ns) h = absurd (true≢false (sym h))
same_extents-equal (m ∷ ms) [] h = absurd (true≢false (sym h))
same_extents-equal (m ∷ ms) (n ∷ ns) h = same_from m n ms ns (m == n) refl (same_extents-equal ms ns) h

abbrev or_else : Extents → Staged Extents → Extents
or_else e (Ok f) = f
or_else e (Err t) = e

abbrev IsErr : Staged Extents → Type 0
IsErr (Ok e) = ⊥
IsErr (Err t) = Unit {0}

agreed_from : (e f shape : Extents) (more : List Extents) (b : Bool) → same_extents e f ≡ b → (agreed (f ∷ more) ≡ Ok shape → All (λ g. g ≡ shape) (f ∷ more)) →
    (if b then agreed (f ∷ more) else trouble Shape') ≡ Ok shape → All (λ g. g ≡ shape) (e ∷ f ∷ more)
agreed_from e f shape more true is rest h = All-cons (λ g. g ≡ shape) e (f ∷ more) (same_extents-equal e f is ∙ All-head (λ g. g ≡ shape) f more (rest h)) (rest h)
agreed_from e f shape more false is rest h = absurd (subst IsErr h tt)

pub agreed-all : (es : List Extents) (shape : Extents) → agreed es ≡ Ok shape → All (λ e. e ≡ shape) es
agreed-all [] shape h = All-nil (λ e. e ≡ shape)
agreed-all (e ∷ []) shape h = All-cons (λ g. g ≡ shape) e [] (ap (or_else e) h) (All-nil (λ g. g ≡ shape))
agreed-all (e ∷ f ∷ more) shape h = agreed_from e f shape more (same_extents e f) refl (agreed-all (f ∷ more) shape) h

pub below_end : (k n m : ℕ) → k + n ≤ m → All (λ p. p < m) (places_from k n)
below_end k zero m h = All-nil (λ p. p < m)
below_end k (suc n) m h = All-cons (λ p. p < m) k (places_from (suc k) n) (omega (arith, h)) (below_end (suc k) n m (omega (arith, h)))

places-in : (es : List Extents) (shape : Extents) → agreed es ≡ Ok shape → AreIn (all_places shape) es
places-in es shape h = all-weaker (λ e. e ≡ shape) (λ e. All (λ p. p < size e) (all_places shape))
    (λ e is. subst (λ f. All (λ p. p < size f) (all_places shape)) (sym is) (below_end 0 (size shape) (size shape) (omega arith))) es (agreed-all es shape h)

-- ---- values

same_after : {A B : Type 0} (r : Staged A) (f g : A → Staged B) → ((a : A) → r ≡ Ok a → f a ≡ g a) → (r >>= f) ≡ (r >>= g)
same_after (Ok a) f g h = h a refl
same_after (Err t) f g h = refl

held : (low high : ℕ) (at : List ℕ) (env : Environment) (n : ℕ) (ds : List Deferred) (r : Staged (List ℤ)) → Gives low high at env n ds r → (stage2 at env ds >>= (λ after. let xs : Staged (List ℤ) = Ok (column_at at (after n)) in xs)) ≡ r
held low high at env n ds (Ok xs) h = ap (λ s. s >>= (λ after. let ys : Staged (List ℤ) = Ok (column_at at (after n)) in ys)) h.1 ∙ ap (λ ys. let zs : Staged (List ℤ) = Ok ys in zs) h.2
held low high at env n ds (Err t) h = ap (λ s. s >>= (λ after. let ys : Staged (List ℤ) = Ok (column_at at (after n)) in ys)) h

module _ (base low high : ℕ) (env : Environment) (x : Operand) (t : Term) (h : Stands base low high env x t) where
  pub values-same : (at : List ℕ) → AreIn at (later.operands t) → values (yielding env (x.value ∷ [])) at ≡ later.values t at
  values-same at is = held low high at env x.value.number (deferred_by x.value.number (env x.value.number)) (later.values t at) (left-gives base low high env x t h env at (λ k own. refl) is)

  pub whole-same : whole (yielding env (x.value ∷ [])) ≡ later.whole t
  whole-same =
      ap (λ es. agreed es >>= (λ shape. over_all_places (values (yielding env (x.value ∷ [])) (all_places shape)))) (shapes-are base low high env x t h)
      ∙ same_after (agreed (later.operands t)) (λ shape. over_all_places (values (yielding env (x.value ∷ [])) (all_places shape))) (λ shape. over_all_places (later.values t (all_places shape)))
      (λ shape is. ap over_all_places (values-same (all_places shape) (places-in (later.operands t) shape is)))

-- ---- reductions

total_after : (w : Staged (List ℤ)) (g : List ℤ → Staged ℤ) → (w >>= (λ xs. as_scalar (g xs))) ≡ as_scalar (w >>= g)
total_after (Ok xs) g = refl
total_after (Err t) g = refl

term_after : (w : Staged (List ℤ)) (g : List ℤ → Staged ℤ) → ((w >>= g) >>= (λ z. let r : Staged Term = Ok (term.Scalar z) in r)) ≡ (w >>= (λ xs. g xs >>= (λ z. let r : Staged Term = Ok (term.Scalar z) in r)))
term_after (Ok xs) g = refl
term_after (Err t) g = refl

module _ (vectors : List ℕ) (base low : ℕ) (s : Scope) (n : ℕ) (env : Environment) (x : Operand) (l : low ≤ n) (t : Term) (h : Stands base low n env x t) where
  total-stands : (r : Reduction) → Does vectors s n env (total r (x ∷ [])) (source.reduced (reduction_word r) (t ∷ [])) (λ y u m after. Stands base low m after y u)
  total-stands r =
      let g : List ℤ → Staged ℤ = λ xs. scalar_of (reduction default_half (reduction_word r) xs) in
      subst (λ q. Does vectors s n env (total r (x ∷ [])) q (λ y u m after. Stands base low m after y u)) (term_after (later.whole t) g)
      (does-scalar vectors base low (what.Reduce r) (x.value ∷ []) (total_elem r) s n env l (later.whole t >>= g) refl (λ b. refl)
      (ap (λ w. w >>= (λ xs. as_scalar (g xs))) (whole-same base low n env x t h) ∙ total_after (later.whole t) g))

  pub does-reduction : (r : Reduction) → Does vectors s n env (call_on (reduction_word r) (x ∷ [])) (source.called (reduction_word r) (t ∷ [])) (λ y u m after. Stands base low m after y u)
  unfolding call_on
  does-reduction totals.Sum = total-stands totals.Sum
  does-reduction totals.Product = total-stands totals.Product
  does-reduction totals.Minval = total-stands totals.Minval
  does-reduction totals.Maxval = total-stands totals.Maxval
  does-reduction totals.Count = total-stands totals.Count
  does-reduction totals.Any = total-stands totals.Any
  does-reduction totals.All = total-stands totals.All
