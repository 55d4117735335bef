-- Cells after replacement.
use Rattle.std.proofs.Common.{◌≡◌, ◌⊎◌, inl, inr, ℕ, zero, suc, ◌+◌, ◌<◌, ◌≤◌, ◌==◌, Bool, true, false, if◌then◌else◌, List, [], ◌∷◌, length, take, sym, refl, ap, ◌∙◌, subst, arith, Option, Some, None, ℤ, pos, negsuc, slice_index}
use Rattle.std.specs.Prelude.{IsTrue}
use Rattle.std.specs.Int.{w64, cast_signed}
use Rattle.std.proofs.lemmas.Bool.Decides.{nat_tests}
use Rattle.ws_base.specs.Numbers.{default_half, in_range}
use Rattle.ws_space.specs.declared.state.ArrayValue.{ArrayValue}
use Rattle.ws_space.specs.Values.{value_at, stored_at, stored_from, stored, kept}
use Rattle.ws_space.specs.Replace.{unless_repeated, filled}
use Rattle.phase_ops.specs.Phases.{Cells, cell_value, word, Outcome}
use Rattle.phase_ops.specs.Free.{In}
use Rattle.loop_laws.specs.Moves.{Row, iterations_of, targets_of, values_of}
use Rattle.loop_laws.specs.Loops.{Replaced, Inside}
use Rattle.save_laws.specs.Saves.{Assigned}
use Rattle.mark_laws.specs.Checks.{Done}
use Rattle.mark_laws.specs.Standard.{RowsEnd}
use Rattle.loop_laws.proofs.Words.{read_back, pos_fits}
use Rattle.save_laws.specs.Values.{AssignedValues}
use Rattle.mark_laws.specs.Stands.{Stand, AllInRange, Given, Apart, elements_of, AsReplaced}

-- ---- lists

stored_there : (k : ℕ) (ts : List ℕ) (vs olds : List ℤ) (p : ℕ) → p < length olds → value_at (stored_from k ts vs olds) p ≡ stored_at ts vs (k + p) (value_at olds p)
stored_there k ts vs [] p h = absurd (omega (arith, h))
stored_there k ts vs (old ∷ olds) zero h = ap (λ (c : ℕ). stored_at ts vs c old) (let e : k ≡ k + 0 = omega arith in e)
stored_there k ts vs (old ∷ olds) (suc p) h = stored_there (suc k) ts vs olds p (omega (arith, h)) ∙ ap (λ (c : ℕ). stored_at ts vs c (value_at olds p)) (let e : suc k + p ≡ k + suc p = omega arith in e)

stored_long : (k : ℕ) (ts : List ℕ) (vs olds : List ℤ) → length (stored_from k ts vs olds) ≡ length olds
stored_long k ts vs [] = refl
stored_long k ts vs (old ∷ olds) = ap suc (stored_long (suc k) ts vs olds)

module _ (V : Type 0) (target : ℕ → List V → ℕ) (v : ℕ → List V → ℤ) where
  -- some row has the target p and its value, or none has this target
  abbrev Looked : List (Row V) → ℕ → ℤ → ℤ → Type 0
  Looked ts p old z = ((i : ℕ) × (s : List V) × In (i, s) ts × (target i s ≡ p) × (z ≡ v i s)) ⊎ (((i : ℕ) (s : List V) → In (i, s) ts → p ≡ target i s → ⊥) × (z ≡ old))

  look : (ts : List (Row V)) (p : ℕ) (old : ℤ) → Looked ts p old (stored_at (targets_of target ts) (values_of v ts) p old)
  look [] p old = inr (λ i s h e. h, refl)
  look (r ∷ rs) p old = by (target r.0 r.1 == p) refl (look rs p old)
    where
      by : (b : Bool) → (target r.0 r.1 == p) ≡ b → Looked rs p old (stored_at (targets_of target rs) (values_of v rs) p old) → Looked (r ∷ rs) p old (if b then v r.0 r.1 else stored_at (targets_of target rs) (values_of v rs) p old)
      by true e w = inl (r.0, r.1, inl refl, (let g : target r.0 r.1 ≡ p = grind (arith, nat_tests) in g), refl)
      by false e (inl w) = inl (w.0, w.1, inr w.2, w.3, w.4)
      by false e (inr w) = inr (λ i s h q. none i s h q, w.1)
        where
          none : (i : ℕ) (s : List V) → In (i, s) (r ∷ rs) → p ≡ target i s → ⊥
          none i s (inl g) q = let y : target r.0 r.1 ≡ p = ap (λ (z : Row V). target z.0 z.1) (sym g) ∙ sym q in let n : zero ≡ suc zero = grind (arith, nat_tests) in omega (arith, n)
          none i s (inr g) q = w.0 i s g q

-- ---- cells

pub range_value : (m : Cells) (c : ℕ) (z : ℤ) → IsTrue (in_range default_half z) → slice_index m c ≡ word z → cell_value m c ≡ z
range_value m c (pos k) h e = read_back m c (pos k) (let l : k < 2147483648 = grind (arith, nat_tests) in pos_fits k (omega (arith, l))) e
range_value m c (negsuc k) h e = read_back m c (negsuc k) (let l : k < 2147483648 = grind (arith, nat_tests) in record { sfits = omega (arith, l) }) e

pub replaces : (V : Type 0) (base : ℕ) (olds : List ℤ) (target : ℕ → List V → ℕ) (v : ℕ → List V → ℤ) (ts : List (Row V)) (m x : Cells)
    → Given V target v base (length olds) ts m x → AllInRange v ts → Stand m base olds → Stand x base (stored olds (targets_of target ts) (values_of v ts))
replaces V base olds target v ts m x w good stand = λ p h.
    let l : p < length olds = (let e = stored_long 0 (targets_of target ts) (values_of v ts) olds in omega (arith, h, e)) in
    at p l (stored_at (targets_of target ts) (values_of v ts) p (value_at olds p)) (look V target v ts p (value_at olds p))
    ∙ ap (λ (c : ℕ). stored_at (targets_of target ts) (values_of v ts) c (value_at olds p)) (let e : p ≡ 0 + p = omega arith in e)
    ∙ sym (stored_there 0 (targets_of target ts) (values_of v ts) olds p l)
  where
    at : (p : ℕ) → p < length olds → (z : ℤ) → Looked V target v ts p (value_at olds p) z → cell_value x (base + p) ≡ z
    at p l z (inl y) = range_value x (base + p) (v y.0 y.1) (good y.0 y.1 y.2) (ap (λ (c : ℕ). slice_index x (base + c)) (sym y.3) ∙ w.given y.0 y.1 y.2) ∙ sym y.4
    at p l z (inr y) = ap (cast_signed w64) (w.others p l y.0) ∙ stand p l ∙ sym y.1

-- ---- what the loops leave

pub outside : (t n base z p : ℕ) → Apart t n base z → p < z → Inside t n (base + p) → ⊥
outside t n base z p (inl a) l i = let x = i.1 in omega (arith, a, l, x)
outside t n base z p (inr a) l i = let x = i.0 in omega (arith, a, l, x)

module _ (V : Type 0) (target : ℕ → List V → ℕ) (v : ℕ → List V → ℤ) (t a n marks zm base z : ℕ) (ts : List (Row V)) (m x : Cells) where
  -- a place that is no target, as a cell
  no_target : (p : ℕ) → ((i : ℕ) (s : List V) → In (i, s) ts → p ≡ target i s → ⊥) → (i : ℕ) (s : List V) → In (i, s) ts → base + p ≡ base + target i s → ⊥
  no_target p never i s h e = never i s h (omega (arith, e))

  pub of_replaced : Replaced V (λ i s. base + target i s) (λ i s. word (v i s)) ts m x → Given V target v base z ts m x
  of_replaced w = record { given = w.given; others = λ p l never. w.others (base + p) (no_target p never) }

  pub of_assigned : Apart t n base z → Apart a n base z → Assigned V (λ i s. word (v i s)) target t a base n ts m x → Given V target v base z ts m x
  of_assigned at aa w = record { given = w.given; others = λ p l never. w.others (base + p) (outside t n base z p at l) (outside a n base z p aa l) (no_target p never) }

  pub of_done : Apart t n base z → Apart a n base z → Apart marks zm base z → Done V (λ i s. word (v i s)) target t a n marks zm base ts m x → Given V target v base z ts m x
  of_done at aa am w = record { given = w.given; others = λ p l never. w.others (base + p) (outside t n base z p at l) (outside a n base z p aa l) (outside marks zm base z p am l) (no_target p never) }

  pub of_values : Apart t n base z → AssignedValues V (λ i s. base + target i s) (λ i s. word (v i s)) t n ts m x → Given V target v base z ts m x
  of_values at w = record { given = w.given; others = λ p l never. w.others (base + p) (outside t n base z p at l) (no_target p never) }

-- ---- with the check

filled_elements : (rank : ℕ) (array : ArrayValue) (ts : List ℕ) (xs : List ℤ) → array.shape.rank ≡ rank → (0 < rank) × (rank ≤ 3) → elements_of (filled array ts xs) ≡ stored array.values ts xs
filled_elements zero array ts xs e h = absurd (let l = h.0 in omega (arith, l))
filled_elements (suc rank) array ts xs e h = ap (λ (k : ℕ). elements_of (kept (take k (array.shape.d1 ∷ array.shape.d2 ∷ array.shape.d3 ∷ [])) (stored array.values ts xs))) e

pub as_replaced : (line base marks t a n : ℕ) (target : ℕ → List ℤ → ℕ) (v : ℕ → List ℤ → ℤ) (ts : List (Row ℤ)) (m : Cells) (array : ArrayValue) (r : Outcome)
    → ((0 < array.shape.rank) × (array.shape.rank ≤ 3)) → Apart t n base (length array.values) → Apart a n base (length array.values) → Apart marks (length array.values) base (length array.values)
    → AllInRange v ts → Stand m base array.values
    → (k : Option ℕ) → RowsEnd line (length array.values) base marks t a n (λ i s. word (v i s)) target ts m k r
    → AsReplaced line base (unless_repeated line (iterations_of ts) k (filled array (targets_of target ts) (values_of v ts))) r
as_replaced line base marks t a n target v ts m array r rank at aa am good stand None w = (
  w.0,
  w.1,
  subst (λ (xs : List ℤ). Stand w.0 base xs) (sym (filled_elements array.shape.rank array (targets_of target ts) (values_of v ts) refl rank))
      (replaces ℤ base array.values target v ts m w.0 (of_done ℤ target v t a n marks (length array.values) base (length array.values) ts m w.0 at aa am w.2) good stand),
)
as_replaced line base marks t a n target v ts m array r rank at aa am good stand (Some k) w = (suc (slice_index (iterations_of ts) k), refl, w)
