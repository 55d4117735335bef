-- A saved mask, and loops that it gates.
use Rattle.std.proofs.Common.{◌≡◌, ℕ, ◌+◌, Bool, true, false, List, ◌∷◌, refl, ap, ◌∙◌, arith, None, Result, Ok, Err, ℤ, pos, slice_index}
use Rattle.std.specs.Prelude.{if◌then◌else◌}
use Rattle.ws_base.specs.Numbers.{truth, is_true}
use Rattle.phase_ops.specs.Phases.{Cells, cell_value, word}
use Rattle.phase_ops.specs.Free.{In}
use Rattle.loop_laws.specs.Moves.{Row, Move, Keeps, Failure, Ended, deeper, moved}
use Rattle.loop_laws.specs.Loops.{Plan, ended}
use Rattle.loop_laws.proofs.Words.{read_back, pos_fits}
use Rattle.save_laws.specs.Values.{SavesValues}
use Rattle.mask_laws.specs.Masks.{Masked, Masks}

pub truth_back : (m : Cells) (c : ℕ) (b : Bool) → slice_index m c ≡ word (truth b) → cell_value m c ≡ truth b
truth_back m c true e = read_back m c (pos 1) (pos_fits 1 (omega arith)) e
truth_back m c false e = read_back m c (pos 0) (pos_fits 0 (omega arith)) e

pub masked : (V : Type 0) (test : List V → Bool) (t n : ℕ) (m m' : Cells) (r : Result (List (Row V)) Failure) → SavesValues V (λ i s. word (truth (test s))) t n m m' r → Masks V test t n m m' r
masked V test t n m m' (Ok ts) w = record { same_length = w.same_length; mask_at = λ i s h. truth_back m' (t + i) (test s) (w.value_at i s h); others = w.others }
masked V test t n m m' (Err f) w = tt

pub gates : (m m' : Cells) (n tm : ℕ) (test : List ℤ → Bool) (ts : List (Row ℤ)) (plan : Plan ℤ) (t : List ℤ → Bool) (more : List (Move ℤ)) → Masked ℤ test tm n ts m m'
    → plan.moves ≡ Keeps t ∷ more → ((i : ℕ) → t (plan.start i) ≡ is_true (cell_value m' (tm + i)))
    → (i : ℕ) (s : List ℤ) → In (i, s) ts → ended plan i ≡ (if test s then deeper (moved more (plan.start i)) else Ok None)
gates m m' n tm test ts plan t more w e h i s g =
    ap (λ (xs : List (Move ℤ)). moved xs (plan.start i)) e
    ∙ ap (λ (x : Bool). let r : Ended ℤ = if x then deeper (moved more (plan.start i)) else Ok None in r) (h i ∙ ap is_true (w.mask_at i s g) ∙ back (test s))
  where
    back : (x : Bool) → is_true (truth x) ≡ x
    back true = refl
    back false = refl
