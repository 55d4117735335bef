-- The whole step with a saved right side, saved targets and the check.
use Rattle.std.proofs.Common.{◌≡◌, inl, inr, ℕ, zero, suc, ◌<◌, List, [], sym, refl, ap, ◌∙◌, subst, arith, Option, Some, None, Result, Ok, Err, ℤ}
use Rattle.std.specs.Prelude.{slice_index_or}
use mathlib.Core.Logic.{dite}
use native.Mathlib.Decide.{dec_le}
use Rattle.ws_base.specs.declared.fault.FaultName.TheVariants.{ManyOne}
use Rattle.ws_space.specs.Values.{first_repeat}
use Rattle.phase_ops.specs.declared.phase.Label.{Label}
use Rattle.phase_ops.specs.declared.phase.Phase.{Phase}
use Rattle.phase_ops.specs.Phases.{Cells, key, key_of, after_phase, Outcome, Failed, result}
use Rattle.phase_ops.specs.Free.{In, FreeFrom, IsChunk}
use Rattle.loop_laws.specs.Moves.{Row, Failure, Ended, iterations_of, whole, targets_of}
use Rattle.loop_laws.specs.Loops.{Plan, ended, rows_of, Keyed}
use Rattle.loop_laws.specs.Laws.{AllMoved, Bridged}
use Rattle.save_laws.specs.Saves.{Saving, Saves}
use Rattle.mark_laws.specs.Marks.{Repeats}
use Rattle.save_laws.specs.Pairs.{Lap, loop}
use Rattle.mark_laws.specs.Checks.{place_at, places_of, Behind, five, FiveEnd}
use Rattle.mark_laws.specs.Acts.{clear_acts, mark_acts, check_acts, assign_acts}
use Rattle.mark_laws.specs.Standard.{lap, Room, IsPlace, RowsEnd, StepEnds}
use Rattle.loop_laws.proofs.Keyed.{rows_ascend, keyed_loop, the_bridge}
use Rattle.loop_laws.proofs.Direct.{left, is_left}
use Rattle.mark_laws.proofs.Checks.{five_law}
use Rattle.mark_laws.proofs.Standard.{behind_fits}
use Rattle.mark_laws.proofs.Repeats.{Repeated, Old, repeated, not_among}
use Rattle.loop_laws.proofs.Bridge.{left_ascend}
use Rattle.save_laws.proofs.Saves.{saving_leaves}

module _ (n : ℕ) (plan : Plan ℤ) (target : ℕ → List ℤ → ℕ) (ts : List (Row ℤ)) (b : AllMoved ℤ plan.moves (rows_of plan n) ts) where
  placed : (i : ℕ) → i < n → IsPlace plan target ts i
  placed i l = by (ended plan i) refl
    where
      by : (x : Ended ℤ) → ended plan i ≡ x → IsPlace plan target ts i
      by (Ok (Some s)) e = inl (s, is_left ℤ plan n ts b i s l e, ap (place_at target i) e)
      by (Ok None) e = inr ((λ s h. let x = (left ℤ plan n ts b i s h).1 in absurd (let z : zero ≡ suc zero = cc in omega (arith, z))), ap (place_at target i) e)
      by (Err f) e = inr ((λ s h. let x = (left ℤ plan n ts b i s h).1 in absurd (let z : zero ≡ suc zero = cc in omega (arith, z))), ap (place_at target i) e)

  abbrev places : ℕ → Option ℕ
  places = places_of plan target

  -- a position with a place is a row with this target
  row_at : (i q : ℕ) → i < n → places i ≡ Some q → (s : List ℤ) × In (i, s) ts × (target i s ≡ q)
  row_at i q l e = by (placed i l)
    where
      by : IsPlace plan target ts i → (s : List ℤ) × In (i, s) ts × (target i s ≡ q)
      by (inl g) = let f = g.2 in (g.0, g.1, cc)
      by (inr g) = let f = g.1 in absurd (let z : zero ≡ suc zero = cc in omega (arith, z))

  place_of_row : (r : Row ℤ) → In r ts → (r.0 < n) × (places r.0 ≡ Some (target r.0 r.1))
  place_of_row r h = let x = left ℤ plan n ts b r.0 r.1 h in (x.0, ap (place_at target r.0) x.1)

  -- a position repeats a place where its row is old
  repeats_row : (i : ℕ) → i < n → Repeats places i → (q : Row ℤ) × (r : Row ℤ) × In q ts × In r ts × (q.0 ≡ i) × (r.0 < q.0) × (target r.0 r.1 ≡ target q.0 q.1)
  repeats_row i l w =
      let later = row_at i w.0 l w.4 in
      let before = w.2 in
      let earlier = row_at w.1 w.0 (omega (arith, before, l)) w.3 in
      ((i, later.0), (w.1, earlier.0), later.1, earlier.1, refl, before, earlier.2 ∙ sym later.2)

  row_repeats : (q r : Row ℤ) → In q ts → In r ts → r.0 < q.0 → target r.0 r.1 ≡ target q.0 q.1 → Repeats places q.0
  row_repeats q r h g l e = let x = place_of_row q h in let y = place_of_row r g in (target q.0 q.1, r.0, l, y.1 ∙ ap (λ (k : ℕ). let o : Option ℕ = Some k in o) e, x.1)

  module _ (line z base marks t a : ℕ) (value : ℕ → List ℤ → ℕ) (m : Cells) (out : Outcome) where
    ends : (o : Option ℕ) → Repeated ℤ target [] ts 0 o → FiveEnd ℤ plan value target t a n marks z base 0 7 m (Ok ts) out → RowsEnd line z base marks t a n value target ts m o out
    ends None w (inl x) = (x.0, x.1, x.2.1)
    ends None w (inr x) =
        let f = x.1 in
        let r = repeats_row x.0 f.there f.repeats in
        absurd ((w r.0 r.2).alone r.1 r.3 r.5 r.6)
    ends (Some k) w (inl x) = absurd (old w.old)
      where
        old : Old ℤ target [] ts w.row → ⊥
        old (inl h) = not_among ℤ target (target w.row.0 w.row.1) h
        old (inr r) = x.2.0 w.row.0 (place_of_row w.row w.row_in).0 (row_repeats w.row r.0 w.row_in r.1 r.2 r.3)
    ends (Some k) w (inr x) =
        let f = x.1 in
        let r = repeats_row x.0 f.there f.repeats in
        let one = the_row r.0 r.1 r.2 r.3 r.4 r.5 r.6 in
        let is = w.iteration in
        let at = w.at in
        let index : w.index ≡ k = omega (arith, at) in
        x.2 ∙ ap (λ (i : ℕ). Failed 3 (key_of 0 7 (suc i) ManyOne)) (one ∙ is ∙ ap (λ (j : ℕ). slice_index_or (iterations_of ts) j 0) index)
      where
        -- both are the first
        the_row : (q r : Row ℤ) → In q ts → In r ts → q.0 ≡ x.0 → r.0 < q.0 → target r.0 r.1 ≡ target q.0 q.1 → x.0 ≡ w.row.0
        the_row q r h g e l s =
            let first = x.1.first w.row.0 (place_of_row w.row w.row_in).0 (again w.old) in
            dite (dec_le (suc q.0) w.row.0) (λ less. absurd ((w.first q h less).alone r g l s)) (λ more. omega (arith, first, more, e))
          where
            again : Old ℤ target [] ts w.row → Repeats places w.row.0
            again (inl y) = absurd (not_among ℤ target (target w.row.0 w.row.1) y)
            again (inr y) = row_repeats w.row y.0 w.row_in y.1 y.2 y.3

module _ (line : ℕ) (p : Lap) (c k h q : Label) (n marks z base t a : ℕ) (plan : Plan ℤ) (value target : ℕ → List ℤ → ℕ) (m : Cells) (w : Saving ℤ plan value target t a p.count p.acts m n) (room : Room t a n marks z base m)
    (good : (i : ℕ) (s : List ℤ) → i < n → ended plan i ≡ Ok (Some s) → (value i s < 18446744073709551616) × (target i s < z)) (chunk : ℕ) (is : IsChunk chunk) where
  abbrev the_phases : List Phase
  the_phases = five p (lap line c z (clear_acts line marks)) (lap line k n (mark_acts line a marks)) (lap line h n (check_acts line a marks)) (lap line q n (assign_acts line t a base))

  the_behind : (ts : List (Row ℤ)) → AllMoved ℤ plan.moves (rows_of plan n) ts → ((i : ℕ) (s : List ℤ) → In (i, s) ts → target i s < z) × Behind ℤ plan value target t a n marks z base 0 0 7 ts m (lap line c z (clear_acts line marks)) (lap line k n (mark_acts line a marks)) (lap line h n (check_acts line a marks)) (lap line q n (assign_acts line t a base))
  the_behind ts b =
      let small : (i : ℕ) (s : List ℤ) → In (i, s) ts → target i s < z = λ i s g. let x = left ℤ plan n ts b i s g in (good i s x.0 x.1).1 in
      (small, behind_fits line c k h q n marks z base t a plan value target ts m room (λ i s g. let x = left ℤ plan n ts b i s g in (good i s x.0 x.1).0) small (placed n plan target ts b))

  step : (r : Result (List (Row ℤ)) Failure) → whole plan.moves (rows_of plan n) ≡ r → Bridged ℤ plan.moves (rows_of plan n) r → Keyed plan (key (loop p) m chunk) r → Saves ℤ value target t a n m (after_phase (loop p) m chunk) r
      → FreeFrom chunk the_phases m × StepEnds line z base marks t a n plan value target m r (result the_phases m chunk)
  step (Err f) e b key_is saved =
      five_law ℤ p (lap line c z (clear_acts line marks)) (lap line k n (mark_acts line a marks)) (lap line h n (check_acts line a marks)) (lap line q n (assign_acts line t a base)) m n marks z base 0 0 7 plan value target t a w chunk is (Err f)
      (λ ts s. absurd (let y : zero ≡ suc zero = cc in omega (arith, y))) key_is saved b
  step (Ok ts) e b key_is saved =
      let x = five_law ℤ p (lap line c z (clear_acts line marks)) (lap line k n (mark_acts line a marks)) (lap line h n (check_acts line a marks)) (lap line q n (assign_acts line t a base)) m n marks z base 0 0 7 plan value target t a w chunk is (Ok ts)
      (λ us s. the_behind us (let same : ts ≡ us = cc in subst (AllMoved ℤ plan.moves (rows_of plan n)) same b)) key_is saved b in
      (x.0, ends n plan target ts b line z base marks t a value m (result the_phases m chunk) (first_repeat (targets_of target ts)) (repeated ℤ target [] ts 0 (left_ascend ℤ plan.moves (rows_of plan n) ts (rows_ascend ℤ plan.start 0 n) e)) x.1)

  pub saved_step : FreeFrom chunk the_phases m × StepEnds line z base marks t a n plan value target m (whole plan.moves (rows_of plan n)) (result the_phases m chunk)
  saved_step =
      let b = the_bridge ℤ plan p.acts m n w.fitting.small w.follows in
      step (whole plan.moves (rows_of plan n)) refl b (keyed_loop ℤ p.line p.label p.count p.acts m n chunk plan is w.fitting w.follows) (saving_leaves ℤ plan value target t a p.count p.acts m n w p.line p.label chunk is (whole plan.moves (rows_of plan n)) b)
