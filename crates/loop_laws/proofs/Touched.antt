-- What effects of iterations leave in one cell.
use Rattle.std.proofs.Common.{◌≡◌, ◌⊎◌, inl, inr, ℕ, suc, ◌+◌, ◌-◌, ◌<◌, ◌≤◌, List, [], ◌∷◌, ◌++◌, length, sym, ap, ◌∙◌, arith, slice_index}
use Rattle.phase_ops.specs.declared.effect.Effect.{Effect}
use Rattle.phase_ops.specs.declared.phase.Source.{Source}
use Rattle.phase_ops.specs.declared.phase.Act.{Act}
use Rattle.phase_ops.specs.declared.phase.Label.{Label}
use Rattle.phase_ops.specs.declared.phase.Phase.TheVariants.{Loop}
use Rattle.phase_ops.specs.Phases.{Cells, each_from, lay, over, phase_effects, after_phase}
use Rattle.phase_ops.specs.Free.{In, stored, lessened, IsChunk}
use Rattle.phase_ops.proofs.Frame.{over_length, over_both}
use Rattle.phase_ops.proofs.Strands.{lay_length, lay_quiet, from_stored, from_lessened}
use Rattle.loop_laws.specs.Loops.{Touched, does, Fitting, Inside}
use Rattle.act_eval.proofs.Leads.{lay_append}
use Rattle.act_eval.proofs.Fitting.{each_split}
use Rattle.loop_laws.proofs.Units.{chunked}

pub lay_both_ways : (es : List Effect) (xs ys : Cells) (c : ℕ) → length xs ≡ length ys → slice_index xs c ≡ slice_index ys c → slice_index (lay xs es) c ≡ slice_index (lay ys es) c
lay_both_ways [] xs ys c n s = s
lay_both_ways (e ∷ es) xs ys c n s = lay_both_ways es (over e xs) (over e ys) c (over_length e xs ∙ n ∙ sym (over_length e ys)) (over_both e xs ys c n s)

module _ (f : ℕ → List Effect) where
  pub none_touches : (m : Cells) (from n c : ℕ) → ((i : ℕ) → from ≤ i → i < from + n → In c (stored (f i)) ⊎ In c (lessened (f i)) → ⊥) → slice_index (lay m (each_from f from n)) c ≡ slice_index m c
  none_touches m from n c never = lay_quiet m (each_from f from n) c (λ h. pick h)
    where
      pick : In c (stored (each_from f from n)) ⊎ In c (lessened (each_from f from n)) → ⊥
      pick (inl h) = let x = from_stored c f from n h in never x.0 x.1 x.2 (inl x.3)
      pick (inr h) = let x = from_lessened c f from n h in never x.0 x.1 x.2 (inr x.3)

  pub split_at : (n i : ℕ) → i < n → each_from f 0 n ≡ each_from f 0 i ++ (f i ++ each_from f (suc i) (n - suc i))
  split_at n i l =
      ap (λ (z : ℕ). each_from f 0 z) (let e : n ≡ i + suc (n - suc i) = omega (arith, l) in e)
      ∙ each_split f 0 i (suc (n - suc i))
      ∙ ap (λ (z : ℕ). each_from f 0 i ++ (f z ++ each_from f (suc z) (n - suc i))) (let e : 0 + i ≡ i = omega arith in e)

  pub one_touches : (m : Cells) (n i c : ℕ) → i < n → ((j : ℕ) → j < n → In c (stored (f j)) ⊎ In c (lessened (f j)) → j ≡ i) → slice_index (lay m (each_from f 0 n)) c ≡ slice_index (lay m (f i)) c
  one_touches m n i c l only =
      ap (λ (es : List Effect). slice_index (lay m es) c) (split_at n i l)
      ∙ ap (λ (z : Cells). slice_index z c) (lay_append m (each_from f 0 i) (f i ++ each_from f (suc i) (n - suc i)) ∙ lay_append (lay m (each_from f 0 i)) (f i) (each_from f (suc i) (n - suc i)))
      ∙ none_touches (lay (lay m (each_from f 0 i)) (f i)) (suc i) (n - suc i) c (λ j a b h. let e = only j (omega (arith, a, b, l)) h in absurd (omega (arith, e, a)))
      ∙ lay_both_ways (f i) (lay m (each_from f 0 i)) m c (lay_length m (each_from f 0 i)) (none_touches m 0 i c (λ j a b h. let e = only j (omega (arith, b, l)) h in absurd (omega (arith, e, b))))

module _ (l : ℕ) (b : Label) (count : Source) (acts : List Act) (m : Cells) (n chunk : ℕ) (is : IsChunk chunk) (fit : Fitting count acts m n) where
  pub all_there : after_phase (Loop l b count acts) m chunk ≡ lay m (each_from (does acts m) 0 n)
  all_there = ap (λ (es : List Effect). lay m es) (chunked l b count acts m n fit chunk is)

  pub same_length : length (after_phase (Loop l b count acts) m chunk) ≡ length m
  same_length = lay_length m (phase_effects (Loop l b count acts) m chunk)

  pub by_one : (i c : ℕ) → i < n → ((j : ℕ) → j < n → In c (stored (does acts m j)) ⊎ In c (lessened (does acts m j)) → j ≡ i) → slice_index (after_phase (Loop l b count acts) m chunk) c ≡ slice_index (lay m (does acts m i)) c
  by_one i c h only = ap (λ (z : Cells). slice_index z c) all_there ∙ one_touches (does acts m) m n i c h only

  pub by_none : (c : ℕ) → (Touched (does acts m) n c → ⊥) → slice_index (after_phase (Loop l b count acts) m chunk) c ≡ slice_index m c
  by_none c never = ap (λ (z : Cells). slice_index z c) all_there ∙ none_touches (does acts m) m 0 n c (λ i x y h. never (i, omega (arith, y), h))

-- ---- what effects touch, and cells of a range

abbrev pub Touches : ℕ → List Effect → Type 0
Touches c es = In c (stored es) ⊎ In c (lessened es)

pub inside_at : (from n i c : ℕ) → i < n → c ≡ from + i → Inside from n c
inside_at from n i c l e = (omega (arith, e), omega (arith, l, e))
