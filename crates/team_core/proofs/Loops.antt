-- The units of a loop do what its strands do, in order, whatever the chunk.
use Rattle.std.proofs.Common.{◌≡◌, ◌⊎◌, inl, inr, ℕ, zero, suc, ◌+◌, ◌-◌, ◌*◌, ◌<◌, ◌≤◌, min, List, [], ◌∷◌, ◌++◌, sym, ap, ◌∙◌, subst, arith, pos, length, true}
use Rattle.std.proofs.Math.Nat.{lt-div-mul-add, div-mul-le_self, suc-mul}
use Rattle.phase_ops.specs.declared.effect.Effect.{Effect}
use Rattle.phase_ops.specs.declared.phase.Source.{Source}
use Rattle.phase_ops.specs.declared.phase.Source.TheVariants.{Fixed}
use Rattle.phase_ops.specs.declared.phase.Act.{Act}
use Rattle.phase_ops.specs.declared.phase.Label.{Label}
use Rattle.phase_ops.specs.declared.phase.Phase.{Phase}
use Rattle.phase_ops.specs.declared.phase.Phase.TheVariants.{Loop}
use Rattle.phase_ops.specs.Phases.{Cells, each_from, pieces, unit_size, lay, least_key, none_yet, key, strand_effects, after_phase}
use Rattle.phase_ops.specs.Free.{Free, FreeFrom, IsChunk}
use Rattle.phase_ops.proofs.Courses.{each_snoc}
use Rattle.act_eval.proofs.Fitting.{each_split}

abbrev in_unit : (ℕ → List Effect) → ℕ → ℕ → ℕ → List Effect
in_unit f n chunk u = each_from f (u * chunk) (unit_size n chunk u)

in_units : (f : ℕ → List Effect) (n chunk k : ℕ) → 0 < chunk → (k ≡ 0) ⊎ (k * chunk < n + chunk) → each_from (in_unit f n chunk) 0 k ≡ each_from f 0 (min n (k * chunk))
in_units f n chunk zero c h = ap (λ (x : ℕ). each_from f 0 x) (let e : 0 ≡ min n (0 * chunk) = omega arith in e)
in_units f n chunk (suc k) c (inl e) = absurd (omega (arith, e))
in_units f n chunk (suc k) c (inr h) =
    let z = suc-mul k chunk in
    let low : k * chunk < n = omega (arith, h, z) in
    let before = in_units f n chunk k c (inr (omega (arith, low, c))) in
    let a : min n (k * chunk) ≡ k * chunk = omega (arith, low) in
    let start : 0 + k ≡ k = omega arith in
    let all : k * chunk + unit_size n chunk k ≡ min n (suc k * chunk) = omega (arith, low, z) in
    each_snoc (in_unit f n chunk) 0 k
    ∙ (λ i. (before ∙ ap (λ (x : ℕ). each_from f 0 x) a) i ++ in_unit f n chunk (start i))
    ∙ ap (λ (x : ℕ). each_from f 0 (k * chunk) ++ each_from f x (unit_size n chunk k)) (let e : k * chunk ≡ 0 + k * chunk = omega arith in e)
    ∙ sym (each_split f 0 (k * chunk) (unit_size n chunk k)) ∙ ap (λ (x : ℕ). each_from f 0 x) all

loop_whole : (f : ℕ → List Effect) (n chunk : ℕ) → 0 < chunk → each_from (in_unit f n chunk) 0 (pieces n chunk) ≡ each_from f 0 n
loop_whole f n chunk c =
    let most = div-mul-le_self (n + (chunk - 1)) chunk in
    let all = lt-div-mul-add {a = n + (chunk - 1)} {b = chunk} c in
    in_units f n chunk (pieces n chunk) c (inr (omega (arith, most, c))) ∙ ap (λ (x : ℕ). each_from f 0 x) (let e : min n (pieces n chunk * chunk) ≡ n = omega (arith, all, c) in e)

-- a loop over n elements that is free of races, and what comes after it
module _ (l : ℕ) (b : Label) (n : ℕ) (acts : List Act) (m m' : Cells) (chunk : ℕ) (is : IsChunk chunk) where
  abbrev all : List Effect
  all = each_from (strand_effects (Loop l b (Fixed (pos n)) acts) m chunk) 0 n

  pub then : (ps : List Phase) → Free (Loop l b (Fixed (pos n)) acts) m → lay m all ≡ m' → (least_key all ≡ none_yet → FreeFrom chunk ps m') → FreeFrom chunk (Loop l b (Fixed (pos n)) acts ∷ ps) m
  then ps free left more =
      let whole = loop_whole (strand_effects (Loop l b (Fixed (pos n)) acts) m chunk) n chunk is.0 in
      let after : after_phase (Loop l b (Fixed (pos n)) acts) m chunk ≡ m' = ap (λ (es : List Effect). lay m es) whole ∙ left in
      let same : key (Loop l b (Fixed (pos n)) acts) m chunk ≡ least_key all = ap (λ (es : List Effect). least_key es) whole in
      (free, λ none. subst (λ (c : Cells). FreeFrom chunk ps c) (sym after) (more (sym same ∙ none)))
