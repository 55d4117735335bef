-- The units of a loop, joined, are its iterations in order.
use Rattle.std.proofs.Common.{◌≡◌, ℕ, zero, suc, ◌+◌, ◌-◌, ◌*◌, ◌<◌, ◌≤◌, min, List, ◌++◌, sym, ap, ◌∙◌, subst, arith, ℤ, pos}
use mathlib.Core.Logic.{dite}
use native.Mathlib.Decide.{dec_le}
use Rattle.std.proofs.Math.Nat.{suc-mul, lt-div-mul-add}
use Rattle.std.proofs.lemmas.List.{append_assoc, append-nil}
use Rattle.std.proofs.lemmas.Int.{ints}
use Rattle.std.specs.Prelude.{◌≤ℤ◌}
use Rattle.phase_ops.specs.declared.phase.Source.{Source}
use Rattle.phase_ops.specs.declared.phase.Act.{Act}
use Rattle.phase_ops.specs.declared.phase.Label.{Label}
use Rattle.phase_ops.specs.declared.phase.Phase.TheVariants.{Loop}
use Rattle.phase_ops.specs.Phases.{Cells, source, natural, each_from, pieces, unit_size, phase_effects}
use Rattle.phase_ops.specs.Free.{IsChunk, Free}
use Rattle.act_eval.proofs.Fitting.{each_split}
use Rattle.loop_laws.specs.Loops.{does, Fitting, Alone}

pub each_last : {A : Type 0} (f : ℕ → List A) (from n : ℕ) → each_from f from (suc n) ≡ each_from f from n ++ f (from + n)
each_last f from zero = append-nil (f from) ∙ ap f (let e : from ≡ from + zero = omega arith in e)
each_last f from (suc n) = ap (λ (l : List _). f from ++ l) (each_last f (suc from) n) ∙ sym (append_assoc (f from) (each_from f (suc from) n) (f (suc from + n)))
    ∙ ap (λ (k : ℕ). (f from ++ each_from f (suc from) n) ++ f k) (let e : suc from + n ≡ from + suc n = omega arith in e)

module _ {A : Type 0} (f : ℕ → List A) (n chunk : ℕ) where
  abbrev unit_of : ℕ → List A
  unit_of u = each_from f (u * chunk) (unit_size n chunk u)

  units_join : (k : ℕ) → each_from unit_of 0 k ≡ each_from f 0 (min n (k * chunk))
  units_join zero = ap (λ (z : ℕ). each_from f 0 z) (let e : 0 ≡ min n (zero * chunk) = omega arith in e)
  units_join (suc k) = each_last unit_of 0 k ∙ ap (λ (z : ℕ). each_from unit_of 0 k ++ unit_of z) (let e : 0 + k ≡ k = omega arith in e) ∙ ap (λ (l : List A). l ++ unit_of k) (units_join k) ∙ rest
    where
      s : suc k * chunk ≡ k * chunk + chunk
      s = suc-mul k chunk

      rest : each_from f 0 (min n (k * chunk)) ++ unit_of k ≡ each_from f 0 (min n (suc k * chunk))
      rest = dite (dec_le n (k * chunk))
          (λ big. ap (λ (z : ℕ). each_from f 0 (min n (k * chunk)) ++ each_from f (k * chunk) z) (let e : unit_size n chunk k ≡ 0 = omega (arith, big) in e)
          ∙ append-nil (each_from f 0 (min n (k * chunk)))
          ∙ ap (λ (z : ℕ). each_from f 0 z) (let e : min n (k * chunk) ≡ min n (suc k * chunk) = omega (arith, big, s) in e))
          (λ small. ap (λ (z : ℕ). each_from f 0 z ++ each_from f (k * chunk) (unit_size n chunk k)) (let e : min n (k * chunk) ≡ k * chunk = omega (arith, small) in e)
          ∙ ap (λ (z : ℕ). each_from f 0 (k * chunk) ++ each_from f z (unit_size n chunk k)) (let e : k * chunk ≡ 0 + k * chunk = omega arith in e)
          ∙ sym (each_split f 0 (k * chunk) (unit_size n chunk k))
          ∙ ap (λ (z : ℕ). each_from f 0 z) (let e : k * chunk + unit_size n chunk k ≡ min n (suc k * chunk) = omega (arith, small, s) in e))

  enough : 0 < chunk → n ≤ pieces n chunk * chunk
  enough c = let t = lt-div-mul-add {a = n + (chunk - 1)} {b = chunk} c in omega (arith, c, t)

  pub all_units : 0 < chunk → each_from unit_of 0 (pieces n chunk) ≡ each_from f 0 n
  all_units c = units_join (pieces n chunk) ∙ ap (λ (z : ℕ). each_from f 0 z) (let e = enough c in let g : min n (pieces n chunk * chunk) ≡ n = omega (arith, e) in g)

module _ (l : ℕ) (b : Label) (count : Source) (acts : List Act) (m : Cells) (n : ℕ) (fit : Fitting count acts m n) where
  counted : natural (source m count) ≡ n
  counted = ap natural fit.count_is

  pub chunked : (chunk : ℕ) → IsChunk chunk → phase_effects (Loop l b count acts) m chunk ≡ each_from (does acts m) 0 n
  chunked chunk is = ap (λ (k : ℕ). each_from (λ u. each_from (does acts m) (u * chunk) (unit_size k chunk u)) 0 (pieces k chunk)) counted ∙ all_units (does acts m) n chunk is.0

  pub free_loop : Alone count acts m n → Free (Loop l b count acts) m
  free_loop a = λ chunk is. (
    record {
      stores = λ s t c hs ht. a.stores s t c (below s hs) (below t ht);
      loads_apart = λ s t c hs ht. a.unread s t c (below s hs) (below t ht);
      leasts = λ s t c hs ht. a.leasts s t c (below s hs) (below t ht);
      parameter_apart = λ s c hs. a.not_count s c (below s hs);
    },
    record {
      count = (subst (λ (z : ℤ). pos 0 ≤ℤ z) (sym fit.count_is) (grind (arith, ints)), subst (λ (z : ℤ). z ≤ℤ pos 65536) (sym fit.count_is) (let h = fit.small in grind (arith, ints)));
      few_acts = fit.few_acts;
      few_ops = fit.few_ops;
      positive = λ s z hs. fit.positive s z (below s hs);
      reduction = tt;
      there = fit.count_there;
      loaded = λ s c hs. fit.loaded s c (below s hs);
      laid = λ s c hs. a.there s c (below s hs);
    },
  )
    where
      below : (s : ℕ) → s < natural (source m count) → s < n
      below s h = let e = counted in omega (arith, h, e)
