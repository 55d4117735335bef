-- Acts, counts and cells of the phases that a team runs.
use Rattle.std.proofs.Common.{◌≡◌, inl, inr, ℕ, zero, suc, ◌<◌, ◌≤◌, List, [], ◌∷◌, length, get_or, sym, refl, ap, ◌∙◌, subst, arith, ℤ, pos, ◌≤ℤ◌}
use Rattle.phase_ops.specs.declared.phase.Source.{Source}
use Rattle.phase_ops.specs.declared.phase.Act.{Act}
use Rattle.phase_ops.specs.declared.phase.Phase.{Phase}
use Rattle.phase_ops.specs.Phases.{Cells, source, source_cells, parameter, after, after_phase, phase_effects}
use Rattle.phase_ops.specs.Free.{In, count_value}
use Rattle.phase_ops.specs.Faults.{no_act}
use Rattle.phase_ops.specs.Course.{course, memory_after}
use Rattle.phase_ops.proofs.Courses.{memory_is}
use Rattle.phase_ops.proofs.Strands.{lay_length}
use Rattle.team_core.specs.Units.{HasNumber, HasCount}

pub all_short : (acts : List Act) (most : ℕ) → ((k : ℕ) → k < length acts → length (get_or acts k no_act).ops ≤ most) → (a : Act) → In a acts → length a.ops ≤ most
all_short [] most h a i = elim i [ ]
all_short (b ∷ more) most h a (inl e) = subst (λ (x : Act). length x.ops ≤ most) (sym e) (h 0 (omega arith))
all_short (b ∷ more) most h a (inr i) = all_short more most (λ k l. h (suc k) (omega (arith, l))) a i

pub number_of : (p : Phase) (m : Cells) (count : Source) → parameter p ≡ source_cells count → count_value p m ≡ source m count → HasCount p m → HasNumber m count
number_of p m count e v h = record {
  there = λ c i. h.there c (subst (λ (l : List ℕ). In c l) (sym e) i);
  low = subst (λ (z : ℤ). pos 0 ≤ℤ z) v h.low;
  high = subst (λ (z : ℤ). z ≤ℤ pos 65536) v h.high;
}

after_long : (ps : List Phase) (m : Cells) (chunk t : ℕ) → length (after ps m chunk t) ≡ length m
after_long ps m chunk zero = refl
after_long [] m chunk (suc t) = refl
after_long (p ∷ ps) m chunk (suc t) = after_long ps (after_phase p m chunk) chunk t ∙ lay_length m (phase_effects p m chunk)

pub memory_long : (ps : List Phase) (m : Cells) (chunk team t : ℕ) → t ≤ length ps → length (memory_after (course ps m chunk team) t) ≡ length m
memory_long ps m chunk team t h = ap length (memory_is ps m chunk team t h) ∙ after_long ps m chunk t

-- where there is an element, the default does not matter
pub any_default : {A : Type 0} (xs : List A) (i : ℕ) (d e : A) → i < length xs → get_or xs i d ≡ get_or xs i e
any_default [] i d e h = absurd (omega (arith, h))
any_default (x ∷ xs) zero d e h = refl
any_default (x ∷ xs) (suc i) d e h = any_default xs i d e (omega (arith, h))
