-- The sum of an address, taken in 64 bits.
use Rattle.std.proofs.Common.{◌≡◌, ℕ, zero, suc, ◌+◌, ◌<◌, List, [], ◌∷◌, length, drop, sym, ap, ◌∙◌, arith, slice_index_or, drop-cons, ℤ, pos, negsuc, ◌+ℤ◌, ◌*ℤ◌, FitsSigned}
use Rattle.std.specs.Int.{w64, int_wrap, cast_unsigned}
use Rattle.std.proofs.lemmas.Int.{int_wrap_fits, int_wrap-add_left, int_wrap-add_right, int_wrap-add_same, ints}
use Rattle.phase_ops.specs.declared.phase.Term.{Term}
use Rattle.phase_ops.specs.Phases.{Cells, source, source_cells, register, terms, term_cells, cell_of}
use Rattle.phase_ops.specs.Free.{In}
use Rattle.phase_ops.proofs.Members.{in_left, in_right}
use Rattle.act_eval.specs.Sites.{Small}

plus_assoc : (a b c : ℤ) → a +ℤ b +ℤ c ≡ a +ℤ (b +ℤ c)
plus_assoc a b c = omega (arith, ints)

plus_zero : (a : ℤ) → a +ℤ pos 0 ≡ a
plus_zero a = omega (arith, ints)

pub step_law : (sum p rest total : ℤ) → int_wrap w64 (sum +ℤ (p +ℤ rest)) ≡ total → int_wrap w64 (int_wrap w64 (sum +ℤ int_wrap w64 p) +ℤ rest) ≡ total
step_law sum p rest total h =
    int_wrap-add_left w64 (sum +ℤ int_wrap w64 p) rest
    ∙ int_wrap-add_same w64 (sum +ℤ int_wrap w64 p) (sum +ℤ p) rest (int_wrap-add_right w64 sum p)
    ∙ ap (λ (z : ℤ). int_wrap w64 z) (plus_assoc sum p rest) ∙ h

pub finish_law : (z sum : ℤ) → FitsSigned w64 sum → int_wrap w64 (sum +ℤ pos 0) ≡ int_wrap w64 z → Small (cell_of z) → cast_unsigned w64 sum ≡ cell_of z
finish_law (negsuc n) sum f h s = absurd (omega (arith, s))
finish_law (pos n) sum f h s =
    let e : sum ≡ pos n = sym (int_wrap_fits w64 sum f) ∙ ap (λ (z : ℤ). int_wrap w64 z) (sym (plus_zero sum)) ∙ h ∙ int_wrap_fits w64 (pos n) (record { sfits = s }) in ap (λ (z : ℤ). cast_unsigned w64 z) e

pub term_next : (m : Cells) (regs : List ℤ) (ts : List Term) (at : ℕ) (d : Term) → at < length ts → terms m regs (drop at ts) ≡ register regs (slice_index_or ts at d).reg *ℤ source m (slice_index_or ts at d).step +ℤ terms m regs (drop (at + 1) ts)
term_next m regs ts at d l = ap (λ (l : List Term). terms m regs l) (drop-cons ts at d l ∙ ap (λ (n : ℕ). slice_index_or ts at d ∷ drop n ts) (let e : suc at ≡ at + 1 = omega arith in e))

pub term_load : (c : ℕ) (ts : List Term) (at : ℕ) (d : Term) → at < length ts → In c (source_cells (slice_index_or ts at d).step) → In c (term_cells ts)
term_load c [] at d l h = absurd (omega arith)
term_load c (t ∷ ts) zero d l h = in_left c (source_cells t.step) (term_cells ts) h
term_load c (t ∷ ts) (suc at) d l h = in_right c (source_cells t.step) (term_cells ts) (term_load c ts at d (omega arith) h)
