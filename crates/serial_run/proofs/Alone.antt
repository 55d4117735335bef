-- All iterations are one unit, so that a Join merges at most one partial, which fits a word.
use Rattle.std.specs.Prelude.{IsTrue}
use Rattle.std.proofs.Common.{◌≡◌, ℕ, zero, suc, ◌+◌, ◌-◌, ◌≤◌, [], ◌∷◌, map, ℤ, pos, ◌+ℤ◌, FitsSigned, sym, refl, subst, arith}
use Rattle.std.specs.Int.{w64}
use Rattle.std.proofs.lemmas.Int.{ints}
use Rattle.std.proofs.Math.Nat.{div-mul-le_self}
use borrow.Author.Gap.{read_sfits}
use Rattle.ws_base.specs.Numbers.{default_half}
use Rattle.ws_base.specs.declared.op.CallWord.{CallWord}
use Rattle.ws_base.specs.declared.op.CallWord.TheVariants as word
use Rattle.phase_ops.specs.declared.phase.Phase.{Phase}
use Rattle.phase_ops.specs.declared.phase.Phase.TheVariants.{Set, Loop, Part, Join}
use Rattle.phase_ops.specs.Partials.{adds, merged}
use Rattle.phase_ops.specs.Phases.{Cells, cell_value, natural, pieces, partial_cells, source}
use Rattle.phase_ops.specs.Free.{WellFormed}
use Rattle.act_eval.specs.Strands.{PartialsFit}
use Rattle.act_eval.proofs.Joining.{natural_few}

plus_zero : (z : ℤ) → z +ℤ pos 0 ≡ z
plus_zero z = omega (arith, ints)

none_added : (k : CallWord) → IsTrue (adds k) → merged default_half k [] ≡ pos 0
none_added word.Sum a = refl
none_added word.Count a = refl
none_added _ a = cc

one_added : (k : CallWord) → IsTrue (adds k) → (z : ℤ) → merged default_half k (z ∷ []) ≡ z
one_added word.Sum a z = plus_zero z
one_added word.Count a z = plus_zero z
one_added _ a z = cc

-- the partial in a cell is a word
alone_fits : (k : CallWord) → IsTrue (adds k) → (m : Cells) (first j : ℕ) → j ≤ 1 → FitsSigned w64 (merged default_half k (map (cell_value m) (partial_cells first j)))
alone_fits k a m first zero h = subst (λ (z : ℤ). FitsSigned w64 z) (sym (none_added k a)) (record { sfits = omega arith })
alone_fits k a m first (suc zero) h = subst (λ (z : ℤ). FitsSigned w64 z) (sym (one_added k a (cell_value m first))) (read_sfits w64 _)
alone_fits k a m first (suc (suc j)) h = absurd (omega (arith, h))

one_piece : (n : ℕ) → n ≤ 65536 → pieces n 65536 ≤ 1
one_piece n h = let d = div-mul-le_self (n + (65536 - 1)) 65536 in omega (arith, h, d)

pub partials_alone : (p : Phase) (m : Cells) → WellFormed p m 65536 → PartialsFit p m 65536
partials_alone (Set l b acts) m w = tt
partials_alone (Loop l b count acts) m w = tt
partials_alone (Part l count act k t f) m w = tt
partials_alone (Join l count k t f slot) m w = λ a j h.
    let one = one_piece (natural (source m count)) (natural_few (source m count) w.count.1) in
    alone_fits k a m (f + (pieces (natural (source m count)) 65536 - j)) j (omega (arith, h, one))
