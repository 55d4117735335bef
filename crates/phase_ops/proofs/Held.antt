-- A number that has the parts of a key of the phase is one of its keys.
use Rattle.std.proofs.Common.{◌≡◌, ◌⊎◌, inl, inr, ℕ, ◌/◌, ◌%◌, ◌<◌, sym, arith}
use mathlib.Core.Logic.{dite}
use native.Mathlib.Decide.{ℕ_discrete}
use Rattle.ws_base.specs.declared.fault.FaultName.{FaultName}
use Rattle.ws_base.specs.declared.fault.FaultName.TheVariants as fault
use Rattle.ws_base.specs.Words.{fault_number}
use Rattle.phase_ops.specs.declared.phase.Phase.{Phase}
use Rattle.phase_ops.specs.Phases.{Cells, key, none_yet}
use Rattle.phase_ops.specs.Free.{WellFormed, IsChunk}
use Rattle.phase_ops.specs.Laws.{element_of, NoneFails, IsFirstFault}
use Rattle.phase_ops.specs.Faults.{HasKey, HoldsKey}
use Rattle.phase_ops.proofs.Keys.{name_small, key_holds}

abbrev Numbered : ℕ → Type 0
Numbered n = (name : FaultName) × (fault_number name ≡ n)

-- each of these numbers is that of a fault
name_at : (n : ℕ) → 0 < n → n < 13 → Numbered n
name_at n some few =
    dite (ℕ_discrete n 1) (λ e. (fault.Bounds, sym e)) (λ b1.
    dite (ℕ_discrete n 2) (λ e. (fault.Shape, sym e)) (λ b2.
    dite (ℕ_discrete n 3) (λ e. (fault.Overflow, sym e)) (λ b3.
    dite (ℕ_discrete n 4) (λ e. (fault.DivideByZero, sym e)) (λ b4.
    dite (ℕ_discrete n 5) (λ e. (fault.ZeroStride, sym e)) (λ b5.
    dite (ℕ_discrete n 6) (λ e. (fault.ManyOne, sym e)) (λ b6.
    dite (ℕ_discrete n 7) (λ e. (fault.Unallocated, sym e)) (λ b7.
    dite (ℕ_discrete n 8) (λ e. (fault.Allocated, sym e)) (λ b8.
    dite (ℕ_discrete n 9) (λ e. (fault.TooLarge, sym e)) (λ b9.
    dite (ℕ_discrete n 10) (λ e. (fault.DataEnd, sym e)) (λ b10.
    dite (ℕ_discrete n 11) (λ e. (fault.DataBad, sym e)) (λ b11.
    (fault.Steps, omega (arith, some, few, b1, b2, b3, b4, b5, b6, b7, b8, b9, b10, b11)))))))))))))

pub key_held : (p : Phase) (key : ℕ) → HoldsKey p key → HasKey p key
key_held p key h =
    let name = name_at (key % 16) h.named h.is_name in let e = name.1 in (
      key / 17592186044416,
      key / 16777216 % 1048576,
      key / 16 % 1048576,
      name.0,
      record {
        act_in = h.act_in;
        op_in = omega arith;
        element_in = omega arith;
        key_is = omega (arith, e);
      },
    )

pub holds_key : (p : Phase) (key : ℕ) → HasKey p key → HoldsKey p key
holds_key p key (act, op, element, name, is) =
    let k = is.key_is in let a = is.act_in in let o = is.op_in in let e = is.element_in in let n = name_small name in
    let some = n.0 in let few = n.1 in record { act_in = omega (arith, k, a, o, e, few); named = omega (arith, k, some, few); is_name = omega (arith, k, some, few) }

-- the key of a phase that fails is one of its keys
pub has_key : (p : Phase) (m : Cells) (chunk : ℕ) → IsChunk chunk → WellFormed p m chunk → key p m chunk < none_yet → HasKey p (key p m chunk)
has_key p m chunk is well some = by (key_holds p m chunk is well)
  where
    by : ((key p m chunk ≡ none_yet) × NoneFails p m chunk) ⊎ ((key p m chunk < none_yet) × IsFirstFault p m chunk (key p m chunk)) → HasKey p (key p m chunk)
    by (inl h) = let e = h.0 in absurd (omega (arith, e, some))
    by (inr h) = let f = h.1 in (f.act, f.op, element_of p f.act f.iteration, f.name, f.is_key)
