-- What it says of a type that no rule on it is broken.
use Rattle.std.proofs.Common.{◌≡◌, refl, ℕ, Bool, true, false, nat_lt, [], Some, arith, true≢false, sym}
use Rattle.ws_base.specs.declared.refusal.RefusalKind.TheVariants as kind
use Rattle.ws_types.specs.declared.types.Typed.{Typed}
use Rattle.ws_types.specs.Operations.{same_truth, is_other_type, is_above, scalar_faults}
use Rattle.ws_types.specs.Expressions.{wide_faults}
use Rattle.ws_sema.proofs.NoFaults.{not_false, none_first, none_after, not_broken, impossible}
use Rattle.hlfir_ops.specs.declared.kinds.Elem.{Elem}
use Rattle.hlfir_ops.specs.declared.kinds.Elem.TheVariants.{I32, I1}
use Rattle.hlfir_ops.specs.RulesValues.{same_elem}

same_truths : (b c : Bool) → same_truth b c ≡ true → c ≡ b
same_truths true c h = h
same_truths false true h = absurd (true≢false (sym h))
same_truths false false h = refl

pub not_other : (truth : Bool) (ty : Typed) → is_other_type truth (Some ty) ≡ false → ty.truth ≡ truth
not_other truth ty h = same_truths truth ty.truth (not_false _ h)

pub not_above : (n : ℕ) → nat_lt 0 n ≡ false → n ≡ 0
not_above n h = grind (arith, h)

pub no_rank : (ty : Typed) → is_above 0 (Some ty) ≡ false → ty.rank ≡ 0
no_rank ty h = not_above ty.rank h

-- an INTEGER scalar
pub scalar_says : (line : ℕ) (ty : Typed) → scalar_faults line (Some ty) ≡ [] → (ty.truth ≡ false) × (ty.rank ≡ 0)
unfolding scalar_faults
scalar_says line ty f = (not_other false ty (not_broken _ _ _ (none_first _ _ f)), no_rank ty (not_broken _ _ _ (none_after _ _ f)))

pub same_elem-same : (e : Elem) → same_elem e e ≡ true
same_elem-same I32 = refl
same_elem-same I1 = refl

-- a number that is too wide is refused
pub no_wide : {P : Type 0} (line : ℕ) → wide_faults line ≡ [] → P
unfolding wide_faults
no_wide line f = impossible line kind.OverLimit f
