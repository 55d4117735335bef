-- A walk past a section or a constructor leaves a value that a designator may take, whatever its parts are.
use Rattle.std.proofs.Common.{◌≡◌, ℕ, ◌≤◌, ◌==◌, Bool, true, false, nat_lt, if◌then◌else◌, List, [], ◌∷◌, length, All, Ok, IfOk, arith}
use Rattle.std.specs.Prelude.{◌⊎◌}
use Rattle.std.proofs.lemmas.List.Elements.{All-nil, All-cons}
use Rattle.ws_base.specs.declared.fault.FaultName.TheVariants.{TooLarge}
use Rattle.ws_base.specs.Outcomes.{Staged, trouble, ◌>>=◌}
use Rattle.ws_space.specs.declared.shape.TheConstants.{ELEMENT_LIMIT}
use Rattle.ws_space.specs.declared.shape.Dim.{Dim}
use Rattle.ws_space.specs.Shapes.{Extents, dims, size}
use Rattle.ws_space.specs.Sections.{limited, checked_subscript, checked_triplet}
use Rattle.array_meaning.proofs.Chains.{after_each, after_fact}
use Rattle.hlfir_ops.specs.declared.kinds.ValueKind.{ValueKind}
use Rattle.hlfir_ops.specs.RulesValues.{rank_of}
use Rattle.hlfir_meaning.specs.Environments.{Selection, complete, one, range, listed, through, Value, part, variable_in, state_in}
use Rattle.hlfir_meaning.specs.References.{allocated}
use Rattle.hlfir_meaning.specs.Selections.{array_operand, extents, checked}
use Rattle.hlfir_meaning.specs.Stage1.{designator}
use Rattle.hlfir_meaning.specs.Stage2.{operands}
use Rattle.part_laws.specs.Parts.{IsHeld, IsOfRankOne}

-- ---- what a designator leaves

-- a value that a designator may take, of one dimension if this is no more than 1
pub record IsVectorOf (rank : ℕ) (v : Value) : Type 0 where
  pub held : IsHeld v
  pub dimension : rank ≤ 1 → All IsOfRankOne (operands v)

one_or_none : (e : Extents) → length e ≤ 1 → All IsOfRankOne (array_operand e)
one_or_none [] h = All-nil IsOfRankOne
one_or_none (n ∷ []) h = All-cons IsOfRankOne (n ∷ []) [] tt (All-nil IsOfRankOne)
one_or_none (n ∷ m ∷ ms) h = absurd (omega (arith, h))

limited_keeps : {A : Type 0} (P : A → Type 0) (e : Extents) (x : A) → P x → IfOk (limited e x) P
limited_keeps P e x h = by_limit (nat_lt ELEMENT_LIMIT (size e))
  where
    by_limit : (b : Bool) → IfOk (let r : Staged _ = if b then trouble TooLarge else Ok x in r) P
    by_limit true = tt
    by_limit false = h

-- no more dimensions than before
abbrev Shorter : Selection → Selection → Type 0
Shorter s t = length (extents t) ≤ length (extents s)

checked_shorter : (ds : List Dim) (s : Selection) → IfOk (checked ds s) (Shorter s)
checked_shorter [] complete = omega arith
checked_shorter [] (one i s) = omega arith
checked_shorter [] (range t s) = omega arith
checked_shorter [] (listed n xs s) = omega arith
checked_shorter [] (through a inner s) = omega arith
checked_shorter (d ∷ ds) complete = omega arith
checked_shorter (d ∷ ds) (one i s) = after_each (Shorter (one i s)) (checked_subscript d i) (λ j. checked ds s >>= (λ rest. Ok (one j rest)))
    (λ j. after_fact (Shorter s) (Shorter (one i s)) (checked ds s) (λ rest. Ok (one j rest)) (checked_shorter ds s) (λ rest h. h))
checked_shorter (d ∷ ds) (range t s) = after_each (Shorter (range t s)) (checked_triplet d t) (λ u. checked ds s >>= (λ rest. Ok (range u rest)))
    (λ u. after_fact (Shorter s) (Shorter (range t s)) (checked ds s) (λ rest. Ok (range u rest)) (checked_shorter ds s) (λ rest h. omega (arith, h)))
checked_shorter (d ∷ ds) (listed n xs s) = after_fact (Shorter s) (Shorter (listed n xs s)) (checked ds s) (λ rest. Ok (listed n xs rest)) (checked_shorter ds s) (λ rest h. omega (arith, h))
checked_shorter (d ∷ ds) (through a inner s) = after_fact (Shorter s) (Shorter (through a inner s)) (checked ds s) (λ rest. Ok (through a inner rest)) (checked_shorter ds s) (λ rest h. omega (arith, h))

pub designator-vector : (r : Value) (s : Selection) → IfOk (designator r s) (IsVectorOf (length (extents s)))
designator-vector r s = after_each (IsVectorOf (length (extents s))) (allocated (state_in r)) (λ a. checked (dims a.shape) s >>= (λ t. limited (extents t) (part (variable_in r) a t)))
    (λ a. after_fact (Shorter s) (IsVectorOf (length (extents s))) (checked (dims a.shape) s) (λ t. limited (extents t) (part (variable_in r) a t)) (checked_shorter (dims a.shape) s)
    (λ t h. limited_keeps (IsVectorOf (length (extents s))) (extents t) (part (variable_in r) a t)
    (record { held = tt; dimension = λ few. one_or_none (extents t) (omega (arith, few, h)) })))

-- ---- by the kind of the operand

-- a scalar, or a value that a designator may take
abbrev pub IsFound : ValueKind → Value → Type 0
IsFound k v = ((rank_of k == 0) ≡ true) ⊎ IsVectorOf (rank_of k) v
