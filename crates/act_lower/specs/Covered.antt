-- The ops that are compiled here.
use Rattle.std.specs.Prelude.{◌≡◌, ℕ, suc, ◌+◌, Bool, true, false, List, [], ◌∷◌, ◌++◌}
use Rattle.phase_ops.specs.Free.{In}
use Rattle.hlfir_ops.specs.declared.what.What.{What}
use Rattle.hlfir_ops.specs.declared.what.What.TheVariants as what
use Rattle.hlfir_ops.specs.declared.op.ValueId.{ValueId}
use Rattle.hlfir_ops.specs.declared.op.Op.{Op, out-Op}
use Rattle.hlfir_ops.specs.Numbers.{op_numbers}
use Rattle.hlfir_meaning.specs.Order.{ends}
use Rattle.act_laws.specs.declared.seat.Seated.{Seated}
use Rattle.act_lower.specs.Code.{Todo, elements, body, Task}

-- Each op's operands are among the values that are known by their numbers.
abbrev pub IsCovered : List ℕ → What → List ValueId → Type 0
IsCovered known (what.Constant c) os = Unit {0}
IsCovered known what.Apply (a ∷ []) = In a.number known
IsCovered known (what.Unary o) (a ∷ []) = In a.number known
IsCovered known (what.Binary o) (a ∷ b ∷ []) = In a.number known × In b.number known
IsCovered known what.Select (m ∷ t ∷ f ∷ []) = In m.number known × In t.number known × In f.number known
IsCovered known w os = ⊥

abbrev pub IsYield : List ℕ → List ValueId → Type 0
IsYield known (a ∷ []) = In a.number known
IsYield known os = ⊥

abbrev pub Either : Bool → Type 0 → Type 0 → Type 0
Either true X Y = X
Either false X Y = Y

-- ops that are covered, and a yield
abbrev pub IsBody : List ℕ → ℕ → List Op → Type 0
IsBody known n [] = ⊥
IsBody known n (op ∷ ops) =
    Either (ends (out-Op op).what) (IsYield known (out-Op op).operands) (IsCovered known (out-Op op).what (out-Op op).operands × IsBody (n ∷ known) (op_numbers op + n) ops)

abbrev pub IsTodo : List ℕ → ℕ → Todo → Type 0
IsTodo known n (elements first ds ps) = Unit {0}
IsTodo known n (body ops) = IsBody known (suc n) ops

abbrev pub AreCovered : List ℕ → List Task → Type 0
AreCovered known [] = Unit {0}
AreCovered known (t ∷ ts) = IsTodo known t.number t.todo × AreCovered (t.number ∷ known) ts

-- all that are known in the end
abbrev pub known_after : List ℕ → List Task → List ℕ
known_after known [] = known
known_after known (t ∷ ts) = known_after (t.number ∷ known) ts

-- Each op that is no yield gives one value, and has none inside it.
abbrev pub HaveOneNumber : List Op → Type 0
HaveOneNumber [] = Unit {0}
HaveOneNumber (op ∷ ops) = (op_numbers op ≡ 1) × HaveOneNumber ops

-- the second list begins with the first one
abbrev pub IsFront : List Seated → List Seated → Type 0
IsFront xs ys = (more : List Seated) × (ys ≡ xs ++ more)
