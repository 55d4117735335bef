-- Lowerings: what ops a part of a source becomes, and what stands for it then.
use Rattle.std.specs.Prelude.{◌≡◌, ⊤, ℕ, suc, ◌+◌, List, [], ◌∷◌, ◌++◌, length, Option, Some, None}
use Rattle.hlfir_ops.specs.declared.kinds.ValueKind.{ValueKind}
use Rattle.hlfir_ops.specs.declared.what.What.{What}
use Rattle.hlfir_ops.specs.declared.op.ValueId.{ValueId}
use Rattle.hlfir_ops.specs.declared.op.Op.{Op}
use Rattle.hlfir_ops.specs.declared.op.Region.{Region}
use Rattle.hlfir_ops.specs.Trees.{op_of, region_of}
use Rattle.hlfir_ops.specs.Numbers.{names_in, own_numbers, numbers_of}
use Rattle.hlfir_ops.specs.Built.{Built, taken}
use Rattle.lower_values.specs.declared.names.Names.{Names}
use Rattle.lower_values.specs.declared.operand.Operand.{Operand}
use Rattle.lower_values.specs.Scopes.{Scope, inside, scope_at}

-- the ops that are appended, and what they are made for
pub record Lowered (A : Type 0) : Type 0 where
  pub ops : List Op
  pub made : A

-- in a scope, from the next free number on
abbrev pub Lowering : Type 0 → Type 0
Lowering A = Scope → ℕ → Lowered A

-- no ops
unfoldable pub done : {A : Type 0} → A → Lowering A
done x = λ s n. record { ops = []; made = x }

-- one lowering, and after it another one that knows what the first one made
infixl 10 ◌>>=◌
unfoldable pub ◌>>=◌ : {A B : Type 0} → Lowering A → (A → Lowering B) → Lowering B
p >>= q = λ s n. let a = p s n in let b = q a.made s (n + numbers_of a.ops) in record { ops = a.ops ++ b.ops; made = b.made }

abbrev pub next : {A B : Type 0} → Lowering A → (A → Lowering B) → Lowering B
next p q = p >>= q

infixl 10 ◌>>◌
abbrev pub ◌>>◌ : {A B : Type 0} → Lowering A → Lowering B → Lowering B
p >> q = p >>= (λ _. q)

-- one that asks its scope
unfoldable pub scoped : {A : Type 0} → (Scope → Lowering A) → Lowering A
scoped f = λ s n. f s s n

-- one for each item, with the item's place counted from k
unfoldable pub in_turn : {A : Type 0} → (ℕ → A → Lowering ⊤) → ℕ → List A → Lowering ⊤
in_turn f k [] = done tt
in_turn f k (x ∷ xs) = do
  f k x
  in_turn f (suc k) xs

-- ---- ops without regions; they are on the line of their place

-- one that gives a value of this kind
unfoldable pub giving : What → List ValueId → ValueKind → Lowering Operand
giving w operands kind = λ s n. record { ops = op_of w s.line operands (Some kind) [] ∷ []; made = record { value = record { number = n }; kind = kind } }

-- one that gives no value
unfoldable pub acting : What → List ValueId → Lowering ⊤
acting w operands = λ s n. record { ops = op_of w s.line operands None [] ∷ []; made = tt }

-- ---- ops with regions

-- the regions from the one of this number on, where the first value in it has this number, index names counted
abbrev pub regions_from : What → ℕ → ℕ → ℕ → List (Lowering ⊤) → Scope → List Region
regions_from w line k n [] s = []
regions_from w line k n (p ∷ ps) s =
    let ops = (p (inside w line k n s) (n + length (names_in w k))).ops in
    region_of ops ∷ regions_from w line (suc k) (n + (length (names_in w k) + numbers_of ops)) ps s

-- an op that holds these regions, where its own value, or else the first one in it, has this number
abbrev pub holding : What → ℕ → List ValueId → Option ValueKind → List (Lowering ⊤) → Scope → ℕ → Op
holding w line operands kind ps s n = op_of w line operands kind (regions_from w line 0 (n + own_numbers kind) ps s)

-- one on a line of its own, that gives no value
unfoldable pub statement_of : What → ℕ → List ValueId → List (Lowering ⊤) → Lowering ⊤
statement_of w line operands ps = λ s n. record { ops = holding w line operands None ps s n ∷ []; made = tt }

-- one on the line of its place that gives a value of this kind
unfoldable pub giving_by : What → ValueKind → Lowering ⊤ → Lowering Operand
giving_by w kind p = λ s n. record { ops = holding w s.line [] (Some kind) (p ∷ []) s n ∷ []; made = record { value = record { number = n }; kind = kind } }

-- ---- appending to a builder

-- a builder with these ops appended at its place
abbrev pub grown : Built → List Op → Built
grown b ops = record { name = b.name; around = b.around; ops = b.ops ++ ops }

-- a builder whose last op at its place holds these regions so far
abbrev pub opened : Built → What → ℕ → List ValueId → Option ValueKind → List Region → Built
opened b w line operands kind regions = grown b (op_of w line operands kind regions ∷ [])

-- exactly the ops of this lowering are appended, in the scope and from the number that the builder's place has, and this is made
pub record Appends {A : Type 0} (names : Names) (p : Lowering A) (old new : Built) (x : A) : Type 0 where
  pub ops : new ≡ grown old (p (scope_at names old.around) (taken old)).ops
  pub made : x ≡ (p (scope_at names old.around) (taken old)).made
