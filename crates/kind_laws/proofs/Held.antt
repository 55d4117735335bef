-- Which values of a whole module the parts of a lowering give.
use Rattle.std.proofs.Common.{◌≡◌, refl, sym, ℕ, ◌+◌, List, [], Some, None, append-nil}
use Rattle.std.specs.Prelude.{⊤}
use Rattle.hlfir_ops.specs.declared.kinds.ValueKind.{ValueKind}
use Rattle.hlfir_ops.specs.declared.what.What.{What}
use Rattle.hlfir_ops.specs.declared.op.ValueId.{ValueId}
use Rattle.hlfir_ops.specs.declared.op.Op.{Op}
use Rattle.hlfir_ops.specs.Numbers.{own_numbers, numbers_of}
use Rattle.hlfir_ops.specs.RulesValues.{Value, source_of, value_at, values_of}
use Rattle.lower_values.specs.Scopes.{Scope}
use Rattle.lower_values.specs.Lowerings.{Lowering, ◌>>=◌, giving, statement_of}
use Rattle.kind_laws.specs.Found.{Holds, RegionsHeld}
use Rattle.kind_laws.proofs.Finding.{holds_first, holds_after, own_value}
use Rattle.kind_laws.proofs.ScopesFound.{regions_are_held}

-- the values of a list are all values of a module that consists of it
pub held-whole : (ops : List Op) → Holds (values_of ops) 0 ops
held-whole ops = record { before = []; after = []; whole = sym (append-nil (values_of ops)); count = refl }

module _ (vs : List Value) where
  module _ {A B : Type 0} (p : Lowering A) (q : A → Lowering B) (s : Scope) (n : ℕ) where
    pub held-first : Holds vs n ((p >>= q) s n).ops → Holds vs n (p s n).ops
    unfolding ◌>>=◌
    held-first h = holds_first vs n (p s n).ops (q (p s n).made s (n + numbers_of (p s n).ops)).ops h

    pub held-rest : Holds vs n ((p >>= q) s n).ops → Holds vs (n + numbers_of (p s n).ops) (q (p s n).made s (n + numbers_of (p s n).ops)).ops
    unfolding ◌>>=◌
    held-rest h = holds_after vs n (p s n).ops (q (p s n).made s (n + numbers_of (p s n).ops)).ops h

  pub held-giving : (w : What) (operands : List ValueId) (k : ValueKind) (s : Scope) (n : ℕ) → Holds vs n (giving w operands k s n).ops → value_at vs (giving w operands k s n).made.value ≡ Some (record { kind = k; source = source_of w })
  unfolding giving
  held-giving w operands k s n h = own_value vs n w s.line operands k [] [] h

  -- the regions of a statement
  pub held-statement : (w : What) (line : ℕ) (operands : List ValueId) (ps : List (Lowering ⊤)) (s : Scope) (n : ℕ) → Holds vs n (statement_of w line operands ps s n).ops → RegionsHeld vs w line 0 (n + own_numbers None) ps s
  unfolding statement_of
  held-statement w line operands ps s n h = regions_are_held vs w line operands None ps s n [] h
