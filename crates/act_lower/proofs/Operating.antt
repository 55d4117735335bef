-- One op of a body at many places, and the op of an act that stands for it.
use Rattle.std.proofs.Common.{◌≡◌, arith, refl, sym, ap, ◌∙◌, subst, ℕ, ◌+◌, List, [], ◌∷◌, ◌++◌, map, length, Ok, Err, ℤ, pos, ◌<ℤ◌}
use Rattle.std.specs.Prelude.{slice_index_or}
use Rattle.ws_base.specs.Numbers.{Exact, default_half}
use Rattle.ws_base.specs.Outcomes.{Staged, joined, each, rows, pair_up}
use Rattle.phase_ops.specs.declared.phase.Micro.{Micro}
use Rattle.phase_ops.specs.declared.phase.Micro.TheVariants as micro
use Rattle.phase_ops.specs.Scalars.{one_value, scalar_value}
use Rattle.phase_ops.specs.Phases.{looks, divisors, turn_of}
use Rattle.phase_ops.specs.Phases as phase
use Rattle.phase_ops.specs.Free.{In}
use Rattle.hlfir_ops.specs.declared.what.ValueUnary.{ValueUnary}
use Rattle.hlfir_ops.specs.declared.what.ValueUnary.TheVariants as unary
use Rattle.hlfir_ops.specs.declared.what.ValueBinary.{ValueBinary}
use Rattle.hlfir_ops.specs.declared.what.ValueBinary.TheVariants as binary
use Rattle.hlfir_ops.specs.declared.what.What.{What}
use Rattle.hlfir_ops.specs.declared.what.What.TheVariants as what
use Rattle.hlfir_ops.specs.declared.op.ValueId.{ValueId}
use Rattle.hlfir_meaning.specs.Environments.{Value, column, Environment}
use Rattle.hlfir_meaning.specs.Operators.{unary_operation, binary_operation, select_operation, mask_last, operation_value, operation_map}
use Rattle.hlfir_meaning.specs.Places.{column_at, columns_of, as_column, over}
use Rattle.act_laws.specs.Together.{Files, Scene, outcome, gives_at, with_ops, Level, Follows}
use Rattle.act_laws.specs.declared.seat.Seat.{Seat}
use Rattle.act_laws.specs.declared.seat.Seat.TheVariants.{Fixed as fixed, Register as register}
use Rattle.act_laws.specs.Seats.{Table, Sits, seat_or, Holds, HasPlace}
use Rattle.act_lower.specs.Code.{Operands, operands, one_op, scalar_op, micro_of, op_code}
use Rattle.act_lower.specs.Covered.{IsCovered}
use Rattle.act_laws.proofs.Columns.{paired, each_map}
use Rattle.act_laws.proofs.Following.{Level-with_op, Level-with_ops, then_follows, follows_nothing, follows_map, follows_one, IsLast}
use Rattle.act_lower.proofs.Operands.{AllKnown, StandAll, operands_stand}

-- ---- rows

abbrev at_registers : Files → List ℕ → ℕ → List ℤ
at_registers files rs p = map (λ r. phase.register (files p) r) rs

abbrev columns_in : Files → List ℕ → List ℕ → List (List ℤ)
columns_in files at rs = map (λ r. map (λ p. phase.register (files p) r) at) rs

rows_are : (files : Files) (at rs : List ℕ) → rows at (columns_in files at rs) ≡ map (at_registers files rs) at
rows_are files at [] = refl
rows_are files at (r ∷ rs) = ap (pair_up (map (λ p. phase.register (files p) r) at)) (rows_are files at rs) ∙ paired (λ p. phase.register (files p) r) (at_registers files rs) at

each_same : (f g : ℕ → Exact) (at : List ℕ) → ((p : ℕ) → f p ≡ g p) → each f at ≡ each g at
each_same f g [] h = refl
each_same f g (p ∷ ps) h = λ i. joined (h p i) (each_same f g ps h i)

-- ---- operations

outcome_of : (e : Exact) → outcome (turn_of e) ≡ e
outcome_of (Ok z) = refl
outcome_of (Err n) = refl

unary_is : (o : ValueUnary) (a : ℤ) → operation_value (unary_operation o) (a ∷ []) ≡ outcome (turn_of (one_value default_half (one_op o) a))
unary_is unary.Neg a = sym (outcome_of (one_value default_half (one_op unary.Neg) a))
unary_is unary.Abs a = sym (outcome_of (one_value default_half (one_op unary.Abs) a))
unary_is unary.Not a = sym (outcome_of (one_value default_half (one_op unary.Not) a))

binary_is : (o : ValueBinary) (a b : ℤ) → operation_value (binary_operation o) (a ∷ b ∷ []) ≡ outcome (turn_of (scalar_value default_half (scalar_op o) a b))
binary_is o a b = value_is o ∙ sym (outcome_of (scalar_value default_half (scalar_op o) a b))
  where
    value_is : (w : ValueBinary) → operation_value (binary_operation w) (a ∷ b ∷ []) ≡ scalar_value default_half (scalar_op w) a b
    value_is binary.Add = refl
    value_is binary.Sub = refl
    value_is binary.Mul = refl
    value_is binary.Div = refl
    value_is binary.Min = refl
    value_is binary.Max = refl
    value_is binary.Pow = refl
    value_is binary.Mod = refl
    value_is binary.Modulo = refl
    value_is binary.Eq = refl
    value_is binary.Ne = refl
    value_is binary.Lt = refl
    value_is binary.Le = refl
    value_is binary.Gt = refl
    value_is binary.Ge = refl
    value_is binary.And = refl
    value_is binary.Or = refl
    value_is binary.Eqv = refl
    value_is binary.Neqv = refl

unary_map_is : (o : ValueUnary) (files : Files) (at : List ℕ) (r : ℕ) →
    operation_map (unary_operation o) at (columns_in files at (r ∷ [])) ≡ each (λ p. operation_value (unary_operation o) (at_registers files (r ∷ []) p)) at
unary_map_is unary.Neg files at r = each_map (λ z. operation_value (unary_operation unary.Neg) (z ∷ [])) (λ p. phase.register (files p) r) at
unary_map_is unary.Not files at r = each_map (λ z. operation_value (unary_operation unary.Not) (z ∷ [])) (λ p. phase.register (files p) r) at
unary_map_is unary.Abs files at r = ap (each (operation_value (unary_operation unary.Abs))) (rows_are files at (r ∷ [])) ∙ each_map (operation_value (unary_operation unary.Abs)) (at_registers files (r ∷ [])) at

binary_map_is : (o : ValueBinary) (xs ys : List ℤ) (at : List ℕ) → operation_map (binary_operation o) at (xs ∷ ys ∷ []) ≡ each (operation_value (binary_operation o)) (rows at (xs ∷ ys ∷ []))
binary_map_is binary.Add xs ys at = refl
binary_map_is binary.Sub xs ys at = refl
binary_map_is binary.Mul xs ys at = refl
binary_map_is binary.Div xs ys at = refl
binary_map_is binary.Min xs ys at = refl
binary_map_is binary.Max xs ys at = refl
binary_map_is binary.Pow xs ys at = refl
binary_map_is binary.Mod xs ys at = refl
binary_map_is binary.Modulo xs ys at = refl
binary_map_is binary.Eq xs ys at = refl
binary_map_is binary.Ne xs ys at = refl
binary_map_is binary.Lt xs ys at = refl
binary_map_is binary.Le xs ys at = refl
binary_map_is binary.Gt xs ys at = refl
binary_map_is binary.Ge xs ys at = refl
binary_map_is binary.And xs ys at = refl
binary_map_is binary.Or xs ys at = refl
binary_map_is binary.Eqv xs ys at = refl
binary_map_is binary.Neqv xs ys at = refl

-- ---- ops

module _ (s : Scene) (at : List ℕ) (files : Files) where
  unary_over : (o : ValueUnary) (r : ℕ) → operation_map (unary_operation o) at (columns_in files at (r ∷ [])) ≡ each (gives_at s files (micro.Unary (one_op o) r)) at
  unary_over o r = unary_map_is o files at r ∙ each_same (λ p. operation_value (unary_operation o) (at_registers files (r ∷ []) p)) (gives_at s files (micro.Unary (one_op o) r)) at (λ p. unary_is o (phase.register (files p) r))

  binary_over : (o : ValueBinary) (q r : ℕ) → operation_map (binary_operation o) at (columns_in files at (q ∷ r ∷ [])) ≡ each (gives_at s files (micro.Binary (scalar_op o) q r)) at
  binary_over o q r =
      binary_map_is o (map (λ p. phase.register (files p) q) at) (map (λ p. phase.register (files p) r) at) at
      ∙ (ap (each (operation_value (binary_operation o))) (rows_are files at (q ∷ r ∷ []))
      ∙ (each_map (operation_value (binary_operation o)) (at_registers files (q ∷ r ∷ [])) at
      ∙ each_same (λ p. operation_value (binary_operation o) (at_registers files (q ∷ r ∷ []) p)) (gives_at s files (micro.Binary (scalar_op o) q r)) at (λ p. binary_is o (phase.register (files p) q) (phase.register (files p) r))))

  select_over : (m t f : ℕ) → operation_map select_operation at (mask_last (columns_in files at (m ∷ t ∷ f ∷ []))) ≡ each (gives_at s files (micro.Select m t f)) at
  select_over m t f =
      ap (each (operation_value select_operation)) (rows_are files at (t ∷ f ∷ m ∷ []))
      ∙ (each_map (operation_value select_operation) (at_registers files (t ∷ f ∷ m ∷ [])) at
      ∙ each_same (λ p. operation_value select_operation (at_registers files (t ∷ f ∷ m ∷ []) p)) (gives_at s files (micro.Select m t f)) at (λ p. refl))

-- where an op and its value stand
abbrev pub SitsAt : Scene → List ℕ → Seat → Value → Files → Type 0
SitsAt s at seat x files = Sits s at files seat (column_at at x)

module _ (s : Scene) (at : List ℕ) (place : ℕ) (table : Table) (env : Environment) (known : List ℕ)
    (k : ℕ) (files : Files) (level : Level k files) (here : HasPlace at place files) (holds : Holds s at files known table env) where
  module _ (os : List ValueId) (all : AllKnown known os) (op : Micro) (f : List (List ℤ) → Staged (List ℤ)) where
    abbrev found : Operands
    found = operands place k table os

    abbrev next : Files
    next = with_ops s found.ops files

    -- the operands, and then an op that follows its map of their columns
    operated_by : f (columns_in next at found.regs) ≡ each (gives_at s next op) at → ((p c : ℕ) → In c (looks s.cells (next p) op) → In c s.may) → ((z : ℤ) → In z (divisors s.cells op) → pos 0 <ℤ z)
        → Follows s at k files (found.ops ++ op ∷ []) (as_column (f (columns_of at env os))) (SitsAt s at (register (k + length found.ops)))
    operated_by is may divides =
        let level_next = Level-with_ops s k files found.ops level in
        then_follows s at k files found.ops (op ∷ []) (Ok (columns_of at env os)) (λ cs. as_column (f cs)) (StandAll at found.regs) (SitsAt s at (register (k + length found.ops)))
        (operands_stand s at place table env known k files level here holds os all)
        (λ cs stand. follows_map s at (k + length found.ops) next (op ∷ []) (f cs) column (IsLast at (k + length found.ops)) (SitsAt s at (register (k + length found.ops)))
        (λ xs last. record { holds = last; may = λ p i. let e = Level-with_op s (k + length found.ops) next op level_next p in omega (arith, e) })
        (subst (λ r. Follows s at (k + length found.ops) next (op ∷ []) r (IsLast at (k + length found.ops))) (sym (ap f stand.0 ∙ is))
        (follows_one s at (k + length found.ops) next op level_next (λ p i. (may p, divides)))))

  -- what an op of a body gives sits where its code says
  pub op_stands : (w : What) (os : List ValueId) → IsCovered known w os → Follows s at k files (op_code place k table w os).ops (over at env w os) (SitsAt s at (op_code place k table w os).seat)
  op_stands (what.Constant c) os h = follows_nothing s at k files (column (map (λ p. c) at)) (SitsAt s at (fixed c)) (record { holds = refl; may = λ p i. tt })
  op_stands what.Apply (a ∷ []) h = follows_nothing s at k files (column (column_at at (env a.number))) (SitsAt s at (seat_or (table a.number))) (holds a.number h)
  op_stands (what.Unary o) (a ∷ []) h =
      let x = operands place k table (a ∷ []) in
      operated_by (a ∷ []) (h, tt) (micro_of (what.Unary o) x.regs) (operation_map (unary_operation o) at)
      (unary_over s at (with_ops s x.ops files) o (slice_index_or x.regs 0 0)) (λ p c l. elim l [ ]) (λ z l. elim l [ ])
  op_stands (what.Binary o) (a ∷ b ∷ []) h =
      let x = operands place k table (a ∷ b ∷ []) in
      operated_by (a ∷ b ∷ []) (h.0, (h.1, tt)) (micro_of (what.Binary o) x.regs) (operation_map (binary_operation o) at)
      (binary_over s at (with_ops s x.ops files) o (slice_index_or x.regs 0 0) (slice_index_or x.regs 1 0)) (λ p c l. elim l [ ]) (λ z l. elim l [ ])
  op_stands what.Select (m ∷ t ∷ f ∷ []) h =
      let x = operands place k table (m ∷ t ∷ f ∷ []) in
      operated_by (m ∷ t ∷ f ∷ []) (h.0, (h.1, (h.2, tt))) (micro_of what.Select x.regs) (λ cs. operation_map select_operation at (mask_last cs))
      (select_over s at (with_ops s x.ops files) (slice_index_or x.regs 0 0) (slice_index_or x.regs 1 0) (slice_index_or x.regs 2 0)) (λ p c l. elim l [ ]) (λ z l. elim l [ ])
  op_stands w os h = absurd h
