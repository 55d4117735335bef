-- What a walk through lowered ops leaves, and when a value that it leaves stands for a term.
use Rattle.std.specs.Prelude.{◌≡◌, ◌⊎◌, ℕ, ◌+◌, ◌==◌, ◌<◌, ◌≤◌, true, false, List, [], ◌∷◌, ◌++◌, Ok, Err, ℤ}
use Rattle.std.specs.List.{All}
use Rattle.ws_base.specs.Outcomes.{Staged, ◌>>=◌}
use Rattle.ws_space.specs.Shapes.{Extents, size}
use Rattle.array_meaning.specs.declared.term.Term.{Term}
use Rattle.array_meaning.specs.declared.term.Term.TheVariants.{Scalar, Listed}
use Rattle.array_meaning.specs.Stage2 as source
use Rattle.hlfir_ops.specs.declared.kinds.ValueKind.{ValueKind}
use Rattle.hlfir_ops.specs.declared.op.Op.{Op}
use Rattle.hlfir_ops.specs.Numbers.{numbers_of}
use Rattle.hlfir_ops.specs.RulesValues.{rank_of}
use Rattle.hlfir_meaning.specs.Environments.{Value, scalar, Environment, Yielded, Deferred}
use Rattle.hlfir_meaning.specs.Places.{column_at}
use Rattle.hlfir_meaning.specs.Stage1.{stage1, vector}
use Rattle.hlfir_meaning.specs.Stage2.{operands, deferred_by, stage2}
use Rattle.lower_values.specs.declared.operand.Operand.{Operand}
use Rattle.lower_values.specs.Scopes.{Scope}
use Rattle.lower_values.specs.Lowerings.{Lowering}
use Rattle.value_laws.specs.Variables.{IsWholeWhereNamed}

-- ---- walks through ops

-- what is yielded at the end of a walk; the values are numbered from this number on
abbrev pub Walk : Type 0
Walk = ℕ → Environment → List Op → Staged Yielded

-- what stood below this number stands there still
abbrev pub Kept : ℕ → Environment → Environment → Type 0
Kept n env after = (k : ℕ) → k < n → after k ≡ env k

-- from the value of this number on, the walk passes these ops without a fault
pub record PassesBy (walk : Walk) (n : ℕ) (env : Environment) (ops : List Op) (after : Environment) : Type 0 where
  pub walked : (rest : List Op) → walk n env (ops ++ rest) ≡ walk (n + numbers_of ops) after rest
  pub kept : Kept n env after

-- the walk through these ops ends in the same fault, or passes them and leaves what stands for the same value
abbrev pub GoesBy : {A : Type 0} → Walk → ℕ → Environment → List Op → Staged A → (A → Environment → Type 0) → Type 0
GoesBy walk n env ops (Ok a) P = (after : Environment) × PassesBy walk n env ops after × P a after
GoesBy walk n env ops (Err t) P = (rest : List Op) → walk n env (ops ++ rest) ≡ Err t

-- the same of a lowering, from the next free number on; the relation is on what it made, the value, and the next free number after it
abbrev pub DoesBy : {A B : Type 0} → Walk → Scope → ℕ → Environment → Lowering A → Staged B → (A → B → ℕ → Environment → Type 0) → Type 0
DoesBy walk s n env p r Q = GoesBy walk n env (p s n).ops r (λ b after. Q (p s n).made b (n + numbers_of (p s n).ops) after)

-- ---- stage 1

abbrev pub Passes : List ℕ → ℕ → Environment → List Op → Environment → Type 0
Passes vectors = PassesBy (stage1 vectors)

abbrev pub Goes : {A : Type 0} → List ℕ → ℕ → Environment → List Op → Staged A → (A → Environment → Type 0) → Type 0
Goes vectors n env ops r P = GoesBy (stage1 vectors) n env ops r P

abbrev pub Does : {A B : Type 0} → List ℕ → Scope → ℕ → Environment → Lowering A → Staged B → (A → B → ℕ → Environment → Type 0) → Type 0
Does vectors s n env p r Q = DoesBy (stage1 vectors) s n env p r Q

-- ---- stage 2

-- before: all have smaller numbers than this one
abbrev pub Before : List Deferred → ℕ → Type 0
Before ds n = All (λ d. d.number < n) ds

-- each number is less than all that follow
abbrev pub Ascends : List Deferred → Type 0
Ascends [] = Unit {0}
Ascends (d ∷ ds) = All (λ e. d.number < e.number) ds × Ascends ds

-- their numbers lie from the first bound up to the second, and ascend
pub record IsOrdered (low high : ℕ) (ds : List Deferred) : Type 0 where
  pub from : All (λ d. low ≤ d.number) ds
  pub upto : Before ds high
  pub ascending : Ascends ds

-- a number of a declare, or one that a lowering took
abbrev pub IsOwn : ℕ → ℕ → ℕ → ℕ → Type 0
IsOwn base low high k = (k < base) ⊎ ((low ≤ k) × (k < high))

-- the two environments have the same values there
abbrev pub Alike : ℕ → ℕ → ℕ → Environment → Environment → Type 0
Alike base low high env other = (k : ℕ) → IsOwn base low high k → other k ≡ env k

-- and everywhere but there
pub record Apart (low high : ℕ) (old new : Environment) : Type 0 where
  pub below : Kept low old new
  pub above : (k : ℕ) → high ≤ k → new k ≡ old k

-- what was left, done in order, faults alike or gives these values at the places
abbrev pub Gives : ℕ → ℕ → List ℕ → Environment → ℕ → List Deferred → Staged (List ℤ) → Type 0
Gives low high at env n ds (Ok xs) = (after : Environment) × (stage2 at env ds ≡ Ok after) × (column_at at (after n) ≡ xs) × Apart low high env after
Gives low high at env n ds (Err t) = stage2 at env ds ≡ Err t

-- these are places of each of the shapes
abbrev pub AreIn : List ℕ → List Extents → Type 0
AreIn at = All (λ e. All (λ p. p < size e) at)

-- ---- values and terms

-- a scalar is of rank 0 and holds the value; anything else is an array
abbrev pub IsOfRank : ValueKind → Value → Term → Type 0
IsOfRank kind v (Scalar z) = ((rank_of kind == 0) ≡ true) × (v ≡ scalar z)
IsOfRank kind v t = (rank_of kind == 0) ≡ false

-- The operand stands for the term: it has its array operands, and wherever the declares and the values from `low` up to `high` stand, stage 2 gives the term's values, as faults too.
pub record Stands (base low high : ℕ) (env : Environment) (x : Operand) (t : Term) : Type 0 where
  pub value : Value
  pub found : env x.value.number ≡ value
  pub own : IsOwn base low high x.value.number
  pub rank : IsOfRank x.kind value t
  pub whole : IsWholeWhereNamed x.kind value t
  pub shapes : operands value ≡ source.operands t
  pub ordered : IsOrdered low high (deferred_by x.value.number value)
  pub gives : (other : Environment) (at : List ℕ) → Alike base low high env other → AreIn at (source.operands t) →
      Gives low high at other x.value.number (deferred_by x.value.number value) (source.values t at)

-- ---- vector subscripts

-- An operation or a copy that is a vector subscript is evaluated whole where it stands: its values are listed then.
abbrev pub settled : Term → Staged Term
settled (Scalar z) = Ok (Scalar z)
settled t = source.whole t >>= (λ xs. Ok (Listed xs))

-- the operand holds these values, or is a scalar
abbrev pub StandsSettled : ℕ → ℕ → ℕ → Environment → Operand → Term → Type 0
StandsSettled base low high env x (Scalar z) = Stands base low high env x (Scalar z)
StandsSettled base low high env x (Listed xs) = Stands base low high env x (Listed xs) × (env x.value.number ≡ vector xs)
StandsSettled base low high env x t = ⊥

-- ---- several values

-- one operand after another stands for one term after another, each with numbers of its own
abbrev pub StandEach : ℕ → ℕ → ℕ → Environment → List Operand → List Term → Type 0
StandEach base low high env [] [] = low ≤ high
StandEach base low high env (x ∷ xs) (t ∷ ts) = (middle : ℕ) × (low ≤ middle) × Stands base low middle env x t × StandEach base middle high env xs ts
StandEach base low high env _ _ = ⊥

abbrev pub values_each : List Term → List ℕ → Staged (List (List ℤ))
values_each [] at = Ok []
values_each (t ∷ ts) at = do
  xs ← source.values t at
  rest ← values_each ts at
  Ok (xs ∷ rest)

abbrev pub operands_each : List Term → List Extents
operands_each [] = []
operands_each (t ∷ ts) = source.operands t ++ operands_each ts
