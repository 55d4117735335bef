-- What the lowering of a part of an expression leaves stands for what stage 1 of the source leaves.
use Rattle.std.specs.Prelude.{◌≡◌, ℕ, ◌<◌, ◌≤◌, true, false, List, [], ◌∷◌, length, map, None, Ok, ℤ, ◌+◌, Bool}
use Rattle.std.specs.List.{All}
use mathlib.Core.Former.{Count}
use Rattle.ws_base.specs.declared.name.Name.{Name}
use Rattle.ws_base.specs.declared.op.UnOp.{UnOp}
use Rattle.ws_base.specs.declared.op.BinOp.{BinOp}
use Rattle.ws_base.specs.declared.op.CallWord.{CallWord}
use Rattle.ws_base.specs.Outcomes.{Staged, ◌>>=◌}
use Rattle.ws_space.specs.declared.state.VarState.{VarState}
use Rattle.ws_space.specs.declared.state.Var.{Var}
use Rattle.ws_space.specs.Values.{is_among, state_of}
use Rattle.ws_tree.specs.declared.expr.Expr.{Expr}
use Rattle.ws_tree.specs.declared.expr.Expr.TheVariants.{Named}
use Rattle.ws_tree.specs.Trees.{Exprs, more_exprs, Subs}
use Rattle.ws_types.specs.Constants.{constant_of, has_no_value}
use Rattle.ws_types.specs.Expressions.{listed, how_many}
use Rattle.ws_types.specs.Operations.{is_inquiry}
use Rattle.array_meaning.specs.declared.world.World.{World}
use Rattle.array_meaning.specs.declared.term.Term.{Term}
use Rattle.array_meaning.specs.declared.term.Term.TheVariants.{Scalar, Listed}
use Rattle.array_meaning.specs.Stage1 as source
use Rattle.array_meaning.specs.Stage2 as later
use Rattle.hlfir_ops.specs.declared.kinds.Elem.{Elem}
use Rattle.hlfir_ops.specs.declared.kinds.ValueKind.{ValueKind}
use Rattle.hlfir_ops.specs.declared.what.Reduction.{Reduction}
use Rattle.hlfir_ops.specs.declared.what.ValueBinary.{ValueBinary}
use Rattle.hlfir_ops.specs.declared.op.ValueId.{ValueId}
use Rattle.hlfir_meaning.specs.Environments.{variable, Environment, yielding}
use Rattle.hlfir_meaning.specs.Operators.{reduction_word}
use Rattle.hlfir_meaning.specs.Stage2.{values, whole}
use Rattle.lower_values.specs.declared.operand.Operand.{Operand}
use Rattle.lower_values.specs.Scopes.{Scope, index_of}
use Rattle.lower_values.specs.Lowerings.{Lowering, next}
use Rattle.lower_values.specs.Operations.{constant, binary_of, binary_operation, in_parentheses, unary_operation, call_on, vector}
use Rattle.lower_values.specs.References.{boxed, loaded, declare_of, inquiry, reference}
use Rattle.lower_values.specs.Values.{folded, value, nested, part_of, subscripts}
use Rattle.value_laws.specs.Standing.{Does, AreIn, Stands, settled, StandsSettled, StandEach}
use Rattle.value_laws.specs.Singles.{IsSingle}
use Rattle.value_laws.specs.Arguments.{ArgumentsStand, SubscriptsStand}
use Rattle.value_laws.specs.Names.{ConstantsAgree, DeclareStands, Agrees}
use Rattle.value_laws.specs.Variables.{Fits, IsNamed}
use Rattle.ws_space.specs.Shapes.{dims}
use Rattle.ws_types.specs.Sections.{is_designator}
use Rattle.hlfir_ops.specs.Numbers.{numbers_of}
use Rattle.value_laws.specs.Sound.{IsSoundPart, IsSound, AreSoundSubs, IsClear}
use Rattle.value_laws.specs.Vectors.{VectorsAre, AreDeclaredBelow}
use Rattle.hlfir_meaning.specs.Stage1.{subscript_numbers}
use Rattle.lower_assign.specs.Statements.{yielded}
use Rattle.value_laws.specs.Regions.{RegionYields}

-- Walked from the next free number on, the lowering faults alike, or leaves an operand that stands for the term. The declares have the numbers up to `base`.
abbrev pub Leaves : List ℕ → ℕ → ℕ → Scope → ℕ → Environment → Lowering Operand → Staged Term → Type 0
Leaves vectors base low s n env p r = Does vectors s n env p r (λ x t after rho. Stands base low after rho x t)

abbrev pub ConstantsStand : Type 0
ConstantsStand = (vectors : List ℕ) (base low : ℕ) (e : Elem) (z : ℤ) (s : Scope) (n : ℕ) (env : Environment) → low ≤ n → Leaves vectors base low s n env (constant e z) (Ok (Scalar z))

-- a variable whose declare fits what it holds
abbrev pub VariablesStand : Type 0
VariablesStand = (vectors : List ℕ) (base low : ℕ) (s : Scope) (n : ℕ) (env : Environment) (v : Var) (id : ValueId) → base ≤ low → low ≤ n → id.number < base → env id.number ≡ variable v →
    (kind : ValueKind) (held : VarState) → v.state ≡ held → Fits kind held → Leaves vectors base low s n env (next (boxed (record { value = id; kind = kind })) loaded) (source.variable held)

-- an operator on what stands for a term, where its value is no vector subscript
abbrev pub UnaryStands : UnOp → Type 0
UnaryStands op = (vectors : List ℕ) (base low : ℕ) (s : Scope) (n : ℕ) (env : Environment) (x : Operand) → base ≤ low → low ≤ n →
    (t : Term) → is_among n vectors ≡ false → Stands base low n env x t → Leaves vectors base low s n env (unary_operation op x) (source.unary_on op t)

-- the same of two operands, of which the first one's numbers come before the second one's
abbrev pub BinaryStands : Type 0
BinaryStands = (vectors : List ℕ) (base low middle : ℕ) (s : Scope) (n : ℕ) (env : Environment) (x y : Operand) → base ≤ low → low ≤ middle → middle ≤ n →
    (op : BinOp) (t u : Term) → is_among n vectors ≡ false → Stands base low middle env x t → Stands base middle n env y u → Leaves vectors base low s n env (binary_operation (binary_of op) x y) (source.binary_on op t u)

-- a call of so many arguments
abbrev pub CallStands : CallWord → ℕ → Type 0
CallStands w many = (vectors : List ℕ) (base low : ℕ) (s : Scope) (n : ℕ) (env : Environment) (xs : List Operand) (ts : List Term) → base ≤ low → length xs ≡ many → is_among n vectors ≡ false →
    StandEach base low n env xs ts → Leaves vectors base low s n env (call_on w xs) (source.called w ts)

-- parentheses: a whole array is copied, and nothing is added to any other operand
abbrev pub CopiesStand : Type 0
CopiesStand = (vectors : List ℕ) (base low : ℕ) (s : Scope) (n : ℕ) (env : Environment) (x : Operand) → low ≤ n →
    (t : Term) → is_among n vectors ≡ false → Stands base low n env x t → Leaves vectors base low s n env (in_parentheses x) (Ok t)

-- an expression whose constant value is found, if it has one, in place of what its parts leave
abbrev pub FoldedStand : Type 0
FoldedStand = (vectors : List ℕ) (base low : ℕ) (s : Scope) (n : ℕ) (env : Environment) → low ≤ n → (w : World) → ConstantsAgree s.names.constants w.constants →
    (e : Expr) (p : Lowering Operand) → Leaves vectors base low s n env p (source.walk w e) → Leaves vectors base low s n env (folded e p) (source.walk w e)

-- MIN or MAX of two or more arguments, one after another, where the source has one call of all
abbrev pub NestedStand : ValueBinary → CallWord → Type 0
NestedStand op w = (k : Count) (vectors : List ℕ) (base : ℕ) (s : Scope) (world : World) (n : ℕ) (env : Environment) → base ≤ n → (e d : Expr) (es : Exprs k) →
    ArgumentsStand vectors base env s world op false None n (more_exprs e (more_exprs d es)) →
    Leaves vectors base n s n env (nested op None (more_exprs e (more_exprs d es))) (source.walks world (more_exprs e (more_exprs d es)) >>= source.called w)

-- SIZE, LBOUND, UBOUND or ALLOCATED of a variable, with a dimension or without
abbrev pub InquiriesStand : Type 0
InquiriesStand = (k : Count) (vectors : List ℕ) (base low : ℕ) (s : Scope) (n : ℕ) (env : Environment) → base ≤ low → low ≤ n → (w : CallWord) → is_inquiry w ≡ true →
    (x : Name) (es : Exprs k) (held : VarState) → DeclareStands base env (declare_of s.names x) held →
    Leaves vectors base low s n env (inquiry w (listed (more_exprs (Named x) es))) (source.known (source.inquired w held (source.dimension_in (more_exprs (Named x) es))))

-- a name that is no index, and no constant without a value
abbrev pub NamesStand : Type 0
NamesStand = (vectors : List ℕ) (base low : ℕ) (s : Scope) (n : ℕ) (env : Environment) → base ≤ low → low ≤ n → (w : World) → Agrees s.names base w env →
    (x : Name) → index_of s.indexes x ≡ None → has_no_value (constant_of s.names.constants x) ≡ false → Leaves vectors base low s n env (value (Named x)) (source.walk w (Named x))

-- SUM, PRODUCT, MINVAL, MAXVAL, COUNT, ANY and ALL of what stands for a term
abbrev pub ReductionsStand : Type 0
ReductionsStand = (vectors : List ℕ) (base low : ℕ) (s : Scope) (n : ℕ) (env : Environment) (x : Operand) → low ≤ n → (t : Term) → Stands base low n env x t →
    (r : Reduction) → Leaves vectors base low s n env (call_on (reduction_word r) (x ∷ [])) (source.called (reduction_word r) (t ∷ []))

-- What stands for a term has its values at any places of its shape, or the same fault.
abbrev pub ValuesAreSame : Type 0
ValuesAreSame = (base low high : ℕ) (env : Environment) (x : Operand) (t : Term) → Stands base low high env x t → (at : List ℕ) → AreIn at (later.operands t) →
    values (yielding env (x.value ∷ [])) at ≡ later.values t at

-- and so has all of it, after its conformance
abbrev pub WholesAreSame : Type 0
WholesAreSame = (base low high : ℕ) (env : Environment) (x : Operand) (t : Term) → Stands base low high env x t → whole (yielding env (x.value ∷ [])) ≡ later.whole t

-- a constructor of scalars
abbrev pub ConstructorsStand : Type 0
ConstructorsStand = (vectors : List ℕ) (base low : ℕ) (s : Scope) (n : ℕ) (env : Environment) (xs : List Operand) (ts : List Term) → All IsSingle ts → StandEach base low n env xs ts →
    Leaves vectors base low s n env (vector xs) (Ok (Listed (map source.value_of ts)))

-- ---- vector subscripts

-- The same of a value that a designator takes as a vector subscript: what is left is a scalar, or the values, listed.
abbrev pub LeavesSettled : List ℕ → ℕ → ℕ → Scope → ℕ → Environment → Lowering Operand → Staged Term → Type 0
LeavesSettled vectors base low s n env p r = Does vectors s n env p r (λ x t after rho. StandsSettled base low after rho x t)

abbrev pub UnarySettles : UnOp → Type 0
UnarySettles op = (vectors : List ℕ) (base low : ℕ) (s : Scope) (n : ℕ) (env : Environment) (x : Operand) → base ≤ low → low ≤ n →
    (t : Term) → is_among n vectors ≡ true → Stands base low n env x t → LeavesSettled vectors base low s n env (unary_operation op x) (source.unary_on op t >>= settled)

abbrev pub BinarySettles : Type 0
BinarySettles = (vectors : List ℕ) (base low middle : ℕ) (s : Scope) (n : ℕ) (env : Environment) (x y : Operand) → base ≤ low → low ≤ middle → middle ≤ n →
    (op : BinOp) (t u : Term) → is_among n vectors ≡ true → Stands base low middle env x t → Stands base middle n env y u →
    LeavesSettled vectors base low s n env (binary_operation (binary_of op) x y) (source.binary_on op t u >>= settled)

abbrev pub CallSettles : CallWord → ℕ → Type 0
CallSettles w many = (vectors : List ℕ) (base low : ℕ) (s : Scope) (n : ℕ) (env : Environment) (xs : List Operand) (ts : List Term) → base ≤ low → length xs ≡ many → is_among n vectors ≡ true →
    StandEach base low n env xs ts → LeavesSettled vectors base low s n env (call_on w xs) (source.called w ts >>= settled)

abbrev pub NestedSettles : ValueBinary → CallWord → Type 0
NestedSettles op w = (k : Count) (vectors : List ℕ) (base : ℕ) (s : Scope) (world : World) (n : ℕ) (env : Environment) → base ≤ n → (e d : Expr) (es : Exprs k) →
    ArgumentsStand vectors base env s world op true None n (more_exprs e (more_exprs d es)) →
    LeavesSettled vectors base n s n env (nested op None (more_exprs e (more_exprs d es))) (source.walks world (more_exprs e (more_exprs d es)) >>= source.called w >>= settled)

-- the copy of a whole array
abbrev pub CopiesSettle : Type 0
CopiesSettle = (vectors : List ℕ) (base low : ℕ) (s : Scope) (n : ℕ) (env : Environment) (x : Operand) → low ≤ n → IsNamed x.kind →
    (t : Term) → is_among n vectors ≡ true → Stands base low n env x t → LeavesSettled vectors base low s n env (in_parentheses x) (settled t)

-- parentheses around what is settled
abbrev pub SettledStays : Type 0
SettledStays = (vectors : List ℕ) (base low : ℕ) (s : Scope) (n : ℕ) (env : Environment) (x : Operand) (t : Term) → StandsSettled base low n env x t → LeavesSettled vectors base low s n env (in_parentheses x) (Ok t)

abbrev pub FoldedSettles : Type 0
FoldedSettles = (vectors : List ℕ) (base low : ℕ) (s : Scope) (n : ℕ) (env : Environment) → low ≤ n → (w : World) → ConstantsAgree s.names.constants w.constants →
    (e : Expr) (p : Lowering Operand) → LeavesSettled vectors base low s n env p (source.walk w e >>= settled) → LeavesSettled vectors base low s n env (folded e p) (source.walk w e >>= settled)

-- This is how the source takes a subscript that is no designator.
abbrev pub SettledIsSubscript : Type 0
SettledIsSubscript = (t : Term) → source.subscript false t ≡ (settled t >>= source.subscript true)

-- ---- whole expressions

-- An element or a section leaves what stands for it, where its subscripts leave what stands for theirs.
abbrev pub PartsStand : List ℕ → ℕ → Scope → World → Type 0
PartsStand vectors base s w = (k : Count) (n : ℕ) (env : Environment) (x : Name) (subs : Subs k) → base ≤ n → Agrees s.names base w env → IsSoundPart true s x (how_many subs) (AreSoundSubs true s subs) →
    SubscriptsStand vectors base env s w (reference x s n).made 1 (n + numbers_of (reference x s n).ops) subs →
    Leaves vectors base n s n env (next (part_of x (λ r. subscripts r 1 subs)) loaded) (
    source.allocated (state_of w.vars x) >>= (λ a. source.picks w (dims a.shape) subs >>= source.designator a))

-- this holds where designators stand in an expression
abbrev pub IfParts : Bool → Type 0 → Type 0
IfParts true P = P
IfParts false P = Unit {0}

-- a lowered expression, in a scope whose names agree with the world
abbrev pub ExpressionsStand : Type 0
ExpressionsStand = (parts : Bool) (vectors : List ℕ) (base : ℕ) (s : Scope) (w : World) → IfParts parts (PartsStand vectors base s w) → (n : ℕ) (env : Environment) → base ≤ n → Agrees s.names base w env →
    (e : Expr) → IsSound parts s e → IsClear vectors s false n e → Leaves vectors base n s n env (value e) (source.walk w e)

-- one that is a vector subscript, and no designator
abbrev pub ExpressionsSettle : Type 0
ExpressionsSettle = (parts : Bool) (vectors : List ℕ) (base : ℕ) (s : Scope) (w : World) → IfParts parts (PartsStand vectors base s w) → (n : ℕ) (env : Environment) → base ≤ n → Agrees s.names base w env →
    (e : Expr) → IsSound parts s e → IsClear vectors s true n e → is_designator e ≡ false → LeavesSettled vectors base n s n env (value e) (source.walk w e >>= settled)

-- It is clear, as these two want it, where the vector subscripts among its values are those of its own designators.
abbrev pub ExpressionsAreClear : Type 0
ExpressionsAreClear = (parts : Bool) (vectors : List ℕ) (base : ℕ) (s : Scope) (n : ℕ) → AreDeclaredBelow base s → base ≤ n →
    (e : Expr) → IsSound parts s e → VectorsAre vectors n (value e s n).ops → IsClear vectors s false n e

-- So the region of an expression yields what stands for its source, or faults as stage 1 of it does.
abbrev pub ExpressionsYield : Type 0
ExpressionsYield = (parts : Bool) (base : ℕ) (s : Scope) (w : World) (n : ℕ) (env : Environment) → base ≤ n → Agrees s.names base w env → (e : Expr) → IsSound parts s e →
    IfParts parts (PartsStand (subscript_numbers (value e s n).ops) base s w) → RegionYields env (record { first = n; ops = (yielded (value e) s n).ops }) (source.walk w e)
