-- The sorts of operators and of the words of calls. What each is to the rules stands here once, so that a new one has to be placed.
use Rattle.std.specs.Prelude.{Bool, true, false}
use Rattle.ws_base.specs.declared.op.BinOp.{BinOp}
use Rattle.ws_base.specs.declared.op.BinOp.TheVariants as bin
use Rattle.ws_base.specs.declared.op.CallWord.{CallWord}
use Rattle.ws_base.specs.declared.op.CallWord.TheVariants as word

-- what operands and arguments have to be, and what a result is; `either` is the one type of the values that MERGE chooses from
pub data ValueType : Type 0 where
  integer : ValueType
  logical : ValueType
  either : ValueType

-- ---- operators

-- the type of the operands, that of the result, and whether the operator may stand in a constant expression
pub record OperatorSort : Type 0 where
  pub taken : ValueType
  pub given : ValueType
  pub constant : Bool

abbrev pub operator : ValueType → ValueType → Bool → OperatorSort
operator taken given constant = record { taken = taken; given = given; constant = constant }

abbrev pub operator_sort : BinOp → OperatorSort
operator_sort bin.Add = operator integer integer true
operator_sort bin.Sub = operator integer integer true
operator_sort bin.Mul = operator integer integer true
operator_sort bin.Div = operator integer integer true
operator_sort bin.Pow = operator integer integer false
operator_sort bin.Eq = operator integer logical false
operator_sort bin.Ne = operator integer logical false
operator_sort bin.Lt = operator integer logical false
operator_sort bin.Le = operator integer logical false
operator_sort bin.Gt = operator integer logical false
operator_sort bin.Ge = operator integer logical false
operator_sort bin.And = operator logical logical false
operator_sort bin.Or = operator logical logical false
operator_sort bin.Eqv = operator logical logical false
operator_sort bin.Neqv = operator logical logical false

-- ---- words of calls

-- the type of the arguments, that of the result, and whether the word reduces an array, asks about a variable, and asks whether it is allocated
pub record CallSort : Type 0 where
  pub taken : ValueType
  pub given : ValueType
  pub reduction : Bool
  pub inquiry : Bool
  pub allocation : Bool

abbrev pub elemental : ValueType → CallSort
elemental values = record { taken = values; given = values; reduction = false; inquiry = false; allocation = false }

abbrev pub reducing : ValueType → ValueType → CallSort
reducing taken given = record { taken = taken; given = given; reduction = true; inquiry = false; allocation = false }

-- An inquiry evaluates no argument, so that its types are not looked at.
abbrev pub asking : CallSort
asking = record (elemental integer) { inquiry = true }

abbrev pub asking_allocation : CallSort
asking_allocation = record asking { allocation = true }

abbrev pub call_sort : CallWord → CallSort
call_sort word.Abs = elemental integer
call_sort word.Mod = elemental integer
call_sort word.Modulo = elemental integer
call_sort word.Min = elemental integer
call_sort word.Max = elemental integer
call_sort word.Merge = elemental either
call_sort word.Sum = reducing integer integer
call_sort word.Product = reducing integer integer
call_sort word.Minval = reducing integer integer
call_sort word.Maxval = reducing integer integer
call_sort word.Count = reducing logical integer
call_sort word.Any = reducing logical logical
call_sort word.All = reducing logical logical
call_sort word.Size = asking
call_sort word.Lbound = asking
call_sort word.Ubound = asking
call_sort word.Allocated = asking_allocation

abbrev pub is_reduction : CallWord → Bool
is_reduction w = (call_sort w).reduction

abbrev pub is_inquiry : CallWord → Bool
is_inquiry w = (call_sort w).inquiry
