-- The sorts of ops. What an op is to the rules stands here once for each, so that a new op has to be placed.
use Rattle.std.specs.Prelude.{Bool, true, false, List}
use Rattle.std.specs.List.{list_any}
use Rattle.ws_base.specs.declared.name.Name.{Name}
use Rattle.hlfir_ops.specs.declared.what.SubKind.{SubKind}
use Rattle.hlfir_ops.specs.declared.what.SubKind.TheVariants as sub
use Rattle.hlfir_ops.specs.declared.what.What.{What}
use Rattle.hlfir_ops.specs.declared.what.What.TheVariants as what

-- ---- what the rules ask of an op

abbrev pub is_vector : SubKind → Bool
is_vector sub.One = false
is_vector sub.Range = false
is_vector sub.Vector = true

abbrev pub has_vector : List SubKind → Bool
has_vector = list_any is_vector

-- what gives a value: a declare; a designate, with a vector subscript or without one; a vector; another op, or a forall that gives an index name
pub data Source : Type 0 where
  Declares : Source
  Designates : Bool → Source
  Lists : Source
  Other : Source

-- what its own body holds; that of an elsewhere is one of its where
pub data Body : Type 0 where
  NoBody : Body
  WhereBody : Body
  ForallBody : Body
  SharedBody : Body
  LoopBody : Body

-- what its regions yield: nothing; the sides of an assignment; a value; a value where there are two regions; a triplet for each of these names; a truth
-- value; one triplet; pairs of bounds; what a read fills; an element
pub data Yields : Type 0 where
  YieldsNothing : Yields
  YieldsSides : Yields
  YieldsValue : Yields
  YieldsElseValue : Yields
  YieldsHeader : List Name → Yields
  YieldsTruth : Yields
  YieldsTriplet : Yields
  YieldsPairs : Yields
  YieldsItem : Yields
  YieldsElement : Yields

-- what the mask of a where around it controls in it: nothing, the left side, its mask, or its mask where there are two regions
pub data Controls : Type 0 where
  ControlsNothing : Controls
  ControlsLeft : Controls
  ControlsMask : Controls
  ControlsElseMask : Controls

-- what is limited at it: nothing, the declares before it, its items, or the bodies around it
pub data Limits : Type 0 where
  LimitsNothing : Limits
  LimitsDeclares : Limits
  LimitsItems : Limits
  LimitsBodies : Limits

-- of what the phases and temporaries are counted at it: nothing, the statement that it is, the statements in it, or its first region, which is one step
pub data Counts : Type 0 where
  CountsNothing : Counts
  CountsStatement : Counts
  CountsStatements : Counts
  CountsStep : Counts

-- what an op adds to the count: a mask, which an elsewhere of one region has not; an assignment; a header; a reduction; its vector subscripts
pub data Adds : Type 0 where
  AddsNothing : Adds
  AddsMask : Adds
  AddsElseMask : Adds
  AddsAssignment : Adds
  AddsHeader : Adds
  AddsReduction : Adds
  AddsWholes : Adds

-- what of a variable it gives: nothing, all of an array, or a part
pub data Denotes : Type 0 where
  DenotesNothing : Denotes
  DenotesArray : Denotes
  DenotesPart : Denotes

-- how it is evaluated whole where it is a vector subscript: as the copy of its operand, or element by element
pub data Settles : Type 0 where
  SettlesNothing : Settles
  SettlesCopy : Settles
  SettlesElements : Settles

-- the statement of which it is one item, where there may be several
pub data Items : Type 0 where
  Alone : Items
  Allocates : Items
  Frees : Items
  Reads : Items

-- Whether an op has a line of its own, stands in the module after its declares and in a do_loop, gives a value as no declare does, works on elements, works
-- on whole arrays, may take an allocatable's declare, and is no first item. The operands of a yield are judged with its region.
pub record Sort : Type 0 where
  pub line : Bool
  pub statement : Bool
  pub value : Bool
  pub operation : Bool
  pub whole : Bool
  pub reaches : Bool
  pub also : Bool
  pub items : Items
  pub source : Source
  pub denotes : Denotes
  pub settles : Settles
  pub body : Body
  pub yields : Yields
  pub controls : Controls
  pub limits : Limits
  pub counts : Counts
  pub adds : Adds

-- ---- the sort of each op

abbrev pub other : Sort
other = record {
  line = false;
  statement = false;
  value = false;
  operation = false;
  whole = false;
  reaches = false;
  also = false;
  items = Alone;
  source = Other;
  denotes = DenotesNothing;
  settles = SettlesNothing;
  body = NoBody;
  yields = YieldsNothing;
  controls = ControlsNothing;
  limits = LimitsNothing;
  counts = CountsNothing;
  adds = AddsNothing;
}

abbrev pub stating : Sort
stating = record other { line = true; statement = true }

abbrev pub with_body : Body → Counts → Sort
with_body body counts = record stating { body = body; limits = LimitsBodies; counts = counts }

abbrev pub giving : Sort
giving = record other { value = true }

abbrev pub sort_of : What → Sort
sort_of (what.Declare name) = record other { source = Declares; denotes = DenotesArray; limits = LimitsDeclares }
sort_of (what.Assign realloc) = record stating { yields = YieldsSides; controls = ControlsLeft; counts = CountsStatement; adds = AddsAssignment }
sort_of what.Masked = record (with_body WhereBody CountsStatement) { yields = YieldsValue; controls = ControlsMask; adds = AddsMask }
sort_of what.Elsewhere = record other { line = true; yields = YieldsElseValue; controls = ControlsElseMask; adds = AddsElseMask }
sort_of (what.Forall names) = record (with_body ForallBody CountsStatement) { yields = YieldsHeader names; adds = AddsHeader }
sort_of what.ForallMask = record other { yields = YieldsTruth; adds = AddsMask }
sort_of what.Workshare = with_body SharedBody CountsStatements
sort_of what.DoLoop = record (with_body LoopBody CountsStep) { yields = YieldsTriplet }
sort_of (what.Allocmem also) = record stating { reaches = true; items = Allocates; also = also; yields = YieldsPairs; counts = CountsStep }
sort_of (what.Freemem also) = record stating { reaches = true; items = Frees; also = also }
sort_of (what.Read also) = record stating { items = Reads; also = also; yields = YieldsItem; counts = CountsStep }
sort_of what.Yield = record other { reaches = true }
sort_of what.YieldElement = record other { reaches = true }
sort_of (what.Constant c) = giving
sort_of (what.Unary op) = record giving { operation = true }
sort_of (what.Binary op) = record giving { operation = true }
sort_of what.Select = record giving { operation = true }
sort_of what.Load = giving
sort_of what.Boxed = record giving { reaches = true; denotes = DenotesArray }
sort_of (what.Bound word dim) = giving
sort_of what.Size = giving
sort_of what.Allocated = record giving { reaches = true }
sort_of (what.Designate subs) = record giving { source = Designates (has_vector subs); denotes = DenotesPart; adds = AddsWholes }
sort_of what.Vector = record giving { whole = true; source = Lists; limits = LimitsItems }
sort_of what.AsExpr = record giving { settles = SettlesCopy }
sort_of what.Elemental = record giving { whole = true; settles = SettlesElements; yields = YieldsElement }
sort_of what.Apply = giving
sort_of (what.Reduce reduction) = record giving { whole = true; adds = AddsReduction }

-- the ops that have a line of their own
abbrev pub has_line : What → Bool
has_line w = (sort_of w).line

-- what stands in the module after its declares, and in a do_loop
abbrev pub is_statement : What → Bool
is_statement w = (sort_of w).statement

abbrev pub is_own_body : Body → Bool
is_own_body NoBody = false
is_own_body WhereBody = true
is_own_body ForallBody = true
is_own_body SharedBody = true
is_own_body LoopBody = true

abbrev pub has_body : What → Bool
has_body w = is_own_body (sort_of w).body

-- its first region has expressions, which are one step
abbrev pub is_one_step : Counts → Bool
is_one_step CountsNothing = false
is_one_step CountsStatement = false
is_one_step CountsStatements = false
is_one_step CountsStep = true

abbrev pub has_step : What → Bool
has_step w = is_one_step (sort_of w).counts

-- some region of it yields
abbrev pub yields_some : Yields → Bool
yields_some YieldsNothing = false
yields_some YieldsSides = true
yields_some YieldsValue = true
yields_some YieldsElseValue = true
yields_some (YieldsHeader names) = true
yields_some YieldsTruth = true
yields_some YieldsTriplet = true
yields_some YieldsPairs = true
yields_some YieldsItem = true
yields_some YieldsElement = true

abbrev pub has_yield : What → Bool
has_yield w = yields_some (sort_of w).yields

-- Both are items of an ALLOCATE, of a DEALLOCATE or of a READ.
abbrev pub same_items : Items → Items → Bool
same_items Alone Alone = false
same_items Alone Allocates = false
same_items Alone Frees = false
same_items Alone Reads = false
same_items Allocates Alone = false
same_items Allocates Allocates = true
same_items Allocates Frees = false
same_items Allocates Reads = false
same_items Frees Alone = false
same_items Frees Allocates = false
same_items Frees Frees = true
same_items Frees Reads = false
same_items Reads Alone = false
same_items Reads Allocates = false
same_items Reads Frees = false
same_items Reads Reads = true

abbrev pub same_sort : What → What → Bool
same_sort a b = same_items (sort_of a).items (sort_of b).items

abbrev pub is_also : What → Bool
is_also w = (sort_of w).also

-- the ops that give values, without the declares
abbrev pub is_value_op : What → Bool
is_value_op w = (sort_of w).value

-- the operations on elements
abbrev pub is_operation : What → Bool
is_operation w = (sort_of w).operation

-- a reduction, a vector or an elemental
abbrev pub is_whole_op : What → Bool
is_whole_op w = (sort_of w).whole

abbrev pub may_take_allocatable : What → Bool
may_take_allocatable w = (sort_of w).reaches

-- ---- tests for one op

abbrev pub is_declare : What → Bool
is_declare (what.Declare name) = true
is_declare _ = false

abbrev pub is_assign : What → Bool
is_assign (what.Assign realloc) = true
is_assign _ = false

abbrev pub is_where : What → Bool
is_where what.Masked = true
is_where _ = false

abbrev pub is_elsewhere : What → Bool
is_elsewhere what.Elsewhere = true
is_elsewhere _ = false

abbrev pub is_forall : What → Bool
is_forall (what.Forall names) = true
is_forall _ = false

abbrev pub is_forall_mask : What → Bool
is_forall_mask what.ForallMask = true
is_forall_mask _ = false

abbrev pub shares : What → Bool
shares what.Workshare = true
shares _ = false

abbrev pub is_yield : What → Bool
is_yield what.Yield = true
is_yield _ = false

abbrev pub is_yield_element : What → Bool
is_yield_element what.YieldElement = true
is_yield_element _ = false

abbrev pub is_elemental : What → Bool
is_elemental what.Elemental = true
is_elemental _ = false

abbrev pub is_apply : What → Bool
is_apply what.Apply = true
is_apply _ = false
