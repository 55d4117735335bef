-- What a builder holds: a module of which some regions are entered and not left.
use Rattle.std.specs.Prelude.{◌≡◌, ℕ, suc, ◌+◌, Bool, false, ◌||◌, if◌then◌else◌, List, [], ◌∷◌, ◌++◌, length, Option, Some, None, bytes_eq}
use Rattle.ws_base.specs.declared.name.Name.{Name}
use Rattle.hlfir_ops.specs.declared.kinds.ValueKind.{ValueKind}
use Rattle.hlfir_ops.specs.declared.what.What.{What}
use Rattle.hlfir_ops.specs.declared.op.ValueId.{ValueId}
use Rattle.hlfir_ops.specs.declared.op.Op.{Op, out-Op}
use Rattle.hlfir_ops.specs.declared.op.Region.{Region}
pub use Rattle.hlfir_ops.specs.Sorts.{has_line, is_where}
use Rattle.hlfir_ops.specs.Trees.{op_of, region_of}
use Rattle.hlfir_ops.specs.Numbers.{names_in, own_numbers, numbers_of, numbers_in}

-- an op of which a region is entered, with the regions that were left, and the ops before it at its place
pub record Place : Type 0 where
  pub before : List Op
  pub what : What
  pub line : ℕ
  pub operands : List ValueId
  pub kind : Option ValueKind
  pub regions : List Region

-- the ops at the innermost place, and the places around it, from the innermost one out
pub record Built : Type 0 where
  pub name : Name
  pub around : List Place
  pub ops : List Op

-- ---- how it grows

abbrev pub begun : Name → Built
begun name = record { name = name; around = []; ops = [] }

-- with this op as the last one
abbrev pub appended : Built → Op → Built
appended b op = record { name = b.name; around = b.around; ops = b.ops ++ op ∷ [] }

abbrev pub HasNoRegions : Op → Type 0
HasNoRegions op = (out-Op op).regions ≡ []

-- the next region of the op that was appended last is entered
abbrev pub Enters : Built → Built → Type 0
Enters old new = (before : List Op) (what : What) (line : ℕ) (operands : List ValueId) (kind : Option ValueKind) (regions : List Region) → old.ops ≡ before ++ op_of what line operands kind regions ∷ [] →
    new ≡ record { name = old.name; around = (record { before = before; what = what; line = line; operands = operands; kind = kind; regions = regions }) ∷ old.around; ops = [] }

-- the op of this place, with these ops as its next region
abbrev pub closed : Place → List Op → Op
closed p ops = op_of p.what p.line p.operands p.kind (p.regions ++ region_of ops ∷ [])

abbrev pub left_of : Name → List Place → List Op → Built
left_of name [] ops = record { name = name; around = []; ops = ops }
left_of name (p ∷ around) ops = record { name = name; around = around; ops = p.before ++ closed p ops ∷ [] }

-- the innermost region is left
abbrev pub left : Built → Built
left b = left_of b.name b.around b.ops

-- ---- numbers

-- the number of the first value in the region that is entered here, index names counted, where so many numbers are taken around it
abbrev pub first_in : ℕ → Place → ℕ
first_in around p = around + (numbers_of p.before + (own_numbers p.kind + numbers_in p.what 0 p.regions))

-- the index names that this region brings
abbrev pub names_at : Place → List Name
names_at p = names_in p.what (length p.regions)

abbrev pub taken_around : List Place → ℕ
taken_around [] = 0
taken_around (p ∷ around) = first_in (taken_around around) p + length (names_at p)

-- how many numbers are taken, which is the next free number
abbrev pub taken : Built → ℕ
taken b = taken_around b.around + numbers_of b.ops

-- ---- what is entered

-- the last one of these names, numbered from this number on, that is this name; or what was found around them
abbrev pub index_here : Name → ℕ → List Name → Option ValueId → Option ValueId
index_here name first [] found = found
index_here name first (x ∷ xs) found = index_here name (suc first) xs (if bytes_eq x name then Some (record { number = first }) else found)

-- The value of an index name. Numbers rise from the outermost place to the innermost one, so the last one has the greatest.
abbrev pub index_around : Name → List Place → Option ValueId
index_around name [] = None
index_around name (p ∷ around) = index_here name (first_in (taken_around around) p) (names_at p) (index_around name around)

-- some region of a WHERE is entered
abbrev pub masked_around : List Place → Bool
masked_around [] = false
masked_around (p ∷ around) = is_where p.what || masked_around around

-- the line of the nearest op around that has one, and 0 where there is none
abbrev pub line_around : List Place → ℕ
line_around [] = 0
line_around (p ∷ around) = if has_line p.what then p.line else line_around around
