-- Pairs of designators and how they lie to one another.
use Rattle.std.proofs.Common.{◌≡◌, refl, ℕ, true, false, List, [], ◌∷◌, map, pos, negsuc}
use Rattle.ws_base.specs.declared.op.UnOp.TheVariants.{Minus, Plus}
use Rattle.ws_base.specs.declared.op.BinOp.TheVariants.{Add, Sub}
use Rattle.alias_test.specs.declared.designator.Relation.{Relation}
use Rattle.alias_test.specs.declared.designator.Relation.TheVariants.{Same, Disjoint, May}
use Rattle.alias_test.specs.declared.designator.Sym.{Sym}
use Rattle.alias_test.specs.declared.designator.Sym.TheVariants as sym
use Rattle.alias_test.specs.declared.designator.Form.{Form}
use Rattle.alias_test.specs.declared.designator.Form.TheVariants.{Index, Range, OpaqueIndex, OpaqueRange, Vector}
use Rattle.alias_test.specs.declared.designator.Designator.{Designator}
use Rattle.alias_test.specs.Relations.{constants_of, same_range, relation}

unfoldable pub relations_open : Unit {0}
unfolding relation constants_of same_range
relations_open = tt

-- ---- short words

abbrev a : List Form → Designator
a forms = record { var = 0; forms = forms }

abbrev b : List Form → Designator
b forms = record { var = 1; forms = forms }

abbrev at : ℕ → Form
at i = Index (pos i)

abbrev up : ℕ → ℕ → ℕ → Form
up l u s = Range (record { l = pos l; u = pos u; s = pos s })

-- a stride below zero, of this magnitude and one more
abbrev down : ℕ → ℕ → ℕ → Form
down l u s = Range (record { l = pos l; u = pos u; s = negsuc s })

-- two designators, and how they lie to one another
record Row : Type 0 where
  left : Designator
  right : Designator
  lies : Relation

abbrev row : Designator → Designator → Relation → Row
row d e r = record { left = d; right = e; lies = r }

-- two designators of one variable
abbrev one : Form → Form → Relation → Row
one f g r = row (a (f ∷ [])) (a (g ∷ [])) r

abbrev opaque : List Sym → List Sym → Relation → Row
opaque x y r = one (OpaqueIndex x) (OpaqueIndex y) r

-- ---- constant forms

abbrev constant_rows : List Row
constant_rows =
    -- other variable
    row (a (at 1 ∷ [])) (b (at 1 ∷ [])) Disjoint
    -- scalar with itself
    ∷ row (a []) (a []) Same
    -- another index
    ∷ one (at 3) (at 4) Disjoint
    -- same index
    ∷ one (at 3) (at 3) Same
    -- index and range of one
    ∷ one (at 1) (up 1 1 1) May
    -- index in whole
    ∷ one (at 1) (up 1 5 1) May
    -- index past range
    ∷ one (at 6) (up 1 5 1) Disjoint
    -- index between members
    ∷ one (at 4) (up 1 9 2) Disjoint
    -- whole with itself
    ∷ one (up 1 5 1) (up 1 5 1) Same
    -- shifted
    ∷ one (up 2 5 1) (up 1 4 1) May
    -- strides that meet: both have 3
    ∷ one (up 1 9 2) (up 3 10 3) May
    -- odd and even
    ∷ one (up 1 9 2) (up 2 10 2) Disjoint
    -- strides that meet too late: 1, 5 and 3, 9, 15 would meet in 9
    ∷ one (up 1 5 4) (up 3 15 6) Disjoint
    -- strides that never meet: 2 divides both strides and not the distance
    ∷ one (up 1 37 6) (up 4 34 10) Disjoint
    -- reversed
    ∷ one (down 5 1 0) (up 1 5 1) May
    -- reversed by two
    ∷ one (up 1 9 2) (down 9 1 1) May
    -- downward odd and even
    ∷ one (down 10 2 1) (up 1 9 2) Disjoint
    -- same members by another bound: 1, 3, 5, 7 either way
    ∷ one (up 1 8 2) (up 1 7 2) Same
    -- one member by another stride
    ∷ one (up 3 4 5) (up 3 3 1) Same
    -- empty with itself
    ∷ one (up 1 0 1) (up 1 0 1) Disjoint
    -- empty in whole
    ∷ one (up 5 1 1) (up 1 5 1) Disjoint
    -- below zero
    ∷ one (Range (record { l = negsuc 2; u = pos 3; s = pos 2 })) (at 1) May
    ∷ []

-- ---- opaque forms and vectors

abbrev opaque_rows : List Row
opaque_rows =
    -- load of n
    opaque (sym.Scalar 1 ∷ []) (sym.Scalar 1 ∷ []) Same
    -- loads of two
    ∷ opaque (sym.Scalar 1 ∷ []) (sym.Scalar 2 ∷ []) May
    -- index names of two
    ∷ opaque (sym.Index 1 ∷ []) (sym.Index 2 ∷ []) May
    -- scalar and index name
    ∷ opaque (sym.Scalar 1 ∷ []) (sym.Index 1 ∷ []) May
    -- sum and sum
    ∷ opaque (sym.Scalar 1 ∷ sym.Number (pos 1) ∷ sym.Binary Add ∷ []) (sym.Scalar 1 ∷ sym.Number (pos 1) ∷ sym.Binary Add ∷ []) Same
    -- sum and difference
    ∷ opaque (sym.Scalar 1 ∷ sym.Number (pos 1) ∷ sym.Binary Add ∷ []) (sym.Scalar 1 ∷ sym.Number (pos 1) ∷ sym.Binary Sub ∷ []) May
    -- minus and plus
    ∷ opaque (sym.Scalar 1 ∷ sym.Unary Minus ∷ []) (sym.Scalar 1 ∷ sym.Unary Plus ∷ []) May
    -- longer tree
    ∷ opaque (sym.Scalar 1 ∷ []) (sym.Scalar 1 ∷ sym.Unary Minus ∷ []) May
    -- truths
    ∷ opaque (sym.Truth true ∷ []) (sym.Truth true ∷ []) Same
    -- two truths
    ∷ opaque (sym.Truth true ∷ []) (sym.Truth false ∷ []) May
    -- size of one variable
    ∷ opaque (sym.Size 0 0 ∷ []) (sym.Size 0 1 ∷ []) May
    -- kept and inquired
    ∷ opaque (sym.Kept 0 1 true ∷ []) (sym.Bound 0 1 true ∷ []) May
    -- lower and upper
    ∷ opaque (sym.Kept 0 1 true ∷ []) (sym.Kept 0 1 false ∷ []) May
    -- other part
    ∷ opaque (sym.Other ∷ []) (sym.Other ∷ []) May
    -- other under an operator
    ∷ opaque (sym.Other ∷ sym.Unary Minus ∷ []) (sym.Other ∷ sym.Unary Minus ∷ []) May
    -- index and opaque
    ∷ one (at 1) (OpaqueIndex (sym.Scalar 1 ∷ [])) May
    -- sorts of opaque
    ∷ one (OpaqueRange (sym.Scalar 1 ∷ [])) (OpaqueIndex (sym.Scalar 1 ∷ [])) May
    -- kept bounds: a whole allocatable
    ∷ one (OpaqueRange (sym.Kept 0 1 false ∷ sym.Kept 0 1 true ∷ sym.Number (pos 1) ∷ [])) (OpaqueRange (sym.Kept 0 1 false ∷ sym.Kept 0 1 true ∷ sym.Number (pos 1) ∷ [])) Same
    -- vectors
    ∷ one Vector Vector May
    -- vector and empty
    ∷ one Vector (up 1 0 1) May
    ∷ []

-- ---- two dimensions

abbrev dimension_rows : List Row
dimension_rows =
    -- second apart
    row (a (OpaqueIndex (sym.Scalar 1 ∷ []) ∷ at 1 ∷ [])) (a (OpaqueIndex (sym.Scalar 2 ∷ []) ∷ at 2 ∷ [])) Disjoint
    -- first apart
    ∷ row (a (up 1 9 2 ∷ Vector ∷ [])) (a (up 2 9 2 ∷ Vector ∷ [])) Disjoint
    -- both alike
    ∷ row (a (up 1 4 1 ∷ OpaqueIndex (sym.Scalar 1 ∷ []) ∷ [])) (a (up 1 4 1 ∷ OpaqueIndex (sym.Scalar 1 ∷ []) ∷ [])) Same
    -- second not alike
    ∷ row (a (up 1 4 1 ∷ at 1 ∷ [])) (a (up 1 4 1 ∷ up 1 2 1 ∷ [])) May
    -- one vector
    ∷ row (a (up 1 4 1 ∷ Vector ∷ [])) (a (up 1 4 1 ∷ Vector ∷ [])) May
    ∷ []

-- ---- all rows

abbrev Hold : List Row → Type 0
Hold rows = map (λ r. relation r.left r.right) rows ≡ map (λ r. r.lies) rows

constant_rows_hold : Hold constant_rows
unfolding relations_open
constant_rows_hold = refl

opaque_rows_hold : Hold opaque_rows
unfolding relations_open
opaque_rows_hold = refl

dimension_rows_hold : Hold dimension_rows
unfolding relations_open
dimension_rows_hold = refl
