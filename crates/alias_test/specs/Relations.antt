-- How two designators lie to one another.
use Rattle.std.specs.Prelude.{ℕ, ◌≢◌, ◌==◌, Bool, true, false, not, ◌&&◌, ◌||◌, if◌then◌else◌, List, [], ◌∷◌, Option, Some, None, ℤ, pos}
use Rattle.std.specs.List.{All, list_any}
use Rattle.ws_base.specs.Numbers.{int_eq}
use Rattle.ws_base.specs.declared.op.UnOp.{UnOp}
use Rattle.ws_base.specs.declared.op.UnOp.TheVariants as unary
use Rattle.ws_base.specs.declared.op.BinOp.{BinOp}
use Rattle.ws_base.specs.declared.op.BinOp.TheVariants as binary
use Rattle.ws_space.specs.declared.shape.Triplet.{Triplet}
use Rattle.ws_space.specs.Subscripts.{selected}
use Rattle.ws_space.specs.Masks.{same_truth}
use Rattle.alias_test.specs.declared.designator.Relation.{Relation}
use Rattle.alias_test.specs.declared.designator.Relation.TheVariants.{Same, Disjoint, May}
use Rattle.alias_test.specs.declared.designator.Sym.{Sym}
use Rattle.alias_test.specs.declared.designator.Sym.TheVariants.{Number, Truth, Scalar, Index as IndexName, Unary, Binary, Kept, Size, Bound}
use Rattle.alias_test.specs.declared.designator.Form.{Form}
use Rattle.alias_test.specs.declared.designator.Form.TheVariants.{Index, Range, OpaqueIndex, OpaqueRange}
use Rattle.alias_test.specs.declared.designator.Designator.{Designator}
use Rattle.alias_test.specs.Symbols.{Tree}

-- ---- lists of subscripts

-- the subscripts that a constant form selects
unfoldable pub constants_of : Form → Option (List ℤ)
constants_of (Index i) = Some (i ∷ [])
constants_of (Range t) = Some (selected t)
constants_of f = None

abbrev pub share_member : List ℤ → List ℤ → Bool
share_member is js = list_any (λ i. list_any (int_eq i) js) is

abbrev pub are_apart : Option (List ℤ) → Option (List ℤ) → Bool
are_apart (Some is) (Some js) = not (share_member is js)
are_apart _ _ = false

abbrev pub same_list : List ℤ → List ℤ → Bool
same_list [] [] = true
same_list (i ∷ is) (j ∷ js) = int_eq i j && same_list is js
same_list _ _ = false

-- ---- trees

-- where each operator stands among all
abbrev pub unary_place : UnOp → ℕ
unary_place unary.Minus = 0
unary_place unary.Plus = 1
unary_place unary.Not = 2

abbrev pub binary_place : BinOp → ℕ
binary_place binary.Add = 0
binary_place binary.Sub = 1
binary_place binary.Mul = 2
binary_place binary.Div = 3
binary_place binary.Pow = 4
binary_place binary.Eq = 5
binary_place binary.Ne = 6
binary_place binary.Lt = 7
binary_place binary.Le = 8
binary_place binary.Gt = 9
binary_place binary.Ge = 10
binary_place binary.And = 11
binary_place binary.Or = 12
binary_place binary.Eqv = 13
binary_place binary.Neqv = 14

-- Other is the same as nothing, itself too.
abbrev pub same_symbol : Sym → Sym → Bool
same_symbol (Number a) (Number b) = int_eq a b
same_symbol (Truth a) (Truth b) = same_truth a b
same_symbol (Scalar m) (Scalar n) = m == n
same_symbol (IndexName m) (IndexName n) = m == n
same_symbol (Unary f) (Unary g) = unary_place f == unary_place g
same_symbol (Binary f) (Binary g) = binary_place f == binary_place g
same_symbol (Kept m d u) (Kept n e v) = m == n && d == e && same_truth u v
same_symbol (Size m d) (Size n e) = m == n && d == e
same_symbol (Bound m d u) (Bound n e v) = m == n && d == e && same_truth u v
same_symbol _ _ = false

abbrev pub same_tree : Tree → Tree → Bool
same_tree [] [] = true
same_tree (s ∷ ss) (t ∷ ts) = same_symbol s t && same_tree ss ts
same_tree _ _ = false

-- ---- forms of one dimension

-- Both are constant, and select no subscript in common.
abbrev pub apart : Form → Form → Bool
apart f g = are_apart (constants_of f) (constants_of g)

unfoldable pub same_range : Triplet → Triplet → Bool
same_range t u = same_list (selected t) (selected u)

-- both constant of one sort, with the same subscripts in the same order; or both opaque of one sort, with the same trees
abbrev pub alike : Form → Form → Bool
alike (Index i) (Index j) = int_eq i j
alike (Range t) (Range u) = same_range t u
alike (OpaqueIndex x) (OpaqueIndex y) = same_tree x y
alike (OpaqueRange x) (OpaqueRange y) = same_tree x y
alike _ _ = false

-- ---- designators

abbrev pub some_apart : List Form → List Form → Bool
some_apart (f ∷ fs) (g ∷ gs) = apart f g || some_apart fs gs
some_apart _ _ = false

abbrev pub all_alike : List Form → List Form → Bool
all_alike [] [] = true
all_alike (f ∷ fs) (g ∷ gs) = alike f g && all_alike fs gs
all_alike _ _ = false

-- Disjoint is tried first, so two empty sections of one variable are Disjoint.
unfoldable pub relation : Designator → Designator → Relation
relation a b = if not (a.var == b.var) || some_apart a.forms b.forms then Disjoint else (if all_alike a.forms b.forms then Same else May)

-- ---- what the relation is asked of

abbrev pub HasStride : Form → Type 0
HasStride (Range t) = t.s ≢ pos 0
HasStride f = Unit {0}

-- Each triplet of constants has a stride.
abbrev pub HasStrides : Designator → Type 0
HasStrides d = All HasStride d.forms
