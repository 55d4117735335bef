-- Trees and forms that are alike.
use Rattle.std.proofs.Common.{◌≡◌, refl, sym, ap, ◌∙◌, ℕ, Bool, true, false, ◌&&◌, ◌||◌, ◌==◌, [], ◌∷◌, get_or, eqb-true}
use Rattle.std.proofs.lemmas.Bool.{and_parts}
use Rattle.ws_base.specs.declared.op.UnOp.{UnOp}
use Rattle.ws_base.specs.declared.op.UnOp.TheVariants as unary
use Rattle.ws_base.specs.declared.op.BinOp.{BinOp}
use Rattle.ws_base.specs.declared.op.BinOp.TheVariants as binary
use Rattle.ws_space.specs.declared.shape.Triplet.{Triplet}
use Rattle.ws_space.specs.Subscripts.{selected}
use Rattle.alias_test.specs.declared.designator.Sym.{Sym}
use Rattle.alias_test.specs.declared.designator.Sym.TheVariants.{Number, Truth, Scalar, Index as IndexName, Unary, Binary, Kept, Size, Bound}
use Rattle.alias_test.specs.declared.designator.Form.{Form}
use Rattle.alias_test.specs.declared.designator.Form.TheVariants.{Index, Range, OpaqueIndex, OpaqueRange}
use Rattle.alias_test.specs.Symbols.{Tree}
use Rattle.ws_space.specs.Masks.{same_truth}
use Rattle.alias_test.specs.Relations.{unary_place, binary_place, same_symbol, same_tree, same_range, alike}
use Rattle.alias_test.specs.Elements.{Valuation, AgreesWith, is_other, has_other, subscripts_in}
use Rattle.alias_test.proofs.Numbers.{never, int_eq-true, same_list-true}

-- ---- symbols

same_truth-true : (a b : Bool) → same_truth a b ≡ true → a ≡ b
same_truth-true true true h = refl
same_truth-true true false h = never h
same_truth-true false true h = never h
same_truth-true false false h = refl

unary_at : ℕ → UnOp
unary_at n = get_or (unary.Minus ∷ unary.Plus ∷ unary.Not ∷ []) n unary.Minus

unary_at-place : (f : UnOp) → unary_at (unary_place f) ≡ f
unfolding unary_at
unary_at-place unary.Minus = refl
unary_at-place unary.Plus = refl
unary_at-place unary.Not = refl

binary_at : ℕ → BinOp
binary_at n =
    get_or (binary.Add ∷ binary.Sub ∷ binary.Mul ∷ binary.Div ∷ binary.Pow ∷ binary.Eq ∷ binary.Ne ∷ binary.Lt ∷ binary.Le ∷ binary.Gt ∷ binary.Ge ∷ binary.And ∷ binary.Or ∷ binary.Eqv ∷ binary.Neqv ∷ []) n binary.Add

binary_at-place : (f : BinOp) → binary_at (binary_place f) ≡ f
unfolding binary_at
binary_at-place binary.Add = refl
binary_at-place binary.Sub = refl
binary_at-place binary.Mul = refl
binary_at-place binary.Div = refl
binary_at-place binary.Pow = refl
binary_at-place binary.Eq = refl
binary_at-place binary.Ne = refl
binary_at-place binary.Lt = refl
binary_at-place binary.Le = refl
binary_at-place binary.Gt = refl
binary_at-place binary.Ge = refl
binary_at-place binary.And = refl
binary_at-place binary.Or = refl
binary_at-place binary.Eqv = refl
binary_at-place binary.Neqv = refl

same_unary : (f g : UnOp) → (unary_place f == unary_place g) ≡ true → f ≡ g
same_unary f g h = sym (unary_at-place f) ∙ (ap unary_at (eqb-true (unary_place f) (unary_place g) h) ∙ unary_at-place g)

same_binary : (f g : BinOp) → (binary_place f == binary_place g) ≡ true → f ≡ g
same_binary f g h = sym (binary_at-place f) ∙ (ap binary_at (eqb-true (binary_place f) (binary_place g) h) ∙ binary_at-place g)

two_same : (m n d e : ℕ) → (m == n && d == e) ≡ true → (m ≡ n) × (d ≡ e)
two_same m n d e h = let both = and_parts (m == n) (d == e) h in (eqb-true m n both.0, eqb-true d e both.1)

abbrev IsOneSymbol : Sym → Sym → Type 0
IsOneSymbol s t = (s ≡ t) × (is_other s ≡ false)

bounds_same : (f : ℕ → ℕ → Bool → Sym) (m n d e : ℕ) (u v : Bool) → (m == n && d == e && same_truth u v) ≡ true → f m d u ≡ f n e v
bounds_same f m n d e u v h =
    let both = and_parts (m == n && d == e) (same_truth u v) h in
    let numbers = two_same m n d e both.0 in
    ap (λ x. f x d u) numbers.0 ∙ (ap (λ x. f n x u) numbers.1 ∙ ap (f n e) (same_truth-true u v both.1))

one_symbol : (s t : Sym) → same_symbol s t ≡ true → IsOneSymbol s t
one_symbol (Number a) (Number b) h = (ap Number (int_eq-true a b h), refl)
one_symbol (Truth a) (Truth b) h = (ap Truth (same_truth-true a b h), refl)
one_symbol (Scalar m) (Scalar n) h = (ap Scalar (eqb-true m n h), refl)
one_symbol (IndexName m) (IndexName n) h = (ap IndexName (eqb-true m n h), refl)
one_symbol (Unary f) (Unary g) h = (ap Unary (same_unary f g h), refl)
one_symbol (Binary f) (Binary g) h = (ap Binary (same_binary f g h), refl)
one_symbol (Kept m d u) (Kept n e v) h = (bounds_same (λ m d u. Kept m d u) m n d e u v h, refl)
one_symbol (Size m d) (Size n e) h = let both = two_same m n d e h in (ap (λ x. Size x d) both.0 ∙ ap (Size n) both.1, refl)
one_symbol (Bound m d u) (Bound n e v) h = (bounds_same (λ m d u. Bound m d u) m n d e u v h, refl)
one_symbol _ _ h = never h

-- ---- trees

abbrev IsOneTree : Tree → Tree → Type 0
IsOneTree x y = (x ≡ y) × (has_other x ≡ false)

one_tree : (x y : Tree) → same_tree x y ≡ true → IsOneTree x y
one_tree [] [] h = (refl, refl)
one_tree [] (t ∷ ts) h = never h
one_tree (s ∷ ss) [] h = never h
one_tree (s ∷ ss) (t ∷ ts) h =
    let both = and_parts (same_symbol s t) (same_tree ss ts) h in
    let first = one_symbol s t both.0 in
    let rest = one_tree ss ts both.1 in
    (ap (λ x. x ∷ ss) first.0 ∙ ap (λ xs. t ∷ xs) rest.0, ap (λ b. b || has_other ss) first.1 ∙ rest.1)

-- ---- forms

same_range-true : (t u : Triplet) → same_range t u ≡ true → selected t ≡ selected u
unfolding same_range
same_range-true t u h = same_list-true (selected t) (selected u) h

pub alike_subscripts : (v w : Valuation) (dim : ℕ) (f g : Form) → AgreesWith v w → alike f g ≡ true → subscripts_in v dim f ≡ subscripts_in w dim g
alike_subscripts v w dim (Index i) (Index j) agree h = ap (λ x. x ∷ []) (int_eq-true i j h)
alike_subscripts v w dim (Range t) (Range u) agree h = same_range-true t u h
alike_subscripts v w dim (OpaqueIndex x) (OpaqueIndex y) agree h = let one = one_tree x y h in ap (λ i. i ∷ []) (agree.index x one.1 ∙ ap w.index one.0)
alike_subscripts v w dim (OpaqueRange x) (OpaqueRange y) agree h = let one = one_tree x y h in ap selected (agree.range x one.1 ∙ ap w.range one.0)
alike_subscripts v w dim _ _ agree h = never h
