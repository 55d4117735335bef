-- Ranks of the terms that operators and calls give.
use Rattle.std.proofs.Common.{◌≡◌, ◌∙◌, ℕ, ◌<◌, false, List, length, max, Ok, IfOk, arith}
use Rattle.std.proofs.lemmas.List.Elements.{All-nil, All-append, All-weaker}
use Rattle.ws_base.specs.declared.op.UnOp.{UnOp}
use Rattle.ws_base.specs.declared.op.UnOp.TheVariants as un
use Rattle.ws_base.specs.declared.op.BinOp.{BinOp}
use Rattle.ws_space.specs.Shapes.{Extents}
use Rattle.ws_types.specs.Operations.{differ}
use Rattle.array_meaning.specs.declared.term.Term.{Term}
use Rattle.array_meaning.specs.declared.term.Term.TheVariants.{Scalar, Listed, Section', Unary', Binary', Call', Unary, Binary}
use Rattle.array_meaning.specs.Terms.{terms_open}
use Rattle.array_meaning.specs.Stage2.{operands}
use Rattle.array_meaning.specs.Stage1.{unary_on, binary_on}
use Rattle.array_meaning.proofs.Chains.{after_each}
use Rattle.where_laws.specs.Laws.{HaveRank}

-- A scalar has rank 0, and any other term a rank above it, which is that of its operands.
abbrev pub HasRank : ℕ → Term → Type 0
HasRank n (Scalar z) = n ≡ 0
HasRank n t = (0 < n) × HaveRank n (operands t)

pub operands_ranked : (n : ℕ) (t : Term) → HasRank n t → HaveRank n (operands t)
operands_ranked n (Scalar z) h = All-nil (λ e. (length e ≡ n) × (0 < n))
operands_ranked n (Listed xs) h = h.1
operands_ranked n (Section' a i ps) h = h.1
operands_ranked n (Unary' op i ts) h = h.1
operands_ranked n (Binary' op i ts j us) h = h.1
operands_ranked n (Call' w i ts) h = h.1

-- the same operands under a rank that theirs is, if it is any
pub lift : (m k : ℕ) (es : List Extents) → (0 < m → m ≡ k) → HaveRank m es → HaveRank k es
lift m k es same h =
    All-weaker (λ e. (length e ≡ m) × (0 < m)) (λ e. (length e ≡ k) × (0 < k)) (λ e g. (g.0 ∙ same g.1, let eq = same g.1 in let low = g.1 in omega (arith, eq, low))) es h

-- ---- operators

unary_arrays : (op : UnOp) (n : ℕ) (t : Term) → 0 < n → HaveRank n (operands t) → HasRank n (Unary op t)
unfolding terms_open
unary_arrays op n t low h = (low, h)

pub unary_ranked : (op : UnOp) (n : ℕ) (t : Term) → HasRank n t → IfOk (unary_on op t) (HasRank n)
unary_ranked op n (Scalar z) h = after_each (HasRank n) _ (λ x. Ok (Scalar x)) (λ x. h)
unary_ranked un.Plus n (Listed xs) h = h
unary_ranked un.Plus n (Section' a i ps) h = h
unary_ranked un.Plus n (Unary' op i ts) h = h
unary_ranked un.Plus n (Binary' op i ts j us) h = h
unary_ranked un.Plus n (Call' w i ts) h = h
unary_ranked un.Minus n (Listed xs) h = unary_arrays un.Minus n (Listed xs) h.0 h.1
unary_ranked un.Minus n (Section' a i ps) h = unary_arrays un.Minus n (Section' a i ps) h.0 h.1
unary_ranked un.Minus n (Unary' op i ts) h = unary_arrays un.Minus n (Unary' op i ts) h.0 h.1
unary_ranked un.Minus n (Binary' op i ts j us) h = unary_arrays un.Minus n (Binary' op i ts j us) h.0 h.1
unary_ranked un.Minus n (Call' w i ts) h = unary_arrays un.Minus n (Call' w i ts) h.0 h.1
unary_ranked un.Not n (Listed xs) h = unary_arrays un.Not n (Listed xs) h.0 h.1
unary_ranked un.Not n (Section' a i ps) h = unary_arrays un.Not n (Section' a i ps) h.0 h.1
unary_ranked un.Not n (Unary' op i ts) h = unary_arrays un.Not n (Unary' op i ts) h.0 h.1
unary_ranked un.Not n (Binary' op i ts j us) h = unary_arrays un.Not n (Binary' op i ts j us) h.0 h.1
unary_ranked un.Not n (Call' w i ts) h = unary_arrays un.Not n (Call' w i ts) h.0 h.1

-- two ranks of which none is 0 are one
pub agree_first : (m n : ℕ) → differ m n ≡ false → 0 < m → m ≡ max m n
agree_first m n h low = grind (arith, h, low)

pub agree_second : (m n : ℕ) → differ m n ≡ false → 0 < n → n ≡ max m n
agree_second m n h low = grind (arith, h, low)

module _ (op : BinOp) (m n : ℕ) (one : differ m n ≡ false) where
  binary_arrays : (t u : Term) → 0 < max m n → HaveRank m (operands t) → HaveRank n (operands u) → HasRank (max m n) (Binary op t u)
  unfolding terms_open
  binary_arrays t u low h g = (
    low,
    All-append (λ e. (length e ≡ max m n) × (0 < max m n)) (operands t) (operands u) (lift m (max m n) (operands t) (agree_first m n one) h) (lift n (max m n) (operands u) (agree_second m n one) g),
  )

  first_arrays : (t u : Term) → 0 < m → HaveRank m (operands t) → HasRank n u → HasRank (max m n) (Binary op t u)
  first_arrays t u low h g = binary_arrays t u (let same = agree_first m n one low in omega (arith, low, same)) h (operands_ranked n u g)

  second_arrays : (t u : Term) → HasRank m t → 0 < n → HaveRank n (operands u) → HasRank (max m n) (Binary op t u)
  second_arrays t u h low g = binary_arrays t u (let same = agree_second m n one low in omega (arith, low, same)) (operands_ranked m t h) g

  pub binary_ranked : (t u : Term) → HasRank m t → HasRank n u → IfOk (binary_on op t u) (HasRank (max m n))
  binary_ranked (Scalar z) (Scalar y) h g = after_each (HasRank (max m n)) _ (λ x. Ok (Scalar x)) (λ x. grind (arith, h, g))
  binary_ranked (Scalar z) (Listed xs) h g = second_arrays (Scalar z) (Listed xs) h g.0 g.1
  binary_ranked (Scalar z) (Section' a i ps) h g = second_arrays (Scalar z) (Section' a i ps) h g.0 g.1
  binary_ranked (Scalar z) (Unary' o i ts) h g = second_arrays (Scalar z) (Unary' o i ts) h g.0 g.1
  binary_ranked (Scalar z) (Binary' o i ts j us) h g = second_arrays (Scalar z) (Binary' o i ts j us) h g.0 g.1
  binary_ranked (Scalar z) (Call' w i ts) h g = second_arrays (Scalar z) (Call' w i ts) h g.0 g.1
  binary_ranked (Listed xs) u h g = first_arrays (Listed xs) u h.0 h.1 g
  binary_ranked (Section' a i ps) u h g = first_arrays (Section' a i ps) u h.0 h.1 g
  binary_ranked (Unary' o i ts) u h g = first_arrays (Unary' o i ts) u h.0 h.1 g
  binary_ranked (Binary' o i ts j us) u h g = first_arrays (Binary' o i ts j us) u h.0 h.1 g
  binary_ranked (Call' w i ts) u h g = first_arrays (Call' w i ts) u h.0 h.1 g
