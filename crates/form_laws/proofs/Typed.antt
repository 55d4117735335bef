-- Operands that have the types of their expressions, and operations on these.
use Rattle.std.proofs.Common.{◌≡◌, refl, sym, ap, ◌∙◌, subst, ℕ, ◌==◌, ◌⊎◌, inl, inr, Bool, true, false, List, [], ◌∷◌, arith}
use Rattle.std.specs.Prelude.{max}
use Rattle.ws_base.specs.declared.op.BinOp.{BinOp}
use Rattle.ws_base.specs.declared.op.BinOp.TheVariants as bin
use Rattle.ws_types.specs.declared.types.Typed.{Typed}
use Rattle.ws_types.specs.Operations.{differ, joins_truths}
use Rattle.hlfir_ops.specs.declared.kinds.Elem.{Elem}
use Rattle.hlfir_ops.specs.declared.kinds.Elem.TheVariants.{I1}
use Rattle.hlfir_ops.specs.declared.what.ValueUnary.{ValueUnary}
use Rattle.hlfir_ops.specs.declared.what.ValueBinary.{ValueBinary}
use Rattle.hlfir_ops.specs.declared.what.What.TheVariants as what
use Rattle.hlfir_ops.specs.RulesValues.{Value, elem_of, rank_of}
use Rattle.hlfir_ops.specs.RulesForms.{unary_elem, operand_elem, result_elem}
use Rattle.lower_values.specs.declared.operand.Operand.{Operand}
use Rattle.lower_assign.specs.Known.{elem}
use Rattle.lower_values.specs.Scopes.{Scope}
use Rattle.lower_values.specs.Operations.{operation, rank_from, binary_of, binary_operation}
use Rattle.kind_laws.specs.Found.{Holds}
use Rattle.form_laws.proofs.Operands.{Stands}
use Rattle.form_laws.proofs.Elementals.{HasRank, Conform}
use Rattle.form_laws.proofs.Operations.{takes-unary, takes-binary, takes-select, OfOperation, operation-made, agree}

pub operand_elem-is : (op : BinOp) → elem (joins_truths op) ≡ operand_elem (binary_of op)
operand_elem-is bin.Add = refl
operand_elem-is bin.Sub = refl
operand_elem-is bin.Mul = refl
operand_elem-is bin.Div = refl
operand_elem-is bin.Pow = refl
operand_elem-is bin.Eq = refl
operand_elem-is bin.Ne = refl
operand_elem-is bin.Lt = refl
operand_elem-is bin.Le = refl
operand_elem-is bin.Gt = refl
operand_elem-is bin.Ge = refl
operand_elem-is bin.And = refl
operand_elem-is bin.Or = refl
operand_elem-is bin.Eqv = refl
operand_elem-is bin.Neqv = refl

-- ---- ranks of several operands

is_zero : (r : ℕ) → r ≡ 0 → (r == 0) ≡ true
is_zero r h = ap (λ k. k == 0) h

one_rank : (x : Operand) → HasRank (rank_from 0 (x ∷ [])) x
one_rank x = inr (omega arith)

max_agree : (r q : ℕ) → differ r q ≡ false → ((r ≡ 0) ⊎ (r ≡ max r q)) × ((q ≡ 0) ⊎ (q ≡ max r q))
max_agree r q h = elim (agree r q h) as (λ _. ((r ≡ 0) ⊎ (r ≡ max r q)) × ((q ≡ 0) ⊎ (q ≡ max r q))) [
  | inl z ↦ (inl z, inr (omega (arith, z)))
  | inr o ↦ elim o as (λ _. ((r ≡ 0) ⊎ (r ≡ max r q)) × ((q ≡ 0) ⊎ (q ≡ max r q))) [ inl z ↦ (inr (omega (arith, z)), inl z) | inr e ↦ (inr (omega (arith, e)), inr (omega (arith, e))) ]
]

ranked : (x : Operand) (rank high : ℕ) → ((rank_of x.kind ≡ 0) ⊎ (rank_of x.kind ≡ rank)) → rank ≡ high → HasRank high x
ranked x rank high (inl z) e = inl (is_zero (rank_of x.kind) z)
ranked x rank high (inr r) e = inr (r ∙ e)

module _ (vs : List Value) where
  pub conform-one : (x : Operand) → Stands vs x → Conform vs (rank_from 0 (x ∷ [])) (x ∷ [])
  conform-one x h = ((h, one_rank x), tt)

  pub conform-two : (x y : Operand) → Stands vs x → Stands vs y → differ (rank_of x.kind) (rank_of y.kind) ≡ false → Conform vs (rank_from 0 (x ∷ y ∷ [])) (x ∷ y ∷ [])
  conform-two x y h g d =
      let r = rank_of x.kind in
      let q = rank_of y.kind in
      let both = max_agree r q d in
      let same : max r q ≡ max (max 0 r) q = omega arith in
      ((h, ranked x (max r q) (max (max 0 r) q) both.0 same), ((g, ranked y (max r q) (max (max 0 r) q) both.1 same), tt))

  -- three operands of which each has the rank of those before it, or one of the two ranks is 0
  three : (a b c : ℕ) → differ a b ≡ false → differ (max a b) c ≡ false → ((a ≡ 0) ⊎ (a ≡ max (max a b) c)) × ((b ≡ 0) ⊎ (b ≡ max (max a b) c)) × ((c ≡ 0) ⊎ (c ≡ max (max a b) c))
  three a b c h g =
      let first = max_agree a b h in
      let last = max_agree (max a b) c g in
      let lift : (r : ℕ) → ((r ≡ 0) ⊎ (r ≡ max a b)) → r ≡ 0 ⊎ (r ≡ max (max a b) c) = λ r o. elim o as (λ _. (r ≡ 0) ⊎ (r ≡ max (max a b) c)) [
        | inl z ↦ inl z
        | inr e ↦ elim last.0 as (λ _. (r ≡ 0) ⊎ (r ≡ max (max a b) c)) [ inl z ↦ inl (e ∙ z) | inr i ↦ inr (e ∙ i) ]
      ] in
      (lift a first.0, lift b first.1, last.1)

  pub conform-three : (x y z : Operand) → Stands vs x → Stands vs y → Stands vs z → differ (rank_of x.kind) (rank_of y.kind) ≡ false → differ (max (rank_of x.kind) (rank_of y.kind)) (rank_of z.kind) ≡ false →
      Conform vs (rank_from 0 (x ∷ y ∷ z ∷ [])) (x ∷ y ∷ z ∷ [])
  conform-three x y z h g k d e =
      let a = rank_of x.kind in
      let b = rank_of y.kind in
      let c = rank_of z.kind in
      let all = three a b c d e in
      let same : max (max a b) c ≡ max (max (max 0 a) b) c = omega arith in
      let high = max (max (max 0 a) b) c in
      ((h, ranked x (max (max a b) c) high all.0 same), ((g, ranked y (max (max a b) c) high all.1 same), ((k, ranked z (max (max a b) c) high all.2 same), tt)))

  -- ---- types

  -- a value of this type
  pub record IsOf (ty : Typed) (x : Operand) : Type 0 where
    pub stands : Stands vs x
    pub of_elem : elem_of x.kind ≡ elem ty.truth
    pub of_rank : rank_of x.kind ≡ ty.rank

  abbrev pub AreOf : List Typed → List Operand → Type 0
  AreOf [] [] = Unit {0}
  AreOf (ty ∷ tys) (x ∷ xs) = IsOf ty x × AreOf tys xs
  AreOf _ _ = ⊥

  module _ (b : Bool) (s : Scope) (n : ℕ) where
    pub unary-made : (op : ValueUnary) (e : Elem) (x : Operand) → unary_elem op ≡ e → Stands vs x → elem_of x.kind ≡ e → Holds vs n (operation (what.Unary op) e (x ∷ []) s n).ops → OfOperation vs b e (rank_from 0 (x ∷ [])) (operation (what.Unary op) e (x ∷ []) s n)
    unary-made op e x is h same held =
        let made : Holds vs n (operation (what.Unary op) (unary_elem op) (x ∷ []) s n).ops → OfOperation vs b (unary_elem op) (rank_from 0 (x ∷ [])) (operation (what.Unary op) (unary_elem op) (x ∷ []) s n) =
        operation-made vs (what.Unary op) (unary_elem op) (unary_elem op ∷ []) (takes-unary op) s n (x ∷ []) (ap (λ f. f ∷ []) (same ∙ sym is)) (conform-one x h) b in
        subst (λ f. Holds vs n (operation (what.Unary op) f (x ∷ []) s n).ops → OfOperation vs b f (rank_from 0 (x ∷ [])) (operation (what.Unary op) f (x ∷ []) s n)) is made held

    pub binary-made : (op : ValueBinary) (x y : Operand) → Stands vs x → Stands vs y → elem_of x.kind ≡ operand_elem op → elem_of y.kind ≡ operand_elem op → differ (rank_of x.kind) (rank_of y.kind) ≡ false →
        Holds vs n (binary_operation op x y s n).ops → OfOperation vs b (result_elem op) (rank_from 0 (x ∷ y ∷ [])) (binary_operation op x y s n)
    binary-made op x y h g e f d held =
        operation-made vs (what.Binary op) (result_elem op) (operand_elem op ∷ operand_elem op ∷ []) (takes-binary op) s n (x ∷ y ∷ []) (ap (λ l. l ∷ elem_of y.kind ∷ []) e ∙ ap (λ l. operand_elem op ∷ l ∷ []) f) (conform-two x y h g d) b held

    pub select-made : (e : Elem) (x y z : Operand) → Stands vs x → Stands vs y → Stands vs z → elem_of x.kind ≡ e → elem_of y.kind ≡ e → elem_of z.kind ≡ I1 → differ (rank_of x.kind) (rank_of y.kind) ≡ false → differ (max (rank_of x.kind) (rank_of y.kind)) (rank_of z.kind) ≡ false →
        Holds vs n (operation what.Select e (x ∷ y ∷ z ∷ []) s n).ops → OfOperation vs b e (rank_from 0 (x ∷ y ∷ z ∷ [])) (operation what.Select e (x ∷ y ∷ z ∷ []) s n)
    select-made e x y z h g k i j m d f held =
        operation-made vs what.Select e (e ∷ e ∷ I1 ∷ []) (takes-select e) s n (x ∷ y ∷ z ∷ [])
        (ap (λ l. l ∷ elem_of y.kind ∷ elem_of z.kind ∷ []) i ∙ (ap (λ l. e ∷ l ∷ elem_of z.kind ∷ []) j ∙ ap (λ l. e ∷ e ∷ l ∷ []) m)) (conform-three x y z h g k d f) b held
