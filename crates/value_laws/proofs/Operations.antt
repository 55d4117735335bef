-- Elementwise operations: an op on scalars, and an elemental where an operand is an array.
use Rattle.std.proofs.Common.{◌≡◌, refl, sym, ap, ◌∙◌, subst, ℕ, ◌+◌, ◌<◌, ◌≤◌, ◌==◌, Bool, true, false, List, [], ◌∷◌, ◌++◌, length, Some, Ok, Err, ℤ, arith, if◌then◌else◌}
use Rattle.std.proofs.lemmas.List.{append-nil}
use Rattle.std.specs.Prelude.{max}
use mathlib.Core.Path.{fun_ext}
use Rattle.ws_base.specs.Numbers.{default_half, unary_value, binary_value}
use Rattle.ws_base.specs.Outcomes.{Staged, scalar_of, ◌>>=◌}
use Rattle.ws_base.specs.declared.op.UnOp.{UnOp}
use Rattle.ws_base.specs.declared.op.UnOp.TheVariants as un
use Rattle.ws_base.specs.declared.op.BinOp.{BinOp}
use Rattle.ws_base.specs.declared.op.BinOp.TheVariants as bin
use Rattle.ws_space.specs.Values.{is_among}
use Rattle.array_meaning.specs.declared.term.Term.{Term}
use Rattle.array_meaning.specs.declared.term.Term.TheVariants as term
use Rattle.array_meaning.specs.Terms.{terms_open}
use Rattle.array_meaning.specs.Stage1.{unary_on, binary_on}
use Rattle.array_meaning.specs.Stage2 as source
use Rattle.hlfir_ops.specs.declared.kinds.Elem.{Elem}
use Rattle.hlfir_ops.specs.declared.kinds.Elem.TheVariants.{I32, I1}
use Rattle.hlfir_ops.specs.declared.kinds.ValueKind.TheVariants.{Array}
use Rattle.hlfir_ops.specs.declared.what.ValueUnary.{ValueUnary}
use Rattle.hlfir_ops.specs.declared.what.ValueUnary.TheVariants as unary
use Rattle.hlfir_ops.specs.declared.what.ValueBinary.{ValueBinary}
use Rattle.hlfir_ops.specs.declared.what.What.{What}
use Rattle.hlfir_ops.specs.declared.what.What.TheVariants as what
use Rattle.hlfir_ops.specs.declared.op.Op.{Op}
use Rattle.hlfir_ops.specs.declared.op.Region.{Region}
use Rattle.hlfir_ops.specs.Trees.{op_of, region_of}
use Rattle.hlfir_ops.specs.Numbers.{numbers_of}
use Rattle.hlfir_ops.specs.RulesValues.{rank_of}
use Rattle.hlfir_ops.specs.RulesForms.{result_elem}
use Rattle.hlfir_ops.specs.RulesRegions.{is_apply}
use Rattle.hlfir_ops.proofs.Numbered.{op_numbers-op_of}
use Rattle.hlfir_meaning.specs.Environments.{Value, Environment, scalar_in}
use Rattle.hlfir_meaning.specs.Operators as operators
use Rattle.hlfir_meaning.specs.Operators.{operation_value, operation_map, unary_operation, binary_operation}
use Rattle.hlfir_meaning.specs.Order.{ends}
use Rattle.hlfir_meaning.specs.Places.{columns_of, as_column, over}
use Rattle.hlfir_meaning.specs.Stage1.{made, is_whole, as_scalar, scalars, elemental}
use Rattle.lower_values.specs.declared.operand.Operand.{Operand}
use Rattle.lower_values.specs.Scopes.{Scope, inside}
use Rattle.lower_values.specs.Lowerings.{giving_by}
use Rattle.lower_values.specs.Operations.{values_of, arranged, rank_from, on_scalars, element, at_each, operation}
use Rattle.lower_values.specs.Operations as lowered
use Rattle.value_laws.specs.Standing.{Does, IsOfRank, Stands, StandEach, values_each, operands_each}
use Rattle.value_laws.proofs.Ops.{ops_in-first}
use Rattle.value_laws.proofs.Elementals.{each-bounds, elemental-stands}
use Rattle.value_laws.proofs.Scalars.{does-scalar}
use Rattle.value_laws.proofs.Settled.{settled_if, settle_if, StandsIf, does-scalar_if, goes-settled}

-- the op is this operation on so many operands, at all places and on scalars
pub record IsElementwise (w : What) (many : ℕ) (values : List ℕ → List (List ℤ) → Staged (List ℤ)) (value : List ℤ → Staged ℤ) : Type 0 where
  pub goes_on : ends w ≡ false
  pub no_apply : is_apply w ≡ false
  pub whole : (b : Bool) → is_whole w b ≡ false
  pub acts : (at : List ℕ) (env : Environment) (ys : List Operand) → length ys ≡ many → over at env w (arranged w (values_of ys)) ≡ as_column (values at (columns_of at env (values_of ys)))
  pub makes : (n : ℕ) (env : Environment) (ys : List Operand) → length ys ≡ many → made n env w (arranged w (values_of ys)) [] ≡ as_scalar (value (scalars env (values_of ys)))

pub unary-elementwise : (o : ValueUnary) → IsElementwise (what.Unary o) 1 (operation_map (unary_operation o)) (λ vs. scalar_of (operation_value (unary_operation o) vs))
unary-elementwise o = record { goes_on = refl; no_apply = refl; whole = λ b. refl; acts = λ at env ys h. refl; makes = λ n env ys h. refl }

pub binary-elementwise : (o : ValueBinary) → IsElementwise (what.Binary o) 2 (operation_map (binary_operation o)) (λ vs. scalar_of (operation_value (binary_operation o) vs))
binary-elementwise o = record { goes_on = refl; no_apply = refl; whole = λ b. refl; acts = λ at env ys h. refl; makes = λ n env ys h. refl }

module _ (vectors : List ℕ) (base low : ℕ) (s : Scope) (n : ℕ) (env : Environment) (xs : List Operand) (ts : List Term) (w : What) (e : Elem) (many : ℕ)
    (values : List ℕ → List (List ℤ) → Staged (List ℤ)) (value : List ℤ → Staged ℤ) (is : IsElementwise w many values value) (long : length xs ≡ many) where
  pub does-on_scalars : low ≤ n → (r : Staged ℤ) → value (scalars env (values_of xs)) ≡ r → Does vectors s n env (on_scalars w e xs) (r >>= (λ z. Ok (term.Scalar z))) (λ x t m after. Stands base low m after x t)
  unfolding on_scalars
  does-on_scalars l r gives = does-scalar vectors base low w (arranged w (values_of xs)) e s n env l r is.goes_on is.whole (is.makes n env xs long ∙ ap as_scalar gives)

  module _ (rank : ℕ) where
    abbrev scope : Scope
    scope = inside what.Elemental s.line 0 (n + 1) s

    abbrev first : ℕ
    first = n + 1 + 0

    abbrev regions : List Region
    regions = region_of (element w e xs scope first).ops ∷ []

    abbrev left : Value
    left = elemental n env (element w e xs scope first).ops

    abbrev whole_op : Op
    whole_op = op_of what.Elemental s.line [] (Some (Array e rank)) regions

    past : n < n + numbers_of (whole_op ∷ [])
    past = omega (arith, op_numbers-op_of what.Elemental s.line [] (Some (Array e rank)) regions)

    -- where no designator takes it as a vector subscript, or where one does
    pub does-at_each : base ≤ low → StandEach base low n env xs ts → (t : Term) (b : Bool) → is_among n vectors ≡ b → (rank == 0) ≡ false → source.operands t ≡ operands_each ts →
        ((at : List ℕ) → source.values t at ≡ (values_each ts at >>= values at)) → ((v : Value) → IsOfRank (Array e rank) v t) →
        Does vectors s n env (at_each w e rank xs) (settled_if b t) (λ x u m after. StandsIf b base low m after x u)
    unfolding at_each giving_by
    does-at_each g h t b among higher shape gives ranked =
        goes-settled what.Elemental s.line [] e rank regions vectors base low n env (each-bounds base env low n xs ts h) refl higher left t b
        (ap (λ os. let v : Staged Value = Ok (elemental n env os) in v) (ops_in-first (element w e xs scope first).ops [])) among
        (elemental-stands base env low n xs ts g h w e values many is.goes_on is.no_apply long is.acts scope first (omega arith) t rank (n + numbers_of (whole_op ∷ [])) past shape gives (ranked left))

pub operation-scalar : (w : What) (e : Elem) (xs : List Operand) → (rank_from 0 xs == 0) ≡ true → operation w e xs ≡ on_scalars w e xs
unfolding operation
operation-scalar w e xs h = ap (λ b. if b then on_scalars w e xs else at_each w e (rank_from 0 xs) xs) h

pub operation-array : (w : What) (e : Elem) (xs : List Operand) → (rank_from 0 xs == 0) ≡ false → operation w e xs ≡ at_each w e (rank_from 0 xs) xs
unfolding operation
operation-array w e xs h = ap (λ b. if b then on_scalars w e xs else at_each w e (rank_from 0 xs) xs) h

-- ---- ranks

pub max-left : (a b : ℕ) → (a == 0) ≡ false → (max a b == 0) ≡ false
max-left a b h = grind (arith, h)

pub max-right : (a b : ℕ) → (b == 0) ≡ false → (max a b == 0) ≡ false
max-right a b h = grind (arith, h)

pub max-none : (a b : ℕ) → (a == 0) ≡ true → (b == 0) ≡ true → (max a b == 0) ≡ true
max-none a b h g = grind (arith, h, g)

-- ---- one operand

settled-unary : (b : Bool) (op : UnOp) (t : Term) → settle_if b (Ok (term.Unary op t)) ≡ settled_if b (term.Unary op t)
unfolding terms_open
settled-unary true op t = refl
settled-unary false op t = refl

one_value : (r : Staged (List ℤ)) (f : List (List ℤ) → Staged (List ℤ)) → ((r >>= (λ xs. let cs : Staged (List (List ℤ)) = Ok (xs ∷ []) in cs)) >>= f) ≡ (r >>= (λ xs. f (xs ∷ [])))
one_value (Ok xs) f = refl
one_value (Err t) f = refl

module _ (vectors : List ℕ) (base low : ℕ) (s : Scope) (n : ℕ) (env : Environment) (x : Operand) (g : base ≤ low) (l : low ≤ n) (b : Bool) (among : is_among n vectors ≡ b) where
  abbrev Single : What → Elem → Staged Term → Type 0
  Single w e r = Does vectors s n env (operation w e (x ∷ [])) (settle_if b r) (λ y t m after. StandsIf b base low m after y t)

  unary_scalar : (o : ValueUnary) (e : Elem) (op : UnOp) (z : ℤ) → ((v : ℤ) → operation_value (unary_operation o) (v ∷ []) ≡ unary_value default_half op v) → Stands base low n env x (term.Scalar z) →
      Single (what.Unary o) e (unary_on op (term.Scalar z))
  unary_scalar o e op z same h = does-scalar_if vectors base low s n env (operation (what.Unary o) e (x ∷ [])) b (scalar_of (unary_value default_half op z))
      (subst (λ p. Does vectors s n env p (unary_on op (term.Scalar z)) (λ y t m after. Stands base low m after y t)) (sym (operation-scalar (what.Unary o) e (x ∷ []) (max-none 0 (rank_of x.kind) refl h.rank.0)))
      (does-on_scalars vectors base low s n env (x ∷ []) (term.Scalar z ∷ []) (what.Unary o) e 1 (operation_map (unary_operation o)) (λ vs. scalar_of (operation_value (unary_operation o) vs)) (unary-elementwise o) refl l
      (scalar_of (unary_value default_half op z)) (ap (λ v. scalar_of (operation_value (unary_operation o) (scalar_in v ∷ []))) (h.found ∙ h.rank.1) ∙ ap scalar_of (same z))))

  unary_array : (o : ValueUnary) (e : Elem) (op : UnOp) (t : Term) → ((at : List ℕ) (xs : List ℤ) → operation_map (unary_operation o) at (xs ∷ []) ≡ operation_map (operators.unary op) at (xs ∷ [])) →
      Stands base low n env x t → (rank_of x.kind == 0) ≡ false → Does vectors s n env (operation (what.Unary o) e (x ∷ [])) (settled_if b (term.Unary op t)) (λ y u m after. StandsIf b base low m after y u)
  unfolding terms_open
  unary_array o e op t same h ranked =
      let higher = max-right 0 (rank_of x.kind) ranked in
      subst (λ p. Does vectors s n env p (settled_if b (term.Unary op t)) (λ y u m after. StandsIf b base low m after y u)) (sym (operation-array (what.Unary o) e (x ∷ []) higher))
      (does-at_each vectors base low s n env (x ∷ []) (t ∷ []) (what.Unary o) e 1 (operation_map (unary_operation o)) (λ vs. scalar_of (operation_value (unary_operation o) vs)) (unary-elementwise o) refl (rank_from 0 (x ∷ []))
      g (n, l, h, omega arith) (term.Unary op t) b among higher (sym (append-nil (source.operands t)))
      (λ at. sym (one_value (source.values t at) (operation_map (unary_operation o) at) ∙ ap (λ f. source.values t at >>= f) (fun_ext (λ xs. same at xs)))) (λ v. higher))

  unary_settled : (o : ValueUnary) (e : Elem) (op : UnOp) (t : Term) → ((at : List ℕ) (xs : List ℤ) → operation_map (unary_operation o) at (xs ∷ []) ≡ operation_map (operators.unary op) at (xs ∷ [])) →
      Stands base low n env x t → (rank_of x.kind == 0) ≡ false → Single (what.Unary o) e (Ok (term.Unary op t))
  unary_settled o e op t same h ranked = subst (λ q. Does vectors s n env (operation (what.Unary o) e (x ∷ [])) q (λ y u m after. StandsIf b base low m after y u)) (sym (settled-unary b op t)) (unary_array o e op t same h ranked)

  pub minus-if : (t : Term) → Stands base low n env x t → Single (what.Unary unary.Neg) I32 (unary_on un.Minus t)
  minus-if (term.Scalar z) h = unary_scalar unary.Neg I32 un.Minus z (λ v. refl) h
  minus-if t h = unary_settled unary.Neg I32 un.Minus t (λ at xs. refl) h h.rank

  pub not-if : (t : Term) → Stands base low n env x t → Single (what.Unary unary.Not) I1 (unary_on un.Not t)
  not-if (term.Scalar z) h = unary_scalar unary.Not I1 un.Not z (λ v. refl) h
  not-if t h = unary_settled unary.Not I1 un.Not t (λ at xs. refl) h h.rank

-- ---- two operands

settled-binary : (b : Bool) (op : BinOp) (t u : Term) → settle_if b (Ok (term.Binary op t u)) ≡ settled_if b (term.Binary op t u)
unfolding terms_open
settled-binary true op t u = refl
settled-binary false op t u = refl

pub two_values : (r q : Staged (List ℤ)) (f : List (List ℤ) → Staged (List ℤ)) →
    ((r >>= (λ xs. (q >>= (λ ys. let cs : Staged (List (List ℤ)) = Ok (ys ∷ []) in cs)) >>= (λ rest. let cs : Staged (List (List ℤ)) = Ok (xs ∷ rest) in cs))) >>= f) ≡ (r >>= (λ xs. q >>= (λ ys. f (xs ∷ ys ∷ []))))
two_values (Ok xs) (Ok ys) f = refl
two_values (Ok xs) (Err t) f = refl
two_values (Err t) q f = refl

same_operation : (op : BinOp) → binary_operation (lowered.binary_of op) ≡ operators.binary op
same_operation bin.Add = refl
same_operation bin.Sub = refl
same_operation bin.Mul = refl
same_operation bin.Div = refl
same_operation bin.Pow = refl
same_operation bin.Eq = refl
same_operation bin.Ne = refl
same_operation bin.Lt = refl
same_operation bin.Le = refl
same_operation bin.Gt = refl
same_operation bin.Ge = refl
same_operation bin.And = refl
same_operation bin.Or = refl
same_operation bin.Eqv = refl
same_operation bin.Neqv = refl

module _ (vectors : List ℕ) (base low middle : ℕ) (s : Scope) (n : ℕ) (env : Environment) (x y : Operand) (g : base ≤ low) (l : low ≤ middle) (m : middle ≤ n) (op : BinOp) (b : Bool) (among : is_among n vectors ≡ b) where
  abbrev binary_op : What
  binary_op = what.Binary (lowered.binary_of op)

  abbrev elem : Elem
  elem = result_elem (lowered.binary_of op)

  abbrev both : Staged Term → Type 0
  both r = Does vectors s n env (lowered.binary_operation (lowered.binary_of op) x y) (settle_if b r) (λ z t k after. StandsIf b base low k after z t)

  binary_scalar : (v w : ℤ) → Stands base low middle env x (term.Scalar v) → Stands base middle n env y (term.Scalar w) → both (binary_on op (term.Scalar v) (term.Scalar w))
  binary_scalar v w h k = does-scalar_if vectors base low s n env (lowered.binary_operation (lowered.binary_of op) x y) b (scalar_of (binary_value default_half op v w))
      (subst (λ p. Does vectors s n env p (binary_on op (term.Scalar v) (term.Scalar w)) (λ z t j after. Stands base low j after z t))
      (sym (operation-scalar binary_op elem (x ∷ y ∷ []) (max-none (max 0 (rank_of x.kind)) (rank_of y.kind) (max-none 0 (rank_of x.kind) refl h.rank.0) k.rank.0)))
      (does-on_scalars vectors base low s n env (x ∷ y ∷ []) (term.Scalar v ∷ term.Scalar w ∷ []) binary_op elem 2 (operation_map (binary_operation (lowered.binary_of op))) (λ vs. scalar_of (operation_value (binary_operation (lowered.binary_of op)) vs))
      (binary-elementwise (lowered.binary_of op)) refl (omega (arith, l, m)) (scalar_of (binary_value default_half op v w))
      (ap (λ a. scalar_of (operation_value (binary_operation (lowered.binary_of op)) (scalar_in a ∷ scalar_in (env y.value.number) ∷ []))) (h.found ∙ h.rank.1)
      ∙ (ap (λ c. scalar_of (operation_value (binary_operation (lowered.binary_of op)) (v ∷ scalar_in c ∷ []))) (k.found ∙ k.rank.1)
      ∙ ap (λ o. scalar_of (operation_value o (v ∷ w ∷ []))) (same_operation op)))))

  binary_array : (t u : Term) → Stands base low middle env x t → Stands base middle n env y u → (rank_from 0 (x ∷ y ∷ []) == 0) ≡ false →
      Does vectors s n env (lowered.binary_operation (lowered.binary_of op) x y) (settled_if b (term.Binary op t u)) (λ z v k after. StandsIf b base low k after z v)
  unfolding terms_open
  binary_array t u h k higher =
      subst (λ p. Does vectors s n env p (settled_if b (term.Binary op t u)) (λ z v j after. StandsIf b base low j after z v)) (sym (operation-array binary_op elem (x ∷ y ∷ []) higher))
      (does-at_each vectors base low s n env (x ∷ y ∷ []) (t ∷ u ∷ []) binary_op elem 2 (operation_map (binary_operation (lowered.binary_of op))) (λ vs. scalar_of (operation_value (binary_operation (lowered.binary_of op)) vs))
      (binary-elementwise (lowered.binary_of op)) refl (rank_from 0 (x ∷ y ∷ [])) g (middle, l, h, (n, m, k, omega arith)) (term.Binary op t u) b among higher
      (ap (λ es. source.operands t ++ es) (sym (append-nil (source.operands u))))
      (λ at. sym (two_values (source.values t at) (source.values u at) (operation_map (binary_operation (lowered.binary_of op)) at)
      ∙ ap (λ o. source.values t at >>= (λ xs. source.values u at >>= (λ ys. operation_map o at (xs ∷ ys ∷ [])))) (same_operation op))) (λ v. higher))

  binary_settled : (t u : Term) → Stands base low middle env x t → Stands base middle n env y u → (rank_from 0 (x ∷ y ∷ []) == 0) ≡ false → both (Ok (term.Binary op t u))
  binary_settled t u h k higher = subst (λ q. Does vectors s n env (lowered.binary_operation (lowered.binary_of op) x y) q (λ z v j after. StandsIf b base low j after z v)) (sym (settled-binary b op t u)) (binary_array t u h k higher)

  pub binary-if : (t u : Term) → Stands base low middle env x t → Stands base middle n env y u → both (binary_on op t u)
  binary-if (term.Scalar v) (term.Scalar w) h k = binary_scalar v w h k
  binary-if (term.Scalar v) u h k = binary_settled (term.Scalar v) u h k (max-right (max 0 (rank_of x.kind)) (rank_of y.kind) k.rank)
  binary-if t u h k = binary_settled t u h k (max-left (max 0 (rank_of x.kind)) (rank_of y.kind) (max-right 0 (rank_of x.kind) h.rank))

-- ---- where it is no vector subscript

module _ (vectors : List ℕ) (base low : ℕ) (s : Scope) (n : ℕ) (env : Environment) (x : Operand) (g : base ≤ low) where
  pub does-minus : low ≤ n → (t : Term) → is_among n vectors ≡ false → Stands base low n env x t → Does vectors s n env (lowered.unary_operation un.Minus x) (unary_on un.Minus t) (λ y u m after. Stands base low m after y u)
  does-minus l t free h = minus-if vectors base low s n env x g l false free t h

  pub does-not : low ≤ n → (t : Term) → is_among n vectors ≡ false → Stands base low n env x t → Does vectors s n env (lowered.unary_operation un.Not x) (unary_on un.Not t) (λ y u m after. Stands base low m after y u)
  does-not l t free h = not-if vectors base low s n env x g l false free t h

  pub does-binary : (middle : ℕ) (y : Operand) → low ≤ middle → middle ≤ n → (op : BinOp) (t u : Term) → is_among n vectors ≡ false → Stands base low middle env x t → Stands base middle n env y u →
      Does vectors s n env (lowered.binary_operation (lowered.binary_of op) x y) (binary_on op t u) (λ z v m after. Stands base low m after z v)
  does-binary middle y l m op t u free h k = binary-if vectors base low middle s n env x y g l m op false free t u h k
