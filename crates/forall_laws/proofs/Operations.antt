-- Operations on scalars over combinations are one map over the columns of their operands.
use Rattle.std.proofs.Common.{◌≡◌, refl, sym, ap, ◌∙◌, subst, ℕ, ◌==◌, true, false, List, [], ◌∷◌, length, max, None, Ok, ℤ, arith, true≢false}
use Rattle.ws_base.specs.declared.op.UnOp.{UnOp}
use Rattle.ws_base.specs.declared.op.UnOp.TheVariants as un
use Rattle.ws_base.specs.declared.op.BinOp.{BinOp}
use Rattle.ws_base.specs.declared.op.BinOp.TheVariants as bin
use Rattle.ws_base.specs.declared.op.CallWord.{CallWord}
use Rattle.ws_base.specs.declared.op.CallWord.TheVariants as word
use Rattle.ws_base.specs.Outcomes.{Staged, joined as joined_list}
use Rattle.ws_space.specs.Maps.{unary_map, binary_map, call_map}
use Rattle.ws_types.specs.Operations.{is_inquiry, is_reduction}
use Rattle.hlfir_ops.specs.declared.kinds.Elem.{Elem}
use Rattle.hlfir_ops.specs.declared.kinds.Elem.TheVariants.{I32, I1}
use Rattle.hlfir_ops.specs.declared.kinds.ValueKind.{ValueKind}
use Rattle.hlfir_ops.specs.declared.kinds.ValueKind.TheVariants as kind
use Rattle.hlfir_ops.specs.declared.what.ValueUnary.TheVariants as unary
use Rattle.hlfir_ops.specs.declared.what.ValueBinary.{ValueBinary}
use Rattle.hlfir_ops.specs.declared.what.What.{What}
use Rattle.hlfir_ops.specs.declared.what.What.TheVariants as what
use Rattle.hlfir_ops.specs.RulesValues.{rank_of}
use Rattle.hlfir_ops.specs.RulesForms.{result_elem}
use Rattle.hlfir_meaning.specs.Environments.{Environment}
use Rattle.hlfir_meaning.specs.Order.{ends}
use Rattle.hlfir_meaning.specs.Operators as operators
use Rattle.hlfir_meaning.specs.Operators.{operation_map, select_operation}
use Rattle.hlfir_meaning.specs.Places.{over, as_column, column_at, columns_of, over_ops}
use Rattle.lower_values.specs.declared.operand.Operand.{Operand}
use Rattle.lower_values.specs.Scopes.{Scope}
use Rattle.lower_values.specs.Operations.{rank_from, arranged, values_of, on_scalars, operation, binary_of, binary_operation, value_of_whole, in_parentheses, unary_operation, nesting_of, what_of, call_elem, call_on}
use Rattle.value_laws.proofs.Walking.{does-done}
use Rattle.forall_laws.specs.Walks.{DoesOver, IsPlain, IsColumn, AreColumns}
use Rattle.forall_laws.proofs.Given.{over-column}

-- ---- operands

pub plain-rank : (k : ValueKind) → IsPlain k → rank_of k ≡ 0
plain-rank (kind.Scalar e) h = refl
plain-rank _ h = absurd h

pub columns-found : (at : List ℕ) (xs : List Operand) (cs : List (List ℤ)) (m : ℕ) (env : Environment) → AreColumns xs cs m env → columns_of at env (values_of xs) ≡ cs
columns-found at [] [] m env h = refl
columns-found at [] (c ∷ cs) m env h = absurd h
columns-found at (x ∷ xs) [] m env h = absurd h
columns-found at (x ∷ xs) (c ∷ cs) m env h = ap (λ v. column_at at v ∷ columns_of at env (values_of xs)) h.0.found ∙ ap (λ q. c ∷ q) (columns-found at xs cs m env h.1)

columns_rank : (xs : List Operand) (cs : List (List ℤ)) (m : ℕ) (env : Environment) (r : ℕ) → r ≡ 0 → AreColumns xs cs m env → rank_from r xs ≡ 0
columns_rank [] [] m env r z h = z
columns_rank [] (c ∷ cs) m env r z h = absurd h
columns_rank (x ∷ xs) [] m env r z h = absurd h
columns_rank (x ∷ xs) (c ∷ cs) m env r z h = columns_rank xs cs m env (max r (rank_of x.kind)) (omega (arith, z, plain-rank x.kind h.0.plain)) h.1

columns_many : (xs : List Operand) (cs : List (List ℤ)) (m : ℕ) (env : Environment) → AreColumns xs cs m env → length xs ≡ length cs
columns_many [] [] m env h = refl
columns_many [] (c ∷ cs) m env h = absurd h
columns_many (x ∷ xs) [] m env h = absurd h
columns_many (x ∷ xs) (c ∷ cs) m env h = let rest = columns_many xs cs m env h.1 in omega (arith, rest)

-- ---- one operation

acts_as : (op : BinOp) → operators.binary_operation (binary_of op) ≡ operators.binary op
acts_as bin.Add = refl
acts_as bin.Sub = refl
acts_as bin.Mul = refl
acts_as bin.Div = refl
acts_as bin.Pow = refl
acts_as bin.Eq = refl
acts_as bin.Ne = refl
acts_as bin.Lt = refl
acts_as bin.Le = refl
acts_as bin.Gt = refl
acts_as bin.Ge = refl
acts_as bin.And = refl
acts_as bin.Or = refl
acts_as bin.Eqv = refl
acts_as bin.Neqv = refl

plus_same : (xs : List ℤ) → unary_map un.Plus xs ≡ Ok xs
plus_same [] = refl
plus_same (x ∷ xs) = ap (joined_list (Ok x)) (plus_same xs)

merged : (at : List ℕ) (env : Environment) (xs : List Operand) (cs : List (List ℤ)) → length xs ≡ 3 → columns_of at env (values_of xs) ≡ cs → over at env what.Select (arranged what.Select (values_of xs)) ≡ as_column (call_map word.Merge at cs)
merged at env [] cs n h = absurd (omega (arith, n))
merged at env (a ∷ []) cs n h = absurd (omega (arith, n))
merged at env (a ∷ b ∷ []) cs n h = absurd (omega (arith, n))
merged at env (a ∷ b ∷ c ∷ []) cs n h = ap (λ q. as_column (call_map word.Merge at q)) h
merged at env (a ∷ b ∷ c ∷ d ∷ xs) cs n h = absurd (omega (arith, n))

module _ (at : List ℕ) (s : Scope) (n : ℕ) (env : Environment) where
  module _ (w : What) (e : Elem) (xs : List Operand) (cs : List (List ℤ)) (goes : ends w ≡ false) (are : AreColumns xs cs n env) (r : Staged (List ℤ)) where
    over_scalars : over at env w (arranged w (values_of xs)) ≡ as_column r → DoesOver at s n env (on_scalars w e xs) r IsColumn
    unfolding on_scalars
    over_scalars h = over-column at s n env w (arranged w (values_of xs)) (kind.Scalar e) goes tt r h

    pub over-operation : over at env w (arranged w (values_of xs)) ≡ as_column r → DoesOver at s n env (operation w e xs) r IsColumn
    unfolding operation
    over-operation h = let scalar : (rank_from 0 xs == 0) ≡ true = ap (λ m. m == 0) (columns_rank xs cs n env 0 refl are) in rw scalar (over_scalars h)

  -- ---- operators

  pub over-binary : (op : ValueBinary) (x y : Operand) (xs ys : List ℤ) → IsColumn x xs n env → IsColumn y ys n env → DoesOver at s n env (binary_operation op x y) (operation_map (operators.binary_operation op) at (xs ∷ ys ∷ [])) IsColumn
  over-binary op x y xs ys h g =
      over-operation (what.Binary op) (result_elem op) (x ∷ y ∷ []) (xs ∷ ys ∷ []) refl (h, (g, tt)) (operation_map (operators.binary_operation op) at (xs ∷ ys ∷ []))
      (ap (λ cs. as_column (operation_map (operators.binary_operation op) at cs)) (columns-found at (x ∷ y ∷ []) (xs ∷ ys ∷ []) n env (h, (g, tt))))

  pub over-operator : (op : BinOp) (x y : Operand) (xs ys : List ℤ) → IsColumn x xs n env → IsColumn y ys n env → DoesOver at s n env (binary_operation (binary_of op) x y) (binary_map op at xs ys) IsColumn
  over-operator op x y xs ys h g =
      subst (λ o. DoesOver at s n env (binary_operation (binary_of op) x y) (operation_map o at (xs ∷ ys ∷ [])) IsColumn) (acts_as op) (over-binary (binary_of op) x y xs ys h g)

  whole_plain : (k : ValueKind) (x : Operand) (xs : List ℤ) → IsPlain k → IsColumn x xs n env → DoesOver at s n env (value_of_whole k x) (Ok xs) IsColumn
  whole_plain (kind.Scalar e) x xs p h = does-done (over_ops at) s n env x xs IsColumn h
  whole_plain _ x xs p h = absurd p

  -- nothing is added to a scalar
  pub over-parentheses : (x : Operand) (xs : List ℤ) → IsColumn x xs n env → DoesOver at s n env (in_parentheses x) (Ok xs) IsColumn
  unfolding in_parentheses
  over-parentheses x xs h = whole_plain x.kind x xs h.plain h

  pub over-unary : (op : UnOp) (x : Operand) (xs : List ℤ) → IsColumn x xs n env → DoesOver at s n env (unary_operation op x) (unary_map op xs) IsColumn
  over-unary un.Minus x xs h = over-operation (what.Unary unary.Neg) I32 (x ∷ []) (xs ∷ []) refl (h, tt) (unary_map un.Minus xs)
      (ap (λ cs. as_column (operation_map (operators.unary_operation unary.Neg) at cs)) (columns-found at (x ∷ []) (xs ∷ []) n env (h, tt)))
  over-unary un.Plus x xs h = subst (λ r. DoesOver at s n env (in_parentheses x) r IsColumn) (sym (plus_same xs)) (over-parentheses x xs h)
  over-unary un.Not x xs h = over-operation (what.Unary unary.Not) I1 (x ∷ []) (xs ∷ []) refl (h, tt) (unary_map un.Not xs)
      (ap (λ cs. as_column (operation_map (operators.unary_operation unary.Not) at cs)) (columns-found at (x ∷ []) (xs ∷ []) n env (h, tt)))

  -- ---- calls of all their arguments at once

  module _ (xs : List Operand) (cs : List (List ℤ)) (are : AreColumns xs cs n env) where
    abbrev Calls : CallWord → Type 0
    Calls w = DoesOver at s n env (call_on w xs) (call_map w at cs) IsColumn

    found : columns_of at env (values_of xs) ≡ cs
    found = columns-found at xs cs n env are

    pub over-call : (w : CallWord) → nesting_of w ≡ None → is_inquiry w ≡ false → is_reduction w ≡ false → (w ≡ word.Merge → length xs ≡ 3) → Calls w
    unfolding call_on
    over-call word.Abs a b c d = over-operation (what.Unary unary.Abs) (call_elem word.Abs xs) xs cs refl are (call_map word.Abs at cs) (ap (λ q. as_column (call_map word.Abs at q)) found)
    over-call word.Mod a b c d = over-operation (what_of word.Mod) (call_elem word.Mod xs) xs cs refl are (call_map word.Mod at cs) (ap (λ q. as_column (call_map word.Mod at q)) found)
    over-call word.Modulo a b c d = over-operation (what_of word.Modulo) (call_elem word.Modulo xs) xs cs refl are (call_map word.Modulo at cs) (ap (λ q. as_column (call_map word.Modulo at q)) found)
    over-call word.Merge a b c d = over-operation what.Select (call_elem word.Merge xs) xs cs refl are (call_map word.Merge at cs) (merged at env xs cs (d refl) found)
    over-call word.Min a b c d = absurd (let q = a in cc)
    over-call word.Max a b c d = absurd (let q = a in cc)
    over-call word.Size a b c d = absurd (true≢false b)
    over-call word.Lbound a b c d = absurd (true≢false b)
    over-call word.Ubound a b c d = absurd (true≢false b)
    over-call word.Allocated a b c d = absurd (true≢false b)
    over-call _ a b c d = absurd (true≢false c)
