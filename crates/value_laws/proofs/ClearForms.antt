-- Vector subscripts in parts of a lowering: which ops have them, one lowering after another.
use Rattle.std.proofs.Common.{◌≡◌, refl, ap, ◌∙◌, inl, inr, ℕ, ◌+◌, ◌<◌, ◌≤◌, ◌==◌, Bool, true, false, List, [], ◌∷◌, ◌++◌, Some, arith, if◌then◌else◌}
use Rattle.std.specs.Prelude.{◌&&◌}
use Rattle.ws_base.specs.declared.op.CallWord.{CallWord}
use Rattle.ws_space.specs.Values.{is_among}
use Rattle.ws_tree.specs.declared.expr.Expr.{Expr}
use Rattle.ws_types.specs.declared.constant.Constancy.{Constancy}
use Rattle.ws_types.specs.declared.constant.Constancy.TheVariants.{Value, NoValue, NotConstant}
use Rattle.ws_types.specs.Constants.{constancy}
use Rattle.hlfir_ops.specs.declared.kinds.Elem.{Elem}
use Rattle.hlfir_ops.specs.declared.kinds.ValueKind.{ValueKind}
use Rattle.hlfir_ops.specs.declared.kinds.ValueKind.TheVariants as kind
use Rattle.hlfir_ops.specs.declared.what.What.{What}
use Rattle.hlfir_ops.specs.declared.what.What.TheVariants as what
use Rattle.hlfir_ops.specs.declared.op.ValueId.{ValueId}
use Rattle.hlfir_ops.specs.Numbers.{own_numbers, numbers_of}
use Rattle.hlfir_ops.proofs.Numbered.{op_numbers-op_of}
use Rattle.hlfir_meaning.specs.Stage1.{subscripts_in, subscript_numbers}
use Rattle.lower_values.specs.declared.operand.Operand.{Operand}
use Rattle.lower_values.specs.Scopes.{Scope}
use Rattle.lower_values.specs.Lowerings.{Lowering, giving, scoped, giving_by, regions_from, ◌>>=◌ as ◌then◌}
use Rattle.lower_values.specs.Operations.{rank_from, on_scalars, at_each, element, operation, call_on}
use Rattle.lower_values.specs.Values.{constant_or, folded}
use Rattle.value_laws.specs.Standing.{IsOwn}
use Rattle.value_laws.specs.Sound.{UnlessValue}
use Rattle.value_laws.proofs.VectorNumbers.{subscripts-op, OwnSubscripts, VectorsFor, vectors-front, vectors-back, vectors-one}
use Rattle.value_laws.proofs.OwnNumbers.{call-forms}

pub and-true : (b : Bool) → (b && true) ≡ b
and-true true = refl
and-true false = refl

pub and-false : (b : Bool) → (b && false) ≡ false
and-false true = refl
and-false false = refl

pub and-turned : (a b : Bool) → (a && b) ≡ (b && a)
and-turned true true = refl
and-turned true false = refl
and-turned false true = refl
and-turned false false = refl

-- ---- a lowering of one op without vector subscripts

pub record IsOne (s : Scope) (n : ℕ) (p : Lowering Operand) : Type 0 where
  pub none : subscript_numbers (p s n).ops ≡ []
  pub some : n < n + numbers_of (p s n).ops
  pub number : (p s n).made.value.number ≡ n

module _ (s : Scope) (n : ℕ) where
  pub one-giving : (w : What) (os : List ValueId) (k : ValueKind) → subscripts_in w os ≡ [] → IsOne s n (giving w os k)
  unfolding giving
  one-giving w os k none = record {
    none = subscripts-op w s.line os (Some k) [] ∙ ap (λ ns. ns ++ []) none;
    some = omega (arith, op_numbers-op_of w s.line os (Some k) []);
    number = refl;
  }

  one_elemental : (w : What) (e : Elem) (rank : ℕ) (xs : List Operand) → IsOne s n (at_each w e rank xs)
  unfolding at_each giving_by
  one_elemental w e rank xs =
      let rs = regions_from what.Elemental s.line 0 (n + own_numbers (Some (kind.Array e rank))) (element w e xs ∷ []) s in record {
        none = subscripts-op what.Elemental s.line [] (Some (kind.Array e rank)) rs;
        some = omega (arith, op_numbers-op_of what.Elemental s.line [] (Some (kind.Array e rank)) rs);
        number = refl;
      }

  operation_by : (w : What) (e : Elem) (xs : List Operand) (b : Bool) → ((os : List ValueId) → subscripts_in w os ≡ []) → IsOne s n (if b then on_scalars w e xs else at_each w e (rank_from 0 xs) xs)
  unfolding on_scalars
  operation_by w e xs true none = one-giving w _ (kind.Scalar e) (none _)
  operation_by w e xs false none = one_elemental w e (rank_from 0 xs) xs

  pub one-operation : (w : What) (e : Elem) (xs : List Operand) → ((os : List ValueId) → subscripts_in w os ≡ []) → IsOne s n (operation w e xs)
  unfolding operation
  one-operation w e xs none = operation_by w e xs (rank_from 0 xs == 0) none

  pub one-call : (w : CallWord) (xs : List Operand) → IsOne s n (call_on w xs)
  one-call w xs = call-forms (IsOne s n) one-giving one-operation w xs

-- ---- what is taken as a vector subscript later

-- this number, or none
abbrev pub number_taken : Bool → ℕ → ℕ → Bool
number_taken b number k = b && (k == number)

pub not-taken : (b : Bool) (base low high number k : ℕ) → IsOwn base low high number → base ≤ k → k < low → number_taken b number k ≡ false
not-taken b base low high number k (inl small) g l = let other : (k == number) ≡ false = grind (arith, small, g) in ap (λ c. b && c) other ∙ and-false b
not-taken b base low high number k (inr own) g l = let past = own.0 in let other : (k == number) ≡ false = grind (arith, past, l) in ap (λ c. b && c) other ∙ and-false b

pub taken-here : (b : Bool) (number n : ℕ) → number ≡ n → number_taken b number n ≡ b
taken-here b number n is = let same : (n == number) ≡ true = grind (arith, is) in ap (λ c. b && c) same ∙ and-true b

module _ (base : ℕ) (vectors : List ℕ) (s : Scope) where
  abbrev pub Vectors : {A : Type 0} → ℕ → Lowering A → (ℕ → Bool) → Type 0
  Vectors n p taken = VectorsFor base vectors n (p s n).ops taken

  -- that a value is taken, or none
  abbrev pub Takes : Bool → ℕ → Lowering Operand → Type 0
  Takes b n p = Vectors n p (number_taken b (p s n).made.value.number)

  pub takes-one : (b : Bool) (n : ℕ) (p : Lowering Operand) → IsOne s n p → Takes b n p → is_among n vectors ≡ b
  takes-one b n p one h = vectors-one base vectors n (p s n).ops (number_taken b (p s n).made.value.number) h one.none one.some ∙ taken-here b (p s n).made.value.number n one.number

  module _ {A B : Type 0} (n : ℕ) (g : base ≤ n) (p : Lowering A) (q : A → Lowering B) (taken other : ℕ → Bool) (h : Vectors n (p then q) taken) where
    pub then-front : OwnSubscripts base (n + numbers_of (p s n).ops) (n + numbers_of (p s n).ops) (q (p s n).made s (n + numbers_of (p s n).ops)).ops → ((k : ℕ) → n ≤ k → k < n + numbers_of (p s n).ops → taken k ≡ other k) → Vectors n p other
    unfolding ◌then◌
    then-front own same = vectors-front base vectors n g (p s n).ops (q (p s n).made s (n + numbers_of (p s n).ops)).ops taken other h own same

    pub then-back : OwnSubscripts base n n (p s n).ops → ((k : ℕ) → n + numbers_of (p s n).ops ≤ k → taken k ≡ other k) → Vectors (n + numbers_of (p s n).ops) (q (p s n).made) other
    unfolding ◌then◌
    then-back own same = vectors-back base vectors n g (p s n).ops (q (p s n).made s (n + numbers_of (p s n).ops)).ops taken other h own (λ k low high. same k low)

  -- ---- a constant expression that has a value

  folded_by : (c : Constancy) (b : Bool) (n : ℕ) (p : Lowering Operand) (G : Type 0) → (Takes b n p → G) → Takes b n (constant_or c p) → UnlessValue c G
  folded_by (Value z) b n p G f h = tt
  folded_by NoValue b n p G f h = f h
  folded_by NotConstant b n p G f h = f h

  pub clear-folded : (e : Expr) (b : Bool) (n : ℕ) (p : Lowering Operand) (G : Type 0) → (Takes b n p → G) → Takes b n (folded e p) → UnlessValue (constancy s.names.constants e) G
  unfolding folded scoped
  clear-folded e b n p G f h = folded_by (constancy s.names.constants e) b n p G f h
