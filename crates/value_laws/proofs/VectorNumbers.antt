-- The numbers of vector subscripts in lists of ops: those of declares, or of values that the same ops gave.
use Rattle.std.proofs.Common.{◌≡◌, refl, sym, ap, ◌∙◌, subst, inl, inr, ℕ, ◌+◌, ◌<◌, ◌≤◌, ◌==◌, Bool, true, false, List, [], ◌∷◌, ◌++◌, All, Option, append_assoc, arith, ◌⊎◌}
use Rattle.std.specs.Prelude.{◌||◌}
use Rattle.std.proofs.lemmas.Bool.{true≢false}
use Rattle.std.proofs.lemmas.List.Elements.{All-head, All-tail}
use Rattle.ws_space.specs.Values.{is_among}
use Rattle.hlfir_ops.specs.declared.kinds.ValueKind.{ValueKind}
use Rattle.hlfir_ops.specs.declared.what.What.{What}
use Rattle.hlfir_ops.specs.declared.op.ValueId.{ValueId}
use Rattle.hlfir_ops.specs.declared.op.Op.{Op, out-Op}
use Rattle.hlfir_ops.specs.declared.op.Region.{Region}
use Rattle.hlfir_ops.specs.Trees.{op_of}
use Rattle.hlfir_ops.specs.Numbers.{numbers_of}
use Rattle.hlfir_ops.proofs.Numbered.{numbers_of-append}
use Rattle.hlfir_meaning.specs.Stage1.{subscripts_in, subscript_numbers}
use Rattle.value_laws.specs.Standing.{IsOwn}
use Rattle.value_laws.proofs.Elementals.{own-wider}
use Rattle.value_laws.proofs.Ops.{parts-op_of}

-- ---- numbers in lists

or_assoc : (a b c : Bool) → (a || (b || c)) ≡ ((a || b) || c)
or_assoc true b c = refl
or_assoc false b c = refl

pub or-false : (a : Bool) → (a || false) ≡ a
or-false true = refl
or-false false = refl

pub among-append : (k : ℕ) (xs ys : List ℕ) → is_among k (xs ++ ys) ≡ (is_among k xs || is_among k ys)
among-append k [] ys = refl
among-append k (x ∷ xs) ys = ap (λ b. k == x || b) (among-append k xs ys) ∙ or_assoc (k == x) (is_among k xs) (is_among k ys)

among_first : (P : ℕ → Type 0) (k x : ℕ) (b c : Bool) → P x → (k == x) ≡ c → (b ≡ true → P k) → (c || b) ≡ true → P k
among_first P k x b true h is rest at = let same : x ≡ k = grind (arith, is) in subst P same h
among_first P k x b false h is rest at = rest at

-- what holds of all holds of each one among them
pub among-all : (P : ℕ → Type 0) (xs : List ℕ) (k : ℕ) → All P xs → is_among k xs ≡ true → P k
among-all P [] k h at = absurd (true≢false (sym at))
among-all P (x ∷ xs) k h at = among_first P k x (is_among k xs) (k == x) (All-head P x xs h) refl (among-all P xs k (All-tail P x xs h)) at

pub none_among : (P : ℕ → Type 0) (xs : List ℕ) (k : ℕ) → All P xs → (P k → ⊥) → is_among k xs ≡ false
none_among P xs k h not = by (is_among k xs) refl
  where
    by : (b : Bool) → is_among k xs ≡ b → b ≡ false
    by true is = absurd (not (among-all P xs k h is))
    by false is = refl

-- ---- numbers of ops

pub subscripts-append : (xs ys : List Op) → subscript_numbers (xs ++ ys) ≡ subscript_numbers xs ++ subscript_numbers ys
subscripts-append [] ys = refl
subscripts-append (x ∷ xs) ys =
    let own = subscripts_in (out-Op x).what (out-Op x).operands in
    ap (λ ns. own ++ ns) (subscripts-append xs ys) ∙ sym (append_assoc own (subscript_numbers xs) (subscript_numbers ys))

pub subscripts-op : (what : What) (line : ℕ) (operands : List ValueId) (kind : Option ValueKind) (regions : List Region) → subscript_numbers (op_of what line operands kind regions ∷ []) ≡ subscripts_in what operands ++ []
subscripts-op what line operands kind regions = ap (λ f. subscripts_in f.what f.operands ++ []) (parts-op_of what line operands kind regions)

module _ (base : ℕ) where
  -- declares, or values from the first number up to the last one of these ops, which begin at the second one
  pub record OwnSubscripts (low n : ℕ) (ops : List Op) : Type 0 where
    pub own : (k : ℕ) → is_among k (subscript_numbers ops) ≡ true → IsOwn base low (n + numbers_of ops) k

  pub own-none : (low n : ℕ) → OwnSubscripts low n []
  own-none low n = record { own = λ k at. absurd (true≢false (sym at)) }

  pub own-plain : (low n : ℕ) (ops : List Op) → subscript_numbers ops ≡ [] → OwnSubscripts low n ops
  own-plain low n ops none = record { own = λ k at. absurd (true≢false (sym at ∙ ap (is_among k) none)) }

  either_own : (k : ℕ) (a b : Bool) (P : Type 0) → (a ≡ true → P) → (b ≡ true → P) → (a || b) ≡ true → P
  either_own k true b P f g h = f refl
  either_own k false b P f g h = g h

  pub own-append : (low n : ℕ) (xs ys : List Op) → OwnSubscripts low n xs → OwnSubscripts low (n + numbers_of xs) ys → OwnSubscripts low n (xs ++ ys)
  own-append low n xs ys h g = record {
    own = λ k at. let size = numbers_of-append xs ys in
        either_own k (is_among k (subscript_numbers xs)) (is_among k (subscript_numbers ys)) (IsOwn base low (n + numbers_of (xs ++ ys)) k)
        (λ is. own-wider base low low (n + numbers_of xs) (n + numbers_of (xs ++ ys)) k (omega arith) (omega (arith, size)) (h.own k is))
        (λ is. own-wider base low low (n + numbers_of xs + numbers_of ys) (n + numbers_of (xs ++ ys)) k (omega arith) (omega (arith, size)) (g.own k is))
        (sym (ap (is_among k) (subscripts-append xs ys) ∙ among-append k (subscript_numbers xs) (subscript_numbers ys)) ∙ at);
  }

  not_own : (low high k : ℕ) → base ≤ k → (k < low) ⊎ (high ≤ k) → IsOwn base low high k → ⊥
  not_own low high k g h (inl a) = omega (arith, g, a)
  not_own low high k g (inl b) (inr a) = let low' = a.0 in omega (arith, b, low')
  not_own low high k g (inr b) (inr a) = let high' = a.1 in omega (arith, b, high')

  pub own-not : (low n k : ℕ) (ops : List Op) → OwnSubscripts low n ops → base ≤ k → (k < low) ⊎ (n + numbers_of ops ≤ k) → is_among k (subscript_numbers ops) ≡ false
  own-not low n k ops h g out = by (is_among k (subscript_numbers ops)) refl
    where
      by : (b : Bool) → is_among k (subscript_numbers ops) ≡ b → b ≡ false
      by true is = absurd (not_own low (n + numbers_of ops) k g out (h.own k is))
      by false is = refl

  pub own-apart : (low high k : ℕ) (xs : List ℕ) → All (IsOwn base low high) xs → base ≤ k → (k < low) ⊎ (high ≤ k) → is_among k xs ≡ false
  own-apart low high k xs h g out = none_among (IsOwn base low high) xs k h (not_own low high k g out)

  -- ---- the vector subscripts of a region

  -- in these ops they are the ops' own, and those that are taken later
  pub record VectorsFor (vectors : List ℕ) (n : ℕ) (ops : List Op) (taken : ℕ → Bool) : Type 0 where
    pub are : (k : ℕ) → n ≤ k → k < n + numbers_of ops → is_among k vectors ≡ (is_among k (subscript_numbers ops) || taken k)

  module _ (vectors : List ℕ) (n : ℕ) (g : base ≤ n) (xs ys : List Op) (taken other : ℕ → Bool) (h : VectorsFor vectors n (xs ++ ys) taken) where
    split : (k : ℕ) → (is_among k (subscript_numbers (xs ++ ys)) || taken k) ≡ (is_among k (subscript_numbers xs) || (is_among k (subscript_numbers ys) || taken k))
    split k = ap (λ b. b || taken k) (ap (is_among k) (subscripts-append xs ys) ∙ among-append k (subscript_numbers xs) (subscript_numbers ys))
        ∙ sym (or_assoc (is_among k (subscript_numbers xs)) (is_among k (subscript_numbers ys)) (taken k))

    pub vectors-front : OwnSubscripts (n + numbers_of xs) (n + numbers_of xs) ys → ((k : ℕ) → n ≤ k → k < n + numbers_of xs → taken k ≡ other k) → VectorsFor vectors n xs other
    vectors-front own same = record {
      are = λ k low high. h.are k low (let size = numbers_of-append xs ys in omega (arith, high, size))
          ∙ (split k ∙ ap (λ b. is_among k (subscript_numbers xs) || b) (ap (λ b. b || taken k) (own-not (n + numbers_of xs) (n + numbers_of xs) k ys own (omega (arith, g, low)) (inl high)) ∙ same k low high));
    }

    pub vectors-before : ((k : ℕ) → n ≤ k → k < n + numbers_of xs → (is_among k (subscript_numbers ys) || taken k) ≡ other k) → VectorsFor vectors n xs other
    vectors-before same = record { are = λ k low high. h.are k low (let size = numbers_of-append xs ys in omega (arith, high, size)) ∙ (split k ∙ ap (λ b. is_among k (subscript_numbers xs) || b) (same k low high)) }

    pub vectors-back : OwnSubscripts n n xs → ((k : ℕ) → n + numbers_of xs ≤ k → k < n + numbers_of xs + numbers_of ys → taken k ≡ other k) → VectorsFor vectors (n + numbers_of xs) ys other
    vectors-back own same = record {
      are = λ k low high. h.are k (omega (arith, low)) (let size = numbers_of-append xs ys in omega (arith, high, size))
          ∙ (split k ∙ (ap (λ b. b || (is_among k (subscript_numbers ys) || taken k)) (own-not n n k xs own (omega (arith, g, low)) (inr low))
          ∙ ap (λ b. is_among k (subscript_numbers ys) || b) (same k low high)));
    }

  -- an op that takes no vector subscript
  pub vectors-one : (vectors : List ℕ) (n : ℕ) (ops : List Op) (taken : ℕ → Bool) → VectorsFor vectors n ops taken → subscript_numbers ops ≡ [] → n < n + numbers_of ops → is_among n vectors ≡ taken n
  vectors-one vectors n ops taken h none some = h.are n (omega arith) some ∙ ap (λ ns. is_among n ns || taken n) none
