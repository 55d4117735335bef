-- The vector subscripts of one list of ops and of another after it.
use Rattle.std.proofs.Common.{refl, sym, ◌∙◌, ℕ, ◌+◌, ◌≤◌, List, ◌++◌, arith}
use Rattle.ws_space.specs.Values.{is_among}
use Rattle.hlfir_ops.specs.declared.op.Op.{Op}
use Rattle.hlfir_ops.specs.Numbers.{numbers_of}
use Rattle.hlfir_meaning.specs.Stage1.{subscript_numbers}
use Rattle.value_laws.specs.Vectors.{VectorsAre}
use Rattle.value_laws.proofs.Elementals.{own-wider}
use Rattle.value_laws.proofs.VectorNumbers as owned
use Rattle.value_laws.proofs.VectorNumbers.{OwnSubscripts, VectorsFor, or-false}
use Rattle.value_laws.proofs.ClearOperators.{no_one}
use Rattle.forall_laws.specs.Owned.{OwnIn}

module _ (base n : ℕ) (l : base ≤ n) (xs ys : List Op) where
  own_from : (m : ℕ) (ops : List Op) → OwnIn base m ops → OwnSubscripts base m m ops
  own_from m ops h = record { own = h }

  -- the values of the first ops are those of both, too
  after_first : OwnIn base (n + numbers_of xs) ys → OwnSubscripts base n (n + numbers_of xs) ys
  after_first g = record { own = λ v is. let m = n + numbers_of xs in own-wider base m n (m + numbers_of ys) (m + numbers_of ys) v (omega arith) (omega arith) (g v is) }

  pub own-append : OwnIn base n xs → OwnIn base (n + numbers_of xs) ys → OwnIn base n (xs ++ ys)
  own-append h g v is = (owned.own-append base n n xs ys (own_from n xs h) (after_first g)).own v is

  module _ (vectors : List ℕ) (all : VectorsAre vectors n (xs ++ ys)) where
    both : VectorsFor base vectors n (xs ++ ys) no_one
    both = record { are = λ v low high. all v low high ∙ sym (or-false (is_among v (subscript_numbers (xs ++ ys)))) }

    pub vectors-first : OwnIn base (n + numbers_of xs) ys → VectorsAre vectors n xs
    vectors-first own v low high =
        let m = n + numbers_of xs in
        (owned.vectors-front base vectors n l xs ys no_one no_one both (own_from m ys own) (λ k a b. refl)).are v low high ∙ or-false (is_among v (subscript_numbers xs))

    pub vectors-after : OwnIn base n xs → VectorsAre vectors (n + numbers_of xs) ys
    vectors-after own v low high =
        (owned.vectors-back base vectors n l xs ys no_one no_one both (own_from n xs own) (λ k a b. refl)).are v low high ∙ or-false (is_among v (subscript_numbers ys))
