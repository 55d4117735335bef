-- The digits of a place come into registers.
use Rattle.std.proofs.Common.{◌≡◌, arith, inl, inr, sym, ap, ◌∙◌, subst, ℕ, zero, suc, ◌+◌, ◌*◌, ◌/◌, ◌%◌, ◌<◌, List, [], ◌∷◌, Ok, ℤ, pos, ◌<ℤ◌}
use Rattle.std.specs.Prelude.{int_div, int_rem}
use Rattle.std.proofs.lemmas.Int.{ints}
use Rattle.std.proofs.Math.Nat.{div-one, div-le_self, mod-eq_of_lt, div-lt_iff_lt-mul, mul_comm}
use Rattle.ws_base.specs.Numbers.{Exact}
use Rattle.ws_space.specs.Shapes.{Extents, size}
use Rattle.phase_ops.specs.declared.phase.Source.{Source}
use Rattle.phase_ops.specs.declared.phase.Source.TheVariants.{Fixed}
use Rattle.phase_ops.specs.declared.phase.Micro.{Micro}
use Rattle.phase_ops.specs.declared.phase.Micro.TheVariants as micro
use Rattle.phase_ops.specs.Phases.{source, source_cells}
use Rattle.phase_ops.specs.Free.{In}
use Rattle.phase_ops.proofs.Members.{in_either}
use Rattle.act_laws.specs.Together.{Files, Scene, with_ops, Level, Follows, well}
use Rattle.act_laws.specs.Seats.{Has, HasPlace}
use Rattle.act_laws.specs.Digits.{LIMIT, digits, AreExtents, HaveDigits, IsPlaceIn}
use Rattle.act_laws.proofs.Following.{Level-with_ops, then_follows, follows_nothing, weaker}
use Rattle.act_laws.proofs.Sure.{has_later, sure}

by_one_is : (p n : ℕ) → int_rem (int_div (pos p) (pos 1)) (pos n) ≡ pos (p % n)
by_one_is p n = ap (λ q. pos (q % n)) (div-one p)

beyond_is : (p n : ℕ) → p < LIMIT → int_rem (int_div (pos p) (pos n)) (pos LIMIT) ≡ pos (p / n)
beyond_is p n l = ap pos (mod-eq_of_lt (let e = div-le_self p n in omega (arith, e, l)))

-- a dimension with a place has an extent above 0
some_extent : (q n x : ℕ) → q < n * x → 0 < n
some_extent q zero x l = absurd (omega (arith, l))
some_extent q (suc n) x l = omega arith

rest_within : (q n x : ℕ) → q < n * x → q / n < x
rest_within q n x l = (div-lt_iff_lt-mul (some_extent q n x l)).1 (subst (λ y. q < y) (mul_comm n x) l)

pub digits_later : (s : Scene) (at : List ℕ) (files : Files) (ops : List Micro) (g : ℕ → ℕ) (regs : List ℕ) (e : Extents) → HaveDigits at g regs e files → HaveDigits at g regs e (with_ops s ops files)
digits_later s at files ops g [] [] h = tt
digits_later s at files ops g (r ∷ rs) (n ∷ ns) h = (has_later s at r (λ p. pos (g p % n)) files ops h.0, digits_later s at files ops (λ p. g p / n) rs ns h.1)
digits_later s at files ops g [] (n ∷ ns) h = absurd h
digits_later s at files ops g (r ∷ rs) [] h = absurd h

module _ (s : Scene) (at : List ℕ) where
  positive_one : (z : ℤ) (f : Source) (n : ℕ) → source s.cells f ≡ pos n → 0 < n → In z (source s.cells f ∷ []) → pos 0 <ℤ z
  positive_one z f n e h (inl i) = subst (λ w. pos 0 <ℤ w) (sym (i ∙ e)) (let q : pos 0 <ℤ pos n = omega (arith, ints, h) in q)
  positive_one z f n e h (inr i) = elim i [ ]

  pub digits_stand : (fs : List Source) (e : Extents) → AreExtents s fs e → (g : ℕ → ℕ) (rest k : ℕ) (files : Files) → Level k files → Has at rest (λ p. pos (g p)) files → ((p : ℕ) → In p at → IsPlaceIn e (g p))
      → Follows s at k files (digits fs rest k).ops well (λ n after. HaveDigits at g (digits fs rest k).regs e after)
  digits_stand [] [] are g rest k files level there below = follows_nothing s at k files tt (λ n after. HaveDigits at g [] [] after) tt
  digits_stand (f ∷ []) (n ∷ []) are g rest k files level there below = follows_nothing s at k files tt (λ y after. HaveDigits at g (rest ∷ []) (n ∷ []) after)
      (λ p i. ((there p i).0 ∙ ap pos (sym (mod-eq_of_lt (let b = (below p i).0 in omega (arith, b)))), (there p i).1), tt)
  digits_stand (f ∷ f' ∷ fs) (n ∷ n' ∷ ns) are g rest k files level there below =
      let x = digits (f' ∷ fs) (k + 1) (k + 1 + 1) in
      let b : Micro = micro.Digit rest (Fixed (pos 1)) f in
      let c : Micro = micro.Digit rest f (Fixed (pos LIMIT)) in
      let first : Files = with_ops s (b ∷ []) files in
      let second : Files = with_ops s (c ∷ []) first in
      let level1 : Level (k + 1) first = Level-with_ops s k files (b ∷ []) level in
      let level2 : Level (k + 1 + 1) second = Level-with_ops s (k + 1) first (c ∷ []) level1 in
      let there1 = has_later s at rest (λ p. pos (g p)) files (b ∷ []) there in
      let Q : Unit {0} → Files → Type 0 = λ y after. HaveDigits at g (k ∷ x.regs) (n ∷ n' ∷ ns) after in
      then_follows s at k files (b ∷ []) (c ∷ x.ops) well (λ y. well) (λ y after. Has at k (λ p. pos (g p % n)) after) Q
      (sure s at k files level b (λ p. pos (g p % n))
      (λ p j. (λ i. let e : Exact = Ok (int_rem (int_div ((there p j).0 i) (pos 1)) (are.0 i)) in e) ∙ ap (λ x. let e : Exact = Ok x in e) (by_one_is (g p) n))
      (λ p j. (
        are.1,
        λ x l. elim l as (λ w. pos 0 <ℤ x) [
          | inl e ↦ subst (λ w. pos 0 <ℤ w) (sym e) (let q : pos 0 <ℤ pos 1 = omega (arith, ints) in q)
          | inr l' ↦ positive_one x f n are.0 (some_extent (g p) n (size (n' ∷ ns)) (below p j).0) l'
        ],
      )))
      (λ y has_digit.
      then_follows s at (k + 1) first (c ∷ []) x.ops well (λ w. well) (λ w after. Has at (k + 1) (λ p. pos (g p / n)) after) Q
      (sure s at (k + 1) first level1 c (λ p. pos (g p / n))
      (λ p j. (λ i. let e : Exact = Ok (int_rem (int_div ((there1 p j).0 i) (are.0 i)) (pos LIMIT)) in e) ∙ ap (λ w. let e : Exact = Ok w in e) (beyond_is (g p) n (below p j).1))
      (λ p j. (
        λ w l. elim (in_either w (source_cells f) [] l) as (λ v. In w s.may) [
          | inl l' ↦ are.1 w l'
          | inr l' ↦ elim l' [ ]
        ],
        λ w l. elim l as (λ v. pos 0 <ℤ w) [
          | inl e ↦ positive_one w f n are.0 (some_extent (g p) n (size (n' ∷ ns)) (below p j).0) (inl e)
          | inr l' ↦ elim l' as (λ v. pos 0 <ℤ w) [
            | inl e ↦ subst (λ v. pos 0 <ℤ v) (sym e) (let q : pos 0 <ℤ pos LIMIT = omega (arith, ints) in q)
            | inr l'' ↦ elim l'' [ ]
          ]
        ],
      )))
      (λ w has_rest.
      weaker s at (k + 1 + 1) second x.ops well (λ v after. HaveDigits at (λ p. g p / n) x.regs (n' ∷ ns) after) Q
      (λ v more. (has_later s at k (λ p. pos (g p % n)) second x.ops (has_later s at k (λ p. pos (g p % n)) first (c ∷ []) has_digit), more))
      (digits_stand (f' ∷ fs) (n' ∷ ns) are.2 (λ p. g p / n) (k + 1) (k + 1 + 1) second level2 has_rest
      (λ p j. (rest_within (g p) n (size (n' ∷ ns)) (below p j).0, let l = div-le_self (g p) n in let h = (below p j).1 in omega (arith, l, h))))))
  digits_stand [] (n ∷ ns) are g rest k files level there below = absurd are
  digits_stand (f ∷ fs) [] are g rest k files level there below = absurd are
  digits_stand (f ∷ []) (n ∷ n' ∷ ns) are g rest k files level there below = absurd are.2
  digits_stand (f ∷ f' ∷ fs) (n ∷ []) are g rest k files level there below = absurd are.2

pub place_digits : (s : Scene) (at : List ℕ) (place k : ℕ) (files : Files) (fs : List Source) (e : Extents) → AreExtents s fs e → Level k files → HasPlace at place files → ((p : ℕ) → In p at → IsPlaceIn e p)
    → Follows s at k files (digits fs place k).ops well (λ n after. HaveDigits at (λ p. p) (digits fs place k).regs e after)
place_digits s at place k files fs e are level here below = digits_stand s at fs e are (λ p. p) place k files level here below
