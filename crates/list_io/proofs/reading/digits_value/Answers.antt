use Rattle.std.proofs.Common.{◌≡◌, ◌<◌, ◌+◌, ◌-◌, ◌*◌, ℕ, suc, ap, Bool, true, false, List, [], ◌∷◌, None, length, drop, get_or, refl, sym, ◌∙◌, arith, rules}
use Rattle.std.proofs.Math.Seq.{drop-cons}
use Rattle.list_io.specs.Items.{is_digit, digits_value}
use Rattle.list_io.specs.Spelled.{up_to_limit}
use Rattle.list_io.proofs.reading.digits_value.Goals as goal

-- further digits make no number smaller
above : (n : ℕ) (ds : List ℕ) → 2147483648 < n → up_to_limit (digits_value n ds) ≡ None
above n [] h = grind arith
above n (d ∷ ds) h = elim (is_digit d) as (λ b. up_to_limit (elim b [ true ↦ digits_value (10 * n + (d - 48)) ds | false ↦ None ]) ≡ None) [
  | true ↦ above (10 * n + (d - 48)) ds (omega (arith, h))
  | false ↦ refl
]

digit-first : (n d : ℕ) (ds : List ℕ) → is_digit d ≡ true → digits_value n (d ∷ ds) ≡ digits_value (10 * n + (d - 48)) ds
digit-first n d ds h = ap (λ (b : Bool). elim b [ true ↦ digits_value (10 * n + (d - 48)) ds | false ↦ None ]) h

passed : (n i : ℕ) (ds : List ℕ) → i < length ds → is_digit (get_or ds i 0) ≡ true → 2147483648 < 10 * n + (get_or ds i 0 - 48) → up_to_limit (digits_value n (drop i ds)) ≡ None
passed n i ds h d l = rw (drop-cons ds i 0 h, digit-first n (get_or ds i 0) (drop (suc i) ds) d) (above (10 * n + (get_or ds i 0 - 48)) (drop (suc i) ds) l)

pub returns-then-value-gt-GREATEST_SIZE : goal.returns-then-value-gt-GREATEST_SIZE
returns-then-value-gt-GREATEST_SIZE c =
    sym (passed c.loop-byte.value c.loop-byte.byte-index c.args.digits.now c.loop-byte-test.true (search rules) (omega arith)) ∙ c.loop-byte.invariant.same
