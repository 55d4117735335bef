-- The partial of some values of a reduction, and how partials are merged. A partial is an exact integer. Each table has the seven
-- reductions, and then one row for the other words, which are none.
use Rattle.std.specs.Prelude.{ℕ, suc, ◌-◌, Bool, true, false, ◌&&◌, ◌||◌, List, [], ◌∷◌, Ok, ℤ, pos, negsuc, ◌+ℤ◌, ◌*ℤ◌}
use Rattle.ws_base.specs.Numbers.{Exact, int_eq, truth, is_true, in_range, exact, int_min, int_max}
use Rattle.ws_base.specs.declared.op.CallWord.{CallWord}
use Rattle.ws_base.specs.declared.op.CallWord.TheVariants as word

-- A product out of the range keeps its sign alone, one past the range, until a zero makes it 0.
abbrev pub clamp : ℕ → ℤ → ℤ
clamp half z = int_max (negsuc half) (int_min (pos (suc half)) z)

-- the partial of no value
abbrev pub unit_part : ℕ → CallWord → ℤ
unit_part half word.Sum = pos 0
unit_part half word.Product = pos 1
unit_part half word.Minval = pos (half - 1)
unit_part half word.Maxval = negsuc (half - 1)
unit_part half word.Count = pos 0
unit_part half word.Any = pos 0
unit_part half word.All = pos 1
unit_part half _ = pos 0

-- the partial of one value
abbrev pub part_of : ℕ → CallWord → ℤ → ℤ
part_of half word.Sum z = z
part_of half word.Product z = clamp half z
part_of half word.Minval z = z
part_of half word.Maxval z = z
part_of half word.Count z = truth (is_true z)
part_of half word.Any z = truth (is_true z)
part_of half word.All z = truth (is_true z)
part_of half _ z = pos 0

abbrev pub merge : ℕ → CallWord → ℤ → ℤ → ℤ
merge half word.Sum a b = a +ℤ b
merge half word.Product a b = clamp half (a *ℤ b)
merge half word.Minval a b = int_min a b
merge half word.Maxval a b = int_max a b
merge half word.Count a b = a +ℤ b
merge half word.Any a b = truth (is_true a || is_true b)
merge half word.All a b = truth (is_true a && is_true b)
merge half _ a b = pos 0

-- merging adds, so that it may pass any bound
abbrev pub adds : CallWord → Bool
adds word.Sum = true
adds word.Count = true
adds _ = false

abbrev pub merged : ℕ → CallWord → List ℤ → ℤ
merged half k [] = unit_part half k
merged half k (a ∷ more) = merge half k a (merged half k more)

-- the reduction of the values of a partial
abbrev pub total : ℕ → CallWord → ℤ → Exact
total half word.Sum a = exact half a
total half word.Product a = exact half a
total half word.Minval a = Ok a
total half word.Maxval a = Ok a
total half word.Count a = Ok a
total half word.Any a = Ok a
total half word.All a = Ok a
total half _ a = Ok (pos 0)

abbrev pub is_truth : ℤ → Bool
is_truth z = int_eq z (pos 0) || int_eq z (pos 1)

-- the value is one that the reduction takes
abbrev pub takes : ℕ → CallWord → ℤ → Bool
takes half word.Sum z = in_range half z
takes half word.Product z = in_range half z
takes half word.Minval z = in_range half z
takes half word.Maxval z = in_range half z
takes half word.Count z = is_truth z
takes half word.Any z = is_truth z
takes half word.All z = is_truth z
takes half _ z = false

abbrev pub is_reduction : CallWord → Bool
is_reduction word.Sum = true
is_reduction word.Product = true
is_reduction word.Minval = true
is_reduction word.Maxval = true
is_reduction word.Count = true
is_reduction word.Any = true
is_reduction word.All = true
is_reduction _ = false
