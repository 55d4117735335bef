-- What the subscripts of a designator select, dimension by dimension. The first dimension varies fastest.
use Rattle.std.specs.Prelude.{ℕ, ◌/◌, ◌%◌, ◌==◌, Bool, ◌&&◌, ◌||◌, nat_lt, if◌then◌else◌, List, map, Ok, ℤ, pos, ◌+ℤ◌, ◌-ℤ◌, ◌*ℤ◌}
use Rattle.ws_base.specs.declared.fault.FaultName.TheVariants.{Bounds, TooLarge, ZeroStride}
use Rattle.ws_base.specs.Numbers.{int_eq, default_half, exact}
use Rattle.ws_base.specs.Outcomes.{Staged, trouble, scalar_of, each, rows}
use Rattle.ws_space.specs.declared.shape.Dim.{Dim}
use Rattle.ws_space.specs.declared.shape.Triplet.{Triplet}
use Rattle.ws_space.specs.declared.state.ArrayValue.{ArrayValue}
use Rattle.ws_space.specs.declared.shape.TheConstants.{ELEMENT_LIMIT}
use Rattle.ws_space.specs.Shapes.{Extents, dims, size, upper, within, count, place}
use Rattle.ws_space.specs.Subscripts.{stepped}
use Rattle.ws_space.specs.Values.{element}

-- ---- what is looked at once, before any element

-- the upper bound that a triplet takes where it names none
abbrev pub omitted_upper : Dim → Staged ℤ
omitted_upper d = scalar_of (exact default_half (upper d))

abbrev pub checked_subscript : Dim → ℤ → Staged ℤ
checked_subscript d i = if within d i then Ok i else trouble Bounds

-- A triplet that selects nothing selects nothing out of bounds. Of any other the first and the last subscript are looked at.
abbrev pub ends_within : Dim → Triplet → Bool
ends_within d t = count t == 0 || (within d t.l && within d (t.l +ℤ pos (count t) *ℤ t.s -ℤ t.s))

abbrev pub with_stride : Triplet → Staged Triplet
with_stride t = if int_eq t.s (pos 0) then trouble ZeroStride else Ok t

abbrev pub checked_triplet : Dim → Triplet → Staged Triplet
checked_triplet d t = if int_eq t.s (pos 0) then trouble ZeroStride else (if ends_within d t then Ok t else trouble Bounds)

-- no more elements than an array, a section or a header may have
abbrev pub limited : {A : Type 0} → Extents → A → Staged A
limited e x = if nat_lt ELEMENT_LIMIT (size e) then trouble TooLarge else Ok x

-- ---- the subscript of one dimension at each of some places, where that dimension has n subscripts and the rest varies slower

abbrev pub here : ℕ → List ℕ → List ℕ
here n at = map (λ p. p % n) at

abbrev pub beyond : ℕ → List ℕ → List ℕ
beyond n at = map (λ p. p / n) at

abbrev pub triplet_column : Triplet → List ℕ → List ℤ
triplet_column t at = map (λ p. stepped t (p % count t)) at

-- every subscript of a dimension
abbrev pub full_column : Dim → List ℕ → List ℤ
full_column d at = map (λ p. d.lower +ℤ pos (p % d.extent)) at

-- ---- the elements, from the columns of their subscripts

abbrev pub elements_at : {X : Type 0} → ArrayValue → List X → List (List ℤ) → Staged (List ℤ)
elements_at a at columns = each (element a) (rows at columns)

abbrev pub places_at : {X : Type 0} → ArrayValue → List X → List (List ℤ) → Staged (List ℕ)
places_at a at columns = each (place (dims a.shape)) (rows at columns)
