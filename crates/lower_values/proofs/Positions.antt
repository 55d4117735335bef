-- The forms of operations on values.
use Rattle.std.proofs.Common.{◌≡◌, ◌≢◌, refl, ap, ℕ, Bool, if◌then◌else◌, List, [], ◌∷◌, eq-eqb, ne_eqb}
use Rattle.hlfir_ops.specs.declared.kinds.Elem.{Elem}
use Rattle.hlfir_ops.specs.declared.kinds.ValueKind.{ValueKind}
use Rattle.hlfir_ops.specs.declared.kinds.ValueKind.TheVariants.{Scalar, Place, Declared, Allocatable, Section, Array}
use Rattle.ws_space.specs.declared.shape.Shape.{Shape}
use Rattle.hlfir_ops.specs.declared.what.What.{What}
use Rattle.hlfir_ops.specs.declared.what.What.TheVariants as what
use Rattle.hlfir_ops.specs.Built.{Built}
use Rattle.hlfir_ops.specs.RulesValues.{elem_of, rank_of}
use Rattle.lower_values.specs.declared.names.Names.{Names}
use Rattle.lower_values.specs.declared.operand.Operand.{Operand}
use Rattle.lower_values.specs.Lowerings.{Lowering, done, ◌>>=◌, giving, acting, Appends}
use Rattle.lower_values.specs.Operations.{rank_from, on_scalars, at_position, at_positions, element, at_each, operation, value_of_whole}
use Rattle.lower_values.proofs.Appended.{appends-next, appends-map}

-- ---- at a position

pub at_position-scalar : (x : Operand) → rank_of x.kind ≡ 0 → at_position x ≡ done x
unfolding at_position
at_position-scalar x none = ap (λ b. if b then done x else giving what.Apply (x.value ∷ []) (Scalar (elem_of x.kind))) (eq-eqb (rank_of x.kind) 0 none)

pub at_position-array : (x : Operand) → rank_of x.kind ≢ 0 → at_position x ≡ giving what.Apply (x.value ∷ []) (Scalar (elem_of x.kind))
unfolding at_position
at_position-array x some = ap (λ b. if b then done x else giving what.Apply (x.value ∷ []) (Scalar (elem_of x.kind))) (ne_eqb (rank_of x.kind) 0 some)

pub at_positions-none : at_positions [] ≡ done []
unfolding at_positions
at_positions-none = refl

pub at_positions-more : (names : Names) (x : Operand) (xs : List Operand) {old mid : Built} {y : Operand} → Appends names (at_position x) old mid y → (new : Built) (ys : List Operand) → Appends names (at_positions xs) mid new ys → Appends names (at_positions (x ∷ xs)) old new (y ∷ ys)
unfolding at_positions
at_positions-more names x xs {old} {mid} {y} first new ys rest =
    appends-next names (at_position x) (λ z. at_positions xs >>= (λ zs. done (z ∷ zs))) old mid new y (y ∷ ys) first (appends-map names (at_positions xs) (λ zs. y ∷ zs) mid new ys rest)

pub element-is : (names : Names) (w : What) (e : Elem) (xs ys : List Operand) (z : Operand) {old mid last new : Built} → Appends names (at_positions xs) old mid ys → Appends names (on_scalars w e ys) mid last z → Appends names (acting what.YieldElement (z.value ∷ [])) last new tt →
    Appends names (element w e xs) old new tt
unfolding element
element-is names w e xs ys z {old} {mid} {last} {new} first second third =
    appends-next names (at_positions xs) (λ us. on_scalars w e us >>= (λ u. acting what.YieldElement (u.value ∷ []))) old mid new ys tt first
    (appends-next names (on_scalars w e ys) (λ u. acting what.YieldElement (u.value ∷ [])) mid last new z tt second third)

-- ---- an operation

abbrev chosen : Bool → Lowering Operand → Lowering Operand → Lowering Operand
chosen b p q = if b then p else q

pub operation-scalars : (w : What) (e : Elem) (xs : List Operand) → rank_from 0 xs ≡ 0 → operation w e xs ≡ on_scalars w e xs
unfolding operation
operation-scalars w e xs none = ap (λ b. chosen b (on_scalars w e xs) (at_each w e (rank_from 0 xs) xs)) (eq-eqb (rank_from 0 xs) 0 none)

pub operation-arrays : (w : What) (e : Elem) (xs : List Operand) → rank_from 0 xs ≢ 0 → operation w e xs ≡ at_each w e (rank_from 0 xs) xs
unfolding operation
operation-arrays w e xs some = ap (λ b. chosen b (on_scalars w e xs) (at_each w e (rank_from 0 xs) xs)) (ne_eqb (rank_from 0 xs) 0 some)

-- ---- parentheses

pub value_of_whole-other : (k : ValueKind) (x : Operand) → ((e : Elem) (shape : Shape) → k ≢ Declared e shape) → ((e : Elem) (rank : ℕ) → k ≢ Allocatable e rank) → value_of_whole k x ≡ done x
value_of_whole-other (Scalar e) x nd na = refl
value_of_whole-other (Place e) x nd na = refl
value_of_whole-other (Declared e shape) x nd na = absurd (nd e shape refl)
value_of_whole-other (Allocatable e rank) x nd na = absurd (na e rank refl)
value_of_whole-other (Section e rank) x nd na = refl
value_of_whole-other (Array e rank) x nd na = refl
