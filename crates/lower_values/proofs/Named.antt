-- What names stand for at the place of a builder, and the forms of references.
use Rattle.std.proofs.Common.{◌≡◌, ◌≢◌, refl, sym, ap, ◌∙◌, ℕ, suc, ◌+◌, Bool, if◌then◌else◌, List, [], ◌∷◌, Option, arith}
use Rattle.ws_base.specs.declared.name.Name.{Name}
use Rattle.hlfir_ops.specs.declared.kinds.Elem.{Elem}
use Rattle.hlfir_ops.specs.declared.kinds.ValueKind.{ValueKind}
use Rattle.hlfir_ops.specs.declared.kinds.ValueKind.TheVariants.{Scalar, Place, Declared, Allocatable, Section, Array}
use Rattle.hlfir_ops.specs.declared.op.ValueId.{ValueId}
use Rattle.hlfir_ops.specs.declared.what.SubKind.{SubKind}
use Rattle.hlfir_ops.specs.declared.what.SubKind.TheVariants as sub
use Rattle.hlfir_ops.specs.RulesForms.{section_rank}
use Rattle.hlfir_ops.specs.Built as built
use Rattle.hlfir_ops.specs.Built.{Built, index_here, index_around, first_in, taken_around, names_at}
use Rattle.lower_values.specs.declared.names.Names.{Names}
use Rattle.lower_values.specs.declared.operand.Operand.{Operand}
use Rattle.lower_values.specs.Scopes.{Indexed, index_of, with_indexes, indexes_around, scope_at}
use Rattle.lower_values.specs.Lowerings.{Lowering, done, Appends}
use Rattle.lower_values.specs.References.{declare_of, box_of, boxed, reference, load_of, index_or_other, named, added_rank}
use Rattle.lower_values.proofs.Appended.{appends-by, appends-scoped}

-- ---- index names

with_indexes-here : (x : Name) (n : ℕ) (xs : List Name) (outer : List Indexed) → index_of (with_indexes n xs outer) x ≡ index_here x n xs (index_of outer x)
with_indexes-here x n [] outer = refl
with_indexes-here x n (y ∷ ys) outer = with_indexes-here x (suc n) ys (record { name = y; value = record { number = n } } ∷ outer)

pub indexes-around : (around : List built.Place) (x : Name) → index_of (indexes_around around) x ≡ index_around x around
indexes-around [] x = refl
indexes-around (p ∷ around) x =
    with_indexes-here x (first_in (taken_around around) p) (names_at p) (indexes_around around) ∙ ap (index_here x (first_in (taken_around around) p) (names_at p)) (indexes-around around x)

-- ---- names

pub appends-reference : (names : Names) (x : Name) {old new : Built} {r : Operand} → Appends names (boxed (declare_of names x)) old new r → Appends names (reference x) old new r
unfolding reference
appends-reference names x {old} {new} {r} h = appends-scoped names (λ s. boxed (declare_of s.names x)) old new r h

pub appends-named : (names : Names) (x : Name) (v : Option ValueId) {old new : Built} {r : Operand} → v ≡ index_around x old.around → Appends names (index_or_other (scope_at names old.around) x v) old new r → Appends names (named x) old new r
unfolding named
appends-named names x v {old} {new} {r} is h =
    appends-scoped names (λ s. index_or_other s x (index_of s.indexes x)) old new r (appends-by (ap (index_or_other (scope_at names old.around) x) (is ∙ sym (indexes-around old.around x))) refl h)

-- ---- kinds that are no allocatable's, or no place's

pub box_of-other : (k : ValueKind) (d : Operand) → ((e : Elem) (rank : ℕ) → k ≢ Allocatable e rank) → box_of k d ≡ done d
box_of-other (Scalar e) d other = refl
box_of-other (Place e) d other = refl
box_of-other (Declared e shape) d other = refl
box_of-other (Allocatable e rank) d other = absurd (other e rank refl)
box_of-other (Section e rank) d other = refl
box_of-other (Array e rank) d other = refl

pub load_of-other : (k : ValueKind) (r : Operand) → ((e : Elem) → k ≢ Place e) → load_of k r ≡ done r
load_of-other (Scalar e) r other = refl
load_of-other (Place e) r other = absurd (other e refl)
load_of-other (Declared e shape) r other = refl
load_of-other (Allocatable e rank) r other = refl
load_of-other (Section e rank) r other = refl
load_of-other (Array e rank) r other = refl

-- ---- ranks

pub section_rank-more : (k : SubKind) (ks : List SubKind) → section_rank (k ∷ ks) ≡ added_rank k + section_rank ks
section_rank-more sub.One ks = omega arith
section_rank-more sub.Range ks = omega arith
section_rank-more sub.Vector ks = omega arith

-- ---- one of two

abbrev pub chosen : Bool → Lowering Operand → Lowering Operand → Lowering Operand
chosen b p q = if b then p else q
