-- Whether a write harms one of several reads.
use Rattle.std.proofs.Common.{◌≡◌, refl, ap, sym, ◌∙◌, ℕ, Bool, true, false, List, [], ◌∷◌, ◌++◌, map, None}
use Rattle.std.specs.Prelude.{◌||◌}
use Rattle.std.specs.List.{flat_map, list_any}
use Rattle.std.proofs.lemmas.List.Folds.{list_any-append}
use Rattle.hlfir_ops.specs.declared.op.ValueId.{ValueId}
use Rattle.hlfir_ops.specs.declared.op.Op.{Op}
use Rattle.alias_test.specs.declared.designator.Designator.{Designator}
use Rattle.alias_test.specs.Normal.{designator_at}
use Rattle.alias_test.specs.Relations.{relation}
use Rattle.assign_schedule.specs.declared.way.Way.{Way}
use Rattle.assign_schedule.specs.declared.way.Way.TheVariants.{Elements, Subscripts}
use Rattle.assign_schedule.specs.Harms.{harms, harms_read}
use Rattle.assign_schedule.specs.Reads.{Read, operand, vector_subscript, reached_from, reached, subscripts_of, subscript_reads, array_reads}
use Rattle.assign_schedule.specs.Wanted.{SameMembers, below}
use Rattle.assign_schedule.proofs.Wanting.{same-flat_map}

-- ---- lists

any-map : {X Y : Type 0} (p : Y → Bool) (h : X → Y) (xs : List X) → list_any p (map h xs) ≡ list_any (λ x. p (h x)) xs
any-map p h [] = refl
any-map p h (x ∷ xs) = ap (λ b. p (h x) || b) (any-map p h xs)

any-flat_map : {X Y : Type 0} (p : Y → Bool) (f : X → List Y) (xs : List X) → list_any p (flat_map f xs) ≡ list_any (λ x. list_any p (f x)) xs
any-flat_map p f [] = refl
any-flat_map p f (x ∷ xs) = list_any-append p (f x) (flat_map f xs) ∙ ap (λ b. list_any p (f x) || b) (any-flat_map p f xs)

any_alike : {X : Type 0} (p q : X → Bool) → ((x : X) → p x ≡ q x) → (xs : List X) → list_any p xs ≡ list_any q xs
any_alike p q h [] = refl
any_alike p q h (x ∷ xs) = ap (λ b. b || list_any p xs) (h x) ∙ ap (λ b. q x || b) (any_alike p q h xs)

flat_map-map : {X Y Z : Type 0} (f : Y → List Z) (g : X → Y) (xs : List X) → flat_map f (map g xs) ≡ flat_map (λ x. f (g x)) xs
flat_map-map f g [] = refl
flat_map-map f g (x ∷ xs) = ap (λ l. f (g x) ++ l) (flat_map-map f g xs)

-- ---- from values to what is reached from them

below_none : (vs : List ValueId) → below None vs ≡ map (λ v. v.number) vs
below_none [] = refl
below_none (v ∷ vs) = ap (λ l. v.number ∷ l) (below_none vs)

pub all_reached : (way : Way) (gs : List Op) (vs : List ValueId) (old start found : List ℕ) → old ≡ [] → SameMembers start (old ++ below None vs) → SameMembers found (flat_map (reached_from way gs) start) →
    SameMembers found (reached way gs vs)
all_reached way gs vs old start found none wanted same p =
    let f = reached_from way gs in
    same p
    ∙ (same-flat_map f start (below None vs) (λ q. wanted q ∙ ap (λ l. list_any q (l ++ below None vs)) none) p
    ∙ ap (list_any p) (ap (flat_map f) (below_none vs) ∙ flat_map-map f (λ v. v.number) vs))

-- ---- reads

or_false : (b : Bool) → b ≡ (b || false)
or_false true = refl
or_false false = refl

or_true : (b : Bool) → true ≡ (b || true)
or_true true = refl
or_true false = refl

pub harmed_operands : (gs : List Op) (again : Bool) (t : Designator) (items ns : List ℕ) → SameMembers items ns →
    list_any (λ n. harms (relation t (designator_at gs n)) again) items ≡ list_any (harms_read gs again t) (map operand ns)
harmed_operands gs again t items ns same =
    same (λ n. harms (relation t (designator_at gs n)) again)
    ∙ (any_alike (λ n. harms (relation t (designator_at gs n)) again) (λ n. harms_read gs again t (operand n)) (λ n. ap (harms (relation t (designator_at gs n))) (or_false again)) ns
    ∙ sym (any-map (harms_read gs again t) operand ns))

pub harmed_vectors : (gs : List Op) (again : Bool) (t : Designator) (items ns : List ℕ) → SameMembers items ns →
    list_any (λ n. harms (relation t (designator_at gs n)) true) items ≡ list_any (harms_read gs again t) (map vector_subscript ns)
harmed_vectors gs again t items ns same =
    same (λ n. harms (relation t (designator_at gs n)) true)
    ∙ (any_alike (λ n. harms (relation t (designator_at gs n)) true) (λ n. harms_read gs again t (vector_subscript n)) (λ n. ap (harms (relation t (designator_at gs n))) (or_true again)) ns
    ∙ sym (any-map (harms_read gs again t) vector_subscript ns))

any_subscript : (gs : List Op) (test : Read → Bool) (ns : List ℕ) → list_any test (subscript_reads gs ns) ≡
    list_any (λ n. list_any (λ v. list_any (λ k. test (vector_subscript k)) (reached_from Subscripts gs v.number)) (subscripts_of gs n)) ns
any_subscript gs test ns =
    any-map test vector_subscript (reached Subscripts gs (flat_map (subscripts_of gs) ns))
    ∙ (any-flat_map (λ k. test (vector_subscript k)) (λ v. reached_from Subscripts gs v.number) (flat_map (subscripts_of gs) ns)
    ∙ any-flat_map (λ v. list_any (λ k. test (vector_subscript k)) (reached_from Subscripts gs v.number)) (subscripts_of gs) ns)

pub subscripts_same : (gs : List Op) (test : Read → Bool) (ms ns : List ℕ) → SameMembers ms ns → list_any test (subscript_reads gs ms) ≡ list_any test (subscript_reads gs ns)
subscripts_same gs test ms ns same = any_subscript gs test ms ∙ (same (λ n. list_any (λ v. list_any (λ k. test (vector_subscript k)) (reached_from Subscripts gs v.number)) (subscripts_of gs n)) ∙ sym (any_subscript gs test ns))

pub harmed_arrays : (gs : List Op) (again : Bool) (t : Designator) (vs : List ValueId) (items : List ℕ) → SameMembers items (reached Elements gs vs) →
    list_any (harms_read gs again t) (array_reads gs vs) ≡ (list_any (λ n. harms (relation t (designator_at gs n)) again) items || list_any (harms_read gs again t) (subscript_reads gs items))
harmed_arrays gs again t vs items same =
    let arrays = reached Elements gs vs in
    list_any-append (harms_read gs again t) (map operand arrays) (subscript_reads gs arrays)
    ∙ (ap (λ b. b || list_any (harms_read gs again t) (subscript_reads gs arrays)) (sym (harmed_operands gs again t items arrays same))
    ∙ ap (λ b. list_any (λ n. harms (relation t (designator_at gs n)) again) items || b) (sym (subscripts_same gs (harms_read gs again t) items arrays same)))
