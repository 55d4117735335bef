-- Elements and sections.
use Rattle.std.proofs.Common.{◌≡◌, refl, sym, ap, ◌∙◌, ℕ, ◌+◌, ◌≤◌, ◌==◌, Bool, true, false, ◌&&◌, nat_lt, List, [], ◌∷◌, map, length, Some, if◌then◌else◌, arith}
use Rattle.std.proofs.lemmas.List.{length-map}
use Rattle.std.specs.List.{flat_map}
use Rattle.std.proofs.lemmas.Bool.{and_from}
use Rattle.ws_types.specs.declared.types.Typed.{Typed}
use Rattle.hlfir_ops.specs.declared.kinds.Elem.{Elem}
use Rattle.hlfir_ops.specs.declared.kinds.Elem.TheVariants.{I32}
use Rattle.hlfir_ops.specs.declared.kinds.ValueKind.{ValueKind}
use Rattle.hlfir_ops.specs.declared.kinds.ValueKind.TheVariants as kind
use Rattle.hlfir_ops.specs.declared.what.What.TheVariants as what
use Rattle.hlfir_ops.specs.declared.op.ValueId.{ValueId}
use Rattle.hlfir_ops.specs.RulesValues.{Value, kind_at, same_elem, elem_of, rank_of, is_scalar, is_reference, is_array, has_elem, has_rank, is_index_vector}
use Rattle.hlfir_ops.specs.RulesForms.{take_subscripts, is_part_of, section_rank}
use Rattle.lower_values.specs.declared.operand.Operand.{Operand}
use Rattle.lower_values.specs.declared.operand.Subscript.{Subscript}
use Rattle.lower_values.specs.declared.operand.Subscript.TheVariants.{One, Range, Vector}
use Rattle.hlfir_ops.specs.Numbers.{numbers_of}
use Rattle.lower_assign.specs.Known.{elem}
use Rattle.lower_values.specs.Scopes.{Scope}
use Rattle.lower_values.specs.Lowerings.{Lowering, Lowered, ◌>>=◌, giving}
use Rattle.lower_values.specs.References.{sub_kind, sub_values, subscript_of, part_kind, designated}
use Rattle.kind_laws.specs.Found.{Holds}
use Rattle.kind_laws.proofs.TypesTold.{same_elem-same}
use Rattle.form_laws.proofs.Passing.{part_fits, AreFit, fit-append}
use Rattle.form_laws.proofs.Operands.{scalar_kind, array_kind, IsFound, giving-found, giving-fit}
use Rattle.form_laws.proofs.Typed.{IsOf}
use Rattle.form_laws.proofs.References.{IsLoadable}

loadable-part : (e : Elem) (rank : ℕ) (b : Bool) → (rank == 0) ≡ b → IsLoadable (if b then kind.Place e else kind.Section e rank)
loadable-part e rank true h = tt
loadable-part e rank false h = h

part_fitting : (e : Elem) (rank : ℕ) (k : ValueKind) (b : Bool) → elem_of k ≡ e → (rank == 0) ≡ b → is_part_of (Some k) rank (Some (if b then kind.Place e else kind.Section e rank)) ≡ true
part_fitting e rank k true is h = and_from (same_elem (elem_of k) e) (rank == 0) (ap (λ f. same_elem f e) is ∙ same_elem-same e) h
part_fitting e rank k false is h =
    and_from (same_elem (elem_of k) e && nat_lt 0 rank) (rank == rank) (and_from (same_elem (elem_of k) e) (nat_lt 0 rank) (ap (λ f. same_elem f e) is ∙ same_elem-same e) (grind (arith, h))) (grind arith)

module _ (vs : List Value) where
  abbrev pub IsInteger : ValueId → Type 0
  IsInteger v = kind_at vs v ≡ Some (kind.Scalar I32)

  abbrev pub SubFits : Subscript → Type 0
  SubFits (One i) = IsInteger i
  SubFits (Range l u s) = IsInteger l × IsInteger u × IsInteger s
  SubFits (Vector v) = is_index_vector (kind_at vs v) ≡ true

  abbrev pub AllSubs : List Subscript → Type 0
  AllSubs [] = Unit {0}
  AllSubs (x ∷ xs) = SubFits x × AllSubs xs

  integer : (v : ValueId) → IsInteger v → is_scalar I32 (kind_at vs v) ≡ true
  integer v h = ap (is_scalar I32) h

  taken : (ss : List Subscript) → AllSubs ss → take_subscripts vs (map sub_kind ss) (flat_map sub_values ss) ≡ true
  taken [] h = refl
  taken (One i ∷ ss) h = and_from (is_scalar I32 (kind_at vs i)) (take_subscripts vs (map sub_kind ss) (flat_map sub_values ss)) (integer i h.0) (taken ss h.1)
  taken (Range l u s ∷ ss) h =
      and_from (is_scalar I32 (kind_at vs l) && is_scalar I32 (kind_at vs u) && is_scalar I32 (kind_at vs s)) (take_subscripts vs (map sub_kind ss) (flat_map sub_values ss))
      (and_from (is_scalar I32 (kind_at vs l) && is_scalar I32 (kind_at vs u)) (is_scalar I32 (kind_at vs s)) (and_from (is_scalar I32 (kind_at vs l)) (is_scalar I32 (kind_at vs u)) (integer l h.0.0) (integer u h.0.1)) (integer s h.0.2)) (taken ss h.1)
  taken (Vector v ∷ ss) h = and_from (is_index_vector (kind_at vs v)) (take_subscripts vs (map sub_kind ss) (flat_map sub_values ss)) h.0 (taken ss h.1)

  -- ---- one subscript

  pub integer-of : (ty : Typed) (x : Operand) → IsOf vs ty x → ty.truth ≡ false → ty.rank ≡ 0 → IsInteger x.value
  integer-of ty x of truth rank =
      of.stands.found ∙ (ap Some (scalar_kind x.kind of.stands.solid (ap (λ r. r == 0) (of.of_rank ∙ rank))) ∙ ap (λ e. Some (kind.Scalar e)) (of.of_elem ∙ ap elem truth))

  one_or_vector : (ty : Typed) (x : Operand) (b : Bool) → IsOf vs ty x → ty.truth ≡ false → ty.rank ≤ 1 → (rank_of x.kind == 0) ≡ b → SubFits (if b then One x.value else Vector x.value)
  one_or_vector ty x true of truth low is = integer-of ty x of truth (sym of.of_rank ∙ (let none : rank_of x.kind ≡ 0 = grind (arith, is) in none))
  one_or_vector ty x false of truth low is =
      let one : (rank_of x.kind == 1) ≡ true = grind (arith, is, of.of_rank, low) in
      ap is_index_vector of.stands.found
      ∙ and_from (is_array (Some x.kind) && has_elem I32 (Some x.kind)) (has_rank 1 (Some x.kind)) (and_from (is_array (Some x.kind)) (has_elem I32 (Some x.kind)) (array_kind x.kind is) (ap (same_elem I32) (of.of_elem ∙ ap elem truth))) one

  pub subscript-fits : (ty : Typed) (x : Operand) → IsOf vs ty x → ty.truth ≡ false → ty.rank ≤ 1 → SubFits (subscript_of x)
  subscript-fits ty x of truth low = one_or_vector ty x (rank_of x.kind == 0) of truth low refl

  -- ---- a part

  pub record Part (l : Lowered Operand) : Type 0 where
    pub fit : AreFit vs false l.ops
    pub found : IsFound vs l.made
    pub loadable : IsLoadable l.made.kind

  pub then-part : {A : Type 0} (p : Lowering A) (q : A → Lowering Operand) (s : Scope) (n : ℕ) → AreFit vs false (p s n).ops → Part (q (p s n).made s (n + numbers_of (p s n).ops)) → Part ((p >>= q) s n)
  unfolding ◌>>=◌
  then-part p q s n h g = record { fit = fit-append vs false (p s n).ops (q (p s n).made s (n + numbers_of (p s n).ops)).ops h g.fit; found = g.found; loadable = g.loadable }

  module _ (r : Operand) (found : IsFound vs r) (reference : is_reference (Some r.kind) ≡ true) (ss : List Subscript) (long : length ss ≡ rank_of r.kind) (fits : AllSubs ss) (s : Scope) (n : ℕ) where
    abbrev rank : ℕ
    rank = section_rank (map sub_kind ss)

    designate-fits : part_fits vs false (what.Designate (map sub_kind ss)) s.line (r.value ∷ flat_map sub_values ss) (Some (part_kind (elem_of r.kind) rank)) [] ≡ true
    designate-fits =
        let many : (rank_of r.kind == length (map sub_kind ss)) ≡ true = grind (arith, long, length-map ss sub_kind) in
        ap (λ k. (is_reference k && has_rank (length (map sub_kind ss)) k && take_subscripts vs (map sub_kind ss) (flat_map sub_values ss)) && is_part_of k rank (Some (part_kind (elem_of r.kind) rank))) found
        ∙ and_from (is_reference (Some r.kind) && has_rank (length (map sub_kind ss)) (Some r.kind) && take_subscripts vs (map sub_kind ss) (flat_map sub_values ss)) (is_part_of (Some r.kind) rank (Some (part_kind (elem_of r.kind) rank)))
        (and_from (is_reference (Some r.kind) && has_rank (length (map sub_kind ss)) (Some r.kind)) (take_subscripts vs (map sub_kind ss) (flat_map sub_values ss))
        (and_from (is_reference (Some r.kind)) (has_rank (length (map sub_kind ss)) (Some r.kind)) reference many) (taken ss fits))
        (part_fitting (elem_of r.kind) rank r.kind (rank == 0) refl refl)

    pub designated-part : Holds vs n (designated r ss s n).ops → Part (designated r ss s n)
    unfolding designated giving
    designated-part held = record {
      fit = giving-fit vs false (what.Designate (map sub_kind ss)) (r.value ∷ flat_map sub_values ss) (part_kind (elem_of r.kind) rank) s n held designate-fits;
      found = giving-found vs false (what.Designate (map sub_kind ss)) (r.value ∷ flat_map sub_values ss) (part_kind (elem_of r.kind) rank) s n held;
      loadable = loadable-part (elem_of r.kind) rank (rank == 0) refl;
    }
