-- The shapes of declared variables are small.
use Rattle.std.proofs.Common.{◌≡◌, refl, sym, ap, ◌∙◌, ℕ, suc, ◌*◌, ◌≤◌, nat_lt, nat_le, Bool, true, false, List, [], ◌∷◌, ◌++◌, length, map, All, Option, Some, pos, arith}
use Rattle.std.proofs.Math.Nat.{mul_assoc}
use Rattle.std.proofs.lemmas.Bool.{ltb-false, and_from}
use Rattle.std.proofs.lemmas.List.Elements.{All-nil, All-cons}
use Rattle.ws_base.specs.declared.refusal.RefusalKind.TheVariants as refusal
use Rattle.ws_space.specs.declared.shape.Dim.{Dim}
use Rattle.ws_space.specs.Shapes.{size, extents_of, shape_of, declared_dim}
use Rattle.ws_space.specs.WellFormed.{elements}
use Rattle.ws_tree.specs.declared.stmt.Bound.{Bound}
use Rattle.ws_tree.specs.declared.stmt.Bound.TheVariants as bound
use Rattle.ws_tree.specs.declared.stmt.Decl.{Decl}
use Rattle.ws_types.specs.declared.constant.Constant.{Constant}
use Rattle.ws_types.specs.Constants.{constancy, value_of}
use Rattle.ws_sema.specs.Declarations.{element_limit, bound_faults, bounds_faults, extent_between, extent_of, times, is_large, is_too_large, shape_faults, decls_faults, with_constant, constants_after}
use Rattle.hlfir_ops.specs.declared.kinds.Elem.{Elem}
use Rattle.hlfir_ops.specs.RulesLimits.{is_small, rank_limit}
use Rattle.hlfir_ops.specs.RulesLimits as limits
use Rattle.lower_values.specs.declared.names.Variable.{Variable}
use Rattle.lower_assign.specs.Known.{value_or_zero, elem, bound_dim, declared_shape, variable_kind, kind_of, variable, declares_variable, if_variable, variable_decls, numbered}
use Rattle.small_laws.proofs.NoFaults.{none_first, none_after, not_broken, impossible, left_false, right_false}
use Rattle.kind_laws.proofs.ConstantsKnown.{value_after, value_at}
use Rattle.kind_laws.proofs.Extended.{Extends, constancy-extends}

-- ---- a constant expression keeps its value

-- ---- dimensions

module _ (cs ds : List Constant) (later : Extends cs ds) where
  extent_is : (line : ℕ) (b : Bound) → bound_faults cs line false b ≡ [] → extent_of cs b ≡ Some (bound_dim ds b).extent
  unfolding bound_faults
  extent_is line (bound.Upper u) f =
      let v = value_at line (constancy cs u) (none_first _ _ f) in
      ap (λ c. extent_between (Some (pos 1)) (value_of c)) v.1 ∙ ap (λ c. let n : Option ℕ = Some (declared_dim (pos 1) (value_or_zero c)).extent in n) (sym (constancy-extends cs ds later u v.0 v.1))
  extent_is line (bound.Both l u) f =
      let vl = value_at line (constancy cs l) (none_first _ _ (none_first _ _ f)) in
      let vu = value_at line (constancy cs u) (none_after _ _ (none_first _ _ f)) in
      ap (λ c. extent_between (value_of c) (value_of (constancy cs u))) vl.1
      ∙ (ap (λ c. extent_between (Some vl.0) (value_of c)) vu.1
      ∙ (ap (λ c. let n : Option ℕ = Some (declared_dim (value_or_zero c) vu.0).extent in n) (sym (constancy-extends cs ds later l vl.0 vl.1))
      ∙ ap (λ c. let n : Option ℕ = Some (declared_dim (value_or_zero (constancy ds l)) (value_or_zero c)).extent in n) (sym (constancy-extends cs ds later u vu.0 vu.1))))
  extent_is line bound.Deferred f = impossible line refusal.NotAllocatable f

  large_is : (line n : ℕ) (bs : List Bound) → bounds_faults cs line false bs ≡ [] → is_too_large cs (Some n) bs ≡ nat_lt element_limit (n * size (extents_of (map (bound_dim ds) bs)))
  large_is line n [] f = ap (nat_lt element_limit) (omega arith)
  large_is line n (b ∷ bs) f =
      ap (λ x. is_too_large cs (times (Some n) x) bs) (extent_is line b (none_first _ _ f))
      ∙ (large_is line (n * (bound_dim ds b).extent) bs (none_after _ _ f) ∙ ap (nat_lt element_limit) (mul_assoc n (bound_dim ds b).extent (size (extents_of (map (bound_dim ds) bs)))))

  shape_elements : (xs : List Dim) → length xs ≤ 3 → elements (shape_of xs) ≡ size (extents_of xs)
  shape_elements [] h = refl
  shape_elements (a ∷ []) h = refl
  shape_elements (a ∷ b ∷ []) h = refl
  shape_elements (a ∷ b ∷ c ∷ []) h = refl
  shape_elements (a ∷ b ∷ c ∷ d ∷ xs) h = absurd (omega (arith, h))

  shape_rank : (bs : List Bound) → length bs ≤ 3 → (declared_shape ds bs).rank ≤ 3
  shape_rank [] h = omega arith
  shape_rank (a ∷ []) h = omega arith
  shape_rank (a ∷ b ∷ []) h = omega arith
  shape_rank (a ∷ b ∷ c ∷ []) h = omega arith
  shape_rank (a ∷ b ∷ c ∷ d ∷ bs) h = absurd (omega (arith, h))

  map_length : (bs : List Bound) → length (map (bound_dim ds) bs) ≡ length bs
  map_length [] = refl
  map_length (b ∷ bs) = ap suc (map_length bs)

  at_most : (n m : ℕ) → n ≤ m → nat_le n m ≡ true
  at_most n m h = grind (arith, h)

  few : (n : ℕ) → nat_lt element_limit (1 * n) ≡ false → n ≤ 65536
  few n h = let g = ltb-false element_limit (1 * n) h in omega (arith, g)

  kind_small : (allocatable : Bool) (line : ℕ) (e : Elem) (bs : List Bound) → bounds_faults cs line allocatable bs ≡ [] → is_large cs bs ≡ false → is_small (Some (variable_kind allocatable e (declared_shape ds bs) bs)) ≡ true
  kind_small true line e bs f large = at_most (declared_shape ds bs).rank rank_limit (shape_rank bs (ltb-false 3 (length bs) (left_false _ _ large)))
  kind_small false line e [] f large = refl
  kind_small false line e (b ∷ bs) f large =
      let narrow = ltb-false 3 (length (b ∷ bs)) (left_false _ _ large) in
      let n = size (extents_of (map (bound_dim ds) (b ∷ bs))) in
      let count : elements (declared_shape ds (b ∷ bs)) ≡ n = shape_elements (map (bound_dim ds) (b ∷ bs)) (omega (arith, map_length (b ∷ bs), narrow)) in
      and_from _ _ (at_most (declared_shape ds (b ∷ bs)).rank rank_limit (shape_rank (b ∷ bs) narrow))
      (at_most (elements (declared_shape ds (b ∷ bs))) limits.element_limit (omega (arith, count, few n (sym (large_is line 1 (b ∷ bs) f) ∙ right_false _ _ large))))

-- ---- all variables of a source

abbrev pub HasSmallKind : Variable → Type 0
HasSmallKind v = is_small (Some v.declare.kind) ≡ true

not_large : (cs : List Constant) (d : Decl) → shape_faults cs d ≡ [] → is_large cs d.shape ≡ false
unfolding shape_faults
not_large cs d f = not_broken _ _ _ (none_after _ _ f)

one_small : (b : Bool) (n : ℕ) (cs : List Constant) (d : Decl) (ds : List Decl) → is_small (Some (kind_of cs d)) ≡ true → ((m : ℕ) → All HasSmallKind (numbered m cs ds)) → All HasSmallKind (numbered n cs (if_variable b d ++ ds))
one_small true n cs d ds h rest = All-cons HasSmallKind (variable n cs d) (numbered (suc n) cs ds) h (rest (suc n))
one_small false n cs d ds h rest = rest n

all_small : (before : List Decl) (cs : List Constant) (ds : List Decl) → decls_faults before cs ds ≡ [] → (n : ℕ) → All HasSmallKind (numbered n (constants_after cs ds) (variable_decls ds))
all_small before cs [] f n = All-nil HasSmallKind
all_small before cs (d ∷ ds) f n =
    one_small (declares_variable d.constant) n (constants_after cs (d ∷ ds)) d (variable_decls ds)
    (kind_small cs (constants_after cs (d ∷ ds)) (λ x z h. value_after cs (d ∷ ds) x z h) d.allocatable d.line (elem d.truth) d.shape (none_after _ _ (none_first _ _ (none_first _ _ f))) (not_large cs d (none_after _ _ (none_first _ _ f))))
    (λ m. all_small (before ++ d ∷ []) (with_constant cs d) ds (none_after _ _ f) m)

pub variables-small : (ds : List Decl) → decls_faults [] [] ds ≡ [] → All HasSmallKind (numbered 0 (constants_after [] ds) (variable_decls ds))
variables-small ds f = all_small [] [] ds f 0
