-- A declaration in which no rule is broken is small.
use Rattle.std.proofs.Common.{◌≡◌, refl, sym, ap, ◌∙◌, subst, ℕ, ◌*◌, ◌≤◌, Bool, true, false, List, [], ◌∷◌, ◌++◌, length, All, Option, Some, None, Ok, ℤ, pos, nat_lt, arith}
use Rattle.std.proofs.Math.Nat.{mul_assoc}
use Rattle.std.proofs.lemmas.Bool.{ltb-false}
use Rattle.std.proofs.lemmas.List.Elements.{All-nil, All-cons}
use Rattle.ws_base.specs.declared.refusal.RefusalKind.TheVariants as kind
use Rattle.ws_base.specs.Outcomes.{Staged, ◌>>=◌}
use Rattle.ws_space.specs.declared.shape.Dim.{Dim}
use Rattle.ws_space.specs.Shapes.{size, extents_of, declared_dim}
use Rattle.ws_tree.specs.declared.expr.Expr.{Expr}
use Rattle.ws_tree.specs.declared.stmt.Bound.{Bound}
use Rattle.ws_tree.specs.declared.stmt.Bound.TheVariants as bound
use Rattle.ws_tree.specs.declared.stmt.Decl.{Decl}
use Rattle.ws_types.specs.declared.constant.Constant as types
use Rattle.ws_types.specs.declared.constant.Constancy.TheVariants.{Value}
use Rattle.ws_types.specs.Constants.{constancy, truth_constancy, constant_faults, value_of}
use Rattle.ws_sema.specs.Declarations.{element_limit, heading_faults, is_declared, value_faults, bound_faults, bounds_faults, extent_between, extent_of, times, is_large, is_too_large, shape_faults, decl_faults, decls_faults, with_constant}
use Rattle.array_meaning.specs.declared.world.Constant.{Constant}
use Rattle.array_meaning.specs.Forall.{scalar}
use Rattle.array_meaning.specs.Program.{constants_alone, bound_dim, bound_dims, staged_or, declared_dims, declaring}
use Rattle.term_eval.specs.Limits.{IsSmall}
use Rattle.small_laws.specs.Small.{IsSmallOption, IsSmallBound, AreDims, IsSmallDecl, AreSmallDecls}
use Rattle.ws_sema.proofs.NoFaults.{none_first, none_after, not_broken, impossible, left_false, right_false}
use Rattle.small_laws.proofs.Constancy.{Agree, IsComputed, computed, scalar_is, truth_small, valued}
use Rattle.small_laws.proofs.Constants.{HasOnly, agree_after, only_after}
use Rattle.small_laws.proofs.Tables.{declared_rank}

-- ---- the value of a constant

pub value_small : (cs : List types.Constant) (ks : List Constant) (line : ℕ) (truth : Bool) (o : Option Expr) → Agree cs ks → value_faults cs line truth o ≡ [] → IsSmallOption o
value_small cs ks line truth None agree f = tt
value_small cs ks line true (Some e) agree f = (valued line (truth_constancy e) (λ z. IsSmall e) f (truth_small e)).2
value_small cs ks line false (Some e) agree f = (valued line (constancy cs e) (IsComputed ks e) f (computed cs ks agree e)).2.small

-- ---- bounds

bound_value : (cs : List types.Constant) (ks : List Constant) (line : ℕ) (e : Expr) → Agree cs ks → constant_faults line (constancy cs e) ≡ [] → (z : ℤ) × (constancy cs e ≡ Value z) × IsComputed ks e z
bound_value cs ks line e agree f = valued line (constancy cs e) (IsComputed ks e) f (computed cs ks agree e)

bound_small : (cs : List types.Constant) (ks : List Constant) (line : ℕ) (allocatable : Bool) (b : Bound) → Agree cs ks → bound_faults cs line allocatable b ≡ [] → IsSmallBound b
unfolding bound_faults
bound_small cs ks line allocatable (bound.Upper u) agree f = (bound_value cs ks line u agree (none_first _ _ f)).2.small
bound_small cs ks line allocatable (bound.Both l u) agree f =
    let bounds = none_first _ _ f in ((bound_value cs ks line l agree (none_first _ _ bounds)).2.small, (bound_value cs ks line u agree (none_after _ _ bounds)).2.small)
bound_small cs ks line allocatable bound.Deferred agree f = tt

pub bounds_small : (cs : List types.Constant) (ks : List Constant) (line : ℕ) (allocatable : Bool) (bs : List Bound) → Agree cs ks → bounds_faults cs line allocatable bs ≡ [] → All IsSmallBound bs
bounds_small cs ks line allocatable [] agree f = All-nil IsSmallBound
bounds_small cs ks line allocatable (b ∷ bs) agree f = All-cons IsSmallBound b bs (bound_small cs ks line allocatable b agree (none_first _ _ f)) (bounds_small cs ks line allocatable bs agree (none_after _ _ f))

-- ---- the dimensions of an array that is not allocatable

-- the dimension is computed, and has the extent that the rules find
pub record HasDim (cs : List types.Constant) (ks : List Constant) (b : Bound) : Type 0 where
  pub dim : Dim
  pub made : bound_dim (constants_alone ks) b ≡ Ok dim
  pub extent : extent_of cs b ≡ Some dim.extent

has_dim : (cs : List types.Constant) (ks : List Constant) (line : ℕ) (b : Bound) → Agree cs ks → bound_faults cs line false b ≡ [] → HasDim cs ks b
unfolding bound_faults
has_dim cs ks line (bound.Upper u) agree f =
    let value = bound_value cs ks line u agree (none_first _ _ f) in
    record {
      dim = declared_dim (pos 1) value.0;
      made = ap (λ r. r >>= (λ z. let s : Staged Dim = Ok (declared_dim (pos 1) z) in s)) (scalar_is ks u value.0 value.2);
      extent = ap (λ c. extent_between (Some (pos 1)) (value_of c)) value.1;
    }
has_dim cs ks line (bound.Both l u) agree f =
    let bounds = none_first _ _ f in
    let lower = bound_value cs ks line l agree (none_first _ _ bounds) in
    let upper = bound_value cs ks line u agree (none_after _ _ bounds) in
    record {
      dim = declared_dim lower.0 upper.0;
      made =
          ap (λ r. r >>= (λ y. scalar (constants_alone ks) u >>= (λ z. let s : Staged Dim = Ok (declared_dim y z) in s))) (scalar_is ks l lower.0 lower.2)
          ∙ ap (λ r. r >>= (λ z. let s : Staged Dim = Ok (declared_dim lower.0 z) in s)) (scalar_is ks u upper.0 upper.2);
      extent = ap (λ c. extent_between (value_of c) (value_of (constancy cs u))) lower.1 ∙ ap (λ c. extent_between (Some lower.0) (value_of c)) upper.1;
    }
has_dim cs ks line bound.Deferred agree f = impossible line kind.NotAllocatable f

pub record HaveDims (cs : List types.Constant) (ks : List Constant) (bs : List Bound) : Type 0 where
  pub dims : List Dim
  pub made : bound_dims (constants_alone ks) bs ≡ Ok dims
  pub many : length dims ≡ length bs
  pub large : (n : ℕ) → is_too_large cs (Some n) bs ≡ nat_lt element_limit (n * size (extents_of dims))

dims_more : (cs : List types.Constant) (ks : List Constant) (b : Bound) (bs : List Bound) → HasDim cs ks b → HaveDims cs ks bs → HaveDims cs ks (b ∷ bs)
dims_more cs ks b bs h k = record {
  dims = h.dim ∷ k.dims;
  made =
      ap (λ r. r >>= (λ d. bound_dims (constants_alone ks) bs >>= (λ ds. let s : Staged (List Dim) = Ok (d ∷ ds) in s))) h.made
      ∙ ap (λ r. r >>= (λ ds. let s : Staged (List Dim) = Ok (h.dim ∷ ds) in s)) k.made;
  many = let m = k.many in omega (arith, m);
  large = λ n.
      ap (λ x. is_too_large cs (times (Some n) x) bs) h.extent
      ∙ (k.large (n * h.dim.extent) ∙ ap (nat_lt element_limit) (mul_assoc n h.dim.extent (size (extents_of k.dims))));
}

have_dims : (cs : List types.Constant) (ks : List Constant) (line : ℕ) (bs : List Bound) → Agree cs ks → bounds_faults cs line false bs ≡ [] → HaveDims cs ks bs
have_dims cs ks line [] agree f = record { dims = []; made = refl; many = refl; large = λ n. ap (nat_lt element_limit) (omega arith) }
have_dims cs ks line (b ∷ bs) agree f = dims_more cs ks b bs (has_dim cs ks line b agree (none_first _ _ f)) (have_dims cs ks line bs agree (none_after _ _ f))

few_elements : (n : ℕ) → nat_lt element_limit (1 * n) ≡ false → n ≤ 65536
few_elements n e = let h = ltb-false element_limit (1 * n) e in omega arith

small_dims : (ds : List Dim) (rank : ℕ) → length ds ≡ rank → rank ≤ 3 → size (extents_of ds) ≤ 65536 → AreDims ds
small_dims ds rank many narrow few = record { narrow = omega arith; few = few }

pub are_dims : (cs : List types.Constant) (ks : List Constant) (line : ℕ) (bs : List Bound) → Agree cs ks → bounds_faults cs line false bs ≡ [] → is_large cs bs ≡ false → AreDims (declared_dims ks bs)
are_dims cs ks line bs agree f e =
    let h = have_dims cs ks line bs agree f in
    let narrow : length bs ≤ 3 = ltb-false 3 (length bs) (left_false _ _ e) in
    let few : nat_lt element_limit (1 * size (extents_of h.dims)) ≡ false = sym (h.large 1) ∙ right_false _ _ e in
    subst AreDims (sym (ap (staged_or []) h.made)) (small_dims h.dims (length bs) h.many narrow (few_elements (size (extents_of h.dims)) few))

-- ---- declarations

large_fault : (cs : List types.Constant) (d : Decl) → shape_faults cs d ≡ [] → is_large cs d.shape ≡ false
unfolding shape_faults
large_fault cs d f = not_broken _ _ _ (none_after _ _ f)

new_name : (before : List Decl) (d : Decl) → heading_faults before d ≡ [] → is_declared before d.name ≡ false
unfolding heading_faults
new_name before d f = not_broken _ _ _ (none_after _ _ (none_first _ _ f))

array_dims : (cs : List types.Constant) (ks : List Constant) (d : Decl) → Agree cs ks → bounds_faults cs d.line d.allocatable d.shape ≡ [] → shape_faults cs d ≡ [] → d.allocatable ≡ false → AreDims (declared_dims ks d.shape)
array_dims cs ks d agree f g fixed = are_dims cs ks d.line d.shape agree (ap (λ b. bounds_faults cs d.line b d.shape) (sym fixed) ∙ f) (large_fault cs d g)

decl_small : (before : List Decl) (cs : List types.Constant) (ks : List Constant) (d : Decl) → Agree cs ks → decl_faults before cs d ≡ [] → IsSmallDecl ks d
decl_small before cs ks d agree f =
    let shape = none_after _ _ f in
    let bounds = none_after _ _ (none_first _ _ f) in
    let value = none_after _ _ (none_first _ _ (none_first _ _ f)) in
    record {
      constant = value_small cs ks d.line d.truth d.constant agree value;
      rank = declared_rank cs d shape;
      bounds = bounds_small cs ks d.line d.allocatable d.shape agree bounds;
      array = λ fixed. array_dims cs ks d agree bounds shape fixed;
    }

pub decls_small : (before : List Decl) (cs : List types.Constant) (ks : List Constant) (rest : List Decl) → Agree cs ks → HasOnly before ks → decls_faults before cs rest ≡ [] → AreSmallDecls ks rest
decls_small before cs ks [] agree only f = tt
decls_small before cs ks (d ∷ rest) agree only f =
    let here = none_first _ _ f in
    let new = new_name before d (none_first _ _ (none_first _ _ (none_first _ _ here))) in (
      decl_small before cs ks d agree here,
      decls_small (before ++ d ∷ []) (with_constant cs d) (declaring d.constant ks d).0 rest (agree_after before cs ks d agree only new) (only_after before ks d only) (none_after _ _ f),
    )
