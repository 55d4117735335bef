-- What the names of a table stand for: no array has more than three dimensions, and only an array may be allocated.
use Rattle.std.proofs.Common.{◌≡◌, refl, ℕ, ◌≤◌, Bool, true, false, not, ◌&&◌, List, [], ◌∷◌, ◌++◌, length, Option, Some, None, IfSome, if◌then◌else◌, nat_eq, bytes_eq, true≢false, arith}
use Rattle.std.proofs.lemmas.Bool.{ltb-false, eqb-true, false≢true}
use Rattle.ws_base.specs.declared.refusal.RefusalKind.TheVariants as kind
use Rattle.ws_tree.specs.declared.stmt.Bound.{Bound}
use Rattle.ws_tree.specs.declared.stmt.Decl.{Decl}
use Rattle.ws_tree.specs.declared.stmt.Index.{Index}
use Rattle.ws_types.specs.declared.types.Entry.{Entry}
use Rattle.ws_types.specs.declared.types.Row.{Row}
use Rattle.ws_types.specs.declared.types.Standing.{Standing}
use Rattle.ws_types.specs.declared.types.Standing.TheVariants.{Declared, Active, Index as Index', Barred}
use Rattle.ws_types.specs.declared.constant.Constant.{Constant}
use Rattle.ws_types.specs.Names.{Name, standing_of, name_type, name_faults}
use Rattle.ws_types.specs.Operations.{scalar_faults}
use Rattle.ws_types.specs.Tables.{inner}
use Rattle.ws_sema.specs.declared.within.Within.{Within}
use Rattle.ws_sema.specs.Declarations.{is_some, is_empty, is_left_out, shape_faults, decls_faults, with_constant, table_of}
use Rattle.ws_sema.specs.Statements.{is_other_bounds, allocatable_faults, variable_faults, loop_faults, activated, with_active}
use Rattle.ws_sema.proofs.NoFaults.{none_first, none_after, not_broken, impossible, left_false}

pub record IsArrayEntry (e : Entry) : Type 0 where
  pub narrow : e.rank ≤ 3
  pub array : e.allocatable ≡ true → 1 ≤ e.rank

-- the variable of a DO is a scalar, and so never allocated
abbrev pub IsFit : Standing → Type 0
IsFit (Declared e) = IsArrayEntry e
IsFit (Active e) = e.allocatable ≡ false
IsFit _ = Unit {0}

abbrev pub AreFit : List Row → Type 0
AreFit [] = Unit {0}
AreFit (r ∷ rs) = IsFit r.standing × AreFit rs

standing_at : (b : Bool) (s : Standing) (o : Option Standing) → IsFit s → IfSome o IsFit → IfSome (if b then Some s else o) IsFit
standing_at true s o h k = h
standing_at false s o h k = k

pub standing_fit : (t : List Row) (x : Name) → AreFit t → IfSome (standing_of t x) IsFit
standing_fit [] x h = tt
standing_fit (r ∷ rs) x h = standing_at (bytes_eq r.name x) r.standing (standing_of rs x) h.0 (standing_fit rs x h.1)

-- ---- the tables inside constructs

pub inner_fit : (t : List Row) (is : List Index) → AreFit t → AreFit (inner t is)
inner_fit t [] h = h
inner_fit t (i ∷ is) h = (tt, inner_fit t is h)

no_array : (b : Bool) (n : ℕ) → (b ≡ true → 1 ≤ n) → n ≤ 0 → b ≡ false
no_array true n h k = absurd (let one = h refl in omega arith)
no_array false n h k = refl

scalar_rank : (line : ℕ) (e : Entry) → scalar_faults line (name_type (Some (Declared e))) ≡ [] → e.rank ≤ 0
unfolding scalar_faults
scalar_rank line e f = ltb-false 0 e.rank (not_broken _ _ _ (none_after _ _ f))

activated_fit : (t : List Row) (x : Name) (w : Within) (line : ℕ) (s : Option Standing) → AreFit t → IfSome s IsFit → loop_faults w line s ≡ [] → AreFit (activated t x s)
unfolding loop_faults variable_faults
activated_fit t x w line None h k f = h
activated_fit t x w line (Some (Declared e)) h k f = (no_array e.allocatable e.rank k.array (scalar_rank line e (none_after _ _ (none_first _ _ f))), h)
activated_fit t x w line (Some (Active e)) h k f = h
activated_fit t x w line (Some Index') h k f = h
activated_fit t x w line (Some Barred) h k f = h

pub active_fit : (t : List Row) (x : Name) (w : Within) (line : ℕ) → AreFit t → loop_faults w line (standing_of t x) ≡ [] → AreFit (with_active t x)
active_fit t x w line h f = activated_fit t x w line (standing_of t x) h (standing_fit t x h) f

-- ---- the shape of ALLOCATE

same_rank : (allocatable : Bool) (rank n : ℕ) → rank ≤ 3 → not allocatable ≡ false → (allocatable && not (nat_eq rank n)) ≡ false → n ≤ 3
same_rank true rank n h a e = at (nat_eq rank n) refl e where
  at : (b : Bool) → nat_eq rank n ≡ b → not b ≡ false → n ≤ 3
  at true is e = let same = eqb-true rank n is in omega arith
  at false is e = absurd (true≢false e)
same_rank false rank n h a e = absurd (true≢false a)

few_bounds : (line : ℕ) (s : Option Standing) (n : ℕ) → IfSome s IsFit → allocatable_faults line s ≡ [] → is_other_bounds s n ≡ false → n ≤ 3
unfolding allocatable_faults name_faults
few_bounds line None n h f e = impossible line kind.Undeclared (none_first _ _ (none_first _ _ f))
few_bounds line (Some (Declared d)) n h f e = same_rank d.allocatable d.rank n h.narrow (not_broken _ _ _ (none_after _ _ f)) e
few_bounds line (Some (Active d)) n h f e = absurd (active d.allocatable h (not_broken _ _ _ (none_after _ _ f))) where
  active : (b : Bool) → b ≡ false → not b ≡ false → ⊥
  active true h g = true≢false h
  active false h g = true≢false g
few_bounds line (Some Index') n h f e = impossible line kind.NotAllocatable (none_after _ _ f)
few_bounds line (Some Barred) n h f e = impossible line kind.DoVariable (none_after _ _ (none_first _ _ f))

pub allocated_shape : (t : List Row) (line : ℕ) (x : Name) (n : ℕ) → AreFit t → allocatable_faults line (standing_of t x) ≡ [] → is_other_bounds (standing_of t x) n ≡ false → n ≤ 3
allocated_shape t line x n h f e = few_bounds line (standing_of t x) n (standing_fit t x h) f e

-- ---- the table of the declarations

pub declared_rank : (cs : List Constant) (d : Decl) → shape_faults cs d ≡ [] → length d.shape ≤ 3
unfolding shape_faults
declared_rank cs d f = ltb-false 3 (length d.shape) (left_false _ _ (not_broken _ _ _ (none_after _ _ f)))

has_shape : (a c : Bool) (bs : List Bound) → is_left_out a c (is_empty bs) ≡ false → a ≡ true → 1 ≤ length bs
has_shape true c [] e is = absurd (true≢false e)
has_shape false c [] e is = absurd (false≢true is)
has_shape a c (b ∷ bs) e is = omega arith

declared_array : (cs : List Constant) (d : Decl) → shape_faults cs d ≡ [] → d.allocatable ≡ true → 1 ≤ length d.shape
unfolding shape_faults
declared_array cs d f is = has_shape d.allocatable (is_some d.constant) d.shape (not_broken _ _ _ (none_first _ _ f)) is

pub declared_fit : (before : List Decl) (cs : List Constant) (ds : List Decl) → decls_faults before cs ds ≡ [] → AreFit (table_of ds)
declared_fit before cs [] f = tt
declared_fit before cs (d ∷ ds) f =
    let shape = none_after _ _ (none_first _ _ f) in
    (record { narrow = declared_rank cs d shape; array = declared_array cs d shape }, declared_fit (before ++ d ∷ []) (with_constant cs d) ds (none_after _ _ f))
