-- Regions of lowered statements: what each yields, and its number.
use Rattle.std.proofs.Common.{◌≡◌, refl, sym, ap, ◌∙◌, subst, ℕ, ◌+◌, ◌≤◌, Bool, false, not, ◌&&◌, ◌||◌, List, [], ◌∷◌, length, arith}
use Rattle.std.specs.Prelude.{⊤}
use Rattle.ws_space.specs.Masks.{Control}
use Rattle.ws_tree.specs.declared.expr.Expr.{Expr}
use Rattle.ws_tree.specs.Grammatical.{IsExpr, IsDesignator}
use Rattle.ws_types.specs.declared.types.Row.{Row}
use Rattle.ws_types.specs.Expressions.{faults}
use Rattle.ws_sema.specs.Statements.{left_faults}
use Rattle.array_meaning.specs.declared.world.World.{World}
use Rattle.array_meaning.specs.Stage1.{walk}
use Rattle.array_meaning.specs.Assign.{target}
use Rattle.hlfir_ops.specs.declared.what.What.{What}
use Rattle.hlfir_ops.specs.declared.what.What.TheVariants as what
use Rattle.hlfir_ops.specs.declared.op.Op.{Op}
use Rattle.hlfir_ops.specs.declared.op.Region.{out-Region}
use Rattle.hlfir_ops.specs.Trees.{region_of}
use Rattle.hlfir_ops.specs.Numbers.{names_in, numbers_of}
use Rattle.hlfir_ops.specs.Built.{is_where}
use Rattle.hlfir_meaning.specs.Steps as ops
use Rattle.lower_values.specs.Scopes.{Scope, inside, with_indexes}
use Rattle.lower_values.specs.Lowerings.{Lowering, scoped, regions_from, ◌>>=◌}
use Rattle.lower_values.specs.Values.{value}
use Rattle.lower_assign.specs.Statements.{yielded, left, left_of, is_whole_allocatable}
use Rattle.kind_laws.specs.Standing.{Knows}
use Rattle.kind_laws.proofs.ScopesKnown.{inside_known}
use Rattle.kind_laws.proofs.Ends.{ops-region_of}
use Rattle.world_laws.specs.Worlds.{FitsNames}
use Rattle.world_laws.specs.Yields.{region, Yields, Reaches}
use Rattle.world_laws.specs.Meanings.{StandsOutside, ValuesMean, LeftsMean}
use Rattle.world_laws.proofs.Fitting.{as_many}
use Rattle.where_laws.specs.Steps.{MaskStands, AssignmentStands, TakesWell}

-- outside FORALL; in a WHERE where this is true; all declares have numbers below this one
pub record InScope (t : List Row) (b : Bool) (s : Scope) (n : ℕ) : Type 0 where
  pub knows : Knows t s
  pub no_index : s.indexes ≡ []
  pub masked : s.masked ≡ b
  pub declared : length s.names.variables ≤ n

pub stands_outside : (t : List Row) (b : Bool) (s : Scope) (n : ℕ) (w : World) → InScope t b s n → FitsNames s.names w → StandsOutside t s w n
stands_outside t b s n w h fits =
    let many = as_many 0 s.names.variables w.vars fits.variables in
    let few = h.declared in
    record { knows = h.knows; no_index = h.no_index; world = fits; declared = omega (arith, many, few) }

-- in a region that brings no index names
pub region_scope : (t : List Row) (b c : Bool) (s : Scope) (n : ℕ) (w : What) (line k m o : ℕ) → names_in w k ≡ [] → n ≤ o → (is_where w || b) ≡ c → InScope t b s n → InScope t c (inside w line k m s) o
region_scope t b c s n w line k m o none later around h = record {
  knows = inside_known t s w line k m none h.knows;
  no_index = ap (λ l. with_indexes m l s.indexes) none ∙ h.no_index;
  masked = ap (λ x. is_where w || x) h.masked ∙ around;
  declared = let few = h.declared in omega (arith, few, later);
}

-- ---- the regions of an assignment

made_of : Control → ℕ → Bool → ℕ → List Op → List Op → ops.Assignment
made_of c line realloc n first second = record { line = line; realloc = realloc; right = region n first; left = region (numbers_of first + n) second; under = c }

made-of : (c : Control) (line : ℕ) (realloc : Bool) (n : ℕ) (first second : List Op) → ops.assignment_of c line realloc n (region_of first ∷ region_of second ∷ []) ≡ made_of c line realloc n first second
unfolding made_of
made-of c line realloc n first second =
    ap (λ l. made_of c line realloc n l (out-Region (region_of second)).ops) (ops-region_of first) ∙ ap (λ l. made_of c line realloc n first l) (ops-region_of second)

-- ---- what regions yield

module _ (values : ValuesMean) (lefts : LeftsMean) (t : List Row) where
  value_yields : (b : Bool) (line : ℕ) (e : Expr) (s : Scope) (n first : ℕ) → n ≡ first → InScope t b s n → IsExpr e → faults t false line e ≡ [] → (w : World) → FitsNames s.names w →
      Yields w e first (yielded (value e) s n).ops (walk w e)
  value_yields b line e s n first at h is f w fits = subst (λ m. Yields w e m (yielded (value e) s n).ops (walk w e)) at (values t line e s n w (stands_outside t b s n w h fits) is f)

  pub mask_stands : (b : Bool) (line : ℕ) (e : Expr) (s : Scope) (n first : ℕ) (c : Control) → n ≡ first → InScope t b s n → IsExpr e → faults t false line e ≡ [] →
      MaskStands s.names (record { line = line; test = e; under = c }) (record { line = line; test = region first (yielded (value e) s n).ops; under = c })
  mask_stands b line e s n first c at h is f = record { line = refl; under = refl; test = value_yields b line e s n first at h is f }

  left_ops : (b : Bool) (e : Expr) (s : Scope) (n : ℕ) → s.masked ≡ b → (yielded (left_of b e) s n).ops ≡ (yielded (left e) s n).ops
  unfolding left scoped ◌>>=◌
  left_ops b e s n is = ap (λ x. (yielded (left_of x e) s n).ops) (sym is)

  left_reaches : (b : Bool) (line : ℕ) (e : Expr) (s : Scope) (n first : ℕ) → n ≡ first → InScope t b s n → IsDesignator e → left_faults t false line e ≡ [] → (w : World) → FitsNames s.names w →
      Reaches w e (not b && is_whole_allocatable s.names e) first (yielded (left e) s n).ops (target b w e)
  left_reaches b line e s n first at h is f w fits =
      let realloc = not b && is_whole_allocatable s.names e in
      subst (λ l. Reaches w e realloc first l (target b w e)) (left_ops b e s n h.masked)
      (subst (λ m. Reaches w e realloc m (yielded (left_of b e) s n).ops (target b w e)) at (lefts t line b e s n w (stands_outside t b s n w h fits) is f))

  -- ---- the op of an assignment

  module _ (b : Bool) (line : ℕ) (l r : Expr) (s : Scope) (n : ℕ) where
    abbrev pub realloc : Bool
    realloc = not s.masked && is_whole_allocatable s.names l

    abbrev right_scope : Scope
    right_scope = inside (what.Assign realloc) line 0 (n + 0) s

    abbrev right_ops : List Op
    right_ops = (yielded (value r) right_scope ((n + 0) + 0)).ops

    abbrev left_number : ℕ
    left_number = (n + 0) + (0 + numbers_of right_ops)

    abbrev left_scope : Scope
    left_scope = inside (what.Assign realloc) line 1 left_number s

    abbrev its_left_ops : List Op
    its_left_ops = (yielded (left l) left_scope (left_number + 0)).ops

    abbrev pub parts : List (Lowering ⊤)
    parts = yielded (value r) ∷ yielded (left l) ∷ []

    stands_made : (c : Control) → InScope t b s n → TakesWell s.names b l r → IsExpr r → faults t false line r ≡ [] → IsDesignator l → left_faults t false line l ≡ [] →
        AssignmentStands s.names b (record { line = line; left = l; right = r; under = c }) (made_of c line realloc n right_ops its_left_ops)
    unfolding made_of
    stands_made c h takes is f is_left g = record {
      line = refl;
      under = refl;
      right = value_yields b line r right_scope ((n + 0) + 0) n (omega arith) (region_scope t b b s n (what.Assign realloc) line 0 (n + 0) ((n + 0) + 0) refl (omega arith) refl h) is f;
      left = λ w fits. subst (λ x. Reaches w l (not x && is_whole_allocatable s.names l) (numbers_of right_ops + n) its_left_ops (target b w l)) (sym h.masked)
          (left_reaches b line l left_scope (left_number + 0) (numbers_of right_ops + n) (omega arith) (region_scope t b b s n (what.Assign realloc) line 1 left_number (left_number + 0) refl (omega arith) refl h) is_left g w fits);
      takes = takes;
    }

    pub assignment_stands : (c : Control) → InScope t b s n → TakesWell s.names b l r → IsExpr r → faults t false line r ≡ [] → IsDesignator l → left_faults t false line l ≡ [] →
        AssignmentStands s.names b (record { line = line; left = l; right = r; under = c }) (ops.assignment_of c line realloc n (regions_from (what.Assign realloc) line 0 (n + 0) parts s))
    assignment_stands c h takes is f is_left g =
        subst (AssignmentStands s.names b (record { line = line; left = l; right = r; under = c })) (sym (made-of c line realloc n right_ops its_left_ops)) (stands_made c h takes is f is_left g)
