-- What is known in the scopes of regions.
use Rattle.std.proofs.Common.{◌≡◌, ℕ, List, [], ◌∷◌}
use Rattle.ws_base.specs.declared.name.Name.{Name}
use Rattle.ws_tree.specs.declared.stmt.Index.{Index}
use Rattle.ws_types.specs.declared.types.Row.{Row}
use Rattle.ws_types.specs.Names.{standing_of}
use Rattle.ws_types.specs.Tables.{barred, inner}
use Rattle.ws_sema.specs.declared.within.Within.{Within}
use Rattle.ws_sema.specs.Statements.{loop_faults, with_active, header_faults}
use Rattle.hlfir_ops.specs.declared.what.What.{What}
use Rattle.hlfir_ops.specs.declared.what.What.TheVariants as what
use Rattle.hlfir_ops.specs.Numbers.{names_in}
use Rattle.hlfir_ops.specs.RulesValues.{Value}
use Rattle.lower_values.specs.Scopes.{Scope, inside}
use Rattle.kind_laws.specs.Standing.{Knows}
use Rattle.kind_laws.specs.Found.{HoldsNames, ScopeIsFound}
use Rattle.kind_laws.specs.Laws.{index_names}
use Rattle.kind_laws.proofs.ScopesFound.{inside_found}
use Rattle.kind_laws.proofs.ScopesKnown.{inside_known, header_known, forall_known, loop_known}
use Rattle.small_laws.proofs.Tables as tables
use Rattle.form_laws.proofs.Constants.{ConstantsFit}

-- the scope knows its table, and finds what it names
pub record Stage (vs : List Value) (t : List Row) (s : Scope) : Type 0 where
  pub knows : Knows t s
  pub scope : ScopeIsFound vs s
  pub constants : ConstantsFit s.names.constants
  pub fit : tables.AreFit t

barred_fit : (t : List Row) (is : List Index) → tables.AreFit t → tables.AreFit (barred t is)
barred_fit t [] h = h
barred_fit t (i ∷ is) h = (tt, barred_fit t is h)

module _ (vs : List Value) (t : List Row) (s : Scope) (h : Stage vs t s) where
  -- a region that brings no index names
  pub stage-region : (w : What) (line k m : ℕ) → names_in w k ≡ [] → HoldsNames vs m (names_in w k) → Stage vs t (inside w line k m s)
  stage-region w line k m none held = record { knows = inside_known t s w line k m none h.knows; scope = inside_found vs s w line k m held h.scope; constants = h.constants; fit = h.fit }

  -- the block of a DO
  pub stage-active : (x : Name) (w : Within) (line : ℕ) → loop_faults w line (standing_of t x) ≡ [] → Stage vs (with_active t x) s
  stage-active x w line f = record { knows = loop_known t s w line x f h.knows; scope = h.scope; constants = h.constants; fit = tables.active_fit t x w line h.fit f }

  -- the header of a FORALL, and its body
  pub stage-barred : (is : List Index) (line m : ℕ) → HoldsNames vs m [] → Stage vs (barred t is) (inside (what.Forall (index_names is)) line 0 m s)
  stage-barred is line m held = record {
    knows = header_known t s is line m h.knows;
    scope = inside_found vs s (what.Forall (index_names is)) line 0 m held h.scope;
    constants = h.constants;
    fit = barred_fit t is h.fit;
  }

  pub stage-inner : (is : List Index) (line m : ℕ) → header_faults t (barred t is) line [] is ≡ [] → HoldsNames vs m (index_names is) → Stage vs (inner t is) (inside (what.Forall (index_names is)) line 1 m s)
  stage-inner is line m f held = record {
    knows = forall_known t s is line line m f h.knows;
    scope = inside_found vs s (what.Forall (index_names is)) line 1 m held h.scope;
    constants = h.constants;
    fit = tables.inner_fit t is h.fit;
  }
