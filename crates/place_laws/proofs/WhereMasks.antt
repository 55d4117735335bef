-- The mask of a WHERE, ELSEWHERE or FORALL is found among all values.
use Rattle.std.proofs.Common.{◌≡◌, ap, ◌∙◌, ℕ, ◌+◌, Bool, true, List, [], ◌∷◌, length, Some}
use Rattle.std.specs.Prelude.{⊤}
use Rattle.ws_tree.specs.declared.expr.Expr.{Expr}
use Rattle.ws_tree.specs.Grammatical.{IsSide}
use Rattle.ws_types.specs.declared.types.Typed.{Typed}
use Rattle.ws_types.specs.declared.types.Row.{Row}
use Rattle.ws_types.specs.Expressions.{typed, faults}
use Rattle.hlfir_ops.specs.declared.kinds.ValueKind.{ValueKind}
use Rattle.hlfir_ops.specs.declared.what.What.{What}
use Rattle.hlfir_ops.specs.declared.op.ValueId.{ValueId}
use Rattle.hlfir_ops.specs.declared.op.Region.{Region}
use Rattle.hlfir_ops.specs.Numbers.{names_in, numbers_of}
use Rattle.hlfir_ops.specs.RulesValues.{Value, kind_at}
use Rattle.hlfir_ops.specs.RulesRegions.{parts_in, first_kind}
use Rattle.hlfir_ops.specs.RulesStatements.{have_rank}
use Rattle.kind_laws.specs.Standing.{Knows}
use Rattle.kind_laws.specs.Found.{RegionsHeld, ScopeIsFound}
use Rattle.kind_laws.specs.Laws.{HasType}
use Rattle.lower_values.specs.Scopes.{Scope, inside}
use Rattle.lower_values.specs.Lowerings.{Lowering, regions_from}
use Rattle.lower_values.specs.Values.{value}
use Rattle.lower_assign.specs.Statements.{yielded}
use Rattle.kind_laws.proofs.ScopesKnown.{inside_known}
use Rattle.kind_laws.proofs.ScopesFound.{inside_found}
use Rattle.place_laws.proofs.Yields.{first-yield, value-kind, one_rank}

-- ---- masks

-- the first region yields one value of this type
pub record FirstIs (vs : List Value) (ty : Typed) (rs : List Region) : Type 0 where
  pub value : ValueId
  pub yields : parts_in rs 0 ≡ value ∷ []
  pub kind : ValueKind
  pub found : kind_at vs value ≡ Some kind
  pub type : HasType ty kind

pub mask-found : (vs : List Value) (w : What) (line n : ℕ) (ps : List (Lowering ⊤)) (t : List Row) (inner : Bool) (at : ℕ) (mask : Expr) (s : Scope) (ty : Typed) → names_in w 0 ≡ [] →
    IsSide mask → faults t inner at mask ≡ [] → typed t inner mask ≡ Some ty → Knows t s → ScopeIsFound vs s → RegionsHeld vs w line 0 n (yielded (value mask) ∷ ps) s →
    FirstIs vs ty (regions_from w line 0 n (yielded (value mask) ∷ ps) s)
mask-found vs w line n ps t inner at mask s ty none g f is k there h =
    let p = yielded (value mask) in
    let m = n + length (names_in w 0) in
    let c = inside w line 0 n s in
    let known : Knows t c = inside_known t s w line 0 n none k in
    let scope : ScopeIsFound vs c = inside_found vs s w line 0 n h.0 there in
    let has = value-kind vs t inner at mask c m ty g known f is scope h.1 in
    record {
      value = (value mask c m).made.value;
      yields = first-yield (value mask) c m (regions_from w line 1 (n + (length (names_in w 0) + numbers_of (p c m).ops)) ps s);
      kind = has.kind;
      found = has.found;
      type = has.type;
    }

pub first-kind : (vs : List Value) (ty : Typed) (rs : List Region) (h : FirstIs vs ty rs) → first_kind vs (parts_in rs 0) ≡ Some h.kind
first-kind vs ty rs h = ap (first_kind vs) h.yields ∙ h.found

pub first-rank : (vs : List Value) (ty : Typed) (rs : List Region) (n : ℕ) → FirstIs vs ty rs → ty.rank ≡ n → have_rank vs n (parts_in rs 0) ≡ true
first-rank vs ty rs n h is = one_rank vs n h.value (parts_in rs 0) h.kind h.yields h.found (h.type.rank ∙ is)
