-- A vector subscript that the ops evaluate whole is one that the source evaluates whole.
use Rattle.std.proofs.Common.{◌≡◌, refl, sym, ap, ◌∙◌, subst, ℕ, ◌+◌, ◌≤◌, ◌<◌, ◌&&◌, not, nat_lt, nat_eq, Bool, true, false, List, [], Option, Some, None, arith, true≢false, if◌then◌else◌}
use Rattle.std.proofs.lemmas.Bool.{ltb-false, false≢true}
use Rattle.ws_base.specs.declared.name.Name.{Name}
use Rattle.ws_base.specs.declared.op.UnOp.TheVariants as un
use Rattle.ws_tree.specs.declared.expr.Expr.{Expr}
use Rattle.ws_tree.specs.declared.expr.Expr.TheVariants.{Number, TooWide, TooDeep, Truth, Named, Part', Call', Vector'}
use Rattle.ws_tree.specs.Trees.{paren, unary, binary}
use Rattle.ws_tree.specs.Grammatical.{IsExpr}
use Rattle.ws_types.specs.declared.constant.Constancy.{Constancy}
use Rattle.ws_types.specs.declared.constant.Constancy.TheVariants.{Value as Value', NoValue, NotConstant}
use Rattle.ws_types.specs.declared.types.Typed.{Typed}
use Rattle.ws_types.specs.declared.types.Row.{Row}
use Rattle.ws_types.specs.Constants.{constancy}
use Rattle.ws_types.specs.Names.{standing_of}
use Rattle.ws_types.specs.Operations.{scalar_faults, subscript_faults}
use Rattle.ws_types.specs.Expressions.{typed, faults}
use Rattle.ws_types.specs.Sections.{is_section, is_designator}
use Rattle.ws_counts.specs.Pieces as pieces
use Rattle.hlfir_ops.specs.declared.kinds.Elem.{Elem}
use Rattle.hlfir_ops.specs.declared.kinds.Elem.TheVariants.{I32}
use Rattle.hlfir_ops.specs.declared.kinds.ValueKind.{ValueKind}
use Rattle.hlfir_ops.specs.declared.kinds.ValueKind.TheVariants.{Scalar, Place, Declared, Allocatable, Section, Array}
use Rattle.hlfir_ops.specs.declared.what.What.TheVariants as what
use Rattle.hlfir_ops.specs.declared.op.ValueId.{ValueId}
use Rattle.hlfir_ops.specs.Numbers.{numbers_of}
use Rattle.hlfir_ops.specs.RulesValues.{Value, rank_of, is_reference, is_expression, is_whole, value_at}
use Rattle.lower_values.specs.declared.names.Names.{Names}
use Rattle.lower_values.specs.declared.operand.Operand.{Operand}
use Rattle.lower_values.specs.Scopes.{Scope, index_of}
use Rattle.lower_values.specs.Lowerings.{Lowering, done, ◌>>=◌ as ◌then◌, scoped, giving}
use Rattle.lower_values.specs.Operations.{values_of, first_elem, value_of_whole, in_parentheses, vector}
use Rattle.lower_values.specs.References.{variable_of, boxed, load_of, loaded, variable_or_truth, index_or_other, named, designated}
use Rattle.lower_values.specs.Values.{constant_or, folded, part_of, value, values, subscripts}
use Rattle.small_laws.proofs.NoFaults.{none_first, none_after, not_broken}
use Rattle.kind_laws.specs.Standing.{Knows}
use Rattle.kind_laws.specs.Found.{Holds, ScopeIsFound}
use Rattle.kind_laws.specs.Laws.{TypesAreKnown, KindsAreTypes, ValuesAreFound}
use Rattle.kind_laws.proofs.TypesKnown.{both_true}
use Rattle.kind_laws.proofs.Held.{held-first, held-rest}
use Rattle.kind_laws.proofs.Finding.{own_value}
use Rattle.limit_laws.proofs.Costs.{IsProper}
use Rattle.limit_laws.proofs.References.{IsVariable, standing-variable, whole_by_kind, boxed-kind}

-- ---- kinds

-- a scalar, a place or a section
pub record IsSelection (k : ValueKind) : Type 0 where
  pub reference : is_reference (Some k) ≡ false
  pub expression : is_expression (Some k) ≡ false

load_selection : (k : ValueKind) (r : Operand) (s : Scope) (n : ℕ) → k ≡ r.kind → IsSelection k → IsSelection (load_of k r s n).made.kind
unfolding giving done
load_selection (Place e) r s n is h = record { reference = refl; expression = refl }
load_selection (Scalar e) r s n is h = subst IsSelection is h
load_selection (Declared e shape) r s n is h = subst IsSelection is h
load_selection (Allocatable e rank) r s n is h = subst IsSelection is h
load_selection (Section e rank) r s n is h = subst IsSelection is h
load_selection (Array e rank) r s n is h = subst IsSelection is h

loaded-selection : (r : Operand) (s : Scope) (n : ℕ) → IsSelection r.kind → IsSelection (loaded r s n).made.kind
unfolding loaded
loaded-selection r s n h = load_selection r.kind r s n refl h

part_selection : (e : Elem) (rank : ℕ) (b : Bool) → IsSelection (if b then Place e else Section e rank)
part_selection e rank true = record { reference = refl; expression = refl }
part_selection e rank false = record { reference = refl; expression = refl }

part-selection : (x : Name) (subs : Operand → Lowering _) (s : Scope) (n : ℕ) → IsSelection ((part_of x subs then loaded) s n).made.kind
unfolding part_of designated giving ◌then◌
part-selection x subs s n = loaded-selection (part_of x subs s n).made s (n + numbers_of (part_of x subs s n).ops) (part_selection _ _ _)

load_expression : (k : ValueKind) (r : Operand) (s : Scope) (n : ℕ) → k ≡ r.kind → is_expression (Some k) ≡ false → is_expression (Some (load_of k r s n).made.kind) ≡ false
unfolding giving done
load_expression (Place e) r s n is h = refl
load_expression (Scalar e) r s n is h = subst (λ k. is_expression (Some k) ≡ false) is h
load_expression (Declared e shape) r s n is h = subst (λ k. is_expression (Some k) ≡ false) is h
load_expression (Allocatable e rank) r s n is h = subst (λ k. is_expression (Some k) ≡ false) is h
load_expression (Section e rank) r s n is h = subst (λ k. is_expression (Some k) ≡ false) is h
load_expression (Array e rank) r s n is h = subst (λ k. is_expression (Some k) ≡ false) is h

loaded-expression : (r : Operand) (s : Scope) (n : ℕ) → is_expression (Some r.kind) ≡ false → is_expression (Some (loaded r s n).made.kind) ≡ false
unfolding loaded
loaded-expression r s n h = load_expression r.kind r s n refl h

named_known : (names : Names) (x : Name) (o : Option Operand) (s : Scope) (n : ℕ) → ((d : Operand) → o ≡ Some d → IsVariable d.kind) → is_expression (Some (variable_or_truth names x o s n).made.kind) ≡ false
unfolding giving ◌then◌
named_known names x (Some d) s n h =
    loaded-expression (boxed d s n).made s (n + numbers_of (boxed d s n).ops) (ap (λ k. is_expression (Some k)) (boxed-kind [] d s n) ∙ (h d refl).named)
named_known names x None s n h = refl

named_at : (x : Name) (o : Option ValueId) (s : Scope) (n : ℕ) → (o ≡ None → (d : Operand) → variable_of s.names.variables x ≡ Some d → IsVariable d.kind) → is_expression (Some (index_or_other s x o s n).made.kind) ≡ false
unfolding done
named_at x (Some v) s n h = refl
named_at x None s n h = named_known s.names x (variable_of s.names.variables x) s n (h refl)

constant_kind : (c : Constancy) (p : Lowering Operand) (s : Scope) (n : ℕ) → is_expression (Some (p s n).made.kind) ≡ false → is_expression (Some (constant_or c p s n).made.kind) ≡ false
unfolding giving
constant_kind (Value' z) p s n h = refl
constant_kind NoValue p s n h = h
constant_kind NotConstant p s n h = h

-- ---- operands that select elements without being evaluated

pub record Selects (vs : List Value) (x : Operand) : Type 0 where
  pub reference : is_reference (Some x.kind) ≡ false
  pub whole : is_whole (value_at vs x.value) ≡ false

parentheses_select : (vs : List Value) (k : ValueKind) (x : Operand) (s : Scope) (n : ℕ) → k ≡ x.kind → Selects vs x → Selects vs (value_of_whole k x s n).made
unfolding done giving
parentheses_select vs (Scalar e) x s n is h = h
parentheses_select vs (Place e) x s n is h = h
parentheses_select vs (Section e rank) x s n is h = h
parentheses_select vs (Array e rank) x s n is h = h
parentheses_select vs (Declared e shape) x s n is h = absurd (true≢false (ap (λ k. is_reference (Some k)) is ∙ h.reference))
parentheses_select vs (Allocatable e rank) x s n is h = absurd (true≢false (ap (λ k. is_reference (Some k)) is ∙ h.reference))

in_parentheses-select : (vs : List Value) (x : Operand) (s : Scope) (n : ℕ) → Selects vs x → Selects vs (in_parentheses x s n).made
unfolding in_parentheses
in_parentheses-select vs x s n h = parentheses_select vs x.kind x s n refl h

-- after parentheses or a plus
enclosed : (vs : List Value) (c : Constancy) (p : Lowering Operand) (s : Scope) (n : ℕ) → (Holds vs n (p s n).ops → Selects vs (p s n).made) → Holds vs n (constant_or c (p then in_parentheses) s n).ops → Selects vs (constant_or c (p then in_parentheses) s n).made
unfolding giving ◌then◌
enclosed vs (Value' z) p s n g h = record { reference = refl; whole = whole_by_kind _ _ (own_value vs n (what.Constant z) s.line [] (Scalar I32) [] [] h) refl }
enclosed vs NoValue p s n g h = in_parentheses-select vs (p s n).made s (n + numbers_of (p s n).ops) (g (held-first vs p in_parentheses s n h))
enclosed vs NotConstant p s n g h = in_parentheses-select vs (p s n).made s (n + numbers_of (p s n).ops) (g (held-first vs p in_parentheses s n h))

vector-selects : (vs : List Value) (p : Lowering (List Operand)) (s : Scope) (n : ℕ) → Holds vs n ((p then vector) s n).ops → Selects vs ((p then vector) s n).made
unfolding giving ◌then◌ vector
vector-selects vs p s n h =
    let xs = (p s n).made in
    let m = n + numbers_of (p s n).ops in
    record { reference = refl; whole = ap is_whole (own_value vs m what.Vector s.line (values_of xs) (Array (first_elem xs) 1) [] [] (held-rest vs p vector s n h)) }

-- ---- values of these ranks

array_rank : (k : ValueKind) → is_expression (Some k) ≡ true → IsProper k → 0 < rank_of k
array_rank (Array e rank) h g = g
array_rank (Scalar e) h g = absurd (false≢true h)
array_rank (Place e) h g = absurd (false≢true h)
array_rank (Declared e shape) h g = absurd (false≢true h)
array_rank (Allocatable e rank) h g = absurd (false≢true h)
array_rank (Section e rank) h g = absurd (false≢true h)

scalar_rank : (line : ℕ) (ty : Typed) → scalar_faults line (Some ty) ≡ [] → ty.rank ≤ 0
unfolding scalar_faults
scalar_rank line ty f = ltb-false 0 ty.rank (not_broken _ _ _ (none_after _ _ f))

rank_one : (rank : ℕ) → 0 < rank → nat_lt 1 rank ≡ false → nat_eq rank 1 ≡ true
rank_one rank above h = let low = ltb-false 1 rank h in let same : rank ≡ 1 = omega arith in ap (λ n. nat_eq n 1) same

subscript_vector : (line : ℕ) (ty : Typed) → subscript_faults line (Some ty) ≡ [] → 0 < ty.rank → pieces.is_vector (Some ty) ≡ true
unfolding subscript_faults
subscript_vector line ty f above = both_true ty.truth (nat_eq ty.rank 1) (not_broken _ _ _ (none_first _ _ f)) (rank_one ty.rank above (not_broken _ _ _ (none_after _ _ f)))

module _ (types : TypesAreKnown) (kinds : KindsAreTypes) (found : ValuesAreFound) (vs : List Value) (t : List Row) (inside : Bool) (s : Scope) (knows : Knows t s) (here : ScopeIsFound vs s) where
  -- what is no array value is not evaluated whole
  by_kind : (line n : ℕ) (e : Expr) → faults t inside line e ≡ [] → Holds vs n (value e s n).ops → is_expression (Some (value e s n).made.kind) ≡ false → is_whole (value_at vs (value e s n).made.value) ≡ false
  by_kind line n e f h is = let g = found t inside line e s n vs knows f here h in whole_by_kind (value_at vs (value e s n).made.value) g.value g.found (ap (λ k. is_expression (Some k)) g.kind ∙ is)

  section-selects : (line n : ℕ) (e : Expr) → is_section e ≡ true → faults t inside line e ≡ [] → Holds vs n (value e s n).ops → Selects vs (value e s n).made
  unfolding folded scoped
  section-selects line n (Part' x c subs) is f h =
      let kind = part-selection x (λ r. subscripts r 1 subs) s n in record { reference = kind.reference; whole = by_kind line n (Part' x c subs) f h kind.expression }
  section-selects line n (Vector' c es) is f h = vector-selects vs (values es) s n h
  section-selects line n (paren e) is f h = enclosed vs (constancy s.names.constants (paren e)) (value e) s n (λ g. section-selects line n e is f g) h
  section-selects line n (unary un.Plus e) is f h = enclosed vs (constancy s.names.constants (unary un.Plus e)) (value e) s n (λ g. section-selects line n e is (none_first _ _ f) g) h
  section-selects line n (unary un.Minus e) is f h = absurd (false≢true is)
  section-selects line n (unary un.Not e) is f h = absurd (false≢true is)
  section-selects line n (binary op a b) is f h = absurd (false≢true is)
  section-selects line n (Call' w c es) is f h = absurd (false≢true is)
  section-selects line n (Named x) is f h = absurd (false≢true is)
  section-selects line n (Number k) is f h = absurd (false≢true is)
  section-selects line n TooWide is f h = absurd (false≢true is)
  section-selects line n TooDeep is f h = absurd (false≢true is)
  section-selects line n (Truth b) is f h = absurd (false≢true is)

  name-selects : (line n : ℕ) (x : Name) → faults t inside line (Named x) ≡ [] → Holds vs n (value (Named x) s n).ops → is_whole (value_at vs (value (Named x) s n).made.value) ≡ false
  unfolding folded scoped named
  name-selects line n x f h =
      by_kind line n (Named x) f h (constant_kind (constancy s.names.constants (Named x)) (named x) s n
      (named_at x (index_of s.indexes x) s n (λ i d is. standing-variable line s x (standing_of t x) d (knows x) f i is)))

  designator-selects : (line n : ℕ) (e : Expr) → is_designator e ≡ true → faults t inside line e ≡ [] → Holds vs n (value e s n).ops → is_whole (value_at vs (value e s n).made.value) ≡ false
  designator-selects line n (Named x) is f h = name-selects line n x f h
  designator-selects line n e is f h = (section-selects line n e is f h).whole

  rank-above : (line n : ℕ) (e : Expr) (ty : Typed) → IsExpr e → typed t inside e ≡ Some ty → faults t inside line e ≡ [] → IsProper (value e s n).made.kind → is_expression (Some (value e s n).made.kind) ≡ true → 0 < ty.rank
  rank-above line n e ty i is f proper array = omega (arith, (kinds t inside line e s n ty i knows f is).rank, array_rank (value e s n).made.kind array proper)

  -- an INTEGER of rank 0 is not evaluated whole
  pub scalar-apart : (line n : ℕ) (e : Expr) → IsExpr e → faults t inside line e ≡ [] → scalar_faults line (typed t inside e) ≡ [] → IsProper (value e s n).made.kind → Holds vs n (value e s n).ops → is_whole (value_at vs (value e s n).made.value) ≡ false
  scalar-apart line n e i f scalar proper h = at (is_expression (Some (value e s n).made.kind)) refl where
    at : (b : Bool) → is_expression (Some (value e s n).made.kind) ≡ b → is_whole (value_at vs (value e s n).made.value) ≡ false
    at false is = by_kind line n e f h is
    at true is =
        let ty = types t inside line e f in
        let above = rank-above line n e ty.0 i ty.1 f proper is in
        let low = scalar_rank line ty.0 (subst (λ o. scalar_faults line o ≡ []) ty.1 scalar) in
        absurd (omega (arith, above, low))

  -- and a subscript only where the source evaluates it whole
  pub whole-known : (line n : ℕ) (e : Expr) → IsExpr e → faults t inside line e ≡ [] → subscript_faults line (typed t inside e) ≡ [] → IsProper (value e s n).made.kind → Holds vs n (value e s n).ops →
      is_whole (value_at vs (value e s n).made.value) ≡ true → pieces.is_whole t inside e ≡ true
  unfolding pieces.is_whole
  whole-known line n e i f sub proper h whole = at (is_designator e) (is_expression (Some (value e s n).made.kind)) refl refl where
    at : (d b : Bool) → is_designator e ≡ d → is_expression (Some (value e s n).made.kind) ≡ b → (not (is_designator e) && pieces.is_vector (typed t inside e)) ≡ true
    at true b is kind = absurd (true≢false (sym whole ∙ designator-selects line n e is f h))
    at false false is kind = absurd (true≢false (sym whole ∙ by_kind line n e f h kind))
    at false true is kind =
        let ty = types t inside line e f in
        let above = rank-above line n e ty.0 i ty.1 f proper kind in
        let vector = subscript_vector line ty.0 (subst (λ o. subscript_faults line o ≡ []) ty.1 sub) above in
        ap (λ d. not d && pieces.is_vector (typed t inside e)) is ∙ (ap pieces.is_vector ty.1 ∙ vector)
