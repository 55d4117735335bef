-- A designator leaves the part of the array that its source selects, or faults alike.
use Rattle.std.proofs.Common.{◌≡◌, refl, sym, ap, ◌∙◌, subst, ℕ, ◌+◌, ◌≤◌, Bool, true, false, nat_lt, if◌then◌else◌, List, [], ◌∷◌, map, length, Some, Ok, Err, arith}
use Rattle.std.specs.List.{flat_map}
use Rattle.ws_base.specs.declared.fault.FaultName.TheVariants.{TooLarge}
use Rattle.ws_base.specs.Outcomes.{Staged, trouble, ◌>>=◌}
use Rattle.ws_space.specs.declared.shape.TheConstants.{ELEMENT_LIMIT}
use Rattle.ws_space.specs.declared.state.ArrayValue.{ArrayValue}
use Rattle.ws_space.specs.declared.state.Var.{Var}
use Rattle.ws_space.specs.Shapes.{Extents, dims, size}
use Rattle.ws_space.specs.Sections.{limited}
use Rattle.array_meaning.specs.declared.term.Pick.{Pick}
use Rattle.array_meaning.specs.Stage1 as source
use Rattle.hlfir_ops.specs.declared.kinds.ValueKind.{ValueKind}
use Rattle.hlfir_ops.specs.declared.what.What.TheVariants as what
use Rattle.hlfir_ops.specs.declared.op.Op.{Op}
use Rattle.hlfir_ops.specs.declared.op.ValueId.{ValueId}
use Rattle.hlfir_ops.specs.Trees.{op_of}
use Rattle.hlfir_ops.specs.Numbers.{numbers_of}
use Rattle.hlfir_ops.specs.RulesValues.{elem_of}
use Rattle.hlfir_ops.specs.RulesForms.{section_rank}
use Rattle.hlfir_ops.proofs.Numbered.{op_numbers-op_of}
use Rattle.hlfir_meaning.specs.Environments.{Selection, Value, part, Environment, with_value}
use Rattle.hlfir_meaning.specs.References as references
use Rattle.hlfir_meaning.specs.Selections.{extents, checked}
use Rattle.hlfir_meaning.specs.Stage1 as walked
use Rattle.lower_values.specs.declared.operand.Operand.{Operand}
use Rattle.lower_values.specs.declared.operand.Subscript.{Subscript}
use Rattle.lower_values.specs.Scopes.{Scope}
use Rattle.lower_values.specs.Lowerings.{giving}
use Rattle.lower_values.specs.References.{sub_kind, sub_values, part_kind, designated}
use Rattle.value_laws.specs.Standing.{Goes, Does}
use Rattle.value_laws.proofs.Walking.{with_value-here, goes-op}
use Rattle.value_laws.proofs.Scalars.{settled-not}
use Rattle.part_laws.specs.Selects.{Selects, selected_by, Agree}
use Rattle.part_laws.specs.Parts.{Refers, IsPart}
use Rattle.part_laws.proofs.Ranks.{selected-rank}
use Rattle.part_laws.proofs.Selected.{StaysRelated, same-shapes, same-checks, agree-then}

limited_by : {A B : Type 0} (P : A → B → Type 0) (x : A) (y : B) (b : Bool) → P x y → Agree P (if b then trouble TooLarge else Ok x) (if b then trouble TooLarge else Ok y)
limited_by P x y true h = refl
limited_by P x y false h = h

agree-limited : {A B : Type 0} (P : A → B → Type 0) (e f : Extents) (x : A) (y : B) → e ≡ f → P x y → Agree P (limited e x) (limited f y)
agree-limited P e f x y same h = subst (λ g. Agree P (limited e x) (limited g y)) same (limited_by P x y (nat_lt ELEMENT_LIMIT (size e)) h)

pub goes-related : {A B : Type 0} (vectors : List ℕ) (n : ℕ) (env : Environment) (ops : List Op) (P : A → B → Type 0) (Q : A → Environment → Type 0) (R : B → Environment → Type 0) (q : Staged A) (r : Staged B) →
    Agree P q r → ((a : A) (b : B) (after : Environment) → P a b → Q a after → R b after) → Goes vectors n env ops q Q → Goes vectors n env ops r R
goes-related vectors n env ops P Q R (Ok a) (Ok b) h g k = (k.0, k.1, g a b k.0 h k.2)
goes-related vectors n env ops P Q R (Err t) (Err u) h g k = λ rest. k rest ∙ ap (λ f. Err f) h
goes-related vectors n env ops P Q R (Ok a) (Err u) h g k = absurd h
goes-related vectors n env ops P Q R (Err t) (Ok b) h g k = absurd h

module _ (vectors : List ℕ) (base low : ℕ) (s : Scope) (n : ℕ) (env : Environment) (r : Operand) (v : Var) (a : ArrayValue) (l : low ≤ n) (refers : Refers base low n env r v a)
    (ss : List Subscript) (ps : List Pick) (h : Selects (dims a.shape) (selected_by env ss) ps) where
  abbrev operands : List ValueId
  operands = r.value ∷ flat_map sub_values ss

  abbrev kind : ValueKind
  kind = part_kind (elem_of r.kind) (section_rank (map sub_kind ss))

  abbrev op : Op
  op = op_of (what.Designate (map sub_kind ss)) s.line operands (Some kind) []

  -- a part of this array, and what it selects is related to what these picks do
  record IsSelected (x : Value) (qs : List Pick) : Type 0 where
    selected : Selection
    value : x ≡ part v a selected
    selects : Selects (dims a.shape) selected qs
    rank : length (source.picked qs) ≡ section_rank (map sub_kind ss)

  abbrev of_array : Staged Value
  of_array = checked (dims a.shape) (selected_by env ss) >>= (λ t. limited (extents t) (part v a t))

  op_gives : walked.made n env (what.Designate (map sub_kind ss)) operands [] ≡ of_array
  op_gives =
      ap (λ x. walked.designator x (selected_by env ss)) refers.found
      ∙ ap (λ q. references.allocated q >>= (λ b. checked (dims b.shape) (selected_by env ss) >>= (λ t. limited (extents t) (part v b t)))) refers.holds

  goes : Goes vectors n env (op ∷ []) of_array (λ x after. after ≡ with_value n x env)
  goes = subst (λ q. Goes vectors n env (op ∷ []) q (λ x after. after ≡ with_value n x env))
      (settled-not n env (walked.made n env (what.Designate (map sub_kind ss)) operands []) ∙ op_gives)
      (goes-op vectors (what.Designate (map sub_kind ss)) s.line operands (Some kind) [] n env refl)

  agrees : Agree IsSelected of_array (source.selected a ps)
  agrees = agree-then (StaysRelated (dims a.shape) (selected_by env ss)) IsSelected (checked (dims a.shape) (selected_by env ss)) (source.checked (dims a.shape) ps)
      (λ t. limited (extents t) (part v a t)) (λ qs. limited (source.picked qs) qs) (same-checks (dims a.shape) (selected_by env ss) ps h)
      (λ t qs g. agree-limited IsSelected (extents t) (source.picked qs) (part v a t) qs (same-shapes (dims a.shape) t qs g.0)
      (record { selected = t; value = refl; selects = g.0; rank = ap (λ e. length e) (sym (same-shapes (dims a.shape) t qs g.0)) ∙ (g.1 ∙ selected-rank env ss) }))

  pub does-designated : Does vectors s n env (designated r ss) (source.selected a ps) (λ x qs m after. IsPart low m after x v a qs)
  unfolding designated giving
  does-designated = goes-related vectors n env (op ∷ []) IsSelected (λ x after. after ≡ with_value n x env)
      (λ qs after. IsPart low (n + numbers_of (op ∷ [])) after (record { value = record { number = n }; kind = kind }) v a qs) of_array (source.selected a ps) agrees
      (λ x qs after is at. record {
        selected = is.selected;
        found = ap (λ f. f n) at ∙ (with_value-here n x env ∙ is.value);
        selects = is.selects;
        from = l;
        upto = omega (arith, op_numbers-op_of (what.Designate (map sub_kind ss)) s.line operands (Some kind) []);
        kind = (elem_of r.kind, ap (part_kind (elem_of r.kind)) (sym is.rank));
      }) goes
