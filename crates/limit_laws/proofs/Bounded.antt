-- What is bounded by the pieces of an expression.
use Rattle.std.proofs.Common.{◌≡◌, refl, ap, ℕ, suc, ◌+◌, ◌*◌, ◌≤◌, ◌<◌, ◌==◌, not, nat_le, nat_eq, Bool, true, false, List, [], ◌∷◌, ◌++◌, length, Option, Some, None, arith, if◌then◌else◌}
use Rattle.std.specs.Prelude.{pos}
use Rattle.std.proofs.lemmas.Bool.{ltb-false, eqb-true}
use Rattle.std.proofs.lemmas.List.{length-map}
use mathlib.Core.Former.{Count}
use Rattle.ws_base.specs.declared.name.Name.{Name}
use Rattle.ws_base.specs.declared.refusal.RefusalKind.TheVariants as refusal
use Rattle.ws_tree.specs.Trees.{Exprs, end_exprs, more_exprs}
use Rattle.ws_types.specs.declared.constant.Constancy.{Constancy}
use Rattle.ws_types.specs.declared.constant.Constancy.TheVariants.{Value as Value', NoValue, NotConstant}
use Rattle.ws_types.specs.declared.types.Arguments.{Arguments}
use Rattle.ws_types.specs.declared.types.Standing.{Standing}
use Rattle.ws_types.specs.declared.types.Standing.TheVariants.{Declared, Active, Index, Barred}
use Rattle.ws_types.specs.Names.{name_type, name_faults}
use Rattle.ws_types.specs.Operations.{part_faults, vector_faults}
use Rattle.ws_types.specs.Operations as types
use Rattle.ws_types.specs.Expressions.{listed}
use Rattle.ws_counts.specs.declared.tally.Piece.{Piece}
use Rattle.ws_counts.specs.Counts.{parts_in, reductions_in, wholes_in}
use Rattle.hlfir_ops.specs.declared.kinds.Elem.TheVariants.{I32}
use Rattle.hlfir_ops.specs.declared.kinds.ValueKind.TheVariants.{Scalar}
use Rattle.hlfir_ops.specs.declared.what.BoundWord.{BoundWord}
use Rattle.hlfir_ops.specs.declared.what.What.TheVariants as what
use Rattle.hlfir_ops.specs.declared.op.ValueId.{ValueId}
use Rattle.hlfir_ops.specs.Numbers.{numbers_of}
use Rattle.hlfir_ops.specs.RulesValues.{Value, rank_of, is_whole, value_at}
use Rattle.hlfir_ops.specs.RulesLimits.{item_limit}
use Rattle.lower_values.specs.declared.operand.Operand.{Operand}
use Rattle.lower_values.specs.declared.operand.Subscript.TheVariants.{One, Vector}
use Rattle.lower_values.specs.Scopes.{Scope}
use Rattle.lower_values.specs.Lowerings.{Lowering, Lowered, done, ◌>>=◌ as ◌then◌, giving}
use Rattle.lower_values.specs.Operations.{constant, values_of}
use Rattle.lower_values.specs.References.{variable_of, subscript_of, sub_values, bound}
use Rattle.lower_values.specs.Values.{constant_or, value, values}
use Rattle.small_laws.proofs.NoFaults.{none_first, none_after, not_broken, impossible}
use Rattle.kind_laws.specs.Standing.{EntryIsKnown, NameIsKnown}
use Rattle.kind_laws.specs.Found.{Holds}
use Rattle.kind_laws.proofs.Finding.{own_value}
use Rattle.limit_laws.proofs.Costs.{total, heavy, size, reduces, wholes, wholes_among, one_if, Costs, IsProper, Priced}
use Rattle.limit_laws.proofs.Operations.{priced-weaker, priced-constant}
use Rattle.limit_laws.proofs.References.{IsVariable, fits-variable, whole_by_kind, priced-bound}

-- ---- what is bounded by pieces

abbrev pub Valued : List Value → Lowered Operand → List Piece → Type 0
Valued vs r ps = Priced vs r (8 + 27 * parts_in ps) (reductions_in ps) (wholes_in ps)

-- several operands, each of which costs 4 less than it may
pub record Listed (vs : List Value) (r : Lowered (List Operand)) (ps : List Piece) : Type 0 where
  pub light : total heavy r.ops ≤ 0
  pub size : total size r.ops + 4 * length r.made ≤ 27 * parts_in ps
  pub reductions : total reduces r.ops ≤ reductions_in ps
  pub wholes : total (wholes vs) r.ops ≤ wholes_in ps

-- values to be yielded, which cost so much besides their pieces
pub record Headed (vs : List Value) (r : Lowered (List ValueId)) (z : ℕ) (ps : List Piece) : Type 0 where
  pub light : total heavy r.ops ≤ 0
  pub size : total size r.ops + length r.made ≤ z + 27 * parts_in ps
  pub reductions : total reduces r.ops ≤ reductions_in ps
  pub wholes : total (wholes vs) r.ops ≤ wholes_in ps

-- subscripts, of which `os` become operands of the designator
pub record Subscripted (vs : List Value) {A : Type 0} (r : Lowered A) (os : List ValueId) (ps : List Piece) : Type 0 where
  pub light : total heavy r.ops ≤ 0
  pub size : total size r.ops + length os ≤ 27 * parts_in ps
  pub reductions : total reduces r.ops ≤ reductions_in ps
  pub wholes : total (wholes vs) r.ops + wholes_among vs os ≤ wholes_in ps

-- a part of a triplet
pub record Apart (vs : List Value) (r : Lowered Operand) (ps : List Piece) : Type 0 where
  pub priced : Valued vs r ps
  pub whole : is_whole (value_at vs r.made.value) ≡ false

pub wholes_among-append : (vs : List Value) (xs ys : List ValueId) → wholes_among vs (xs ++ ys) ≡ wholes_among vs xs + wholes_among vs ys
wholes_among-append vs [] ys = omega arith
wholes_among-append vs (x ∷ xs) ys = omega (arith, wholes_among-append vs xs ys)

pub one_whole : (a b : Bool) → (a ≡ true → b ≡ true) → one_if a ≤ one_if b
one_whole true b h = let g = h refl in omega (arith, ap one_if g)
one_whole false b h = omega arith

pub subscript-one : (vs : List Value) (x : Operand) → (length (sub_values (subscript_of x)) ≡ 1) × (wholes_among vs (sub_values (subscript_of x)) ≡ one_if (is_whole (value_at vs x.value)))
subscript-one vs x = at (rank_of x.kind == 0) where
  at : (b : Bool) → (length (sub_values (if b then One x.value else Vector x.value)) ≡ 1) × (wholes_among vs (sub_values (if b then One x.value else Vector x.value)) ≡ one_if (is_whole (value_at vs x.value)))
  at true = (refl, omega arith)
  at false = (refl, omega arith)

-- ---- names of arrays

same_number : (rank k : ℕ) (line : ℕ) → 0 < k → types.is_other_number (Some (record { truth = false; rank = rank })) k ≡ false → rank ≡ k
same_number rank k line above h = at (nat_eq rank k) refl h where
  at : (b : Bool) → nat_eq rank k ≡ b → not b ≡ false → rank ≡ k
  at true is g = eqb-true rank k is
  at false is g = absurd (cc)

pub record HasVariable (s : Scope) (x : Name) : Type 0 where
  pub variable : Operand
  pub found : variable_of s.names.variables x ≡ Some variable
  pub kind : IsVariable variable.kind

entry_array : (constant : Bool) (s : Scope) (x : Name) (e : _) (k : ℕ) → EntryIsKnown constant s.names x e → e.rank ≡ k → 0 < k → HasVariable s x
entry_array true s x e k h is above = let none = h.1 in absurd (omega arith)
entry_array false s x e k h is above = record { variable = h.0; found = h.1; kind = fits-variable e h.0.kind h.2 }

pub part_variable : (line : ℕ) (s : Scope) (x : Name) (st : Option Standing) (k : ℕ) → NameIsKnown s x st → name_faults line st ≡ [] → part_faults line (name_type st) k ≡ [] → 0 < k → HasVariable s x
unfolding name_faults part_faults
part_variable line s x None k h f g above = impossible line refusal.Undeclared (none_first _ _ f)
part_variable line s x (Some (Declared e)) k h f g above = entry_array e.constant s x e k h.1 (same_number e.rank k line above (not_broken _ _ _ g)) above
part_variable line s x (Some (Active e)) k h f g above = entry_array false s x e k h.2 (same_number e.rank k line above (not_broken _ _ _ g)) above
part_variable line s x (Some Index) k h f g above = let same = same_number 0 k line above (not_broken _ _ _ g) in absurd (omega arith)
part_variable line s x (Some Barred) k h f g above = impossible line refusal.DoVariable (none_after _ _ f)

pub few_at : (line : ℕ) (inside : Bool) (n : ℕ) (a : Arguments) → vector_faults line inside n a ≡ [] → n ≤ 256
unfolding vector_faults
few_at line inside n a e = ltb-false types.item_limit n (not_broken _ _ _ (none_after _ _ e))

pub few_items : (xs : List Operand) (n : ℕ) → length xs ≡ n → n ≤ 256 → nat_le (length (values_of xs)) item_limit ≡ true
few_items xs n is few = let same = length-map xs (λ (x : Operand). x.value) in grind (arith, same, is, few)

pub values-length : {m : Count} (es : Exprs m) (s : Scope) (n : ℕ) → length (values es s n).made ≡ length (listed es)
unfolding ◌then◌ done
values-length end_exprs s n = refl
values-length (more_exprs e es) s n = ap suc (values-length es s (n + numbers_of (value e s n).ops))

abbrev pub BeforeIsProper : Option Operand → Type 0
BeforeIsProper None = Unit {0}
BeforeIsProper (Some x) = IsProper x.kind

-- ---- costs that are known exactly

module _ (vs : List Value) where
  pub exactly : (r : Lowered Operand) (z a b : ℕ) → Priced vs r z a b → Costs vs r.ops (total size r.ops) a b
  exactly r z a b h = record { light = h.light; size = omega arith; reductions = h.reductions; wholes = h.wholes }

  pub folded_case : (c : Constancy) (q : Lowering Operand) (s : Scope) (n z a b : ℕ) → 1 ≤ z → (Holds vs n (q s n).ops → Priced vs (q s n) z a b) → Holds vs n (constant_or c q s n).ops → Priced vs (constant_or c q s n) z a b
  folded_case (Value' k) q s n z a b few g h = priced-weaker vs (constant I32 k s n) 1 0 0 z a b (priced-constant vs I32 k s n) few (omega arith) (omega arith)
  folded_case NoValue q s n z a b few g h = g h
  folded_case NotConstant q s n z a b few g h = g h

  -- an omitted part of a triplet
  pub bound-apart : (w : BoundWord) (dim : ℕ) (r : Operand) (s : Scope) (n : ℕ) → Holds vs n (bound w dim r s n).ops → Apart vs (bound w dim r s n) []
  unfolding bound giving
  bound-apart w dim r s n h = record {
    priced = priced-weaker vs (bound w dim r s n) 2 0 0 8 0 0 (priced-bound vs w dim r s n) (omega arith) (omega arith) (omega arith);
    whole = whole_by_kind _ _ (own_value vs n (what.Bound w dim) s.line (r.value ∷ []) (Scalar I32) [] [] h) refl;
  }

  pub stride-apart : (s : Scope) (n : ℕ) → Holds vs n (constant I32 (pos 1) s n).ops → Apart vs (constant I32 (pos 1) s n) []
  unfolding giving
  stride-apart s n h = record {
    priced = priced-weaker vs (constant I32 (pos 1) s n) 1 0 0 8 0 0 (priced-constant vs I32 (pos 1) s n) (omega arith) (omega arith) (omega arith);
    whole = whole_by_kind _ _ (own_value vs n (what.Constant (pos 1)) s.line [] (Scalar I32) [] [] h) refl;
  }
