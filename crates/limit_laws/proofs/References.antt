-- Costs of names, boxes, loads, inquiries and parts of arrays.
use Rattle.std.proofs.Common.{◌≡◌, refl, sym, ap, ◌∙◌, subst, ℕ, ◌+◌, ◌==◌, Bool, true, false, List, [], ◌∷◌, ◌++◌, length, map, All, Option, Some, None, arith, if◌then◌else◌, bytes_eq}
use Rattle.std.specs.List.{flat_map}
use Rattle.std.proofs.lemmas.List.Elements.{All-head, All-tail}
use Rattle.ws_base.specs.declared.name.Name.{Name}
use Rattle.ws_base.specs.declared.op.CallWord.{CallWord}
use Rattle.ws_base.specs.declared.refusal.RefusalKind.TheVariants as refusal
use Rattle.ws_tree.specs.declared.expr.Expr.{Expr}
use Rattle.ws_types.specs.declared.types.Entry.{Entry}
use Rattle.ws_types.specs.declared.types.Standing.{Standing}
use Rattle.ws_types.specs.declared.types.Standing.TheVariants.{Declared as Declared', Active, Index, Barred}
use Rattle.ws_types.specs.Names.{name_faults}
use Rattle.ws_types.specs.Operations.{is_allocated_word}
use Rattle.hlfir_ops.specs.declared.kinds.Elem.{Elem}
use Rattle.hlfir_ops.specs.declared.kinds.Elem.TheVariants.{I32, I1}
use Rattle.hlfir_ops.specs.declared.kinds.ValueKind.{ValueKind}
use Rattle.hlfir_ops.specs.declared.kinds.ValueKind.TheVariants.{Scalar, Place, Declared, Allocatable, Section, Array}
use Rattle.hlfir_ops.specs.declared.what.BoundWord.{BoundWord}
use Rattle.hlfir_ops.specs.declared.what.BoundWord.TheVariants.{Extent}
use Rattle.hlfir_ops.specs.declared.what.What.TheVariants as what
use Rattle.hlfir_ops.specs.declared.op.ValueId.{ValueId}
use Rattle.hlfir_ops.specs.Numbers.{numbers_of}
use Rattle.hlfir_ops.specs.RulesValues.{Value, Declares, elem_of, is_expression, is_whole, value_at}
use Rattle.hlfir_ops.specs.RulesForms.{section_rank}
use Rattle.lower_values.specs.declared.names.Names.{Names}
use Rattle.lower_values.specs.declared.names.Variable.{Variable}
use Rattle.lower_values.specs.declared.operand.Operand.{Operand}
use Rattle.lower_values.specs.declared.operand.Subscript.{Subscript}
use Rattle.lower_values.specs.Scopes.{Scope, index_of}
use Rattle.lower_values.specs.Lowerings.{Lowering, done, ◌>>=◌ as ◌then◌, scoped, giving}
use Rattle.lower_values.specs.References.{variable_of, or_nothing, declare_of, box_of, boxed, reference, load_of, loaded, variable_or_truth, index_or_other, named, sub_kind, sub_values, bound, part_kind, designated, first_name, dimension_in, size, dimension, bound_word, bound_or_size, is_allocated, inquiry_or_nothing, inquiry}
use Rattle.small_laws.proofs.NoFaults.{none_first, none_after, impossible}
use Rattle.kind_laws.specs.Standing.{FitsEntry, EntryIsKnown, NameIsKnown}
use Rattle.kind_laws.specs.Found.{Holds, DeclareIsFound}
use Rattle.kind_laws.proofs.Finding.{own_value}
use Rattle.limit_laws.proofs.Costs.{total, size as size_of, Costs, slack, IsProper, Priced, wholes_among, one_if}
use Rattle.limit_laws.proofs.Costing.{Spends, costs-weaker, spends-done, spends-then, spends-giving}
use Rattle.limit_laws.proofs.Operations.{priced, priced-weaker, priced-constant, slack-few}

-- ---- kinds of variables

-- a variable is proper, and no array value
pub record IsVariable (k : ValueKind) : Type 0 where
  pub proper : IsProper k
  pub named : is_expression (Some k) ≡ false

pub fits-variable : (e : Entry) (k : ValueKind) → FitsEntry e k → IsVariable k
fits-variable e (Place f) h = record { proper = tt; named = refl }
fits-variable e (Declared f shape) h = record { proper = let same = h.1 in let above = h.2 in omega arith; named = refl }
fits-variable e (Allocatable f rank) h = record { proper = let same = h.1 in let above = h.2 in omega arith; named = refl }
fits-variable e (Scalar f) h = absurd h
fits-variable e (Section f rank) h = absurd h
fits-variable e (Array f rank) h = absurd h

pub same_some : {A : Type 0} (o : Option A) (x y : A) → o ≡ Some x → o ≡ Some y → x ≡ y
same_some o x y p q = cc

pub not_both : {A P : Type 0} (o : Option A) (x : A) → o ≡ None → o ≡ Some x → P
not_both o x p q = absurd (cc)

entry-variable : (constant : Bool) (names : Names) (x : Name) (e : Entry) (d : Operand) → EntryIsKnown constant names x e → variable_of names.variables x ≡ Some d → IsVariable d.kind
entry-variable true names x e d h is = not_both (variable_of names.variables x) d h.0 is
entry-variable false names x e d h is = subst (λ (o : Operand). IsVariable o.kind) (same_some (variable_of names.variables x) h.0 d h.1 is) (fits-variable e h.0.kind h.2)

pub standing-variable : (line : ℕ) (s : Scope) (x : Name) (st : Option Standing) (d : Operand) → NameIsKnown s x st → name_faults line st ≡ [] → index_of s.indexes x ≡ None → variable_of s.names.variables x ≡ Some d → IsVariable d.kind
unfolding name_faults
standing-variable line s x None d h f i is = impossible line refusal.Undeclared (none_first _ _ f)
standing-variable line s x (Some (Declared' e)) d h f i is = entry-variable e.constant s.names x e d h.1 is
standing-variable line s x (Some (Active e)) d h f i is = entry-variable false s.names x e d h.2 is
standing-variable line s x (Some Index) d h f i is = not_both (index_of s.indexes x) h.0 i h.1
standing-variable line s x (Some Barred) d h f i is = impossible line refusal.DoVariable (none_after _ _ f)

choose_found : (vs : List Value) (x : Name) (v : Variable) (rest : List Variable) (d : Operand) (b : Bool) → DeclareIsFound vs v → (variable_of rest x ≡ Some d → value_at vs d.value ≡ Some (record { kind = d.kind; source = Declares })) →
    (if b then Some v.declare else variable_of rest x) ≡ Some d → value_at vs d.value ≡ Some (record { kind = d.kind; source = Declares })
choose_found vs x v rest d true h g is = subst (λ (o : Operand). value_at vs o.value ≡ Some (record { kind = o.kind; source = Declares })) (same_some (Some v.declare) v.declare d refl is) h
choose_found vs x v rest d false h g is = g is

pub declare-found : (vs : List Value) (variables : List Variable) (x : Name) (d : Operand) → All (DeclareIsFound vs) variables → variable_of variables x ≡ Some d → value_at vs d.value ≡ Some (record { kind = d.kind; source = Declares })
declare-found vs [] x d h is = absurd (cc)
declare-found vs (v ∷ rest) x d h is = choose_found vs x v rest d (bytes_eq v.name x) (All-head (DeclareIsFound vs) v rest h) (declare-found vs rest x d (All-tail (DeclareIsFound vs) v rest h)) is

pub whole_by_kind : (o : Option Value) (v : Value) → o ≡ Some v → is_expression (Some v.kind) ≡ false → is_whole o ≡ false
whole_by_kind o v is h = ap is_whole is ∙ whole v.kind h where
  whole : (k : ValueKind) → is_expression (Some k) ≡ false → is_whole (Some (record v { kind = k })) ≡ false
  whole (Scalar e) h = refl
  whole (Place e) h = refl
  whole (Declared e shape) h = refl
  whole (Allocatable e rank) h = refl
  whole (Section e rank) h = refl
  whole (Array e rank) h = absurd (cc)

module _ (vs : List Value) where
  -- ---- boxes and loads

  box_costs : (k : ValueKind) (d : Operand) (s : Scope) (n : ℕ) → Spends vs (box_of k d) s n 2 0 0
  box_costs (Allocatable e rank) d s n = spends-giving vs what.Boxed (d.value ∷ []) (Allocatable e rank) s n refl
  box_costs _ d s n = costs-weaker vs _ _ _ _ 2 0 0 (spends-done vs d s n) (omega arith) (omega arith) (omega arith)

  pub spends-boxed : (d : Operand) (s : Scope) (n : ℕ) → Spends vs (boxed d) s n 2 0 0
  unfolding boxed
  spends-boxed d s n = box_costs d.kind d s n

  pub spends-reference : (x : Name) (s : Scope) (n : ℕ) → Spends vs (reference x) s n 2 0 0
  unfolding reference scoped
  spends-reference x s n = spends-boxed (declare_of s.names x) s n

  box_kind : (k : ValueKind) (d : Operand) (s : Scope) (n : ℕ) → k ≡ d.kind → (box_of k d s n).made.kind ≡ d.kind
  unfolding giving done
  box_kind (Allocatable e rank) d s n is = is
  box_kind (Scalar e) d s n is = refl
  box_kind (Place e) d s n is = refl
  box_kind (Declared e shape) d s n is = refl
  box_kind (Section e rank) d s n is = refl
  box_kind (Array e rank) d s n is = refl

  pub boxed-kind : (d : Operand) (s : Scope) (n : ℕ) → (boxed d s n).made.kind ≡ d.kind
  unfolding boxed
  boxed-kind d s n = box_kind d.kind d s n refl

  load_priced : (k : ValueKind) (r : Operand) (s : Scope) (n : ℕ) → k ≡ r.kind → IsProper r.kind → Priced vs (load_of k r s n) 2 0 0
  unfolding done giving
  load_priced (Place e) r s n is h = priced vs (load_of (Place e) r s n) 2 0 0 (spends-giving vs what.Load (r.value ∷ []) (Scalar e) s n refl) refl tt
  load_priced (Scalar e) r s n is h = record { light = omega arith; size = omega (arith, slack-few vs r.kind); reductions = omega arith; wholes = omega arith; proper = h }
  load_priced (Declared e shape) r s n is h = record { light = omega arith; size = omega (arith, slack-few vs r.kind); reductions = omega arith; wholes = omega arith; proper = h }
  load_priced (Allocatable e rank) r s n is h = record { light = omega arith; size = omega (arith, slack-few vs r.kind); reductions = omega arith; wholes = omega arith; proper = h }
  load_priced (Section e rank) r s n is h = record { light = omega arith; size = omega (arith, slack-few vs r.kind); reductions = omega arith; wholes = omega arith; proper = h }
  load_priced (Array e rank) r s n is h = record { light = omega arith; size = omega (arith, slack-few vs r.kind); reductions = omega arith; wholes = omega arith; proper = h }

  pub priced-loaded : (r : Operand) (s : Scope) (n : ℕ) → IsProper r.kind → Priced vs (loaded r s n) 2 0 0
  unfolding loaded
  priced-loaded r s n h = load_priced r.kind r s n refl h

  -- what a lowering makes last, after one whose costs are known
  pub priced-then : {A : Type 0} (p : Lowering A) (q : A → Lowering Operand) (s : Scope) (n z r w z' r' w' : ℕ) → Spends vs p s n z r w → Priced vs (q (p s n).made s (n + numbers_of (p s n).ops)) z' r' w' → Priced vs ((p then q) s n) (z + z') (r + r') (w + w')
  unfolding ◌then◌
  priced-then p q s n z r w z' r' w' a b =
      let last = q (p s n).made s (n + numbers_of (p s n).ops) in
      let k = slack last.made.kind in
      let c : Costs vs ((p s n).ops ++ last.ops) (z + total size_of last.ops) (r + r') (w + w') = spends-then vs p q s n z r w (total size_of last.ops) r' w' a (record { light = b.light; size = omega arith; reductions = b.reductions; wholes = b.wholes }) in
      record { light = c.light; size = omega (arith, c.size, b.size); reductions = c.reductions; wholes = c.wholes; proper = b.proper }

  -- ---- names

  known_named : (names : Names) (x : Name) (o : Option Operand) (s : Scope) (n : ℕ) → ((d : Operand) → o ≡ Some d → IsVariable d.kind) → Priced vs (variable_or_truth names x o s n) 4 0 0
  known_named names x (Some d) s n h =
      let m = n + numbers_of (boxed d s n).ops in
      priced-then (boxed d) loaded s n 2 0 0 2 0 0 (spends-boxed d s n) (priced-loaded (boxed d s n).made s m (subst IsProper (sym (boxed-kind d s n)) (h d refl).proper))
  known_named names x None s n h = priced-weaker vs _ _ _ _ 4 0 0 (priced-constant vs I1 _ s n) (omega arith) (omega arith) (omega arith)

  named_case : (x : Name) (o : Option ValueId) (s : Scope) (n : ℕ) → (o ≡ None → (d : Operand) → variable_of s.names.variables x ≡ Some d → IsVariable d.kind) → Priced vs (index_or_other s x o s n) 4 0 0
  unfolding done
  named_case x (Some v) s n h = record { light = omega arith; size = omega arith; reductions = omega arith; wholes = omega arith; proper = tt }
  named_case x None s n h = known_named s.names x (variable_of s.names.variables x) s n (λ d is. h refl d is)

  pub priced-named : (line : ℕ) (x : Name) (st : Option Standing) (s : Scope) (n : ℕ) → NameIsKnown s x st → name_faults line st ≡ [] → Priced vs (named x s n) 4 0 0
  unfolding named scoped
  priced-named line x st s n h f = named_case x (index_of s.indexes x) s n (λ i d is. standing-variable line s x st d h f i is)

  -- ---- inquiries

  pub spends-bound : (w : BoundWord) (dim : ℕ) (r : Operand) (s : Scope) (n : ℕ) → Spends vs (bound w dim r) s n 2 0 0
  unfolding bound
  spends-bound w dim r s n = spends-giving vs (what.Bound w dim) (r.value ∷ []) (Scalar I32) s n refl

  pub priced-bound : (w : BoundWord) (dim : ℕ) (r : Operand) (s : Scope) (n : ℕ) → Priced vs (bound w dim r s n) 2 0 0
  unfolding bound giving
  priced-bound w dim r s n = priced vs (bound w dim r s n) 2 0 0 (spends-bound w dim r s n) refl tt

  priced-size : (dim : Option ℕ) (r : Operand) (s : Scope) (n : ℕ) → Priced vs (size dim r s n) 2 0 0
  unfolding giving
  priced-size None r s n = priced vs (size None r s n) 2 0 0 (spends-giving vs what.Size (r.value ∷ []) (Scalar I32) s n refl) refl tt
  priced-size (Some dim) r s n = priced-bound Extent dim r s n

  priced-bound_or_size : (w : Option BoundWord) (dim : Option ℕ) (r : Operand) (s : Scope) (n : ℕ) → Priced vs (bound_or_size w dim r s n) 2 0 0
  priced-bound_or_size (Some w) dim r s n = priced-bound w (dimension dim) r s n
  priced-bound_or_size None dim r s n = priced-size dim r s n

  inquiry_case : (b : Bool) (w : CallWord) (x : Name) (dim : Option ℕ) (s : Scope) (n : ℕ) → Priced vs ((if b then scoped (λ c. is_allocated (declare_of c.names x)) else (reference x then bound_or_size (bound_word w) dim)) s n) 4 0 0
  unfolding scoped giving
  inquiry_case true w x dim s n = priced vs (is_allocated (declare_of s.names x) s n) 4 0 0 (costs-weaker vs _ _ _ _ 4 0 0 (spends-giving vs what.Allocated ((declare_of s.names x).value ∷ []) (Scalar I1) s n refl) (omega arith) (omega arith) (omega arith)) refl tt
  inquiry_case false w x dim s n = priced-then (reference x) (bound_or_size (bound_word w) dim) s n 2 0 0 2 0 0 (spends-reference x s n) (priced-bound_or_size (bound_word w) dim (reference x s n).made s (n + numbers_of (reference x s n).ops))

  name_case : (o : Option Name) (w : CallWord) (dim : Option ℕ) (s : Scope) (n : ℕ) → Priced vs (inquiry_or_nothing o w dim s n) 4 0 0
  unfolding done
  name_case (Some x) w dim s n = inquiry_case (is_allocated_word w) w x dim s n
  name_case None w dim s n = record { light = omega arith; size = omega arith; reductions = omega arith; wholes = omega arith; proper = tt }

  pub priced-inquiry : (w : CallWord) (es : List Expr) (s : Scope) (n : ℕ) → Priced vs (inquiry w es s n) 4 0 0
  unfolding inquiry
  priced-inquiry w es s n = name_case (first_name es) w (dimension_in es) s n

  -- ---- parts

  box_whole : (k : ValueKind) (d : Operand) (s : Scope) (n : ℕ) → Holds vs n (box_of k d s n).ops → is_whole (value_at vs d.value) ≡ false → is_whole (value_at vs (box_of k d s n).made.value) ≡ false
  unfolding giving done
  box_whole (Allocatable e rank) d s n h is = whole_by_kind _ _ (own_value vs n what.Boxed s.line (d.value ∷ []) (Allocatable e rank) [] [] h) refl
  box_whole (Scalar e) d s n h is = is
  box_whole (Place e) d s n h is = is
  box_whole (Declared e shape) d s n h is = is
  box_whole (Section e rank) d s n h is = is
  box_whole (Array e rank) d s n h is = is

  boxed-whole : (d : Operand) (s : Scope) (n : ℕ) → Holds vs n (boxed d s n).ops → is_whole (value_at vs d.value) ≡ false → is_whole (value_at vs (boxed d s n).made.value) ≡ false
  unfolding boxed
  boxed-whole d s n h is = box_whole d.kind d s n h is

  or_nothing-is : (o : Option Operand) (d : Operand) → o ≡ Some d → or_nothing o ≡ d
  or_nothing-is o d is = ap or_nothing is

  -- the reference to a variable is not evaluated whole
  pub reference-whole : (x : Name) (d : Operand) (s : Scope) (n : ℕ) → All (DeclareIsFound vs) s.names.variables → variable_of s.names.variables x ≡ Some d → IsVariable d.kind → Holds vs n (reference x s n).ops → is_whole (value_at vs (reference x s n).made.value) ≡ false
  unfolding reference scoped
  reference-whole x d s n found is var h =
      let declared : is_whole (value_at vs d.value) ≡ false = whole_by_kind _ _ (declare-found vs s.names.variables x d found is) var.named in
      boxed-whole (declare_of s.names x) s n h (subst (λ (o : Operand). is_whole (value_at vs o.value) ≡ false) (sym (or_nothing-is (variable_of s.names.variables x) d is)) declared)

  part_slack : (e : Elem) (rank : ℕ) (b : Bool) → slack (if b then Place e else Section e rank) ≡ 0
  part_slack e rank true = refl
  part_slack e rank false = refl

  part_proper : (e : Elem) (rank : ℕ) (b : Bool) → IsProper (if b then Place e else Section e rank)
  part_proper e rank true = tt
  part_proper e rank false = tt

  pub priced-designated : (r : Operand) (ss : List Subscript) (s : Scope) (n : ℕ) → is_whole (value_at vs r.value) ≡ false →
      Priced vs (designated r ss s n) (2 + length (flat_map sub_values ss)) 0 (wholes_among vs (flat_map sub_values ss))
  unfolding designated giving
  priced-designated r ss s n h =
      let os = flat_map sub_values ss in
      let rank = section_rank (map sub_kind ss) in
      priced vs (designated r ss s n) (2 + length os) 0 (wholes_among vs os)
      (costs-weaker vs _ _ _ _ (2 + length os) 0 (wholes_among vs os) (spends-giving vs (what.Designate (map sub_kind ss)) (r.value ∷ os) (part_kind (elem_of r.kind) rank) s n refl)
      (omega arith) (omega arith) (omega (arith, ap one_if h)))
      (part_slack (elem_of r.kind) rank (rank == 0)) (part_proper (elem_of r.kind) rank (rank == 0))
