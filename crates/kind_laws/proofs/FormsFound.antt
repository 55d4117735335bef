-- What names, operations and calls make is found among the values of the module.
use Rattle.std.proofs.Common.{◌≡◌, refl, sym, ap, ◌∙◌, subst, ℕ, ◌==◌, Bool, true, false, List, [], ◌∷◌, Option, Some, None, ℤ, if◌then◌else◌, bytes_eq}
use Rattle.std.specs.List.{All}
use Rattle.std.proofs.lemmas.List.Elements.{All-head, All-tail}
use Rattle.ws_base.specs.Numbers.{truth}
use Rattle.ws_base.specs.declared.op.UnOp.{UnOp}
use Rattle.ws_base.specs.declared.op.UnOp.TheVariants as un
use Rattle.ws_base.specs.declared.op.CallWord.{CallWord}
use Rattle.ws_base.specs.declared.op.CallWord.TheVariants as word
use Rattle.ws_base.specs.declared.refusal.RefusalKind.TheVariants as kind
use Rattle.ws_tree.specs.declared.expr.Expr.{Expr}
use Rattle.ws_tree.specs.declared.expr.Expr.TheVariants.{Named}
use Rattle.ws_types.specs.declared.constant.Constancy.{Constancy}
use Rattle.ws_types.specs.declared.constant.Constancy.TheVariants.{Value, NoValue, NotConstant}
use Rattle.ws_types.specs.declared.types.Entry.{Entry}
use Rattle.ws_types.specs.declared.types.Standing.{Standing}
use Rattle.ws_types.specs.declared.types.Standing.TheVariants.{Declared, Active, Index, Barred}
use Rattle.ws_types.specs.declared.types.Row.{Row}
use Rattle.ws_types.specs.Names.{Name, name_faults}
use Rattle.ws_types.specs.Constants.{constancy}
use Rattle.ws_types.specs.Operations.{is_allocated_word, inquiry_faults}
use Rattle.ws_types.specs.Expressions.{first_standing}
use Rattle.ws_sema.proofs.NoFaults.{none_first, none_after, impossible}
use Rattle.hlfir_ops.specs.declared.kinds.Elem.{Elem}
use Rattle.hlfir_ops.specs.declared.kinds.Elem.TheVariants.{I32, I1}
use Rattle.hlfir_ops.specs.declared.kinds.ValueKind.{ValueKind}
use Rattle.hlfir_ops.specs.declared.kinds.ValueKind.TheVariants.{Scalar, Place, Declared as Declared', Allocatable, Section, Array}
use Rattle.hlfir_ops.specs.declared.what.Reduction.{Reduction}
use Rattle.hlfir_ops.specs.declared.what.What.{What}
use Rattle.hlfir_ops.specs.declared.what.What.TheVariants as what
use Rattle.hlfir_ops.specs.declared.op.ValueId.{ValueId}
use Rattle.hlfir_ops.specs.RulesValues.{Value as Value', Declares, Other, source_of, is_declares, value_at}
use Rattle.lower_values.specs.declared.names.Variable.{Variable}
use Rattle.lower_values.specs.declared.operand.Operand.{Operand}
use Rattle.lower_values.specs.Scopes.{Scope, Indexed, index_of}
use Rattle.lower_values.specs.Lowerings.{Lowering, ◌>>=◌, scoped, giving}
use Rattle.lower_values.specs.Operations.{constant, rank_from, on_scalars, at_each, operation, value_of_whole, in_parentheses, unary_operation, reduction_of, what_of, call_elem, total_or, call_on, vector}
use Rattle.lower_values.specs.References.{variable_of, declare_of, boxed, loaded, truth_of, variable_or_truth, index_or_other, named, reference, bound, bound_word, bound_or_size, is_allocated, dimension_in, inquiry, designated}
use Rattle.lower_values.specs.Values.{constant_or, folded}
use Rattle.kind_laws.specs.Found.{Found, DeclareIsFound, IndexIsFound, ScopeIsFound}
use Rattle.kind_laws.specs.Standing.{FitsEntry, EntryIsKnown, NameIsKnown}
use Rattle.kind_laws.proofs.Finding.{Finds, finds-done, finds-then, finds-next, finds-scoped, finds-giving_by, found_value, given_found}

operand_or : Operand → Option Operand → Operand
operand_or o (Some x) = x
operand_or o None = o

pub same_operand : (x y : Operand) → Some x ≡ Some y → x ≡ y
unfolding operand_or
same_operand x y e = ap (operand_or x) e

number_or : ValueId → Option ValueId → ValueId
number_or v (Some u) = u
number_or v None = v

same_number : (u v : ValueId) → Some u ≡ Some v → u ≡ v
unfolding number_or
same_number u v e = ap (number_or u) e

module _ (vs : List Value') where
  -- ---- operations

  pub constant_found : (s : Scope) (e : Elem) (z : ℤ) → Finds vs s (Found vs) (constant e z)
  constant_found s e z = given_found vs s (what.Constant z) [] (Scalar e) refl

  operation_at : (s : Scope) (w : What) (e : Elem) (xs : List Operand) (rank : ℕ) (b : Bool) → is_declares (source_of w) ≡ false → Finds vs s (Found vs) (if b then on_scalars w e xs else at_each w e rank xs)
  unfolding on_scalars at_each
  operation_at s w e xs rank true h = given_found vs s w _ (Scalar e) h
  operation_at s w e xs rank false h = finds-giving_by vs s (Found vs) what.Elemental (Array e rank) _ (λ v is. found_value vs (record { value = v; kind = Array e rank }) what.Elemental refl is)

  pub operation_found : (s : Scope) (w : What) (e : Elem) (xs : List Operand) → is_declares (source_of w) ≡ false → Finds vs s (Found vs) (operation w e xs)
  unfolding operation
  operation_found s w e xs h = operation_at s w e xs (rank_from 0 xs) (rank_from 0 xs == 0) h

  whole_found : (s : Scope) (x : Operand) (k : ValueKind) → Found vs x → Finds vs s (Found vs) (value_of_whole k x)
  whole_found s x (Scalar e) h = finds-done vs s (Found vs) x h
  whole_found s x (Place e) h = finds-done vs s (Found vs) x h
  whole_found s x (Declared' e shape) h = given_found vs s what.AsExpr _ (Array e shape.rank) refl
  whole_found s x (Allocatable e rank) h = given_found vs s what.AsExpr _ (Array e rank) refl
  whole_found s x (Section e rank) h = finds-done vs s (Found vs) x h
  whole_found s x (Array e rank) h = finds-done vs s (Found vs) x h

  pub parentheses_found : (s : Scope) (x : Operand) → Found vs x → Finds vs s (Found vs) (in_parentheses x)
  unfolding in_parentheses
  parentheses_found s x h = whole_found s x x.kind h

  pub unary_found : (s : Scope) (op : UnOp) (x : Operand) → Found vs x → Finds vs s (Found vs) (unary_operation op x)
  unary_found s un.Minus x h = operation_found s _ I32 (x ∷ []) refl
  unary_found s un.Plus x h = parentheses_found s x h
  unary_found s un.Not x h = operation_found s _ I1 (x ∷ []) refl

  -- ---- constants

  folded_at : (s : Scope) (c : Constancy) (p : Lowering Operand) → Finds vs s (Found vs) p → Finds vs s (Found vs) (constant_or c p)
  folded_at s (Value z) p h = constant_found s I32 z
  folded_at s NoValue p h = h
  folded_at s NotConstant p h = h

  pub folded_found : (s : Scope) (e : Expr) (p : Lowering Operand) → Finds vs s (Found vs) p → Finds vs s (Found vs) (folded e p)
  unfolding folded
  folded_found s e p h = finds-scoped vs s (Found vs) (λ q. constant_or (constancy q.names.constants e) p) (folded_at s (constancy s.names.constants e) p h)

  -- ---- places

  loaded_at : (s : Scope) (v : ValueId) (k : ValueKind) → Found vs (record { value = v; kind = k }) → Finds vs s (Found vs) (loaded (record { value = v; kind = k }))
  unfolding loaded
  loaded_at s v (Scalar e) h = finds-done vs s (Found vs) _ h
  loaded_at s v (Place e) h = given_found vs s what.Load _ (Scalar e) refl
  loaded_at s v (Declared' e shape) h = finds-done vs s (Found vs) _ h
  loaded_at s v (Allocatable e rank) h = finds-done vs s (Found vs) _ h
  loaded_at s v (Section e rank) h = finds-done vs s (Found vs) _ h
  loaded_at s v (Array e rank) h = finds-done vs s (Found vs) _ h

  pub loaded_found : (s : Scope) (x : Operand) → Found vs x → Finds vs s (Found vs) (loaded x)
  loaded_found s x h = loaded_at s x.value x.kind h

  -- ---- variables

  declare_at : (v : Variable) (rest : Option Operand) (b : Bool) (d : Operand) → DeclareIsFound vs v → ((e : Operand) → rest ≡ Some e → value_at vs e.value ≡ Some (record { kind = e.kind; source = Declares })) →
      (if b then Some v.declare else rest) ≡ Some d → value_at vs d.value ≡ Some (record { kind = d.kind; source = Declares })
  declare_at v rest true d h g is =
      let P : Operand → Type 0 = λ o. value_at vs o.value ≡ Some (record { kind = o.kind; source = Declares }) in
      subst P (same_operand v.declare d is) h
  declare_at v rest false d h g is = g d is

  -- the declare of a variable
  pub declare_found : (variables : List Variable) (x : Name) (d : Operand) → All (DeclareIsFound vs) variables → variable_of variables x ≡ Some d → value_at vs d.value ≡ Some (record { kind = d.kind; source = Declares })
  declare_found [] x d all is = absurd (let h = is in cc)
  declare_found (v ∷ variables) x d all is =
      declare_at v (variable_of variables x) (bytes_eq v.name x) d (All-head (DeclareIsFound vs) v variables all)
      (λ e same. declare_found variables x e (All-tail (DeclareIsFound vs) v variables all) same) is

  boxed_at : (s : Scope) (e : Entry) (v : ValueId) (k : ValueKind) → FitsEntry e k → value_at vs v ≡ Some (record { kind = k; source = Declares }) → Finds vs s (Found vs) (boxed (record { value = v; kind = k }))
  unfolding boxed
  boxed_at s e v (Scalar f) h is = absurd h
  boxed_at s e v (Place f) h is = finds-done vs s (Found vs) _ (record { value = record { kind = Place f; source = Declares }; found = is; kind = refl; reached = refl })
  boxed_at s e v (Declared' f shape) h is = finds-done vs s (Found vs) _ (record { value = record { kind = Declared' f shape; source = Declares }; found = is; kind = refl; reached = refl })
  boxed_at s e v (Allocatable f rank) h is = given_found vs s what.Boxed _ (Allocatable f rank) refl
  boxed_at s e v (Section f rank) h is = absurd h
  boxed_at s e v (Array f rank) h is = absurd h

  -- the variable, to read it or to take a part of it
  pub boxed_found : (s : Scope) (e : Entry) (d : Operand) → FitsEntry e d.kind → value_at vs d.value ≡ Some (record { kind = d.kind; source = Declares }) → Finds vs s (Found vs) (boxed d)
  boxed_found s e d h is = boxed_at s e d.value d.kind h is

  -- ---- names

  index_at : (i : Indexed) (rest : Option ValueId) (b : Bool) (v : ValueId) → IndexIsFound vs i → (rest ≡ Some v → value_at vs v ≡ Some (record { kind = Scalar I32; source = Other })) →
      (if b then Some i.value else rest) ≡ Some v → value_at vs v ≡ Some (record { kind = Scalar I32; source = Other })
  index_at i rest true v h g is = ap (value_at vs) (sym (same_number i.value v is)) ∙ h
  index_at i rest false v h g is = g is

  pub index_found : (indexes : List Indexed) (x : Name) (v : ValueId) → All (IndexIsFound vs) indexes → index_of indexes x ≡ Some v → value_at vs v ≡ Some (record { kind = Scalar I32; source = Other })
  index_found [] x v all is = absurd (let h = is in cc)
  index_found (i ∷ indexes) x v all is = index_at i (index_of indexes x) (bytes_eq i.name x) v (All-head (IndexIsFound vs) i indexes all) (λ same. index_found indexes x v (All-tail (IndexIsFound vs) i indexes all) same) is

  entry_found : (c : Bool) (s : Scope) (x : Name) (e : Entry) → EntryIsKnown c s.names x e → ScopeIsFound vs s → Finds vs s (Found vs) (variable_or_truth s.names x (variable_of s.names.variables x))
  entry_found true s x e h all = rw h.0 (constant_found s I1 (truth (truth_of s.names.truths x)))
  entry_found false s x e h all = rw h.1 (finds-then vs s (Found vs) (Found vs) (boxed h.0) loaded (boxed_found s e h.0 h.2 (declare_found s.names.variables x h.0 all.variables h.1)) (λ r found. loaded_found s r found))

  declared_found : (c : Bool) (s : Scope) (x : Name) (e : Entry) → index_of s.indexes x ≡ None → EntryIsKnown c s.names x e → ScopeIsFound vs s → Finds vs s (Found vs) (named x)
  unfolding named
  declared_found c s x e i h all = finds-scoped vs s (Found vs) (λ q. index_or_other q x (index_of q.indexes x)) (rw i (entry_found c s x e h all))

  index_name_found : (s : Scope) (x : Name) → NameIsKnown s x (Some Index) → ScopeIsFound vs s → Finds vs s (Found vs) (named x)
  unfolding named
  index_name_found s x h all =
      finds-scoped vs s (Found vs) (λ q. index_or_other q x (index_of q.indexes x))
      (rw h.1 (finds-done vs s (Found vs) _ (record { value = record { kind = Scalar I32; source = Other }; found = index_found s.indexes x h.0 all.indexes h.1; kind = refl; reached = refl })))

  pub name_found : (line : ℕ) (s : Scope) (x : Name) (st : Option Standing) → NameIsKnown s x st → name_faults line st ≡ [] → ScopeIsFound vs s → Finds vs s (Found vs) (named x)
  unfolding name_faults
  name_found line s x None h f all = impossible line kind.Undeclared (none_first _ _ f)
  name_found line s x (Some (Declared d)) h f all = declared_found d.constant s x d h.0 h.1 all
  name_found line s x (Some (Active d)) h f all = declared_found false s x d h.0 h.2 all
  name_found line s x (Some Index) h f all = index_name_found s x h all
  name_found line s x (Some Barred) h f all = impossible line kind.DoVariable (none_after _ _ f)

  -- ---- calls

  not_declares : (w : CallWord) → is_declares (source_of (what_of w)) ≡ false
  not_declares word.Abs = refl
  not_declares word.Mod = refl
  not_declares word.Modulo = refl
  not_declares _ = refl

  total_found : (s : Scope) (r : Option Reduction) (w : CallWord) (xs : List Operand) → Finds vs s (Found vs) (total_or r xs (operation (what_of w) (call_elem w xs) xs))
  total_found s (Some r) w xs = given_found vs s (what.Reduce r) _ (Scalar _) refl
  total_found s None w xs = operation_found s (what_of w) (call_elem w xs) xs (not_declares w)

  pub all_found : (s : Scope) (w : CallWord) (xs : List Operand) → Finds vs s (Found vs) (call_on w xs)
  unfolding call_on
  all_found s w xs = total_found s (reduction_of w) w xs

  pub vector_found : (s : Scope) (xs : List Operand) → Finds vs s (Found vs) (vector xs)
  unfolding vector
  vector_found s xs = given_found vs s what.Vector _ (Array _ 1) refl

  -- ---- inquiries

  bound_found : (s : Scope) (w : CallWord) (dim : Option ℕ) (r : Operand) → Finds vs s (Found vs) (bound_or_size (bound_word w) dim r)
  unfolding bound
  bound_found s word.Lbound dim r = given_found vs s (what.Bound _ _) _ (Scalar I32) refl
  bound_found s word.Ubound dim r = given_found vs s (what.Bound _ _) _ (Scalar I32) refl
  bound_found s _ None r = given_found vs s what.Size _ (Scalar I32) refl
  bound_found s _ (Some k) r = given_found vs s (what.Bound _ _) _ (Scalar I32) refl

  inquired_at : (s : Scope) (w : CallWord) (x : Name) (dim : Option ℕ) (b : Bool) → Finds vs s (Found vs) (if b then scoped (λ q. is_allocated (declare_of q.names x)) else (reference x >>= bound_or_size (bound_word w) dim))
  inquired_at s w x dim true = finds-scoped vs s (Found vs) (λ q. is_allocated (declare_of q.names x)) (given_found vs s what.Allocated _ (Scalar I1) refl)
  inquired_at s w x dim false = finds-next vs s (Found vs) (reference x) (bound_or_size (bound_word w) dim) (λ r. bound_found s w dim r)

  unnamed : {P : Type 0} (line : ℕ) (w : CallWord) (es : List Expr) → inquiry_faults line w None es ≡ [] → P
  unfolding inquiry_faults name_faults
  unnamed line w es f = impossible line kind.Undeclared (none_first _ _ (none_first _ _ (none_first _ _ (none_first _ _ f))))

  pub inquiry_found : (t : List Row) (line : ℕ) (s : Scope) (w : CallWord) (es : List Expr) → inquiry_faults line w (first_standing t es) es ≡ [] → Finds vs s (Found vs) (inquiry w es)
  unfolding inquiry
  inquiry_found t line s w [] f = unnamed line w [] f
  inquiry_found t line s w (Named x ∷ es) f = inquired_at s w x (dimension_in (Named x ∷ es)) (is_allocated_word w)
  inquiry_found t line s w (e ∷ es) f = unnamed line w (e ∷ es) f

  -- ---- parts

  part_at : (s : Scope) (subs : _) (operands : List ValueId) (e : Elem) (rank : ℕ) (b : Bool) → Finds vs s (Found vs) (giving (what.Designate subs) operands (if b then Place e else Section e rank))
  part_at s subs operands e rank true = given_found vs s (what.Designate subs) operands (Place e) refl
  part_at s subs operands e rank false = given_found vs s (what.Designate subs) operands (Section e rank) refl

  pub designated_found : (s : Scope) (r : Operand) (ss : _) → Finds vs s (Found vs) (designated r ss)
  unfolding designated
  designated_found s r ss = part_at s _ _ _ _ (_ == 0)
