-- References to variables may be used any number of times; what is read or taken of them is used once.
use Rattle.std.proofs.Common.{◌≡◌, refl, sym, ℕ, ◌+◌, List, [], ◌∷◌, ◌++◌, map, Option, Some, None, arith}
use Rattle.std.specs.List.{flat_map}
use Rattle.std.proofs.lemmas.Bool.{false≢true}
use Rattle.ws_base.specs.declared.name.Name.{Name}
use Rattle.ws_base.specs.declared.op.CallWord.{CallWord}
use Rattle.ws_base.specs.Numbers.{truth}
use Rattle.ws_tree.specs.declared.expr.Expr.{Expr}
use Rattle.ws_types.specs.declared.types.Row.{Row}
use Rattle.ws_types.specs.Operations.{is_allocated_word}
use Rattle.hlfir_ops.specs.declared.kinds.Elem.{Elem}
use Rattle.hlfir_ops.specs.declared.kinds.Elem.TheVariants.{I32, I1}
use Rattle.hlfir_ops.specs.declared.kinds.ValueKind.{ValueKind}
use Rattle.hlfir_ops.specs.declared.kinds.ValueKind.TheVariants.{Scalar, Place, Allocatable}
use Rattle.hlfir_ops.specs.declared.what.BoundWord.{BoundWord}
use Rattle.hlfir_ops.specs.declared.what.BoundWord.TheVariants.{Extent}
use Rattle.hlfir_ops.specs.declared.what.What.TheVariants as what
use Rattle.hlfir_ops.specs.declared.op.ValueId.{ValueId}
use Rattle.hlfir_ops.specs.Trees.{op_of}
use Rattle.hlfir_ops.specs.RulesValues.{elem_of}
use Rattle.hlfir_ops.specs.RulesForms.{section_rank}
use Rattle.hlfir_ops.proofs.Sites.{defined_by}
use Rattle.lower_values.specs.declared.operand.Operand.{Operand}
use Rattle.lower_values.specs.declared.operand.Subscript.{Subscript}
use Rattle.lower_values.specs.Scopes.{Scope, index_of}
use Rattle.lower_values.specs.Lowerings.{Lowering, done, ◌>>=◌, scoped, giving}
use Rattle.lower_values.specs.References.{nothing, variable_of, declare_of, box_of, boxed, reference, load_of, loaded, truth_of, variable_or_truth, index_or_other, named, sub_kind, sub_values, bound, part_kind, designated, first_name, dimension_in, dimension, bound_word, bound_or_size, is_allocated, inquiry_or_nothing, inquiry}
use Rattle.use_laws.proofs.Counting.{hits, hit-other}
use Rattle.use_laws.proofs.Defined.{In, AllIn, numbers, Grows, grows-more}
use Rattle.use_laws.proofs.Standing.{HasNoVariables, IsFree, Stands, free-grown, found-free, declare-free, index-free, zero-free}
use Rattle.use_laws.proofs.Walking.{Lowers, of_operand, lowers-done, lowers-knowing, op-inner, lowers-by, lowers-scoped, lowers-if, lowers-giving}
use Rattle.use_laws.proofs.Operations.{lowers-constant}

free-hits : (k : ℕ) (D : List ℕ) (x : ℕ) → IsFree k D x → hits k (x ∷ []) ≡ 0
free-hits k D x h = omega (arith, hit-other k x h.other)

module _ (k : ℕ) (s : Scope) (n : ℕ) (D : List ℕ) where
  -- an op on a reference
  lowers-of_free : (w : _) (r : Operand) (kind : ValueKind) → IsFree k D r.value.number → Lowers k s n D (giving w (r.value ∷ []) kind) 0 of_operand
  lowers-of_free w r kind h = lowers-giving k s n D w (r.value ∷ []) kind 0 (h.defined, tt) (sym (free-hits k D r.value.number h))

  lowers-done_free : (r : Operand) → IsFree k D r.value.number → Lowers k s n D (done r) 0 of_operand
  lowers-done_free r h = lowers-done k s n D r 0 of_operand (h.defined, tt) (sym (free-hits k D r.value.number h))

  -- ---- the box of a variable, which is no array expression, and what is done with it

  done-then : {B : Type 0} (d : Operand) (q : Operand → Lowering B) (before : ℕ) (more : B → List ℕ) → IsFree k D d.value.number →
      ((r : Operand) (m : ℕ) (E : List ℕ) → Grows D E → IsFree k E r.value.number → Lowers k s m E (q r) before more) → Lowers k s n D (done d >>= q) before more
  unfolding done
  done-then d q before more h g =
      lowers-knowing k s n D (done d) q before 0 before of_operand more (omega arith) (lowers-done_free d h)
      (λ m _ defined. lowers-by k s m (D ++ []) (q d) before (hits k (of_operand d) + before) more (omega (arith, free-hits k D d.value.number h))
      (g d m (D ++ []) (grows-more D []) (free-grown k D (D ++ []) d.value.number (grows-more D []) h)))

  box-then : {B : Type 0} (e : Elem) (rank : ℕ) (d : Operand) (q : Operand → Lowering B) (before : ℕ) (more : B → List ℕ) → IsFree k D d.value.number →
      ((r : Operand) (m : ℕ) (E : List ℕ) → Grows D E → IsFree k E r.value.number → Lowers k s m E (q r) before more) → Lowers k s n D (giving what.Boxed (d.value ∷ []) (Allocatable e rank) >>= q) before more
  unfolding giving
  box-then e rank d q before more h g =
      let p = giving what.Boxed (d.value ∷ []) (Allocatable e rank) in
      let r : Operand = record { value = record { number = n }; kind = Allocatable e rank } in
      let op = op_of what.Boxed s.line (d.value ∷ []) (Some (Allocatable e rank)) [] in
      lowers-knowing k s n D p q before 0 before of_operand more (omega arith) (lowers-of_free what.Boxed d (Allocatable e rank) h)
      (λ m strict defined.
      let E = D ++ defined_by n (op ∷ []) in
      let free : IsFree k E n = record { defined = defined.0; other = λ same. false≢true ((op-inner k s n D what.Boxed s.line (d.value ∷ []) [] (Some (Allocatable e rank)) strict).0 same) } in
      lowers-by k s m E (q r) before (hits k (of_operand r) + before) more (omega (arith, free-hits k E n free)) (g r m E (grows-more D (defined_by n (op ∷ []))) free))

  boxed-then : {B : Type 0} (kind : ValueKind) (d : Operand) (q : Operand → Lowering B) (before : ℕ) (more : B → List ℕ) → IsFree k D d.value.number →
      ((r : Operand) (m : ℕ) (E : List ℕ) → Grows D E → IsFree k E r.value.number → Lowers k s m E (q r) before more) → Lowers k s n D (box_of kind d >>= q) before more
  boxed-then (Allocatable e rank) d q before more h g = box-then e rank d q before more h g
  boxed-then _ d q before more h g = done-then d q before more h g

  box-lowers : (kind : ValueKind) (d : Operand) → IsFree k D d.value.number → Lowers k s n D (box_of kind d) 0 of_operand
  box-lowers (Allocatable e rank) d h = lowers-of_free what.Boxed d (Allocatable e rank) h
  box-lowers _ d h = lowers-done_free d h

  pub lowers-boxed : (d : Operand) → IsFree k D d.value.number → Lowers k s n D (boxed d) 0 of_operand
  unfolding boxed
  lowers-boxed d h = box-lowers d.kind d h

  -- ---- values

  load-lowers : (kind : ValueKind) (r : Operand) (before : ℕ) → In D r.value.number → before ≡ hits k (of_operand r) → Lowers k s n D (load_of kind r) before of_operand
  load-lowers (Place e) r before h e' = lowers-giving k s n D what.Load (r.value ∷ []) (Scalar e) before (h, tt) e'
  load-lowers _ r before h e' = lowers-done k s n D r before of_operand (h, tt) e'

  pub lowers-loaded : (r : Operand) (before : ℕ) → In D r.value.number → before ≡ hits k (of_operand r) → Lowers k s n D (loaded r) before of_operand
  unfolding loaded
  lowers-loaded r before h e = load-lowers r.kind r before h e

  -- ---- subscripts

  pub lowers-bound : (w : BoundWord) (dim : ℕ) (r : Operand) → IsFree k D r.value.number → Lowers k s n D (bound w dim r) 0 of_operand
  unfolding bound
  lowers-bound w dim r h = lowers-of_free (what.Bound w dim) r (Scalar I32) h

  pub lowers-designated : (r : Operand) (ss : List Subscript) → IsFree k D r.value.number → AllIn D (numbers (flat_map sub_values ss)) → Lowers k s n D (designated r ss) (hits k (numbers (flat_map sub_values ss))) of_operand
  unfolding designated
  lowers-designated r ss h all =
      lowers-giving k s n D (what.Designate (map sub_kind ss)) (r.value ∷ flat_map sub_values ss) (part_kind (elem_of r.kind) (section_rank (map sub_kind ss))) (hits k (numbers (flat_map sub_values ss))) (h.defined, all)
      (omega (arith, hit-other k r.value.number h.other))

module _ (k : ℕ) (t : List Row) (s : Scope) (n : ℕ) (D : List ℕ) (stands : Stands k t D s) where
  pub lowers-reference : {B : Type 0} (x : Name) (q : Operand → Lowering B) (before : ℕ) (more : B → List ℕ) → (HasNoVariables t → ⊥) →
      ((r : Operand) (m : ℕ) (E : List ℕ) → Grows D E → IsFree k E r.value.number → Lowers k s m E (q r) before more) → Lowers k s n D (reference x >>= q) before more
  unfolding reference scoped boxed ◌>>=◌
  lowers-reference x q before more some g = let d = declare_of s.names x in record { walked = (boxed-then k s n D d.kind d q before more (declare-free k t D s x stands some) g).walked }

  truth-lowers : (x : Name) (o : Option Operand) → ((d : Operand) → o ≡ Some d → IsFree k D d.value.number) → Lowers k s n D (variable_or_truth s.names x o) 0 of_operand
  unfolding boxed
  truth-lowers x (Some d) h =
      boxed-then k s n D d.kind d loaded 0 of_operand (h d refl) (λ r m E g free. lowers-loaded k s m E r 0 free.defined (sym (free-hits k E r.value.number free)))
  truth-lowers x None h = lowers-constant k s n D I1 (truth (truth_of s.names.truths x))

  index-lowers : (x : Name) (o : Option ValueId) → ((d : ValueId) → o ≡ Some d → IsFree k D d.number) → Lowers k s n D (index_or_other s x o) 0 of_operand
  index-lowers x (Some v) h = lowers-done_free k s n D (record { value = v; kind = Scalar I32 }) (h v refl)
  index-lowers x None h = truth-lowers x (variable_of s.names.variables x) (λ d e. found-free k D s.names.variables x d stands.variables e)

  pub lowers-named : (x : Name) → Lowers k s n D (named x) 0 of_operand
  unfolding named
  lowers-named x = lowers-scoped k s n D (λ r. index_or_other r x (index_of r.indexes x)) 0 of_operand (index-lowers x (index_of s.indexes x) (λ d e. index-free k D s.indexes x d stands.indexes e))

  -- ---- inquiries

  inquired : (w : CallWord) (dim : Option ℕ) (r : Operand) (m : ℕ) (E : List ℕ) → IsFree k E r.value.number → Lowers k s m E (bound_or_size (bound_word w) dim r) 0 of_operand
  inquired w dim r m E free = sized (bound_word w) dim where
    sized : (o : Option BoundWord) (dim : Option ℕ) → Lowers k s m E (bound_or_size o dim r) 0 of_operand
    sized (Some b) dim = lowers-bound k s m E b (dimension dim) r free
    sized None None = lowers-of_free k s m E what.Size r (Scalar I32) free
    sized None (Some d) = lowers-bound k s m E Extent d r free

  inquiry-lowers : (o : Option Name) (w : CallWord) (dim : Option ℕ) → (HasNoVariables t → ⊥) → Lowers k s n D (inquiry_or_nothing o w dim) 0 of_operand
  inquiry-lowers (Some x) w dim some =
      lowers-if k s n D (is_allocated_word w) (scoped (λ r. is_allocated (declare_of r.names x))) (reference x >>= bound_or_size (bound_word w) dim) 0 of_operand
      (lowers-scoped k s n D (λ r. is_allocated (declare_of r.names x)) 0 of_operand (lowers-of_free k s n D what.Allocated (declare_of s.names x) (Scalar I1) (declare-free k t D s x stands some)))
      (lowers-reference x (bound_or_size (bound_word w) dim) 0 of_operand some (λ r m E g free. inquired w dim r m E free))
  inquiry-lowers None w dim some = lowers-done_free k s n D nothing (zero-free k t D s stands some)

  pub lowers-inquiry : (w : CallWord) (es : List Expr) → (HasNoVariables t → ⊥) → Lowers k s n D (inquiry w es) 0 of_operand
  unfolding inquiry
  lowers-inquiry w es some = inquiry-lowers (first_name es) w (dimension_in es) some
