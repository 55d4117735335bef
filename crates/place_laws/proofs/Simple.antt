-- What holds of the ops of constants, names and inquiries, for a test that ops of simple sorts pass.
use Rattle.std.proofs.Common.{◌≡◌, refl, ℕ, Bool, true, false, List, [], ◌∷◌, Option, Some, None, ℤ, if◌then◌else◌}
use Rattle.ws_base.specs.Numbers.{truth}
use Rattle.ws_base.specs.declared.name.Name.{Name}
use Rattle.ws_base.specs.declared.op.CallWord.{CallWord}
use Rattle.ws_tree.specs.declared.expr.Expr.{Expr}
use Rattle.ws_types.specs.declared.constant.Constancy.{Constancy}
use Rattle.ws_types.specs.declared.constant.Constancy.TheVariants.{Value}
use Rattle.ws_types.specs.Constants.{constancy}
use Rattle.ws_types.specs.Operations.{is_allocated_word}
use Rattle.hlfir_ops.specs.declared.kinds.Elem.{Elem}
use Rattle.hlfir_ops.specs.declared.kinds.Elem.TheVariants.{I32, I1}
use Rattle.hlfir_ops.specs.declared.kinds.ValueKind.{ValueKind}
use Rattle.hlfir_ops.specs.declared.kinds.ValueKind.TheVariants.{Scalar, Place, Declared, Allocatable, Section, Array}
use Rattle.hlfir_ops.specs.declared.what.BoundWord.{BoundWord}
use Rattle.hlfir_ops.specs.declared.what.BoundWord.TheVariants.{Extent}
use Rattle.hlfir_ops.specs.declared.what.What.{What}
use Rattle.hlfir_ops.specs.declared.what.What.TheVariants as what
use Rattle.hlfir_ops.specs.declared.op.ValueId.{ValueId}
use Rattle.hlfir_ops.specs.declared.op.Op.{Op}
use Rattle.hlfir_ops.specs.Trees.{op_of}
use Rattle.hlfir_ops.specs.RulesValues.{is_section}
use Rattle.lower_values.specs.declared.names.Names.{Names}
use Rattle.lower_values.specs.declared.operand.Operand.{Operand}
use Rattle.lower_values.specs.Scopes.{Scope, index_of}
use Rattle.lower_values.specs.Lowerings.{Lowering, done, ◌>>=◌, scoped, giving}
use Rattle.lower_values.specs.Operations.{constant, value_of_whole, in_parentheses}
use Rattle.lower_values.specs.References.{nothing, declare_of, box_of, boxed, reference, load_of, loaded, truth_of, variable_of, variable_or_truth, index_or_other, named, bound, first_name, dimension_in, size, dimension, bound_word, bound_or_size, is_allocated, inquiry_of, inquiry_or_nothing, inquiry}
use Rattle.lower_values.specs.Values.{constant_or, folded}
use Rattle.place_laws.proofs.Lowered.{Always, always-then, always-scoped, makes-done, makes-giving}

-- sorts of ops that give no section and go over no array
abbrev pub is_simple : What → Bool
is_simple (what.Constant z) = true
is_simple what.Load = true
is_simple what.Boxed = true
is_simple (what.Bound w dim) = true
is_simple what.Size = true
is_simple what.Allocated = true
is_simple what.AsExpr = true
is_simple _ = false

pub always-if : {A : Type 0} (T : Op → Bool) (b : Bool) (p q : Lowering A) → Always T p → Always T q → Always T (if b then p else q)
always-if T true p q h g = h
always-if T false p q h g = g

pub always-done : {A : Type 0} (T : Op → Bool) (x : A) → Always T (done x)
always-done T x s n = makes-done T s n x

-- the ops of these sorts pass
abbrev pub Simple : (Op → Bool) → Type 0
Simple T = (w : What) (line : ℕ) (operands : List ValueId) (k : ValueKind) → is_simple w ≡ true → is_section (Some k) ≡ false → T (op_of w line operands (Some k) []) ≡ true

module _ (T : Op → Bool) (simple : Simple T) where
  simple-giving : (w : What) (operands : List ValueId) (k : ValueKind) → is_simple w ≡ true → is_section (Some k) ≡ false → Always T (giving w operands k)
  simple-giving w operands k h g s n = makes-giving T s n w operands k (simple w s.line operands k h g)

  simple-done : {A : Type 0} (x : A) → Always T (done x)
  simple-done x = always-done T x

  simple-then : {A B : Type 0} (p : Lowering A) (q : A → Lowering B) → Always T p → ((x : A) → Always T (q x)) → Always T (p >>= q)
  simple-then p q h g = always-then T p q h g

  simple-scoped : {A : Type 0} (f : Scope → Lowering A) → ((s : Scope) → Always T (f s)) → Always T (scoped f)
  simple-scoped f h = always-scoped T f h

  simple-if : {A : Type 0} (b : Bool) (p q : Lowering A) → Always T p → Always T q → Always T (if b then p else q)
  simple-if b p q h g = always-if T b p q h g

  pub simple-constant : (e : Elem) (z : ℤ) → Always T (constant e z)
  simple-constant e z = simple-giving (what.Constant z) [] (Scalar e) refl refl

  simple-whole : (k : ValueKind) (x : Operand) → Always T (value_of_whole k x)
  simple-whole (Declared e shape) x = simple-giving what.AsExpr (x.value ∷ []) (Array e shape.rank) refl refl
  simple-whole (Allocatable e rank) x = simple-giving what.AsExpr (x.value ∷ []) (Array e rank) refl refl
  simple-whole k x = simple-done x

  pub simple-in_parentheses : (x : Operand) → Always T (in_parentheses x)
  unfolding in_parentheses
  simple-in_parentheses x = simple-whole x.kind x

  -- ---- names

  simple-box : (k : ValueKind) (d : Operand) → Always T (box_of k d)
  simple-box (Allocatable e rank) d = simple-giving what.Boxed (d.value ∷ []) (Allocatable e rank) refl refl
  simple-box k d = simple-done d

  pub simple-boxed : (d : Operand) → Always T (boxed d)
  unfolding boxed
  simple-boxed d = simple-box d.kind d

  pub simple-reference : (x : Name) → Always T (reference x)
  unfolding reference
  simple-reference x = simple-scoped (λ s. boxed (declare_of s.names x)) (λ s. simple-boxed (declare_of s.names x))

  simple-load : (k : ValueKind) (r : Operand) → Always T (load_of k r)
  simple-load (Scalar e) r = simple-done r
  simple-load (Place e) r = simple-giving what.Load (r.value ∷ []) (Scalar e) refl refl
  simple-load (Declared e shape) r = simple-done r
  simple-load (Allocatable e rank) r = simple-done r
  simple-load (Section e rank) r = simple-done r
  simple-load (Array e rank) r = simple-done r

  pub simple-loaded : (r : Operand) → Always T (loaded r)
  unfolding loaded
  simple-loaded r = simple-load r.kind r

  simple-variable : (names : Names) (x : Name) (d : Option Operand) → Always T (variable_or_truth names x d)
  simple-variable names x (Some d) = simple-then (boxed d) loaded (simple-boxed d) simple-loaded
  simple-variable names x None = simple-constant I1 (truth (truth_of names.truths x))

  simple-index : (s : Scope) (x : Name) (v : Option ValueId) → Always T (index_or_other s x v)
  simple-index s x (Some v) = simple-done (record { value = v; kind = Scalar I32 })
  simple-index s x None = simple-variable s.names x (variable_of s.names.variables x)

  pub simple-named : (x : Name) → Always T (named x)
  unfolding named
  simple-named x = simple-scoped (λ s. index_or_other s x (index_of s.indexes x)) (λ s. simple-index s x (index_of s.indexes x))

  -- ---- parts and inquiries

  pub simple-bound : (w : BoundWord) (dim : ℕ) (r : Operand) → Always T (bound w dim r)
  unfolding bound
  simple-bound w dim r = simple-giving (what.Bound w dim) (r.value ∷ []) (Scalar I32) refl refl

  simple-size : (dim : Option ℕ) (r : Operand) → Always T (size dim r)
  simple-size None r = simple-giving what.Size (r.value ∷ []) (Scalar I32) refl refl
  simple-size (Some dim) r = simple-bound Extent dim r

  simple-bound_or_size : (w : Option BoundWord) (dim : Option ℕ) (r : Operand) → Always T (bound_or_size w dim r)
  simple-bound_or_size (Some w) dim r = simple-bound w (dimension dim) r
  simple-bound_or_size None dim r = simple-size dim r

  simple-allocated : (x : Name) → Always T (scoped (λ s. is_allocated (declare_of s.names x)))
  simple-allocated x = simple-scoped (λ s. is_allocated (declare_of s.names x)) (λ s. simple-giving what.Allocated ((declare_of s.names x).value ∷ []) (Scalar I1) refl refl)

  simple-inquiry_of : (w : CallWord) (x : Name) (dim : Option ℕ) → Always T (inquiry_of w x dim)
  simple-inquiry_of w x dim =
      simple-if (is_allocated_word w) (scoped (λ s. is_allocated (declare_of s.names x))) (reference x >>= bound_or_size (bound_word w) dim) (simple-allocated x)
      (simple-then (reference x) (bound_or_size (bound_word w) dim) (simple-reference x) (simple-bound_or_size (bound_word w) dim))

  simple-inquiry_or : (x : Option Name) (w : CallWord) (dim : Option ℕ) → Always T (inquiry_or_nothing x w dim)
  simple-inquiry_or (Some x) w dim = simple-inquiry_of w x dim
  simple-inquiry_or None w dim = simple-done nothing

  pub simple-inquiry : (w : CallWord) (es : List Expr) → Always T (inquiry w es)
  unfolding inquiry
  simple-inquiry w es = simple-inquiry_or (first_name es) w (dimension_in es)

  -- ---- expressions

  simple-constant_or : (c : Constancy) (p : Lowering Operand) → Always T p → Always T (constant_or c p)
  simple-constant_or (Value z) p h = simple-constant I32 z
  simple-constant_or _ p h = h

  pub simple-folded : (e : Expr) (p : Lowering Operand) → Always T p → Always T (folded e p)
  unfolding folded
  simple-folded e p h = simple-scoped (λ s. constant_or (constancy s.names.constants e) p) (λ s. simple-constant_or (constancy s.names.constants e) p h)
