-- What lowerings make, and the kinds of what operations, constants and variables make.
use Rattle.std.proofs.Common.{◌≡◌, refl, sym, ap, ℕ, ◌+◌, ◌<◌, ◌==◌, Bool, true, false, List, [], Some, ℤ, if◌then◌else◌, arith}
use Rattle.std.proofs.lemmas.Bool.{eqb-true}
use Rattle.ws_types.specs.declared.types.Typed.{Typed}
use Rattle.ws_types.specs.declared.types.Entry.{Entry}
use Rattle.ws_types.specs.Names.{entry_type}
use Rattle.hlfir_ops.specs.declared.kinds.Elem.{Elem}
use Rattle.hlfir_ops.specs.declared.kinds.ValueKind.{ValueKind}
use Rattle.hlfir_ops.specs.declared.kinds.ValueKind.TheVariants.{Scalar, Place, Declared, Allocatable, Section, Array}
use Rattle.hlfir_ops.specs.declared.what.What.{What}
use Rattle.hlfir_ops.specs.declared.op.ValueId.{ValueId}
use Rattle.hlfir_ops.specs.Numbers.{numbers_of}
use Rattle.hlfir_ops.specs.RulesValues.{elem_of, rank_of, is_reference}
use Rattle.lower_values.specs.declared.operand.Operand.{Operand}
use Rattle.lower_assign.specs.Known.{elem}
use Rattle.lower_values.specs.Scopes.{Scope}
use Rattle.lower_values.specs.Lowerings.{Lowering, done, ◌>>=◌, scoped, giving, giving_by}
use Rattle.lower_values.specs.Operations.{constant, rank_from, on_scalars, at_each, operation, value_of_whole, in_parentheses}
use Rattle.lower_values.specs.References.{boxed, loaded, part_kind}
use Rattle.kind_laws.specs.Laws.{HasType}
use Rattle.kind_laws.specs.Standing.{FitsEntry}

-- ---- what is made, from every number on

abbrev pub Makes : {A : Type 0} → Scope → (A → Type 0) → Lowering A → Type 0
Makes s P p = (n : ℕ) → P (p s n).made

pub makes-done : {A : Type 0} (s : Scope) (P : A → Type 0) (x : A) → P x → Makes s P (done x)
unfolding done
makes-done s P x h n = h

pub makes-then : {A B : Type 0} (s : Scope) (P : A → Type 0) (Q : B → Type 0) (p : Lowering A) (q : A → Lowering B) → Makes s P p → ((x : A) → P x → Makes s Q (q x)) → Makes s Q (p >>= q)
unfolding ◌>>=◌
makes-then s P Q p q h g n = g (p s n).made (h n) (n + numbers_of (p s n).ops)

pub makes-scoped : {A : Type 0} (s : Scope) (P : A → Type 0) (f : Scope → Lowering A) → Makes s P (f s) → Makes s P (scoped f)
unfolding scoped
makes-scoped s P f h = h

pub makes-giving : (s : Scope) (P : Operand → Type 0) (w : What) (operands : List ValueId) (k : ValueKind) → ((v : ValueId) → P (record { value = v; kind = k })) → Makes s P (giving w operands k)
unfolding giving
makes-giving s P w operands k h n = h (record { number = n })

-- ---- operands of a type

-- a value of this type and rank
abbrev pub IsOf : Typed → Operand → Type 0
IsOf ty x = HasType ty x.kind

pub scalar_type : (e : Elem) (ty : Typed) → e ≡ elem ty.truth → ty.rank ≡ 0 → HasType ty (Scalar e)
scalar_type e ty h k = record { elem = h; rank = sym k; value = refl }

pub array_type : (e : Elem) (rank : ℕ) (ty : Typed) → e ≡ elem ty.truth → rank ≡ ty.rank → HasType ty (Array e rank)
array_type e rank ty h k = record { elem = h; rank = k; value = refl }

pub constant_made : (s : Scope) (e : Elem) (z : ℤ) (ty : Typed) → e ≡ elem ty.truth → ty.rank ≡ 0 → Makes s (IsOf ty) (constant e z)
constant_made s e z ty h k = makes-giving s (IsOf ty) _ [] (Scalar e) (λ v. scalar_type e ty h k)

-- ---- operations

operation_at : (s : Scope) (w : What) (e : Elem) (xs : List Operand) (ty : Typed) (rank : ℕ) (b : Bool) → (rank == 0) ≡ b → e ≡ elem ty.truth → rank ≡ ty.rank → Makes s (IsOf ty) (if b then on_scalars w e xs else at_each w e rank xs)
unfolding on_scalars at_each giving giving_by
operation_at s w e xs ty rank true is h k n = scalar_type e ty h (let none = eqb-true rank 0 is in omega arith)
operation_at s w e xs ty rank false is h k n = array_type e rank ty h k

pub operation_made : (s : Scope) (w : What) (e : Elem) (xs : List Operand) (ty : Typed) → e ≡ elem ty.truth → rank_from 0 xs ≡ ty.rank → Makes s (IsOf ty) (operation w e xs)
unfolding operation
operation_made s w e xs ty h k = operation_at s w e xs ty (rank_from 0 xs) (rank_from 0 xs == 0) refl h k

whole_made : (s : Scope) (x : Operand) (ty : Typed) (k : ValueKind) → HasType ty k → IsOf ty x → Makes s (IsOf ty) (value_of_whole k x)
unfolding done giving
whole_made s x ty (Scalar e) h g n = g
whole_made s x ty (Place e) h g n = g
whole_made s x ty (Declared e shape) h g n = array_type e shape.rank ty h.elem h.rank
whole_made s x ty (Allocatable e rank) h g n = array_type e rank ty h.elem h.rank
whole_made s x ty (Section e rank) h g n = g
whole_made s x ty (Array e rank) h g n = g

pub parentheses_made : (s : Scope) (x : Operand) (ty : Typed) → IsOf ty x → Makes s (IsOf ty) (in_parentheses x)
unfolding in_parentheses
parentheses_made s x ty h = whole_made s x ty x.kind h h

-- ---- variables

variable_at : (s : Scope) (e : Entry) (v : ValueId) (k : ValueKind) → FitsEntry e k → Makes s (IsOf (entry_type e)) (boxed (record { value = v; kind = k }) >>= loaded)
unfolding boxed loaded ◌>>=◌ done giving
variable_at s e v (Scalar f) h n = absurd h
variable_at s e v (Place f) h n = scalar_type f (entry_type e) h.0 h.1
variable_at s e v (Declared f shape) h n = record { elem = h.0; rank = h.1; value = refl }
variable_at s e v (Allocatable f rank) h n = record { elem = h.0; rank = h.1; value = refl }
variable_at s e v (Section f rank) h n = absurd h
variable_at s e v (Array f rank) h n = absurd h

-- the value of a variable
pub variable_made : (s : Scope) (e : Entry) (d : Operand) → FitsEntry e d.kind → Makes s (IsOf (entry_type e)) (boxed d >>= loaded)
variable_made s e d h = variable_at s e d.value d.kind h

-- a reference to an array of this type
pub record IsReferenceTo (ty : Typed) (r : Operand) : Type 0 where
  pub elem : elem_of r.kind ≡ elem ty.truth
  pub rank : rank_of r.kind ≡ ty.rank
  pub reference : is_reference (Some r.kind) ≡ true

array_at : (s : Scope) (e : Entry) (v : ValueId) (k : ValueKind) → FitsEntry e k → 0 < e.rank → Makes s (IsReferenceTo (entry_type e)) (boxed (record { value = v; kind = k }))
unfolding boxed done giving
array_at s e v (Scalar f) h l n = absurd h
array_at s e v (Place f) h l n = absurd (let none = h.1 in omega (arith, l))
array_at s e v (Declared f shape) h l n = record { elem = h.0; rank = h.1; reference = refl }
array_at s e v (Allocatable f rank) h l n = record { elem = h.0; rank = h.1; reference = refl }
array_at s e v (Section f rank) h l n = absurd h
array_at s e v (Array f rank) h l n = absurd h

pub array_made : (s : Scope) (e : Entry) (d : Operand) → FitsEntry e d.kind → 0 < e.rank → Makes s (IsReferenceTo (entry_type e)) (boxed d)
array_made s e d h l = array_at s e d.value d.kind h l

-- ---- parts

-- a place or a section of this type and rank
pub record IsPartOf (ty : Typed) (p : Operand) : Type 0 where
  pub rank : ℕ
  pub kind : p.kind ≡ part_kind (elem ty.truth) rank
  pub same : rank ≡ ty.rank

loaded_at : (s : Scope) (ty : Typed) (v : ValueId) (rank : ℕ) (b : Bool) → (rank == 0) ≡ b → rank ≡ ty.rank →
    Makes s (IsOf ty) (loaded (record { value = v; kind = if b then Place (elem ty.truth) else Section (elem ty.truth) rank }))
unfolding loaded done giving
loaded_at s ty v rank true is h n = scalar_type (elem ty.truth) ty refl (let none = eqb-true rank 0 is in omega arith)
loaded_at s ty v rank false is h n = record { elem = refl; rank = h; value = refl }

pub part_made : (s : Scope) (ty : Typed) (p : Operand) → IsPartOf ty p → Makes s (IsOf ty) (loaded p)
part_made s ty p h = rw (let is : p ≡ record { value = p.value; kind = part_kind (elem ty.truth) h.rank } = ap (λ k. let x : Operand = record { value = p.value; kind = k } in x) h.kind in is) (loaded_at s ty p.value h.rank (h.rank == 0) refl h.same)
