-- What the names of a scope stand for: values that are defined and that are no array expressions.
use Rattle.std.proofs.Common.{◌≡◌, refl, subst, inl, inr, ◌⊎◌, ℕ, suc, Bool, true, false, List, [], ◌∷◌, ◌++◌, map, Option, Some, None}
use Rattle.std.specs.Prelude.{bytes_eq, if◌then◌else◌}
use Rattle.std.specs.List.{AllByRecursion}
use Rattle.std.proofs.lemmas.Bool.{false≢true}
use Rattle.ws_base.specs.declared.name.Name.{Name}
use Rattle.ws_types.specs.declared.types.Row.{Row}
use Rattle.ws_types.specs.declared.types.Standing.{Standing}
use Rattle.ws_types.specs.declared.types.Standing.TheVariants.{Declared, Active, Index, Barred}
use Rattle.ws_types.specs.Names as source
use Rattle.ws_types.specs.Names.{standing_of}
use Rattle.hlfir_ops.specs.declared.what.What.{What}
use Rattle.hlfir_ops.specs.declared.op.ValueId.{ValueId}
use Rattle.hlfir_ops.specs.Numbers.{names_in, kind_of_name}
use Rattle.hlfir_ops.specs.RulesPlaces.{from_number}
use Rattle.lower_values.specs.declared.names.Variable.{Variable}
use Rattle.lower_values.specs.declared.operand.Operand.{Operand}
use Rattle.lower_values.specs.Scopes.{Scope, Indexed, index_of, with_indexes, inside}
use Rattle.lower_values.specs.References.{variable_of, or_nothing, declare_of}
use Rattle.use_laws.proofs.Counting.{IsArrayAt}
use Rattle.use_laws.proofs.Defined.{In, in-after, Grows, grows-more}

-- ---- a source that declares no variables

abbrev pub IsNoVariable : Option Standing → Type 0
IsNoVariable None = Unit {0}
IsNoVariable (Some Barred) = Unit {0}
IsNoVariable (Some (Declared e)) = (e.constant ≡ true) × (e.rank ≡ 0) × (e.allocatable ≡ false)
IsNoVariable (Some (Active e)) = ⊥
IsNoVariable (Some Index) = ⊥

pub record HasNoVariables (t : List Row) : Type 0 where
  pub each : (x : source.Name) → IsNoVariable (standing_of t x)

-- ---- scopes

-- defined, and another number than k
pub record IsFree (k : ℕ) (D : List ℕ) (x : ℕ) : Type 0 where
  pub defined : In D x
  pub other : x ≡ k → ⊥

abbrev pub IsFreeVariable : ℕ → List ℕ → Variable → Type 0
IsFreeVariable k D v = IsFree k D v.declare.value.number

abbrev pub IsFreeIndex : ℕ → List ℕ → Indexed → Type 0
IsFreeIndex k D i = IsFree k D i.value.number

-- What stands for a part that has no value has the number 0, which is that of the first declare, if there is one.
pub record Stands (k : ℕ) (t : List Row) (D : List ℕ) (s : Scope) : Type 0 where
  pub variables : AllByRecursion (IsFreeVariable k D) s.names.variables
  pub indexes : AllByRecursion (IsFreeIndex k D) s.indexes
  pub zero : IsFree k D 0 ⊎ HasNoVariables t

pub free-grown : (k : ℕ) (D E : List ℕ) (x : ℕ) → Grows D E → IsFree k D x → IsFree k E x
free-grown k D E x g h = record { defined = g.kept x h.defined; other = h.other }

variables-grown : (k : ℕ) (D E : List ℕ) (vs : List Variable) → Grows D E → AllByRecursion (IsFreeVariable k D) vs → AllByRecursion (IsFreeVariable k E) vs
variables-grown k D E [] g h = tt
variables-grown k D E (v ∷ vs) g h = (free-grown k D E v.declare.value.number g h.0, variables-grown k D E vs g h.1)

indexes-grown : (k : ℕ) (D E : List ℕ) (is : List Indexed) → Grows D E → AllByRecursion (IsFreeIndex k D) is → AllByRecursion (IsFreeIndex k E) is
indexes-grown k D E [] g h = tt
indexes-grown k D E (i ∷ is) g h = (free-grown k D E i.value.number g h.0, indexes-grown k D E is g h.1)

zero-grown : (k : ℕ) (t : List Row) (D E : List ℕ) → Grows D E → IsFree k D 0 ⊎ HasNoVariables t → IsFree k E 0 ⊎ HasNoVariables t
zero-grown k t D E g (inl h) = inl (free-grown k D E 0 g h)
zero-grown k t D E g (inr h) = inr h

pub stands-grown : (k : ℕ) (t : List Row) (D E : List ℕ) (s : Scope) → Grows D E → Stands k t D s → Stands k t E s
stands-grown k t D E s g h = record {
  variables = variables-grown k D E s.names.variables g h.variables;
  indexes = indexes-grown k D E s.indexes g h.indexes;
  zero = zero-grown k t D E g h.zero;
}

-- ---- in a region

named-indexes : (k n : ℕ) (D : List ℕ) (names : List Name) (outer : List Indexed) → IsArrayAt k n (map kind_of_name names) → ((x : ℕ) → In (from_number n names) x → In D x) →
    AllByRecursion (IsFreeIndex k D) outer → AllByRecursion (IsFreeIndex k D) (with_indexes n names outer)
named-indexes k n D [] outer strict g h = h
named-indexes k n D (x ∷ xs) outer strict g h =
    let here : IsFree k D n = record { defined = g n (inl refl); other = λ e. false≢true (strict.0 e) } in
    named-indexes k (suc n) D xs (record { name = x; value = record { number = n } } ∷ outer) strict.1 (λ y i. g y (inr i)) (here, h)

pub stands-inside : (k : ℕ) (t : List Row) (D : List ℕ) (w : What) (line j n : ℕ) (s : Scope) → IsArrayAt k n (map kind_of_name (names_in w j)) → Stands k t D s →
    Stands k t (D ++ from_number n (names_in w j)) (inside w line j n s)
stands-inside k t D w line j n s strict h =
    let E = D ++ from_number n (names_in w j) in let g = grows-more D (from_number n (names_in w j)) in
    record {
      variables = variables-grown k D E s.names.variables g h.variables;
      indexes = named-indexes k n E (names_in w j) s.indexes strict (in-after D (from_number n (names_in w j))) (indexes-grown k D E s.indexes g h.indexes);
      zero = zero-grown k t D E g h.zero;
    }

-- ---- names

-- In a source without variables this is never asked.
pub zero-free : (k : ℕ) (t : List Row) (D : List ℕ) (s : Scope) → Stands k t D s → (HasNoVariables t → ⊥) → IsFree k D 0
zero-free k t D s h some = elim h.zero [ inl z ↦ z | inr none ↦ absurd (some none) ]

one_of : (k : ℕ) (D : List ℕ) (b : Bool) (v : Operand) (rest : Option Operand) (d : Operand) → IsFree k D v.value.number → (rest ≡ Some d → IsFree k D d.value.number) → (if b then Some v else rest) ≡ Some d → IsFree k D d.value.number
one_of k D true v rest d here later e = let same : v ≡ d = cc in subst (λ o. IsFree k D o.value.number) same here
one_of k D false v rest d here later e = later e

pub found-free : (k : ℕ) (D : List ℕ) (vs : List Variable) (x : Name) (d : Operand) → AllByRecursion (IsFreeVariable k D) vs → variable_of vs x ≡ Some d → IsFree k D d.value.number
found-free k D [] x d h e = cc
found-free k D (v ∷ vs) x d h e = one_of k D (bytes_eq v.name x) v.declare (variable_of vs x) d h.0 (found-free k D vs x d h.1) e

or_nothing-free : (k : ℕ) (D : List ℕ) (o : Option Operand) → ((d : Operand) → o ≡ Some d → IsFree k D d.value.number) → IsFree k D 0 → IsFree k D (or_nothing o).value.number
or_nothing-free k D (Some d) found zero = found d refl
or_nothing-free k D None found zero = zero

pub declare-free : (k : ℕ) (t : List Row) (D : List ℕ) (s : Scope) (x : Name) → Stands k t D s → (HasNoVariables t → ⊥) → IsFree k D (declare_of s.names x).value.number
declare-free k t D s x h some = or_nothing-free k D (variable_of s.names.variables x) (λ d e. found-free k D s.names.variables x d h.variables e) (zero-free k t D s h some)

index_of-chosen : (k : ℕ) (D : List ℕ) (b : Bool) (v : ValueId) (rest : Option ValueId) (d : ValueId) → IsFree k D v.number → (rest ≡ Some d → IsFree k D d.number) → (if b then Some v else rest) ≡ Some d → IsFree k D d.number
index_of-chosen k D true v rest d here later e = let same : v ≡ d = cc in subst (λ (o : ValueId). IsFree k D o.number) same here
index_of-chosen k D false v rest d here later e = later e

pub index-free : (k : ℕ) (D : List ℕ) (is : List Indexed) (x : Name) (d : ValueId) → AllByRecursion (IsFreeIndex k D) is → index_of is x ≡ Some d → IsFree k D d.number
index-free k D [] x d h e = cc
index-free k D (i ∷ is) x d h e = index_of-chosen k D (bytes_eq i.name x) i.value (index_of is x) d h.0 (index-free k D is x d h.1) e
