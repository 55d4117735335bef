-- What names stand for inside constructs.
use Rattle.std.proofs.Common.{◌≡◌, refl, sym, ap, ◌∙◌, subst, ℕ, suc, Bool, true, false, ◌||◌, List, [], ◌∷◌, ◌++◌, Option, Some, None, if◌then◌else◌, bytes_eq, true≢false}
use Rattle.std.proofs.lemmas.Slice.Eq.{bytes_eq-Decides}
use Rattle.ws_base.specs.declared.refusal.RefusalKind.TheVariants as kind
use Rattle.ws_tree.specs.declared.stmt.Index.{Index}
use Rattle.ws_types.specs.declared.constant.Constancy.TheVariants.{NotConstant}
use Rattle.ws_types.specs.declared.types.Entry.{Entry}
use Rattle.ws_types.specs.declared.types.Row.{Row}
use Rattle.ws_types.specs.declared.types.Standing.{Standing}
use Rattle.ws_types.specs.declared.types.Standing.TheVariants.{Declared, Active, Index as Index', Barred}
use Rattle.ws_types.specs.Names.{Name, standing_of, name_faults, is_constant}
use Rattle.ws_types.specs.Constants.{constant_of}
use Rattle.ws_types.specs.Tables.{with_indexes, barred}
use Rattle.ws_sema.specs.declared.within.Within.{Within}
use Rattle.ws_sema.specs.Statements.{variable_faults, loop_faults, is_listed, header_faults, activated}
use Rattle.ws_sema.proofs.NoFaults.{none_first, none_after, not_broken, impossible}
use Rattle.hlfir_ops.specs.declared.what.What.TheVariants.{Forall}
use Rattle.hlfir_ops.specs.declared.op.ValueId.{ValueId}
use Rattle.lower_values.specs.declared.names.Names.{Names}
use Rattle.lower_values.specs.Scopes.{Scope, Indexed, index_of, inside}
use Rattle.lower_values.specs.Scopes as scopes
use Rattle.kind_laws.specs.Standing.{EntryIsKnown, NameIsKnown, Knows}
use Rattle.kind_laws.specs.Laws.{InsideIsKnown, HeaderIsKnown, ForallIsKnown, LoopIsKnown, index_names}

-- ---- scopes in which a name stands for the same

known_at : (a b : Scope) (x : Name) (st : Option Standing) → a.names ≡ b.names → index_of a.indexes x ≡ index_of b.indexes x → NameIsKnown b x st → NameIsKnown a x st
known_at a b x None n i h = tt
known_at a b x (Some (Declared e)) n i h = (i ∙ h.0, subst (λ names. EntryIsKnown e.constant names x e) (sym n) h.1)
known_at a b x (Some (Active e)) n i h = (i ∙ h.0, h.1, subst (λ names. EntryIsKnown false names x e) (sym n) h.2)
known_at a b x (Some Index') n i h = (h.0, i ∙ h.1, ap (λ names. constant_of names.constants x) n ∙ h.2)
known_at a b x (Some Barred) n i h = tt

pub inside_known : InsideIsKnown
inside_known t s w line k n none known x = known_at (inside w line k n s) s x (standing_of t x) refl (ap (λ xs. index_of (scopes.with_indexes n xs s.indexes) x) none) (known x)

-- ---- index names

standing_at : (b c : Bool) (st : Standing) (o p : Option Standing) → o ≡ (if c then Some st else p) → (if b then Some st else o) ≡ (if b || c then Some st else p)
standing_at true c st o p h = refl
standing_at false c st o p h = h

standing_listed : (st : Standing) (is : List Index) (t : List Row) (x : Name) → standing_of (with_indexes st is t) x ≡ (if is_listed is x then Some st else standing_of t x)
standing_listed st [] t x = refl
standing_listed st (i ∷ is) t x = standing_at (bytes_eq i.name x) (is_listed is x) st (standing_of (with_indexes st is t) x) (standing_of t x) (standing_listed st is t x)

abbrev pub with_names : ℕ → List Index → List Indexed → List Indexed
with_names n is outer = scopes.with_indexes n (index_names is) outer

other_at : (b c : Bool) (v : ValueId) (o p : Option ValueId) → (b || c) ≡ false → (c ≡ false → o ≡ (if b then Some v else p)) → o ≡ p
other_at true c v o p h g = absurd (true≢false h)
other_at false c v o p h g = g h

pub index_other : (n : ℕ) (is : List Index) (outer : List Indexed) (x : Name) → is_listed is x ≡ false → index_of (with_names n is outer) x ≡ index_of outer x
index_other n [] outer x h = refl
index_other n (i ∷ is) outer x h =
    other_at (bytes_eq i.name x) (is_listed is x) (record { number = n }) (index_of (with_names n (i ∷ is) outer) x) (index_of outer x) h
    (λ none. index_other (suc n) is (record { name = i.name; value = record { number = n } } ∷ outer) x none)

index_here : (b c : Bool) (v : ValueId) (o p : Option ValueId) → (b || c) ≡ true → (c ≡ false → o ≡ (if b then Some v else p)) → (c ≡ true → (u : ValueId) × (o ≡ Some u)) → (u : ValueId) × (o ≡ Some u)
index_here b true v o p h g k = k refl
index_here true false v o p h g k = (v, g refl)
index_here false false v o p h g k = absurd (true≢false (sym h))

index_some : (n : ℕ) (is : List Index) (outer : List Indexed) (x : Name) → is_listed is x ≡ true → (v : ValueId) × (index_of (with_names n is outer) x ≡ Some v)
index_some n [] outer x h = absurd (true≢false (sym h))
index_some n (i ∷ is) outer x h =
    let more : List Indexed = record { name = i.name; value = record { number = n } } ∷ outer in
    index_here (bytes_eq i.name x) (is_listed is x) (record { number = n }) (index_of (with_names n (i ∷ is) outer) x) (index_of outer x) h (λ none. index_other (suc n) is more x none) (λ some. index_some (suc n) is more x some)

-- ---- an index name is that of a variable

no_constant : (c : Bool) (names : Names) (x : Name) (e : Entry) → EntryIsKnown c names x e → c ≡ false → constant_of names.constants x ≡ NotConstant
no_constant true names x e h is = absurd (true≢false is)
no_constant false names x e h is = h.3

variable_no_constant : (line : ℕ) (s : Scope) (x : Name) (st : Option Standing) → NameIsKnown s x st → variable_faults line st ≡ [] → constant_of s.names.constants x ≡ NotConstant
unfolding variable_faults name_faults
variable_no_constant line s x None h f = impossible line kind.Undeclared (none_first _ _ (none_first _ _ (none_first _ _ f)))
variable_no_constant line s x (Some (Declared d)) h f = no_constant d.constant s.names x d h.1 (not_broken (is_constant (Some (Declared d))) _ _ (none_after _ _ (none_first _ _ f)))
variable_no_constant line s x (Some (Active d)) h f = h.2.3
variable_no_constant line s x (Some Index') h f = h.2
variable_no_constant line s x (Some Barred) h f = impossible line kind.DoVariable (none_after _ _ (none_first _ _ (none_first _ _ f)))

constant_here : (names : Names) (x y : Name) (b c : Bool) → bytes_eq x y ≡ b → (b || c) ≡ true → constant_of names.constants x ≡ NotConstant → (c ≡ true → constant_of names.constants y ≡ NotConstant) → constant_of names.constants y ≡ NotConstant
constant_here names x y true c same h here later = let is : x ≡ y = (bytes_eq-Decides x y).0 same in ap (constant_of names.constants) (sym is) ∙ here
constant_here names x y false c same h here later = later h

index_no_constant : (t bounds : List Row) (at : ℕ) (before is : List Index) (s : Scope) (x : Name) → Knows t s → header_faults t bounds at before is ≡ [] → is_listed is x ≡ true → constant_of s.names.constants x ≡ NotConstant
index_no_constant t bounds at before [] s x known f h = absurd (true≢false (sym h))
index_no_constant t bounds at before (i ∷ is) s x known f h =
    constant_here s.names i.name x (bytes_eq i.name x) (is_listed is x) refl h
    (variable_no_constant at s i.name (standing_of t i.name) (known i.name) (none_first _ _ (none_first _ _ (none_first _ _ (none_first _ _ (none_first _ _ f))))))
    (λ later. index_no_constant t bounds at (before ++ i ∷ []) is s x known (none_after _ _ f) later)

-- ---- in a FORALL

module _ (t : List Row) (s : Scope) (is : List Index) (line n : ℕ) (known : Knows t s) where
  header_at : (x : Name) (b : Bool) → NameIsKnown (inside (Forall (index_names is)) line 0 n s) x (if b then Some Barred else standing_of t x)
  header_at x true = tt
  header_at x false = known_at (inside (Forall (index_names is)) line 0 n s) s x (standing_of t x) refl refl (known x)

  body_at : (at : ℕ) → header_faults t (barred t is) at [] is ≡ [] → (x : Name) (b : Bool) → is_listed is x ≡ b → NameIsKnown (inside (Forall (index_names is)) line 1 n s) x (if b then Some Index' else standing_of t x)
  body_at at f x true h = let index = index_some n is s.indexes x h in (index.0, index.1, index_no_constant t (barred t is) at [] is s x known f h)
  body_at at f x false h = known_at (inside (Forall (index_names is)) line 1 n s) s x (standing_of t x) refl (index_other n is s.indexes x h) (known x)

pub header_known : HeaderIsKnown
header_known t s is line n known x = subst (NameIsKnown (inside (Forall (index_names is)) line 0 n s) x) (sym (standing_listed Barred is t x)) (header_at t s is line n known x (is_listed is x))

pub forall_known : ForallIsKnown
forall_known t s is at line n f known x = subst (NameIsKnown (inside (Forall (index_names is)) line 1 n s) x) (sym (standing_listed Index' is t x)) (body_at t s is line n known at f x (is_listed is x) refl)

-- ---- in a DO

pub entry_variable : (c : Bool) (names : Names) (x : Name) (e : Entry) → c ≡ false → EntryIsKnown c names x e → EntryIsKnown false names x e
entry_variable true names x e is h = absurd (true≢false is)
entry_variable false names x e is h = h

active_at : (t : List Row) (s : Scope) (x y : Name) (e : Entry) (b : Bool) → bytes_eq x y ≡ b → e.constant ≡ false → NameIsKnown s x (Some (Declared e)) → Knows t s → NameIsKnown s y (if b then Some (Active e) else standing_of t y)
active_at t s x y e true same is h known = subst (λ z. NameIsKnown s z (Some (Active e))) ((bytes_eq-Decides x y).0 same) (h.0, is, entry_variable e.constant s.names x e is h.1)
active_at t s x y e false same is h known = known y

activated_known : (t : List Row) (s : Scope) (w : Within) (line : ℕ) (x : Name) (st : Option Standing) → NameIsKnown s x st → loop_faults w line st ≡ [] → Knows t s → Knows (activated t x st) s
unfolding loop_faults variable_faults
activated_known t s w line x None h f known y = known y
activated_known t s w line x (Some (Declared e)) h f known y =
    active_at t s x y e (bytes_eq x y) refl (not_broken (is_constant (Some (Declared e))) _ _ (none_after _ _ (none_first _ _ (none_first _ _ f)))) h known
activated_known t s w line x (Some (Active e)) h f known y = known y
activated_known t s w line x (Some Index') h f known y = known y
activated_known t s w line x (Some Barred) h f known y = known y

pub loop_known : LoopIsKnown
loop_known t s w line x f known = activated_known t s w line x (standing_of t x) (known x) f known
