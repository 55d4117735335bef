-- What the names of declarations stand for as a run begins: constants, and which of them are allocatables.
use Rattle.std.proofs.Common.{◌≡◌, refl, sym, ap, ◌∙◌, subst, ℕ, suc, Bool, true, false, ◌||◌, List, [], ◌∷◌, ◌++◌, Option, Some, None, ℤ, if◌then◌else◌, bytes_eq}
use Rattle.ws_base.specs.declared.refusal.RefusalKind.TheVariants as kind
use Rattle.ws_base.specs.Numbers.{truth}
use Rattle.ws_tree.specs.declared.expr.Expr.{Expr}
use Rattle.ws_tree.specs.declared.expr.Expr.TheVariants.{Number, TooWide, TooDeep, Truth, Named, Part', Call', Vector'}
use Rattle.ws_tree.specs.Trees.{paren, unary, binary}
use Rattle.ws_tree.specs.declared.stmt.Decl.{Decl}
use Rattle.ws_types.specs.declared.constant.Constant as types
use Rattle.ws_types.specs.declared.types.Standing.{Standing}
use Rattle.ws_types.specs.declared.types.Standing.TheVariants.{Declared}
use Rattle.ws_types.specs.Names.{Name, standing_of}
use Rattle.ws_types.specs.Constants.{truth_constancy, constant_faults}
use Rattle.ws_sema.specs.Declarations.{is_declared, is_some, value_faults, decls_faults, with_constant, constants_after, row_of, table_of}
use Rattle.array_meaning.specs.declared.world.Constant.{Constant}
use Rattle.array_meaning.specs.Stage1.{constant_of}
use Rattle.array_meaning.specs.Assign.{is_name_in}
use Rattle.array_meaning.specs.Program.{declaring, declared, constant_value, names_where}
use Rattle.lower_values.specs.declared.names.NamedTruth.{NamedTruth}
use Rattle.lower_assign.specs.Known.{truth_rows, truths_of, variable, declares_variable, if_variable, variable_decls, numbered}
use Rattle.lower_values.specs.References.{variable_of, truth_of}
use Rattle.kind_laws.proofs.ConstantsKnown.{not_later, declared_more, new_name}
use Rattle.small_laws.proofs.NoFaults.{none_first, none_after, impossible, left_false, right_false}
use Rattle.small_laws.proofs.Constancy.{Agree}
use Rattle.small_laws.proofs.Constants.{HasOnly, agree_after, only_after}

-- ---- one more constant

more_other : (ks : List Constant) (c : Constant) (x : Name) → bytes_eq c.name x ≡ false → constant_of (ks ++ c ∷ []) x ≡ constant_of ks x
more_other [] c x h = ap (λ b. if b then Some c.value else None) h
more_other (k ∷ ks) c x h = ap (λ o. if bytes_eq k.name x then Some k.value else o) (more_other ks c x h)

at_last : (b : Bool) (v : ℤ) (o p q : Option ℤ) → (if b then Some v else o) ≡ None → (o ≡ None → p ≡ q) → (if b then Some v else p) ≡ q
at_last true v o p q h f = absurd (cc)
at_last false v o p q h f = f h

more_same : (ks : List Constant) (c : Constant) (x : Name) → constant_of ks x ≡ None → bytes_eq c.name x ≡ true → constant_of (ks ++ c ∷ []) x ≡ Some c.value
more_same [] c x none h = ap (λ b. if b then Some c.value else None) h
more_same (k ∷ ks) c x none h = at_last (bytes_eq k.name x) k.value (constant_of ks x) (constant_of (ks ++ c ∷ []) x) (Some c.value) none (λ rest. more_same ks c x rest h)

-- ---- a name that is not declared here

other_constant : (o : Option Expr) (ks : List Constant) (d : Decl) (x : Name) → bytes_eq d.name x ≡ false → constant_of (declaring o ks d).0 x ≡ constant_of ks x
other_constant None ks d x h = refl
other_constant (Some e) ks d x h = more_other ks (record { name = d.name; value = constant_value ks e }) x h

other_truth : (b : Bool) (o : Option Expr) (y x : Name) (rest : List NamedTruth) → bytes_eq y x ≡ false → truth_of (truth_rows b y o ++ rest) x ≡ truth_of rest x
other_truth true (Some (Truth b)) y x rest h = ap (λ c. if c then b else truth_of rest x) h
other_truth true (Some (Number n)) y x rest h = refl
other_truth true (Some TooWide) y x rest h = refl
other_truth true (Some TooDeep) y x rest h = refl
other_truth true (Some (Named z)) y x rest h = refl
other_truth true (Some (Part' z c ss)) y x rest h = refl
other_truth true (Some (Call' w c es)) y x rest h = refl
other_truth true (Some (Vector' c es)) y x rest h = refl
other_truth true (Some (paren e)) y x rest h = refl
other_truth true (Some (unary op e)) y x rest h = refl
other_truth true (Some (binary op a b)) y x rest h = refl
other_truth true None y x rest h = refl
other_truth false o y x rest h = refl

other_name : (b : Bool) (y x : Name) (rest : List Name) → bytes_eq y x ≡ false → is_name_in (if b then y ∷ rest else rest) x ≡ is_name_in rest x
other_name true y x rest h = ap (λ c. c || is_name_in rest x) h
other_name false y x rest h = refl

abbrev pub allocatables_of : List Decl → List Name
allocatables_of = names_where (λ d. d.allocatable)

pub record IsAbsent (ks : List Constant) (ds : List Decl) (x : Name) : Type 0 where
  pub constant : constant_of (declared ks ds).0 x ≡ constant_of ks x
  pub no_truth : truth_of (truths_of ds) x ≡ false
  pub no_allocatable : is_name_in (allocatables_of ds) x ≡ false

absent : (ks : List Constant) (ds : List Decl) (x : Name) → is_declared ds x ≡ false → IsAbsent ks ds x
absent ks [] x h = record { constant = refl; no_truth = refl; no_allocatable = refl }
absent ks (d ∷ ds) x h =
    let other = left_false (bytes_eq d.name x) (is_declared ds x) h in
    let rest = absent (declaring d.constant ks d).0 ds x (right_false (bytes_eq d.name x) (is_declared ds x) h) in
    record {
      constant = rest.constant ∙ other_constant d.constant ks d x other;
      no_truth = other_truth d.truth d.constant d.name x (truths_of ds) other ∙ rest.no_truth;
      no_allocatable = other_name d.allocatable d.name x (allocatables_of ds) other ∙ rest.no_allocatable;
    }

-- ---- what a declaration makes of its name

-- among the constants, the LOGICAL ones and the allocatables
abbrev pub ConstantStands : Bool → Bool → Option ℤ → Bool → Type 0
ConstantStands false is_truth k b = (k ≡ None) × (b ≡ false)
ConstantStands true true k b = k ≡ Some (truth b)
ConstantStands true false k b = ((v : ℤ) × (k ≡ Some v)) × (b ≡ false)

abbrev pub NameStands : Option ℤ → Bool → Bool → Option Standing → Type 0
NameStands k b a None = (k ≡ None) × (b ≡ false) × (a ≡ false)
NameStands k b a (Some (Declared e)) = (a ≡ e.allocatable) × ConstantStands e.constant e.truth k b
NameStands k b a st = ⊥

stands_moved : (k l : Option ℤ) (b c a d : Bool) (st : Option Standing) → k ≡ l → b ≡ c → a ≡ d → NameStands l c d st → NameStands k b a st
stands_moved k l b c a d st h g f s = subst (λ x. NameStands x b a st) (sym h) (subst (λ x. NameStands l x a st) (sym g) (subst (λ x. NameStands l c x st) (sym f) s))

-- a LOGICAL constant is a literal
module _ (ks : List Constant) (rest : List NamedTruth) (y x : Name) (same : bytes_eq y x ≡ true) where
  literal : (line : ℕ) (e : Expr) → constant_faults line (truth_constancy e) ≡ [] → constant_value ks e ≡ truth (truth_of (truth_rows true y (Some e) ++ rest) x)
  unfolding constant_faults
  literal line (Truth b) f = ap truth (sym (ap (λ c. if c then b else truth_of rest x) same))
  literal line (Number n) f = impossible line kind.Unsupported (none_first _ _ f)
  literal line TooWide f = impossible line kind.Unsupported (none_first _ _ f)
  literal line TooDeep f = impossible line kind.OverLimit (none_after _ _ f)
  literal line (Named z) f = impossible line kind.Unsupported (none_first _ _ f)
  literal line (Part' z c ss) f = impossible line kind.Unsupported (none_first _ _ f)
  literal line (Call' w c es) f = impossible line kind.Unsupported (none_first _ _ f)
  literal line (Vector' c es) f = impossible line kind.Unsupported (none_first _ _ f)
  literal line (paren e) f = impossible line kind.Unsupported (none_first _ _ f)
  literal line (unary op e) f = impossible line kind.Unsupported (none_first _ _ f)
  literal line (binary op a b) f = impossible line kind.Unsupported (none_first _ _ f)

allocatable_here : (b : Bool) (y x : Name) (rest : List Name) → bytes_eq y x ≡ true → is_name_in rest x ≡ false → is_name_in (if b then y ∷ rest else rest) x ≡ b
allocatable_here true y x rest same none = ap (λ c. c || is_name_in rest x) same
allocatable_here false y x rest same none = none

no_rows : (b : Bool) (y : Name) → truth_rows b y None ≡ []
no_rows true y = refl
no_rows false y = refl

module _ (ks : List Constant) (cs : List types.Constant) (d : Decl) (ds : List Decl) (x : Name) (same : bytes_eq d.name x ≡ true) (none : constant_of ks x ≡ None) where
  constant_at : (b : Bool) (o : Option Expr) → value_faults cs d.line b o ≡ [] → IsAbsent (declaring o ks d).0 ds x →
      ConstantStands (is_some o) b (constant_of (declared (declaring o ks d).0 ds).0 x) (truth_of (truth_rows b d.name o ++ truths_of ds) x)
  constant_at b None f later = (later.constant ∙ none, ap (λ l. truth_of (l ++ truths_of ds) x) (no_rows b d.name) ∙ later.no_truth)
  constant_at true (Some e) f later =
      later.constant ∙ (more_same ks (record { name = d.name; value = constant_value ks e }) x none same ∙ ap Some (literal ks (truths_of ds) d.name x same d.line e f))
  constant_at false (Some e) f later = ((constant_value ks e, later.constant ∙ more_same ks (record { name = d.name; value = constant_value ks e }) x none same), later.no_truth)

  stands_here : value_faults cs d.line d.truth d.constant ≡ [] → IsAbsent (declaring d.constant ks d).0 ds x →
      NameStands (constant_of (declared ks (d ∷ ds)).0 x) (truth_of (truths_of (d ∷ ds)) x) (is_name_in (allocatables_of (d ∷ ds)) x) (Some (row_of d).standing)
  stands_here f later = (allocatable_here d.allocatable d.name x (allocatables_of ds) same later.no_allocatable, constant_at d.truth d.constant f later)

declared_last : (before : List Decl) (d : Decl) (x : Name) → bytes_eq d.name x ≡ true → is_declared (before ++ d ∷ []) x ≡ true
declared_last before d x same = declared_more before d x ∙ (ap (λ b. is_declared before x || b) same ∙ or_true (is_declared before x)) where
  or_true : (b : Bool) → (b || true) ≡ true
  or_true true = refl
  or_true false = refl

not_before : (before : List Decl) (d : Decl) (x : Name) → is_declared before x ≡ false → bytes_eq d.name x ≡ false → is_declared (before ++ d ∷ []) x ≡ false
not_before before d x old other = declared_more before d x ∙ (ap (λ b. is_declared before x || b) other ∙ ap (λ b. b || false) old)

stands_at : (before : List Decl) (cs : List types.Constant) (ks : List Constant) (d : Decl) (ds : List Decl) (x : Name) → HasOnly before ks → is_declared before x ≡ false → decls_faults before cs (d ∷ ds) ≡ [] →
    (is_declared (before ++ d ∷ []) x ≡ false → NameStands (constant_of (declared ks (d ∷ ds)).0 x) (truth_of (truths_of ds) x) (is_name_in (allocatables_of ds) x) (standing_of (table_of ds) x)) →
    (b : Bool) → bytes_eq d.name x ≡ b → NameStands (constant_of (declared ks (d ∷ ds)).0 x) (truth_of (truths_of (d ∷ ds)) x) (is_name_in (allocatables_of (d ∷ ds)) x) (if b then Some (row_of d).standing else standing_of (table_of ds) x)
stands_at before cs ks d ds x only new f rest true same =
    stands_here ks cs d ds x same (only x new) (none_after _ _ (none_first _ _ (none_first _ _ (none_first _ _ f))))
    (absent (declaring d.constant ks d).0 ds x (not_later (before ++ d ∷ []) (with_constant cs d) ds x (none_after _ _ f) (declared_last before d x same)))
stands_at before cs ks d ds x only new f rest false other =
    stands_moved _ _ _ _ _ _ (standing_of (table_of ds) x) refl (other_truth d.truth d.constant d.name x (truths_of ds) other) (other_name d.allocatable d.name x (allocatables_of ds) other) (rest (not_before before d x new other))

pub name_stands : (before : List Decl) (cs : List types.Constant) (ks : List Constant) (ds : List Decl) (x : Name) → HasOnly before ks → is_declared before x ≡ false → decls_faults before cs ds ≡ [] →
    NameStands (constant_of (declared ks ds).0 x) (truth_of (truths_of ds) x) (is_name_in (allocatables_of ds) x) (standing_of (table_of ds) x)
name_stands before cs ks [] x only new f = (only x new, refl, refl)
name_stands before cs ks (d ∷ ds) x only new f =
    stands_at before cs ks d ds x only new f
    (λ later. name_stands (before ++ d ∷ []) (with_constant cs d) (declaring d.constant ks d).0 ds x (only_after before ks d only) later (none_after _ _ f)) (bytes_eq d.name x) refl

-- ---- the INTEGER constants

pub constants_agree : (before : List Decl) (cs : List types.Constant) (ks : List Constant) (ds : List Decl) → Agree cs ks → HasOnly before ks → decls_faults before cs ds ≡ [] → Agree (constants_after cs ds) (declared ks ds).0
constants_agree before cs ks [] agree only f = agree
constants_agree before cs ks (d ∷ ds) agree only f =
    let new = new_name before d (none_first _ _ (none_first _ _ (none_first _ _ (none_first _ _ f)))) in
    constants_agree (before ++ d ∷ []) (with_constant cs d) (declaring d.constant ks d).0 ds (agree_after before cs ks d agree only new) (only_after before ks d only) (none_after _ _ f)

-- ---- a name that stands for nothing is no variable's

not_first : (b : Bool) (s : Standing) (o : Option Standing) → (if b then Some s else o) ≡ None → (b ≡ false) × (o ≡ None)
not_first true s o h = absurd (cc)
not_first false s o h = (refl, h)

no_variable_at : (n : ℕ) (cs : List types.Constant) (d : Decl) (ds : List Decl) (x : Name) (o : Option Expr) → bytes_eq d.name x ≡ false → ((m : ℕ) → variable_of (numbered m cs (variable_decls ds)) x ≡ None) →
    variable_of (numbered n cs (if_variable (declares_variable o) d ++ variable_decls ds)) x ≡ None
no_variable_at n cs d ds x None h rest = ap (λ b. if b then Some (variable n cs d).declare else variable_of (numbered (suc n) cs (variable_decls ds)) x) h ∙ rest (suc n)
no_variable_at n cs d ds x (Some e) h rest = rest n

pub no_variable : (n : ℕ) (cs : List types.Constant) (ds : List Decl) (x : Name) → standing_of (table_of ds) x ≡ None → variable_of (numbered n cs (variable_decls ds)) x ≡ None
no_variable n cs [] x h = refl
no_variable n cs (d ∷ ds) x h =
    let other = not_first (bytes_eq d.name x) (row_of d).standing (standing_of (table_of ds) x) h in
    no_variable_at n cs d ds x d.constant other.0 (λ m. no_variable m cs ds x other.1)
