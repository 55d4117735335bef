-- The named INTEGER constants of declarations, by their names.
use Rattle.std.proofs.Common.{◌≡◌, refl, sym, ap, ◌∙◌, ℕ, Bool, true, false, ◌||◌, List, [], ◌∷◌, ◌++◌, Option, Some, None, ℤ, if◌then◌else◌, bytes_eq, true≢false}
use Rattle.std.proofs.lemmas.Slice.Eq.{bytes_eq-Decides}
use Rattle.ws_base.specs.declared.refusal.RefusalKind.TheVariants as kind
use Rattle.ws_tree.specs.declared.expr.Expr.{Expr}
use Rattle.ws_tree.specs.declared.stmt.Decl.{Decl}
use Rattle.ws_types.specs.declared.constant.Constant.{Constant}
use Rattle.ws_types.specs.declared.constant.Constancy.{Constancy}
use Rattle.ws_types.specs.declared.constant.Constancy.TheVariants.{Value, NoValue, NotConstant}
use Rattle.ws_types.specs.Names.{Name}
use Rattle.ws_types.specs.Constants.{known, constant_of, constancy, constant_faults, value_of}
use Rattle.ws_sema.specs.Declarations.{is_declared, heading_faults, decls_faults, constant_row, constants_from, with_constant, constants_after}
use Rattle.ws_sema.proofs.NoFaults.{none_first, none_after, not_broken, impossible, left_false, right_false, both_false}

-- ---- one list of constants after another

abbrev or_found : Constancy → Constancy → Constancy
or_found NotConstant c = c
or_found c d = c

found_at : (b : Bool) (o : Option ℤ) (c d e : Constancy) → c ≡ or_found d e → (if b then known o else c) ≡ or_found (if b then known o else d) e
found_at true (Some z) c d e is = refl
found_at true None c d e is = refl
found_at false o c d e is = is

constant_of-append : (cs more : List Constant) (x : Name) → constant_of (cs ++ more) x ≡ or_found (constant_of cs x) (constant_of more x)
constant_of-append [] more x = refl
constant_of-append (c ∷ cs) more x = found_at (bytes_eq c.name x) c.value (constant_of (cs ++ more) x) (constant_of cs x) (constant_of more x) (constant_of-append cs more x)

constant_first : (cs more : List Constant) (x : Name) (z : ℤ) → constant_of cs x ≡ Value z → constant_of (cs ++ more) x ≡ Value z
constant_first cs more x z h = constant_of-append cs more x ∙ ap (λ c. or_found c (constant_of more x)) h

constant_after : (cs more : List Constant) (x : Name) → constant_of cs x ≡ NotConstant → constant_of (cs ++ more) x ≡ constant_of more x
constant_after cs more x h = constant_of-append cs more x ∙ ap (λ c. or_found c (constant_of more x)) h

-- ---- a value that is found stays

value_stays : (cs : List Constant) (d : Name) (truth : Bool) (o : Option Expr) (x : Name) (z : ℤ) → constant_of cs x ≡ Value z → constant_of (constants_from cs d truth o) x ≡ Value z
value_stays cs d true o x z h = h
value_stays cs d false None x z h = h
value_stays cs d false (Some e) x z h = constant_first cs (constant_row cs d e ∷ []) x z h

pub value_after : (cs : List Constant) (ds : List Decl) (x : Name) (z : ℤ) → constant_of cs x ≡ Value z → constant_of (constants_after cs ds) x ≡ Value z
value_after cs [] x z h = h
value_after cs (d ∷ ds) x z h = value_after (with_constant cs d) ds x z (value_stays cs d.name d.truth d.constant x z h)

-- ---- no constant has a name that is not declared

row_none : (cs : List Constant) (d : Name) (e : Expr) (x : Name) → bytes_eq d x ≡ false → constant_of (constant_row cs d e ∷ []) x ≡ NotConstant
row_none cs d e x h = ap (λ b. if b then known (value_of (constancy cs e)) else NotConstant) h

none_stays : (cs : List Constant) (d : Name) (truth : Bool) (o : Option Expr) (x : Name) → bytes_eq d x ≡ false → constant_of cs x ≡ NotConstant → constant_of (constants_from cs d truth o) x ≡ NotConstant
none_stays cs d true o x n h = h
none_stays cs d false None x n h = h
none_stays cs d false (Some e) x n h = constant_after cs (constant_row cs d e ∷ []) x h ∙ row_none cs d e x n

pub none_later : (cs : List Constant) (ds : List Decl) (x : Name) → is_declared ds x ≡ false → constant_of cs x ≡ NotConstant → constant_of (constants_after cs ds) x ≡ NotConstant
none_later cs [] x n h = h
none_later cs (d ∷ ds) x n h = none_later (with_constant cs d) ds x (right_false (bytes_eq d.name x) (is_declared ds x) n) (none_stays cs d.name d.truth d.constant x (left_false (bytes_eq d.name x) (is_declared ds x) n) h)

-- ---- what stands before a declaration

abbrev pub HasOnly : List Decl → List Constant → Type 0
HasOnly before cs = (x : Name) → is_declared before x ≡ false → constant_of cs x ≡ NotConstant

pub declared_more : (before : List Decl) (d : Decl) (x : Name) → is_declared (before ++ d ∷ []) x ≡ (is_declared before x || bytes_eq d.name x)
declared_more [] d x = either (bytes_eq d.name x) where
  either : (b : Bool) → (b || false) ≡ b
  either true = refl
  either false = refl
declared_more (b ∷ before) d x = ap (λ c. bytes_eq b.name x || c) (declared_more before d x) ∙ moved (bytes_eq b.name x) (is_declared before x) (bytes_eq d.name x) where
  moved : (p q r : Bool) → (p || (q || r)) ≡ ((p || q) || r)
  moved true q r = refl
  moved false q r = refl

pub only_more : (before : List Decl) (cs : List Constant) (d : Decl) → HasOnly before cs → HasOnly (before ++ d ∷ []) (with_constant cs d)
only_more before cs d only x n =
    let parts : (is_declared before x || bytes_eq d.name x) ≡ false = sym (declared_more before d x) ∙ n in
    none_stays cs d.name d.truth d.constant x (right_false (is_declared before x) (bytes_eq d.name x) parts) (only x (left_false (is_declared before x) (bytes_eq d.name x) parts))

pub new_name : (before : List Decl) (d : Decl) → heading_faults before d ≡ [] → is_declared before d.name ≡ false
unfolding heading_faults
new_name before d f = not_broken _ _ _ (none_after _ _ (none_first _ _ f))

-- the name of a declaration that is found is no later one's
later_at : (before : List Decl) (d : Decl) (x : Name) (b : Bool) → bytes_eq d.name x ≡ b → is_declared before x ≡ true → is_declared before d.name ≡ false → b ≡ false
later_at before d x true is h n = absurd (let same : d.name ≡ x = (bytes_eq-Decides d.name x).0 is in true≢false (sym h ∙ (ap (is_declared before) (sym same) ∙ n)))
later_at before d x false is h n = refl

still_declared : (before : List Decl) (d : Decl) (x : Name) → is_declared before x ≡ true → is_declared (before ++ d ∷ []) x ≡ true
still_declared before d x h = declared_more before d x ∙ ap (λ b. b || bytes_eq d.name x) h

pub not_later : (before : List Decl) (cs : List Constant) (ds : List Decl) (x : Name) → decls_faults before cs ds ≡ [] → is_declared before x ≡ true → is_declared ds x ≡ false
not_later before cs [] x f h = refl
not_later before cs (d ∷ ds) x f h =
    both_false (bytes_eq d.name x) (is_declared ds x)
    (later_at before d x (bytes_eq d.name x) refl h (new_name before d (none_first _ _ (none_first _ _ (none_first _ _ (none_first _ _ f))))))
    (not_later (before ++ d ∷ []) (with_constant cs d) ds x (none_after _ _ f) (still_declared before d x h))

-- ---- the value of a constant

pub value_at : (line : ℕ) (c : Constancy) → constant_faults line c ≡ [] → (z : ℤ) × (c ≡ Value z)
unfolding constant_faults
value_at line (Value z) f = (z, refl)
value_at line NoValue f = impossible line kind.OverLimit (none_after _ _ f)
value_at line NotConstant f = impossible line kind.Unsupported (none_first _ _ f)

row_value : (cs : List Constant) (d : Name) (e : Expr) (x : Name) (z : ℤ) → bytes_eq d x ≡ true → constancy cs e ≡ Value z → constant_of (constant_row cs d e ∷ []) x ≡ Value z
row_value cs d e x z is h = ap (λ b. if b then known (value_of (constancy cs e)) else NotConstant) is ∙ ap (λ c. known (value_of c)) h

pub new_value : (cs : List Constant) (line : ℕ) (d : Name) (e : Expr) (x : Name) → bytes_eq d x ≡ true → constant_of cs x ≡ NotConstant → constant_faults line (constancy cs e) ≡ [] → (z : ℤ) × (constant_of (cs ++ constant_row cs d e ∷ []) x ≡ Value z)
new_value cs line d e x is none f = let value = value_at line (constancy cs e) f in (value.0, constant_after cs (constant_row cs d e ∷ []) x none ∙ row_value cs d e x value.0 is value.1)
