-- The constants that the rules know, and those that the meaning knows, declaration after declaration.
use Rattle.std.proofs.Common.{◌≡◌, refl, sym, ap, ◌∙◌, Bool, true, false, ◌||◌, List, [], ◌∷◌, ◌++◌, Option, Some, None, ℤ, if◌then◌else◌, bytes_eq, true≢false}
use Rattle.std.proofs.lemmas.Slice.Eq.{bytes_eq-Decides}
use Rattle.ws_tree.specs.declared.expr.Expr.{Expr}
use Rattle.ws_tree.specs.declared.stmt.Decl.{Decl}
use Rattle.ws_types.specs.declared.constant.Constant as types
use Rattle.ws_types.specs.declared.constant.Constancy.{Constancy}
use Rattle.ws_types.specs.declared.constant.Constancy.TheVariants.{Value, NoValue, NotConstant}
use Rattle.ws_types.specs.Names.{Name}
use Rattle.ws_types.specs.Constants as found
use Rattle.ws_types.specs.Constants.{known, constancy, value_of}
use Rattle.ws_sema.specs.Declarations.{is_declared, constant_row, constants_from, with_constant}
use Rattle.array_meaning.specs.declared.world.Constant.{Constant}
use Rattle.array_meaning.specs.Stage1.{constant_of}
use Rattle.array_meaning.specs.Program.{staged_or, constant_value, declaring}
use Rattle.ws_sema.proofs.NoFaults.{left_false, right_false}
use Rattle.small_laws.proofs.Constancy.{IfValue, Agree, IsComputed, computed, scalar_is}

-- no constant has a name that was not declared
abbrev pub HasOnly : List Decl → List Constant → Type 0
HasOnly before ks = (x : Name) → is_declared before x ≡ false → constant_of ks x ≡ None

-- ---- one more constant

abbrev or_else : Option ℤ → Option ℤ → Option ℤ
or_else (Some z) o = Some z
or_else None o = o

abbrev or_found : Constancy → Constancy → Constancy
or_found NotConstant c = c
or_found c d = c

after_meaning : (b : Bool) (z : ℤ) (o p q : Option ℤ) → o ≡ or_else p q → (if b then Some z else o) ≡ or_else (if b then Some z else p) q
after_meaning true z o p q is = refl
after_meaning false z o p q is = is

constant_of-append : (ks more : List Constant) (x : Name) → constant_of (ks ++ more) x ≡ or_else (constant_of ks x) (constant_of more x)
constant_of-append [] more x = refl
constant_of-append (d ∷ ks) more x = after_meaning (bytes_eq d.name x) d.value (constant_of (ks ++ more) x) (constant_of ks x) (constant_of more x) (constant_of-append ks more x)

after_rules : (b : Bool) (o : Option ℤ) (c d e : Constancy) → c ≡ or_found d e → (if b then known o else c) ≡ or_found (if b then known o else d) e
after_rules true (Some z) c d e is = refl
after_rules true None c d e is = refl
after_rules false o c d e is = is

found-append : (cs more : List types.Constant) (x : Name) → found.constant_of (cs ++ more) x ≡ or_found (found.constant_of cs x) (found.constant_of more x)
found-append [] more x = refl
found-append (c ∷ cs) more x = after_rules (bytes_eq c.name x) c.value (found.constant_of (cs ++ more) x) (found.constant_of cs x) (found.constant_of more x) (found-append cs more x)

-- ---- a constant that the rules do not know, as a LOGICAL one

still_agrees : (c : Constancy) (o p : Option ℤ) → IfValue c (λ z. o ≡ Some z) → IfValue c (λ z. or_else o p ≡ Some z)
still_agrees (Value z) o p h = ap (λ q. or_else q p) h
still_agrees NoValue o p h = tt
still_agrees NotConstant o p h = tt

agree_beside : (cs : List types.Constant) (ks more : List Constant) → Agree cs ks → Agree cs (ks ++ more)
agree_beside cs ks more agree x = rw (constant_of-append ks more x) (still_agrees (found.constant_of cs x) (constant_of ks x) (constant_of more x) (agree x))

-- ---- a constant that both know

newly_agrees : (c d : Constancy) (o p : Option ℤ) → IfValue c (λ z. o ≡ Some z) → (c ≡ NotConstant → IfValue d (λ z. or_else o p ≡ Some z)) → IfValue (or_found c d) (λ z. or_else o p ≡ Some z)
newly_agrees (Value z) d o p h g = ap (λ q. or_else q p) h
newly_agrees NoValue d o p h g = tt
newly_agrees NotConstant d o p h g = g refl

row_agrees : (b : Bool) (c : Constancy) (v : ℤ) (o : Option ℤ) → IfValue c (λ z. v ≡ z) → (b ≡ true → o ≡ None) →
    IfValue (if b then known (value_of c) else NotConstant) (λ z. or_else o (if b then Some v else None) ≡ Some z)
row_agrees true (Value z) v o h g = rw (g refl) (ap Some h)
row_agrees true NoValue v o h g = tt
row_agrees true NotConstant v o h g = tt
row_agrees false c v o h g = tt

value_agrees : (cs : List types.Constant) (ks : List Constant) (e : Expr) (c : Constancy) → IfValue c (IsComputed ks e) → IfValue c (λ z. constant_value ks e ≡ z)
value_agrees cs ks e (Value z) h = ap (staged_or _) (scalar_is ks e z h)
value_agrees cs ks e NoValue h = tt
value_agrees cs ks e NotConstant h = tt

no_other : (before : List Decl) (ks : List Constant) (x y : Name) → HasOnly before ks → is_declared before x ≡ false → bytes_eq x y ≡ true → constant_of ks y ≡ None
no_other before ks x y only new is = let same : x ≡ y = (bytes_eq-Decides x y).0 is in ap (constant_of ks) (sym same) ∙ only x new

agree_more : (before : List Decl) (cs : List types.Constant) (ks : List Constant) (x : Name) (e : Expr) → Agree cs ks → HasOnly before ks → is_declared before x ≡ false →
    Agree (cs ++ constant_row cs x e ∷ []) (ks ++ record { name = x; value = constant_value ks e } ∷ [])
agree_more before cs ks x e agree only new y =
    rw (found-append cs (constant_row cs x e ∷ []) y, constant_of-append ks (record { name = x; value = constant_value ks e } ∷ []) y)
    (newly_agrees (found.constant_of cs y) _ (constant_of ks y) _ (agree y)
    (λ _. row_agrees (bytes_eq x y) (constancy cs e) (constant_value ks e) (constant_of ks y) (value_agrees cs ks e (constancy cs e) (computed cs ks agree e)) (λ is. no_other before ks x y only new is)))

agree_from : (before : List Decl) (cs : List types.Constant) (ks : List Constant) (d : Decl) (truth : Bool) (o : Option Expr) → Agree cs ks → HasOnly before ks → is_declared before d.name ≡ false →
    Agree (constants_from cs d.name truth o) (declaring o ks d).0
agree_from before cs ks d true None agree only new = agree
agree_from before cs ks d true (Some e) agree only new = agree_beside cs ks _ agree
agree_from before cs ks d false None agree only new = agree
agree_from before cs ks d false (Some e) agree only new = agree_more before cs ks d.name e agree only new

pub agree_after : (before : List Decl) (cs : List types.Constant) (ks : List Constant) (d : Decl) → Agree cs ks → HasOnly before ks → is_declared before d.name ≡ false → Agree (with_constant cs d) (declaring d.constant ks d).0
agree_after before cs ks d agree only new = agree_from before cs ks d d.truth d.constant agree only new

-- ---- names

declared_more : (before : List Decl) (d : Decl) (x : Name) → is_declared (before ++ d ∷ []) x ≡ false → (is_declared before x ≡ false) × (bytes_eq d.name x ≡ false)
declared_more [] d x h = (refl, left_false (bytes_eq d.name x) false h)
declared_more (b ∷ before) d x h =
    let rest = declared_more before d x (right_false (bytes_eq b.name x) (is_declared (before ++ d ∷ []) x) h) in
    (neither (bytes_eq b.name x) (is_declared before x) (left_false (bytes_eq b.name x) (is_declared (before ++ d ∷ []) x) h) rest.0, rest.1) where
      neither : (a c : Bool) → a ≡ false → c ≡ false → (a || c) ≡ false
      neither true c h k = absurd (true≢false h)
      neither false c h k = k

only_beside : (before : List Decl) (ks : List Constant) (d : Decl) (v : ℤ) → HasOnly before ks → HasOnly (before ++ d ∷ []) (ks ++ record { name = d.name; value = v } ∷ [])
only_beside before ks d v only x new =
    let parts = declared_more before d x new in
    let more : List Constant = record { name = d.name; value = v } ∷ [] in
    constant_of-append ks more x ∙ (ap (λ o. or_else o (constant_of more x)) (only x parts.0) ∙ ap (λ (b : Bool). if b then Some v else None) parts.1)

only_from : (before : List Decl) (ks : List Constant) (d : Decl) (o : Option Expr) → HasOnly before ks → HasOnly (before ++ d ∷ []) (declaring o ks d).0
only_from before ks d None only x new = only x (declared_more before d x new).0
only_from before ks d (Some e) only x new = only_beside before ks d (constant_value ks e) only x new

pub only_after : (before : List Decl) (ks : List Constant) (d : Decl) → HasOnly before ks → HasOnly (before ++ d ∷ []) (declaring d.constant ks d).0
only_after before ks d only = only_from before ks d d.constant only
