-- Constant expressions on the way up.
use Rattle.std.proofs.Common.{◌≡◌, refl, sym, ap, ◌∙◌, subst, ℕ, ◌+◌, ◌++◌, Bool, true, false, nat_lt, if◌then◌else◌, Some, None, ℤ, pos}
use Rattle.ws_base.specs.declared.op.UnOp.{UnOp}
use Rattle.ws_base.specs.declared.op.BinOp.{BinOp}
use Rattle.ws_tree.specs.declared.expr.Expr.{Expr}
use Rattle.ws_tree.specs.declared.expr.Expr.TheVariants.{Number, TooWide, TooDeep, Truth, Named, Part', Call', Vector'}
use Rattle.ws_tree.specs.Trees.{paren, unary, binary}
use Rattle.ws_types.specs.declared.constant.Constancy.{Constancy}
use Rattle.ws_types.specs.declared.constant.Constancy.TheVariants.{Value, NoValue, NotConstant}
use Rattle.ws_types.specs.Expressions.{number_limit}
use Rattle.ws_types.specs.Constants as constants
use Rattle.ws_types.specs.Constants.{constancy, value_of}
use Rattle.hlfir_ops.specs.declared.kinds.Elem.TheVariants.{I32}
use Rattle.hlfir_ops.specs.Numbers.{numbers_of}
use Rattle.hlfir_ops.specs.Built.{Built, taken}
use Rattle.lower_values.specs.declared.names.Names.{Names}
use Rattle.lower_values.specs.declared.operand.Operand.{Operand}
use Rattle.lower_values.specs.declared.folding.Reached.{Reached}
use Rattle.lower_values.specs.declared.folding.Reached.TheVariants.{Known, Given}
use Rattle.lower_values.specs.Scopes.{Scope, scope_at}
use Rattle.lower_values.specs.Lowerings.{Lowered, Lowering, done, ◌>>=◌, scoped, Appends}
use Rattle.lower_values.specs.Operations.{constant}
use Rattle.lower_values.specs.Values.{constant_or, folded, value}
use Rattle.lower_values.specs.Folding.{known, rest_of, signed, joined, Reaches}
use Rattle.lower_values.proofs.Appended.{grown-none, appends-as, appends-by, appends-next, done-next}

-- ---- constancies

value_of-some : (c : Constancy) (z : ℤ) → value_of c ≡ Some z → c ≡ Value z
value_of-some (Value y) z h = ap Value (let e : y ≡ z = cc in e)
value_of-some NoValue z h = absurd cc
value_of-some NotConstant z h = absurd cc

constant_or-none : (c : Constancy) (p : Lowering Operand) → value_of c ≡ None → constant_or c p ≡ p
constant_or-none (Value y) p h = absurd cc
constant_or-none NoValue p h = refl
constant_or-none NotConstant p h = refl

pub signed-none : (op : UnOp) (c : Constancy) → value_of c ≡ None → value_of (signed op c) ≡ None
signed-none op c h = chosen (constants.is_sign op) (constants.signed op c) (within op c h) where
  within : (op : UnOp) (c : Constancy) → value_of c ≡ None → value_of (constants.signed op c) ≡ None
  within op (Value y) h = absurd cc
  within op NoValue h = refl
  within op NotConstant h = refl

  chosen : (b : Bool) (d : Constancy) → value_of d ≡ None → value_of (if b then d else NotConstant) ≡ None
  chosen true d h = h
  chosen false d h = refl

pub joined-none : (op : BinOp) (d c : Constancy) → value_of c ≡ None → value_of (joined op c d) ≡ None
joined-none op d c h = chosen (constants.is_arithmetic op) (constants.joined op c d) (within c d h) where
  within : (c d : Constancy) → value_of c ≡ None → value_of (constants.joined op c d) ≡ None
  within (Value y) d h = absurd cc
  within NoValue (Value y) h = refl
  within NoValue NoValue h = refl
  within NoValue NotConstant h = refl
  within NotConstant d h = refl

  chosen : (b : Bool) (d : Constancy) → value_of d ≡ None → value_of (if b then d else NotConstant) ≡ None
  chosen true d h = h
  chosen false d h = refl

pub joined-arithmetic : (op : BinOp) (c d : Constancy) → constants.is_arithmetic op ≡ true → joined op c d ≡ constants.joined op c d
joined-arithmetic op c d h = let F : Bool → Constancy = λ b. if b then constants.joined op c d else NotConstant in ap F h

-- ---- a constant expression with a value is one constant, and any other expression what its form becomes

folded-known : (e : Expr) (p : Lowering Operand) (s : Scope) (n : ℕ) (z : ℤ) → constancy s.names.constants e ≡ Value z → folded e p s n ≡ constant I32 z s n
unfolding folded scoped
folded-known e p s n z h = ap (λ c. constant_or c p s n) h

pub folded-none : (e : Expr) (p : Lowering Operand) (s : Scope) (n : ℕ) → value_of (constancy s.names.constants e) ≡ None → folded e p s n ≡ p s n
unfolding folded scoped
folded-none e p s n h = ap (λ q. q s n) (constant_or-none (constancy s.names.constants e) p h)

number-value : (b : Bool) (n : ℕ) (z : ℤ) → (if b then NoValue else Value (pos n)) ≡ Value z → pos n ≡ z
number-value true n z h = absurd cc
number-value false n z h = cc

value-known : (e : Expr) (s : Scope) (n : ℕ) (z : ℤ) → constancy s.names.constants e ≡ Value z → value e s n ≡ constant I32 z s n
value-known (Number m) s n z h = ap (λ y. constant I32 y s n) (number-value (nat_lt number_limit m) m z h)
value-known TooWide s n z h = absurd cc
value-known TooDeep s n z h = absurd cc
value-known (Truth b) s n z h = absurd cc
value-known (Named x) s n z h = folded-known (Named x) _ s n z h
value-known (Part' x h subs) s n z e = absurd cc
value-known (Call' w h es) s n z e = absurd cc
value-known (Vector' h es) s n z e = absurd cc
value-known (paren e) s n z h = folded-known (paren e) _ s n z h
value-known (unary op e) s n z h = folded-known (unary op e) _ s n z h
value-known (binary op a b) s n z h = folded-known (binary op a b) _ s n z h

-- ---- what is left to append

pub after-done : {A : Type 0} (names : Names) (p : Lowering A) (x y : A) {old mid new : Built} → Appends names p old mid x → Appends names (done x) mid new y → Appends names p old new y
unfolding done
after-done names p x y {old} {mid} {new} first second = record { ops = second.ops ∙ (grown-none mid ∙ first.ops); made = second.made ∙ first.made }

pub before-done : {A B : Type 0} (names : Names) (x : A) (q : A → Lowering B) {old new : Built} {y : B} → Appends names (q x) old new y → Appends names (done x >>= q) old new y
before-done names x q {old} {new} {y} h = appends-as names (q x) (done x >>= q) old new y (sym (done-next x q (scope_at names old.around) (taken old))) h

without-done : {A B : Type 0} (names : Names) (x : A) (q : A → Lowering B) {old new : Built} {y : B} → Appends names (done x >>= q) old new y → Appends names (q x) old new y
without-done names x q {old} {new} {y} h = appends-as names (done x >>= q) (q x) old new y (done-next x q (scope_at names old.around) (taken old)) h

next-same : {A B : Type 0} (p q : Lowering A) (f : A → Lowering B) (s : Scope) (n : ℕ) → p s n ≡ q s n → (p >>= f) s n ≡ (q >>= f) s n
unfolding ◌>>=◌
next-same {A} {B} p q f s n same =
    let G : Lowered A → Lowered B = λ a. let b = f a.made s (n + numbers_of a.ops) in record { ops = a.ops ++ b.ops; made = b.made } in ap G same

pub reaches-by : (names : Names) {c d : Constancy} {p q : Lowering Operand} (old new : Built) (r : Reached) → c ≡ d → p ≡ q → Reaches names c p old new r → Reaches names d q old new r
reaches-by names {c} {d} {p} {q} old new (Known z) same spelled h = (sym (ap value_of same) ∙ h.0, h.1)
reaches-by names {c} {d} {p} {q} old new (Given x) same spelled h = (sym (ap value_of same) ∙ h.0, appends-by spelled refl h.1)

-- the walk is finished
pub reaches-finish : (names : Names) (e : Expr) (old mid : Built) (r : Reached) {new : Built} {x : Operand} → Reaches names (constancy names.constants e) (value e) old mid r → Appends names (rest_of r) mid new x → Appends names (value e) old new x
reaches-finish names e old mid (Known z) {new} {x} h rest =
    let P : Built → Type 0 = λ b. Appends names (constant I32 z) b new x in
    appends-as names (constant I32 z) (value e) old new x (sym (value-known e (scope_at names old.around) (taken old) z (value_of-some (constancy names.constants e) z h.0))) (subst P h.1 rest)
reaches-finish names e old mid (Given y) h rest = after-done names (value e) y _ h.1 rest

-- what has the form of an operation on the value of e, after the walk over e
pub reaches-on : (names : Names) (e whole : Expr) (on : Constancy → Constancy) (f : Operand → Lowering Operand) (old mid new : Built) (x r : Reached) →
    ((c : Constancy) → value_of c ≡ None → value_of (on c) ≡ None) → constancy names.constants whole ≡ on (constancy names.constants e) → value whole ≡ folded whole (value e >>= f) →
    Reaches names (constancy names.constants e) (value e) old mid x → Reaches names (on (known x)) (rest_of x >>= f) mid new r → Reaches names (constancy names.constants whole) (value whole) old new r
reaches-on names e whole on f old mid new (Known z) (Known w) none same form h g =
    let is = value_of-some (constancy names.constants e) z h.0 in
    (ap value_of (same ∙ ap on is) ∙ g.0, g.1 ∙ h.1)
reaches-on names e whole on f old mid new (Known z) (Given y) none same form h g =
    let s = scope_at names old.around in
    let n = taken old in
    let is = value_of-some (constancy names.constants e) z h.0 in
    let no : value_of (constancy names.constants whole) ≡ None = ap value_of (same ∙ ap on is) ∙ g.0 in
    let P : Built → Type 0 = λ b. Appends names (constant I32 z >>= f) b new y in
    let whole_is : (constant I32 z >>= f) s n ≡ value whole s n =
    next-same (constant I32 z) (value e) f s n (sym (value-known e s n z is)) ∙ (sym (folded-none whole (value e >>= f) s n no) ∙ ap (λ p. p s n) (sym form)) in
    (no, appends-as names (constant I32 z >>= f) (value whole) old new y whole_is (subst P h.1 g.1))
reaches-on names e whole on f old mid new (Given u) (Known w) none same form h g = let no = none NotConstant refl in absurd cc
reaches-on names e whole on f old mid new (Given u) (Given y) none same form h g =
    let s = scope_at names old.around in
    let n = taken old in
    let no : value_of (constancy names.constants whole) ≡ None = ap value_of same ∙ none (constancy names.constants e) h.0 in (
      no,
      appends-as names (value e >>= f) (value whole) old new y (sym (folded-none whole (value e >>= f) s n no) ∙ ap (λ p. p s n) (sym form))
          (appends-next names (value e) f old mid new u y h.1 (without-done names u f g.1)),
    )
