-- A constant expression keeps its value where more constants are known.
use Rattle.std.proofs.Common.{◌≡◌, refl, ap, ◌∙◌, Bool, true, false, List, ℤ, if◌then◌else◌}
use Rattle.ws_base.specs.declared.op.UnOp.{UnOp}
use Rattle.ws_base.specs.declared.op.BinOp.{BinOp}
use Rattle.ws_tree.specs.declared.expr.Expr.{Expr}
use Rattle.ws_tree.specs.declared.expr.Expr.TheVariants.{Number, TooWide, TooDeep, Truth, Named, Part', Call', Vector'}
use Rattle.ws_tree.specs.Trees.{paren, unary, binary}
use Rattle.ws_types.specs.declared.constant.Constant.{Constant}
use Rattle.ws_types.specs.declared.constant.Constancy.{Constancy}
use Rattle.ws_types.specs.declared.constant.Constancy.TheVariants.{Value, NoValue, NotConstant}
use Rattle.ws_types.specs.Names.{Name}
use Rattle.ws_types.specs.Constants.{constant_of, is_sign, is_arithmetic, signed, joined, constancy}

-- each value that these constants have is among those
abbrev pub Extends : List Constant → List Constant → Type 0
Extends cs more = (x : Name) (z : ℤ) → constant_of cs x ≡ Value z → constant_of more x ≡ Value z

abbrev StaysValue : Constancy → Constancy → Type 0
StaysValue c d = (z : ℤ) → c ≡ Value z → d ≡ Value z

sign_stays : (b : Bool) (op : UnOp) (c d : Constancy) → StaysValue c d → StaysValue (if b then signed op c else NotConstant) (if b then signed op d else NotConstant)
sign_stays true op (Value y) d f z h = ap (signed op) (f y refl) ∙ h
sign_stays true op NoValue d f z h = absurd (cc)
sign_stays true op NotConstant d f z h = absurd (cc)
sign_stays false op c d f z h = h

both_stay : (b : Bool) (op : BinOp) (a c d e : Constancy) → StaysValue a d → StaysValue c e → StaysValue (if b then joined op a c else NotConstant) (if b then joined op d e else NotConstant)
both_stay true op (Value x) (Value y) d e f g z h = ap (λ i. joined op i e) (f x refl) ∙ (ap (joined op (Value x)) (g y refl) ∙ h)
both_stay true op (Value x) NoValue d e f g z h = absurd (cc)
both_stay true op (Value x) NotConstant d e f g z h = absurd (cc)
both_stay true op NoValue (Value y) d e f g z h = absurd (cc)
both_stay true op NoValue NoValue d e f g z h = absurd (cc)
both_stay true op NoValue NotConstant d e f g z h = absurd (cc)
both_stay true op NotConstant (Value y) d e f g z h = absurd (cc)
both_stay true op NotConstant NoValue d e f g z h = absurd (cc)
both_stay true op NotConstant NotConstant d e f g z h = absurd (cc)
both_stay false op a c d e f g z h = h

pub constancy-extends : (cs more : List Constant) → Extends cs more → (e : Expr) → StaysValue (constancy cs e) (constancy more e)
constancy-extends cs more h (Number n) z is = is
constancy-extends cs more h TooWide z is = is
constancy-extends cs more h TooDeep z is = is
constancy-extends cs more h (Truth b) z is = is
constancy-extends cs more h (Named x) z is = h x z is
constancy-extends cs more h (Part' x c ss) z is = is
constancy-extends cs more h (Call' w c es) z is = is
constancy-extends cs more h (Vector' c es) z is = is
constancy-extends cs more h (paren e) z is = constancy-extends cs more h e z is
constancy-extends cs more h (unary op e) z is = sign_stays (is_sign op) op (constancy cs e) (constancy more e) (constancy-extends cs more h e) z is
constancy-extends cs more h (binary op a b) z is = both_stay (is_arithmetic op) op (constancy cs a) (constancy cs b) (constancy more a) (constancy more b) (constancy-extends cs more h a) (constancy-extends cs more h b) z is
