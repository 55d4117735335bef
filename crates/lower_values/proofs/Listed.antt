-- The lowering of lists of expressions and subscripts, item by item.
use Rattle.std.proofs.Common.{◌≡◌, refl, ap, ℕ, suc, List, [], ◌∷◌, Option, Some}
use Rattle.ws_tree.specs.declared.expr.Expr.{Expr}
use Rattle.ws_tree.specs.declared.expr.Sub.{Sub}
use Rattle.ws_base.specs.declared.name.Name.{Name}
use Rattle.hlfir_ops.specs.declared.what.ValueBinary.{ValueBinary}
use Rattle.hlfir_ops.specs.Built.{Built}
use Rattle.lower_values.specs.declared.names.Names.{Names}
use Rattle.lower_values.specs.declared.operand.Operand.{Operand}
use Rattle.lower_values.specs.declared.operand.Subscript.{Subscript}
use Rattle.lower_values.specs.Lowerings.{done, ◌>>=◌, Appends}
use Rattle.lower_values.specs.Operations.{joined}
use Rattle.lower_values.specs.References.{or_nothing, reference, designated}
use Rattle.lower_values.specs.Values.{value, subscript, part_of}
use Rattle.lower_values.specs.Lists as lists
use Rattle.lower_values.proofs.Appended.{appends-by, appends-next, appends-map}

pub values-none : lists.values [] ≡ done []
unfolding lists.values
values-none = refl

pub values-more : (names : Names) (e : Expr) (es : List Expr) {old mid : Built} {x : Operand} → Appends names (value e) old mid x → (new : Built) (xs : List Operand) → Appends names (lists.values es) mid new xs → Appends names (lists.values (e ∷ es)) old new (x ∷ xs)
unfolding lists.values
values-more names e es {old} {mid} {x} first new xs rest =
    appends-next names (value e) (λ y. lists.values es >>= (λ ys. done (y ∷ ys))) old mid new x (x ∷ xs) first (appends-map names (lists.values es) (λ ys. x ∷ ys) mid new xs rest)

pub nested-none : (op : ValueBinary) (before : Option Operand) → lists.nested op before [] ≡ done (or_nothing before)
unfolding lists.nested
nested-none op before = refl

pub nested-more : (names : Names) (op : ValueBinary) (before : Option Operand) (e : Expr) (es : List Expr) {old mid last : Built} {y z : Operand} → Appends names (value e) old mid y → Appends names (joined op before y) mid last z →
    (new : Built) (x : Operand) → Appends names (lists.nested op (Some z) es) last new x → Appends names (lists.nested op before (e ∷ es)) old new x
unfolding lists.nested
nested-more names op before e es {old} {mid} {last} {y} {z} first second new x rest =
    appends-next names (value e) (λ u. joined op before u >>= (λ w. lists.nested op (Some w) es)) old mid new y x first (appends-next names (joined op before y) (λ w. lists.nested op (Some w) es) mid last new z x second rest)

pub subscripts-none : (r : Operand) (dim : ℕ) → lists.subscripts r dim [] ≡ done []
unfolding lists.subscripts
subscripts-none r dim = refl

pub subscripts-more : (names : Names) (r : Operand) (dim after : ℕ) (s : Sub) (ss : List Sub) {old mid : Built} {x : Subscript} → after ≡ suc dim → Appends names (subscript r dim s) old mid x → (new : Built) (xs : List Subscript) → Appends names (lists.subscripts r after ss) mid new xs →
    Appends names (lists.subscripts r dim (s ∷ ss)) old new (x ∷ xs)
unfolding lists.subscripts
subscripts-more names r dim after s ss {old} {mid} {x} next first new xs rest =
    appends-next names (subscript r dim s) (λ y. lists.subscripts r (suc dim) ss >>= (λ ys. done (y ∷ ys))) old mid new x (x ∷ xs) first
    (appends-map names (lists.subscripts r (suc dim) ss) (λ ys. x ∷ ys) mid new xs (appends-by (ap (λ d. lists.subscripts r d ss) next) refl rest))

pub part-all : (names : Names) (x : Name) (ss : List Sub) (r : Operand) (xs : List Subscript) {old mid last new : Built} {p : Operand} → Appends names (reference x) old mid r → Appends names (lists.subscripts r 1 ss) mid last xs → Appends names (designated r xs) last new p → Appends names (lists.part x ss) old new p
unfolding part_of
part-all names x ss r xs {old} {mid} {last} {new} {p} first second third =
    appends-next names (reference x) (λ a. lists.subscripts a 1 ss >>= designated a) old mid new r p first (appends-next names (lists.subscripts r 1 ss) (designated r) mid last new xs p second third)
