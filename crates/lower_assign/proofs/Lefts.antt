-- Left sides at each form, over the lists that the code goes over, and what is yielded.
use Rattle.std.proofs.Common.{◌≡◌, refl, sym, ap, subst, ℕ, Bool, ◌⊎◌, inl, inr, List, [], ◌∷◌}
use Rattle.ws_base.specs.declared.name.Name.{Name}
use Rattle.ws_base.specs.declared.op.CallWord.{CallWord}
use Rattle.ws_base.specs.declared.op.UnOp.{UnOp}
use Rattle.ws_base.specs.declared.op.BinOp.{BinOp}
use Rattle.ws_tree.specs.declared.expr.Expr.{Expr}
use Rattle.ws_tree.specs.declared.expr.Expr.TheVariants.{Number, TooWide, TooDeep, Truth, Part, Call, Vector, Paren, Unary, Binary}
use Rattle.ws_tree.specs.declared.expr.Sub.{Sub}
use Rattle.ws_tree.specs.Opened.{trees_open}
use Rattle.hlfir_ops.specs.declared.what.What.TheVariants.{Yield}
use Rattle.hlfir_ops.specs.Built.{Built, taken, masked_around}
use Rattle.lower_values.specs.declared.names.Names.{Names}
use Rattle.lower_values.specs.declared.operand.Operand.{Operand}
use Rattle.lower_values.specs.Scopes.{scope_at}
use Rattle.lower_values.specs.Lowerings.{Lowering, done, ◌>>=◌, scoped, acting, Appends}
use Rattle.lower_values.specs.References.{nothing}
use Rattle.lower_values.specs.Lists as lists
use Rattle.lower_values.proofs.Appended.{appends-by, appends-as, appends-done, appends-next, appends-map}
use Rattle.lower_values.proofs.Forms.{part-list}
use Rattle.lower_assign.specs.Statements.{yielded, number_of, left_of, left}

pub left_of-part : (by_box : Bool) (x : Name) (ss : List Sub) → left_of by_box (Part x ss) ≡ lists.part x ss
unfolding trees_open
left_of-part by_box x ss = part-list x ss

-- whatever is no designator, as the code tells the forms apart
abbrev IsOther : Expr → Type 0
IsOther e =
    ((n : ℕ) × (e ≡ Number n)) ⊎
    ((e ≡ TooWide) ⊎
    ((e ≡ TooDeep) ⊎
    (((b : Bool) × (e ≡ Truth b)) ⊎
    (((w : CallWord) × (es : List Expr) × (e ≡ Call w es)) ⊎
    (((es : List Expr) × (e ≡ Vector es)) ⊎ (((a : Expr) × (e ≡ Paren a)) ⊎ (((op : UnOp) × (a : Expr) × (e ≡ Unary op a)) ⊎ ((op : BinOp) × (a : Expr) × (b : Expr) × (e ≡ Binary op a b)))))))))

left_of-other : (by_box : Bool) {e : Expr} → IsOther e → left_of by_box e ≡ done nothing
unfolding trees_open
left_of-other b (inl (n, is)) = ap (left_of b) is
left_of-other b (inr (inl is)) = ap (left_of b) is
left_of-other b (inr (inr (inl is))) = ap (left_of b) is
left_of-other b (inr (inr (inr (inl (t, is))))) = ap (left_of b) is
left_of-other b (inr (inr (inr (inr (inl (w, es, is)))))) = ap (left_of b) is
left_of-other b (inr (inr (inr (inr (inr (inl (es, is))))))) = ap (left_of b) is
left_of-other b (inr (inr (inr (inr (inr (inr (inl (a, is)))))))) = ap (left_of b) is
left_of-other b (inr (inr (inr (inr (inr (inr (inr (inl (op, a, is))))))))) = ap (left_of b) is
left_of-other b (inr (inr (inr (inr (inr (inr (inr (inr (op, a, c, is))))))))) = ap (left_of b) is

pub appends-other : (names : Names) (by_box : Bool) {e : Expr} (build : Built) → IsOther e → Appends names (left_of by_box e) build build nothing
appends-other names by_box build other = appends-by (sym (left_of-other by_box other)) refl (appends-done names build nothing)

-- ---- yields

pub yields : {names : Names} (p : Lowering Operand) {old mid new : Built} {x : Operand} → Appends names p old mid x → Appends names (acting Yield (x.value ∷ [])) mid new tt → Appends names (yielded p) old new tt
yields {names} p {old} {mid} {new} {x} first second = appends-next names p (λ x. acting Yield (x.value ∷ [])) old mid new x tt first second

-- Whether a WHERE is around says whether a whole allocatable is its box.
pub yields-left : {names : Names} (e : Expr) {by_box : Bool} {old new : Built} → by_box ≡ masked_around old.around → Appends names (yielded (left_of by_box e)) old new tt → Appends names (yielded (left e)) old new tt
unfolding left scoped ◌>>=◌
yields-left {names} e {by_box} {old} {new} is h =
    appends-as names (yielded (left_of by_box e)) (yielded (left e)) old new tt (ap (λ b. yielded (left_of b e) (scope_at names old.around) (taken old)) is) h

-- ---- the number of what is lowered

pub numbered : {names all : Names} (p : Lowering Operand) {old new : Built} {x : Operand} → names ≡ all → Appends names p old new x → Appends all (number_of p) old new x.value
numbered {names} p {old} {new} {x} is h =
    let P : Names → Type 0 = λ ns. Appends ns (number_of p) old new x.value in subst P is (appends-map names p (λ y. y.value) old new x h)
