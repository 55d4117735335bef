-- The walks at each form of expression, over the lists that the code goes over.
use Rattle.ws_types.specs.Kinds.{least_from}
use Rattle.std.proofs.Common.{◌≡◌, refl, ap, sym, ℕ, suc, Bool, List, [], ◌∷◌, ◌++◌, length, Option, ◌∙◌}
use Rattle.ws_base.specs.declared.refusal.Refusal.{Refusal}
use Rattle.ws_base.specs.declared.op.CallWord.{CallWord}
use Rattle.ws_base.specs.declared.op.UnOp.{UnOp}
use Rattle.ws_base.specs.declared.op.BinOp.{BinOp}
use Rattle.ws_tree.specs.declared.expr.Expr.{Expr}
use Rattle.ws_tree.specs.declared.expr.Expr.TheVariants.{Part, Call, Vector, Unary, Binary}
use Rattle.ws_tree.specs.declared.expr.Expr.TheBlock.{hidden-the_row-Expr-1, hidden-the_row-Sub-0}
use Rattle.ws_tree.specs.declared.expr.Sub.{Sub}
use Rattle.ws_tree.specs.Opened.{trees_open}
use Rattle.ws_types.specs.declared.types.Typed.{Typed}
use Rattle.ws_types.specs.declared.types.Row.{Row}
use Rattle.ws_types.specs.declared.types.Arguments.{Arguments}
use Rattle.ws_types.specs.declared.types.Subscripts.{Subscripts}
use Rattle.ws_types.specs.Operations.{unary_faults, binary_faults, no_subscripts, no_arguments, part_type, part_faults, vector_type, vector_faults, with_argument}
use Rattle.ws_types.specs.Expressions as one
use Rattle.ws_types.specs.Lists as lists
use Rattle.ws_types.proofs.Appended.{least-append, least-none}

arguments_list : (t : List Row) (inside : Bool) (a : Arguments) (es : List Expr) → one.arguments t inside a (hidden-the_row-Expr-1 es) ≡ lists.arguments t inside a es
unfolding trees_open
arguments_list t inside a [] = refl
arguments_list t inside a (e ∷ es) = arguments_list t inside (with_argument a (one.typed t inside e)) es

all_faults_list : (t : List Row) (inside : Bool) (line : ℕ) (es : List Expr) → one.all_faults t inside line (hidden-the_row-Expr-1 es) ≡ lists.all_faults t inside line es
unfolding trees_open
all_faults_list t inside line [] = refl
all_faults_list t inside line (e ∷ es) = ap (λ r. one.faults t inside line e ++ r) (all_faults_list t inside line es)

pub subscripts_list : (t : List Row) (inside : Bool) (s : Subscripts) (ss : List Sub) → one.subscripts t inside s (hidden-the_row-Sub-0 ss) ≡ lists.subscripts t inside s ss
unfolding trees_open
subscripts_list t inside s [] = refl
subscripts_list t inside s (x ∷ xs) = subscripts_list t inside (one.with_sub t inside s x) xs

subs_faults_list : (t : List Row) (inside : Bool) (line : ℕ) (ss : List Sub) → one.subs_faults t inside line (hidden-the_row-Sub-0 ss) ≡ lists.subs_faults t inside line ss
unfolding trees_open
subs_faults_list t inside line [] = refl
subs_faults_list t inside line (x ∷ xs) = ap (λ r. one.sub_faults t inside line x ++ r) (subs_faults_list t inside line xs)

listed_list : (es : List Expr) → one.listed (hidden-the_row-Expr-1 es) ≡ es
unfolding trees_open
listed_list [] = refl
listed_list (e ∷ es) = ap (λ r. e ∷ r) (listed_list es)

how_many_list : (ss : List Sub) → one.how_many (hidden-the_row-Sub-0 ss) ≡ length ss
unfolding trees_open
how_many_list [] = refl
how_many_list (x ∷ xs) = ap suc (how_many_list xs)

-- ---- the walks at each form

pub typed_part : (t : List Row) (inside : Bool) (x : List ℕ) (ss : List Sub) → one.typed t inside (Part x ss) ≡ part_type (one.named_type t x) (length ss) (lists.subscripts t inside no_subscripts ss)
unfolding trees_open
typed_part t inside x ss = rw (how_many_list ss, subscripts_list t inside no_subscripts ss)

pub typed_call : (t : List Row) (inside : Bool) (w : CallWord) (es : List Expr) → one.typed t inside (Call w es) ≡ one.called_type t inside w es (lists.arguments t inside no_arguments es)
unfolding trees_open
typed_call t inside w es = rw (listed_list es, arguments_list t inside no_arguments es)

pub typed_vector : (t : List Row) (inside : Bool) (es : List Expr) → one.typed t inside (Vector es) ≡ vector_type inside (length es) (lists.arguments t inside no_arguments es)
unfolding trees_open
typed_vector t inside es = rw (listed_list es, arguments_list t inside no_arguments es)

pub faults_part : (t : List Row) (inside : Bool) (line : ℕ) (x : List ℕ) (ss : List Sub) → one.faults t inside line (Part x ss) ≡ one.named_faults t line x ++ lists.subs_faults t inside line ss ++ part_faults line (one.named_type t x) (length ss)
unfolding trees_open
faults_part t inside line x ss = rw (how_many_list ss, subs_faults_list t inside line ss)

pub faults_call : (t : List Row) (inside : Bool) (line : ℕ) (w : CallWord) (es : List Expr) → one.faults t inside line (Call w es) ≡ one.called_faults t inside line w es (lists.all_faults t inside line es) (lists.arguments t inside no_arguments es)
unfolding trees_open
faults_call t inside line w es = rw (listed_list es, all_faults_list t inside line es, arguments_list t inside no_arguments es)

pub faults_vector : (t : List Row) (inside : Bool) (line : ℕ) (es : List Expr) → one.faults t inside line (Vector es) ≡ lists.all_faults t inside line es ++ vector_faults line inside (length es) (lists.arguments t inside no_arguments es)
unfolding trees_open
faults_vector t inside line es = rw (listed_list es, all_faults_list t inside line es, arguments_list t inside no_arguments es)

pub faults_unary : (t : List Row) (inside : Bool) (line : ℕ) (op : UnOp) (e : Expr) → one.faults t inside line (Unary op e) ≡ one.faults t inside line e ++ unary_faults line op (one.typed t inside e)
unfolding trees_open
faults_unary t inside line op e = refl

pub faults_binary : (t : List Row) (inside : Bool) (line : ℕ) (op : BinOp) (a b : Expr) → one.faults t inside line (Binary op a b) ≡ one.faults t inside line a ++ one.faults t inside line b ++ binary_faults line op (one.typed t inside a) (one.typed t inside b)
unfolding trees_open
faults_binary t inside line op a b = refl

pub ruleset walk_rules = (least-append, least-none, typed_part, typed_call, typed_vector, faults_part, faults_call, faults_vector)

pub ruleset subscripts_rules = (subscripts_list)

-- ---- what the code notes at each form

pub part_value : (t : List Row) (inside : Bool) (whole : Expr) (x : List ℕ) (ss ss' : List Sub) (a r : Option Typed) (n : ℕ) (s : Subscripts) →
    whole ≡ Part x ss → ss' ≡ ss → a ≡ one.named_type t x → n ≡ length ss → s ≡ lists.subscripts t inside no_subscripts ss' → r ≡ part_type a n s → r ≡ one.typed t inside whole
part_value t inside whole x ss ss' a r n s is same at count subs value =
    value
    ∙ ap (λ y. part_type y n s) at
    ∙ ap (λ k. part_type (one.named_type t x) k s) count
    ∙ ap (λ y. part_type (one.named_type t x) (length ss) y) (subs ∙ ap (lists.subscripts t inside no_subscripts) same)
    ∙ sym (typed_part t inside x ss)
    ∙ ap (one.typed t inside) (sym is)

pub part_noted : (t : List Row) (inside : Bool) (line : ℕ) (whole : Expr) (x : List ℕ) (ss ss' : List Sub) (a : Option Typed) (n : ℕ) (f0 f1 f2 f3 : Option Refusal) →
    whole ≡ Part x ss → ss' ≡ ss → a ≡ one.named_type t x → n ≡ length ss →
    f1 ≡ least_from f0 (one.named_faults t line x) → f2 ≡ least_from f1 (lists.subs_faults t inside line ss') → f3 ≡ least_from f2 (part_faults line a n) →
    f3 ≡ least_from f0 (one.faults t inside line whole)
part_noted t inside line whole x ss ss' a n f0 f1 f2 f3 is same at count e1 e2 e3 =
    e3
    ∙ ap (λ y. least_from f2 (part_faults line y n)) at
    ∙ ap (λ k. least_from f2 (part_faults line (one.named_type t x) k)) count
    ∙ ap (λ f. least_from f (part_faults line (one.named_type t x) (length ss))) (e2 ∙ ap (λ y. least_from f1 (lists.subs_faults t inside line y)) same ∙ ap (λ f. least_from f (lists.subs_faults t inside line ss)) e1)
    ∙ ap (λ f. least_from f (part_faults line (one.named_type t x) (length ss))) (sym (least-append f0 (one.named_faults t line x) (lists.subs_faults t inside line ss)))
    ∙ sym (least-append f0 (one.named_faults t line x ++ lists.subs_faults t inside line ss) (part_faults line (one.named_type t x) (length ss)))
    ∙ ap (least_from f0) (sym (faults_part t inside line x ss))
    ∙ ap (λ e. least_from f0 (one.faults t inside line e)) (sym is)

pub call_value : (t : List Row) (inside : Bool) (whole : Expr) (w : CallWord) (es es' : List Expr) (r : Option Typed) →
    whole ≡ Call w es → es' ≡ es → r ≡ one.called_type t inside w es' (lists.arguments t inside no_arguments es') → r ≡ one.typed t inside whole
call_value t inside whole w es es' r is same value =
    value ∙ ap (λ l. one.called_type t inside w l (lists.arguments t inside no_arguments l)) same ∙ sym (typed_call t inside w es) ∙ ap (one.typed t inside) (sym is)

pub call_noted : (t : List Row) (inside : Bool) (line : ℕ) (whole : Expr) (w : CallWord) (es es' : List Expr) (f0 f1 : Option Refusal) →
    whole ≡ Call w es → es' ≡ es → f1 ≡ least_from f0 (one.called_faults t inside line w es' (lists.all_faults t inside line es') (lists.arguments t inside no_arguments es')) → f1 ≡ least_from f0 (one.faults t inside line whole)
call_noted t inside line whole w es es' f0 f1 is same e1 =
    e1
    ∙ ap (λ l. least_from f0 (one.called_faults t inside line w l (lists.all_faults t inside line l) (lists.arguments t inside no_arguments l))) same
    ∙ ap (least_from f0) (sym (faults_call t inside line w es))
    ∙ ap (λ e. least_from f0 (one.faults t inside line e)) (sym is)

pub unary_noted : (t : List Row) (inside : Bool) (line : ℕ) (whole : Expr) (op : UnOp) (e e' : Expr) (x : Option Typed) (f0 f1 f2 : Option Refusal) →
    whole ≡ Unary op e → e' ≡ e → x ≡ one.typed t inside e' → f1 ≡ least_from f0 (one.faults t inside line e') → f2 ≡ least_from f1 (unary_faults line op x) →
    f2 ≡ least_from f0 (one.faults t inside line whole)
unary_noted t inside line whole op e e' x f0 f1 f2 is same value e1 e2 =
    e2
    ∙ ap (λ y. least_from f1 (unary_faults line op y)) (value ∙ ap (one.typed t inside) same)
    ∙ ap (λ f. least_from f (unary_faults line op (one.typed t inside e))) (e1 ∙ ap (λ y. least_from f0 (one.faults t inside line y)) same)
    ∙ sym (least-append f0 (one.faults t inside line e) (unary_faults line op (one.typed t inside e)))
    ∙ ap (least_from f0) (sym (faults_unary t inside line op e))
    ∙ ap (λ y. least_from f0 (one.faults t inside line y)) (sym is)

pub binary_noted : (t : List Row) (inside : Bool) (line : ℕ) (whole : Expr) (op : BinOp) (a b a' b' : Expr) (x y : Option Typed) (f0 f1 f2 f3 : Option Refusal) →
    whole ≡ Binary op a b → a' ≡ a → b' ≡ b → x ≡ one.typed t inside a' → y ≡ one.typed t inside b' →
    f1 ≡ least_from f0 (one.faults t inside line a') → f2 ≡ least_from f1 (one.faults t inside line b') → f3 ≡ least_from f2 (binary_faults line op x y) →
    f3 ≡ least_from f0 (one.faults t inside line whole)
binary_noted t inside line whole op a b a' b' x y f0 f1 f2 f3 is sa sb vx vy e1 e2 e3 =
    e3
    ∙ ap (λ z. least_from f2 (binary_faults line op z y)) (vx ∙ ap (one.typed t inside) sa)
    ∙ ap (λ z. least_from f2 (binary_faults line op (one.typed t inside a) z)) (vy ∙ ap (one.typed t inside) sb)
    ∙ ap (λ f. least_from f (binary_faults line op (one.typed t inside a) (one.typed t inside b)))
    (e2 ∙ ap (λ z. least_from f1 (one.faults t inside line z)) sb ∙ ap (λ f. least_from f (one.faults t inside line b)) (e1 ∙ ap (λ z. least_from f0 (one.faults t inside line z)) sa)
    ∙ sym (least-append f0 (one.faults t inside line a) (one.faults t inside line b)))
    ∙ sym (least-append f0 (one.faults t inside line a ++ one.faults t inside line b) (binary_faults line op (one.typed t inside a) (one.typed t inside b)))
    ∙ ap (least_from f0) (sym (faults_binary t inside line op a b))
    ∙ ap (λ z. least_from f0 (one.faults t inside line z)) (sym is)
