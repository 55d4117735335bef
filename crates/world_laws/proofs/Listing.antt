-- The three expressions of a DO or of an index are lowered as one list of values.
use Rattle.std.proofs.Common.{◌≡◌, refl, sym, ap, ◌∙◌, ℕ, ◌+◌, List, [], ◌∷◌, ◌++◌, map, Option, Some, None, append-nil}
use Rattle.ws_tree.specs.declared.expr.Expr.{Expr}
use Rattle.ws_tree.specs.declared.expr.Expr.TheVariants.{Number}
use Rattle.hlfir_ops.specs.declared.op.ValueId.{ValueId}
use Rattle.hlfir_ops.specs.Numbers.{numbers_of}
use Rattle.lower_values.specs.declared.operand.Operand.{Operand}
use Rattle.lower_values.specs.Scopes.{Scope}
use Rattle.lower_values.specs.Lowerings.{Lowered, Lowering, done, ◌>>=◌}
use Rattle.lower_values.specs.Values.{value}
use Rattle.lower_values.specs.Lists.{values, stride}
use Rattle.lower_constructs.specs.Modules.{triple}

abbrev pub number_of : Operand → ValueId
number_of x = x.value

-- what is left of a list of expressions after the first one
abbrev pub joined : Lowered Operand → Lowered (List Operand) → Lowered (List Operand)
joined a b = record { ops = a.ops ++ b.ops; made = a.made ∷ b.made }

pub values-cons : (e : Expr) (es : List Expr) (s : Scope) (n : ℕ) → values (e ∷ es) s n ≡ joined (value e s n) (values es s (n + numbers_of (value e s n).ops))
unfolding values done ◌>>=◌
values-cons e es s n =
    let a = value e s n in let b = values es s (n + numbers_of a.ops) in
    ap (λ l. let r : Lowered (List Operand) = record { ops = a.ops ++ l; made = a.made ∷ b.made } in r) (append-nil b.ops)

-- ---- the same values, as numbers

-- this lowering makes the values of these expressions
abbrev pub IsList : Lowering (List ValueId) → List Expr → Type 0
IsList p es = (s : Scope) (n : ℕ) → p s n ≡ record { ops = (values es s n).ops; made = map number_of (values es s n).made }

abbrev pub numbers : Lowered (List Operand) → Lowered (List ValueId)
numbers a = record { ops = a.ops; made = map number_of a.made }

-- an omitted stride is 1
abbrev pub stride_of : Option Expr → Expr
stride_of None = Number 1
stride_of (Some e) = e

abbrev pub triple_exprs : Expr → Expr → Option Expr → List Expr
triple_exprs l u s = l ∷ u ∷ stride_of s ∷ []

stride-value : (e : Option Expr) → stride e ≡ value (stride_of e)
stride-value None = refl
stride-value (Some e) = refl

pub three : (l u z : Expr) (s : Scope) (n : ℕ) → values (l ∷ u ∷ z ∷ []) s n ≡
    (let a = value l s n in let b = value u s (n + numbers_of a.ops) in let c = value z s ((n + numbers_of a.ops) + numbers_of b.ops) in
    record { ops = a.ops ++ (b.ops ++ (c.ops ++ [])); made = a.made ∷ b.made ∷ c.made ∷ [] })
unfolding values done
three l u z s n =
    let a = value l s n in let m = n + numbers_of a.ops in let b = value u s m in
    values-cons l (u ∷ z ∷ []) s n ∙ (ap (joined a) (values-cons u (z ∷ []) s m) ∙ ap (λ r. joined a (joined b r)) (values-cons z [] s (m + numbers_of b.ops)))

three_made : (l u : Expr) (st : Option Expr) (s : Scope) (n : ℕ) → triple l u st s n ≡
    (let a = value l s n in let b = value u s (n + numbers_of a.ops) in let c = stride st s ((n + numbers_of a.ops) + numbers_of b.ops) in
    record { ops = a.ops ++ (b.ops ++ (c.ops ++ [])); made = a.made.value ∷ b.made.value ∷ c.made.value ∷ [] })
unfolding triple done ◌>>=◌
three_made l u st s n = refl

pub triple-list : (l u : Expr) (st : Option Expr) → IsList (triple l u st) (triple_exprs l u st)
triple-list l u st s n =
    three_made l u st s n
    ∙ (ap (λ (z : Lowering Operand). let a = value l s n in let b = value u s (n + numbers_of a.ops) in let c = z s ((n + numbers_of a.ops) + numbers_of b.ops) in
    let r : Lowered (List ValueId) = record { ops = a.ops ++ (b.ops ++ (c.ops ++ [])); made = a.made.value ∷ b.made.value ∷ c.made.value ∷ [] } in r) (stride-value st)
    ∙ ap numbers (sym (three l u (stride_of st) s n)))
