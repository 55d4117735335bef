-- The bounds of ALLOCATE are lowered as one list of values.
use Rattle.std.proofs.Common.{◌≡◌, refl, sym, ap, ◌∙◌, ℕ, ◌+◌, List, [], ◌∷◌, ◌++◌, map, append_assoc, append-nil, arith}
use Rattle.std.proofs.lemmas.List.{map-append}
use Rattle.ws_tree.specs.declared.expr.Expr.{Expr}
use Rattle.ws_tree.specs.declared.expr.Expr.TheVariants.{Number}
use Rattle.ws_tree.specs.declared.stmt.Bound.{Bound}
use Rattle.ws_tree.specs.declared.stmt.Bound.TheVariants as bound
use Rattle.hlfir_ops.specs.declared.op.ValueId.{ValueId}
use Rattle.hlfir_ops.specs.Numbers.{numbers_of}
use Rattle.hlfir_ops.proofs.Numbered.{numbers_of-append}
use Rattle.lower_values.specs.declared.operand.Operand.{Operand}
use Rattle.lower_values.specs.Scopes.{Scope}
use Rattle.lower_values.specs.Lowerings.{Lowered, done, ◌>>=◌}
use Rattle.lower_values.specs.Values.{value}
use Rattle.lower_values.specs.Lists.{values}
use Rattle.lower_assign.specs.Statements.{bounds_of, all_bounds}
use Rattle.world_laws.proofs.Listing.{number_of, joined, values-cons, IsList, numbers}

-- The lower bound of `u` is 1.
abbrev pub bound_exprs : Bound → List Expr
bound_exprs (bound.Upper u) = Number 1 ∷ u ∷ []
bound_exprs (bound.Both l u) = l ∷ u ∷ []
bound_exprs bound.Deferred = []

abbrev pub bounds_exprs : List Bound → List Expr
bounds_exprs [] = []
bounds_exprs (b ∷ bs) = bound_exprs b ++ bounds_exprs bs

two : (l u : Expr) (s : Scope) (n : ℕ) → values (l ∷ u ∷ []) s n ≡
    (let a = value l s n in let b = value u s (n + numbers_of a.ops) in record { ops = a.ops ++ (b.ops ++ []); made = a.made ∷ b.made ∷ [] })
unfolding values done
two l u s n = let a = value l s n in let m = n + numbers_of a.ops in values-cons l (u ∷ []) s n ∙ ap (joined a) (values-cons u [] s m)

bound-list : (b : Bound) → IsList (bounds_of b) (bound_exprs b)
unfolding bounds_of done ◌>>=◌ values
bound-list (bound.Upper u) s n = ap numbers (sym (two (Number 1) u s n))
bound-list (bound.Both l u) s n = ap numbers (sym (two l u s n))
bound-list bound.Deferred s n = refl

-- and then the values of these, from the number after those that were made
abbrev going_on : List Expr → Scope → ℕ → Lowered (List Operand) → Lowered (List Operand)
going_on fs s n a = let b = values fs s (n + numbers_of a.ops) in record { ops = a.ops ++ b.ops; made = a.made ++ b.made }

moved : (fs : List Expr) (s : Scope) (n : ℕ) (a : Lowered Operand) (es : Lowered (List Operand)) → joined a (going_on fs s (n + numbers_of a.ops) es) ≡ going_on fs s n (joined a es)
moved fs s n a es =
    ap (λ k. let b = values fs s k in let r : Lowered (List Operand) = record { ops = a.ops ++ (es.ops ++ b.ops); made = a.made ∷ (es.made ++ b.made) } in r) (omega (arith, numbers_of-append a.ops es.ops))
    ∙ (let b = values fs s (n + numbers_of (a.ops ++ es.ops)) in
    ap (λ l. let r : Lowered (List Operand) = record { ops = l; made = a.made ∷ (es.made ++ b.made) } in r) (sym (append_assoc a.ops es.ops b.ops)))

values-none : (fs : List Expr) (s : Scope) (n : ℕ) → values fs s n ≡ going_on fs s n (values [] s n)
unfolding values done
values-none fs s n = ap (values fs s) (omega arith)

values-append : (es fs : List Expr) (s : Scope) (n : ℕ) → values (es ++ fs) s n ≡ going_on fs s n (values es s n)
values-append [] fs s n = values-none fs s n
values-append (e ∷ es) fs s n =
    let a = value e s n in let m = n + numbers_of a.ops in
    values-cons e (es ++ fs) s n ∙ (ap (joined a) (values-append es fs s m) ∙ (moved fs s n a (values es s m) ∙ ap (going_on fs s n) (sym (values-cons e es s n))))

all_bounds-cons : (b : Bound) (bs : List Bound) (s : Scope) (n : ℕ) → all_bounds (b ∷ bs) s n ≡
    (let a = bounds_of b s n in let c = all_bounds bs s (n + numbers_of a.ops) in record { ops = a.ops ++ (c.ops ++ []); made = a.made ++ c.made })
unfolding all_bounds done ◌>>=◌
all_bounds-cons b bs s n = refl

all_bounds-none : IsList (all_bounds []) []
unfolding all_bounds done values
all_bounds-none s n = refl

abbrev bounds_on : List Bound → Scope → ℕ → Lowered (List ValueId) → Lowered (List ValueId)
bounds_on bs s n a = let c = all_bounds bs s (n + numbers_of a.ops) in record { ops = a.ops ++ c.ops; made = a.made ++ c.made }

pub bounds-list : (bs : List Bound) → IsList (all_bounds bs) (bounds_exprs bs)
bounds-list [] s n = all_bounds-none s n
bounds-list (b ∷ bs) s n =
    let a = values (bound_exprs b) s n in
    let m = n + numbers_of a.ops in
    let c = values (bounds_exprs bs) s m in
    let first = bounds_of b s n in
    let rest = all_bounds bs s (n + numbers_of first.ops) in
    all_bounds-cons b bs s n
    ∙ (ap (λ l. let r : Lowered (List ValueId) = record { ops = first.ops ++ l; made = first.made ++ rest.made } in r) (append-nil rest.ops)
    ∙ (ap (bounds_on bs s n) (bound-list b s n)
    ∙ (ap (λ d. let r : Lowered (List ValueId) = record { ops = a.ops ++ d.ops; made = map number_of a.made ++ d.made } in r) (bounds-list bs s m)
    ∙ (ap (λ l. let r : Lowered (List ValueId) = record { ops = a.ops ++ c.ops; made = l } in r) (sym (map-append number_of a.made c.made))
    ∙ ap numbers (sym (values-append (bound_exprs b) (bounds_exprs bs) s n))))))
