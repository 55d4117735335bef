-- How much a statement holds: the statements in it weigh less.
use Rattle.std.proofs.Common.{◌≡◌, refl, sym, ap, ◌∙◌, ℕ, zero, suc, ◌+◌, ◌*◌, ◌<◌, ◌≤◌, List, [], ◌∷◌, length, get_or, Option, arith}
use Rattle.ws_base.specs.declared.name.Name.{Name}
use Rattle.ws_tree.specs.declared.expr.Expr.{Expr}
use Rattle.ws_tree.specs.declared.stmt.Index.{Index}
use Rattle.ws_tree.specs.declared.stmt.Stmt.{Stmt}
use Rattle.ws_tree.specs.declared.stmt.Else.{Else, Else'}
use Rattle.ws_tree.specs.declared.stmt.Body.{Body}
use Rattle.ws_tree.specs.declared.stmt.Body.TheVariants.{Masked, Forall, Loop, Shared, Masked', Forall', Loop', Shared'}
use Rattle.ws_tree.specs.declared.stmt.Body.TheBlock.{hidden-the_row-Stmt-0, hidden-the_row-Else-1}
use Rattle.ws_tree.specs.declared.stmt.Body.TheViews.{roll-Else, out-Else, roll-out-Else}
use Rattle.ws_tree.specs.Trees.{Stmts, end_stmts, more_stmts, Elses, end_elses, more_elses}
use Rattle.ws_tree.specs.Opened.{trees_open}

abbrev mutual
  pub weight : Body → ℕ
  weight (Masked' mask _ block _ rest) = suc (row_weight block + elses_row rest)
  weight (Forall' is mask _ block) = suc (row_weight block)
  weight (Loop' x l u s _ block) = suc (row_weight block)
  weight (Shared' _ block) = suc (row_weight block)
  weight _ = 0

  row_weight : {m : _} → Stmts m → ℕ
  row_weight end_stmts = 0
  row_weight (more_stmts line body rest) = weight body + row_weight rest

  elses_row : {m : _} → Elses m → ℕ
  elses_row end_elses = 0
  elses_row (more_elses (Else' line mask _ block) rest) = row_weight block + elses_row rest

abbrev pub stmts_weight : List Stmt → ℕ
stmts_weight [] = 0
stmts_weight (s ∷ ss) = weight s.body + stmts_weight ss

abbrev pub else_weight : Else → ℕ
else_weight e = stmts_weight (out-Else e).block

abbrev pub elses_weight : List Else → ℕ
elses_weight [] = 0
elses_weight (e ∷ es) = else_weight e + elses_weight es

row_list : (ss : List Stmt) → row_weight (hidden-the_row-Stmt-0 ss) ≡ stmts_weight ss
unfolding trees_open
row_list [] = refl
row_list (s ∷ ss) = ap (λ n. weight s.body + n) (row_list ss)

elses_front : (e : Else) (es : List Else) → elses_row (hidden-the_row-Else-1 (roll-Else (out-Else e) ∷ es)) ≡ row_weight (hidden-the_row-Stmt-0 (out-Else e).block) + elses_row (hidden-the_row-Else-1 es)
unfolding trees_open
elses_front e es = refl

elses_list : (es : List Else) → elses_row (hidden-the_row-Else-1 es) ≡ elses_weight es
unfolding trees_open
elses_list [] = refl
elses_list (e ∷ es) =
    ap (λ x. elses_row (hidden-the_row-Else-1 (x ∷ es))) (sym (roll-out-Else e)) ∙ (elses_front e es ∙
    (ap (λ n. n + elses_row (hidden-the_row-Else-1 es)) (row_list (out-Else e).block) ∙ ap (λ n. else_weight e + n) (elses_list es)))

-- ---- the forms that hold statements

masked_is : (mask : Expr) (block : List Stmt) (rest : List Else) → weight (Masked mask block rest) ≡ suc (stmts_weight block + elses_weight rest)
unfolding trees_open
masked_is mask block rest = ap (λ n. suc (n + elses_row (hidden-the_row-Else-1 rest))) (row_list block) ∙ ap (λ n. suc (stmts_weight block + n)) (elses_list rest)

forall_is : (is : List Index) (mask : Option Expr) (block : List Stmt) → weight (Forall is mask block) ≡ suc (stmts_weight block)
unfolding trees_open
forall_is is mask block = ap suc (row_list block)

loop_is : (x : Name) (l u : Expr) (s : Option Expr) (block : List Stmt) → weight (Loop x l u s block) ≡ suc (stmts_weight block)
unfolding trees_open
loop_is x l u s block = ap suc (row_list block)

shared_is : (block : List Stmt) → weight (Shared block) ≡ suc (stmts_weight block)
unfolding trees_open
shared_is block = ap suc (row_list block)

module _ (n : ℕ) (whole : Body) (block block' : List Stmt) (here : 5 * weight whole ≡ n) (same : block' ≡ block) where
  block-falls : (w : ℕ) → weight whole ≡ suc (stmts_weight block + w) → 5 * stmts_weight block' + 2 < n
  block-falls w holds = omega (arith, here, holds, ap stmts_weight same)

  alone-falls : weight whole ≡ suc (stmts_weight block) → 5 * stmts_weight block' + 2 < n
  alone-falls holds = omega (arith, here, holds, ap stmts_weight same)

  pub masked-falls : (mask : Expr) (rest : List Else) → whole ≡ Masked mask block rest → 5 * stmts_weight block' + 2 < n
  masked-falls mask rest is = block-falls (elses_weight rest) (ap weight is ∙ masked_is mask block rest)

  pub forall-falls : (is : List Index) (mask : Option Expr) → whole ≡ Forall is mask block → 5 * stmts_weight block' + 2 < n
  forall-falls is mask form = alone-falls (ap weight form ∙ forall_is is mask block)

  pub loop-falls : (x : Name) (l u : Expr) (s : Option Expr) → whole ≡ Loop x l u s block → 5 * stmts_weight block' + 2 < n
  loop-falls x l u s is = alone-falls (ap weight is ∙ loop_is x l u s block)

  pub shared-falls : whole ≡ Shared block → 5 * stmts_weight block' + 2 < n
  shared-falls is = alone-falls (ap weight is ∙ shared_is block)

pub rest-falls : (n : ℕ) (whole : Body) (mask : Expr) (block : List Stmt) (rest rest' : List Else) → 5 * weight whole ≡ n → whole ≡ Masked mask block rest → rest' ≡ rest → 5 * elses_weight rest' + 4 < n
rest-falls n whole mask block rest rest' here is same =
    let holds : weight whole ≡ suc (stmts_weight block + elses_weight rest) = ap weight is ∙ masked_is mask block rest in omega (arith, here, holds, ap elses_weight same)

-- ---- items of lists

stmt_within : (ss : List Stmt) (i : ℕ) (d : Stmt) → i < length ss → weight (get_or ss i d).body ≤ stmts_weight ss
stmt_within [] i d low = absurd (omega (arith, low))
stmt_within (s ∷ ss) zero d low = omega arith
stmt_within (s ∷ ss) (suc i) d low = omega (arith, stmt_within ss i d (omega (arith, low)))

pub stmt-falls : (n : ℕ) (ss : List Stmt) (i : ℕ) (s : Stmt) → 5 * stmts_weight ss + 1 ≡ n → i < length ss → s ≡ get_or ss i s → 5 * weight s.body < n
stmt-falls n ss i s here low is = omega (arith, ap (λ t. weight t.body) is, stmt_within ss i s low, here)

else_within : (es : List Else) (i : ℕ) (d : Else) → i < length es → else_weight (get_or es i d) ≤ elses_weight es
else_within [] i d low = absurd (omega (arith, low))
else_within (e ∷ es) zero d low = omega arith
else_within (e ∷ es) (suc i) d low = omega (arith, else_within es i d (omega (arith, low)))

pub else-falls : (n : ℕ) (es : List Else) (i : ℕ) (e : Else) → 5 * elses_weight es + 4 ≡ n → i < length es → e ≡ get_or es i e → 5 * else_weight e + 3 < n
else-falls n es i e here low is = omega (arith, ap else_weight is, else_within es i e low, here)

pub falls-to : (n w a b : ℕ) → 5 * w + b ≡ n → a < b → 5 * w + a < n
falls-to n w a b here low = omega (arith, here, low)

pub part-falls : (n : ℕ) (e : Else) (block : List Stmt) → 5 * else_weight e + 3 ≡ n → block ≡ (out-Else e).block → 5 * stmts_weight block + 2 < n
part-falls n e block here same = omega (arith, here, ap stmts_weight same)
