-- How much a statement holds: the statements in a DO weigh less.
use Rattle.std.proofs.Common.{◌≡◌, refl, sym, ap, ◌∙◌, ℕ, zero, suc, ◌+◌, ◌*◌, ◌<◌, ◌≤◌, List, [], ◌∷◌, length, get_or, Option, arith}
use Rattle.ws_tree.specs.declared.expr.Expr.{Expr}
use Rattle.ws_tree.specs.declared.stmt.Stmt.{Stmt}
use Rattle.ws_tree.specs.declared.stmt.Body.{Body}
use Rattle.ws_tree.specs.declared.stmt.Body.TheVariants.{Loop, Loop'}
use Rattle.ws_tree.specs.declared.stmt.Body.TheBlock.{hidden-the_row-Stmt-0}
use Rattle.ws_tree.specs.Trees.{Stmts, end_stmts, more_stmts}
use Rattle.ws_tree.specs.Opened.{trees_open}

abbrev mutual
  pub weight : Body → ℕ
  weight (Loop' x l u s _ ss) = suc (row_weight ss)
  weight _ = 0

  row_weight : {m : _} → Stmts m → ℕ
  row_weight end_stmts = 0
  row_weight (more_stmts line body rest) = weight body + row_weight rest

abbrev pub stmts_weight : List Stmt → ℕ
stmts_weight [] = 0
stmts_weight (s ∷ ss) = weight s.body + stmts_weight ss

row_list : (ss : List Stmt) → row_weight (hidden-the_row-Stmt-0 ss) ≡ stmts_weight ss
unfolding trees_open
row_list [] = refl
row_list (s ∷ ss) = ap (λ n. weight s.body + n) (row_list ss)

loop_is : (x : List ℕ) (l u : Expr) (s : Option Expr) (ss : List Stmt) → weight (Loop x l u s ss) ≡ suc (stmts_weight ss)
unfolding trees_open
loop_is x l u s ss = ap suc (row_list ss)

-- ---- what the calls go down to

pub of_loop : (n : ℕ) (body : Body) (x : List ℕ) (l u : Expr) (s : Option Expr) (ss ss' : List Stmt) → 5 * weight body ≡ n → body ≡ Loop x l u s ss → ss' ≡ ss → 5 * stmts_weight ss' + 4 < n
of_loop n body x l u s ss ss' m is same = let h : weight body ≡ suc (stmts_weight ss') = ap weight is ∙ loop_is x l u s ss ∙ ap (λ b. suc (stmts_weight b)) (sym same) in omega (arith, h, m)

within : (ss : List Stmt) (i : ℕ) (d : Stmt) → i < length ss → weight (get_or ss i d).body ≤ stmts_weight ss
within [] i d h = absurd (omega (arith, h))
within (s ∷ ss) zero d h = omega arith
within (s ∷ ss) (suc i) d h = omega (arith, within ss i d (omega (arith, h)))

pub of_stmts : (n : ℕ) (ss : List Stmt) (i : ℕ) (s : Stmt) → 5 * stmts_weight ss + 1 ≡ n → i < length ss → s ≡ get_or ss i s → 5 * weight s.body < n
of_stmts n ss i s m low is = omega (arith, ap (λ t. weight t.body) is, within ss i s low, m)

pub below : (n w a b : ℕ) → 5 * w + b ≡ n → a < b → 5 * w + a < n
below n w a b m low = omega (arith, m, low)
