-- What is read of an expression: its tree, its depth, and whether it has a call that is left out.
use Rattle.std.specs.Prelude.{ℕ, min, max, Bool, true, false, not, ◌||◌, Option, Some, None, List, [], ◌∷◌, ◌++◌, ◌+◌, ◌*◌, ◌-◌, nat_lt, if◌then◌else◌, bytes_eq, codes}
use Rattle.ws_base.specs.declared.op.UnOp.{UnOp}
use Rattle.ws_base.specs.declared.op.BinOp.{BinOp}
use Rattle.ws_base.specs.declared.op.BinOp.TheVariants as binop
use Rattle.ws_base.specs.declared.op.CallWord.{CallWord}
use Rattle.ws_base.specs.declared.op.CallWord.TheVariants as word
use Rattle.ws_tree.specs.declared.expr.Expr.{Expr}
use Rattle.ws_tree.specs.declared.expr.Expr.TheVariants.{Number, TooWide, TooDeep, Part, Call, Vector, Paren, Unary, Binary}
use Rattle.ws_tree.specs.declared.expr.Sub.{Sub}
use Rattle.ws_tree.specs.declared.expr.Sub.TheVariants as sub
use Rattle.ws_tree.specs.Calls.{takes}
use Rattle.ws_tree.specs.Words.{is_other_call}
use Rattle.ws_expr.specs.declared.reading.Reading.{Reading}
use Rattle.ws_expr.specs.declared.reading.Gathered.{Gathered}
use Rattle.ws_expr.specs.declared.calls.Callee.{Callee}
use Rattle.ws_expr.specs.declared.calls.Callee.TheVariants.{Listed, LeftOut}

-- ---- depth: a primary without parts has 1, and each operator, pair of brackets, call and subscripted name adds 1

-- An expression over parts of this greatest depth. One deeper than 64 has no tree, and its parts are not judged.
abbrev pub node : ℕ → Bool → Expr → Reading Expr
node depth odd tree = if nat_lt depth 64 then record { tree = tree; depth = depth + 1; odd = odd } else record { tree = TooDeep; depth = 65; odd = false }

abbrev pub leaf : Expr → Reading Expr
leaf tree = record { tree = tree; depth = 1; odd = false }

-- ---- operators

abbrev pub unary : UnOp → Reading Expr → Reading Expr
unary op a = node a.depth a.odd (Unary op a.tree)

abbrev pub binary : BinOp → Reading Expr → Reading Expr → Reading Expr
binary op a b = node (max a.depth b.depth) (a.odd || b.odd) (Binary op a.tree b.tree)

abbrev pub paren : Reading Expr → Reading Expr
paren a = node a.depth a.odd (Paren a.tree)

-- a power, from right to left
abbrev pub raised : List (Reading Expr) → Reading Expr → Reading Expr
raised [] e = e
raised (base ∷ bases) e = binary binop.Pow base (raised bases e)

-- ---- lists of parts, in order

module _ {T : Type 0} where
  abbrev pub empty : Gathered T
  empty = record { trees = []; depth = 0; odd = false }

  abbrev pub with_one : Gathered T → Reading T → Gathered T
  with_one g e = record { trees = g.trees ++ e.tree ∷ []; depth = max g.depth e.depth; odd = g.odd || e.odd }

  abbrev pub only : Reading T → Gathered T
  only e = with_one empty e

abbrev pub vector : Gathered Expr → Reading Expr
vector es = node es.depth es.odd (Vector es.trees)

abbrev pub part : List ℕ → Gathered Sub → Reading Expr
part name subs = node subs.depth subs.odd (Part name subs.trees)

-- ---- subscripts: a triplet adds nothing

abbrev pub one : Reading Expr → Reading Sub
one e = record { tree = sub.One e.tree; depth = e.depth; odd = e.odd }

abbrev pub tree_of : Option (Reading Expr) → Option Expr
tree_of None = None
tree_of (Some e) = Some e.tree

abbrev pub depth_of : Option (Reading Expr) → ℕ
depth_of None = 0
depth_of (Some e) = e.depth

abbrev pub odd_of : Option (Reading Expr) → Bool
odd_of None = false
odd_of (Some e) = e.odd

abbrev pub range : Option (Reading Expr) → Option (Reading Expr) → Option (Reading Expr) → Reading Sub
range l u s = record { tree = sub.Range (tree_of l) (tree_of u) (tree_of s); depth = max (max (depth_of l) (depth_of u)) (depth_of s); odd = (odd_of l || odd_of u) || odd_of s }

-- ---- literals

-- the value of digits, counted up to 2147483648
abbrev pub value_from : ℕ → List ℕ → ℕ
value_from v [] = v
value_from v (d ∷ ds) = value_from (min (10 * v + (d - 48)) 2147483648) ds

abbrev pub number_of : List ℕ → Reading Expr
number_of digits = leaf (if nat_lt (value_from 0 digits) 2147483648 then Number (value_from 0 digits) else TooWide)

-- ---- calls

abbrev pub call_word : List ℕ → Option CallWord
call_word x =
    if bytes_eq x (codes "abs") then Some word.Abs else
    (if bytes_eq x (codes "mod") then Some word.Mod else
    (if bytes_eq x (codes "modulo") then Some word.Modulo else
    (if bytes_eq x (codes "min") then Some word.Min else
    (if bytes_eq x (codes "max") then Some word.Max else
    (if bytes_eq x (codes "merge") then Some word.Merge else
    (if bytes_eq x (codes "sum") then Some word.Sum else
    (if bytes_eq x (codes "product") then Some word.Product else
    (if bytes_eq x (codes "minval") then Some word.Minval else
    (if bytes_eq x (codes "maxval") then Some word.Maxval else
    (if bytes_eq x (codes "count") then Some word.Count else
    (if bytes_eq x (codes "any") then Some word.Any else
    (if bytes_eq x (codes "all") then Some word.All else
    (if bytes_eq x (codes "size") then Some word.Size else
    (if bytes_eq x (codes "lbound") then Some word.Lbound else
    (if bytes_eq x (codes "ubound") then Some word.Ubound else
    (if bytes_eq x (codes "allocated") then Some word.Allocated else None))))))))))))))))

abbrev pub or_left_out : Option CallWord → Bool → Option Callee
or_left_out (Some w) other = Some (Listed w)
or_left_out None true = Some LeftOut
or_left_out None false = None

-- what a word in front of `(` calls, if it is a word of calls
abbrev pub callee : List ℕ → Option Callee
callee x = or_left_out (call_word x) (is_other_call x)

-- a call that is left out keeps no tree of its own
abbrev pub call : Callee → Gathered Expr → Reading Expr
call (Listed w) es = node es.depth (es.odd || not (takes w es.trees)) (Call w es.trees)
call LeftOut es = node es.depth true (Vector es.trees)
