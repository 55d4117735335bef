-- The arguments that the word of a call takes.
use Rattle.std.specs.Prelude.{Bool, true, false, ◌||◌, ◌&&◌, nat_le, nat_eq, List, [], ◌∷◌, length}
use Rattle.ws_base.specs.declared.op.CallWord.{CallWord}
use Rattle.ws_base.specs.declared.op.CallWord.TheVariants as word
use Rattle.ws_tree.specs.declared.expr.Expr.{Expr}
use Rattle.ws_tree.specs.declared.expr.Expr.TheVariants.{Number, TooWide, Named}

abbrev pub is_name : Expr → Bool
is_name (Named x) = true
is_name _ = false

abbrev pub is_one_name : List Expr → Bool
is_one_name (x ∷ []) = is_name x
is_one_name _ = false

abbrev pub is_digits : Expr → Bool
is_digits (Number n) = true
is_digits TooWide = true
is_digits _ = false

-- a name and a dimension
abbrev pub is_with_dimension : List Expr → Bool
is_with_dimension (x ∷ d ∷ []) = is_name x && is_digits d
is_with_dimension _ = false

-- the number of arguments is right, and those that have to be a name or a digit string are
unfoldable pub takes : CallWord → List Expr → Bool
takes word.Abs es = nat_eq (length es) 1
takes word.Mod es = nat_eq (length es) 2
takes word.Modulo es = nat_eq (length es) 2
takes word.Min es = nat_le 2 (length es)
takes word.Max es = nat_le 2 (length es)
takes word.Merge es = nat_eq (length es) 3
takes word.Sum es = nat_eq (length es) 1
takes word.Product es = nat_eq (length es) 1
takes word.Minval es = nat_eq (length es) 1
takes word.Maxval es = nat_eq (length es) 1
takes word.Count es = nat_eq (length es) 1
takes word.Any es = nat_eq (length es) 1
takes word.All es = nat_eq (length es) 1
takes word.Size es = is_one_name es || is_with_dimension es
takes word.Lbound es = is_with_dimension es
takes word.Ubound es = is_with_dimension es
takes word.Allocated es = is_one_name es
