-- Examples: sources, each with the first fault in it, or none.
use Rattle.std.specs.Prelude.{◌≡◌, ℕ, Bool, true, false, List, [], ◌∷◌, Option, Some, None, codes}
use Rattle.ws_base.specs.declared.refusal.Refusal.{Refusal}
use Rattle.ws_base.specs.declared.refusal.RefusalKind.{RefusalKind}
use Rattle.ws_base.specs.declared.op.UnOp.TheVariants as un
use Rattle.ws_base.specs.declared.op.BinOp.TheVariants as bin
use Rattle.ws_base.specs.declared.op.CallWord.TheVariants as word
use Rattle.ws_tree.specs.declared.expr.Expr.{Expr}
use Rattle.ws_tree.specs.declared.expr.Expr.TheVariants.{Number, TooWide, Truth, Named, Part, Call, Vector, Unary, Binary}
use Rattle.ws_tree.specs.declared.expr.Sub.TheVariants.{One, Range}
use Rattle.ws_tree.specs.declared.stmt.Bound.{Bound}
use Rattle.ws_tree.specs.declared.stmt.Bound.TheVariants as bound
use Rattle.ws_tree.specs.declared.stmt.Decl.{Decl}
use Rattle.ws_tree.specs.declared.stmt.Tree.{Tree}
use Rattle.ws_tree.specs.declared.stmt.Stmt.{Stmt}
use Rattle.ws_tree.specs.declared.stmt.Else.{Else, roll-Else}
use Rattle.ws_tree.specs.declared.stmt.Body.{Body}
use Rattle.ws_tree.specs.declared.stmt.Body.TheVariants.{Assign, Masked, Forall, Loop, Allocate, Shared}
use Rattle.ws_types.specs.Kinds.{least_from}
use Rattle.ws_sema.specs.Checks.{rule_faults}

abbrev pub first : Tree → Option Refusal
first t = least_from None (rule_faults t)

-- the source breaks a rule, at this line first, and there this kind is the least
abbrev pub IsRefused : Tree → ℕ → RefusalKind → Type 0
IsRefused t line kind = first t ≡ Some (record { line = line; kind = kind })

abbrev pub IsFaultless : Tree → Type 0
IsFaultless t = first t ≡ None

-- ---- a shorter spelling of trees

abbrev pub decl : ℕ → Bool → Option Expr → Bool → List ℕ → List Bound → Decl
decl line truth value allocatable x shape = record { line = line; truth = truth; constant = value; allocatable = allocatable; name = x; shape = shape }

abbrev pub integer : ℕ → List ℕ → List Bound → Decl
integer line x shape = decl line false None false x shape

abbrev pub logical : ℕ → List ℕ → List Bound → Decl
logical line x shape = decl line true None false x shape

abbrev pub of : ℕ → Bound
of n = bound.Upper (Number n)

abbrev pub line : ℕ → Body → Stmt
line n body = record { line = n; body = body }

abbrev pub elsewhere : ℕ → Option Expr → List Stmt → Else
elsewhere n mask block = roll-Else (record { line = n; mask = mask; block = block })

abbrev pub tree : List Decl → List Stmt → Tree
tree ds body = record { name = codes "main"; decls = ds; body = body }

abbrev pub above : List ℕ → ℕ → Expr
above x n = Binary bin.Gt (Named x) (Number n)

-- ---- declarations

--     integer, parameter :: n = .true.
unfoldable pub constant_of_another_type : Tree
constant_of_another_type = tree (decl 1 false (Some (Truth true)) false (codes "n") [] ∷ []) []

--     logical, parameter :: t = 5
unfoldable pub number_for_a_truth : Tree
number_for_a_truth = tree (decl 1 true (Some (Number 5)) false (codes "t") [] ∷ []) []

--     integer :: a(q)
unfoldable pub bound_not_declared : Tree
bound_not_declared = tree (integer 1 (codes "a") (bound.Upper (Named (codes "q")) ∷ []) ∷ []) []

--     integer :: a(n)
--     integer, parameter :: n = 3
unfoldable pub constant_used_before : Tree
constant_used_before = tree (integer 1 (codes "a") (bound.Upper (Named (codes "n")) ∷ []) ∷ decl 2 false (Some (Number 3)) false (codes "n") [] ∷ []) []

--     integer, parameter :: n = 3
--     integer :: a(-n:2 * n)
unfoldable pub constant_used_after : Tree
constant_used_after = tree (decl 1 false (Some (Number 3)) false (codes "n") [] ∷ integer 2 (codes "a") (bound.Both (Unary un.Minus (Named (codes "n"))) (Binary bin.Mul (Number 2) (Named (codes "n"))) ∷ []) ∷ []) []

--     integer, parameter :: n = 1 / 0
unfoldable pub constant_without_value : Tree
constant_without_value = tree (decl 1 false (Some (Binary bin.Div (Number 1) (Number 0))) false (codes "n") [] ∷ []) []

--     integer :: a(65536)
unfoldable pub as_large_as_may_be : Tree
as_large_as_may_be = tree (integer 1 (codes "a") (of 65536 ∷ []) ∷ []) []

--     integer :: a(65537)
unfoldable pub too_large : Tree
too_large = tree (integer 1 (codes "a") (of 65537 ∷ []) ∷ []) []

--     integer :: a(1, 1, 1, 1)
unfoldable pub four_dimensions : Tree
four_dimensions = tree (integer 1 (codes "a") (of 1 ∷ of 1 ∷ of 1 ∷ of 1 ∷ []) ∷ []) []

--     integer :: n
--     logical :: n
unfoldable pub declared_twice : Tree
declared_twice = tree (integer 1 (codes "n") [] ∷ logical 2 (codes "n") [] ∷ []) []

--     integer :: sum
unfoldable pub keyword_declared : Tree
keyword_declared = tree (integer 1 (codes "sum") [] ∷ []) []

-- ---- expressions

--     integer :: n
--     n = sum + 1
unfoldable pub keyword_used : Tree
keyword_used = tree (integer 1 (codes "n") [] ∷ []) (line 2 (Assign (Named (codes "n")) (Binary bin.Add (Named (codes "sum")) (Number 1))) ∷ [])

--     integer :: n
--     n = sum()
unfoldable pub call_without_argument : Tree
call_without_argument = tree (integer 1 (codes "n") [] ∷ []) (line 2 (Assign (Named (codes "n")) (Call word.Sum [])) ∷ [])

--     integer :: n
--     n = sin(1)
unfoldable pub unknown_call : Tree
unknown_call = tree (integer 1 (codes "n") [] ∷ []) (line 2 (Assign (Named (codes "n")) (Part (codes "sin") (One (Number 1) ∷ []))) ∷ [])

--     integer :: n
--     n = .true.
unfoldable pub truth_for_a_number : Tree
truth_for_a_number = tree (integer 1 (codes "n") [] ∷ []) (line 2 (Assign (Named (codes "n")) (Truth true)) ∷ [])

--     logical :: t
--     integer :: a(3)
--     t = 1 + a(1, 2)
unfoldable pub type_of_a_refused_part : Tree
type_of_a_refused_part = tree (logical 1 (codes "t") [] ∷ integer 2 (codes "a") (of 3 ∷ []) ∷ [])
    (line 3 (Assign (Named (codes "t")) (Binary bin.Add (Number 1) (Part (codes "a") (One (Number 1) ∷ One (Number 2) ∷ [])))) ∷ [])

--     logical :: t
--     t = 99999999999
unfoldable pub type_of_a_wide_number : Tree
type_of_a_wide_number = tree (logical 1 (codes "t") [] ∷ []) (line 2 (Assign (Named (codes "t")) TooWide) ∷ [])

--     integer :: a(3)
--     a(size(a, 1):b:1) = 0
unfoldable pub undeclared_in_a_subscript : Tree
undeclared_in_a_subscript = tree (integer 1 (codes "a") (of 3 ∷ []) ∷ [])
    (line 2 (Assign (Part (codes "a") (Range (Some (Call word.Size (Named (codes "a") ∷ Number 1 ∷ []))) (Some (Named (codes "b"))) (Some (Number 1)) ∷ [])) (Number 0)) ∷ [])

--     integer :: a(3)
--     a(2:) = a([1, 3]) + maxval(a)
unfoldable pub sections : Tree
sections = tree (integer 1 (codes "a") (of 3 ∷ []) ∷ [])
    (line 2 (Assign (Part (codes "a") (Range (Some (Number 2)) None None ∷ [])) (Binary bin.Add (Part (codes "a") (One (Vector (Number 1 ∷ Number 3 ∷ [])) ∷ [])) (Call word.Maxval (Named (codes "a") ∷ [])))) ∷ [])

-- ---- statements

--     integer :: i
--     do i = 1, 3
--     i = .true.
--     end do
unfoldable pub active_variable_assigned : Tree
active_variable_assigned = tree (integer 1 (codes "i") [] ∷ []) (line 2 (Loop (codes "i") (Number 1) (Number 3) None (line 3 (Assign (Named (codes "i")) (Truth true)) ∷ [])) ∷ [])

--     integer :: i, j, c(3, 3)
--     forall (i = 1:3, j = 1:3:i) c(i, j) = 1
unfoldable pub index_in_its_header : Tree
index_in_its_header = tree (integer 1 (codes "i") [] ∷ integer 1 (codes "j") [] ∷ integer 1 (codes "c") (of 3 ∷ of 3 ∷ []) ∷ [])
    (line 2 (Forall (record { name = codes "i"; l = Number 1; u = Number 3; s = None } ∷ record { name = codes "j"; l = Number 1; u = Number 3; s = Some (Named (codes "i")) } ∷ []) None
    (line 2 (Assign (Part (codes "c") (One (Named (codes "i")) ∷ One (Named (codes "j")) ∷ [])) (Number 1)) ∷ [])) ∷ [])

--     integer :: a(3), c(2, 2)
--     where (a > 0)
--     c = 1
--     end where
unfoldable pub mask_of_another_rank : Tree
mask_of_another_rank = tree (integer 1 (codes "a") (of 3 ∷ []) ∷ integer 1 (codes "c") (of 2 ∷ of 2 ∷ []) ∷ [])
    (line 2 (Masked (above (codes "a") 0) (line 3 (Assign (Named (codes "c")) (Number 1)) ∷ []) []) ∷ [])

--     integer :: a(3), c(2, 2)
--     where (a > 0)
--     elsewhere (a > 1)
--     c = 1
--     end where
unfoldable pub else_mask_of_another_rank : Tree
else_mask_of_another_rank = tree (integer 1 (codes "a") (of 3 ∷ []) ∷ integer 1 (codes "c") (of 2 ∷ of 2 ∷ []) ∷ [])
    (line 2 (Masked (above (codes "a") 0) [] (elsewhere 3 (Some (above (codes "a") 1)) (line 4 (Assign (Named (codes "c")) (Number 1)) ∷ []) ∷ [])) ∷ [])

--     integer :: i, a(3)
--     a = 1
--     !$omp parallel workshare
--     a = 2
--     do i = 1, 3
--     a(i) = i
--     end do
--     !$omp end parallel workshare
unfoldable pub loop_in_a_region : Tree
loop_in_a_region = tree (integer 1 (codes "i") [] ∷ integer 1 (codes "a") (of 3 ∷ []) ∷ [])
    (line 2 (Assign (Named (codes "a")) (Number 1)) ∷
    line 3 (Shared (line 4 (Assign (Named (codes "a")) (Number 2)) ∷ line 5 (Loop (codes "i") (Number 1) (Number 3) None (line 6 (Assign (Part (codes "a") (One (Named (codes "i")) ∷ [])) (Named (codes "i"))) ∷ [])) ∷ [])) ∷ [])

--     integer, allocatable :: p(:)
--     allocate (p(65537))
unfoldable pub any_number_allocated : Tree
any_number_allocated = tree (decl 1 false None true (codes "p") (bound.Deferred ∷ []) ∷ []) (line 2 (Allocate (record { name = codes "p"; shape = of 65537 ∷ [] } ∷ [])) ∷ [])

--     integer :: a(3)
--     allocate (a(3))
unfoldable pub no_allocatable : Tree
no_allocatable = tree (integer 1 (codes "a") (of 3 ∷ []) ∷ []) (line 2 (Allocate (record { name = codes "a"; shape = of 3 ∷ of 3 ∷ [] } ∷ [])) ∷ [])
