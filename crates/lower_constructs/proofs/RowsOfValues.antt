-- Small sources whose modules show how expressions are lowered.
use Rattle.std.proofs.Common.{refl, true, false, [], ◌∷◌, Some, None, pos}
use Rattle.ws_base.specs.declared.op.UnOp.TheVariants as un
use Rattle.ws_base.specs.declared.op.BinOp.TheVariants as bin
use Rattle.ws_base.specs.declared.op.CallWord.TheVariants as word
use Rattle.ws_space.specs.Shapes.{shape_of}
use Rattle.ws_tree.specs.declared.expr.Expr.TheVariants.{Number, Truth, Part, Call, Paren, Unary, Binary}
use Rattle.ws_tree.specs.declared.expr.Sub.TheVariants as sub
use Rattle.ws_tree.specs.declared.stmt.Bound.TheVariants as bound
use Rattle.ws_tree.specs.declared.stmt.Body.TheVariants.{Assign, Shared}
use Rattle.hlfir_ops.specs.declared.kinds.Elem.TheVariants.{I32, I1}
use Rattle.hlfir_ops.specs.declared.kinds.ValueKind.TheVariants as kind
use Rattle.hlfir_ops.specs.declared.what.BoundWord.TheVariants as bounds
use Rattle.hlfir_ops.specs.declared.what.Reduction.TheVariants as reduction
use Rattle.hlfir_ops.specs.declared.what.SubKind.TheVariants as subs
use Rattle.hlfir_ops.specs.declared.what.ValueBinary.TheVariants as op
use Rattle.hlfir_ops.specs.declared.what.What.TheVariants as what
use Rattle.lower_constructs.specs.Opened.{modules_open}
use Rattle.lower_constructs.proofs.RowWords.{integer, logical, allocatable, constant, upto, a, b, v, p, n, k, i, j, m, c, d, t, name, range, line, source, i32, i1, dim, array, three, scalar, deferred, declare, gives, number, below_zero, neg, compare, binary, load, box, apply, elemental, yields_element, yields, holds, assign, section, element_of, Becomes}

-- integer :: k, n
-- k = max(n, 1, k)
maximum_of_three : Becomes (source
    (integer k ([]) ∷ integer n ([]) ∷ [])
    (line 2 (Assign (name k) (Call word.Max ((name n) ∷ (Number 1) ∷ (name k) ∷ [])))
    ∷ []))
    (declare k scalar
    ∷ declare n scalar
    ∷ assign 2 (load 2 1 ∷ number 2 1 ∷ binary 2 op.Max 2 3 ∷ load 2 0 ∷ binary 2 op.Max 4 5 ∷ yields 2 (6 ∷ []) ∷ []) (yields 2 (0 ∷ []) ∷ [])
    ∷ [])
unfolding modules_open
maximum_of_three = refl

-- integer :: a(5)
-- !$omp parallel workshare
-- a = a + a(1)
array_and_its_element : Becomes (source
    (integer a ((upto 5) ∷ []) ∷ [])
    (line 3 (Shared (line 4 (Assign (name a) (Binary bin.Add (name a) (Part a ((sub.One (Number 1)) ∷ [])))) ∷ []))
    ∷ []))
    (declare a (array (pos 1) 5)
    ∷ holds 3 what.Workshare ([]) ((assign 4 (number 4 1 ∷ element_of 4 (subs.One ∷ []) (0 ∷ 1 ∷ []) ∷ load 4 2 ∷ elemental 4 I32 (apply 4 0 ∷ binary 4 op.Add 5 3 ∷ yields_element 4 6 ∷ []) ∷ yields 4 (4 ∷ []) ∷ []) (yields 4 (0 ∷ []) ∷ []) ∷ []) ∷ [])
    ∷ [])
unfolding modules_open
array_and_its_element = refl

-- integer :: i, j, k, m
-- i = -7
-- !$omp parallel workshare
-- k = -j**2 + i/2
-- m = mod(i, j)*10 + modulo(i, j)
signs_and_powers : Becomes (source
    (integer i ([]) ∷ integer j ([]) ∷ integer k ([]) ∷ integer m ([]) ∷ [])
    (line 2 (Assign (name i) (Unary un.Minus (Number 7)))
    ∷ line 4 (Shared (line 5 (Assign (name k) (Binary bin.Add (Unary un.Minus (Binary bin.Pow (name j) (Number 2))) (Binary bin.Div (name i) (Number 2)))) ∷ line 6 (Assign (name m) (Binary bin.Add (Binary bin.Mul (Call word.Mod ((name i) ∷ (name j) ∷ [])) (Number 10)) (Call word.Modulo ((name i) ∷ (name j) ∷ [])))) ∷ []))
    ∷ []))
    (declare i scalar
    ∷ declare j scalar
    ∷ declare k scalar
    ∷ declare m scalar
    ∷ assign 2 (below_zero 2 7 ∷ yields 2 (4 ∷ []) ∷ []) (yields 2 (0 ∷ []) ∷ [])
    ∷ holds 4 what.Workshare ([]) ((assign 5 (load 5 1 ∷ number 5 2 ∷ binary 5 op.Pow 5 6 ∷ neg 5 7 ∷ load 5 0 ∷ number 5 2 ∷ binary 5 op.Div 9 10 ∷ binary 5 op.Add 8 11 ∷ yields 5 (12 ∷ []) ∷ []) (yields 5 (2 ∷ []) ∷ []) ∷ assign 6 (load 6 0 ∷ load 6 1 ∷ binary 6 op.Mod 13 14 ∷ number 6 10 ∷ binary 6 op.Mul 15 16 ∷ load 6 0 ∷ load 6 1 ∷ binary 6 op.Modulo 18 19 ∷ binary 6 op.Add 17 20 ∷ yields 6 (21 ∷ []) ∷ []) (yields 6 (3 ∷ []) ∷ []) ∷ []) ∷ [])
    ∷ [])
unfolding modules_open
signs_and_powers = refl

-- integer :: n, b(3), c(3), d(3)
-- n = sum((b/c) + d)
sum_of_an_expression : Becomes (source
    (integer n ([]) ∷ integer b ((upto 3) ∷ []) ∷ integer c ((upto 3) ∷ []) ∷ integer d ((upto 3) ∷ []) ∷ [])
    (line 6 (Assign (name n) (Call word.Sum ((Binary bin.Add (Paren (Binary bin.Div (name b) (name c))) (name d)) ∷ [])))
    ∷ []))
    (declare n scalar
    ∷ declare b three
    ∷ declare c three
    ∷ declare d three
    ∷ assign 6 (elemental 6 I32 (apply 6 1 ∷ apply 6 2 ∷ binary 6 op.Div 5 6 ∷ yields_element 6 7 ∷ []) ∷ elemental 6 I32 (apply 6 4 ∷ apply 6 3 ∷ binary 6 op.Add 9 10 ∷ yields_element 6 11 ∷ []) ∷ gives 6 (what.Reduce reduction.Sum) (8 ∷ []) i32 ∷ yields 6 (12 ∷ []) ∷ []) (yields 6 (0 ∷ []) ∷ [])
    ∷ [])
unfolding modules_open
sum_of_an_expression = refl

-- integer :: a(3)
-- a = merge(a, 10*a, a == 2)
choice : Becomes (source
    (integer a ((upto 3) ∷ []) ∷ [])
    (line 2 (Assign (name a) (Call word.Merge ((name a) ∷ (Binary bin.Mul (Number 10) (name a)) ∷ (Binary bin.Eq (name a) (Number 2)) ∷ [])))
    ∷ []))
    (declare a three
    ∷ assign 2 (number 2 10 ∷ elemental 2 I32 (apply 2 0 ∷ binary 2 op.Mul 1 3 ∷ yields_element 2 4 ∷ []) ∷ number 2 2 ∷ elemental 2 I1 (apply 2 0 ∷ compare 2 op.Eq 7 5 ∷ yields_element 2 8 ∷ []) ∷ elemental 2 I32 (apply 2 0 ∷ apply 2 2 ∷ gives 2 what.Apply (6 ∷ []) i1 ∷ gives 2 what.Select (12 ∷ 10 ∷ 11 ∷ []) i32 ∷ yields_element 2 13 ∷ []) ∷ yields 2 (9 ∷ []) ∷ []) (yields 2 (0 ∷ []) ∷ [])
    ∷ [])
unfolding modules_open
choice = refl

-- integer :: a(3), v(3)
-- a = a((v))
-- a = +((v))
parentheses_around_an_array : Becomes (source
    (integer a ((upto 3) ∷ []) ∷ integer v ((upto 3) ∷ []) ∷ [])
    (line 2 (Assign (name a) (Part a ((sub.One (Paren (name v))) ∷ [])))
    ∷ line 3 (Assign (name a) (Unary un.Plus (Paren (Paren (name v)))))
    ∷ []))
    (declare a three
    ∷ declare v three
    ∷ assign 2 (gives 2 what.AsExpr (1 ∷ []) (kind.Array I32 1) ∷ section 2 (subs.Vector ∷ []) (0 ∷ 2 ∷ []) ∷ yields 2 (3 ∷ []) ∷ []) (yields 2 (0 ∷ []) ∷ [])
    ∷ assign 3 (gives 3 what.AsExpr (1 ∷ []) (kind.Array I32 1) ∷ yields 3 (4 ∷ []) ∷ []) (yields 3 (0 ∷ []) ∷ [])
    ∷ [])
unfolding modules_open
parentheses_around_an_array = refl

-- integer :: b(3), v(3)
-- b = b((v(1:3)))
parentheses_around_a_section : Becomes (source
    (integer b ((upto 3) ∷ []) ∷ integer v ((upto 3) ∷ []) ∷ [])
    (line 2 (Assign (name b) (Part b ((sub.One (Paren (Part v ((range (Number 1) (Number 3)) ∷ [])))) ∷ [])))
    ∷ []))
    (declare b three
    ∷ declare v three
    ∷ assign 2 (number 2 1 ∷ number 2 3 ∷ number 2 1 ∷ section 2 (subs.Range ∷ []) (1 ∷ 2 ∷ 3 ∷ 4 ∷ []) ∷ section 2 (subs.Vector ∷ []) (0 ∷ 5 ∷ []) ∷ yields 2 (6 ∷ []) ∷ []) (yields 2 (0 ∷ []) ∷ [])
    ∷ [])
unfolding modules_open
parentheses_around_a_section = refl

-- integer :: c(2,3), v(2)
-- v = c(:,2)
-- v = c(1,2:)
omitted_bounds : Becomes (source
    (integer c ((upto 2) ∷ (upto 3) ∷ []) ∷ integer v ((upto 2) ∷ []) ∷ [])
    (line 2 (Assign (name v) (Part c ((sub.Range None None None) ∷ (sub.One (Number 2)) ∷ [])))
    ∷ line 3 (Assign (name v) (Part c ((sub.One (Number 1)) ∷ (sub.Range (Some (Number 2)) None None) ∷ [])))
    ∷ []))
    (declare c (kind.Declared I32 (shape_of (dim (pos 1) 2 ∷ dim (pos 1) 3 ∷ [])))
    ∷ declare v (array (pos 1) 2)
    ∷ assign 2 (gives 2 (what.Bound bounds.Lower 1) (0 ∷ []) i32 ∷ gives 2 (what.Bound bounds.Upper 1) (0 ∷ []) i32 ∷ number 2 1 ∷ number 2 2 ∷ section 2 (subs.Range ∷ subs.One ∷ []) (0 ∷ 2 ∷ 3 ∷ 4 ∷ 5 ∷ []) ∷ yields 2 (6 ∷ []) ∷ []) (yields 2 (1 ∷ []) ∷ [])
    ∷ assign 3 (number 3 1 ∷ number 3 2 ∷ gives 3 (what.Bound bounds.Upper 2) (0 ∷ []) i32 ∷ number 3 1 ∷ section 3 (subs.One ∷ subs.Range ∷ []) (0 ∷ 7 ∷ 8 ∷ 9 ∷ 10 ∷ []) ∷ yields 3 (11 ∷ []) ∷ []) (yields 3 (1 ∷ []) ∷ [])
    ∷ [])
unfolding modules_open
omitted_bounds = refl

-- integer :: n, a(3)
-- a(1:n) = 0
variable_bound : Becomes (source
    (integer n ([]) ∷ integer a ((upto 3) ∷ []) ∷ [])
    (line 2 (Assign (Part a ((range (Number 1) (name n)) ∷ [])) (Number 0))
    ∷ []))
    (declare n scalar
    ∷ declare a three
    ∷ assign 2 (number 2 0 ∷ yields 2 (2 ∷ []) ∷ []) (number 2 1 ∷ load 2 0 ∷ number 2 1 ∷ section 2 (subs.Range ∷ []) (1 ∷ 3 ∷ 4 ∷ 5 ∷ []) ∷ yields 2 (6 ∷ []) ∷ [])
    ∷ [])
unfolding modules_open
variable_bound = refl

-- integer, parameter :: m = 3
-- logical, parameter :: t = .true.
-- integer :: n
-- logical :: k
-- n = 2*3 + n
-- n = 1/0
-- n = 2147483647 + 1
-- n = (m*2) - n
-- k = t
constant_expressions : Becomes (source
    (constant false m (Number 3) ∷ constant true t (Truth true) ∷ integer n ([]) ∷ logical k ([]) ∷ [])
    (line 2 (Assign (name n) (Binary bin.Add (Binary bin.Mul (Number 2) (Number 3)) (name n)))
    ∷ line 3 (Assign (name n) (Binary bin.Div (Number 1) (Number 0)))
    ∷ line 4 (Assign (name n) (Binary bin.Add (Number 2147483647) (Number 1)))
    ∷ line 5 (Assign (name n) (Binary bin.Sub (Paren (Binary bin.Mul (name m) (Number 2))) (name n)))
    ∷ line 6 (Assign (name k) (name t))
    ∷ []))
    (declare n scalar
    ∷ declare k (kind.Place I1)
    ∷ assign 2 (number 2 6 ∷ load 2 0 ∷ binary 2 op.Add 2 3 ∷ yields 2 (4 ∷ []) ∷ []) (yields 2 (0 ∷ []) ∷ [])
    ∷ assign 3 (number 3 1 ∷ number 3 0 ∷ binary 3 op.Div 5 6 ∷ yields 3 (7 ∷ []) ∷ []) (yields 3 (0 ∷ []) ∷ [])
    ∷ assign 4 (number 4 2147483647 ∷ number 4 1 ∷ binary 4 op.Add 8 9 ∷ yields 4 (10 ∷ []) ∷ []) (yields 4 (0 ∷ []) ∷ [])
    ∷ assign 5 (number 5 6 ∷ load 5 0 ∷ binary 5 op.Sub 11 12 ∷ yields 5 (13 ∷ []) ∷ []) (yields 5 (0 ∷ []) ∷ [])
    ∷ assign 6 (gives 6 (what.Constant (pos 1)) ([]) i1 ∷ yields 6 (14 ∷ []) ∷ []) (yields 6 (1 ∷ []) ∷ [])
    ∷ [])
unfolding modules_open
constant_expressions = refl

-- integer :: n, a(3)
-- integer, allocatable :: p(:)
-- logical :: t
-- n = size(a) + size(p, 1)
-- n = ubound(a, 1)
-- t = allocated(p)
inquiries : Becomes (source
    (integer n ([]) ∷ integer a ((upto 3) ∷ []) ∷ allocatable p (bound.Deferred ∷ []) ∷ logical t ([]) ∷ [])
    (line 2 (Assign (name n) (Binary bin.Add (Call word.Size ((name a) ∷ [])) (Call word.Size ((name p) ∷ (Number 1) ∷ []))))
    ∷ line 3 (Assign (name n) (Call word.Ubound ((name a) ∷ (Number 1) ∷ [])))
    ∷ line 4 (Assign (name t) (Call word.Allocated ((name p) ∷ [])))
    ∷ []))
    (declare n scalar
    ∷ declare a three
    ∷ declare p deferred
    ∷ declare t (kind.Place I1)
    ∷ assign 2 (gives 2 what.Size (1 ∷ []) i32 ∷ box 2 2 ∷ gives 2 (what.Bound bounds.Extent 1) (5 ∷ []) i32 ∷ binary 2 op.Add 4 6 ∷ yields 2 (7 ∷ []) ∷ []) (yields 2 (0 ∷ []) ∷ [])
    ∷ assign 3 (gives 3 (what.Bound bounds.Ubound 1) (1 ∷ []) i32 ∷ yields 3 (8 ∷ []) ∷ []) (yields 3 (0 ∷ []) ∷ [])
    ∷ assign 4 (gives 4 what.Allocated (2 ∷ []) i1 ∷ yields 4 (9 ∷ []) ∷ []) (yields 4 (3 ∷ []) ∷ [])
    ∷ [])
unfolding modules_open
inquiries = refl
