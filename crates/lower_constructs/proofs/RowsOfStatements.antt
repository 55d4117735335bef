-- Small sources whose modules show how statements are lowered.
use Rattle.std.proofs.Common.{refl, true, false, [], ◌∷◌, None, pos}
use Rattle.ws_base.specs.declared.op.BinOp.TheVariants as bin
use Rattle.ws_tree.specs.declared.expr.Expr.TheVariants.{Number, Part, Vector, Binary}
use Rattle.ws_tree.specs.declared.expr.Sub.TheVariants as sub
use Rattle.ws_tree.specs.declared.stmt.Bound.TheVariants as bound
use Rattle.ws_tree.specs.declared.stmt.Body.TheVariants.{Assign, Loop, Allocate, Deallocate, Read, Shared}
use Rattle.hlfir_ops.specs.declared.what.SubKind.TheVariants as subs
use Rattle.hlfir_ops.specs.declared.what.ValueBinary.TheVariants as op
use Rattle.hlfir_ops.specs.declared.what.What.TheVariants as what
use Rattle.lower_constructs.specs.Opened.{modules_open}
use Rattle.lower_constructs.proofs.RowWords.{integer, allocatable, upto, a, b, v, p, n, i, name, range, line, source, array, three, scalar, deferred, declare, number, binary, load, box, vector, yields, holds, assign, section, element_of, Becomes}

-- integer :: a(5)
-- a = [1, 2, 3, 4, 5]
-- !$omp parallel workshare
-- a(2:5) = a(1:4)
shift : Becomes (source
    (integer a ((upto 5) ∷ []) ∷ [])
    (line 2 (Assign (name a) (Vector ((Number 1) ∷ (Number 2) ∷ (Number 3) ∷ (Number 4) ∷ (Number 5) ∷ [])))
    ∷ line 3 (Shared (line 4 (Assign (Part a ((range (Number 2) (Number 5)) ∷ [])) (Part a ((range (Number 1) (Number 4)) ∷ []))) ∷ []))
    ∷ []))
    (declare a (array (pos 1) 5)
    ∷ assign 2 (number 2 1 ∷ number 2 2 ∷ number 2 3 ∷ number 2 4 ∷ number 2 5 ∷ vector 2 (1 ∷ 2 ∷ 3 ∷ 4 ∷ 5 ∷ []) ∷ yields 2 (6 ∷ []) ∷ []) (yields 2 (0 ∷ []) ∷ [])
    ∷ holds 3 what.Workshare ([]) ((assign 4 (number 4 1 ∷ number 4 4 ∷ number 4 1 ∷ section 4 (subs.Range ∷ []) (0 ∷ 7 ∷ 8 ∷ 9 ∷ []) ∷ yields 4 (10 ∷ []) ∷ []) (number 4 2 ∷ number 4 5 ∷ number 4 1 ∷ section 4 (subs.Range ∷ []) (0 ∷ 11 ∷ 12 ∷ 13 ∷ []) ∷ yields 4 (14 ∷ []) ∷ []) ∷ []) ∷ [])
    ∷ [])
unfolding modules_open
shift = refl

-- integer :: a(3), b(3), v(3)
-- b = [7, 8, 9]
-- !$omp parallel workshare
-- a(v) = b
vector_on_the_left : Becomes (source
    (integer a ((upto 3) ∷ []) ∷ integer b ((upto 3) ∷ []) ∷ integer v ((upto 3) ∷ []) ∷ [])
    (line 2 (Assign (name b) (Vector ((Number 7) ∷ (Number 8) ∷ (Number 9) ∷ [])))
    ∷ line 4 (Shared (line 6 (Assign (Part a ((sub.One (name v)) ∷ [])) (name b)) ∷ []))
    ∷ []))
    (declare a three
    ∷ declare b three
    ∷ declare v three
    ∷ assign 2 (number 2 7 ∷ number 2 8 ∷ number 2 9 ∷ vector 2 (3 ∷ 4 ∷ 5 ∷ []) ∷ yields 2 (6 ∷ []) ∷ []) (yields 2 (1 ∷ []) ∷ [])
    ∷ holds 4 what.Workshare ([]) ((assign 6 (yields 6 (1 ∷ []) ∷ []) (section 6 (subs.Vector ∷ []) (0 ∷ 2 ∷ []) ∷ yields 6 (7 ∷ []) ∷ []) ∷ []) ∷ [])
    ∷ [])
unfolding modules_open
vector_on_the_left = refl

-- integer :: b(0:2)
-- integer, allocatable :: p(:)
-- b = [5, 6, 7]
-- !$omp parallel workshare
-- p = b
-- p(1) = 0
reallocation : Becomes (source
    (integer b ((bound.Both (Number 0) (Number 2)) ∷ []) ∷ allocatable p (bound.Deferred ∷ []) ∷ [])
    (line 3 (Assign (name b) (Vector ((Number 5) ∷ (Number 6) ∷ (Number 7) ∷ [])))
    ∷ line 4 (Shared (line 5 (Assign (name p) (name b)) ∷ line 6 (Assign (Part p ((sub.One (Number 1)) ∷ [])) (Number 0)) ∷ []))
    ∷ []))
    (declare b (array (pos 0) 3)
    ∷ declare p deferred
    ∷ assign 3 (number 3 5 ∷ number 3 6 ∷ number 3 7 ∷ vector 3 (2 ∷ 3 ∷ 4 ∷ []) ∷ yields 3 (5 ∷ []) ∷ []) (yields 3 (0 ∷ []) ∷ [])
    ∷ holds 4 what.Workshare ([]) ((holds 5 (what.Assign true) ([]) ((yields 5 (0 ∷ []) ∷ []) ∷ (yields 5 (1 ∷ []) ∷ []) ∷ []) ∷ assign 6 (number 6 0 ∷ yields 6 (6 ∷ []) ∷ []) (box 6 1 ∷ number 6 1 ∷ element_of 6 (subs.One ∷ []) (7 ∷ 8 ∷ []) ∷ yields 6 (9 ∷ []) ∷ []) ∷ []) ∷ [])
    ∷ [])
unfolding modules_open
reallocation = refl

-- integer, allocatable :: p(:), v(:)
-- integer :: n
-- allocate (p(n), v(2:3))
-- deallocate (p, v)
allocation : Becomes (source
    (allocatable p (bound.Deferred ∷ []) ∷ allocatable v (bound.Deferred ∷ []) ∷ integer n ([]) ∷ [])
    (line 3 (Allocate (record { name = p; shape = bound.Upper (name n) ∷ [] } ∷ record { name = v; shape = bound.Both (Number 2) (Number 3) ∷ [] } ∷ []))
    ∷ line 4 (Deallocate (p ∷ v ∷ []))
    ∷ []))
    (declare p deferred
    ∷ declare v deferred
    ∷ declare n scalar
    ∷ holds 3 (what.Allocmem false) (0 ∷ []) ((number 3 1 ∷ load 3 2 ∷ yields 3 (3 ∷ 4 ∷ []) ∷ []) ∷ [])
    ∷ holds 3 (what.Allocmem true) (1 ∷ []) ((number 3 2 ∷ number 3 3 ∷ yields 3 (5 ∷ 6 ∷ []) ∷ []) ∷ [])
    ∷ holds 4 (what.Freemem false) (0 ∷ []) ([])
    ∷ holds 4 (what.Freemem true) (1 ∷ []) ([])
    ∷ [])
unfolding modules_open
allocation = refl

-- integer, allocatable :: p(:)
-- integer :: n, a(3)
-- read *, p, n, a(2)
items : Becomes (source
    (allocatable p (bound.Deferred ∷ []) ∷ integer n ([]) ∷ integer a ((upto 3) ∷ []) ∷ [])
    (line 3 (Read ((name p) ∷ (name n) ∷ (Part a ((sub.One (Number 2)) ∷ [])) ∷ []))
    ∷ []))
    (declare p deferred
    ∷ declare n scalar
    ∷ declare a three
    ∷ holds 3 (what.Read false) ([]) ((box 3 0 ∷ yields 3 (3 ∷ []) ∷ []) ∷ [])
    ∷ holds 3 (what.Read true) ([]) ((yields 3 (1 ∷ []) ∷ []) ∷ [])
    ∷ holds 3 (what.Read true) ([]) ((number 3 2 ∷ element_of 3 (subs.One ∷ []) (2 ∷ 4 ∷ []) ∷ yields 3 (5 ∷ []) ∷ []) ∷ [])
    ∷ [])
unfolding modules_open
items = refl

-- integer :: i, n
-- do i = 1, 10
-- n = n + i
-- end do
loop : Becomes (source
    (integer i ([]) ∷ integer n ([]) ∷ [])
    (line 2 (Loop i (Number 1) (Number 10) None (line 3 (Assign (name n) (Binary bin.Add (name n) (name i))) ∷ []))
    ∷ []))
    (declare i scalar
    ∷ declare n scalar
    ∷ holds 2 what.DoLoop (0 ∷ []) ((number 2 1 ∷ number 2 10 ∷ number 2 1 ∷ yields 2 (2 ∷ 3 ∷ 4 ∷ []) ∷ []) ∷ (assign 3 (load 3 1 ∷ load 3 0 ∷ binary 3 op.Add 5 6 ∷ yields 3 (7 ∷ []) ∷ []) (yields 3 (1 ∷ []) ∷ []) ∷ []) ∷ [])
    ∷ [])
unfolding modules_open
loop = refl
