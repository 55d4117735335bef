-- Small sources whose modules show how WHERE and FORALL are lowered.
use Rattle.std.proofs.Common.{refl, [], ◌∷◌, Some, None, pos}
use Rattle.ws_base.specs.declared.op.UnOp.TheVariants as un
use Rattle.ws_base.specs.declared.op.BinOp.TheVariants as bin
use Rattle.ws_space.specs.Shapes.{shape_of}
use Rattle.ws_tree.specs.declared.expr.Expr.TheVariants.{Number, Part, Unary, Binary}
use Rattle.ws_tree.specs.declared.expr.Sub.TheVariants as sub
use Rattle.ws_tree.specs.declared.stmt.Bound.TheVariants as bound
use Rattle.ws_tree.specs.declared.stmt.Else.{roll-Else}
use Rattle.ws_tree.specs.declared.stmt.Body.TheVariants.{Assign, Masked, Forall, Shared}
use Rattle.hlfir_ops.specs.declared.kinds.Elem.TheVariants.{I32, I1}
use Rattle.hlfir_ops.specs.declared.kinds.ValueKind.TheVariants as kind
use Rattle.hlfir_ops.specs.declared.what.SubKind.TheVariants as subs
use Rattle.hlfir_ops.specs.declared.what.ValueBinary.TheVariants as op
use Rattle.hlfir_ops.specs.declared.what.What.TheVariants as what
use Rattle.lower_constructs.specs.Opened.{modules_open}
use Rattle.lower_constructs.proofs.RowWords.{integer, logical, allocatable, upto, a, b, p, n, i, j, m, c, t, name, line, source, dim, three, three_truths, scalar, deferred, declare, number, neg, compare, binary, load, box, apply, elemental, yields_element, yields, holds, assign, element_of, Becomes}

-- integer :: a(3), b(3)
-- !$omp parallel workshare
-- where (a < 0)
-- a = -a
-- b = a
-- elsewhere
-- b = 0
-- end where
absolute_values : Becomes (source
    (integer a ((upto 3) ∷ []) ∷ integer b ((upto 3) ∷ []) ∷ [])
    (line 3 (Shared (line 4 (Masked (Binary bin.Lt (name a) (Number 0)) (line 5 (Assign (name a) (Unary un.Minus (name a))) ∷ line 6 (Assign (name b) (name a)) ∷ []) (roll-Else (record { line = 7; mask = None; block = (line 8 (Assign (name b) (Number 0)) ∷ []) }) ∷ [])) ∷ []))
    ∷ []))
    (declare a three
    ∷ declare b three
    ∷ holds 3 what.Workshare ([]) ((holds 4 what.Masked ([]) ((number 4 0 ∷ elemental 4 I1 (apply 4 0 ∷ compare 4 op.Lt 4 2 ∷ yields_element 4 5 ∷ []) ∷ yields 4 (3 ∷ []) ∷ []) ∷ (assign 5 (elemental 5 I32 (apply 5 0 ∷ neg 5 7 ∷ yields_element 5 8 ∷ []) ∷ yields 5 (6 ∷ []) ∷ []) (yields 5 (0 ∷ []) ∷ []) ∷ assign 6 (yields 6 (0 ∷ []) ∷ []) (yields 6 (1 ∷ []) ∷ []) ∷ []) ∷ (holds 7 what.Elsewhere ([]) ((assign 8 (number 8 0 ∷ yields 8 (9 ∷ []) ∷ []) (yields 8 (1 ∷ []) ∷ []) ∷ []) ∷ []) ∷ []) ∷ []) ∷ []) ∷ [])
    ∷ [])
unfolding modules_open
absolute_values = refl

-- integer :: a(3), b(3)
-- where (a > 0)
-- a = -a
-- elsewhere (1/b > 0)
-- end where
mask_of_an_empty_block : Becomes (source
    (integer a ((upto 3) ∷ []) ∷ integer b ((upto 3) ∷ []) ∷ [])
    (line 4 (Masked (Binary bin.Gt (name a) (Number 0)) (line 5 (Assign (name a) (Unary un.Minus (name a))) ∷ []) (roll-Else (record { line = 6; mask = (Some (Binary bin.Gt (Binary bin.Div (Number 1) (name b)) (Number 0))); block = ([]) }) ∷ []))
    ∷ []))
    (declare a three
    ∷ declare b three
    ∷ holds 4 what.Masked ([]) ((number 4 0 ∷ elemental 4 I1 (apply 4 0 ∷ compare 4 op.Gt 4 2 ∷ yields_element 4 5 ∷ []) ∷ yields 4 (3 ∷ []) ∷ []) ∷ (assign 5 (elemental 5 I32 (apply 5 0 ∷ neg 5 7 ∷ yields_element 5 8 ∷ []) ∷ yields 5 (6 ∷ []) ∷ []) (yields 5 (0 ∷ []) ∷ []) ∷ []) ∷ (holds 6 what.Elsewhere ([]) ((number 6 1 ∷ elemental 6 I32 (apply 6 1 ∷ binary 6 op.Div 9 11 ∷ yields_element 6 12 ∷ []) ∷ number 6 0 ∷ elemental 6 I1 (apply 6 10 ∷ compare 6 op.Gt 15 13 ∷ yields_element 6 16 ∷ []) ∷ yields 6 (14 ∷ []) ∷ []) ∷ ([]) ∷ []) ∷ []) ∷ [])
    ∷ [])
unfolding modules_open
mask_of_an_empty_block = refl

-- integer, allocatable :: p(:)
-- logical :: m(3), t(3)
-- where (m)
-- where (t) p = 1
-- elsewhere (t)
-- p = 2
-- elsewhere
-- p = 3
-- end where
mask_in_a_mask : Becomes (source
    (allocatable p (bound.Deferred ∷ []) ∷ logical m ((upto 3) ∷ []) ∷ logical t ((upto 3) ∷ []) ∷ [])
    (line 2 (Masked (name m) (line 3 (Masked (name t) (line 3 (Assign (name p) (Number 1)) ∷ []) ([])) ∷ []) (roll-Else (record { line = 4; mask = (Some (name t)); block = (line 5 (Assign (name p) (Number 2)) ∷ []) }) ∷ roll-Else (record { line = 6; mask = None; block = (line 7 (Assign (name p) (Number 3)) ∷ []) }) ∷ []))
    ∷ []))
    (declare p deferred
    ∷ declare m three_truths
    ∷ declare t three_truths
    ∷ holds 2 what.Masked ([]) ((yields 2 (1 ∷ []) ∷ []) ∷ (holds 3 what.Masked ([]) ((yields 3 (2 ∷ []) ∷ []) ∷ (assign 3 (number 3 1 ∷ yields 3 (3 ∷ []) ∷ []) (box 3 0 ∷ yields 3 (4 ∷ []) ∷ []) ∷ []) ∷ []) ∷ []) ∷ (holds 4 what.Elsewhere ([]) ((yields 4 (2 ∷ []) ∷ []) ∷ (assign 5 (number 5 2 ∷ yields 5 (5 ∷ []) ∷ []) (box 5 0 ∷ yields 5 (6 ∷ []) ∷ []) ∷ []) ∷ []) ∷ holds 6 what.Elsewhere ([]) ((assign 7 (number 7 3 ∷ yields 7 (7 ∷ []) ∷ []) (box 7 0 ∷ yields 7 (8 ∷ []) ∷ []) ∷ []) ∷ []) ∷ []) ∷ [])
    ∷ [])
unfolding modules_open
mask_in_a_mask = refl

-- integer :: i, a(3)
-- !$omp parallel workshare
-- forall (i = 1:3) a(i/2 + 1) = i
index_of_a_forall : Becomes (source
    (integer i ([]) ∷ integer a ((upto 3) ∷ []) ∷ [])
    (line 2 (Shared (line 3 (Forall (record { name = i; l = (Number 1); u = (Number 3); s = None } ∷ []) None (line 3 (Assign (Part a ((sub.One (Binary bin.Add (Binary bin.Div (name i) (Number 2)) (Number 1))) ∷ [])) (name i)) ∷ [])) ∷ []))
    ∷ []))
    (declare i scalar
    ∷ declare a three
    ∷ holds 2 what.Workshare ([]) ((holds 3 (what.Forall (i ∷ [])) ([]) ((number 3 1 ∷ number 3 3 ∷ number 3 1 ∷ yields 3 (2 ∷ 3 ∷ 4 ∷ []) ∷ []) ∷ (assign 3 (yields 3 (5 ∷ []) ∷ []) (number 3 2 ∷ binary 3 op.Div 5 6 ∷ number 3 1 ∷ binary 3 op.Add 7 8 ∷ element_of 3 (subs.One ∷ []) (1 ∷ 9 ∷ []) ∷ yields 3 (10 ∷ []) ∷ []) ∷ []) ∷ []) ∷ []) ∷ [])
    ∷ [])
unfolding modules_open
index_of_a_forall = refl

-- integer :: i, a(3)
-- forall (i = 1:3:0) a(i) = 1
zero_stride : Becomes (source
    (integer i ([]) ∷ integer a ((upto 3) ∷ []) ∷ [])
    (line 2 (Forall (record { name = i; l = (Number 1); u = (Number 3); s = (Some (Number 0)) } ∷ []) None (line 2 (Assign (Part a ((sub.One (name i)) ∷ [])) (Number 1)) ∷ []))
    ∷ []))
    (declare i scalar
    ∷ declare a three
    ∷ holds 2 (what.Forall (i ∷ [])) ([]) ((number 2 1 ∷ number 2 3 ∷ number 2 0 ∷ yields 2 (2 ∷ 3 ∷ 4 ∷ []) ∷ []) ∷ (assign 2 (number 2 1 ∷ yields 2 (6 ∷ []) ∷ []) (element_of 2 (subs.One ∷ []) (1 ∷ 5 ∷ []) ∷ yields 2 (7 ∷ []) ∷ []) ∷ []) ∷ [])
    ∷ [])
unfolding modules_open
zero_stride = refl

-- integer :: i, j, n, c(3,2)
-- forall (i = 1:n, j = 1:2, i < j)
-- c(i,j) = 0
-- end forall
mask_of_a_forall : Becomes (source
    (integer i ([]) ∷ integer j ([]) ∷ integer n ([]) ∷ integer c ((upto 3) ∷ (upto 2) ∷ []) ∷ [])
    (line 2 (Forall (record { name = i; l = (Number 1); u = (name n); s = None } ∷ record { name = j; l = (Number 1); u = (Number 2); s = None } ∷ []) (Some (Binary bin.Lt (name i) (name j))) (line 3 (Assign (Part c ((sub.One (name i)) ∷ (sub.One (name j)) ∷ [])) (Number 0)) ∷ []))
    ∷ []))
    (declare i scalar
    ∷ declare j scalar
    ∷ declare n scalar
    ∷ declare c (kind.Declared I32 (shape_of (dim (pos 1) 3 ∷ dim (pos 1) 2 ∷ [])))
    ∷ holds 2 (what.Forall (i ∷ j ∷ [])) ([]) ((number 2 1 ∷ load 2 2 ∷ number 2 1 ∷ number 2 1 ∷ number 2 2 ∷ number 2 1 ∷ yields 2 (4 ∷ 5 ∷ 6 ∷ 7 ∷ 8 ∷ 9 ∷ []) ∷ []) ∷ (holds 2 what.ForallMask ([]) ((compare 2 op.Lt 10 11 ∷ yields 2 (12 ∷ []) ∷ []) ∷ []) ∷ assign 3 (number 3 0 ∷ yields 3 (13 ∷ []) ∷ []) (element_of 3 (subs.One ∷ subs.One ∷ []) (3 ∷ 10 ∷ 11 ∷ []) ∷ yields 3 (14 ∷ []) ∷ []) ∷ []) ∷ [])
    ∷ [])
unfolding modules_open
mask_of_a_forall = refl
