-- The walks at each form of statement, over the lists that the code goes over.
use Rattle.std.proofs.Common.{◌≡◌, refl, ap, sym, ◌∙◌, ℕ, true, false, List, [], ◌∷◌, ◌++◌, Option, if◌then◌else◌}
use Rattle.ws_base.specs.declared.refusal.Refusal.{Refusal}
use Rattle.ws_tree.specs.declared.expr.Expr.{Expr}
use Rattle.ws_tree.specs.declared.stmt.Stmt.{Stmt}
use Rattle.ws_tree.specs.declared.stmt.Else.{Else}
use Rattle.ws_tree.specs.declared.stmt.Index.{Index}
use Rattle.ws_tree.specs.declared.stmt.Body.TheVariants.{Masked, Forall, Loop, Shared}
use Rattle.ws_tree.specs.declared.stmt.Body.TheBlock.{hidden-the_row-Stmt-0, hidden-the_row-Else-1}
use Rattle.ws_tree.specs.Opened.{trees_open}
use Rattle.ws_tree.specs.declared.stmt.Body.TheViews.{roll-Else, out-Else, roll-out-Else}
use Rattle.ws_base.specs.declared.refusal.RefusalKind.TheVariants as kind
use Rattle.ws_types.specs.declared.types.Row.{Row}
use Rattle.ws_sema.specs.declared.within.Within.{Within}
use Rattle.ws_sema.specs.declared.within.Within.TheVariants as within
use Rattle.ws_types.specs.Kinds.{when, least_from}
use Rattle.ws_tree.specs.declared.stmt.Body.{Body}
use Rattle.ws_tree.specs.declared.expr.Expr.TheVariants.{Part}
use Rattle.ws_tree.specs.declared.expr.Sub.{Sub}
use Rattle.ws_types.specs.declared.types.Subscripts.{Subscripts}
use Rattle.ws_types.specs.Operations.{no_subscripts}
use Rattle.ws_types.specs.Lists as lists
use Rattle.ws_types.proofs.Walks.{subscripts_list}
use Rattle.ws_types.specs.Tables as tables
use Rattle.ws_sema.specs.Statements as s
use Rattle.ws_types.proofs.Appended.{least-append, least-none}

block_list : (t : List Row) (w : Within) (ss : List Stmt) → s.block_faults t w (hidden-the_row-Stmt-0 ss) ≡ s.stmts_faults t w ss
unfolding trees_open
block_list t w [] = refl
block_list t w (x ∷ xs) = ap (λ r. s.body_faults t w x.line x.body ++ r) (block_list t w xs)

elses_list : (t : List Row) (line : ℕ) (first : Option ℕ) (es : List Else) → s.elses_faults t line first (hidden-the_row-Else-1 es) ≡ s.else_list_faults t line first es
unfolding trees_open
elses_list t line first [] = refl
elses_list t line first (e ∷ es) = ap (λ r. s.else_faults t line first e ++ r) (elses_list t line first es)

masked_is : (t : List Row) (w : Within) (line : ℕ) (mask : Expr) (block : List Stmt) (rest : List Else) → s.body_faults t w line (Masked mask block rest) ≡ (if s.is_inside w then when true line kind.Unsupported else (s.where_mask_faults t w line mask ++ s.stmts_faults t (s.under t line mask) block ++ s.else_list_faults t line (s.mask_rank t mask) rest))
unfolding trees_open
masked_is t w line mask block rest = rw (block_list t (s.under t line mask) block, elses_list t line (s.mask_rank t mask) rest)

forall_is : (t : List Row) (w : Within) (line : ℕ) (is : List Index) (mask : Option Expr) (block : List Stmt) → s.body_faults t w line (Forall is mask block) ≡ (if s.is_masked w then when true line kind.Unsupported else (s.forall_header_faults t line is mask ++ s.stmts_faults (tables.inner t is) within.Forall block))
unfolding trees_open
forall_is t w line is mask block = rw (block_list (tables.inner t is) within.Forall block)

loop_is : (t : List Row) (w : Within) (line : ℕ) (x : List ℕ) (l u : Expr) (st : Option Expr) (block : List Stmt) → s.body_faults t w line (Loop x l u st block) ≡ (if s.is_masked w then when true line kind.Unsupported else (s.loop_header_faults t w line x l u st ++ s.stmts_faults (s.with_active t x) w block))
unfolding trees_open
loop_is t w line x l u st block = rw (block_list (s.with_active t x) w block)

shared_is : (t : List Row) (w : Within) (line : ℕ) (block : List Stmt) → s.body_faults t w line (Shared block) ≡ (if s.is_outside w then s.stmts_faults t within.Shared block else when true line kind.Unsupported)
unfolding trees_open
shared_is t w line block = rw (block_list t within.Shared block)

-- ---- what the code notes at each form

pub masked_noted : (t : List Row) (w : Within) (line : ℕ) (whole : Body) (mask : Expr) (block block' : List Stmt) (rest rest' : List Else) (rank : Option ℕ) (f0 f1 f2 f3 : Option Refusal) →
    whole ≡ Masked mask block rest → block' ≡ block → rest' ≡ rest → s.is_inside w ≡ false → rank ≡ s.mask_rank t mask →
    f1 ≡ least_from f0 (s.where_mask_faults t w line mask) → f2 ≡ least_from f1 (s.stmts_faults t (within.Masked line rank) block') → f3 ≡ least_from f2 (s.else_list_faults t line rank rest') →
    f3 ≡ least_from f0 (s.body_faults t w line whole)
masked_noted t w line whole mask block block' rest rest' rank f0 f1 f2 f3 is sb sr free ranks e1 e2 e3 =
    let sum : List Refusal = s.where_mask_faults t w line mask ++ s.stmts_faults t (s.under t line mask) block ++ s.else_list_faults t line (s.mask_rank t mask) rest in
    let whole_is : s.body_faults t w line whole ≡ sum = ap (s.body_faults t w line) is ∙ masked_is t w line mask block rest ∙ ap (λ b. if b then when true line kind.Unsupported else sum) free in
    let block_is : f2 ≡ least_from f1 (s.stmts_faults t (s.under t line mask) block) = e2 ∙ ap (λ b. least_from f1 (s.stmts_faults t (within.Masked line rank) b)) sb ∙ ap (λ r. least_from f1 (s.stmts_faults t (within.Masked line r) block)) ranks in
    let rest_is : f3 ≡ least_from f2 (s.else_list_faults t line (s.mask_rank t mask) rest) = e3 ∙ ap (λ b. least_from f2 (s.else_list_faults t line rank b)) sr ∙ ap (λ r. least_from f2 (s.else_list_faults t line r rest)) ranks in
    rest_is
    ∙ ap (λ f. least_from f (s.else_list_faults t line (s.mask_rank t mask) rest)) (block_is ∙ ap (λ f. least_from f (s.stmts_faults t (s.under t line mask) block)) e1 ∙ sym (least-append f0 (s.where_mask_faults t w line mask) (s.stmts_faults t (s.under t line mask) block)))
    ∙ sym (least-append f0 (s.where_mask_faults t w line mask ++ s.stmts_faults t (s.under t line mask) block) (s.else_list_faults t line (s.mask_rank t mask) rest))
    ∙ ap (least_from f0) (sym whole_is)

pub forall_noted : (t : List Row) (w : Within) (line : ℕ) (whole : Body) (is is' : List Index) (mask : Option Expr) (block block' : List Stmt) (table : List Row) (f0 f1 f2 : Option Refusal) →
    whole ≡ Forall is mask block → block' ≡ block → is' ≡ is → s.is_masked w ≡ false → table ≡ tables.inner t is' →
    f1 ≡ least_from f0 (s.forall_header_faults t line is' mask) → f2 ≡ least_from f1 (s.stmts_faults table within.Forall block') →
    f2 ≡ least_from f0 (s.body_faults t w line whole)
forall_noted t w line whole is is' mask block block' table f0 f1 f2 e sb si free known e1 e2 =
    let sum : List Refusal = s.forall_header_faults t line is mask ++ s.stmts_faults (tables.inner t is) within.Forall block in
    let whole_is : s.body_faults t w line whole ≡ sum = ap (s.body_faults t w line) e ∙ forall_is t w line is mask block ∙ ap (λ b. if b then when true line kind.Unsupported else sum) free in
    e2
    ∙ ap (λ b. least_from f1 (s.stmts_faults table within.Forall b)) sb
    ∙ ap (λ r. least_from f1 (s.stmts_faults r within.Forall block)) (known ∙ ap (tables.inner t) si)
    ∙ ap (λ f. least_from f (s.stmts_faults (tables.inner t is) within.Forall block)) (e1 ∙ ap (λ i. least_from f0 (s.forall_header_faults t line i mask)) si)
    ∙ sym (least-append f0 (s.forall_header_faults t line is mask) (s.stmts_faults (tables.inner t is) within.Forall block))
    ∙ ap (least_from f0) (sym whole_is)

pub loop_noted : (t : List Row) (w : Within) (line : ℕ) (whole : Body) (x : List ℕ) (l u : Expr) (st : Option Expr) (block block' : List Stmt) (table : List Row) (f0 f1 f2 : Option Refusal) →
    whole ≡ Loop x l u st block → block' ≡ block → s.is_masked w ≡ false → table ≡ s.with_active t x →
    f1 ≡ least_from f0 (s.loop_header_faults t w line x l u st) → f2 ≡ least_from f1 (s.stmts_faults table w block') →
    f2 ≡ least_from f0 (s.body_faults t w line whole)
loop_noted t w line whole x l u st block block' table f0 f1 f2 e sb free tables e1 e2 =
    let sum : List Refusal = s.loop_header_faults t w line x l u st ++ s.stmts_faults (s.with_active t x) w block in
    let whole_is : s.body_faults t w line whole ≡ sum = ap (s.body_faults t w line) e ∙ loop_is t w line x l u st block ∙ ap (λ b. if b then when true line kind.Unsupported else sum) free in
    e2
    ∙ ap (λ b. least_from f1 (s.stmts_faults table w b)) sb
    ∙ ap (λ r. least_from f1 (s.stmts_faults r w block)) tables
    ∙ ap (λ f. least_from f (s.stmts_faults (s.with_active t x) w block)) e1
    ∙ sym (least-append f0 (s.loop_header_faults t w line x l u st) (s.stmts_faults (s.with_active t x) w block))
    ∙ ap (least_from f0) (sym whole_is)

pub shared_noted : (t : List Row) (w : Within) (line : ℕ) (whole : Body) (block block' : List Stmt) (f0 f1 : Option Refusal) →
    whole ≡ Shared block → block' ≡ block → s.is_outside w ≡ true → f1 ≡ least_from f0 (s.stmts_faults t within.Shared block') → f1 ≡ least_from f0 (s.body_faults t w line whole)
shared_noted t w line whole block block' f0 f1 e sb free e1 =
    let whole_is : s.body_faults t w line whole ≡ s.stmts_faults t within.Shared block = ap (s.body_faults t w line) e ∙ shared_is t w line block ∙ ap (λ b. if b then s.stmts_faults t within.Shared block else when true line kind.Unsupported) free in
    e1 ∙ ap (λ b. least_from f0 (s.stmts_faults t within.Shared b)) sb ∙ ap (least_from f0) (sym whole_is)

-- ---- vectors

vectors_of : (t : List Row) (x : List ℕ) (ss : List Sub) → s.has_vector t (Part x ss) ≡ (lists.subscripts t false no_subscripts ss).vectors
unfolding trees_open
vectors_of t x ss = ap (λ y. y.vectors) (subscripts_list t false no_subscripts ss)

pub vectors_is : (t : List Row) (whole : Expr) (x : List ℕ) (ss ss' : List Sub) (r : Subscripts) → whole ≡ Part x ss → ss' ≡ ss → r ≡ lists.subscripts t false no_subscripts ss' → r.vectors ≡ s.has_vector t whole
vectors_is t whole x ss ss' r is same value = ap (λ y. y.vectors) (value ∙ ap (lists.subscripts t false no_subscripts) same) ∙ sym (vectors_of t x ss) ∙ ap (s.has_vector t) (sym is)

pub ruleset block_rules = (least-append, least-none)

-- ---- ELSEWHERE

else_is : (t : List Row) (line : ℕ) (first : Option ℕ) (e : Else) → s.else_faults t line first (roll-Else (out-Else e)) ≡ s.else_mask_faults t (out-Else e).line first (out-Else e).mask ++ s.stmts_faults t (s.else_control t (out-Else e).line line first (out-Else e).mask) (out-Else e).block
unfolding trees_open
else_is t line first e = rw (block_list t (s.else_control t (out-Else e).line line first (out-Else e).mask) (out-Else e).block)

pub else_noted : (t : List Row) (line : ℕ) (first : Option ℕ) (e : Else) (control : Within) (block : List Stmt) (f0 f1 f2 : Option Refusal) →
    block ≡ (out-Else e).block → control ≡ s.else_control t (out-Else e).line line first (out-Else e).mask →
    f1 ≡ least_from f0 (s.else_mask_faults t (out-Else e).line first (out-Else e).mask) → f2 ≡ least_from f1 (s.stmts_faults t control block) →
    f2 ≡ least_from f0 (s.else_faults t line first e)
else_noted t line first e control block f0 f1 f2 sb sc e1 e2 =
    let under : Within = s.else_control t (out-Else e).line line first (out-Else e).mask in
    e2
    ∙ ap (λ b. least_from f1 (s.stmts_faults t control b)) sb
    ∙ ap (λ w. least_from f1 (s.stmts_faults t w (out-Else e).block)) sc
    ∙ ap (λ f. least_from f (s.stmts_faults t under (out-Else e).block)) e1
    ∙ sym (least-append f0 (s.else_mask_faults t (out-Else e).line first (out-Else e).mask) (s.stmts_faults t under (out-Else e).block))
    ∙ ap (least_from f0) (sym (else_is t line first e) ∙ ap (s.else_faults t line first) (roll-out-Else e))
