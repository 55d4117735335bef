-- The pieces at each form of statement, over the lists that the code goes over.
use Rattle.std.proofs.Common.{◌≡◌, refl, ap, sym, ◌∙◌, Bool, true, List, [], ◌∷◌, ◌++◌, Option}
use Rattle.ws_tree.specs.declared.expr.Expr.{Expr}
use Rattle.ws_tree.specs.declared.stmt.Stmt.{Stmt}
use Rattle.ws_tree.specs.declared.stmt.Else.{Else}
use Rattle.ws_tree.specs.declared.stmt.Index.{Index}
use Rattle.ws_tree.specs.declared.stmt.Body.{Body}
use Rattle.ws_tree.specs.declared.stmt.Body.TheVariants.{Masked, Forall}
use Rattle.ws_tree.specs.declared.stmt.Body.TheBlock.{hidden-the_row-Stmt-0, hidden-the_row-Else-1}
use Rattle.ws_tree.specs.declared.stmt.Body.TheViews.{roll-Else, out-Else, roll-out-Else}
use Rattle.ws_tree.specs.Opened.{trees_open}
use Rattle.ws_types.specs.declared.types.Row.{Row}
use Rattle.ws_types.specs.Tables.{inner}
use Rattle.ws_counts.specs.declared.tally.Tally.{Tally}
use Rattle.ws_counts.specs.Pieces as one
use Rattle.ws_counts.specs.Lists as lists
use Rattle.ws_counts.specs.Tallies.{tallied}
use Rattle.ws_counts.proofs.Tallied.{tallied-append}

block_list : (t : List Row) (inside : Bool) (ss : List Stmt) → one.block_pieces t inside (hidden-the_row-Stmt-0 ss) ≡ lists.block_pieces t inside ss
unfolding trees_open
block_list t inside [] = refl
block_list t inside (x ∷ xs) = ap (λ r. one.where_pieces t inside x.body ++ r) (block_list t inside xs)

elses_list : (t : List Row) (inside : Bool) (es : List Else) → one.elses_pieces t inside (hidden-the_row-Else-1 es) ≡ lists.elses_pieces t inside es
unfolding trees_open
elses_list t inside [] = refl
elses_list t inside (e ∷ es) = ap (λ r. one.else_pieces t inside e ++ one.unless_last e r) (elses_list t inside es)

forall_list : (t : List Row) (ss : List Stmt) → one.forall_pieces t (hidden-the_row-Stmt-0 ss) ≡ lists.forall_pieces t ss
unfolding trees_open
forall_list t [] = refl
forall_list t (x ∷ xs) = ap (λ r. one.statement_pieces t true x.body ++ r) (forall_list t xs)

masked_is : (t : List Row) (inside : Bool) (mask : Expr) (block : List Stmt) (rest : List Else) → one.where_pieces t inside (Masked mask block rest) ≡ one.mask_pieces t inside mask ++ lists.block_pieces t inside block ++ lists.elses_pieces t inside rest
unfolding trees_open
masked_is t inside mask block rest = rw (block_list t inside block, elses_list t inside rest)

forall_is : (t : List Row) (inside : Bool) (is : List Index) (mask : Option Expr) (block : List Stmt) → one.statement_pieces t inside (Forall is mask block) ≡ one.header_pieces t is mask ++ lists.forall_pieces (inner t is) block
unfolding trees_open
forall_is t inside is mask block = rw (forall_list (inner t is) block)

else_is : (t : List Row) (inside : Bool) (e : Else) → one.else_pieces t inside (roll-Else (out-Else e)) ≡ one.given_mask_pieces t inside (out-Else e).mask ++ lists.block_pieces t inside (out-Else e).block
unfolding trees_open
else_is t inside e = rw (block_list t inside (out-Else e).block)

-- ---- what the code counts at each form

pub masked_counted : (t : List Row) (inside : Bool) (whole : Body) (mask : Expr) (block block' : List Stmt) (rest rest' : List Else) (k0 k1 k2 k3 : Tally) →
    whole ≡ Masked mask block rest → block' ≡ block → rest' ≡ rest →
    k1 ≡ tallied k0 (one.mask_pieces t inside mask) → k2 ≡ tallied k1 (lists.block_pieces t inside block') → k3 ≡ tallied k2 (lists.elses_pieces t inside rest') →
    k3 ≡ tallied k0 (one.where_pieces t inside whole)
masked_counted t inside whole mask block block' rest rest' k0 k1 k2 k3 is sb sr e1 e2 e3 =
    e3
    ∙ ap (λ r. tallied k2 (lists.elses_pieces t inside r)) sr
    ∙ ap (λ k. tallied k (lists.elses_pieces t inside rest)) (e2 ∙ ap (λ b. tallied k1 (lists.block_pieces t inside b)) sb ∙ ap (λ k. tallied k (lists.block_pieces t inside block)) e1 ∙ sym (tallied-append k0 (one.mask_pieces t inside mask) (lists.block_pieces t inside block)))
    ∙ sym (tallied-append k0 (one.mask_pieces t inside mask ++ lists.block_pieces t inside block) (lists.elses_pieces t inside rest))
    ∙ ap (tallied k0) (sym (masked_is t inside mask block rest))
    ∙ ap (λ b. tallied k0 (one.where_pieces t inside b)) (sym is)

pub else_counted : (t : List Row) (inside : Bool) (e : Else) (block : List Stmt) (k0 k1 k2 : Tally) →
    block ≡ (out-Else e).block → k1 ≡ tallied k0 (one.given_mask_pieces t inside (out-Else e).mask) → k2 ≡ tallied k1 (lists.block_pieces t inside block) → k2 ≡ tallied k0 (one.else_pieces t inside e)
else_counted t inside e block k0 k1 k2 sb e1 e2 =
    e2
    ∙ ap (λ b. tallied k1 (lists.block_pieces t inside b)) sb
    ∙ ap (λ k. tallied k (lists.block_pieces t inside (out-Else e).block)) e1
    ∙ sym (tallied-append k0 (one.given_mask_pieces t inside (out-Else e).mask) (lists.block_pieces t inside (out-Else e).block))
    ∙ ap (tallied k0) (sym (else_is t inside e) ∙ ap (one.else_pieces t inside) (roll-out-Else e))

pub forall_counted : (t : List Row) (inside : Bool) (whole : Body) (is is' : List Index) (mask : Option Expr) (block block' : List Stmt) (table : List Row) (k0 k1 k2 : Tally) →
    whole ≡ Forall is mask block → block' ≡ block → is' ≡ is → table ≡ inner t is' →
    k1 ≡ tallied k0 (one.header_pieces t is' mask) → k2 ≡ tallied k1 (lists.forall_pieces table block') → k2 ≡ tallied k0 (one.statement_pieces t inside whole)
forall_counted t inside whole is is' mask block block' table k0 k1 k2 e sb si known e1 e2 =
    e2
    ∙ ap (λ b. tallied k1 (lists.forall_pieces table b)) sb
    ∙ ap (λ r. tallied k1 (lists.forall_pieces r block)) (known ∙ ap (inner t) si)
    ∙ ap (λ k. tallied k (lists.forall_pieces (inner t is) block)) (e1 ∙ ap (λ i. tallied k0 (one.header_pieces t i mask)) si)
    ∙ sym (tallied-append k0 (one.header_pieces t is mask) (lists.forall_pieces (inner t is) block))
    ∙ ap (tallied k0) (sym (forall_is t inside is mask block))
    ∙ ap (λ b. tallied k0 (one.statement_pieces t inside b)) (sym e)
