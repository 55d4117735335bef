-- The parts of headers, and the declares.
use Rattle.std.proofs.Common.{◌≡◌, refl, ap, ◌∙◌, ℕ, suc, ◌+◌, List, [], ◌∷◌, ◌++◌, Option, Some, None, add-one}
use Rattle.std.specs.Prelude.{⊤}
use Rattle.ws_base.specs.declared.name.Name.{Name}
use Rattle.ws_tree.specs.declared.expr.Expr.{Expr}
use Rattle.ws_tree.specs.declared.stmt.Index.{Index}
use Rattle.ws_tree.specs.declared.stmt.Stmt.{Stmt}
use Rattle.ws_tree.specs.declared.stmt.Tree.{Tree}
use Rattle.hlfir_ops.specs.declared.what.What.TheVariants as what
use Rattle.hlfir_ops.specs.declared.op.ValueId.{ValueId}
use Rattle.hlfir_ops.specs.declared.op.Module.{Module}
use Rattle.hlfir_ops.specs.Built.{Built, begun, taken, line_around}
use Rattle.lower_values.specs.declared.names.Names.{Names}
use Rattle.lower_values.specs.declared.names.Variable.{Variable}
use Rattle.lower_values.specs.declared.operand.Operand.{Operand}
use Rattle.lower_values.specs.Scopes.{scope_at}
use Rattle.lower_assign.specs.Known.{names_of}
use Rattle.lower_values.specs.Lists.{stride}
use Rattle.lower_values.specs.Lowerings.{Lowering, done, ◌>>=◌, in_turn, giving, statement_of, grown, Appends}
use Rattle.lower_values.specs.Values.{value}
use Rattle.lower_assign.specs.Statements.{yielded}
use Rattle.lower_values.proofs.Appended.{appends-by, appends-done, appends-next, appends-map, appends-scoped}
use Rattle.lower_constructs.specs.Modules.{triple, triples, forall_mask, declaration, statement_list, program, lowered}

-- ---- headers

pub triple-is : (names : Names) (l u : Expr) (s : Option Expr) {old one two new : Built} {x y z : Operand} → Appends names (value l) old one x → Appends names (value u) one two y → Appends names (stride s) two new z →
    Appends names (triple l u s) old new (x.value ∷ y.value ∷ z.value ∷ [])
unfolding triple
triple-is names l u s {old} {one} {two} {new} {x} {y} {z} first second third =
    let three : List ValueId = x.value ∷ y.value ∷ z.value ∷ [] in
    appends-next names (value l) (λ a. value u >>= (λ b. stride s >>= (λ d. done (a.value ∷ b.value ∷ d.value ∷ [])))) old one new x three first
    (appends-next names (value u) (λ b. stride s >>= (λ d. done (x.value ∷ b.value ∷ d.value ∷ []))) one two new y three second
    (appends-map names (stride s) (λ d. x.value ∷ y.value ∷ d.value ∷ []) two new z third))

pub triples-none : triples [] ≡ done []
unfolding triples
triples-none = refl

pub triples-more : (names : Names) (i : Index) (is : List Index) {old mid : Built} {vs : List ValueId} → Appends names (triple i.l i.u i.s) old mid vs → (new : Built) (ws : List ValueId) → Appends names (triples is) mid new ws → Appends names (triples (i ∷ is)) old new (vs ++ ws)
unfolding triples
triples-more names i is {old} {mid} {vs} first new ws rest =
    appends-next names (triple i.l i.u i.s) (λ us. triples is >>= (λ ts. done (us ++ ts))) old mid new vs (vs ++ ws) first (appends-map names (triples is) (λ ts. vs ++ ts) mid new ws rest)

pub forall_mask-none : (names : Names) (b : Built) → Appends names (forall_mask None) b b tt
unfolding forall_mask
forall_mask-none names b = appends-done names b tt

pub forall_mask-some : (names : Names) (e : Expr) (line : ℕ) {old new : Built} → line ≡ line_around old.around → Appends names (statement_of what.ForallMask line [] (yielded (value e) ∷ [])) old new tt → Appends names (forall_mask (Some e)) old new tt
unfolding forall_mask
forall_mask-some names e line {old} {new} here h =
    appends-scoped names (λ s. statement_of what.ForallMask s.line [] (yielded (value e) ∷ [])) old new tt (appends-by (ap (λ l. statement_of what.ForallMask l [] (yielded (value e) ∷ [])) here) refl h)

-- ---- declares

pub declaration-is : (names : Names) (k : ℕ) (v : Variable) {old new : Built} {x : Operand} → Appends names (giving (what.Declare v.name) [] v.declare.kind) old new x → Appends names (declaration k v) old new tt
unfolding declaration
declaration-is names k v {old} {new} {x} h = appends-map names (giving (what.Declare v.name) [] v.declare.kind) (λ _. tt) old new x h

-- ---- sources

-- what the builder of a source ends as
abbrev whole : Tree → Built
whole t = grown (begun t.name) (program t (scope_at (names_of t) []) 0).ops

whole-built : (names : Names) (t tree : Tree) (name : Name) (body : List Stmt) (first mid last : Built) → names ≡ names_of t → tree ≡ t → name ≡ tree.name → body ≡ tree.body → first ≡ begun name →
    Appends names (in_turn declaration 0 names.variables) first mid tt → Appends names (statement_list body) mid last tt → last ≡ whole t
whole-built names t tree name body first mid last known same named listed start declares stmts =
    let begins : first ≡ begun t.name = start ∙ ap begun (named ∙ ap (λ u. u.name) same) in
    let all : Appends names (program t) first last tt =
    appends-next names (in_turn declaration 0 (names_of t).variables) (λ _. statement_list t.body) first mid last tt tt (appends-by (ap (λ ns. in_turn declaration 0 ns.variables) known) refl declares)
    (appends-by (ap statement_list (listed ∙ ap (λ u. u.body) same)) refl stmts) in
    let W : Names → Built → Built = λ ns b. grown b (program t (scope_at ns b.around) (taken b)).ops in
    all.ops ∙ (ap (W names) begins ∙ ap (λ ns. W ns (begun t.name)) known)

module _ (names : Names) (t tree : Tree) (name : Name) (body : List Stmt) (first mid last : Built) (known : names ≡ names_of t) (same : tree ≡ t) (named : name ≡ tree.name) (listed : body ≡ tree.body) (start : first ≡ begun name)
    (declares : Appends names (in_turn declaration 0 names.variables) first mid tt) (stmts : Appends names (statement_list body) mid last tt) where
  pub outermost : last.around ≡ []
  outermost = ap (λ b. b.around) (whole-built names t tree name body first mid last known same named listed start declares stmts)

  pub lowered-is : (record { name = last.name; ops = last.ops }) ≡ lowered t
  unfolding lowered
  lowered-is = let M : Built → Module = λ b. record { name = b.name; ops = b.ops } in ap M (whole-built names t tree name body first mid last known same named listed start declares stmts)
