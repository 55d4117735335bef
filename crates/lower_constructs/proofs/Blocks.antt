-- The forms of constructs, over the lists that the code goes over.
use Rattle.std.proofs.Common.{◌≡◌, refl, sym, ap, ◌∙◌, ℕ, Bool, false, ◌+◌, ◌<◌, List, [], ◌∷◌, ◌++◌, length, map, drop, get_or, Option, Some, None}
use Rattle.std.specs.Prelude.{⊤, ◌==◌}
use Rattle.std.proofs.lemmas.Bool.{false≢true}
use Rattle.ws_base.specs.declared.name.Name.{Name}
use Rattle.ws_tree.specs.declared.expr.Expr.{Expr}
use Rattle.ws_tree.specs.declared.stmt.Index.{Index}
use Rattle.ws_tree.specs.declared.stmt.Stmt.{Stmt}
use Rattle.ws_tree.specs.declared.stmt.Else.{Else}
use Rattle.ws_tree.specs.declared.stmt.Body.{Body}
use Rattle.ws_tree.specs.declared.stmt.Body.TheVariants.{Masked, Forall, Loop, Shared}
use Rattle.ws_tree.specs.declared.stmt.Body.TheBlock.{hidden-the_row-Stmt-0, hidden-the_row-Else-1}
use Rattle.ws_tree.specs.declared.stmt.Body.TheViews.{roll-Else, out-Else, roll-out-Else}
use Rattle.ws_tree.specs.Opened.{trees_open}
use Rattle.ws_types.proofs.Appended.{front}
use Rattle.hlfir_ops.specs.declared.what.What.TheVariants as what
use Rattle.hlfir_ops.specs.Built.{Built}
use Rattle.lower_values.specs.declared.names.Names.{Names}
use Rattle.lower_values.specs.Lowerings.{Lowering, ◌>>◌, scoped, statement_of, Appends}
use Rattle.lower_values.specs.References.{declare_of}
use Rattle.lower_values.specs.Values.{value}
use Rattle.lower_assign.specs.Statements.{yielded, all_yielded}
use Rattle.lower_values.proofs.Appended.{appends-by, appends-next, appends-scoped}
use Rattle.lower_values.proofs.Turns.{LowersAll, lowers-next}
use Rattle.lower_constructs.specs.Modules.{triple, triples, forall_mask, third, elsewhere, statement, statements, elsewheres, statement_list}
use Rattle.lower_constructs.specs.Lists.{mask_of, else_part, else_list, third_of, forall_body}
use Rattle.lower_constructs.specs.Filled.{Fills}

-- ---- lists

stmts_list : (ss : List Stmt) → statements (hidden-the_row-Stmt-0 ss) ≡ statement_list ss
unfolding trees_open
stmts_list [] = refl
stmts_list (t ∷ ts) = ap (λ r. statement t.line t.body >> r) (stmts_list ts)

elses_front : (e : Else) (es : List Else) →
    elsewheres (hidden-the_row-Else-1 (roll-Else (out-Else e) ∷ es)) ≡ (elsewhere (out-Else e).line (out-Else e).mask (statements (hidden-the_row-Stmt-0 (out-Else e).block)) >> elsewheres (hidden-the_row-Else-1 es))
unfolding trees_open
elses_front e es = refl

elses_list : (es : List Else) → elsewheres (hidden-the_row-Else-1 es) ≡ else_list es
unfolding trees_open
elses_list [] = refl
elses_list (e ∷ es) =
    ap (λ x. elsewheres (hidden-the_row-Else-1 (x ∷ es))) (sym (roll-out-Else e)) ∙ (elses_front e es ∙
    (ap (λ b. elsewhere (out-Else e).line (out-Else e).mask b >> elsewheres (hidden-the_row-Else-1 es)) (stmts_list (out-Else e).block) ∙
    ap (λ r. else_part e >> r) (elses_list es)))

third_front : (e : Else) (es : List Else) → third (hidden-the_row-Else-1 (e ∷ es)) (elsewheres (hidden-the_row-Else-1 (e ∷ es))) ≡ elsewheres (hidden-the_row-Else-1 (e ∷ es)) ∷ []
unfolding trees_open
third_front e es = refl

third_list : (es : List Else) → third (hidden-the_row-Else-1 es) (elsewheres (hidden-the_row-Else-1 es)) ≡ third_of es
unfolding trees_open
third_list [] = refl
third_list (e ∷ es) = third_front e es ∙ ap (λ p. p ∷ []) (elses_list (e ∷ es))

pub third-some : (es : List Else) (empty : Bool) → empty ≡ (length es == 0) → empty ≡ false → third_of es ≡ else_list es ∷ []
third-some [] empty is some = absurd (false≢true (sym some ∙ is))
third-some (e ∷ es) empty is some = refl

-- ---- items one after another

-- a lowering that makes nothing, and another one after it
pub then : {names : Names} (p q : Lowering ⊤) {old mid new : Built} → Appends names p old mid tt → Appends names q mid new tt → Appends names (p >> q) old new tt
then {names} p q {old} {mid} {new} first second = appends-next names p (λ _. q) old mid new tt tt first second

-- one item more of a list that is lowered item by item
pub next-lowered : {X : Type 0} (names : Names) (one : X → Lowering ⊤) (all : List X → Lowering ⊤) → ((x : X) (xs : List X) → all (x ∷ xs) ≡ (one x >> all xs)) → (xs : List X) (i : ℕ) (x : X) {initial build mid : Built} → i < length xs → x ≡ get_or xs i x →
    LowersAll names (λ _. all) xs i initial build → Appends names (one x) build mid tt → LowersAll names (λ _. all) xs (i + 1) initial mid
next-lowered names one all more xs i x low is before first =
    lowers-next names (λ _. all) xs i x (front xs i x low is) before (λ new h. appends-by (sym (more x (drop (i + 1) xs))) refl (then (one x) (all (drop (i + 1) xs)) first h))

-- ---- forms

masked_is : (line : ℕ) (mask : Expr) (block : List Stmt) (rest : List Else) → statement line (Masked mask block rest) ≡ statement_of what.Masked line [] (yielded (value mask) ∷ statement_list block ∷ third_of rest)
unfolding trees_open
masked_is line mask block rest =
    ap (λ b. statement_of what.Masked line [] (yielded (value mask) ∷ b ∷ third (hidden-the_row-Else-1 rest) (elsewheres (hidden-the_row-Else-1 rest)))) (stmts_list block) ∙
    ap (λ ps. statement_of what.Masked line [] (yielded (value mask) ∷ statement_list block ∷ ps)) (third_list rest)

forall_is : (line : ℕ) (is : List Index) (mask : Option Expr) (block : List Stmt) → statement line (Forall is mask block) ≡ statement_of (what.Forall (map (λ i. i.name) is)) line [] (all_yielded (triples is) ∷ forall_body mask block ∷ [])
unfolding trees_open
forall_is line is mask block = ap (λ b. statement_of (what.Forall (map (λ i. i.name) is)) line [] (all_yielded (triples is) ∷ (forall_mask mask >> b) ∷ [])) (stmts_list block)

loop_is : (line : ℕ) (x : Name) (l u : Expr) (s : Option Expr) (block : List Stmt) →
    statement line (Loop x l u s block) ≡ scoped (λ c. statement_of what.DoLoop line ((declare_of c.names x).value ∷ []) (all_yielded (triple l u s) ∷ statement_list block ∷ []))
unfolding trees_open
loop_is line x l u s block = ap (λ b. scoped (λ c. statement_of what.DoLoop line ((declare_of c.names x).value ∷ []) (all_yielded (triple l u s) ∷ b ∷ []))) (stmts_list block)

shared_is : (line : ℕ) (block : List Stmt) → statement line (Shared block) ≡ statement_of what.Workshare line [] (statement_list block ∷ [])
unfolding trees_open
shared_is line block = ap (λ b. statement_of what.Workshare line [] (b ∷ [])) (stmts_list block)

elsewhere_is : (line : ℕ) (mask : Option Expr) (block : Lowering ⊤) → elsewhere line mask block ≡ statement_of what.Elsewhere line [] (mask_of mask ++ block ∷ [])
elsewhere_is line (Some e) block = refl
elsewhere_is line None block = refl

-- ---- what the code appends at each form

module _ (names : Names) (line : ℕ) (whole : Body) where
  pub masked-lowered : (mask : Expr) (block block' : List Stmt) (rest rest' : List Else) (old one two new : Built) → whole ≡ Masked mask block rest → block' ≡ block → rest' ≡ rest →
      Appends names (statement_of what.Masked line [] (yielded (value mask) ∷ [])) old one tt → Fills names (statement_list block' ∷ []) one two → Fills names (third_of rest') two new → Appends names (statement line whole) old new tt
  masked-lowered mask block block' rest rest' old one two new is sb sr first second third' =
      let with_block = second.next what.Masked line [] (yielded (value mask) ∷ []) old first in
      let with_all = third'.next what.Masked line [] (yielded (value mask) ∷ statement_list block' ∷ []) old with_block in
      let same = ap (λ b. statement_of what.Masked line [] (yielded (value mask) ∷ statement_list b ∷ third_of rest')) sb ∙
      (ap (λ r. statement_of what.Masked line [] (yielded (value mask) ∷ statement_list block ∷ third_of r)) sr ∙ (sym (masked_is line mask block rest) ∙ sym (ap (statement line) is))) in
      appends-by same refl with_all

  pub forall-lowered : (is is' : List Index) (mask : Option Expr) (block block' : List Stmt) (old one new : Built) → whole ≡ Forall is mask block → is' ≡ is → block' ≡ block →
      Appends names (statement_of (what.Forall (map (λ i. i.name) is')) line [] (all_yielded (triples is') ∷ [])) old one tt → Fills names (forall_body mask block' ∷ []) one new → Appends names (statement line whole) old new tt
  forall-lowered is is' mask block block' old one new form si sb first second =
      let with_block = second.next (what.Forall (map (λ i. i.name) is')) line [] (all_yielded (triples is') ∷ []) old first in
      let same = ap (λ js. statement_of (what.Forall (map (λ i. i.name) js)) line [] (all_yielded (triples js) ∷ forall_body mask block' ∷ [])) si ∙
      (ap (λ b. statement_of (what.Forall (map (λ i. i.name) is)) line [] (all_yielded (triples is) ∷ forall_body mask b ∷ [])) sb ∙ (sym (forall_is line is mask block) ∙ sym (ap (statement line) form))) in
      appends-by same refl with_block

  pub loop-lowered : (x : Name) (l u : Expr) (s : Option Expr) (block block' : List Stmt) (old one new : Built) → whole ≡ Loop x l u s block → block' ≡ block →
      Appends names (statement_of what.DoLoop line ((declare_of names x).value ∷ []) (all_yielded (triple l u s) ∷ [])) old one tt → Fills names (statement_list block' ∷ []) one new → Appends names (statement line whole) old new tt
  loop-lowered x l u s block block' old one new is sb first second =
      let with_block = second.next what.DoLoop line ((declare_of names x).value ∷ []) (all_yielded (triple l u s) ∷ []) old first in
      let here = appends-by (ap (λ b. statement_of what.DoLoop line ((declare_of names x).value ∷ []) (all_yielded (triple l u s) ∷ statement_list b ∷ [])) sb) refl with_block in
      let same = sym (loop_is line x l u s block) ∙ sym (ap (statement line) is) in
      appends-by same refl (appends-scoped names (λ c. statement_of what.DoLoop line ((declare_of c.names x).value ∷ []) (all_yielded (triple l u s) ∷ statement_list block ∷ [])) old new tt here)

  pub shared-lowered : (block block' : List Stmt) (old one new : Built) → whole ≡ Shared block → block' ≡ block →
      Appends names (statement_of what.Workshare line [] []) old one tt → Fills names (statement_list block' ∷ []) one new → Appends names (statement line whole) old new tt
  shared-lowered block block' old one new is sb first second =
      let with_block = second.next what.Workshare line [] [] old first in
      let same = ap (λ b. statement_of what.Workshare line [] (statement_list b ∷ [])) sb ∙ (sym (shared_is line block) ∙ sym (ap (statement line) is)) in
      appends-by same refl with_block

pub else-lowered : (names : Names) (e : Else) (block : List Stmt) (old one new : Built) → block ≡ (out-Else e).block →
    Appends names (statement_of what.Elsewhere (out-Else e).line [] (mask_of (out-Else e).mask)) old one tt → Fills names (statement_list block ∷ []) one new → Appends names (else_part e) old new tt
else-lowered names e block old one new sb first second =
    let line = (out-Else e).line in
    let ps = mask_of (out-Else e).mask in
    let with_block = second.next what.Elsewhere line [] ps old first in
    appends-by (ap (λ b. statement_of what.Elsewhere line [] (ps ++ statement_list b ∷ [])) sb ∙ sym (elsewhere_is line (out-Else e).mask (statement_list (out-Else e).block))) refl with_block
