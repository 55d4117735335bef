-- Declarations, one after another.
use Rattle.std.proofs.Common.{◌≡◌, ◌<◌, ◌≤◌, refl, sym, ap, ◌∙◌, subst, ℕ, ◌+◌, Bool, true, false, List, [], ◌∷◌, ◌++◌, length, drop, get_or, All, Option, Some, None, Result, Ok, Err, IfOk, ℤ, pos, arith, append_assoc, append-nil}
use Rattle.std.specs.Prelude.{if◌then◌else◌}
use Rattle.std.proofs.lemmas.List.{drop_more}
use Rattle.std.proofs.lemmas.List.Elements.{All-nil}
use Rattle.std.proofs.Math.ListN.{drop_of_length-le}
use Rattle.ws_space.specs.declared.state.Var.{Var}
use Rattle.ws_space.specs.Values.{Name}
use Rattle.ws_tree.specs.declared.stmt.Decl.{Decl}
use Rattle.array_meaning.specs.declared.world.Constant.{Constant}
use Rattle.array_meaning.specs.Program.{declared, declaring, names_where}
use Rattle.term_eval.specs.Limits.{IsWorld, IsVar, IsInteger}
use Rattle.slow_eval.specs.Known.{IsAlone}
use Rattle.step_eval.specs.Small.{IsSmallDecl, AreSmallDecls}

-- all declarations declare what was declared so far, and what the rest declares where these constants are known
pub record DeclaresSoFar (decls rest : List Decl) (cs : List Constant) (vs : List Var) : Type 0 where
  pub constants : (declared [] decls).0 ≡ (declared cs rest).0
  pub variables : (declared [] decls).1 ≡ vs ++ (declared cs rest).1
  pub small : AreSmallDecls cs rest

pub declares_none : (decls : List Decl) (cs : List Constant) (vs : List Var) → cs ≡ [] → vs ≡ [] → AreSmallDecls [] decls → DeclaresSoFar decls decls cs vs
declares_none decls cs vs ce ve small =
    let P : List Constant → Type 0 = λ l. DeclaresSoFar decls decls l vs in
    let Q : List Var → Type 0 = λ l. DeclaresSoFar decls decls [] l in
    let start : DeclaresSoFar decls decls [] [] = record { constants = refl; variables = refl; small = small } in
    subst P (sym ce) (subst Q (sym ve) start)

front : (decls : List Decl) (i : ℕ) (d : Decl) → i < length decls → d ≡ get_or decls i d → drop i decls ≡ d ∷ drop (i + 1) decls
front decls i d low item = drop_more decls i d low ∙ ap (λ x. x ∷ drop (i + 1) decls) (sym item)

at_front : (decls : List Decl) (i : ℕ) (d : Decl) (cs : List Constant) (vs : List Var) → i < length decls → d ≡ get_or decls i d → DeclaresSoFar decls (drop i decls) cs vs → DeclaresSoFar decls (d ∷ drop (i + 1) decls) cs vs
at_front decls i d cs vs low item so_far = let P : List Decl → Type 0 = λ l. DeclaresSoFar decls l cs vs in subst P (front decls i d low item) so_far

pub next_is_small : (decls : List Decl) (i : ℕ) (d : Decl) (cs : List Constant) (vs : List Var) → i < length decls → d ≡ get_or decls i d → DeclaresSoFar decls (drop i decls) cs vs → IsSmallDecl cs d
next_is_small decls i d cs vs low item so_far = (at_front decls i d cs vs low item so_far).small.0

one_more : (decls rest : List Decl) (d : Decl) (cs : List Constant) (vs : List Var) → DeclaresSoFar decls (d ∷ rest) cs vs → DeclaresSoFar decls rest (declaring d.constant cs d).0 (vs ++ (declaring d.constant cs d).1)
one_more decls rest d cs vs so_far = record {
  constants = so_far.constants;
  variables = so_far.variables ∙ sym (append_assoc vs (declaring d.constant cs d).1 (declared (declaring d.constant cs d).0 rest).1);
  small = so_far.small.1;
}

pub declares_next : (decls : List Decl) (i : ℕ) (d : Decl) (cs cs' : List Constant) (vs vs' : List Var) → i < length decls → d ≡ get_or decls i d → cs' ≡ (declaring d.constant cs d).0 → vs' ≡ vs ++ (declaring d.constant cs d).1 →
    DeclaresSoFar decls (drop i decls) cs vs → DeclaresSoFar decls (drop (i + 1) decls) cs' vs'
declares_next decls i d cs cs' vs vs' low item ce ve so_far =
    let rest : List Decl = drop (i + 1) decls in
    let P : List Constant → Type 0 = λ l. DeclaresSoFar decls (drop (i + 1) decls) l vs' in
    let Q : List Var → Type 0 = λ l. DeclaresSoFar decls (drop (i + 1) decls) (declaring d.constant cs d).0 l in
    subst P (sym ce) (subst Q (sym ve) (one_more decls rest d cs vs (at_front decls i d cs vs low item so_far)))

none_left : (decls : List Decl) (i : ℕ) (cs : List Constant) (vs : List Var) → length decls ≤ i → DeclaresSoFar decls (drop i decls) cs vs → DeclaresSoFar decls [] cs vs
none_left decls i cs vs high so_far = let P : List Decl → Type 0 = λ l. DeclaresSoFar decls l cs vs in subst P (drop_of_length-le decls high) so_far

pub all_constants : (decls : List Decl) (i : ℕ) (cs : List Constant) (vs : List Var) → length decls ≤ i → DeclaresSoFar decls (drop i decls) cs vs → cs ≡ (declared [] decls).0
all_constants decls i cs vs high so_far = sym (none_left decls i cs vs high so_far).constants

pub all_variables : (decls : List Decl) (i : ℕ) (cs : List Constant) (vs : List Var) → length decls ≤ i → DeclaresSoFar decls (drop i decls) cs vs → vs ≡ (declared [] decls).1
all_variables decls i cs vs high so_far = sym ((none_left decls i cs vs high so_far).variables ∙ append-nil vs)

-- ---- the names of some declarations

abbrev pub NamesSoFar : (Decl → Bool) → List Decl → List Decl → List Name → Type 0
NamesSoFar test decls rest names = names_where test decls ≡ names ++ names_where test rest

at_test : (test : Decl → Bool) (rest : List Decl) (d : Decl) (b : Bool) → test d ≡ b → names_where test (d ∷ rest) ≡ (if b then d.name ∷ names_where test rest else names_where test rest)
at_test test rest d b e = ap (λ c. if c then d.name ∷ names_where test rest else names_where test rest) e

pub named : (test : Decl → Bool) (decls : List Decl) (i : ℕ) (d : Decl) (names names' : List Name) → i < length decls → d ≡ get_or decls i d → test d ≡ true → names' ≡ names ++ d.name ∷ [] →
    NamesSoFar test decls (drop i decls) names → NamesSoFar test decls (drop (i + 1) decls) names'
named test decls i d names names' low item holds ne so_far =
    so_far ∙ ap (λ l. names ++ names_where test l) (front decls i d low item) ∙ ap (λ l. names ++ l) (at_test test (drop (i + 1) decls) d true holds)
    ∙ sym (append_assoc names (d.name ∷ []) (names_where test (drop (i + 1) decls))) ∙ ap (λ l. l ++ names_where test (drop (i + 1) decls)) (sym ne)

pub not_named : (test : Decl → Bool) (decls : List Decl) (i : ℕ) (d : Decl) (names names' : List Name) → i < length decls → d ≡ get_or decls i d → test d ≡ false → names' ≡ names →
    NamesSoFar test decls (drop i decls) names → NamesSoFar test decls (drop (i + 1) decls) names'
not_named test decls i d names names' low item fails ne so_far =
    so_far ∙ ap (λ l. names ++ names_where test l) (front decls i d low item) ∙ ap (λ l. names ++ l) (at_test test (drop (i + 1) decls) d false fails) ∙ ap (λ l. l ++ names_where test (drop (i + 1) decls)) (sym ne)

pub all_named : (test : Decl → Bool) (decls : List Decl) (i : ℕ) (names : List Name) → length decls ≤ i → NamesSoFar test decls (drop i decls) names → names ≡ names_where test decls
all_named test decls i names high so_far = sym (so_far ∙ ap (λ l. names ++ names_where test l) (drop_of_length-le decls high) ∙ append-nil names)

-- ---- nothing is known

pub no_vars : (vs : List Var) → vs ≡ [] → All IsVar vs
no_vars vs e = let P : List Var → Type 0 = All IsVar in subst P (sym e) (All-nil IsVar)

no_constants : (cs : List Constant) → cs ≡ [] → All (λ c. IsInteger c.value) cs
no_constants cs e = let P : List Constant → Type 0 = All (λ c. IsInteger c.value) in subst P (sym e) (All-nil (λ c. IsInteger c.value))

pub nothing_alone : (cs : List Constant) (ns : List Name) (vs : List Var) → ns ≡ [] → vs ≡ [] → IsAlone (record { constants = cs; allocatables = ns; vars = vs })
nothing_alone cs ns vs ne ve = ap (λ l. record { constants = cs; allocatables = l; vars = vs }) ne ∙ ap (λ l. record { constants = cs; allocatables = []; vars = l }) ve

pub nothing_known : (cs : List Constant) (ns : List Name) (vs : List Var) → cs ≡ [] → vs ≡ [] → IsWorld (record { constants = cs; allocatables = ns; vars = vs })
nothing_known cs ns vs ce ve = record { vars = no_vars vs ve; constants = no_constants cs ce }
