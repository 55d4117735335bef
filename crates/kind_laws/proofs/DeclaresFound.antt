-- The declares of a source are found where they stand first in its module.
use Rattle.std.proofs.Common.{◌≡◌, refl, ap, ◌∙◌, subst, ℕ, suc, ◌+◌, List, [], ◌∷◌, ◌++◌, map, All, Some, arith}
use Rattle.std.proofs.lemmas.List.Elements.{All-nil, All-cons}
use Rattle.ws_tree.specs.declared.stmt.Decl.{Decl}
use Rattle.ws_tree.specs.declared.stmt.Tree.{Tree}
use Rattle.ws_types.specs.declared.constant.Constant.{Constant}
use Rattle.ws_sema.specs.Declarations.{constants_after}
use Rattle.hlfir_ops.specs.declared.what.What.TheVariants as what
use Rattle.hlfir_ops.specs.declared.op.Op.{Op}
use Rattle.hlfir_ops.specs.Trees.{op_of}
use Rattle.hlfir_ops.specs.Numbers.{numbers_of}
use Rattle.hlfir_ops.specs.RulesValues.{Value, values_of}
use Rattle.hlfir_ops.proofs.Numbered.{op_numbers-op_of}
use Rattle.lower_values.specs.declared.names.Variable.{Variable}
use Rattle.lower_assign.specs.Known.{variable, variable_decls, numbered, names_of}
use Rattle.lower_values.specs.Scopes.{Scope, scope_at}
use Rattle.lower_values.specs.Lowerings.{done, ◌>>=◌, in_turn, giving}
use Rattle.kind_laws.specs.Found.{Holds, DeclareIsFound, IndexIsFound, ScopeIsFound}
use Rattle.kind_laws.proofs.Finding.{holds_after, own_value}
use Rattle.kind_laws.proofs.Held.{held-whole, held-first}
use Rattle.lower_constructs.specs.Modules.{declaration, statement_list, lowered}

abbrev pub declare_op : ℕ → Variable → Op
declare_op line v = op_of (what.Declare v.name) line [] (Some v.declare.kind) []

-- each variable becomes its declare, and nothing else
gives_declares : (k : ℕ) (v : Variable) (s : Scope) (n : ℕ) → (declaration k v s n).ops ≡ declare_op s.line v ∷ []
unfolding declaration giving done ◌>>=◌
gives_declares k v s n = refl

pub declares-ops : (vs : List Variable) (k n : ℕ) (s : Scope) → (in_turn declaration k vs s n).ops ≡ map (declare_op s.line) vs
unfolding in_turn done ◌>>=◌
declares-ops [] k n s = refl
declares-ops (v ∷ vs) k n s =
    let ops = (declaration k v s n).ops in
    ap (λ l. l ++ (in_turn declaration (suc k) vs s (n + numbers_of ops)).ops) (gives_declares k v s n) ∙ ap (λ l. declare_op s.line v ∷ l) (declares-ops vs (suc k) (n + numbers_of ops) s)

one_number : (line : ℕ) (v : Variable) → numbers_of (declare_op line v ∷ []) ≡ 1
one_number line v = omega (arith, op_numbers-op_of (what.Declare v.name) line [] (Some v.declare.kind) [])

-- they are numbered as they stand
pub declares-found : (vs : List Value) (line n : ℕ) (cs : List Constant) (ds : List Decl) → Holds vs n (map (declare_op line) (numbered n cs ds)) → All (DeclareIsFound vs) (numbered n cs ds)
declares-found vs line n cs [] h = All-nil (DeclareIsFound vs)
declares-found vs line n cs (d ∷ ds) h =
    let v = variable n cs d in
    let ops = map (declare_op line) (numbered (suc n) cs ds) in
    let next : n + numbers_of (declare_op line v ∷ []) ≡ suc n = omega (arith, one_number line v) in
    let rest : Holds vs (suc n) ops = subst (λ k. Holds vs k ops) next (holds_after vs _ (declare_op line v ∷ []) ops h) in
    All-cons (DeclareIsFound vs) v (numbered (suc n) cs ds) (own_value vs _ (what.Declare v.name) line [] v.declare.kind [] ops h) (declares-found vs line (suc n) cs ds rest)

pub outermost_found : (vs : List Value) (t : Tree) → Holds vs 0 (in_turn declaration 0 (names_of t).variables (scope_at (names_of t) []) 0).ops → ScopeIsFound vs (scope_at (names_of t) [])
outermost_found vs t held =
    let s = scope_at (names_of t) [] in
    record {
      variables = declares-found vs s.line 0 (constants_after [] t.decls) (variable_decls t.decls) (subst (Holds vs 0) (declares-ops (names_of t).variables 0 0 s) held);
      indexes = All-nil (IndexIsFound vs);
    }

-- so are they in the whole module
pub all_found : (t : Tree) → ScopeIsFound (values_of (lowered t).ops) (scope_at (names_of t) [])
unfolding lowered
all_found t =
    outermost_found (values_of (lowered t).ops) t
    (held-first (values_of (lowered t).ops) (in_turn declaration 0 (names_of t).variables) (λ _. statement_list t.body) (scope_at (names_of t) []) 0 (held-whole (lowered t).ops))
