-- The declares of a module: what they do in a run, and the variables that they begin.
use Rattle.std.proofs.Common.{◌≡◌, refl, sym, ap, ◌∙◌, ℕ, suc, ◌+◌, Bool, List, [], ◌∷◌, ◌++◌, map, length, Option, Some, None, Ok, nat_lt, append_assoc, arith}
use Rattle.std.specs.Prelude.{⊤}
use Rattle.ws_space.specs.declared.state.State.{State}
use Rattle.ws_space.specs.Runs.{run_of, and_then}
use Rattle.ws_tree.specs.declared.stmt.Stmt.{Stmt}
use Rattle.ws_tree.specs.declared.stmt.Body.{Body}
use Rattle.ws_tree.specs.declared.stmt.Body.TheVariants.{Assign, Masked', Forall', Loop', Allocate, Deallocate, Read, Shared', Unsupported, TooDeep as TooDeep'}
use Rattle.hlfir_ops.specs.declared.what.What.{What}
use Rattle.hlfir_ops.specs.declared.what.What.TheVariants as what
use Rattle.hlfir_ops.specs.declared.op.ValueId.{ValueId}
use Rattle.hlfir_ops.specs.declared.op.Op.{Op, out-Op, out-roll-Op}
use Rattle.hlfir_ops.specs.declared.op.Region.{Region}
use Rattle.hlfir_ops.specs.Trees.{op_of}
use Rattle.hlfir_ops.specs.Numbers.{op_numbers, numbers_of}
use Rattle.hlfir_ops.proofs.Numbered.{op_numbers-op_of}
use Rattle.hlfir_meaning.specs.Statements as lowered
use Rattle.hlfir_meaning.specs.Meaning.{declared, declared_in}
use Rattle.lower_values.specs.declared.names.Variable.{Variable}
use Rattle.lower_values.specs.Scopes.{Scope}
use Rattle.lower_values.specs.Lowerings.{Lowering, done, ◌>>=◌, scoped, in_turn, giving, statement_of, regions_from}
use Rattle.lower_assign.specs.Statements.{assignment, allocation, deallocation, reading}
use Rattle.lower_constructs.specs.Modules.{statement, statement_list, declaration}
use Rattle.run_laws.proofs.Parts.{statement-declare}
use Rattle.run_laws.proofs.Declares.{beginning, beginnings}

-- ---- the declares

abbrev pub declare_op : Scope → Variable → Op
declare_op s v = op_of (what.Declare v.name) s.line [] (Some v.declare.kind) []

declaring : (k : ℕ) (v : Variable) (vs : List Variable) (s : Scope) (n : ℕ) → (in_turn declaration k (v ∷ vs) s n).ops ≡ declare_op s v ∷ (in_turn declaration (suc k) vs s (n + numbers_of (declare_op s v ∷ []))).ops
unfolding in_turn declaration giving ◌>>=◌ done
declaring k v vs s n = refl

declaring_none : (k : ℕ) (s : Scope) (n : ℕ) → (in_turn declaration k [] s n).ops ≡ []
unfolding in_turn done
declaring_none k s n = refl

pub declares_are : (k : ℕ) (vs : List Variable) (s : Scope) (n : ℕ) → (in_turn declaration k vs s n).ops ≡ map (declare_op s) vs
declares_are k [] s n = declaring_none k s n
declares_are k (v ∷ vs) s n = declaring k v vs s n ∙ ap (λ l. declare_op s v ∷ l) (declares_are (suc k) vs s (n + numbers_of (declare_op s v ∷ [])))

-- They change nothing.
pub declares_run : (input : List ℕ) (s : Scope) (n : ℕ) (vs : List Variable) (st : State) → lowered.statement_list input n (map (declare_op s) vs) st ≡ run_of (Ok st)
declares_run input s n [] st = refl
declares_run input s n (v ∷ vs) st =
    let op = declare_op s v in
    ap (λ r. and_then r (λ q. lowered.statement_list input (op_numbers op + n) (map (declare_op s) vs) q))
    (statement-declare input n s.line [] (Some v.declare.kind) v.name [] (lowered.continued_in (op_numbers op + n) (map (declare_op s) vs)) st)
    ∙ declares_run input s (op_numbers op + n) vs st

pub declares_numbers : (s : Scope) (vs : List Variable) → numbers_of (map (declare_op s) vs) ≡ length vs
declares_numbers s [] = refl
declares_numbers s (v ∷ vs) = ap (λ k. k + numbers_of (map (declare_op s) vs)) (op_numbers-op_of (what.Declare v.name) s.line [] (Some v.declare.kind) []) ∙ (let rest = declares_numbers s vs in omega (arith, rest))

-- ---- the variables that ops declare

declared_by : (w : What) (line : ℕ) (os : List ValueId) (kind : Option _) (regions : List Region) → (let op = op_of w line os kind regions in declared (out-Op op).what (out-Op op).kind) ≡ declared w kind
declared_by w line os kind regions = ap (λ f. declared f.what f.kind) (out-roll-Op (record { what = w; line = line; operands = os; kind = kind; regions = regions }))

pub declared_in-declares : (s : Scope) (vs : List Variable) (ys : List Op) → declared_in (map (declare_op s) vs ++ ys) ≡ beginnings vs ++ declared_in ys
declared_in-declares s [] ys = refl
declared_in-declares s (v ∷ vs) ys =
    ap (λ l. l ++ declared_in (map (declare_op s) vs ++ ys)) (declared_by (what.Declare v.name) s.line [] (Some v.declare.kind) [])
    ∙ ap (λ l. beginning v ∷ l) (declared_in-declares s vs ys)

-- ---- statements declare none

none_declared : (w : What) → declared w None ≡ []
none_declared (what.Declare name) = refl
none_declared w = refl

declared_in-append : (xs ys : List Op) → declared_in (xs ++ ys) ≡ declared_in xs ++ declared_in ys
declared_in-append [] ys = refl
declared_in-append (op ∷ xs) ys =
    ap (λ l. declared (out-Op op).what (out-Op op).kind ++ l) (declared_in-append xs ys) ∙ sym (append_assoc (declared (out-Op op).what (out-Op op).kind) (declared_in xs) (declared_in ys))

abbrev pub DeclaresNone : Lowering ⊤ → Type 0
DeclaresNone p = (s : Scope) (n : ℕ) → declared_in (p s n).ops ≡ []

both_none : (xs ys : List Op) → declared_in xs ≡ [] → declared_in ys ≡ [] → declared_in (xs ++ ys) ≡ []
both_none xs ys h g = declared_in-append xs ys ∙ (ap (λ l. l ++ declared_in ys) h ∙ g)

of_statement : (w : What) (line : ℕ) (os : List ValueId) (ps : List (Lowering ⊤)) → DeclaresNone (statement_of w line os ps)
unfolding statement_of
of_statement w line os ps s n = ap (λ l. l ++ []) (declared_by w line os None (regions_from w line 0 (n + 0) ps s) ∙ none_declared w)

of_done : DeclaresNone (done tt)
unfolding done
of_done s n = refl

of_turns : {A : Type 0} (make : ℕ → A → Lowering ⊤) → ((k : ℕ) (x : A) → DeclaresNone (make k x)) → (k : ℕ) (xs : List A) → DeclaresNone (in_turn make k xs)
unfolding in_turn done ◌>>=◌
of_turns make h k [] s n = refl
of_turns make h k (x ∷ xs) s n = both_none (make k x s n).ops _ (h k x s n) (of_turns make h (suc k) xs s (n + numbers_of (make k x s n).ops))

of_items : {A : Type 0} (make : Bool → A → Lowering ⊤) → ((b : Bool) (x : A) → DeclaresNone (make b x)) → (xs : List A) → DeclaresNone (in_turn (λ k. make (nat_lt 0 k)) 0 xs)
of_items make h xs = of_turns (λ k. make (nat_lt 0 k)) (λ k x. h (nat_lt 0 k) x) 0 xs

of_body : (line : ℕ) (body : Body) → DeclaresNone (statement line body)
unfolding assignment allocation deallocation reading scoped
of_body line (Assign left right) s n = of_statement _ line [] _ s n
of_body line (Masked' mask c block d rest) s n = of_statement what.Masked line [] _ s n
of_body line (Forall' is mask c block) s n = of_statement (what.Forall (map (λ i. i.name) is)) line [] _ s n
of_body line (Loop' x l u e c block) s n = of_statement what.DoLoop line _ _ s n
of_body line (Shared' c block) s n = of_statement what.Workshare line [] _ s n
of_body line (Allocate ps) s n = of_items (allocation line) (λ b p r m. of_statement (what.Allocmem b) line _ _ r m) ps s n
of_body line (Deallocate xs) s n = of_items (deallocation line) (λ b x r m. of_statement (what.Freemem b) line _ _ r m) xs s n
of_body line (Read es) s n = of_items (reading line) (λ b e r m. of_statement (what.Read b) line _ _ r m) es s n
of_body line Unsupported s n = of_done s n
of_body line TooDeep' s n = of_done s n

pub of_statements : (ss : List Stmt) → DeclaresNone (statement_list ss)
unfolding done ◌>>=◌
of_statements [] s n = refl
of_statements (x ∷ ss) s n = both_none (statement x.line x.body s n).ops _ (of_body x.line x.body s n) (of_statements ss s (n + numbers_of (statement x.line x.body s n).ops))
