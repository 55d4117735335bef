-- Statements, one after another.
use Rattle.std.proofs.Common.{◌≡◌, ◌<◌, ◌≤◌, refl, sym, ap, ◌∙◌, subst, ℕ, ◌+◌, List, [], ◌∷◌, length, drop, get_or, All, Result, Ok, Err}
use Rattle.std.proofs.lemmas.List.{drop_more}
use Rattle.std.proofs.lemmas.List.Elements.{All-get_or}
use Rattle.std.proofs.Math.ListN.{drop_of_length-le}
use Rattle.ws_base.specs.declared.fault.Fault.{Fault}
use Rattle.ws_base.specs.Outcomes.{◌>>=◌}
use Rattle.ws_space.specs.declared.state.State.{State}
use Rattle.ws_space.specs.Runs.{Run}
use Rattle.ws_tree.specs.declared.stmt.Stmt.{Stmt}
use Rattle.array_meaning.specs.declared.world.World.{World}
use Rattle.array_meaning.specs.declared.world.Source.{Source}
use Rattle.array_meaning.specs.Program.{simple, statement, statement_list}
use Rattle.step_eval.specs.declared.halt.Halt.{Halt}
use Rattle.step_eval.specs.Halts.{Halts}
use Rattle.slow_eval.specs.Machine.{simple_list}
use Rattle.step_eval.specs.Small.{IsSmallStmt}
use Rattle.step_eval.proofs.Halted.{halts_first, then_ok}
use Rattle.slow_eval.proofs.Ends.{end_then, end_first, same_halts}

front : (block : List Stmt) (i : ℕ) (t : Stmt) → i < length block → t ≡ get_or block i t → drop i block ≡ t ∷ drop (i + 1) block
front block i t low item = drop_more block i t low ∙ ap (λ x. x ∷ drop (i + 1) block) (sym item)

pub small_at : (block : List Stmt) (i : ℕ) (t : Stmt) → i < length block → t ≡ get_or block i t → All IsSmallStmt block → IsSmallStmt t
small_at block i t low item all = subst IsSmallStmt (sym item) (All-get_or IsSmallStmt block i t low all)

-- ---- in a region

pub simple_next : (whole : Result World Fault) (block : List Stmt) (i : ℕ) (t : Stmt) (w v : World) → i < length block → t ≡ get_or block i t → simple w t.line t.body ≡ Ok v →
    whole ≡ simple_list w (drop i block) → whole ≡ simple_list v (drop (i + 1) block)
simple_next whole block i t w v low item is before = before ∙ ap (simple_list w) (front block i t low item) ∙ ap (λ r. r >>= (λ u. simple_list u (drop (i + 1) block))) is

halts_same : (e : Halt) (a b : Result World Fault) → a ≡ b → Halts e a → Halts e b
halts_same e a b is h = let P : Result World Fault → Type 0 = λ q. Halts e q in subst P is h

pub simple_stop : (whole : Result World Fault) (block : List Stmt) (i : ℕ) (t : Stmt) (w : World) (e : Halt) → i < length block → t ≡ get_or block i t → Halts e (simple w t.line t.body) →
    whole ≡ simple_list w (drop i block) → Halts e whole
simple_stop whole block i t w e low item h before =
    halts_same e (simple_list w (t ∷ drop (i + 1) block)) whole (sym (before ∙ ap (simple_list w) (front block i t low item))) (halts_first e (simple w t.line t.body) (λ u. simple_list u (drop (i + 1) block)) h)

pub simple_end : (whole : Result World Fault) (block : List Stmt) (i : ℕ) (w : World) → length block ≤ i → whole ≡ simple_list w (drop i block) → whole ≡ Ok w
simple_end whole block i w high before = before ∙ ap (simple_list w) (drop_of_length-le block high)

-- ---- outside regions

pub statements_next : (whole : Result State Fault) (g here : Source) (block : List Stmt) (i : ℕ) (t : Stmt) (s r : State) → i < length block → t ≡ get_or block i t → here ≡ g → (statement here t.line t.body s).end ≡ Ok r →
    whole ≡ (statement_list g (drop i block) s).end → whole ≡ (statement_list g (drop (i + 1) block) r).end
statements_next whole g here block i t s r low item same is before =
    before ∙ ap (λ b. (statement_list g b s).end) (front block i t low item)
    ∙ end_then (statement g t.line t.body s) (λ q. statement_list g (drop (i + 1) block) q) r (ap (λ h. (statement h t.line t.body s).end) (sym same) ∙ is)

pub statements_stop : (whole : Result State Fault) (g here : Source) (block : List Stmt) (i : ℕ) (t : Stmt) (s : State) (e : Halt) → i < length block → t ≡ get_or block i t → here ≡ g → Halts e (statement here t.line t.body s).end →
    whole ≡ (statement_list g (drop i block) s).end → Halts e whole
statements_stop whole g here block i t s e low item same h before =
    let first : Halts e (statement g t.line t.body s).end = same_halts e (statement here t.line t.body s).end (statement g t.line t.body s).end (ap (λ k. (statement k t.line t.body s).end) same) h in
    same_halts e (statement_list g (t ∷ drop (i + 1) block) s).end whole (sym (before ∙ ap (λ b. (statement_list g b s).end) (front block i t low item)))
    (end_first e (statement g t.line t.body s) (λ q. statement_list g (drop (i + 1) block) q) first)

pub statements_end : (whole : Result State Fault) (g : Source) (block : List Stmt) (i : ℕ) (s : State) → length block ≤ i → whole ≡ (statement_list g (drop i block) s).end → whole ≡ Ok s
statements_end whole g block i s high before = before ∙ ap (λ b. (statement_list g b s).end) (drop_of_length-le block high)
