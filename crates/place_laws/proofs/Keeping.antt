-- What holds of all ops of a lowering in scopes that know a table, where its values stand among those of a module.
use Rattle.std.proofs.Common.{◌≡◌, refl, ℕ, ◌+◌, Bool, List, [], ◌∷◌, ◌++◌, length, Option, Some, None}
use Rattle.std.specs.Prelude.{⊤}
use mathlib.Core.Former.{Count}
use Rattle.ws_tree.specs.declared.expr.Expr.{Expr}
use Rattle.ws_tree.specs.Trees.{Stmts, Elses, end_elses, more_elses}
use Rattle.ws_types.specs.declared.types.Row.{Row}
use Rattle.hlfir_ops.specs.declared.what.What.{What}
use Rattle.hlfir_ops.specs.declared.what.What.TheVariants as what
use Rattle.hlfir_ops.specs.declared.op.Op.{Op}
use Rattle.hlfir_ops.specs.Numbers.{names_in, numbers_of}
use Rattle.hlfir_ops.specs.RulesValues.{Value}
use Rattle.kind_laws.specs.Standing.{Knows}
use Rattle.kind_laws.specs.Found.{Holds, RegionsHeld, ScopeIsFound}
use Rattle.lower_values.specs.Scopes.{Scope, inside}
use Rattle.lower_values.specs.Lowerings.{Lowering, done, ◌>>=◌, regions_from, statement_of}
use Rattle.lower_values.specs.Values.{value}
use Rattle.lower_assign.specs.Statements.{yielded}
use Rattle.lower_constructs.specs.Modules.{third, elsewhere, statements, elsewheres}
use Rattle.lower_constructs.specs.Lists.{mask_of}
use Rattle.place_laws.proofs.Printed.{Everywhere, EverywhereIn}
use Rattle.place_laws.proofs.Lowered.{Makes, makes-done, makes-then, regions-none, regions-more}
use Rattle.place_laws.proofs.Plain.{plain, Plain}
use Rattle.place_laws.proofs.PlainValues.{plain-value}
use Rattle.place_laws.proofs.PlainSides.{plain-yielded}
use Rattle.kind_laws.proofs.Held.{held-first, held-rest}
use Rattle.kind_laws.proofs.ScopesKnown.{inside_known}
use Rattle.kind_laws.proofs.ScopesFound.{inside_found}

-- where the first value of the region after this one is numbered
abbrev pub next_start : What → ℕ → ℕ → Lowering ⊤ → Scope → ℕ → ℕ
next_start w line k p s m = m + (length (names_in w k) + numbers_of (p (inside w line k m s) (m + length (names_in w k))).ops)

module _ (vs : List Value) (T : Op → Bool) where
  abbrev pub Keeps : List Row → Lowering ⊤ → Type 0
  Keeps t p = (s : Scope) (n : ℕ) → Knows t s → ScopeIsFound vs s → Holds vs n (p s n).ops → Makes T p s n

  pub keeps-done : (t : List Row) → Keeps t (done tt)
  keeps-done t s n k w h = makes-done T s n tt

  pub keeps-then : (t : List Row) (p q : Lowering ⊤) → Keeps t p → Keeps t q → Keeps t (p >>= (λ _. q))
  keeps-then t p q f g s n k w h =
      makes-then T s n p (λ _. q) (f s n k w (held-first vs p (λ _. q) s n h)) (g s (n + numbers_of (p s n).ops) k w (held-rest vs p (λ _. q) s n h))

  module _ (plains : (ops : List Op) → Everywhere plain ops → Everywhere T ops) where
    pub makes-plain : (p : Lowering ⊤) → Plain p → (s : Scope) (n : ℕ) → Makes T p s n
    makes-plain p h s n = plains (p s n).ops (h s n)

    makes-mask : (e : Expr) (s : Scope) (n : ℕ) → Makes T (yielded (value e)) s n
    makes-mask e s n = makes-plain (yielded (value e)) (plain-yielded (value e) (plain-value e)) s n

    module _ (t : List Row) (line : ℕ) (s : Scope) (k : Knows t s) (w : ScopeIsFound vs s) where
      -- the block of WHERE or ELSEWHERE, in the region of this number
      pub keeps-region : (what : What) (j m : ℕ) (p : Lowering ⊤) (ps : List (Lowering ⊤)) → names_in what j ≡ [] → Keeps t p → RegionsHeld vs what line j m (p ∷ ps) s →
          Makes T p (inside what line j m s) (m + length (names_in what j))
      keeps-region what j m p ps none f h =
          f (inside what line j m s) (m + length (names_in what j)) (inside_known t s what line j m none k) (inside_found vs s what line j m h.0 w) h.1

      pub keeps-third : {c : Count} (m : ℕ) (rest : Elses c) → Keeps t (elsewheres rest) → RegionsHeld vs what.Masked line 2 m (third rest (elsewheres rest)) s →
          EverywhereIn T (regions_from what.Masked line 2 m (third rest (elsewheres rest)) s)
      keeps-third m end_elses f h = regions-none T s m what.Masked line 2
      keeps-third m (more_elses e es) f h =
          let p = elsewheres (more_elses e es) in
          regions-more T s m what.Masked line 2 p [] (keeps-region what.Masked 2 m p [] refl f h) (regions-none T s (next_start what.Masked line 2 p s m) what.Masked line 3)

      pub keeps-where : {b c : Count} (n : ℕ) (mask : Expr) (block : Stmts b) (rest : Elses c) → Keeps t (statements block) → Keeps t (elsewheres rest) →
          RegionsHeld vs what.Masked line 0 n (yielded (value mask) ∷ statements block ∷ third rest (elsewheres rest)) s →
          EverywhereIn T (regions_from what.Masked line 0 n (yielded (value mask) ∷ statements block ∷ third rest (elsewheres rest)) s)
      keeps-where n mask block rest f g h =
          let p = yielded (value mask) in
          let q = statements block in
          let m = next_start what.Masked line 0 p s n in
          let after = h.2 in
          let last = after.2 in
          regions-more T s n what.Masked line 0 p (q ∷ third rest (elsewheres rest)) (makes-mask mask (inside what.Masked line 0 n s) (n + 0))
          (regions-more T s m what.Masked line 1 q (third rest (elsewheres rest)) (keeps-region what.Masked 1 m q (third rest (elsewheres rest)) refl f after)
          (keeps-third (next_start what.Masked line 1 q s m) rest g last))

      pub keeps-elsewhere : (n : ℕ) (mask : Option Expr) (block : Lowering ⊤) → Keeps t block → RegionsHeld vs what.Elsewhere line 0 n (mask_of mask ++ block ∷ []) s →
          EverywhereIn T (regions_from what.Elsewhere line 0 n (mask_of mask ++ block ∷ []) s)
      keeps-elsewhere n None block f h =
          regions-more T s n what.Elsewhere line 0 block [] (keeps-region what.Elsewhere 0 n block [] refl f h) (regions-none T s (next_start what.Elsewhere line 0 block s n) what.Elsewhere line 1)
      keeps-elsewhere n (Some e) block f h =
          let p = yielded (value e) in
          let m = next_start what.Elsewhere line 0 p s n in
          let after = h.2 in
          regions-more T s n what.Elsewhere line 0 p (block ∷ []) (makes-mask e (inside what.Elsewhere line 0 n s) (n + 0))
          (regions-more T s m what.Elsewhere line 1 block [] (keeps-region what.Elsewhere 1 m block [] refl f after) (regions-none T s (next_start what.Elsewhere line 1 block s m) what.Elsewhere line 2))

pub elsewhere-is : (line : ℕ) (mask : Option Expr) (block : Lowering ⊤) → elsewhere line mask block ≡ statement_of what.Elsewhere line [] (mask_of mask ++ block ∷ [])
elsewhere-is line None block = refl
elsewhere-is line (Some e) block = refl
