-- Forms through lowerings of statements and their regions.
use Rattle.std.proofs.Common.{◌≡◌, refl, sym, subst, ℕ, suc, ◌+◌, true, false, ◌||◌, List, [], ◌∷◌, length, None}
use Rattle.std.specs.Prelude.{⊤}
use Rattle.std.specs.List.{AllByRecursion}
use Rattle.hlfir_ops.specs.declared.what.What.{What}
use Rattle.hlfir_ops.specs.declared.what.What.TheVariants as what
use Rattle.hlfir_ops.specs.declared.op.ValueId.{ValueId}
use Rattle.hlfir_ops.specs.Numbers.{names_in, own_numbers, numbers_of}
use Rattle.hlfir_ops.specs.RulesValues.{Value}
use Rattle.hlfir_ops.specs.RulesPlaces.{is_elemental}
use Rattle.lower_values.specs.declared.operand.Operand.{Operand}
use Rattle.lower_values.specs.Scopes.{Scope, inside}
use Rattle.lower_values.specs.Lowerings.{Lowering, done, ◌>>=◌, scoped, in_turn, acting, regions_from, statement_of}
use Rattle.lower_assign.specs.Statements.{yielded, all_yielded}
use Rattle.kind_laws.specs.Found.{Holds, HoldsNames, RegionsHeld}
use Rattle.kind_laws.proofs.ScopesFound.{regions_are_held}
use Rattle.form_laws.proofs.Passing.{AreFit, AllFit, fit-none, fit-append, fit-op, fit-region, part_fits}
use Rattle.kind_laws.proofs.Finding.{holds_first, holds_after}

module _ (vs : List Value) where
  -- the ops of a lowering have their forms, wherever they stand among the values
  pub record Walks {A : Type 0} (s : Scope) (p : Lowering A) : Type 0 where
    pub fits : (n : ℕ) → Holds vs n (p s n).ops → AreFit vs false (p s n).ops

  pub walks-done : {A : Type 0} (s : Scope) (x : A) → Walks s (done x)
  unfolding done
  walks-done s x = record { fits = λ n held. fit-none vs false }

  pub walks-then : {A B : Type 0} (s : Scope) (p : Lowering A) (q : A → Lowering B) → Walks s p → ((x : A) → Walks s (q x)) → Walks s (p >>= q)
  unfolding ◌>>=◌
  walks-then s p q h g = record {
    fits = λ n held.
        let xs = (p s n).ops in
        let m = n + numbers_of xs in
        let ys = (q (p s n).made s m).ops in
        fit-append vs false xs ys (h.fits n (holds_first vs n xs ys held)) ((g (p s n).made).fits m (holds_after vs n xs ys held));
  }

  pub walks-scoped : {A : Type 0} (s : Scope) (f : Scope → Lowering A) → Walks s (f s) → Walks s (scoped f)
  unfolding scoped
  walks-scoped s f h = record { fits = h.fits }

  pub walks-yield : (s : Scope) (os : List ValueId) → Walks s (acting what.Yield os)
  unfolding acting
  walks-yield s os = record { fits = λ n held. fit-op vs false what.Yield s.line os None [] refl tt }

  pub walks-yielded : (s : Scope) (p : Lowering Operand) → Walks s p → Walks s (yielded p)
  walks-yielded s p h = walks-then s p (λ x. acting what.Yield (x.value ∷ [])) h (λ x. walks-yield s (x.value ∷ []))

  pub walks-all_yielded : (s : Scope) (p : Lowering (List ValueId)) → Walks s p → Walks s (all_yielded p)
  walks-all_yielded s p h = walks-then s p (λ os. acting what.Yield os) h (λ os. walks-yield s os)

  -- ---- regions

  -- a region, from any number on, where its index names are found
  abbrev pub RegionWalks : What → ℕ → ℕ → Lowering ⊤ → Scope → Type 0
  RegionWalks w line k p s = (m : ℕ) → HoldsNames vs m (names_in w k) → Walks (inside w line k m s) p

  abbrev pub EachWalks : What → ℕ → ℕ → List (Lowering ⊤) → Scope → Type 0
  EachWalks w line k [] s = Unit {0}
  EachWalks w line k (p ∷ ps) s = RegionWalks w line k p s × EachWalks w line (suc k) ps s

  regions-fit : (w : What) (line k m : ℕ) (ps : List (Lowering ⊤)) (s : Scope) → EachWalks w line k ps s → RegionsHeld vs w line k m ps s → AllFit vs false (regions_from w line k m ps s)
  regions-fit w line k m [] s h held = tt
  regions-fit w line k m (p ∷ ps) s h held =
      let first = m + length (names_in w k) in
      let ops = (p (inside w line k m s) first).ops in
      (fit-region vs false ops ((h.0 m held.0).fits first held.1), regions-fit w line (suc k) (m + (length (names_in w k) + numbers_of ops)) ps s h.1 held.2)

  pub walks-statement : (w : What) (line : ℕ) (os : List ValueId) (ps : List (Lowering ⊤)) (s : Scope) → is_elemental w ≡ false → ((n : ℕ) → part_fits vs false w line os None (regions_from w line 0 n ps s) ≡ true) → EachWalks w line 0 ps s → Walks s (statement_of w line os ps)
  unfolding statement_of
  walks-statement w line os ps s none form h = record {
    fits = λ n held.
        let m = n + own_numbers None in
        let rs = regions_from w line 0 m ps s in
        fit-op vs false w line os None rs (form m) (subst (λ b. AllFit vs (b || false) rs) (sym none) (regions-fit w line 0 m ps s h (regions_are_held vs w line os None ps s n [] held)));
  }

  -- ---- one item after another

  pub walks-in_turn : {A : Type 0} (s : Scope) (P : A → Type 0) (f : ℕ → A → Lowering ⊤) (k : ℕ) (xs : List A) → ((j : ℕ) (x : A) → P x → Walks s (f j x)) → AllByRecursion P xs → Walks s (in_turn f k xs)
  unfolding in_turn
  walks-in_turn s P f k [] g h = walks-done s tt
  walks-in_turn s P f k (x ∷ xs) g h = walks-then s (f k x) (λ _. in_turn f (suc k) xs) (g k x h.0) (λ _. walks-in_turn s P f (suc k) xs g h.1)
