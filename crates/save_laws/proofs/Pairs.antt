-- Save, then assign.
use Rattle.std.proofs.Common.{◌≡◌, inl, inr, ℕ, zero, suc, ◌<◌, List, [], ◌∷◌, sym, refl, ap, ◌∙◌, subst, Result, Ok, Err}
use Rattle.phase_ops.specs.Phases.{Cells, key, key_of, none_yet, after_phase, result}
use Rattle.phase_ops.specs.Free.{Free, FreeFrom, IsChunk}
use Rattle.loop_laws.specs.Moves.{Row, Failure}
use Rattle.loop_laws.specs.Loops.{Plan, rows_of, Keyed}
use Rattle.loop_laws.specs.Laws.{Bridged}
use Rattle.save_laws.specs.Saves.{Saving, Saved, Saves, Assigning, Assigned}
use Rattle.list_laws.specs.Lists.{Leads, LeadsOne, either_fails, Never, NeverAt}
use Rattle.save_laws.specs.Pairs.{Lap, loop, PairEnds}
use Rattle.loop_laws.proofs.Keyed.{failure_within}
use Rattle.save_laws.proofs.Saves.{saving_free, assigning_free, assigning_key, assigning_leaves}
use Rattle.list_laws.proofs.Lists.{one_more, nothing_more, finished, only_first}

module _ (V : Type 0) (p q : Lap) (m : Cells) (n : ℕ) (plan : Plan V) (value target : ℕ → List V → ℕ) (t a base : ℕ) (w : Saving V plan value target t a p.count p.acts m n) (chunk : ℕ) (is : IsChunk chunk) where
  abbrev Given : Result (List (Row V)) Failure → Type 0
  Given r = (ts : List (Row V)) (m' : Cells) → r ≡ Ok ts → Saved V value target t a n ts m m' → Assigning V value target t a base ts q.count q.acts m' n

  saves : (ts : List (Row V)) → Keyed plan (key (loop p) m chunk) (Ok ts) → Saves V value target t a n m (after_phase (loop p) m chunk) (Ok ts) → LeadsOne chunk (loop p) (λ x. x ≡ m) (Saved V value target t a n ts m) Never
  saves ts k s = λ x e. (
    subst (λ (z : Cells). Free (loop p) z) (sym e) (saving_free V plan value target t a p.count p.acts m n w p.line p.label),
    inl (ap (λ (z : Cells). key (loop p) z chunk) e ∙ k, subst (λ (z : Cells). Saved V value target t a n ts m (after_phase (loop p) z chunk)) (sym e) s),
  )

  assigns : (ts : List (Row V)) → ((m' : Cells) → Saved V value target t a n ts m m' → Assigning V value target t a base ts q.count q.acts m' n) → LeadsOne chunk (loop q) (Saved V value target t a n ts m) (Assigned V value target t a base n ts m) Never
  assigns ts g = λ m' s. (
    assigning_free V value target t a base ts q.count q.acts m m' n w.fitting.small s (g m' s) q.line q.label,
    inl (assigning_key V value target t a base ts q.count q.acts m m' n w.fitting.small s (g m' s) q.line q.label chunk is, assigning_leaves V value target t a base ts q.count q.acts m m' n w.fitting.small s (g m' s) q.line q.label chunk is),
  )

  pub fails : (f : Failure) → Keyed plan (key (loop p) m chunk) (Err f) → Bridged V plan.moves (rows_of plan n) (Err f) → LeadsOne chunk (loop p) (λ x. x ≡ m) (λ x. ⊥) (λ k. k ≡ key_of (plan.act f.move) (plan.op f.move) (suc f.iteration) f.name)
  fails f k b = λ x e. (
    subst (λ (z : Cells). Free (loop p) z) (sym e) (saving_free V plan value target t a p.count p.acts m n w p.line p.label),
    inr (subst (λ (z : ℕ). z < none_yet) (sym (ap (λ (z : Cells). key (loop p) z chunk) e ∙ k)) (failure_within V plan p.acts m n w.fitting.small w.follows f b), ap (λ (z : Cells). key (loop p) z chunk) e ∙ k),
  )

  -- the second phase, behind a first one that left this kind of memory
  then_assigned : (ts : List (Row V)) (here : ℕ → Type 0) → ((m' : Cells) → Saved V value target t a n ts m m' → Assigning V value target t a base ts q.count q.acts m' n) → Leads chunk (loop q ∷ []) (Saved V value target t a n ts m) (Assigned V value target t a base n ts m) (either_fails Never NeverAt)
  then_assigned ts here g =
      one_more chunk (Saved V value target t a n ts m) (Assigned V value target t a base n ts m) (Assigned V value target t a base n ts m) Never NeverAt (loop q) [] (assigns ts g) (nothing_more chunk (Assigned V value target t a base n ts m) NeverAt)

  pub pair : (r : Result (List (Row V)) Failure) → Given r → Keyed plan (key (loop p) m chunk) r → Saves V value target t a n m (after_phase (loop p) m chunk) r → Bridged V plan.moves (rows_of plan n) r
      → FreeFrom chunk (loop p ∷ loop q ∷ []) m × PairEnds V plan value target t a base n m r (result (loop p ∷ loop q ∷ []) m chunk)
  pair (Ok ts) g k s b =
      let x = one_more chunk (λ x. x ≡ m) (Saved V value target t a n ts m) (Assigned V value target t a base n ts m) Never (either_fails Never NeverAt) (loop p) (loop q ∷ []) (saves ts k s) (then_assigned ts Never (λ m'. g ts m' refl)) m refl in
      (x.0, finished (Assigned V value target t a base n ts m) (either_fails Never (either_fails Never NeverAt)) (λ i j h. never i j h) (result (loop p ∷ loop q ∷ []) m chunk) x.1)
    where
      never : (i j : ℕ) → either_fails Never (either_fails Never NeverAt) i j → ⊥
      never zero j h = h
      never (suc zero) j h = h
      never (suc (suc i)) j h = h
  pair (Err f) g k s b =
      let x = one_more chunk (λ x. x ≡ m) (λ x. ⊥) (λ x. ⊥) (λ j. j ≡ key_of (plan.act f.move) (plan.op f.move) (suc f.iteration) f.name) NeverAt (loop p) (loop q ∷ []) (fails f k b) (λ y h. absurd h) m refl in
      (x.0, only_first (result (loop p ∷ loop q ∷ []) m chunk) (key_of (plan.act f.move) (plan.op f.move) (suc f.iteration) f.name) x.1)
