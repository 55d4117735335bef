-- A direct loop replaces all targets at once.
use Rattle.std.proofs.Common.{◌≡◌, ◌⊎◌, inl, inr, ℕ, suc, ◌<◌, List, [], ◌∷◌, ◌++◌, length, sym, refl, ap, ◌∙◌, subst, arith, slice_index, get_or-set_same, Some, None, Result, Ok, Err}
use Rattle.phase_ops.specs.declared.effect.Effect.{Effect}
use Rattle.phase_ops.specs.declared.effect.Effect.TheVariants.{Store, Fault}
use Rattle.phase_ops.specs.declared.phase.Source.{Source}
use Rattle.phase_ops.specs.declared.phase.Act.{Act}
use Rattle.phase_ops.specs.declared.phase.Label.{Label}
use Rattle.phase_ops.specs.declared.phase.Phase.TheVariants.{Loop}
use Rattle.phase_ops.specs.Phases.{Cells, lay, after_phase, key_of, source_cells}
use Rattle.phase_ops.specs.Free.{In, stored, lessened, Free, IsChunk}
use Rattle.loop_laws.specs.Moves.{Row, Failure, Ended, moved}
use Rattle.loop_laws.specs.Loops.{Plan, ended, planned, rows_of, does, looks_at, Alone}
use Rattle.loop_laws.specs.Laws.{AllMoved, Bridged, Direct, Leaves}
use Rattle.loop_laws.proofs.Units.{free_loop}
use Rattle.loop_laws.proofs.Touched.{same_length, by_one, by_none}
use Rattle.loop_laws.proofs.Keyed.{in_rows, row_is}

module _ (V : Type 0) (plan : Plan V) (n : ℕ) where
  -- the rows that are left, as iterations
  pub left : (ts : List (Row V)) → AllMoved V plan.moves (rows_of plan n) ts → (i : ℕ) (s : List V) → In (i, s) ts → (i < n) × (ended plan i ≡ Ok (Some s))
  left ts b i s h =
      let x = b.back (i, s) h in
      let r = row_is V plan.start 0 n x.0 x.1 in
      let same = x.2 in
      (let a = r.1 in omega (arith, a, same), ap (λ (z : ℕ). moved plan.moves (plan.start z)) (sym same) ∙ ap (moved plan.moves) (sym r.2) ∙ x.3)

  pub is_left : (ts : List (Row V)) → AllMoved V plan.moves (rows_of plan n) ts → (i : ℕ) (s : List V) → i < n → ended plan i ≡ Ok (Some s) → In (i, s) ts
  is_left ts b i s l e = b.there (i, plan.start i) (in_rows V plan.start 0 n i (omega arith) (omega (arith, l))) s e

module _ (V : Type 0) (plan : Plan V) (target value : ℕ → List V → ℕ) (count : Source) (acts : List Act) (m : Cells) (n : ℕ) (d : Direct V plan target value count acts m n) where
  does_this : (i : ℕ) (x : Ended V) → i < n → ended plan i ≡ x → does acts m i ≡ planned plan i x
  does_this i x l e = d.follows.as_planned i l ∙ ap (planned plan i) e

  stores_this : (i : ℕ) (s : List V) → i < n → ended plan i ≡ Ok (Some s) → does acts m i ≡ Store (target i s) (value i s) ∷ []
  stores_this i s l e = does_this i (Ok (Some s)) l e ∙ (λ j. d.first_is i j ++ d.last_is i s j)

  stored_one : (c e v : ℕ) → In c (stored (Store e v ∷ [])) → c ≡ e
  stored_one c e v (inl h) = h
  stored_one c e v (inr h) = elim h [ ]

  target_is : (i c : ℕ) → i < n → (x : Ended V) → ended plan i ≡ x → In c (stored (does acts m i)) ⊎ In c (lessened (does acts m i)) → (s : List V) × (ended plan i ≡ Ok (Some s)) × (c ≡ target i s)
  target_is i c l (Ok None) e h = absurd (nothing (subst (λ (es : List Effect). In c (stored es) ⊎ In c (lessened es)) (does_this i (Ok None) l e ∙ d.first_is i) h))
    where
      nothing : In c (stored []) ⊎ In c (lessened []) → ⊥
      nothing (inl g) = g
      nothing (inr g) = g
  target_is i c l (Ok (Some s)) e h = (s, e, pick (subst (λ (es : List Effect). In c (stored es) ⊎ In c (lessened es)) (stores_this i s l e) h))
    where
      pick : In c (stored (Store (target i s) (value i s) ∷ [])) ⊎ In c (lessened (Store (target i s) (value i s) ∷ [])) → c ≡ target i s
      pick (inl g) = stored_one c (target i s) (value i s) g
      pick (inr g) = elim g [ ]
  target_is i c l (Err q) e h = absurd (nothing (subst (λ (es : List Effect). In c (stored es) ⊎ In c (lessened es)) (does_this i (Err q) l e ∙ ap (λ (es : List Effect). es ++ Fault (key_of (plan.act q.0) (plan.op q.0) (suc i) q.1) ∷ []) (d.first_is i)) h))
    where
      nothing : In c (stored (Fault (key_of (plan.act q.0) (plan.op q.0) (suc i) q.1) ∷ [])) ⊎ In c (lessened (Fault (key_of (plan.act q.0) (plan.op q.0) (suc i) q.1) ∷ [])) → ⊥
      nothing (inl g) = g
      nothing (inr g) = g

  no_least : (i c : ℕ) → i < n → (x : Ended V) → ended plan i ≡ x → In c (lessened (does acts m i)) → ⊥
  no_least i c l (Ok None) e h = subst (λ (es : List Effect). In c (lessened es)) (does_this i (Ok None) l e ∙ d.first_is i) h
  no_least i c l (Ok (Some s)) e h = subst (λ (es : List Effect). In c (lessened es)) (stores_this i s l e) h
  no_least i c l (Err q) e h = subst (λ (es : List Effect). In c (lessened es)) (does_this i (Err q) l e ∙ ap (λ (es : List Effect). es ++ Fault (key_of (plan.act q.0) (plan.op q.0) (suc i) q.1) ∷ []) (d.first_is i)) h

  pub alone : Alone count acts m n
  alone = record {
    stores = λ i j c hi hj x y.
        let a = target_is i c hi (ended plan i) refl (inl x) in let b = target_is j c hj (ended plan j) refl (inl y) in
        d.apart i j a.0 b.0 hi hj a.1 b.1 (sym a.2 ∙ b.2);
    unread = λ i j c hi hj x y.
        let a = target_is i c hi (ended plan i) refl (inl x) in
        d.unread i j a.0 hi hj a.1 (subst (λ (z : ℕ). In z (looks_at acts m j)) a.2 y);
    leasts = λ i j c hi hj x y. no_least i c hi (ended plan i) refl x;
    not_count = λ i c hi x y.
        let a = target_is i c hi (ended plan i) refl x in
        d.not_count i a.0 hi a.1 (subst (λ (z : ℕ). In z (source_cells count)) a.2 y);
    there = λ i c hi x.
        let a = target_is i c hi (ended plan i) refl x in
        subst (λ (z : ℕ). z < length m) (sym a.2) (d.there i a.0 hi a.1);
  }

  module _ (l : ℕ) (b : Label) where
    pub direct_free : Free (Loop l b count acts) m
    direct_free = free_loop l b count acts m n d.fitting alone

    pub direct_leaves : (chunk : ℕ) → IsChunk chunk → (r : Result (List (Row V)) Failure) → Bridged V plan.moves (rows_of plan n) r → Leaves V target value m (after_phase (Loop l b count acts) m chunk) r
    direct_leaves chunk is (Err f) q = tt
    direct_leaves chunk is (Ok ts) q = record {
      same_length = same_length l b count acts m n chunk is d.fitting;
      given = λ i s h.
          let x = left V plan n ts q i s h in
          by_one l b count acts m n chunk is d.fitting i (target i s) x.0 (λ j hj g. let a = target_is j (target i s) hj (ended plan j) refl g in d.apart j i a.0 s hj x.0 a.1 x.1 (sym a.2))
          ∙ ap (λ (es : List Effect). slice_index (lay m es) (target i s)) (stores_this i s x.0 x.1)
          ∙ get_or-set_same m (target i s) (value i s) 0 (d.there i s x.0 x.1);
      others = λ c never. by_none l b count acts m n chunk is d.fitting c (λ t.
          let a = target_is t.0 c t.1 (ended plan t.0) refl t.2 in
          never t.0 a.0 (is_left V plan n ts q t.0 a.0 t.1 a.1) a.2);
    }
