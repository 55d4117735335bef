-- Targets and values of rows, by their place in the list.
use Rattle.std.proofs.Common.{◌≡◌, inl, inr, ℕ, zero, suc, List, [], ◌∷◌, length, sym, refl, ap, Some, ℤ}
use Rattle.std.specs.List.{slice_get}
use Rattle.std.proofs.lemmas.Option.{same_Some}
use Rattle.phase_ops.specs.Free.{In}
use Rattle.loop_laws.specs.Moves.{Row, targets_of, values_of}

module _ (V : Type 0) (target : ℕ → List V → ℕ) (value : ℕ → List V → ℤ) where
  pub as_many : (ts : List (Row V)) → length (values_of value ts) ≡ length (targets_of target ts)
  as_many [] = refl
  as_many (t ∷ ts) = ap suc (as_many ts)

  pub row_at : (ts : List (Row V)) (k p : ℕ) (z : ℤ) → slice_get (targets_of target ts) k ≡ Some p → slice_get (values_of value ts) k ≡ Some z → (i : ℕ) × (s : List V) × In (i, s) ts × (target i s ≡ p) × (value i s ≡ z)
  row_at [] k p z e f = absurd (let g : ⊥ = cc in g)
  row_at (t ∷ ts) zero p z e f = (t.0, t.1, inl refl, same_Some (target t.0 t.1) p e, same_Some (value t.0 t.1) z f)
  row_at (t ∷ ts) (suc k) p z e f = let r = row_at ts k p z e f in (r.0, r.1, inr r.2, r.3, r.4)

  pub place_of_row : (ts : List (Row V)) (i : ℕ) (s : List V) → In (i, s) ts → (k : ℕ) × (slice_get (targets_of target ts) k ≡ Some (target i s)) × (slice_get (values_of value ts) k ≡ Some (value i s))
  place_of_row [] i s h = elim h [ ]
  place_of_row (t ∷ ts) i s (inl e) = (0, ap (λ (r : Row V). Some (target r.0 r.1)) (sym e), ap (λ (r : Row V). Some (value r.0 r.1)) (sym e))
  place_of_row (t ∷ ts) i s (inr h) = let k = place_of_row ts i s h in (suc k.0, k.1, k.2)
