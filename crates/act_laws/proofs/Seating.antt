-- What stands in a seat stands there while more ops run.
use Rattle.std.proofs.Common.{◌≡◌, arith, inl, inr, refl, sym, ◌∙◌, ℕ, ◌==◌, Bool, true, false, if◌then◌else◌, List, [], ◌∷◌, map, Some, ℤ}
use Rattle.phase_ops.specs.declared.phase.Micro.{Micro}
use Rattle.phase_ops.specs.Free.{In}
use Rattle.hlfir_meaning.specs.Environments.{Value, Environment, with_value}
use Rattle.hlfir_meaning.specs.Places.{column_at}
use Rattle.act_laws.specs.Together.{Files, Scene, with_ops}
use Rattle.act_laws.specs.declared.seat.Seat.{Seat}
use Rattle.act_laws.specs.declared.seat.Seat.TheVariants.{Fixed as fixed, Cell as cell, Cells as cells, Register as register}
use Rattle.act_laws.specs.Seats.{Table, with_seat, seated, MaySit, Sits, seat_or, Holds, HasPlace}
use Rattle.act_laws.proofs.Following.{kept, length_grows}

pub same_column : (s : Scene) (at : List ℕ) (f g : ℕ → ℤ) → ((p : ℕ) → In p at → f p ≡ g p) → map f at ≡ map g at
same_column s [] f g h = refl
same_column s (p ∷ ps) f g h = λ i. h p (inl refl) i ∷ same_column s ps f g (λ q l. h q (inr l)) i

module _ (s : Scene) (files : Files) (ops : List Micro) where
  seated_later : (seat : Seat) (p : ℕ) → MaySit s files seat p → seated s files seat p ≡ seated s (with_ops s ops files) seat p
  seated_later (fixed z) p h = refl
  seated_later (cell c) p h = refl
  seated_later (cells first) p h = refl
  seated_later (register r) p h = sym (kept s files ops p r h)

  may_later : (seat : Seat) (p : ℕ) → MaySit s files seat p → MaySit s (with_ops s ops files) seat p
  may_later (fixed z) p h = h
  may_later (cell c) p h = h
  may_later (cells first) p h = h
  may_later (register r) p h = length_grows s files ops p r h

  pub sits_later : (at : List ℕ) (seat : Seat) (xs : List ℤ) → Sits s at files seat xs → Sits s at (with_ops s ops files) seat xs
  sits_later at seat xs h = record {
    holds = h.holds ∙ same_column s at (seated s files seat) (seated s (with_ops s ops files) seat) (λ p l. seated_later seat p (h.may p l));
    may = λ p l. may_later seat p (h.may p l);
  }

  pub holds_later : (at known : List ℕ) (table : Table) (env : Environment) → Holds s at files known table env → Holds s at (with_ops s ops files) known table env
  holds_later at known table env h n i = sits_later at (seat_or (table n)) (column_at at (env n)) (h n i)

  pub place_later : (at : List ℕ) (place : ℕ) → HasPlace at place files → HasPlace at place (with_ops s ops files)
  place_later at place h p l = (kept s files ops p place (h p l).1 ∙ (h p l).0, length_grows s files ops p place (h p l).1)

-- one more value, with its seat
module _ (s : Scene) (at : List ℕ) (files : Files) (known : List ℕ) (table : Table) (env : Environment) (n : ℕ) (seat : Seat) (x : Value) (new : Sits s at files seat (column_at at x)) where
  old_if : (k : ℕ) (b : Bool) → Sits s at files (seat_or (table k)) (column_at at (env k)) → Sits s at files (seat_or (if b then Some seat else table k)) (column_at at (if b then x else env k))
  old_if k true h = new
  old_if k false h = h

  new_if : (k : ℕ) (b : Bool) → (k == n) ≡ b → k ≡ n → Sits s at files (seat_or (if b then Some seat else table k)) (column_at at (if b then x else env k))
  new_if k true e i = new
  new_if k false e i = let f : ⊥ = grind (arith, e, i) in absurd f

  pub holds_with : Holds s at files known table env → Holds s at files (n ∷ known) (with_seat n seat table) (with_value n x env)
  holds_with h k (inl e) = new_if k (k == n) refl e
  holds_with h k (inr i) = old_if k (k == n) (h k i)
