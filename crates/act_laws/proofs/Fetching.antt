-- Operands in registers.
use Rattle.std.proofs.Common.{◌≡◌, arith, inl, inr, refl, sym, ap, ◌∙◌, subst, ℕ, ◌+◌, List, [], ◌∷◌, map, Ok, ℤ, pos, ◌+ℤ◌, ◌*ℤ◌, ◌<ℤ◌}
use Rattle.std.proofs.lemmas.Int.{ints}
use Rattle.ws_base.specs.Numbers.{Exact}
use Rattle.ws_base.specs.Outcomes.{Staged, each}
use Rattle.phase_ops.specs.declared.phase.Micro.{Micro}
use Rattle.phase_ops.specs.declared.phase.Micro.TheVariants as micro
use Rattle.phase_ops.specs.Phases.{Cells, cell_value, cell_of, address, looks}
use Rattle.phase_ops.specs.Phases as phase
use Rattle.phase_ops.specs.Free.{In}
use Rattle.act_laws.specs.Together.{Files, Scene, gives_at, Level, Follows}
use Rattle.act_laws.specs.declared.seat.Seat.{Seat}
use Rattle.act_laws.specs.declared.seat.Seat.TheVariants.{Fixed as fixed, Cell as cell, Cells as cells, Register as register}
use Rattle.act_laws.specs.Seats.{Sits, HasPlace}
use Rattle.act_laws.specs.Fetches.{cell_address, indexed_address, fetched}
use Rattle.act_laws.specs.Seats.{StandIn}
use Rattle.act_laws.proofs.Following.{Level-with_op, follows_nothing, weaker, each_all, follows_one, IsLast}

-- ---- addresses

cell_is : (m : Cells) (regs : List ℤ) (c : ℕ) → address m regs (cell_address c) ≡ c
cell_is m regs c = ap cell_of (let e : pos c +ℤ pos 0 ≡ pos c = grind (arith, ints) in e)

indexed_is : (m : Cells) (regs : List ℤ) (first place p : ℕ) → phase.register regs place ≡ pos p → address m regs (indexed_address first place) ≡ first + p
indexed_is m regs first place p h =
    ap (λ z. cell_of (pos first +ℤ (z *ℤ pos 1 +ℤ pos 0))) h
    ∙ ap cell_of (let e : pos first +ℤ (pos p *ℤ pos 1 +ℤ pos 0) ≡ pos (first + p) = grind (arith, ints) in e)

-- ---- one operand

module _ (s : Scene) (at : List ℕ) (k place : ℕ) (files : Files) (level : Level k files) (here : HasPlace at place files) where
  -- one op that gives at every place what stands in the seat
  pub by_one : (op : Micro) (f : ℕ → ℤ) (xs : List ℤ) → xs ≡ map f at → ((p : ℕ) → In p at → gives_at s files op p ≡ Ok (f p))
      → ((p : ℕ) → In p at → ((c : ℕ) → In c (looks s.cells (files p) op) → In c s.may) × ((z : ℤ) → In z (phase.divisors s.cells op) → pos 0 <ℤ z))
      → Follows s at k files (op ∷ []) (Ok xs) (StandIn at k)
  by_one op f xs e gives may =
      let r : each (gives_at s files op) at ≡ Ok xs = each_all (gives_at s files op) f at gives ∙ ap (λ ys. let q : Staged (List ℤ) = Ok ys in q) (sym e) in
      weaker s at k files (op ∷ []) (Ok xs) (IsLast at k) (StandIn at k)
      (λ ys l. (l, λ p i. let a = Level-with_op s k files op level p in omega (arith, a)))
      (subst (λ q. Follows s at k files (op ∷ []) q (IsLast at k)) r (follows_one s at k files op level (λ p i. may p (subst (λ ps. In p ps) (sym i) (inl refl)))))

  pub fetched_stands : (seat : Seat) (xs : List ℤ) → Sits s at files seat xs → Follows s at k files (fetched place k seat).ops (Ok xs) (StandIn at (fetched place k seat).reg)
  fetched_stands (fixed z) xs h = by_one (micro.Fixed z) (λ p. z) xs h.holds (λ p i. refl) (λ p i. (λ c l. elim l [ ], λ y l. elim l [ ]))
  fetched_stands (cell c) xs h = by_one (micro.Load (cell_address c)) (λ p. cell_value s.cells c) xs h.holds
      (λ p i. ap (λ d. let q : Exact = Ok (cell_value s.cells d) in q) (cell_is s.cells (files p) c))
      (λ p i. (
        λ d l. elim l as (λ z. In d s.may) [
          | inl e ↦ subst (λ x. In x s.may) (sym (e ∙ cell_is s.cells (files p) c)) (h.may p i)
          | inr n ↦ elim n [ ]
        ],
        λ y l. elim l [ ],
      ))
  fetched_stands (cells first) xs h = by_one (micro.Load (indexed_address first place)) (λ p. cell_value s.cells (first + p)) xs h.holds
      (λ p i. ap (λ d. let q : Exact = Ok (cell_value s.cells d) in q) (indexed_is s.cells (files p) first place p (here p i).0))
      (λ p i. (
        λ d l. elim l as (λ z. In d s.may) [
          | inl e ↦ subst (λ x. In x s.may) (sym (e ∙ indexed_is s.cells (files p) first place p (here p i).0)) (h.may p i)
          | inr n ↦ elim n [ ]
        ],
        λ y l. elim l [ ],
      ))
  fetched_stands (register r) xs h = follows_nothing s at k files xs (StandIn at r) (h.holds, h.may)
