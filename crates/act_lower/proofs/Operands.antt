-- Operands in registers.
use Rattle.std.proofs.Common.{◌≡◌, inl, inr, refl, sym, ◌∙◌, subst, ℕ, ◌+◌, ◌<◌, List, [], ◌∷◌, map, length, Ok, ℤ}
use Rattle.phase_ops.specs.declared.phase.Micro.{Micro}
use Rattle.phase_ops.specs.Phases.{Cells, cell_value, cell_of, address, looks}
use Rattle.phase_ops.specs.Phases as phase
use Rattle.phase_ops.specs.Free.{In}
use Rattle.hlfir_ops.specs.declared.op.ValueId.{ValueId}
use Rattle.hlfir_meaning.specs.Environments.{Environment}
use Rattle.hlfir_meaning.specs.Places.{column_at, columns_of}
use Rattle.act_laws.specs.Together.{Files, Scene, with_ops, Level, Follows}
use Rattle.act_laws.specs.Seats.{Table, Holds, HasPlace}
use Rattle.act_laws.specs.Fetches.{fetched}
use Rattle.act_lower.specs.Code.{seat_of, operands}
use Rattle.act_laws.specs.Seats.{StandIn}
use Rattle.act_laws.proofs.Following.{Level-with_ops, kept, length_grows, then_follows, follows_nothing, follows_map}
use Rattle.act_laws.proofs.Fetching.{fetched_stands}
use Rattle.act_laws.proofs.Seating.{same_column, holds_later, place_later}

-- one column after another stands in one register after another
abbrev pub StandAll : List ℕ → List ℕ → List (List ℤ) → Files → Type 0
StandAll at regs cs files = (cs ≡ map (λ r. map (λ p. phase.register (files p) r) at) regs) × ((p r : ℕ) → In p at → In r regs → r < length (files p))

stays : (s : Scene) (at : List ℕ) (files : Files) (ops : List Micro) (reg : ℕ) (xs : List ℤ) → StandIn at reg xs files → StandIn at reg xs (with_ops s ops files)
stays s at files ops reg xs h = (h.0 ∙ same_column s at (λ p. phase.register (files p) reg) (λ p. phase.register (with_ops s ops files p) reg) (λ p i. sym (kept s files ops p reg (h.1 p i))), λ p i. length_grows s files ops p reg (h.1 p i))

both_stand : (at : List ℕ) (files : Files) (reg : ℕ) (regs : List ℕ) (xs : List ℤ) (cs : List (List ℤ)) → StandIn at reg xs files → StandAll at regs cs files → StandAll at (reg ∷ regs) (xs ∷ cs) files
both_stand at files reg regs xs cs h more = (
  λ i. h.0 i ∷ more.0 i,
  λ p r i l. elim l as (λ z. r < length (files p)) [
    | inl e ↦ subst (λ x. x < length (files p)) (sym e) (h.1 p i)
    | inr n ↦ more.1 p r i n
  ],
)

abbrev pub AllKnown : List ℕ → List ValueId → Type 0
AllKnown known [] = Unit {0}
AllKnown known (v ∷ vs) = In v.number known × AllKnown known vs

module _ (s : Scene) (at : List ℕ) (place : ℕ) (table : Table) (env : Environment) (known : List ℕ) where
  pub operands_stand : (k : ℕ) (files : Files) → Level k files → HasPlace at place files → Holds s at files known table env → (vs : List ValueId) → AllKnown known vs
      → Follows s at k files (operands place k table vs).ops (Ok (columns_of at env vs)) (StandAll at (operands place k table vs).regs)
  operands_stand k files level here h [] all = follows_nothing s at k files [] (StandAll at []) (refl, λ p r i l. elim l [ ])
  operands_stand k files level here h (v ∷ vs) all =
      let x = fetched place k (seat_of table v) in
      let next : Files = with_ops s x.ops files in
      let rest = operands place (k + length x.ops) table vs in
      let xs = column_at at (env v.number) in
      then_follows s at k files x.ops rest.ops (Ok xs) (λ ys. Ok (ys ∷ columns_of at env vs)) (StandIn at x.reg) (StandAll at (x.reg ∷ rest.regs))
      (fetched_stands s at k place files level here (seat_of table v) xs (h v.number all.0))
      (λ ys stands. follows_map s at (k + length x.ops) next rest.ops (Ok (columns_of at env vs)) (λ cs. ys ∷ cs) (StandAll at rest.regs) (StandAll at (x.reg ∷ rest.regs))
      (λ cs more. both_stand at (with_ops s rest.ops next) x.reg rest.regs ys cs (stays s at next rest.ops x.reg ys stands) more)
      (operands_stand (k + length x.ops) next (Level-with_ops s k files x.ops level) (place_later s files x.ops at place here) (holds_later s files x.ops at known table env h) vs all.1))
