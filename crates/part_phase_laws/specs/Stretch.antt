-- A reduction among the phases of stage 1: a Set before it, and a Set behind it. The laws over all kinds of memory are no contracts, for a
-- statement over kinds is of Type 1; they stand in proofs/Stretch.
use Rattle.std.specs.Prelude.{◌≡◌, ◌⊎◌, ℕ, suc, ℤ, List, [], ◌∷◌, ◌++◌, None, Ok, Err}
use Rattle.ws_base.specs.declared.fault.FaultName.{FaultName}
use Rattle.ws_base.specs.declared.op.CallWord.{CallWord}
use Rattle.ws_base.specs.Numbers.{default_half, reduction}
use Rattle.phase_ops.specs.declared.phase.Source.{Source}
use Rattle.phase_ops.specs.declared.phase.Label.{Label}
use Rattle.phase_ops.specs.declared.phase.Act.{Act}
use Rattle.phase_ops.specs.declared.phase.Phase.TheVariants.{Set}
use Rattle.phase_ops.specs.Phases.{Cells, lay, least_key, key_of, none_yet}
use Rattle.phase_ops.specs.Free.{JoinsAgree, IsChunk}
use Rattle.loop_laws.specs.Moves.{Row, Failure, whole, values_of}
use Rattle.loop_laws.specs.Loops.{Plan, rows_of, does}
use Rattle.list_laws.specs.Lists.{Leads, either_fails, joined_fails, NeverAt}
use Rattle.loop_laws.specs.Sets.{Staging}
use Rattle.part_phase_laws.specs.Parts.{Summing, Joining, Reduced, reducing}

-- from each memory of this kind, the reduction of these values over so many positions
pub record ReducesFrom (pre : Cells → Type 0) (plan : Cells → Plan ℤ) (value : Cells → ℕ → List ℤ → ℤ) (n : Cells → ℕ) (kind : CallWord) (f slot : ℕ) (count : Source) (act : Act) : Type 0 where
  pub summing : (m : Cells) → pre m → Summing ℤ (plan m) (value m) kind f count act m (n m)
  pub joining : (m : Cells) → pre m → Joining slot count m (n m)

-- a memory of this kind, with the total in its slot
abbrev pub Totalled : (Cells → Type 0) → (Cells → Plan ℤ) → (Cells → ℕ → List ℤ → ℤ) → (Cells → ℕ) → CallWord → (f slot : ℕ) → Cells → Type 0
Totalled pre plan value n kind f slot x =
    (m : Cells) × (ts : List (Row ℤ)) × (z : ℤ) × pre m × (whole (plan m).moves (rows_of (plan m) (n m)) ≡ Ok ts) × (reduction default_half kind (values_of (value m) ts) ≡ Ok z) × Reduced slot f (n m) z m x

abbrev pub NoValue : (Cells → Type 0) → (Cells → Plan ℤ) → (Cells → ℕ) → (t k : ℕ) → Type 0
NoValue pre plan n t k = (m : Cells) × (y : Failure) × pre m × (whole (plan m).moves (rows_of (plan m) (n m)) ≡ Err y) × (t ≡ 0) × (k ≡ key_of ((plan m).act y.move) ((plan m).op y.move) (suc y.iteration) y.name)

abbrev pub NoTotal : (Cells → Type 0) → (Cells → Plan ℤ) → (Cells → ℕ → List ℤ → ℤ) → (Cells → ℕ) → CallWord → (t k : ℕ) → Type 0
NoTotal pre plan value n kind t k =
    (m : Cells) × (ts : List (Row ℤ)) × (y : FaultName) × pre m × (whole (plan m).moves (rows_of (plan m) (n m)) ≡ Ok ts) × (reduction default_half kind (values_of (value m) ts) ≡ Err y) × (t ≡ 1) × (k ≡ key_of 0 0 0 y)

abbrev pub FailsSo : (Cells → Type 0) → (Cells → Plan ℤ) → (Cells → ℕ → List ℤ → ℤ) → (Cells → ℕ) → CallWord → (t k : ℕ) → Type 0
FailsSo pre plan value n kind t k = NoValue pre plan n t k ⊎ NoTotal pre plan value n kind t k

-- ---- with a Set on both sides

abbrev pub AfterSet : List Act → (Cells → Type 0) → Cells → Type 0
AfterSet acts pre x = (m : Cells) × pre m × (least_key (does acts m 0) ≡ none_yet) × (x ≡ lay m (does acts m 0))

abbrev pub SetFails : List Act → (Cells → Type 0) → ℕ → Type 0
SetFails acts pre k = (m : Cells) × pre m × (k ≡ least_key (does acts m 0))

-- The stretch before, the reduction, and the stretch behind, from this memory.
abbrev pub StretchLaw : Type 0
StretchLaw =
    (l t f slot : ℕ) (kind : CallWord) (count : Source) (act : Act) (first last : List Act) (lf ll : ℕ) (bf bl : Label) (start : Cells) (plan : Cells → Plan ℤ) (value : Cells → ℕ → List ℤ → ℤ) (n : Cells → ℕ)
    → (let begun : Cells → Type 0 = AfterSet first (λ x. x ≡ start) in
    let total : Cells → Type 0 = Totalled begun plan value n kind f slot in
    Staging first start → ReducesFrom begun plan value n kind f slot count act → ((m : Cells) → total m → Staging last m)
    → JoinsAgree None (Set lf bf first ∷ (reducing l t f slot kind count act ++ Set ll bl last ∷ []))
    × ((chunk : ℕ) → IsChunk chunk
    → Leads chunk (Set lf bf first ∷ (reducing l t f slot kind count act ++ Set ll bl last ∷ [])) (λ x. x ≡ start) (AfterSet last total)
    (either_fails (SetFails first (λ x. x ≡ start)) (joined_fails 2 (FailsSo begun plan value n kind) (either_fails (SetFails last total) NeverAt)))))
