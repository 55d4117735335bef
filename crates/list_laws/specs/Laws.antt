-- What lists of phases do, one behind the other. The laws over all kinds of memory are no contracts, for a statement over kinds is of Type 1; they
-- stand in proofs/Lists.
use Rattle.std.specs.Prelude.{◌≡◌, ℕ, ◌+◌, List, ◌++◌, length, Option, None}
use Rattle.phase_ops.specs.declared.phase.Phase.{Phase}
use Rattle.phase_ops.specs.Phases.{Cells, Outcome, Finished, Failed, result}
use Rattle.phase_ops.specs.Free.{JoinsAgree, FreeFrom, FreeList, IsChunk}

-- Where each Join stands behind its Part in each of two lists, it does in both together.
abbrev pub JoinsLaw : Type 0
JoinsLaw = (before : Option Phase) (ps qs : List Phase) → JoinsAgree before ps → JoinsAgree None qs → JoinsAgree before (ps ++ qs)

-- the outcome of a list that stands behind n phases
abbrev pub behind : ℕ → Outcome → Outcome
behind n (Finished m) = Finished m
behind n (Failed t k) = Failed (n + t) k

-- the outcome of n phases, and of a list behind them that goes on from what they leave
abbrev pub continued : ℕ → (Cells → Outcome) → Outcome → Outcome
continued n next (Finished m) = behind n (next m)
continued n next (Failed t k) = Failed t k

-- Two lists in a row are free of races where the first is, and the second from what the first leaves. They end as the second ends from there, or
-- with the fault of the first.
abbrev pub ListLaw : Type 0
ListLaw =
    (ps qs : List Phase) (m : Cells) → FreeList ps m → JoinsAgree None qs
    → ((chunk : ℕ) → IsChunk chunk → (x : Cells) → result ps m chunk ≡ Finished x → FreeFrom chunk qs x)
    → FreeList (ps ++ qs) m × ((chunk : ℕ) → IsChunk chunk → result (ps ++ qs) m chunk ≡ continued (length ps) (λ x. result qs x chunk) (result ps m chunk))
