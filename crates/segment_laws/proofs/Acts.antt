-- What acts do, from what their runs of ops do.
use Rattle.std.proofs.Common.{◌≡◌, ℕ, suc, ◌+◌, false, List, [], ◌∷◌, ◌++◌, length, ap, ◌∙◌, subst, arith, Some, None, Ok, Err, ℤ, pos, ◌+ℤ◌, ◌*ℤ◌}
use Rattle.std.proofs.lemmas.Int.{ints}
use Rattle.phase_ops.specs.declared.effect.Effect.{Effect}
use Rattle.phase_ops.specs.declared.effect.Effect.TheVariants.{Fault}
use Rattle.phase_ops.specs.declared.phase.Micro.{Micro}
use Rattle.phase_ops.specs.Phases.{Cells, cell_of, key_of, Spot, Event, ops_events, spot, makes}
use Rattle.loop_laws.specs.Moves.{Move, Ended, moved}
use Rattle.loop_laws.specs.Loops.{does, planned}
use Rattle.segment_laws.specs.Segments.{Ran, ran, AllStoreNothing, onward}
use Rattle.segment_laws.specs.Compiled.{Compiled, all_ops, RanSo}
use Rattle.segment_laws.proofs.Segments.{segment, seen_makes}
use Rattle.segment_laws.proofs.Compiled.{runs}

-- an act from a run of its ops on, of which the effects alone count
pub onward_makes : (s : Spot) (ops more : List Micro) (m : Cells) (regs : List ℤ) (rest : Cells → List ℤ → List Event) → AllStoreNothing ops → makes (ops_events s (ops ++ more) m regs rest) ≡ makes (onward s more m rest (ran s.iteration m regs ops))
onward_makes s ops more m regs rest h = ap makes (segment s ops more m regs rest h) ∙ seen_makes s.iteration m ops regs (onward s more m rest (ran s.iteration m regs ops))

-- ---- an act whose ops are those of some moves, and then a tail

module _ (V : Type 0) (stands : ℕ → ℕ → List ℤ → List V → Type 0) (m : Cells) (number : ℕ → ℕ) where
  abbrev pub ActEnds : (k i n : ℕ) → List Micro → (Cells → List ℤ → List Event) → Ended V → List Effect → Type 0
  ActEnds k i n tail rest (Ok (Some s)) es = (regs : List ℤ) × stands n i regs s × (es ≡ makes (ops_events (record { act = k; element = suc i; iteration = i }) tail m regs rest))
  ActEnds k i n tail rest (Ok None) es = es ≡ makes (rest m [])
  ActEnds k i n tail rest (Err e) es = es ≡ Fault (key_of k (number e.0) (suc i) e.1) ∷ []

  pub act_ends : (k i line : ℕ) (xs : List (Move V)) (parts : List (List Micro)) (tail : List Micro) (rest : Cells → List ℤ → List Event) (s : List V) → AllStoreNothing (all_ops parts) → Compiled stands m number 0 xs parts → stands 0 i [] s
      → ActEnds k i (length xs) tail rest (moved xs s) (makes (ops_events (spot k (record { line = line; ops = all_ops parts ++ tail; whole = false }) i) (all_ops parts ++ tail) m [] rest))
  act_ends k i line xs parts tail rest s quiet w h = by (moved xs s) (ran i m [] (all_ops parts)) (runs V stands m number 0 i xs parts [] s w h) (onward_makes (record { act = k; element = suc i; iteration = i }) (all_ops parts) tail m [] rest quiet)
    where
      by : (x : Ended V) (r : Ran) → RanSo stands number 0 (0 + length xs) i x r → (let es : List Effect = makes (ops_events (record { act = k; element = suc i; iteration = i }) (all_ops parts ++ tail) m [] rest) in es ≡ makes (onward (record { act = k; element = suc i; iteration = i }) tail m rest r))
          → ActEnds k i (length xs) tail rest x (makes (ops_events (record { act = k; element = suc i; iteration = i }) (all_ops parts ++ tail) m [] rest))
      by (Ok (Some t)) r g e = (g.0, subst (λ (z : ℕ). stands z i g.0 t) (let q : 0 + length xs ≡ length xs = omega arith in q) g.2, e ∙ ap (λ (z : Ran). makes (onward (record { act = k; element = suc i; iteration = i }) tail m rest z)) g.1)
      by (Ok None) r g e = e ∙ ap (λ (z : Ran). makes (onward (record { act = k; element = suc i; iteration = i }) tail m rest z)) g
      by (Err q) r g e = e ∙ ap (λ (z : Ran). makes (onward (record { act = k; element = suc i; iteration = i }) tail m rest z)) g ∙ ap (λ (z : ℕ). let es : List Effect = Fault (key_of k (number z) (suc i) q.1) ∷ [] in es) (let u : 0 + q.0 ≡ q.0 = omega arith in u)

-- ---- a cell that a register counts from a base on

pub at_is : (b i : ℕ) → cell_of (pos b +ℤ (pos i *ℤ pos 1 +ℤ pos 0)) ≡ b + i
at_is b i = ap cell_of (let e : pos b +ℤ (pos i *ℤ pos 1 +ℤ pos 0) ≡ pos (b + i) = grind (arith, ints) in e)

abbrev pub at_first : ℕ → Spot
at_first i = record { act = 0; element = suc i; iteration = i }

abbrev pub nothing : Cells → List ℤ → List Event
nothing m regs = []

-- ---- a loop of one act that follows its plan

module _ (V : Type 0) (stands : ℕ → ℕ → List ℤ → List V → Type 0) (m : Cells) (number : ℕ → ℕ) where
  -- the act 0 has the ops of all moves, one run after another, and then what a place does at its end
  pub one_act : (i line : ℕ) (xs : List (Move V)) (start : ℕ → List V) (last : ℕ → List V → List Effect) (parts : List (List Micro)) (tail : List Micro) → AllStoreNothing (all_ops parts) → Compiled stands m number 0 xs parts → stands 0 i [] (start i)
      → ((regs : List ℤ) (s : List V) → stands (length xs) i regs s → makes (ops_events (at_first i) tail m regs nothing) ≡ last i s)
      → does (record { line = line; ops = all_ops parts ++ tail; whole = false } ∷ []) m i ≡ planned (record { moves = xs; act = λ o. 0; op = number; start = start; first = λ j. []; last = last }) i (moved xs (start i))
  one_act i line xs start last parts tail quiet w h at_end = by (moved xs (start i)) (act_ends V stands m number 0 i line xs parts tail nothing (start i) quiet w h)
    where
      by : (x : Ended V) → ActEnds V stands m number 0 i (length xs) tail nothing x (does (record { line = line; ops = all_ops parts ++ tail; whole = false } ∷ []) m i)
          → does (record { line = line; ops = all_ops parts ++ tail; whole = false } ∷ []) m i ≡ planned (record { moves = xs; act = λ o. 0; op = number; start = start; first = λ j. []; last = last }) i x
      by (Ok (Some s)) e = e.2 ∙ at_end e.0 s e.1
      by (Ok None) e = e
      by (Err q) e = e
