-- The cells that a member in a unit reads and changes are the board's.
use Rattle.std.proofs.Common.{◌≡◌, ◌⊎◌, inl, inr, ℕ, ◌<◌, List, length, refl, arith}
use Rattle.phase_ops.specs.declared.effect.Effect.{Effect}
use Rattle.phase_ops.specs.declared.effect.Effect.TheVariants.{Store, Least}
use Rattle.phase_ops.specs.declared.phase.Phase.{Phase}
use Rattle.phase_ops.specs.Phases.{Cells, parameter, unit_reads, strand_effects, reads, first_strand, strand_count}
use Rattle.phase_ops.specs.Free.{In, WellFormed}
use Rattle.phase_ops.specs.Course.{memory_after, work_at}
use Rattle.phase_ops.proofs.Members.{in_either, from_each}
use Rattle.phase_ops.proofs.Laying.{stored_is, lessened_is}
use Rattle.act_eval.proofs.InOrder.{strand_there}
use Rattle.team_core.specs.Laws.{phase_at}
use Rattle.team_core.proofs.Entering.{enters_well}
use Rattle.team_core.proofs.Lengths.{memory_long}
use Rattle.phase_board.specs.declared.plays.Run.{Run}
use Rattle.phase_board.specs.Rule.{course_of, InUnit}

module _ (r : Run) (t u d : ℕ) (h : InUnit r t u d) where
  abbrev p : Phase
  p = phase_at r.phases t

  abbrev m : Cells
  m = memory_after (course_of r) t

  abbrev es : List Effect
  es = (work_at (course_of r) t).effects u

  well : WellFormed p m r.chunk
  well = (enters_well r.phases r.opening r.team r.chunk t m h.may (record { there = h.there; keyless = h.keyless; cells_are = refl })).0

  long : length m ≡ length r.opening
  long = memory_long r.phases r.opening r.chunk r.team t (let l = h.there in omega (arith, l))

  pub read_there : (c : ℕ) → In c ((work_at (course_of r) t).reads u) → c < length r.opening
  read_there c i = by (in_either c (parameter p) (unit_reads p m r.chunk u) i)
    where
      by : In c (parameter p) ⊎ In c (unit_reads p m r.chunk u) → c < length r.opening
      by (inl j) = let l = well.there c j in let e = long in omega (arith, l, e)
      by (inr j) =
          let x = from_each c (reads p m r.chunk) (first_strand p r.chunk u) (strand_count p m r.chunk u) j in
          let l = well.loaded x.0 c (strand_there p m r.chunk u x.0 h.unit x.1 x.2) x.3 in let e = long in omega (arith, l, e)

  pub store_there : (c v : ℕ) → In (Store c v) es → c < length r.opening
  store_there c v i =
      let x = from_each (Store c v) (strand_effects p m r.chunk) (first_strand p r.chunk u) (strand_count p m r.chunk u) i in
      let l = well.laid x.0 c (strand_there p m r.chunk u x.0 h.unit x.1 x.2) (inl (stored_is c v (strand_effects p m r.chunk x.0) x.3)) in let e = long in omega (arith, l, e)

  pub least_there : (c v : ℕ) → In (Least c v) es → c < length r.opening
  least_there c v i =
      let x = from_each (Least c v) (strand_effects p m r.chunk) (first_strand p r.chunk u) (strand_count p m r.chunk u) i in
      let l = well.laid x.0 c (strand_there p m r.chunk u x.0 h.unit x.1 x.2) (inr (lessened_is c v (strand_effects p m r.chunk x.0) x.3)) in let e = long in omega (arith, l, e)
