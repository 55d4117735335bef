-- Phases that are free of races are a course of work, and what a team closes with is what they leave.
use Rattle.std.proofs.Common.{zero, suc, [], ◌∷◌, ◌<◌, length, sym, subst, arith}
use Rattle.phase_ops.specs.Phases.{after_phase, after, key, none_yet}
use Rattle.phase_ops.specs.Free.{WellFormed, FreeFrom, IsChunk}
use Rattle.phase_ops.specs.Course.{memory_after, key_at}
use Rattle.team_core.specs.Machines.{CanRun}
use Rattle.team_core.proofs.Sizes.{units_few, effects_few}
use Rattle.std.proofs.Common.{◌≡◌, ℕ, List, ap, ◌∙◌, arith}
use mathlib.Core.Option.{some}
use lib.ListN.{get_elem?}
use Rattle.team_core.specs.declared.member.MemberState.TheVariants.{Ended}
use Rattle.team_core.specs.declared.member.StepKind.{StepKind}
use Rattle.phase_ops.specs.declared.phase.Phase.{Phase}
use Rattle.phase_ops.specs.Phases.{Cells, units}
use Rattle.phase_ops.specs.Course.{course, Safe}
use Rattle.phase_ops.proofs.Courses.{memory_is, key_is, course_safe}
use Rattle.team_core.specs.declared.state.CoreState.{CoreState}
use Rattle.team_core.specs.declared.state.Member.{Member}
use Rattle.team_core.specs.Core.{Sound, start, Ending}
use Rattle.team_core.specs.Runs.{run, IsSafeStore}
use Rattle.team_core.specs.Laws.{MayStart, Closing, phase_at}
use Rattle.team_core.proofs.Runs.{every_run, stores_apart}
use Rattle.team_core.proofs.Ends.{ends}

pub team_safe : (ps : List Phase) (opening : Cells) (team chunk : ℕ) → MayStart ps opening team chunk → Safe (course ps opening chunk team)
team_safe ps opening team chunk may = course_safe ps opening chunk team may.chunk_is may.free

pub team_sound : (ps : List Phase) (opening : Cells) (team chunk : ℕ) (steps : List (ℕ × StepKind)) → MayStart ps opening team chunk
    → Sound (course ps opening chunk team) (run (course ps opening chunk team) (start (course ps opening chunk team)) steps)
team_sound ps opening team chunk steps may = every_run (course ps opening chunk team) steps (team_safe ps opening team chunk may) may.someone

pub team_apart : (ps : List Phase) (opening : Cells) (team chunk : ℕ) (k : CoreState) (m : ℕ) → MayStart ps opening team chunk → Sound (course ps opening chunk team) k → IsSafeStore (course ps opening chunk team) k m
team_apart ps opening team chunk k m may s = stores_apart (course ps opening chunk team) k m (team_safe ps opening team chunk may) s

closing : (ps : List Phase) (opening : Cells) (team chunk : ℕ) (k : CoreState) (entered : ℕ) → Ending (course ps opening chunk team) k entered → Closing ps opening chunk k entered
closing ps opening team chunk k entered e = record {
  within = e.within;
  cells_are = e.cells_are ∙ memory_is ps opening chunk team entered e.within;
  keys = λ t l. e.keys t l ∙ key_is ps opening chunk team t (let w = e.within in omega (arith, l, w));
  earlier = e.earlier;
  stopped = e.stopped;
  finished = λ t l. e.finished t l ∙ ap (λ (m : Cells). units (phase_at ps t) m chunk) (memory_is ps opening chunk team t (let w = e.within in omega (arith, l, w)));
}

pub team_closes : (ps : List Phase) (opening : Cells) (team chunk : ℕ) (k : CoreState) (m : ℕ) (x : Member) → MayStart ps opening team chunk → Sound (course ps opening chunk team) k
    → get_elem? k.members m ≡ some x → x.state ≡ Ended → (entered : ℕ) × Closing ps opening chunk k entered
team_closes ps opening team chunk k m x may s at is = let e = ends (course ps opening chunk team) k s m x at may.someone is in (e.0, closing ps opening team chunk k e.0 e.1)

-- a phase of the list is well formed, as long as none before it has a key
formed : (chunk : ℕ) (is : IsChunk chunk) (ps : List Phase) (m : Cells) → FreeFrom chunk ps m → (t : ℕ) → t < length ps
    → ((s : ℕ) → s < t → key (phase_at ps s) (after ps m chunk s) chunk ≡ none_yet) → WellFormed (phase_at ps t) (after ps m chunk t) chunk
formed chunk is [] m f t l keyless = absurd (omega (arith, l))
formed chunk is (p ∷ ps) m f zero l keyless = (f.0 chunk is).1
formed chunk is (p ∷ ps) m f (suc t) l keyless =
    formed chunk is ps (after_phase p m chunk) (f.1 (keyless zero (omega arith))) t (omega (arith, l)) (λ s h. keyless (suc s) (omega (arith, h)))

pub team_can : (ps : List Phase) (opening : Cells) (team chunk : ℕ) → MayStart ps opening team chunk → CanRun (course ps opening chunk team)
team_can ps opening team chunk may = record {
  safe = team_safe ps opening team chunk may;
  someone = may.someone;
  team_small = may.team_small;
  few = may.few;
  few_units = λ t l keyless. units_few (phase_at ps t) (memory_after (course ps opening chunk team) t) chunk may.chunk_is.0 (well t l keyless);
  few_effects = λ t u l keyless. effects_few (phase_at ps t) (memory_after (course ps opening chunk team) t) chunk u (well t l keyless);
}
  where
    well : (t : ℕ) → t < length ps → ((s : ℕ) → s < t → key_at (course ps opening chunk team) s ≡ none_yet) → WellFormed (phase_at ps t) (memory_after (course ps opening chunk team) t) chunk
    well t l keyless = subst (λ (z : Cells). WellFormed (phase_at ps t) z chunk) (sym (memory_is ps opening chunk team t (omega (arith, l))))
        (formed chunk may.chunk_is ps opening (may.free.phases chunk may.chunk_is) t l (λ s h. sym (key_is ps opening chunk team s (omega (arith, h, l))) ∙ keyless s h))
