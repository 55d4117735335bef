-- Where the effects of a unit were looked through.
use Rattle.std.specs.Prelude as std
use Rattle.std.proofs.Common.{◌≡◌, ⊎_elim, ℕ, ◌+◌, ◌-◌, ◌<◌, ◌≤◌, List, length, get_or, set, length-set, get_or-set_same, get_or-set_other, sym, ap, ◌∙◌, subst, arith}
use mathlib.Core.Logic.{dite}
use native.Mathlib.Decide.{ℕ_discrete}
use lib.ListN.{get_elem?}
use Rattle.phase_ops.specs.declared.effect.Effect.{Effect}
use Rattle.phase_ops.specs.declared.phase.Phase.{Phase}
use Rattle.phase_ops.specs.Phases.{Cells, each_from, strand_effects, effects, first_strand, strand_count, natural}
use Rattle.phase_ops.specs.Free.{WellFormed, count_value}
use Rattle.phase_ops.specs.Course.{course, memory_after}
use Rattle.act_eval.specs.Strands.{PartialsFit, AreChunks}
use Rattle.team_core.specs.Machines.{as_option}
use Rattle.team_core.specs.Laws.{MayStart, phase_at}
use Rattle.team_core.specs.Scratches.{openings, InRounds, IsReached}
use Rattle.team_core.specs.Units.{nowhere, IsPlaceOf, IsPlace, ArePlaces, IsEntered}
use Rattle.team_core.specs.declared.units.Place.{Place}
use Rattle.team_core.specs.declared.units.PhaseUnits.{PhaseUnits}
use Rattle.team_core.proofs.Rehearsals.{same_long, from_place, reached_on, reached_first}

module _ (w : PhaseUnits) (ps : List Phase) (h : IsEntered w ps) (member unit done : ℕ) (there : member < w.team) (last : Place) where
  abbrev p : Phase
  p = phase_at ps w.phase

  abbrev m : Cells
  m = openings w.scratch.cells

  abbrev memory : ℕ → Cells
  memory t = memory_after (course ps w.opening w.chunk w.team) t

  abbrev f : ℕ → List Effect
  f = strand_effects p m w.chunk

  abbrev first : ℕ
  first = first_strand p w.chunk unit

  abbrev end : ℕ
  end = first + strand_count p m w.chunk unit

  abbrev old : Place
  old = get_or w.places member nowhere

  module _ (is : IsPlaceOf old w.phase unit done first last) where
    reached : IsReached f first end last.strand last.before × (last.before ≤ done)
    reached = ⊎_elim
        (λ (a : (last ≡ old) × (old.phase ≡ w.phase) × (old.unit ≡ unit) × (old.before ≤ done)).
        let there' : member < length w.places = let e = h.made.placed in omega (arith, there, e) in
        let was : IsPlace (phase_at ps old.phase) (memory old.phase) w.chunk old = h.made.places member there' in
        let at : IsReached f first end old.strand old.before = subst
        (λ (x : ℕ × ℕ × Cells). IsReached (strand_effects (phase_at ps x.0) x.2 w.chunk) (first_strand (phase_at ps x.0) w.chunk x.1) (first_strand (phase_at ps x.0) w.chunk x.1 + strand_count (phase_at ps x.0) x.2 w.chunk x.1) old.strand old.before)
        (λ i. (a.1 i, a.2 i, (ap memory a.1 ∙ sym h.opening_is) i)) was in
        subst (λ (x : Place). IsReached f first end x.strand x.before × (x.before ≤ done)) (sym a.0) (at, a.3))
        (λ (b : last ≡ record { phase = w.phase; unit = unit; strand = first; before = 0 }).
        subst (λ (x : Place). IsReached f first end x.strand x.before × (x.before ≤ done)) (sym b) (reached_first f first end (omega arith), omega arith)) is

    module _ (phase : Phase) (chunk from count : ℕ) (phase_is : phase ≡ p) (chunk_is : chunk ≡ w.chunk) (from_is : from ≡ first) (count_is : count ≡ strand_count p m w.chunk unit) where
      pub unit_value : (o : std.Option Effect) → as_option o ≡ get_elem? (each_from (strand_effects phase m chunk) last.strand (from + count - last.strand)) (done - last.before)
          → as_option o ≡ get_elem? (effects p (memory w.phase) w.chunk unit) done
      unit_value o found =
          let r = reached in
          found ∙ (λ i. get_elem? (each_from (strand_effects (phase_is i) m (chunk_is i)) last.strand (from_is i + count_is i - last.strand)) (done - last.before))
          ∙ from_place f first end last.strand last.before done r.0 r.1
          ∙ ap (λ (n : ℕ). get_elem? (each_from f first n) done) (let e : end - first ≡ strand_count p m w.chunk unit = omega arith in e)
          ∙ ap (λ (x : Cells). get_elem? (effects p x w.chunk unit) done) h.opening_is

      module _ (strand before : ℕ) (found : IsReached (strand_effects phase m chunk) last.strand (from + count) strand before) where
        abbrev next : Place
        next = record { phase = w.phase; unit = unit; strand = strand; before = last.before + before }

        next_reached : IsPlace p (memory w.phase) w.chunk next
        next_reached =
            let on : IsReached f last.strand end strand before = subst (λ (x : Phase × ℕ × ℕ × ℕ). IsReached (strand_effects x.0 m x.1) last.strand (x.2 + x.3) strand before) (λ i. (phase_is i, chunk_is i, from_is i, count_is i)) found in
            subst (λ (x : Cells). IsReached (strand_effects p x w.chunk) first (first + strand_count p x w.chunk unit) strand (last.before + before)) h.opening_is
            (reached_on f first end last.strand last.before strand before reached.0 on)

        still_places : ArePlaces ps w.opening w.team w.chunk (set w.places member next)
        still_places i b =
            let long = length-set w.places member next in
            dite (ℕ_discrete i member)
            (λ e. subst (λ (n : ℕ). IsPlace (phase_at ps (get_or (set w.places member next) n nowhere).phase) (memory (get_or (set w.places member next) n nowhere).phase) w.chunk (get_or (set w.places member next) n nowhere)) (sym e)
            (subst (λ (x : Place). IsPlace (phase_at ps x.phase) (memory x.phase) w.chunk x) (sym (get_or-set_same w.places member next nowhere (omega (arith, b, long, e)))) next_reached))
            (λ n. subst (λ (x : Place). IsPlace (phase_at ps x.phase) (memory x.phase) w.chunk x) (sym (get_or-set_other w.places member i next nowhere n)) (h.made.places i (omega (arith, b, long))))

        pub still_entered : (w' : PhaseUnits) → w'.opening ≡ w.opening → w'.team ≡ w.team → w'.chunk ≡ w.chunk → w'.phase ≡ w.phase → w'.count ≡ w.count → w'.places ≡ set w.places member next
            → length w'.registers.items ≡ length w.registers.items → openings w'.scratch.cells ≡ m → InRounds w'.scratch.cells w'.scratch.round → IsEntered w' ps
        still_entered w' a b c d e places registers cells rounds =
            let long = same_long w'.scratch.cells w.scratch.cells cells in
            record {
              made = record {
                may = subst (λ (x : Cells × ℕ × ℕ). MayStart ps x.0 x.1 x.2) (λ i. (sym a i, sym b i, sym c i)) h.made.may;
                long = long ∙ h.made.long ∙ ap length (sym a);
                placed = ap length places ∙ length-set w.places member next ∙ h.made.placed ∙ sym b;
                places = subst (λ (x : Cells × ℕ × ℕ × List Place). ArePlaces ps x.0 x.1 x.2 x.3) (λ i. (sym a i, sym b i, sym c i, sym places i)) still_places;
                short = λ t l act i. let s = h.made.short t l act i in omega (arith, s, registers);
              };
              there = (let l = h.there in omega (arith, l, d));
              opening_is = cells ∙ h.opening_is ∙ (λ i. memory_after (course ps (sym a i) (sym c i) (sym b i)) (sym d i));
              small = (let s = h.small in omega (arith, s, long));
              rounds = rounds;
              chunks = subst (λ (x : ℕ × ℕ). AreChunks x.0 x.1) (λ i. (sym c i, sym e i)) h.chunks;
              count_is = e ∙ h.count_is ∙ (λ i. natural (count_value (phase_at ps (sym d i)) (sym cells i)));
              well = subst (λ (x : ℕ × Cells × ℕ). WellFormed (phase_at ps x.0) x.1 x.2) (λ i. (sym d i, sym cells i, sym c i)) h.well;
              partials = subst (λ (x : ℕ × Cells × ℕ). PartialsFit (phase_at ps x.0) x.1 x.2) (λ i. (sym d i, sym cells i, sym c i)) h.partials;
            }
