use Rattle.std.proofs.Common.{◌≡◌, ◌+◌, ◌-◌, length}
use lib.ListN.{get_elem?}
use Rattle.phase_ops.specs.Phases.{each_from, strand_effects}
use Rattle.team_core.specs.Scratches.{openings, InRounds, search_of}
use Rattle.team_core.proofs.rehearsal.find_effect.Given as goal

abbrev pub ghosts-try_strand : goal.ghosts-try_strand
ghosts-try_strand a = record { search = search_of a.phase.now a.scratch.now.cells a.chunks.chunk a.strand a.scratch.now.wanted }

abbrev pub invariant-loop-strand : goal.invariant-loop-strand
invariant-loop-strand l = record {
  opening : openings l.scratch.cells ≡ openings l.fn.scratch.cells;
  rounds : InRounds l.scratch.cells l.scratch.round;
  long : length l.registers ≡ length l.fn.registers;
  behind : l.done ≡ length (each_from (strand_effects l.phase (openings l.fn.scratch.cells) l.chunks.chunk) l.first (l.strand - l.first)) + l.left;
  left : get_elem? (each_from (strand_effects l.phase (openings l.fn.scratch.cells) l.chunks.chunk) l.first (l.end - l.first)) l.done
      ≡ get_elem? (each_from (strand_effects l.phase (openings l.fn.scratch.cells) l.chunks.chunk) l.strand (l.end - l.strand)) l.left;
}
