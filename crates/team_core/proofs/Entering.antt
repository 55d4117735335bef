-- What is known of a phase when it is entered.
use Rattle.std.specs.Prelude.{Option, Some, None}
use Rattle.std.proofs.Common.{◌≡◌, ℕ, zero, suc, ◌<◌, List, [], ◌∷◌, length, sym, refl, ◌∙◌, subst, arith}
use Rattle.ws_base.specs.declared.op.CallWord.{CallWord}
use Rattle.phase_ops.specs.declared.phase.Source.{Source}
use Rattle.phase_ops.specs.declared.phase.Phase.{Phase}
use Rattle.phase_ops.specs.declared.phase.Phase.TheVariants.{Set, Loop, Part, Join}
use Rattle.phase_ops.specs.Phases.{Cells, after_phase, after, key, none_yet}
use Rattle.phase_ops.specs.Free.{WellFormed, FreeFrom, Free, Agrees, JoinsAgree, IsChunk}
use Rattle.phase_ops.specs.Course.{course}
use Rattle.phase_ops.proofs.Courses.{memory_is, key_is}
use Rattle.act_eval.specs.Strands.{PartialsFit}
use Rattle.act_eval.proofs.Joining.{join_fits}
use Rattle.team_core.specs.Laws.{MayStart, phase_at}
use Rattle.team_core.specs.Machines.{Enters}

-- the memory is what the phase before has left, without a key
abbrev Follows : ℕ → Option Phase → Cells → Type 0
Follows chunk None m = Unit {0}
Follows chunk (Some q) m = (m₀ : Cells) × Free q m₀ × (key q m₀ chunk ≡ none_yet) × (m ≡ after_phase q m₀ chunk)

-- a Join may merge what the Part before it has left
first_fits : (chunk : ℕ) → IsChunk chunk → (p : Phase) (before : Option Phase) (m : Cells) → Agrees p before → Follows chunk before m → PartialsFit p m chunk
first_fits chunk is (Set l b acts) before m a f = tt
first_fits chunk is (Loop l b count acts) before m a f = tt
first_fits chunk is (Part l count act k t f) before m a g = tt
first_fits chunk is (Join l count k t f slot) None m a g = absurd a
first_fits chunk is (Join l count k t f slot) (Some (Set l' b acts)) m a g = absurd a
first_fits chunk is (Join l count k t f slot) (Some (Loop l' b count' acts)) m a g = absurd a
first_fits chunk is (Join l count k t f slot) (Some (Join l' count' k' t' f' slot')) m a g = absurd a
first_fits chunk is (Join l count k t f slot) (Some (Part l' count' act k' t' f')) m a g =
    let free = g.1 chunk is in
    subst (λ (x : Source × CallWord × ℕ × Cells). PartialsFit (Join l x.0 x.1 t x.2 slot) x.3 chunk) (λ i. (a.1 i, a.2 i, a.4 i, sym g.3 i))
    (join_fits l' count' act k' t' f' g.0 chunk is free.1 free.0 g.2 l t slot)

entered : (chunk : ℕ) (is : IsChunk chunk) (before : Option Phase) (ps : List Phase) (m : Cells) → JoinsAgree before ps → FreeFrom chunk ps m → Follows chunk before m → (t : ℕ) → t < length ps
    → ((s : ℕ) → s < t → key (phase_at ps s) (after ps m chunk s) chunk ≡ none_yet) → WellFormed (phase_at ps t) (after ps m chunk t) chunk × PartialsFit (phase_at ps t) (after ps m chunk t) chunk
entered chunk is before [] m j f g t l keyless = absurd (omega (arith, l))
entered chunk is before (p ∷ ps) m j f g zero l keyless = ((f.0 chunk is).1, first_fits chunk is p before m j.0 g)
entered chunk is before (p ∷ ps) m j f g (suc t) l keyless =
    let none = keyless zero (omega arith) in
    entered chunk is (Some p) ps (after_phase p m chunk) j.1 (f.1 none) (m, f.0, none, refl) t (omega (arith, l)) (λ s h. keyless (suc s) (omega (arith, h)))

pub enters_well : (ps : List Phase) (opening : Cells) (team chunk t : ℕ) (cells : Cells) → MayStart ps opening team chunk → Enters (course ps opening chunk team) t cells
    → WellFormed (phase_at ps t) cells chunk × PartialsFit (phase_at ps t) cells chunk
enters_well ps opening team chunk t cells may e =
    let b = e.there in
    let is : after ps opening chunk t ≡ cells = sym (e.cells_are ∙ memory_is ps opening chunk team t (omega (arith, b))) in
    subst (λ (m : Cells). WellFormed (phase_at ps t) m chunk × PartialsFit (phase_at ps t) m chunk) is
    (entered chunk may.chunk_is None ps opening may.free.joins (may.free.phases chunk may.chunk_is) tt t b (λ s h. sym (key_is ps opening chunk team s (omega (arith, h, b))) ∙ e.keyless s h))
