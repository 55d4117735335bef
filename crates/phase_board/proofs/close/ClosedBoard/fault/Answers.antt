use Rattle.std.proofs.Common.{◌≡◌, ℕ, zero, suc, ◌-◌, ◌<◌, List, [], ◌∷◌, length, slice_index_or, sym, refl, ap, ◌∙◌, subst, arith}
use Rattle.phase_ops.specs.declared.phase.Phase.{Phase}
use Rattle.phase_ops.specs.Phases.{none_yet}
use Rattle.phase_ops.specs.Faults.{IsKey, fault_at}
use Rattle.phase_ops.proofs.Held.{key_held}
use Rattle.team_core.specs.Laws.{phase_at}
use Rattle.phase_board.proofs.close.ClosedBoard.fault.Goals as goal

-- a phase that is there, whatever stands for one that is not
there : (ps : List Phase) (t : ℕ) (a b : Phase) → t < length ps → slice_index_or ps t a ≡ slice_index_or ps t b
there [] t a b l = absurd (omega (arith, l))
there (p ∷ ps) zero a b l = refl
there (p ∷ ps) (suc t) a b l = there ps t a b (omega (arith, l))

pub returns-then-key-lt18446744073709551615 : goal.returns-then-key-lt18446744073709551615
returns-then-key-lt18446744073709551615 c =
    let b = c.args.self.now in
    let e : c.key-key.result ≡ b.key = c.key-key.ensures.value in
    let some : b.key < none_yet = subst (λ (k : ℕ). k < none_yet) e c.if-key-lt18446744073709551615.true in
    let h = b.outcome.has_key some in
    let live = h.0 in let within = b.outcome.within in
    let is : c.index-phases-at.result ≡ phase_at b.run.phases (b.entered - 1) = c.index-phases-at.is ∙ ap (λ (ps : List Phase). slice_index_or ps (b.entered - 1) c.index-phases-at.result) c.as_slice-phases.ensures
    ∙ there b.run.phases (b.entered - 1) c.index-phases-at.result _ (omega (arith, live, within)) in (
      some,
      (
        key_held _ _ h.1,
        λ act op element name k. subst (λ (p : Phase). c.fault_of.result ≡ fault_at p act element name) is
            (c.fault_of.ensures act op element name (subst (λ (z : Phase × ℕ). IsKey z.0 z.1 act op element name) (λ i. (sym is i, sym e i)) k)),
      ),
    )
