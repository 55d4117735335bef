use Rattle.std.proofs.Common.{◌≡◌, ℕ, Bool, List, slice_index_or, get_or, ap, sym, refl, ◌∙◌}
use Rattle.std.specs.Prelude as std
use Rattle.phase_ops.specs.declared.effect.Effect.{Effect}
use Rattle.team_core.specs.declared.member.StepKind.{StepKind}
use Rattle.team_core.specs.declared.state.CoreState.{CoreState}
use Rattle.team_core.specs.declared.state.Member.{Member}
use Rattle.team_core.specs.Core.{member_of, nobody}
use Rattle.team_core.specs.Machines.{allowed}
use Rattle.team_core.proofs.Choices.{performs, refuses}
use Rattle.team_core.proofs.machine.Machine.step.Goals as goal

-- what is asked of the slices is asked of the lists
asked : (how : StepKind) (m : ℕ) (xs ys : List Member) (os ps : List (std.Option Effect)) (b : Bool) → xs ≡ ys → os ≡ ps → b ≡ allowed how (get_or xs m nobody).state (get_or xs m nobody).full (get_or os m std.None)
    → b ≡ allowed how (get_or ys m nobody).state (get_or ys m nobody).full (slice_index_or ps m std.None)
asked how m xs ys os ps b e f is = is ∙ (λ i. allowed how (get_or (e i) m nobody).state (get_or (e i) m nobody).full (get_or (f i) m std.None))

pub returns-then-not-allows-clause-answer : goal.returns-then-not-allows-clause-answer
returns-then-not-allows-clause-answer g c =
    let k : CoreState = c.args.self.now.state in
    let m : ℕ = c.args.member in
    let x : Member = member_of k m in
    let is = asked c.args.kind m _ k.members _ c.args.self.now.pending c.allows.result c.as_slice.ensures c.as_slice-2.ensures c.allows.ensures in
    (refuses _ k _ _ _ c.requires.holds m c.requires.there c.args.kind x.state x.full _ refl refl refl (sym is ∙ c.if-not-allows.true), ap (λ (l : List Member). (get_or l m nobody).state) c.as_slice.ensures, refl)

pub returns-then-not-is_look-clause-answer : goal.returns-then-not-is_look-clause-answer
returns-then-not-is_look-clause-answer g c =
    let k : CoreState = c.args.self.now.state in let x : Member = member_of k c.args.member in
    let is = asked c.args.kind c.args.member _ k.members _ c.args.self.now.pending c.allows.result c.as_slice.ensures c.as_slice-2.ensures c.allows.ensures in
    performs _ k _ _ _ c.requires.holds c.args.member c.requires.there c.args.kind x.state x.full _ refl refl refl (sym is ∙ c.if-not-allows.false) (sym c.is_look.ensures ∙ c.if-not-is_look.true) c.advance.new.self.state c.advance.ensures.did
