-- What is known of a pass after an effect of its unit.
use Rattle.std.proofs.Common.{◌≡◌, ◌≢◌, ℕ, suc, ◌<◌, ◌≤◌, Bool, false, [], length, sym, ap, ◌∙◌, subst}
use mathlib.Core.Option.{some}
use lib.ListN.{get_elem?}
use Rattle.atomic_table.specs.Table.{Me}
use Rattle.phase_ops.specs.declared.effect.Effect.{Effect}
use Rattle.phase_ops.specs.Course.{work_at}
use Rattle.team_core.specs.declared.member.MemberState.{MemberState}
use Rattle.team_core.specs.declared.member.MemberState.TheVariants.{Within, Ended}
use Rattle.team_core.proofs.Lists.{inside}
use Rattle.phase_board.specs.declared.plays.Run.{Run}
use Rattle.phase_board.specs.declared.plays.View.{View}
use Rattle.phase_board.specs.declared.plays.Role.{Role}
use Rattle.phase_board.specs.declared.plays.Role.TheVariants.{Of}
use Rattle.phase_board.specs.declared.board.Pass.TheInside.{Inside}
use Rattle.phase_board.specs.Held.{Held}
use Rattle.phase_board.specs.Rule.{course_of, S, view, with_role, state_to, acted_state, InUnit, IsKnown}

-- its fields as callers see them
abbrev pub held : Inside → Held
held p = record { table = p.seat.table_id; run = p.seat.me.0.run; member = p.member; phase = p.phase; state = p.state; full = p.full; sights = p.seat.me.0.sights; registers = p.registers.items }

-- what a pass's seat and fields keep
abbrev pub Keeps : Me S View → ℕ → ℕ → MemberState → Bool → Type 0
Keeps me m t st full =
    (me ≡ (view me.0.run (Of m t st full) me.0.sights, [])) × (st ≢ Ended → t < length me.0.run.phases) × (length me.0.run.phases ≤ 512) × IsKnown me.0.run t st

module _ (me me' : Me S View) (m t : ℕ) (st st' : MemberState) (full : Bool) (k : Keeps me m t st full) (st'_is : st' ≡ acted_state st) (me'_is : me' ≡ with_role me (state_to acted_state me.0.role)) where
  run_is : me'.0.run ≡ me.0.run
  run_is = ap (λ (x : Me S View). x.0.run) me'_is

  sights_are : me'.0.sights ≡ me.0.sights
  sights_are = ap (λ (x : Me S View). x.0.sights) me'_is

  role_is : state_to acted_state me.0.role ≡ Of m t st' false
  role_is = ap (λ (x : Me S View). state_to acted_state x.0.role) k.0 ∙ ap (λ (s : MemberState). let r : Role = Of m t s false in r) (sym st'_is)

  pub acted_keeps : (u d : ℕ) (e : Effect) → st ≡ Within u d → get_elem? ((work_at (course_of me.0.run) t).effects u) d ≡ some e → Keeps me' m t st' false
  acted_keeps u d e is next =
      let unit : InUnit me.0.run t u d = subst (λ (s : MemberState). IsKnown me.0.run t s) is k.3 in
      let more = inside ((work_at (course_of me.0.run) t).effects u) d e next in
      let now : Within u (suc d) ≡ st' = ap acted_state (sym is) ∙ sym st'_is in (
        me'_is ∙ (λ i. (view (sym run_is i) (role_is i) (sym sights_are i), ap (λ (x : Me S View). x.1) k.0 i)),
        (λ n. subst (λ (r : Run). t < length r.phases) (sym run_is) unit.there),
        subst (λ (r : Run). length r.phases ≤ 512) (sym run_is) k.2,
        subst (λ (x : Run × MemberState). IsKnown x.0 t x.1) (λ i. (sym run_is i, now i)) (record { may = unit.may; there = unit.there; keyless = unit.keyless; unit = unit.unit; done = more }),
      )
