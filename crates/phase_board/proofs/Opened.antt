-- A pass that is opened to step on its board: each of its steps keeps the rule.
use Rattle.std.proofs.Common.{◌≡◌, ℕ, ◌+◌, ◌*◌, ◌%◌, ◌^◌, ◌<◌, min, Bool, true, false, [], length, sym, refl, ap, ◌∙◌, subst, arith}
use mathlib.Core.Option.{none, some}
use lib.ListN.{get_elem?}
use Rattle.atomic_table.specs.Table.{Me, step, Allows}
use Rattle.phase_ops.specs.declared.effect.Effect.{Effect}
use Rattle.phase_ops.specs.declared.effect.Effect.TheVariants.{Store, Least, Fault}
use Rattle.phase_ops.specs.Free.{In}
use Rattle.phase_ops.specs.Course.{Course, work_at}
use Rattle.team_core.specs.declared.member.MemberState.{MemberState}
use Rattle.team_core.specs.declared.member.MemberState.TheVariants.{Ready, Within, Out, Arrived, Ended}
use Rattle.team_core.specs.declared.member.StepKind.TheVariants.{Look}
use Rattle.team_core.specs.declared.state.Member.{Member}
use Rattle.team_core.specs.declared.state.CoreState.{CoreState}
use Rattle.team_core.specs.Core.{member}
use Rattle.team_core.specs.Runs.{stepped}
use Rattle.team_core.proofs.Lists.{member_at}
use Rattle.phase_board.specs.declared.plays.Run.{Run}
use Rattle.phase_board.specs.declared.plays.View.{View}
use Rattle.phase_board.specs.declared.plays.Role.TheVariants.{Of}
use Rattle.phase_board.specs.declared.board.Board.{Board}
use Rattle.phase_board.specs.declared.board.Pass.TheInside.{Inside}
use Rattle.phase_board.specs.Held.{Held}
use Rattle.phase_board.specs.Looking.{Looking}
use Rattle.phase_board.specs.Passes.{IsPassOf, IsNext}
use Rattle.phase_board.specs.Rule.{course_of, S, Kept, view, with_role, state_to, acted_state, claimed, acted, finished, arrived, looked, seen, judges_play, InUnit, IsKnown}
use Rattle.phase_board.proofs.Moves.{claims_allowed, puts_allowed, leasts_allowed, notes_allowed, finishes_allowed, arrives_allowed, sees_allowed, judges_allowed, looks_allowed}
use Rattle.phase_board.proofs.Reach.{store_there, least_there}
use Rattle.phase_board.proofs.Units.{held, Keeps, acted_keeps}

-- states that are no end
abbrev lives : MemberState → Type 0
lives Ready = Unit {0}
lives (Within u d) = Unit {0}
lives Out = Unit {0}
lives Arrived = Unit {0}
lives Ended = ⊥

looking_lives : (st : MemberState) → Looking st → lives st
looking_lives Ready n = tt
looking_lives (Within u d) n = tt
looking_lives Out n = absurd n
looking_lives Arrived n = absurd n
looking_lives Ended n = absurd n

can_look : (st : MemberState) → Looking st → (c : Course) (m : ℕ) (x : Member) (k : CoreState) → stepped c k m x Look st ≡ some k
can_look Ready n c m x k = refl
can_look (Within u d) n c m x k = refl
can_look Out n c m x k = absurd n
can_look Arrived n c m x k = absurd n
can_look Ended n c m x k = absurd n

-- the seat may do this to the word i
abbrev pub Steps : Board → Inside → ℕ → (ℕ → ℕ) → (ℕ → Me S View → Type 0) → Type 0
Steps b p i f then =
    (p.seat.table_id ≡ b.table.shared.table_id) × (i < b.table.shared.table_id.words)
    × Allows (Kept b.table.shared.key.value) b.table.shared.table_id.slots p.seat.id p.seat.me i f then

-- the four words of the pass's phase begin at i
abbrev pub Words : Board → Inside → ℕ → Type 0
Words b p i = (i ≡ 1 + length b.run.opening + 4 * p.phase) × (i + 3 < b.table.shared.table_id.words)

module _ (b : Board) (p : Inside) (q : Held) (v : held p ≡ q) (keeps : Keeps p.seat.me p.member p.phase p.state p.full) (of : IsPassOf b q) where
  abbrev me : Me S View
  me = p.seat.me

  table_is : p.seat.table_id ≡ b.table.shared.table_id
  table_is = ap (λ (z : Held). z.table) v ∙ of.0

  pub run_is : me.0.run ≡ b.run
  run_is = ap (λ (z : Held). z.run) v ∙ of.1

  state_is : (st : MemberState) → q.state ≡ st → p.state ≡ st
  state_is st s = ap (λ (z : Held). z.state) v ∙ s

  is_me : me ≡ (view b.run (Of p.member p.phase p.state p.full) me.0.sights, [])
  is_me = keeps.0 ∙ (λ j. (view (run_is j) (Of p.member p.phase p.state p.full) me.0.sights, []))

  abbrev slots : ℕ
  slots = b.table.shared.table_id.slots

  steps : (i : ℕ) (f : ℕ → ℕ) (told : Me S View → ℕ → Me S View → Type 0) (st : MemberState) (full : Bool) → q.state ≡ st → q.full ≡ full → i < b.table.shared.table_id.words
      → Allows (Kept b.run) slots p.seat.id (view b.run (Of p.member p.phase st full) me.0.sights, []) i f (told (view b.run (Of p.member p.phase st full) me.0.sights, [])) → Steps b p i f (told me)
  steps i f told st full s marked near allowed =
      let mark : p.full ≡ full = ap (λ (z : Held). z.full) v ∙ marked in (
        table_is,
        near,
        subst (λ (z : Run × Me S View). Allows (Kept z.0) slots p.seat.id z.1 i f (told z.1))
            (λ i. (sym b.keyed i, sym (is_me ∙ (λ j. (view b.run (Of p.member p.phase (state_is st s j) (mark j)) me.0.sights, []))) i)) allowed,
      )

  there : (st : MemberState) → q.state ≡ st → lives st → p.phase < length b.run.phases
  there st s l = subst (λ (z : Run). p.phase < length z.phases) run_is (keeps.1 (λ e. subst lives (sym (state_is st s) ∙ e) l))

  pub in_unit : (u d : ℕ) → q.state ≡ Within u d → InUnit b.run p.phase u d
  in_unit u d s = subst (λ (x : Run × MemberState). IsKnown x.0 p.phase x.1) (λ i. (run_is i, state_is (Within u d) s i)) keeps.3

  next : (e : Effect) (n : IsNext b q e) → get_elem? ((work_at (course_of b.run) p.phase).effects n.0) n.1 ≡ some e
  next e n = ap (λ (t : ℕ). get_elem? ((work_at (course_of b.run) t).effects n.0) n.1) (ap (λ (z : Held). z.phase) v) ∙ n.3

  next_in : (e : Effect) (n : IsNext b q e) → In e ((work_at (course_of b.run) p.phase).effects n.0)
  next_in e n = member_at ((work_at (course_of b.run) p.phase).effects n.0) n.1 e (next e n)

  pub stores_there : (cell value : ℕ) → IsNext b q (Store cell value) → cell < length b.run.opening
  stores_there cell value n = store_there b.run p.phase n.0 n.1 (in_unit n.0 n.1 n.2) cell value (next_in (Store cell value) n)

  pub lessens_there : (cell value : ℕ) → IsNext b q (Least cell value) → cell < length b.run.opening
  lessens_there cell value n = least_there b.run p.phase n.0 n.1 (in_unit n.0 n.1 n.2) cell value (next_in (Least cell value) n)

  pub claims_now : (i : ℕ) → Words b p i → q.state ≡ Ready → Steps b p i (λ n. (n + 1) % 2 ^ 64) (claimed (step slots i 1 0 none) me)
  claims_now i at s =
      steps i (λ n. (n + 1) % 2 ^ 64) (claimed (step slots i 1 0 none)) Ready q.full s refl (omega (arith, at))
      (claims_allowed b.run slots p.seat.id p.member p.phase me.0.sights (there Ready s tt) i q.full (omega (arith, at)))

  pub puts_now : (cell value : ℕ) → IsNext b q (Store cell value) → Steps b p (1 + cell) (λ _. value) (λ _. acted (step slots (1 + cell) value 0 none) me value)
  puts_now cell value n =
      let near = stores_there cell value n in let h = b.sized in
      steps (1 + cell) (λ _. value) (λ o _. acted (step slots (1 + cell) value 0 none) o value) (Within n.0 n.1) q.full n.2 refl (omega (arith, h, near))
      (puts_allowed b.run slots p.seat.id p.member p.phase me.0.sights (there (Within n.0 n.1) n.2 tt) (1 + cell) cell value n.0 n.1 q.full (omega arith) near (next (Store cell value) n))

  pub leasts_now : (cell value : ℕ) → IsNext b q (Least cell value) → Steps b p (1 + cell) (λ n. min n value) (acted (step slots (1 + cell) value 0 none) me)
  leasts_now cell value n =
      let near = lessens_there cell value n in let h = b.sized in
      steps (1 + cell) (λ n. min n value) (acted (step slots (1 + cell) value 0 none)) (Within n.0 n.1) q.full n.2 refl (omega (arith, h, near))
      (leasts_allowed b.run slots p.seat.id p.member p.phase me.0.sights (there (Within n.0 n.1) n.2 tt) (1 + cell) cell value n.0 n.1 q.full (omega arith) near (next (Least cell value) n))

  pub notes_now : (i key : ℕ) → Words b p i → IsNext b q (Fault key) → Steps b p (i + 3) (λ n. min n key) (acted (step slots (i + 3) key 0 none) me)
  notes_now i key at n =
      steps (i + 3) (λ n. min n key) (acted (step slots (i + 3) key 0 none)) (Within n.0 n.1) q.full n.2 refl (omega (arith, at))
      (notes_allowed b.run slots p.seat.id p.member p.phase me.0.sights (there (Within n.0 n.1) n.2 tt) (i + 3) key n.0 n.1 q.full (omega (arith, at)) (next (Fault key) n))

  pub finishes_now : (i : ℕ) → Words b p i → ((u : ℕ) × (q.state ≡ Within u (length ((work_at (course_of b.run) q.phase).effects u)))) → Steps b p (i + 1) (λ n. (n + 1) % 2 ^ 64) (finished (step slots (i + 1) 1 0 none) me)
  finishes_now i at w =
      let d : ℕ = length ((work_at (course_of b.run) q.phase).effects w.0) in
      steps (i + 1) (λ n. (n + 1) % 2 ^ 64) (finished (step slots (i + 1) 1 0 none)) (Within w.0 d) q.full w.1 refl (omega (arith, at))
      (finishes_allowed b.run slots p.seat.id p.member p.phase me.0.sights (there (Within w.0 d) w.1 tt) (i + 1) w.0 d q.full (omega (arith, at)) (ap (λ (z : Held). length ((work_at (course_of b.run) z.phase).effects w.0)) (sym v)))

  pub arrives_now : (i : ℕ) → Words b p i → q.state ≡ Out → Steps b p (i + 2) (λ n. (n + 1) % 2 ^ 64) (arrived (step slots (i + 2) 1 0 none) me)
  arrives_now i at s =
      steps (i + 2) (λ n. (n + 1) % 2 ^ 64) (arrived (step slots (i + 2) 1 0 none)) Out q.full s refl (omega (arith, at))
      (arrives_allowed b.run slots p.seat.id p.member p.phase me.0.sights (there Out s tt) (i + 2) q.full (omega (arith, at)))

  pub sees_now : (i : ℕ) → Words b p i → (q.state ≡ Arrived) × (q.full ≡ false) → Steps b p (i + 2) (λ n. n) (seen (step slots (i + 2) 0 0 none) me)
  sees_now i at s =
      steps (i + 2) (λ n. n) (seen (step slots (i + 2) 0 0 none)) Arrived false s.0 s.1 (omega (arith, at))
      (sees_allowed b.run slots p.seat.id p.member p.phase me.0.sights (there Arrived s.0 tt) (i + 2) (omega (arith, at)))

  pub judges_now : (i : ℕ) → Words b p i → (q.state ≡ Arrived) × (q.full ≡ true) → Steps b p (i + 3) (λ n. n) (judges_play (step slots (i + 3) 0 0 none) me)
  judges_now i at s =
      steps (i + 3) (λ n. n) (judges_play (step slots (i + 3) 0 0 none)) Arrived true s.0 s.1 (omega (arith, at))
      (judges_allowed b.run slots p.seat.id p.member p.phase me.0.sights (there Arrived s.0 tt) (i + 3) (omega (arith, at)))

  pub looks_now : (cell : ℕ) → Looking q.state → cell < length b.run.opening → Steps b p (1 + cell) (λ n. n) (looked (step slots (1 + cell) 0 0 none) me)
  looks_now cell n near =
      let h = b.sized in
      steps (1 + cell) (λ n. n) (looked (step slots (1 + cell) 0 0 none)) q.state q.full refl refl (omega (arith, h, near))
      (looks_allowed b.run slots p.seat.id p.member p.phase me.0.sights (there q.state refl (looking_lives q.state n)) (1 + cell) cell q.state q.full (can_look q.state n (course_of b.run) p.member (member p.phase q.state q.full)) (omega arith) near)

  -- what is known of the pass after an effect of its unit
  pub acts_on : (me' : Me S View) (st' : MemberState) (e : Effect) → IsNext b q e → st' ≡ acted_state p.state → me' ≡ with_role me (state_to acted_state me.0.role) → Keeps me' p.member p.phase st' false
  acts_on me' st' e n st'_is me'_is = acted_keeps me me' p.member p.phase p.state st' p.full keeps st'_is me'_is n.0 n.1 e (state_is (Within n.0 n.1) n.2)
      (ap (λ (r : Run). get_elem? ((work_at (course_of r) p.phase).effects n.0) n.1) run_is ∙ next e n)
