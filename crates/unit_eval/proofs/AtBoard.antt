-- A pass in a unit as a place where the unit's loads and effects go.
use Rattle.std.proofs.Common.{◌≡◌, ℕ, false, suc, ◌<◌, List, [], ◌∷◌, length, take, drop, sym, refl, ap, ◌∙◌, subst, arith}
use mathlib.Core.Option.{some}
use lib.ListN.{get_elem?}
use Rattle.phase_ops.specs.declared.effect.Effect.{Effect}
use Rattle.phase_ops.specs.declared.effect.Effect.TheVariants.{Store, Least}
use Rattle.phase_ops.specs.Phases.{Cells, over, lay, parameter, unit_reads, reads, natural}
use Rattle.phase_ops.specs.Free.{In, count_value, Apart, WellFormed}
use Rattle.phase_ops.specs.Course.{memory_after, work_at}
use Rattle.phase_ops.proofs.Members.{in_right}
use Rattle.phase_ops.proofs.Courses.{memory_is, key_is, phases_apart}
use Rattle.act_eval.specs.Sites.{View}
use Rattle.act_eval.specs.Strands.{PartialsFit, HasRoom, AreChunks, UnitBegins}
use Rattle.act_eval.proofs.Leads.{lay_append}
use Rattle.team_core.specs.declared.member.MemberState.{MemberState}
use Rattle.team_core.specs.declared.member.MemberState.TheVariants.{Ready, Within, Out, Arrived, Ended}
use Rattle.team_core.specs.Laws.{phase_at}
use Rattle.team_core.proofs.Entering.{enters_well}
use Rattle.team_core.proofs.Lengths.{memory_long}
use Rattle.team_core.proofs.Lists.{take_next, member_at}
use Rattle.team_core.specs.Units.{AreShort}
use Rattle.team_core.proofs.Scratches.{next_effect, none_left}
use Rattle.phase_board.specs.declared.plays.Run.{Run}
use Rattle.phase_board.specs.declared.board.Board.{Board}
use Rattle.phase_board.specs.Held.{Held}
use Rattle.phase_board.specs.Passes.{IsPassOf, IsNext, in_state}
use Rattle.phase_board.proofs.Reach.{read_there, store_there, least_there}
use Rattle.phase_board.specs.Rule.{course_of, acted_state, InUnit}
use Rattle.unit_eval.specs.Sites.{view_at, view_of, HoldsUnit, Belongs, Claimed, Holds}

pub held_unit : (r : Run) (t : ℕ) (st : MemberState) → HoldsUnit r t st → (u : ℕ) × (d : ℕ) × (st ≡ Within u d) × InUnit r t u d
held_unit r t (Within u d) h = (u, d, refl, h)
held_unit r t Ready h = absurd h
held_unit r t Out h = absurd h
held_unit r t Arrived h = absurd h
held_unit r t Ended h = absurd h

module _ (r : Run) (t u d : ℕ) (h : InUnit r t u d) where
  abbrev m : Cells
  m = memory_after (course_of r) t

  abbrev es : List Effect
  es = (work_at (course_of r) t).effects u

  pub next_is : (e : Effect) (more : List Effect) → drop d es ≡ e ∷ more → get_elem? es d ≡ some e
  next_is e more q = (next_effect es d e more q).1

  pub next_in : (e : Effect) (more : List Effect) → drop d es ≡ e ∷ more → In e es
  next_in e more q = member_at es d e (next_is e more q)

  pub next_unit : (e : Effect) (more : List Effect) → drop d es ≡ e ∷ more → InUnit r t u (suc d)
  next_unit e more q = record { may = h.may; there = h.there; keyless = h.keyless; unit = h.unit; done = (next_effect es d e more q).0 }

  pub next_view : (e : Effect) (more : List Effect) → drop d es ≡ e ∷ more → view_at r t (Within u (suc d)) ≡ record { left = more; cells = over e (lay m (take d es)); may = (work_at (course_of r) t).reads u }
  next_view e more q =
      let n = next_effect es d e more q in λ i.
      record { left = n.2 i; cells = (ap (λ (l : List Effect). lay m l) (take_next es d e n.1) ∙ lay_append m (take d es) (e ∷ [])) i; may = (work_at (course_of r) t).reads u }

module _ (b : Board) (q : Held) (has : Belongs b q) where
  abbrev held : (u : ℕ) × (d : ℕ) × (q.state ≡ Within u d) × InUnit q.run q.phase u d
  held = held_unit q.run q.phase q.state has.1

  opened : view_of q ≡ view_at q.run q.phase (Within held.0 held.1)
  opened = ap (view_at q.run q.phase) held.2

  left_is : (e : Effect) (more : List Effect) → (view_of q).left ≡ e ∷ more → drop held.1 ((work_at (course_of q.run) q.phase).effects held.0) ≡ e ∷ more
  left_is e more l = ap (λ (v : View). v.left) (sym opened) ∙ l

  in_opening : (c : ℕ) → c < length q.run.opening → c < length b.run.opening
  in_opening c l = subst (λ (r : Run). c < length r.opening) has.0.1 l

  pub look_there : (c : ℕ) → In c (view_of q).may → c < length b.run.opening
  look_there c i = in_opening c (read_there q.run q.phase held.0 held.1 held.3 c (subst (λ (v : View). In c v.may) opened i))

  put_there : (c v : ℕ) (more : List Effect) → (view_of q).left ≡ Store c v ∷ more → c < length b.run.opening
  put_there c v more l = in_opening c (store_there q.run q.phase held.0 held.1 held.3 c v (next_in q.run q.phase held.0 held.1 held.3 (Store c v) more (left_is (Store c v) more l)))

  lessen_there : (c v : ℕ) (more : List Effect) → (view_of q).left ≡ Least c v ∷ more → c < length b.run.opening
  lessen_there c v more l = in_opening c (least_there q.run q.phase held.0 held.1 held.3 c v (next_in q.run q.phase held.0 held.1 held.3 (Least c v) more (left_is (Least c v) more l)))

  pub next_at : (e : Effect) (more : List Effect) → (view_of q).left ≡ e ∷ more → IsNext b q e
  next_at e more l = (
    held.0,
    held.1,
    held.2,
    subst (λ (r : Run). get_elem? ((work_at (course_of r) q.phase).effects held.0) held.1 ≡ some e) has.0.1 (next_is q.run q.phase held.0 held.1 held.3 e more (left_is e more l)),
  )

  acted_is : acted_state q.state ≡ Within held.0 (suc held.1)
  acted_is = ap acted_state held.2

  pub done_view : (e : Effect) (more : List Effect) (q' : Held) → q' ≡ in_state q (acted_state q.state) → (view_of q).left ≡ e ∷ more → view_of q' ≡ record { left = more; cells = over e (view_of q).cells; may = (view_of q).may }
  done_view e more q' is l =
      ap view_of is ∙ ap (view_at q.run q.phase) acted_is ∙ next_view q.run q.phase held.0 held.1 held.3 e more (left_is e more l)
      ∙ (λ i. record { left = more; cells = over e (sym opened i).cells; may = (sym opened i).may })

  pub done_belongs : (e : Effect) (more : List Effect) (q' : Held) → q' ≡ in_state q (acted_state q.state) → (view_of q).left ≡ e ∷ more → Belongs b q'
  done_belongs e more q' is l = subst (λ (x : Held). Belongs b x) (sym is)
      (has.0, subst (λ (st : MemberState). HoldsUnit q.run q.phase st) (sym acted_is) (next_unit q.run q.phase held.0 held.1 held.3 e more (left_is e more l)))

-- an effect more is done
pub done_holds : (k : Claimed) (q q' : Held) → Holds k q → q' ≡ in_state q (acted_state q.state) → Holds k q'
done_holds k q q' h is =
    let acted : acted_state q.state ≡ Within k.unit (suc h.0) = ap (λ (x : Held). acted_state x.state) h.1 in
    let full : false ≡ q'.full = sym (ap (λ (x : Held). x.full) is) in
    (suc h.0, is ∙ (λ i. record (h.1 i) { state = acted i; full = full i }))

-- the effect that is to come is this one
module _ (b : Board) (q : Held) (k : Claimed) (has : Belongs b q × Holds k q) (effect e : Effect) (next : (more : List Effect) × ((view_of q).left ≡ effect ∷ more)) (is : effect ≡ e) where
  comes : (view_of q).left ≡ e ∷ next.0
  comes = next.1 ∙ ap (λ (x : Effect). x ∷ next.0) is

  pub next_as : IsNext b q e
  next_as = next_at b q has.0 e next.0 comes

  pub small_store : (c v : ℕ) → e ≡ Store c v → c < 4294967296
  small_store c v s = let l = put_there b q has.0 c v next.0 (comes ∙ ap (λ (x : Effect). x ∷ next.0) s) in let z = b.sized in omega (arith, l, z)

  pub small_least : (c v : ℕ) → e ≡ Least c v → c < 4294967296
  small_least c v s = let l = lessen_there b q has.0 c v next.0 (comes ∙ ap (λ (x : Effect). x ∷ next.0) s) in let z = b.sized in omega (arith, l, z)

-- so it is done, and the pass holds its unit still
pub acted_as : (b : Board) (q q' : Held) (k : Claimed) → Belongs b q × Holds k q → (effect : Effect) → ((more : List Effect) × ((view_of q).left ≡ effect ∷ more)) → q' ≡ in_state q (acted_state q.state) → Belongs b q' × Holds k q'
acted_as b q q' k has effect next is = (done_belongs b q has.0 effect next.0 q' is next.1, done_holds k q q' has.1 is)

-- all effects of the unit are done
pub done_all : (b : Board) (k : Claimed) (q q' : Held) (u : ℕ) → k ≡ record { pass = q; unit = u } → IsPassOf b q → Belongs b q' → Holds k q' → (view_of q').left ≡ []
    → q' ≡ record q { state = Within u (length ((work_at (course_of b.run) q.phase).effects u)); full = q'.full }
done_all b k q q' u is of has holds none =
    let h : Holds (record { pass = q; unit = u }) q' = subst (λ (x : Claimed). Holds x q') is holds in
    let d : ℕ = h.0 in
    let run : q'.run ≡ b.run = has.0.1 in
    let phase : q'.phase ≡ q.phase = ap (λ (x : Held). x.phase) h.1 in
    let state : q'.state ≡ Within u d = ap (λ (x : Held). x.state) h.1 in
    let unit : InUnit b.run q.phase u d = subst (λ (x : Run × ℕ × MemberState). HoldsUnit x.0 x.1 x.2) (λ i. (run i, phase i, state i)) has.1 in
    let left : drop d ((work_at (course_of b.run) q.phase).effects u) ≡ [] = sym (λ i. (view_at (run i) (phase i) (state i)).left) ∙ none in
    let low = none_left ((work_at (course_of b.run) q.phase).effects u) d left in
    let high = unit.done in
    let all : d ≡ length ((work_at (course_of b.run) q.phase).effects u) = omega (arith, low, high) in
    h.1 ∙ (λ i. record q { state = Within u (all i); full = q'.full })

-- ---- where a unit begins

module _ (r : Run) (t u : ℕ) (h : InUnit r t u 0) where
  known : WellFormed (phase_at r.phases t) (memory_after (course_of r) t) r.chunk × PartialsFit (phase_at r.phases t) (memory_after (course_of r) t) r.chunk
  known = enters_well r.phases r.opening r.team r.chunk t (memory_after (course_of r) t) h.may (record { there = h.there; keyless = h.keyless; cells_are = refl })

  apart : Apart (phase_at r.phases t) (memory_after (course_of r) t) r.chunk
  apart =
      let b = h.there in
      subst (λ (m : Cells). Apart (phase_at r.phases t) m r.chunk) (sym (memory_is r.phases r.opening r.chunk r.team t (omega (arith, b))))
      (phases_apart r.chunk h.may.chunk_is r.phases r.opening (h.may.free.phases r.chunk h.may.chunk_is) t b (λ s l. sym (key_is r.phases r.opening r.chunk r.team s (omega (arith, l, b))) ∙ h.keyless s l))

  pub unit_room : (registers : ℕ) → AreShort (phase_at r.phases t) registers → HasRoom (phase_at r.phases t) registers
  unit_room registers short = record { few_acts = known.0.few_acts; few_ops = λ a i. (short a i, (known.0.few_ops a i).0) }

  pub unit_begins : (n : ℕ) → length r.opening < 4294967296 → AreChunks r.chunk n → n ≡ natural (count_value (phase_at r.phases t) (memory_after (course_of r) t)) → UnitBegins (view_at r t (Within u 0)) (phase_at r.phases t) r.chunk n u
  unit_begins n few chunks count = record {
    left_is = refl;
    may_read = λ c i. in_right c (parameter (phase_at r.phases t)) (unit_reads (phase_at r.phases t) (memory_after (course_of r) t) r.chunk u) i;
    apart = apart;
    well = known.0;
    partials = known.1;
    few_cells = (let b = h.there in let e = memory_long r.phases r.opening r.chunk r.team t (omega (arith, b)) in omega (arith, e, few));
    chunks = chunks;
    count_is = count;
    there = h.unit;
  }
