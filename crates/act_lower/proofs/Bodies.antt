-- Bodies, what was left for stage 2, and whole values.
use Rattle.std.proofs.Common.{sym, subst, ℕ, suc, ◌+◌, Bool, true, false, if◌then◌else◌, List, [], ◌∷◌, ◌++◌, length, Ok}
use Rattle.ws_base.specs.Outcomes.{Staged, ◌>>=◌}
use Rattle.phase_ops.specs.Free.{In}
use Rattle.hlfir_ops.specs.declared.op.ValueId.{ValueId}
use Rattle.hlfir_ops.specs.declared.op.Op.{Op, out-Op}
use Rattle.hlfir_ops.specs.Numbers.{op_numbers}
use Rattle.hlfir_meaning.specs.Environments.{column, Environment, with_value, Deferred, Work, elements_of, body_of, Yielded, yielding, result, number_of}
use Rattle.hlfir_meaning.specs.Order.{ends}
use Rattle.hlfir_meaning.specs.Places.{column_at, over, over_ops}
use Rattle.hlfir_meaning.specs.Stage2.{deferred_by, done, stage2, values}
use Rattle.act_laws.specs.Together.{Files, Scene, with_ops, Level, Follows, well}
use Rattle.act_laws.specs.declared.seat.Seat.{Seat}
use Rattle.act_laws.specs.declared.seat.Seat.TheVariants.{Register as register}
use Rattle.act_laws.specs.Seats.{Table, with_seat, Sits, seat_or, Holds, HasPlace}
use Rattle.act_laws.specs.Fetches.{fetched}
use Rattle.act_lower.specs.Code.{Made, op_code, body_code, Todo, elements, body, Task, todo_code, tasks_code, element_code, value_code}
use Rattle.act_lower.specs.Covered.{IsCovered, IsYield, IsBody, IsTodo, AreCovered, known_after, Either}
use Rattle.act_laws.specs.Seats.{StandIn}
use Rattle.act_lower.specs.Standing.{IsDone, AreDone, Evaluates}
use Rattle.act_lower.specs.Sections.{section_code}
use Rattle.act_laws.specs.Digits.{digits, HaveDigits}
use Rattle.act_laws.proofs.Digiting.{digits_later, place_digits}
use Rattle.act_lower.proofs.Sections.{section_stands}
use Rattle.phase_ops.specs.declared.phase.Source.{Source}
use Rattle.ws_space.specs.Shapes.{Extents}
use Rattle.act_laws.proofs.Following.{Level-with_ops, then_follows, follows_nothing, weaker, follows_map}
use Rattle.act_laws.proofs.Seating.{holds_later, place_later, holds_with}
use Rattle.act_laws.proofs.Fetching.{fetched_stands}
use Rattle.act_lower.proofs.Operating.{SitsAt, op_stands}

-- ---- bodies

-- what a body gives
abbrev GivesAt : Scene → List ℕ → Seat → Yielded → Files → Type 0
GivesAt s at seat y files = Sits s at files seat (column_at at (result y))

module _ (s : Scene) (at : List ℕ) (place : ℕ) where
  yield_stands : (k : ℕ) (files : Files) (table : Table) (env : Environment) (known : List ℕ) → Holds s at files known table env → (vs : List ValueId) → IsYield known vs
      → Follows s at k files [] (Ok (yielding env vs)) (GivesAt s at (seat_or (table (number_of vs))))
  yield_stands k files table env known holds (v ∷ []) h = follows_nothing s at k files (yielding env (v ∷ [])) (GivesAt s at (seat_or (table v.number))) (holds v.number h)
  yield_stands k files table env known holds [] h = absurd h
  yield_stands k files table env known holds (v ∷ w ∷ vs) h = absurd h

  by_case : (k : ℕ) (files : Files) (b : Bool) (X Y : Type 0) → Either b X Y → (A B : Made) (q r : Staged Yielded)
      → (X → Follows s at k files A.ops q (GivesAt s at A.seat)) → (Y → Follows s at k files B.ops r (GivesAt s at B.seat))
      → Follows s at k files (if b then A else B).ops (if b then q else r) (GivesAt s at (if b then A else B).seat)
  by_case k files true X Y h A B q r f g = f h
  by_case k files false X Y h A B q r f g = g h

  pub body_stands : (k : ℕ) (files : Files) (table : Table) (env : Environment) (known : List ℕ) → Level k files → HasPlace at place files → Holds s at files known table env → (n : ℕ) (ops : List Op) → IsBody known n ops
      → Follows s at k files (body_code place k table n ops).ops (over_ops at n env ops) (GivesAt s at (body_code place k table n ops).seat)
  body_stands k files table env known level here holds n [] h = absurd h
  body_stands k files table env known level here holds n (op ∷ ops) h =
      let w = (out-Op op).what in
      let os = (out-Op op).operands in
      let x = op_code place k table w os in
      let next : Files = with_ops s x.ops files in
      let rest = body_code place (k + length x.ops) (with_seat n x.seat table) (op_numbers op + n) ops in
      by_case k files (ends w) (IsYield known os) (IsCovered known w os × IsBody (n ∷ known) (op_numbers op + n) ops) h
      (record { ops = []; seat = seat_or (table (number_of os)) }) (record { ops = x.ops ++ rest.ops; seat = rest.seat })
      (Ok (yielding env os)) (over at env w os >>= (λ v. over_ops at (op_numbers op + n) (with_value n v env) ops))
      (yield_stands k files table env known holds os)
      (λ c.
      then_follows s at k files x.ops rest.ops (over at env w os) (λ v. over_ops at (op_numbers op + n) (with_value n v env) ops) (SitsAt s at x.seat) (GivesAt s at rest.seat)
      (op_stands s at place table env known k files level here holds w os c.0)
      (λ v sits. body_stands (k + length x.ops) next (with_seat n x.seat table) (with_value n v env) (n ∷ known)
      (Level-with_ops s k files x.ops level) (place_later s files x.ops at place here) (holds_with s at next known table env n x.seat v sits (holds_later s files x.ops at known table env holds))
      (op_numbers op + n) ops c.1))

  -- ---- what was left for stage 2

  module _ (e : Extents) (regs : List ℕ) where
    todo_stands : (k : ℕ) (files : Files) (table : Table) (env : Environment) (known : List ℕ) → Level k files → HasPlace at place files → Holds s at files known table env → HaveDigits at (λ p. p) regs e files
        → (n : ℕ) (t : Todo) (w : Work) → IsTodo known n t → IsDone s at e t w
        → Follows s at k files (todo_code regs place k table n t).ops (done at env n w) (λ xs after. Sits s at after (todo_code regs place k table n t).seat xs)
    todo_stands k files table env known level here holds have n (elements first ds ps) (elements_of a sel) h is =
        let x = section_code first ds ps regs k in
        weaker s at k files x.ops (done at env n (elements_of a sel)) (StandIn at x.reg) (λ xs after. Sits s at after (register x.reg) xs) (λ xs i. record { holds = i.0; may = i.1 })
        (subst (λ l. Follows s at k files (section_code first l ps regs k).ops (done at env n (elements_of a sel)) (StandIn at (section_code first l ps regs k).reg)) (sym is.0)
        (section_stands s at first a ps sel regs is.2 is.3 env n k files level (subst (λ l. HaveDigits at (λ p. p) regs l files) (sym is.1) have)))
    todo_stands k files table env known level here holds have n (body ops) (body_of left) h is =
        let x = body_code place k table (suc n) ops in
        subst (λ l. Follows s at k files x.ops (done at env n (body_of l)) (λ xs after. Sits s at after x.seat xs)) (sym is)
        (follows_map s at k files x.ops (over_ops at (suc n) env ops) (λ y. column_at at (result y)) (GivesAt s at x.seat) (λ xs after. Sits s at after x.seat xs) (λ y g. g)
        (body_stands k files table env known level here holds (suc n) ops h))
    todo_stands k files table env known level here holds have n (elements first ds ps) (body_of left) h is = absurd is
    todo_stands k files table env known level here holds have n (body ops) (elements_of a sel) h is = absurd is

    tasks_stand : (k : ℕ) (files : Files) (table : Table) (env : Environment) (known : List ℕ) → Level k files → HasPlace at place files → Holds s at files known table env → HaveDigits at (λ p. p) regs e files
        → (ts : List Task) (ds : List Deferred) → AreCovered known ts → AreDone s at e ts ds
        → Follows s at k files (tasks_code regs place k table ts).ops (stage2 at env ds) (λ rho after. Holds s at after (known_after known ts) (tasks_code regs place k table ts).table rho)
    tasks_stand k files table env known level here holds have [] [] h are = follows_nothing s at k files env (λ rho after. Holds s at after known table rho) holds
    tasks_stand k files table env known level here holds have (t ∷ ts) (d ∷ ds) h are =
        let x = todo_code regs place k table t.number t.todo in
        let next : Files = with_ops s x.ops files in
        let new = with_seat t.number x.seat table in
        let rest = tasks_code regs place (k + length x.ops) new ts in
        subst (λ n. Follows s at k files (x.ops ++ rest.ops) (done at env n d.work >>= (λ xs. stage2 at (with_value n (column xs) env) ds)) (λ rho after. Holds s at after (known_after (t.number ∷ known) ts) rest.table rho)) (sym are.0)
        (then_follows s at k files x.ops rest.ops (done at env t.number d.work) (λ xs. stage2 at (with_value t.number (column xs) env) ds) (λ xs after. Sits s at after x.seat xs) (λ rho after. Holds s at after (known_after (t.number ∷ known) ts) rest.table rho)
        (todo_stands k files table env known level here holds have t.number t.todo d.work h.0 are.1)
        (λ xs sits. tasks_stand (k + length x.ops) next new (with_value t.number (column xs) env) (t.number ∷ known)
        (Level-with_ops s k files x.ops level) (place_later s files x.ops at place here) (holds_with s at next known table env t.number x.seat (column xs) sits (holds_later s files x.ops at known table env holds))
        (digits_later s at files x.ops (λ p. p) regs e have) ts ds h.1 are.2))
    tasks_stand k files table env known level here holds have [] (d ∷ ds) h are = absurd are
    tasks_stand k files table env known level here holds have (t ∷ ts) [] h are = absurd are

    element_stands : (k v : ℕ) (files : Files) (table : Table) (env : Environment) (known : List ℕ) → Level k files → HasPlace at place files → Holds s at files known table env → HaveDigits at (λ p. p) regs e files
        → (ts : List Task) → AreCovered known ts → AreDone s at e ts (deferred_by v (env v)) → In v (known_after known ts)
        → Follows s at k files (element_code regs place k table v ts).ops (values (yielding env (record { number = v } ∷ [])) at) (StandIn at (element_code regs place k table v ts).reg)
    element_stands k v files table env known level here holds have ts covered are knows =
        let x = tasks_code regs place k table ts in
        let next : Files = with_ops s x.ops files in
        let y = fetched place (k + length x.ops) (seat_or (x.table v)) in
        then_follows s at k files x.ops y.ops (stage2 at env (deferred_by v (env v))) (λ rho. Ok (column_at at (rho v))) (λ rho after. Holds s at after (known_after known ts) x.table rho) (StandIn at y.reg)
        (tasks_stand k files table env known level here holds have ts (deferred_by v (env v)) covered are)
        (λ rho h. fetched_stands s at (k + length x.ops) place next (Level-with_ops s k files x.ops level) (place_later s files x.ops at place here) (seat_or (x.table v)) (column_at at (rho v))
        (h v knows))

-- the digits first
pub value_stands : (counts : List Source) (place k : ℕ) (table : Table) (v : ℕ) (ts : List Task) → Evaluates counts place table v ts k (value_code counts place k table v ts)
value_stands counts place k table v ts s at e files env known level here holds are below done covered knows =
    let x = digits counts place k in
    let next : Files = with_ops s x.ops files in
    let y = element_code x.regs place (k + length x.ops) table v ts in
    then_follows s at k files x.ops y.ops well (λ n. values (yielding env (record { number = v } ∷ [])) at) (λ n after. HaveDigits at (λ p. p) x.regs e after) (StandIn at y.reg)
    (place_digits s at place k files counts e are level here below)
    (λ n have. element_stands s at place e x.regs (k + length x.ops) v next table env known (Level-with_ops s k files x.ops level) (place_later s files x.ops at place here) (holds_later s files x.ops at known table env holds) have ts covered done knows)
