-- The ops of a value are sound, whatever the cells hold.
use Rattle.std.proofs.Common.{◌≡◌, inl, inr, refl, sym, subst, ℕ, suc, ◌+◌, ◌*◌, ◌<◌, ◌≤◌, ◌==◌, Bool, true, false, if◌then◌else◌, List, [], ◌∷◌, ◌++◌, length, Some, ℤ, pos, ◌<ℤ◌, arith}
use Rattle.std.proofs.lemmas.List.{length-append}
use Rattle.std.proofs.lemmas.Int.{ints}
use Rattle.ws_space.specs.declared.shape.Dim.{Dim}
use Rattle.phase_ops.specs.declared.phase.Source.{Source}
use Rattle.phase_ops.specs.declared.phase.Source.TheVariants.{Fixed, Cell}
use Rattle.phase_ops.specs.declared.phase.Term.{Term}
use Rattle.phase_ops.specs.declared.phase.Micro.{Micro}
use Rattle.phase_ops.specs.declared.phase.Micro.TheVariants as micro
use Rattle.phase_ops.specs.Phases.{Cells, source}
use Rattle.phase_ops.specs.Free.{In, NameEarlier, term_registers}
use Rattle.hlfir_ops.specs.declared.what.What.{What}
use Rattle.hlfir_ops.specs.declared.what.What.TheVariants as what
use Rattle.hlfir_ops.specs.declared.op.ValueId.{ValueId}
use Rattle.hlfir_ops.specs.declared.op.Op.{Op, out-Op}
use Rattle.hlfir_ops.specs.Numbers.{op_numbers}
use Rattle.hlfir_meaning.specs.Environments.{number_of}
use Rattle.hlfir_meaning.specs.Order.{ends}
use Rattle.act_laws.specs.declared.seat.Seat.{Seat}
use Rattle.act_laws.specs.declared.seat.Seat.TheVariants.{Fixed as fixed, Cell as cell, Cells as cells, Register as register}
use Rattle.act_laws.specs.Seats.{Table, with_seat, seat_or}
use Rattle.act_laws.specs.Fetches.{fetched}
use Rattle.act_laws.specs.Digits.{LIMIT, digits}
use Rattle.act_laws.specs.Words.{IsWord, AreWordy}
use Rattle.act_laws.proofs.Words.{small_word}
use Rattle.act_lower.specs.declared.section.Pick.{Pick}
use Rattle.act_lower.specs.declared.section.Pick.TheVariants.{Single as single, Steps as steps}
use Rattle.act_lower.specs.Sections.{scaled, offset, element_address, section_code}
use Rattle.act_lower.specs.Code.{seat_of, operands, micro_of, Made, operated, op_code, body_code, Todo, elements, body, Task, todo_code, tasks_code, element_code, value_code}
use Rattle.act_lower.specs.Fits.{WhatFits, OpsFit, DimsFit, TodoFits, TasksFit, SeatFits, TableFits, ArePositive, IsSound}

zero_word : IsWord (pos 0)
zero_word = small_word 0 (omega arith)

early_append : (k : ℕ) (xs ys : List Micro) → NameEarlier k xs → NameEarlier (k + length xs) ys → NameEarlier k (xs ++ ys)
early_append k [] ys h g = subst (λ (n : ℕ). NameEarlier n ys) (let e : k + 0 ≡ k = omega arith in e) g
early_append k (x ∷ xs) ys h g = (h.0, early_append (suc k) xs ys h.1 (subst (λ (n : ℕ). NameEarlier n ys) (let e : k + suc (length xs) ≡ suc k + length xs = omega arith in e) g))

wordy_append : (m : Cells) (xs ys : List Micro) → AreWordy m xs → AreWordy m ys → AreWordy m (xs ++ ys)
wordy_append m [] ys h g = g
wordy_append m (x ∷ xs) ys h g = (h.0, wordy_append m xs ys h.1 g)

seat_later : (j k : ℕ) (s : Seat) → j ≤ k → SeatFits j s → SeatFits k s
seat_later j k (fixed z) l h = h
seat_later j k (cell c) l h = h
seat_later j k (cells c) l h = h
seat_later j k (register r) l h = omega (arith, l, h)

table_later : (j k : ℕ) (table : Table) → j ≤ k → TableFits j table → TableFits k table
table_later j k table l h = λ n. seat_later j k (seat_or (table n)) l (h n)

seat_if : (k : ℕ) (b : Bool) (s : Seat) (table : Table) (v : ℕ) → SeatFits k s → SeatFits k (seat_or (table v)) → SeatFits k (seat_or (if b then Some s else table v))
seat_if k true s table v h g = h
seat_if k false s table v h g = g

with_seat_fits : (k n : ℕ) (s : Seat) (table : Table) → SeatFits k s → TableFits k table → TableFits k (with_seat n s table)
with_seat_fits k n s table h g = λ v. seat_if k (v == n) s table v h (g v)

-- registers before this one
abbrev AreBefore : ℕ → List ℕ → Type 0
AreBefore k rs = (r : ℕ) → In r rs → r < k

before_later : (j k : ℕ) (rs : List ℕ) → j ≤ k → AreBefore j rs → AreBefore k rs
before_later j k rs l h r i = let b = h r i in omega (arith, l, b)

before_cons : (k x : ℕ) (rs : List ℕ) → x < k → AreBefore k rs → AreBefore k (x ∷ rs)
before_cons k x rs l h r (inl e) = omega (arith, e, l)
before_cons k x rs l h r (inr i) = h r i

before_append : (k : ℕ) (xs ys : List Term) → AreBefore k (term_registers xs) → AreBefore k (term_registers ys) → AreBefore k (term_registers (xs ++ ys))
before_append k [] ys h g = g
before_append k (x ∷ xs) ys h g = before_cons k x.reg (term_registers (xs ++ ys)) (h x.reg (inl refl)) (before_append k xs ys (λ r i. h r (inr i)) g)

module _ (m : Cells) where
  good_append : (k : ℕ) (xs ys : List Micro) → IsSound m k xs → IsSound m (k + length xs) ys → IsSound m k (xs ++ ys)
  good_append k xs ys h g = (early_append k xs ys h.0 g.0, wordy_append m xs ys h.1 g.1)

  no_divisor : (z : ℤ) → In z [] → pos 0 <ℤ z
  no_divisor z i = elim i [ ]

  -- an op that divides by nothing
  one_good : (k : ℕ) (op : Micro) → AreWordy m (op ∷ []) → NameEarlier k (op ∷ []) → IsSound m k (op ∷ [])
  one_good k op h g = (g, h)

  -- ---- digits

  digit_positive : (z : ℤ) (a b : Source) → pos 0 <ℤ source m a → pos 0 <ℤ source m b → In z (source m a ∷ source m b ∷ []) → pos 0 <ℤ z
  digit_positive z a b h g (inl e) = subst (λ w. pos 0 <ℤ w) (sym e) h
  digit_positive z a b h g (inr (inl e)) = subst (λ w. pos 0 <ℤ w) (sym e) g
  digit_positive z a b h g (inr (inr i)) = elim i [ ]

  its_register : (k rest : ℕ) → rest < k → (r : ℕ) → In r (rest ∷ []) → r < k
  its_register k rest l r (inl e) = omega (arith, e, l)
  its_register k rest l r (inr i) = elim i [ ]

  digits_good : (fs : List Source) (rest k : ℕ) → rest < k → ArePositive m fs → IsSound m k (digits fs rest k).ops × AreBefore (k + length (digits fs rest k).ops) (digits fs rest k).regs
  digits_good [] rest k l h = ((tt, tt), λ r i. elim i [ ])
  digits_good (f ∷ []) rest k l h = ((tt, tt), λ r i. its_register (k + 0) rest (omega (arith, l)) r i)
  digits_good (f ∷ g ∷ fs) rest k l h =
      let x = digits (g ∷ fs) (k + 1) (k + 1 + 1) in
      let b : Micro = micro.Digit rest (Fixed (pos 1)) f in
      let c : Micro = micro.Digit rest f (Fixed (pos LIMIT)) in
      let first = h f (inl refl) in
      let more = digits_good (g ∷ fs) (k + 1) (k + 1 + 1) (omega arith) (λ y i. h y (inr i)) in
      let one : pos 0 <ℤ pos 1 = omega (arith, ints) in
      let most : pos 0 <ℤ pos LIMIT = omega (arith, ints) in
      let sound : IsSound m k (b ∷ c ∷ x.ops) = (
        (its_register k rest l, (its_register (suc k) rest (omega (arith, l)), subst (λ n. NameEarlier n x.ops) (let e : k + 1 + 1 ≡ suc (suc k) = omega arith in e) more.0.0)),
        ((tt, tt, (λ z i. digit_positive z (Fixed (pos 1)) f one first i)), ((tt, tt, (λ z i. digit_positive z f (Fixed (pos LIMIT)) first most i)), more.0.1)),
      ) in
      (sound, before_cons (k + length (b ∷ c ∷ x.ops)) k x.regs (omega arith) (before_later (k + 1 + 1 + length x.ops) (k + length (b ∷ c ∷ x.ops)) x.regs (omega arith) more.1))

  -- ---- sections

  scaled_good : (n : ℕ) (f : Source) (k : ℕ) → IsWord (pos n) → IsSound m k (scaled n f k).ops × AreBefore (k + length (scaled n f k).ops) (term_registers (scaled n f k).terms)
  scaled_good n (Fixed z) k w = ((tt, tt), λ r i. elim i [ ])
  scaled_good n (Cell c) k w = ((((λ r i. elim i [ ]), tt), ((tt, w, no_divisor), tt)), its_register (k + 1) k (omega arith))

  offset_good : (ds : List Dim) (ps : List Pick) (regs : List ℕ) (n k : ℕ) → DimsFit ds n → AreBefore k regs
      → IsSound m k (offset ds ps regs n k).ops × AreBefore (k + length (offset ds ps regs n k).ops) (term_registers (offset ds ps regs n k).terms)
  offset_good [] ps regs n k w h = ((tt, tt), λ r i. elim i [ ])
  offset_good (d ∷ ds) [] regs n k w h = ((tt, tt), λ r i. elim i [ ])
  offset_good (d ∷ ds) (single f ∷ ps) regs n k w h =
      let x = scaled n f k in
      let o = offset ds ps regs (n * d.extent) (k + length x.ops) in
      let a = scaled_good n f k w.0 in
      let b = offset_good ds ps regs (n * d.extent) (k + length x.ops) w.1 (before_later k (k + length x.ops) regs (omega arith) h) in
      let long = length-append x.ops o.ops in (
        good_append k x.ops o.ops a.0 b.0,
        before_append (k + length (x.ops ++ o.ops)) x.terms o.terms
            (before_later (k + length x.ops) (k + length (x.ops ++ o.ops)) (term_registers x.terms) (omega (arith, long)) a.1)
            (before_later (k + length x.ops + length o.ops) (k + length (x.ops ++ o.ops)) (term_registers o.terms) (omega (arith, long)) b.1),
      )
  offset_good (d ∷ ds) (steps f z ∷ ps) (r ∷ regs) n k w h =
      let x = scaled n f k in
      let o = offset ds ps regs (n * d.extent) (k + length x.ops) in
      let a = scaled_good n f k w.0 in
      let b = offset_good ds ps regs (n * d.extent) (k + length x.ops) w.1 (before_later k (k + length x.ops) regs (omega arith) (λ q i. h q (inr i))) in
      let long = length-append x.ops o.ops in
      let own = h r (inl refl) in (
        good_append k x.ops o.ops a.0 b.0,
        before_cons (k + length (x.ops ++ o.ops)) r (term_registers (x.terms ++ o.terms)) (omega (arith, own))
            (before_append (k + length (x.ops ++ o.ops)) x.terms o.terms
            (before_later (k + length x.ops) (k + length (x.ops ++ o.ops)) (term_registers x.terms) (omega (arith, long)) a.1)
            (before_later (k + length x.ops + length o.ops) (k + length (x.ops ++ o.ops)) (term_registers o.terms) (omega (arith, long)) b.1)),
      )
  offset_good (d ∷ ds) (steps f z ∷ ps) [] n k w h = ((tt, tt), λ r i. elim i [ ])

  section_good : (first : ℕ) (ds : List Dim) (ps : List Pick) (regs : List ℕ) (k : ℕ) → DimsFit ds 1 → AreBefore k regs
      → IsSound m k (section_code first ds ps regs k).ops × ((section_code first ds ps regs k).reg < k + length (section_code first ds ps regs k).ops)
  section_good first ds ps regs k w h =
      let o = offset ds ps regs 1 k in
      let a = offset_good ds ps regs 1 k w h in
      (good_append k o.ops (micro.Load (element_address first o) ∷ []) a.0 ((a.1, tt), ((tt, tt, no_divisor), tt)), (let e = length-append o.ops (micro.Load (element_address first o) ∷ []) in omega (arith, e)))

  module _ (place : ℕ) where
    fetched_good : (k : ℕ) (s : Seat) → place < k → SeatFits k s → IsSound m k (fetched place k s).ops × ((fetched place k s).reg < k + length (fetched place k s).ops)
    fetched_good k (fixed z) l h = ((((λ r i. elim i [ ]), tt), ((tt, h, no_divisor), tt)), omega arith)
    fetched_good k (cell c) l h = ((((λ r i. elim i [ ]), tt), ((tt, tt, no_divisor), tt)), omega arith)
    fetched_good k (cells c) l h = (((its_register k place l, tt), ((tt, tt, no_divisor), tt)), omega arith)
    fetched_good k (register r) l h = ((tt, tt), omega (arith, h))

    operands_good : (k : ℕ) (table : Table) (vs : List ValueId) → place < k → TableFits k table
        → IsSound m k (operands place k table vs).ops × ((r : ℕ) → In r (operands place k table vs).regs → r < k + length (operands place k table vs).ops)
    operands_good k table [] l t = ((tt, tt), λ r i. elim i [ ])
    operands_good k table (v ∷ vs) l t =
        let x = fetched place k (seat_of table v) in
        let rest = operands place (k + length x.ops) table vs in
        let a = fetched_good k (seat_of table v) l (t v.number) in
        let b = operands_good (k + length x.ops) table vs (omega (arith, l)) (table_later k (k + length x.ops) table (omega arith) t) in
        (good_append k x.ops rest.ops a.0 b.0, λ r i. which r (length-append x.ops rest.ops) a.1 (b.1 r) i)
      where
        which : (r : ℕ) → length ((fetched place k (seat_of table v)).ops ++ (operands place (k + length (fetched place k (seat_of table v)).ops) table vs).ops) ≡ length (fetched place k (seat_of table v)).ops + length (operands place (k + length (fetched place k (seat_of table v)).ops) table vs).ops
            → (fetched place k (seat_of table v)).reg < k + length (fetched place k (seat_of table v)).ops
            → (In r (operands place (k + length (fetched place k (seat_of table v)).ops) table vs).regs → r < k + length (fetched place k (seat_of table v)).ops + length (operands place (k + length (fetched place k (seat_of table v)).ops) table vs).ops)
            → In r ((fetched place k (seat_of table v)).reg ∷ (operands place (k + length (fetched place k (seat_of table v)).ops) table vs).regs)
            → r < k + length ((fetched place k (seat_of table v)).ops ++ (operands place (k + length (fetched place k (seat_of table v)).ops) table vs).ops)
        which r long a b (inl e) = omega (arith, long, a, e)
        which r long a b (inr i) = let q = b i in omega (arith, long, q)

    micro_good : (w : What) (rs : List ℕ) (k : ℕ) → ((r : ℕ) → In r rs → r < k) → IsSound m k (micro_of w rs ∷ [])
    micro_good (what.Unary o) (r ∷ []) k h = ((h, tt), ((tt, tt, no_divisor), tt))
    micro_good (what.Binary o) (r ∷ s ∷ []) k h = ((h, tt), ((tt, tt, no_divisor), tt))
    micro_good what.Select (m ∷ t ∷ f ∷ []) k h = ((h, tt), ((tt, tt, no_divisor), tt))
    micro_good w rs k h = (((λ r i. elim i [ ]), tt), ((tt, zero_word, no_divisor), tt))

    operated_good : (k : ℕ) (table : Table) (w : What) (os : List ValueId) → place < k → TableFits k table → IsSound m k (operated place k table w os).ops × SeatFits (k + length (operated place k table w os).ops) (operated place k table w os).seat
    operated_good k table w os l t =
        let x = operands place k table os in
        let a = operands_good k table os l t in
        (good_append k x.ops (micro_of w x.regs ∷ []) a.0 (micro_good w x.regs (k + length x.ops) a.1), (let e = length-append x.ops (micro_of w x.regs ∷ []) in omega (arith, e)))

    op_good : (k : ℕ) (table : Table) (w : What) (os : List ValueId) → place < k → TableFits k table → WhatFits w → IsSound m k (op_code place k table w os).ops × SeatFits (k + length (op_code place k table w os).ops) (op_code place k table w os).seat
    op_good k table (what.Constant c) os l t h = ((tt, tt), h)
    op_good k table what.Apply os l t h = ((tt, tt), seat_later k (k + 0) (seat_or (table (number_of os))) (omega arith) (t (number_of os)))
    op_good k table w os l t h = operated_good k table w os l t

    abbrev GoodMade : ℕ → Made → Type 0
    GoodMade k x = IsSound m k x.ops × SeatFits (k + length x.ops) x.seat

    made_if : (k : ℕ) (b : Bool) (x y : Made) → GoodMade k x → GoodMade k y → GoodMade k (if b then x else y)
    made_if k true x y h g = h
    made_if k false x y h g = g

    body_good : (k : ℕ) (table : Table) (n : ℕ) (ops : List Op) → place < k → TableFits k table → OpsFit ops → GoodMade k (body_code place k table n ops)
    body_good k table n [] l t h = ((tt, tt), seat_later k (k + 0) (seat_or (table 0)) (omega arith) (t 0))
    body_good k table n (op ∷ ops) l t h =
        let w = (out-Op op).what in
        let os = (out-Op op).operands in
        let x = op_code place k table w os in
        let rest = body_code place (k + length x.ops) (with_seat n x.seat table) (op_numbers op + n) ops in
        let a = op_good k table w os l t h.0 in
        let b = body_good (k + length x.ops) (with_seat n x.seat table) (op_numbers op + n) ops (omega (arith, l)) (with_seat_fits (k + length x.ops) n x.seat table a.1 (table_later k (k + length x.ops) table (omega arith) t)) h.1 in
        made_if k (ends w) (record { ops = []; seat = seat_or (table (number_of os)) }) (record { ops = x.ops ++ rest.ops; seat = rest.seat })
        ((tt, tt), seat_later k (k + 0) (seat_or (table (number_of os))) (omega arith) (t (number_of os)))
        (good_append k x.ops rest.ops a.0 b.0, seat_later (k + length x.ops + length rest.ops) (k + length (x.ops ++ rest.ops)) rest.seat (let e = length-append x.ops rest.ops in omega (arith, e)) b.1)

    -- ---- what was left for stage 2

    module _ (regs : List ℕ) where
      todo_good : (k : ℕ) (table : Table) (n : ℕ) (t : Todo) → place < k → AreBefore k regs → TableFits k table → TodoFits t → GoodMade k (todo_code regs place k table n t)
      todo_good k table n (elements first ds ps) l b t h = section_good first ds ps regs k h b
      todo_good k table n (body ops) l b t h = body_good k table (suc n) ops l t h

      tasks_good : (k : ℕ) (table : Table) (ts : List Task) → place < k → AreBefore k regs → TableFits k table → TasksFit ts
          → IsSound m k (tasks_code regs place k table ts).ops × TableFits (k + length (tasks_code regs place k table ts).ops) (tasks_code regs place k table ts).table
      tasks_good k table [] l b t h = ((tt, tt), table_later k (k + 0) table (omega arith) t)
      tasks_good k table (d ∷ ts) l b t h =
          let x = todo_code regs place k table d.number d.todo in
          let rest = tasks_code regs place (k + length x.ops) (with_seat d.number x.seat table) ts in
          let a = todo_good k table d.number d.todo l b t h.0 in
          let c = tasks_good (k + length x.ops) (with_seat d.number x.seat table) ts (omega (arith, l)) (before_later k (k + length x.ops) regs (omega arith) b)
          (with_seat_fits (k + length x.ops) d.number x.seat table a.1 (table_later k (k + length x.ops) table (omega arith) t)) h.1 in
          (good_append k x.ops rest.ops a.0 c.0, table_later (k + length x.ops + length rest.ops) (k + length (x.ops ++ rest.ops)) rest.table (let e = length-append x.ops rest.ops in omega (arith, e)) c.1)

      element_good : (k : ℕ) (table : Table) (v : ℕ) (ts : List Task) → place < k → AreBefore k regs → TableFits k table → TasksFit ts
          → IsSound m k (element_code regs place k table v ts).ops × ((element_code regs place k table v ts).reg < k + length (element_code regs place k table v ts).ops)
      element_good k table v ts l b t h =
          let x = tasks_code regs place k table ts in
          let y = fetched place (k + length x.ops) (seat_or (x.table v)) in
          let a = tasks_good k table ts l b t h in
          let c = fetched_good (k + length x.ops) (seat_or (x.table v)) (omega (arith, l)) (a.1 v) in
          (good_append k x.ops y.ops a.0 c.0, (let e = length-append x.ops y.ops in let r = c.1 in omega (arith, e, r)))

  pub value_good : (counts : List Source) (place k : ℕ) (table : Table) (v : ℕ) (ts : List Task) → place < k → TableFits k table → TasksFit ts → ArePositive m counts
      → IsSound m k (value_code counts place k table v ts).ops × ((value_code counts place k table v ts).reg < k + length (value_code counts place k table v ts).ops)
  value_good counts place k table v ts l t h p =
      let x = digits counts place k in
      let y = element_code x.regs place (k + length x.ops) table v ts in
      let a = digits_good counts place k l p in
      let b = element_good place x.regs (k + length x.ops) table v ts (omega (arith, l)) a.1 (table_later k (k + length x.ops) table (omega arith) t) h in
      (good_append k x.ops y.ops a.0 b.0, (let e = length-append x.ops y.ops in let r = b.1 in omega (arith, e, r)))
