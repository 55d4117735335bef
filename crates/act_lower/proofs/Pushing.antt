-- A table of seats that grows while a body is walked.
use Rattle.std.proofs.Common.{◌≡◌, arith, refl, sym, ap, ◌∙◌, subst, slice_index_or, drop, drop-cons, ◌<◌, ℕ, suc, ◌+◌, ◌==◌, Bool, true, false, if◌then◌else◌, List, [], ◌∷◌, ◌++◌, length, Option, Some, None}
use Rattle.std.proofs.lemmas.List.{append_assoc, length-append, append-nil}
use Rattle.phase_ops.specs.declared.phase.Micro.{Micro}
use Rattle.hlfir_ops.specs.declared.op.ValueId.{ValueId}
use Rattle.hlfir_ops.specs.declared.op.Op.{Op, out-Op}
use Rattle.hlfir_ops.specs.Numbers.{op_numbers}
use Rattle.hlfir_meaning.specs.Environments.{number_of}
use Rattle.hlfir_meaning.specs.Order.{ends}
use Rattle.act_laws.specs.declared.seat.Seat.{Seat}
use Rattle.act_laws.specs.declared.seat.Seated.{Seated}
use Rattle.act_laws.specs.Seats.{Table, with_seat, later_or, seats_of, seat_or}
use Rattle.act_lower.specs.Code.{Made, op_code, body_code}
use Rattle.act_lower.specs.Covered.{HaveOneNumber, IsFront}

abbrev pub entry : ℕ → Seat → Seated
entry n s = record { number = n; seat = s }

last_counts : (b : Bool) (s : Seat) (t o : Option Seat) → later_or (if b then Some s else t) o ≡ (if b then Some s else later_or t o)
last_counts true s t o = refl
last_counts false s t o = refl

pushed_at : (es : List Seated) (n : ℕ) (s : Seat) (k : ℕ) → seats_of (es ++ entry n s ∷ []) k ≡ with_seat n s (seats_of es) k
pushed_at [] n s k = refl
pushed_at (e ∷ es) n s k = ap (λ t. later_or t (if k == e.number then Some e.seat else None)) (pushed_at es n s k) ∙ last_counts (k == n) s (seats_of es k) (if k == e.number then Some e.seat else None)

pub seats_pushed : (es : List Seated) (n : ℕ) (s : Seat) → seats_of (es ++ entry n s ∷ []) ≡ with_seat n s (seats_of es)
seats_pushed es n s = λ i k. pushed_at es n s k i

-- what is left of a body gives, after what was appended, what the whole body gives
pub record IsWalked (place first : ℕ) (start : List Seated) (body : List Op) (before : List Micro) (n : ℕ) (table : List Seated) (left : List Op) (ops : List Micro) : Type 0 where
  pub one_number : HaveOneNumber left
  pub front : IsFront start table
  pub code : ops ++ (body_code place (length ops) (seats_of table) n left).ops ≡ before ++ (body_code place (length before) (seats_of start) first body).ops
  pub seat : (body_code place (length ops) (seats_of table) n left).seat ≡ (body_code place (length before) (seats_of start) first body).seat

pub walked_first : (place first : ℕ) (start : List Seated) (body : List Op) (before : List Micro) → HaveOneNumber body → IsWalked place first start body before first start body before
walked_first place first start body before h = record { one_number = h; front = ([], sym (append-nil start)); code = refl; seat = refl }

module _ (place n : ℕ) (table : List Seated) (op : Op) (left : List Op) (ops : List Micro) where
  abbrev here : Made
  here = op_code place (length ops) (seats_of table) (out-Op op).what (out-Op op).operands

  abbrev rest : ℕ → Table → ℕ → Made
  rest k t j = body_code place k t j left

  -- the code of the rest, from where it is counted on
  stepped : (b : Bool) → b ≡ false → (A : Made) → (if b then A else record { ops = here.ops ++ (rest (length ops + length here.ops) (with_seat n here.seat (seats_of table)) (op_numbers op + n)).ops; seat = (rest (length ops + length here.ops) (with_seat n here.seat (seats_of table)) (op_numbers op + n)).seat })
      ≡ record { ops = here.ops ++ (rest (length ops + length here.ops) (with_seat n here.seat (seats_of table)) (op_numbers op + n)).ops; seat = (rest (length ops + length here.ops) (with_seat n here.seat (seats_of table)) (op_numbers op + n)).seat }
  stepped false e A = refl
  stepped true e A = let f : ⊥ = cc in absurd f

  rest_is : op_numbers op ≡ 1 → rest (length (ops ++ here.ops)) (seats_of (table ++ entry n here.seat ∷ [])) (n + 1) ≡ rest (length ops + length here.ops) (with_seat n here.seat (seats_of table)) (op_numbers op + n)
  rest_is e = λ i. rest (length-append ops here.ops i) (seats_pushed table n here.seat i) ((let f : n + 1 ≡ op_numbers op + n = omega (arith, e) in f) i)

  pub walked_next : (first : ℕ) (start : List Seated) (body : List Op) (before : List Micro) → ends (out-Op op).what ≡ false → IsWalked place first start body before n table (op ∷ left) ops
      → IsWalked place first start body before (n + 1) (table ++ entry n here.seat ∷ []) left (ops ++ here.ops)
  walked_next first start body before e h =
      let whole = stepped (ends (out-Op op).what) e (record { ops = []; seat = seat_or (seats_of table (number_of (out-Op op).operands)) }) in
      let r = rest_is h.one_number.0 in
      record {
        one_number = h.one_number.1;
        front = (h.front.0 ++ entry n here.seat ∷ [], ap (λ t. t ++ entry n here.seat ∷ []) h.front.1 ∙ append_assoc start h.front.0 (entry n here.seat ∷ []));
        code = append_assoc ops here.ops (rest (length (ops ++ here.ops)) (seats_of (table ++ entry n here.seat ∷ [])) (n + 1)).ops
            ∙ (ap (λ m. ops ++ (here.ops ++ m.ops)) r ∙ (ap (λ m. ops ++ m.ops) (sym whole) ∙ h.code));
        seat = ap (λ m. m.seat) r ∙ (ap (λ m. m.seat) (sym whole) ∙ h.seat);
      }

  -- a yield ends the body
  ended : (b : Bool) → b ≡ true → (A B : Made) → (if b then A else B) ≡ A
  ended true e A B = refl
  ended false e A B = let f : ⊥ = cc in absurd f

  pub walked_end : (first : ℕ) (start : List Seated) (body : List Op) (before : List Micro) → ends (out-Op op).what ≡ true → IsWalked place first start body before n table (op ∷ left) ops
      → (ops ≡ before ++ (body_code place (length before) (seats_of start) first body).ops) × (seat_or (seats_of table (number_of (out-Op op).operands)) ≡ (body_code place (length before) (seats_of start) first body).seat)
  walked_end first start body before e h =
      let A : Made = record { ops = []; seat = seat_or (seats_of table (number_of (out-Op op).operands)) } in
      let whole = ended (ends (out-Op op).what) e A (record { ops = here.ops ++ (rest (length ops + length here.ops) (with_seat n here.seat (seats_of table)) (op_numbers op + n)).ops; seat = (rest (length ops + length here.ops) (with_seat n here.seat (seats_of table)) (op_numbers op + n)).seat }) in
      (sym (append-nil ops) ∙ (ap (λ m. ops ++ m.ops) (sym whole) ∙ h.code), ap (λ m. m.seat) (sym whole) ∙ h.seat)

-- one step of the walk, as the loop has it
pub walked_at : (place first : ℕ) (start : List Seated) (body : List Op) (before : List Micro) (n : ℕ) (table : List Seated) (at : ℕ) (ops : List Micro) (op : Op) (seat : Seat) (os : List ValueId) (seats : List Seated) (next : ℕ) (new : List Seated) (after : List Micro)
    → op ≡ slice_index_or body at op → at < length body → ends (out-Op op).what ≡ false → os ≡ (out-Op op).operands → seats ≡ table
    → after ≡ ops ++ (op_code place (length ops) (seats_of seats) (out-Op op).what os).ops → seat ≡ (op_code place (length ops) (seats_of seats) (out-Op op).what os).seat
    → new ≡ table ++ entry n seat ∷ [] → next ≡ n + 1
    → IsWalked place first start body before n table (drop at body) ops → IsWalked place first start body before next new (drop (at + 1) body) after
walked_at place first start body before n table at ops op seat os seats next new after is there goes e f a s t m h =
    let left = drop (at + 1) body in
    let split : drop at body ≡ op ∷ left = drop-cons body at op there ∙ (λ i. sym is i ∷ drop ((let q : suc at ≡ at + 1 = omega arith in q) i) body) in
    let w = walked_next place n table op left ops first start body before goes (subst (λ l. IsWalked place first start body before n table l ops) split h) in
    let code : Made = op_code place (length ops) (seats_of table) (out-Op op).what (out-Op op).operands in
    let same : op_code place (length ops) (seats_of seats) (out-Op op).what os ≡ code = λ i. op_code place (length ops) (seats_of (f i)) (out-Op op).what (e i) in
    let to_ops : ops ++ code.ops ≡ after = sym (a ∙ ap (λ (x : Made). ops ++ x.ops) same) in
    let to_table : table ++ entry n code.seat ∷ [] ≡ new = sym (t ∙ ap (λ x. table ++ entry n x ∷ []) (s ∙ ap (λ (x : Made). x.seat) same)) in
    let a1 = subst (λ x. IsWalked place first start body before x (table ++ entry n code.seat ∷ []) left (ops ++ code.ops)) (sym m) w in
    let a2 = subst (λ x. IsWalked place first start body before next x left (ops ++ code.ops)) to_table a1 in
    subst (λ x. IsWalked place first start body before next new left x) to_ops a2
