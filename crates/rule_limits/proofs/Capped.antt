-- Counting as far as a number goes.
use Rattle.std.proofs.Common.{◌≡◌, refl, ap, sym, ◌∙◌, ℕ, ◌+◌, min, max, Bool, true, false, ◌&&◌, nat_le, cond, ◌==◌, ◌≤◌, drop, List, [], ◌∷◌, length, arith}
use Rattle.std.proofs.Math.ListN.{drop_of_length-le}
use Rattle.std.proofs.lemmas.Bool.Decides.{nat_tests}
use Rattle.hlfir_ops.specs.declared.op.ValueId.{ValueId}
use Rattle.hlfir_ops.specs.declared.op.Op.{Op, out-Op}
use Rattle.hlfir_ops.specs.RulesValues.{Value, value_at, is_whole}
use Rattle.hlfir_ops.specs.Numbers.{order_in}
use Rattle.hlfir_ops.specs.declared.op.Region.{Region}
use Rattle.hlfir_ops.specs.RulesLimits as limits
use Rattle.rule_limits.specs.declared.tally.Tally.{Tally}
use Rattle.rule_limits.specs.declared.tally.Sum.{Sum}
use Rattle.rule_limits.specs.Tallies as tallies
use Rattle.rule_limits.specs.Tallies.{most, plus, capped}

-- ---- numbers

cap_one : (n : ℕ) → plus (min n most) 1 ≡ min (1 + n) most
cap_one n = omega arith

cap_two : (n : ℕ) → plus (min n most) 2 ≡ min (2 + n) most
cap_two n = omega arith

cap_three : (n : ℕ) → plus (min n most) 3 ≡ min (3 + n) most
cap_three n = omega arith

cap_six : (n : ℕ) → plus (min n most) 6 ≡ min (6 + n) most
cap_six n = omega arith

cap_plus : (a b : ℕ) → plus (min a most) (min b most) ≡ min (a + b) most
cap_plus a b = omega arith

cap_max : (a b : ℕ) → max (min a most) (min b most) ≡ min (max a b) most
cap_max a b = omega arith

cap_step : (m h p : ℕ) → plus (plus (plus (min m most) (min h most)) (min p most)) 2 ≡ min (2 + (m + (h + p))) most
cap_step m h p =
    ap (λ n. plus (plus n (min p most)) 2) (cap_plus m h) ∙ (ap (λ n. plus n 2) (cap_plus (m + h) p) ∙ (cap_two (m + h + p) ∙ ap (λ n. min n most) (let e : 2 + (m + h + p) ≡ 2 + (m + (h + p)) = omega arith in e)))

-- a tally with these numbers
abbrev tally_of : limits.Count → ℕ → ℕ → ℕ → ℕ → ℕ → Tally
tally_of c phases temporaries masks held pending = record { phases = phases; temporaries = temporaries; masks = masks; held = held; pending = pending; begun = c.begun; assigned = c.assigned; masked = c.masked }

same_tally : (c : limits.Count) (p p' t t' m m' h h' q q' : ℕ) → p ≡ p' → t ≡ t' → m ≡ m' → h ≡ h' → q ≡ q' → tally_of c p t m h q ≡ tally_of c p' t' m' h' q'
same_tally c p p' t t' m m' h h' q q' a b d e f =
    ap (λ n. tally_of c n t m h q) a ∙ (ap (λ n. tally_of c p' n m h q) b ∙ (ap (λ n. tally_of c p' t' n h q) d ∙ (ap (λ n. tally_of c p' t' m' n q) e ∙ ap (λ n. tally_of c p' t' m' h' n) f)))

-- ---- each way to count

pub ended_capped : (c : limits.Count) → tallies.ended (capped c) ≡ capped (limits.ended c)
ended_capped c =
    same_tally (limits.ended c) (plus (min c.phases most) 6) (min (6 + c.phases) most) (max (min c.temporaries most) (plus (plus (plus (min c.masks most) (min c.held most)) (min c.pending most)) 2))
    (min (max c.temporaries (2 + (c.masks + (c.held + c.pending)))) most) (min c.masks most) (min c.masks most) (min c.held most) (min c.held most) 0 0 (cap_six c.phases)
    (ap (λ n. max (min c.temporaries most) n) (cap_step c.masks c.held c.pending) ∙ cap_max c.temporaries (2 + (c.masks + (c.held + c.pending)))) refl refl refl

after_by : (b : Bool) (c : limits.Count) → cond b (tallies.ended (capped c)) (capped c) ≡ capped (cond b (limits.ended c) c)
after_by true c = ended_capped c
after_by false c = refl

pub after_capped : (c : limits.Count) → tallies.after_assignment (capped c) ≡ capped (limits.after_assignment c)
unfolding tallies.after_assignment
after_capped c = after_by c.assigned c

mask_capped : (c : limits.Count) → tallies.with_mask (capped c) ≡ capped (limits.with_mask c)
mask_capped c =
    same_tally (limits.with_mask c) (plus (min c.phases most) 1) (min (1 + c.phases) most) (min c.temporaries most) (min c.temporaries most) (plus (min c.masks most) 1) (min (1 + c.masks) most)
    (min c.held most) (min c.held most) (min c.pending most) (min c.pending most) (cap_one c.phases) refl (cap_one c.masks) refl refl

reduction_capped : (c : limits.Count) → tallies.with_reduction (capped c) ≡ capped (limits.with_reduction c)
reduction_capped c =
    same_tally (limits.with_reduction c) (plus (min c.phases most) 3) (min (3 + c.phases) most) (min c.temporaries most) (min c.temporaries most) (min c.masks most) (min c.masks most)
    (min c.held most) (min c.held most) (plus (min c.pending most) 1) (min (1 + c.pending) most) (cap_three c.phases) refl refl refl (cap_one c.pending)

whole_held : (c : limits.Count) → record (capped c) { phases = plus (min c.phases most) 2; held = plus (min c.held most) 1; begun = true } ≡ capped (record c { phases = 2 + c.phases; held = 1 + c.held; begun = true })
whole_held c =
    same_tally (record c { begun = true }) (plus (min c.phases most) 2) (min (2 + c.phases) most) (min c.temporaries most) (min c.temporaries most) (min c.masks most) (min c.masks most)
    (plus (min c.held most) 1) (min (1 + c.held) most) (min c.pending most) (min c.pending most) (cap_two c.phases) refl refl (cap_one c.held) refl

whole_pending : (c : limits.Count) → record (capped c) { phases = plus (min c.phases most) 2; pending = plus (min c.pending most) 1; begun = true } ≡ capped (record c { phases = 2 + c.phases; pending = 1 + c.pending; begun = true })
whole_pending c =
    same_tally (record c { begun = true }) (plus (min c.phases most) 2) (min (2 + c.phases) most) (min c.temporaries most) (min c.temporaries most) (min c.masks most) (min c.masks most)
    (min c.held most) (min c.held most) (plus (min c.pending most) 1) (min (1 + c.pending) most) (cap_two c.phases) refl refl refl (cap_one c.pending)

whole_by : (b : Bool) (c : limits.Count) →
    cond b (record (capped c) { phases = plus (min c.phases most) 2; held = plus (min c.held most) 1; begun = true }) (record (capped c) { phases = plus (min c.phases most) 2; pending = plus (min c.pending most) 1; begun = true })
    ≡ capped (cond b (record c { phases = 2 + c.phases; held = 1 + c.held; begun = true }) (record c { phases = 2 + c.phases; pending = 1 + c.pending; begun = true }))
whole_by true c = whole_held c
whole_by false c = whole_pending c

whole_capped : (c : limits.Count) → tallies.with_whole (capped c) ≡ capped (limits.with_whole c)
unfolding tallies.with_whole
whole_capped c = whole_by c.masked c

operand_by : (b : Bool) (c : limits.Count) → cond b (tallies.with_whole (capped c)) (capped c) ≡ capped (cond b (limits.with_whole c) c)
operand_by true c = whole_capped c
operand_by false c = refl

operand_capped : (vs : List Value) (c : limits.Count) (v : ValueId) → tallies.with_operand vs (capped c) v ≡ capped (cond (is_whole (value_at vs v)) (limits.with_whole c) c)
unfolding tallies.with_operand
operand_capped vs c v = operand_by (is_whole (value_at vs v)) c

wholes_capped : (vs : List Value) (c : limits.Count) (os : List ValueId) → tallies.with_wholes vs (capped c) os ≡ capped (limits.with_wholes vs c os)
wholes_capped vs c [] = refl
wholes_capped vs c (v ∷ more) = ap (λ t. tallies.with_wholes vs t more) (operand_capped vs c v) ∙ wholes_capped vs (cond (is_whole (value_at vs v)) (limits.with_whole c) c) more

new_mask : (c : limits.Count) → tallies.with_mask (tallies.after_assignment (capped c)) ≡ capped (limits.with_mask (limits.after_assignment c))
new_mask c = ap tallies.with_mask (after_capped c) ∙ mask_capped (limits.after_assignment c)

elsewhere_by : (b : Bool) (c : limits.Count) → cond b (capped c) (tallies.with_mask (tallies.after_assignment (capped c))) ≡ capped (cond b c (limits.with_mask (limits.after_assignment c)))
elsewhere_by true c = refl
elsewhere_by false c = new_mask c

with_added_capped : (vs : List Value) (c : limits.Count) (a : limits.Adds) (os : List ValueId) (n : ℕ) → tallies.with_added vs (capped c) a os n ≡ capped (limits.with_added vs c a os n)
unfolding tallies.with_elsewhere
with_added_capped vs c limits.AddsNothing os n = refl
with_added_capped vs c limits.AddsMask os n = new_mask c
with_added_capped vs c limits.AddsElseMask os n = elsewhere_by (n == 1) c
with_added_capped vs c limits.AddsAssignment os n = ap tallies.with_assignment (after_capped c)
with_added_capped vs c limits.AddsHeader os n = ap tallies.with_header (after_capped c)
with_added_capped vs c limits.AddsReduction os n = reduction_capped c
with_added_capped vs c limits.AddsWholes os n = wholes_capped vs c os

pub counted_capped : (vs : List Value) (c : limits.Count) (op : Op) → tallies.counted vs (capped c) op ≡ capped (limits.counted vs c op)
unfolding tallies.counted
counted_capped vs c op = with_added_capped vs c (limits.adds_of (out-Op op).what) (out-Op op).operands (length (out-Op op).regions)

pub all_capped : (vs : List Value) (c : limits.Count) (ops : List Op) → tallies.counted_all vs (capped c) ops ≡ capped (limits.counted_all vs c ops)
all_capped vs c [] = refl
all_capped vs c (op ∷ ops) = ap (λ t. tallies.counted_all vs t ops) (counted_capped vs c op) ∙ all_capped vs (limits.counted vs c op) ops

-- ---- a statement, and expressions

finished_by : (b : Bool) (c : limits.Count) → cond b (tallies.ended (capped c)) (capped c) ≡ capped (cond b (limits.ended c) c)
finished_by true c = ended_capped c
finished_by false c = refl

finished_capped : (c : limits.Count) → tallies.finished (capped c) ≡ capped (cond c.begun (limits.ended c) c)
unfolding tallies.finished
finished_capped c = finished_by c.begun c

pub statement_capped : (vs : List Value) (op : Op) (regions : List Region) (order : List Op) (t1 t2 t3 : Tally) → regions ≡ (out-Op op).regions → order ≡ order_in regions →
    t1 ≡ tallies.counted vs (capped limits.nothing) op → t2 ≡ tallies.counted_all vs t1 order → t3 ≡ tallies.finished t2 → t3 ≡ capped (limits.statement_count vs op)
statement_capped vs op regions order t1 t2 t3 same listed one all end =
    end
    ∙ ap tallies.finished (all ∙ (ap (λ l. tallies.counted_all vs t1 l) (listed ∙ ap order_in same)
    ∙ (ap (λ t. tallies.counted_all vs t (order_in (out-Op op).regions)) (one ∙ counted_capped vs limits.nothing op) ∙ all_capped vs (limits.counted vs limits.nothing op) (order_in (out-Op op).regions))))
    ∙ finished_capped (limits.counted_all vs (limits.counted vs limits.nothing op) (order_in (out-Op op).regions))

pub step_capped : (vs : List Value) (order : List Op) (t1 t2 : Tally) → t1 ≡ tallies.counted_all vs (capped limits.nothing) order → t2 ≡ tallies.ended t1 → t2 ≡ capped (limits.step_count vs order)
step_capped vs order t1 t2 all end = end ∙ (ap tallies.ended (all ∙ all_capped vs limits.nothing order) ∙ ended_capped (limits.counted_all vs limits.nothing order))

-- ---- several statements

same_sum : (p p' t t' : ℕ) → p ≡ p' → t ≡ t' → tallies.sum_of p t ≡ tallies.sum_of p' t'
same_sum p p' t t' a b = ap (λ n. tallies.sum_of n t) a ∙ ap (λ n. tallies.sum_of p' n) b

added_capped : (p t : ℕ) (c : limits.Count) → tallies.added (tallies.sum_of p t) (capped c) ≡ tallies.sum_of (p + c.phases) (max t c.temporaries)
added_capped p t c =
    ap (λ (n : ℕ). let s : Sum = record { phases = n; temporaries = max (min t most) (min c.temporaries most) } in s) (cap_plus p c.phases)
    ∙ ap (λ (n : ℕ). let s : Sum = record { phases = min (p + c.phases) most; temporaries = n } in s) (cap_max t c.temporaries)

summed_from : (vs : List Value) (ops : List Op) (p t : ℕ) → tallies.summed vs (tallies.sum_of p t) ops ≡ tallies.sum_of (p + limits.phases_of vs ops) (max t (limits.temporaries_of vs ops))
summed_from vs [] p t = same_sum p (p + 0) t (max t 0) (omega arith) (omega arith)
summed_from vs (op ∷ ops) p t =
    ap (λ s. tallies.summed vs s ops) (added_capped p t (limits.statement_count vs op))
    ∙ (summed_from vs ops (p + (limits.statement_count vs op).phases) (max t (limits.statement_count vs op).temporaries)
    ∙ same_sum (p + (limits.statement_count vs op).phases + limits.phases_of vs ops) (p + limits.phases_of vs (op ∷ ops)) (max (max t (limits.statement_count vs op).temporaries) (limits.temporaries_of vs ops))
    (max t (limits.temporaries_of vs (op ∷ ops))) (omega arith) (omega arith))

pub sum_capped : (vs : List Value) (ops : List Op) → tallies.summed vs (tallies.sum_of 0 0) ops ≡ tallies.sum_of (limits.phases_of vs ops) (limits.temporaries_of vs ops)
sum_capped vs ops = summed_from vs ops 0 0 ∙ same_sum (0 + limits.phases_of vs ops) (limits.phases_of vs ops) (max 0 (limits.temporaries_of vs ops)) (limits.temporaries_of vs ops) (omega arith) (omega arith)

-- ---- the tests

pub few_phases : (n : ℕ) → nat_le (min n most) 512 ≡ nat_le n 512
few_phases n = grind (arith, nat_tests)

pub few_temporaries : (n : ℕ) → nat_le (min n most) 64 ≡ nat_le n 64
few_temporaries n = grind (arith, nat_tests)

pub fits_capped : (p t : ℕ) → limits.fits_count (min p most) (min t most) ≡ limits.fits_count p t
fits_capped p t = ap (λ b. b && nat_le (min t most) 64) (few_phases p) ∙ ap (λ b. nat_le p 512 && b) (few_temporaries t)

-- the end of a loop over statements
pub sum_done : (vs : List Value) (ops : List Op) (i : ℕ) (s : Sum) → length ops ≤ i → tallies.summed vs s (drop i ops) ≡ tallies.summed vs (tallies.sum_of 0 0) ops →
    s ≡ tallies.sum_of (limits.phases_of vs ops) (limits.temporaries_of vs ops)
sum_done vs ops i s h e = ap (tallies.summed vs s) (sym (drop_of_length-le ops h)) ∙ (e ∙ sum_capped vs ops)
