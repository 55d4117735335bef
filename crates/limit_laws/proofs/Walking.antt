-- The ops of a statement are counted below its pieces, step by step.
use Rattle.std.proofs.Common.{◌≡◌, refl, sym, ap, ◌∙◌, subst, ℕ, suc, ◌+◌, ◌*◌, ◌≤◌, max, Bool, true, false, List, [], ◌∷◌, ◌++◌, length, Option, None, arith, if◌then◌else◌, append-nil}
use Rattle.hlfir_ops.specs.declared.what.What.{What}
use Rattle.hlfir_ops.specs.declared.what.What.TheVariants as what
use Rattle.hlfir_ops.specs.declared.kinds.ValueKind.{ValueKind}
use Rattle.hlfir_ops.specs.declared.op.ValueId.{ValueId}
use Rattle.hlfir_ops.specs.declared.op.Op.{Op, Op-F, out-roll-Op}
use Rattle.hlfir_ops.specs.declared.op.Region.{Region}
use Rattle.hlfir_ops.specs.Trees.{op_of, region_of}
use Rattle.hlfir_ops.specs.Numbers.{order_of, order_in}
use Rattle.hlfir_ops.specs.RulesValues.{Value}
use Rattle.hlfir_ops.specs.RulesLimits.{Count, ended, after_assignment, with_mask, with_assignment, with_header, counted_as, counted, counted_all}
use Rattle.ws_counts.specs.declared.tally.Piece.{Piece}
use Rattle.ws_counts.specs.declared.tally.Piece.TheVariants as piece
use Rattle.ws_counts.specs.declared.tally.Tally.{Tally}
use Rattle.ws_counts.specs.Counts.{how_many, is_mask, parts_in, reductions_in, wholes_in, masks_in}
use Rattle.ws_counts.specs.Tallies.{tallied}
use Rattle.ws_counts.specs.Tallies as tallies
use Rattle.ws_counts.proofs.Tallied.{tallied-append}
use Rattle.limit_laws.proofs.Costs.{total_in, sum_of, heavy, size, reduces, wholes, Costs}
use Rattle.limit_laws.proofs.Totals.{total-op, order-op, order-region, sum-append}
use Rattle.limit_laws.proofs.Pieces.{how_many-append, parts-append, reductions-append, wholes-append}
use Rattle.limit_laws.proofs.Counting.{adds-light, counted-append}
use Rattle.limit_laws.proofs.Tallying.{Reaches, reaches-less, reaches-mask, reaches-assigned, AreValuePieces, both_values, reaches-values, begun-values}
use Rattle.limit_laws.proofs.Sides.{SideCosts}

abbrev is_assigned : Piece → Bool
is_assigned piece.Assigned = true
is_assigned _ = false

abbrev pub assigned_in : List Piece → ℕ
assigned_in = how_many is_assigned

-- how large the ops for these pieces are at most
abbrev pub bound : List Piece → ℕ
bound ps = 27 * parts_in ps + (12 * masks_in ps + 22 * assigned_in ps)

pub bound-append : (xs ys : List Piece) → bound (xs ++ ys) ≡ bound xs + bound ys
bound-append xs ys = omega (arith, parts-append xs ys, how_many-append is_mask xs ys, how_many-append is_assigned xs ys)

-- ---- the count of the ops is below that of the pieces

abbrev pub Under : Count → Tally → Type 0
Under c k = let d = after_assignment c in Reaches k d.phases d.temporaries (d.masks + d.held) d.pending

pub record Below (c : Count) (k : Tally) : Type 0 where
  pub begun : c.begun ≡ true
  pub under : Under c k
  pub unended : c.assigned ≡ false → k.begun ≡ true

after_is : (c : Count) (b : Bool) → c.assigned ≡ b → after_assignment c ≡ (if b then ended c else c)
after_is c b is = ap (λ a. if a then ended c else c) is

not_assigned : (b : Bool) (c : Count) → c.assigned ≡ b → (if b then ended c else c).assigned ≡ false
not_assigned true c is = refl
not_assigned false c is = is

after-open : (c : Count) → (after_assignment c).assigned ≡ false
after-open c = not_assigned c.assigned c refl

under-open : (c : Count) (k : Tally) → c.assigned ≡ false → Reaches k c.phases c.temporaries (c.masks + c.held) c.pending → Under c k
under-open c k is r = subst (λ (d : Count). Reaches k d.phases d.temporaries (d.masks + d.held) d.pending) (sym (after_is c false is)) r

under-assigned : (c : Count) (k : Tally) → c.assigned ≡ true → Reaches k (6 + c.phases) (max c.temporaries (2 + (c.masks + (c.held + c.pending)))) (c.masks + c.held) 0 → Under c k
under-assigned c k is r = subst (λ (d : Count). Reaches k d.phases d.temporaries (d.masks + d.held) d.pending) (sym (after_is c true is)) r

two : {P : Type 0} → true ≡ false → P
two h = absurd (cc)

module _ (vs : List Value) where
  module _ (c : Count) (k : Tally) (u : Under c k) (ops : List Op) (ps : List Piece) (light : sum_of heavy ops ≤ 0) (few : sum_of reduces ops ≤ reductions_in ps) (whole : sum_of (wholes vs) ops ≤ wholes_in ps) where
    abbrev before : Count
    before = after_assignment c

    -- a mask
    pub mask-step : AreValuePieces true ps → Below (counted_all vs (with_mask before) ops) (tallied (tallies.counted k piece.Mask) ps)
    mask-step are =
        let e = counted_all vs (with_mask before) ops in
        let a = adds-light vs (with_mask before) ops light in
        let k' = tallied (tallies.counted k piece.Mask) ps in
        let r = reaches-values true ps are (tallies.counted k piece.Mask) _ _ _ _ (reaches-mask k _ _ _ _ u) in
        record {
          begun = a.begun refl;
          under = under-open e k' (a.assigned ∙ after-open c)
              (reaches-less k' _ _ _ _ e.phases e.temporaries (e.masks + e.held) e.pending r
              (omega (arith, a.phases, few, whole)) (omega (arith, a.temporaries)) (omega (arith, a.masks, a.held, whole)) (omega (arith, a.pending, few)));
          unended = λ h. begun-values true ps are (tallies.counted k piece.Mask) refl;
        }

    -- an assignment
    pub assign-step : AreValuePieces false ps → Below (counted_all vs (with_assignment before) ops) (tallied k (ps ++ piece.Assigned ∷ []))
    unfolding tallied
    assign-step are =
        let e = counted_all vs (with_assignment before) ops in
        let a = adds-light vs (with_assignment before) ops light in
        let k' = tallied k (ps ++ piece.Assigned ∷ []) in
        let r = reaches-values false ps are k _ _ _ _ u in
        let r' = reaches-assigned (tallied k ps) _ _ _ _ r in
        record {
          begun = a.begun refl;
          under = under-assigned e k' a.assigned
              (subst (λ (l : Tally). Reaches l (6 + e.phases) (max e.temporaries (2 + (e.masks + (e.held + e.pending)))) (e.masks + e.held) 0) (sym (tallied-append k ps (piece.Assigned ∷ [])))
              (reaches-less (tallies.counted (tallied k ps) piece.Assigned) _ _ _ _ _ _ _ _ r'
              (omega (arith, a.phases, few, whole)) (omega (arith, a.temporaries, a.masks, a.held, a.pending, few, whole)) (omega (arith, a.masks, a.held)) (omega arith)));
          unended = λ h. two (sym a.assigned ∙ h);
        }

  -- ---- ops within a statement, whatever stands before, and ops that may begin it

  pub record Inner (ops : List Op) (ps : List Piece) (extra : ℕ) : Type 0 where
    pub size : sum_of size ops ≤ bound ps + extra
    pub counts : (c : Count) (k : Tally) → Below c k → Below (counted_all vs c ops) (tallied k ps)

  pub record First (ops : List Op) (ps : List Piece) : Type 0 where
    pub size : sum_of size ops ≤ bound ps
    pub counts : (c : Count) (k : Tally) → Under c k → Below (counted_all vs c ops) (tallied k ps)

  pub first-inner : (ops : List Op) (ps : List Piece) → First ops ps → Inner ops ps 0
  first-inner ops ps f = record { size = omega (arith, f.size); counts = λ c k b. f.counts c k b.under }

  pub inner-none : Inner [] [] 0
  unfolding tallied
  inner-none = record { size = omega arith; counts = λ c k b. b }

  pub inner-more : (xs ys : List Op) (ps qs : List Piece) (m n : ℕ) → Inner xs ps m → Inner ys qs n → Inner (xs ++ ys) (ps ++ qs) (m + n)
  inner-more xs ys ps qs m n f g = record {
    size = omega (arith, sum-append size xs ys, f.size, g.size, bound-append ps qs);
    counts = λ c k b.
        subst (λ (d : Count). Below d (tallied k (ps ++ qs))) (sym (counted-append vs c xs ys))
        (subst (λ (l : Tally). Below (counted_all vs (counted_all vs c xs) ys) l) (sym (tallied-append k ps qs)) (g.counts (counted_all vs c xs) (tallied k ps) (f.counts c k b)));
  }

  pub first-more : (xs ys : List Op) (ps qs : List Piece) → First xs ps → Inner ys qs 0 → First (xs ++ ys) (ps ++ qs)
  first-more xs ys ps qs f g = record {
    size = omega (arith, sum-append size xs ys, f.size, g.size, bound-append ps qs);
    counts = λ c k b.
        subst (λ (d : Count). Below d (tallied k (ps ++ qs))) (sym (counted-append vs c xs ys))
        (subst (λ (l : Tally). Below (counted_all vs (counted_all vs c xs) ys) l) (sym (tallied-append k ps qs)) (g.counts (counted_all vs c xs) (tallied k ps) (f.counts c k b)));
  }

  -- ---- ops that hold regions

  counted-op : (c : Count) (w : What) (line : ℕ) (os : List ValueId) (o : Option ValueKind) (rs : List Region) → counted vs c (op_of w line os o rs) ≡ counted_as vs c w os (length rs)
  counted-op c w line os o rs =
      let whole : Op-F Op Region = record { what = w; line = line; operands = os; kind = o; regions = rs } in ap (λ f. counted_as vs c f.what f.operands (length f.regions)) (out-roll-Op whole)

  -- from the op and what is in it to the op in printed order
  first-op : (w : What) (line : ℕ) (os : List ValueId) (rs : List Region) (ps : List Piece) → suc (length os) + total_in size rs ≤ bound ps →
      ((c : Count) (k : Tally) → Under c k → Below (counted_all vs (counted_as vs c w os (length rs)) (order_in rs)) (tallied k ps)) → First (order_of (op_of w line os None rs ∷ [])) ps
  first-op w line os rs ps h g = record {
    size = omega (arith, total-op size w line os None rs, h);
    counts = λ c k u.
        subst (λ l. Below (counted_all vs c l) (tallied k ps)) (sym (order-op w line os None rs))
        (subst (λ (d : Count). Below (counted_all vs d (order_in rs)) (tallied k ps)) (sym (counted-op c w line os None rs)) (g c k u));
  }

  pub inner-op : (w : What) (line : ℕ) (os : List ValueId) (rs : List Region) (ps : List Piece) (extra : ℕ) → suc (length os) + total_in size rs ≤ bound ps + extra →
      ((c : Count) (k : Tally) → Below c k → Below (counted_all vs (counted_as vs c w os (length rs)) (order_in rs)) (tallied k ps)) → Inner (order_of (op_of w line os None rs ∷ [])) ps extra
  inner-op w line os rs ps extra h g = record {
    size = omega (arith, total-op size w line os None rs, h);
    counts = λ c k u.
        subst (λ l. Below (counted_all vs c l) (tallied k ps)) (sym (order-op w line os None rs))
        (subst (λ (d : Count). Below (counted_all vs d (order_in rs)) (tallied k ps)) (sym (counted-op c w line os None rs)) (g c k u));
  }

  -- the regions of an assignment
  pub first-assign : (realloc : Bool) (line : ℕ) (right left : List Op) (ps qs : List Piece) → SideCosts vs right qs → SideCosts vs left ps → AreValuePieces false ps → AreValuePieces false qs →
      First (order_of (op_of (what.Assign realloc) line [] None (region_of right ∷ region_of left ∷ []) ∷ [])) ((ps ++ qs) ++ piece.Assigned ∷ [])
  first-assign realloc line right left ps qs r l ap' aq =
      let rs = region_of right ∷ region_of left ∷ [] in
      let all = order_of right ++ order_of left in
      let whole : order_in rs ≡ all = order-region right (region_of left ∷ []) ∙ ap (λ x. order_of right ++ x) (order-region left [] ∙ append-nil (order_of left)) in
      first-op (what.Assign realloc) line [] rs ((ps ++ qs) ++ piece.Assigned ∷ [])
      (omega (arith, ap (sum_of size) whole, sum-append size (order_of right) (order_of left), r.size, l.size, bound-append (ps ++ qs) (piece.Assigned ∷ []), bound-append ps qs))
      (λ c k u. subst (λ x. Below (counted_all vs (with_assignment (after_assignment c)) x) (tallied k ((ps ++ qs) ++ piece.Assigned ∷ []))) (sym whole)
      (assign-step c k u all (ps ++ qs)
      (omega (arith, sum-append heavy (order_of right) (order_of left), r.light, l.light))
      (omega (arith, sum-append reduces (order_of right) (order_of left), r.reductions, l.reductions, reductions-append ps qs))
      (omega (arith, sum-append (wholes vs) (order_of right) (order_of left), r.wholes, l.wholes, wholes-append ps qs))
      (both_values false ps qs ap' aq)))

  -- a mask, and what it controls
  pub first-masked : (w : What) (line : ℕ) (mask : List Op) (rs : List Region) (ms qs : List Piece) →
      ((c : Count) → counted_as vs c w [] (length (region_of mask ∷ rs)) ≡ with_mask (after_assignment c)) →
      SideCosts vs mask ms → AreValuePieces true ms → Inner (order_in rs) qs 1 → First (order_of (op_of w line [] None (region_of mask ∷ rs) ∷ [])) ((piece.Mask ∷ ms) ++ qs)
  unfolding tallied
  first-masked w line mask rs ms qs masks m are rest =
      let whole : order_in (region_of mask ∷ rs) ≡ order_of mask ++ order_in rs = order-region mask rs in
      first-op w line [] (region_of mask ∷ rs) ((piece.Mask ∷ ms) ++ qs)
      (omega (arith, ap (sum_of size) whole, sum-append size (order_of mask) (order_in rs), m.size, rest.size, bound-append (piece.Mask ∷ ms) qs))
      (λ c k u.
      let d = with_mask (after_assignment c) in
      let l = tallied (tallies.counted k piece.Mask) ms in
      let b = mask-step c k u (order_of mask) ms m.light m.reductions m.wholes are in
      let after : Below (counted_all vs (counted_all vs d (order_of mask)) (order_in rs)) (tallied l qs) = rest.counts (counted_all vs d (order_of mask)) l b in
      subst (λ (x : Count). Below (counted_all vs x (order_in (region_of mask ∷ rs))) (tallied k ((piece.Mask ∷ ms) ++ qs))) (sym (masks c))
      (subst (λ x. Below (counted_all vs d x) (tallied k ((piece.Mask ∷ ms) ++ qs))) (sym whole)
      (subst (λ (x : Count). Below x (tallied k ((piece.Mask ∷ ms) ++ qs))) (sym (counted-append vs d (order_of mask) (order_in rs)))
      (subst (λ (x : Tally). Below (counted_all vs (counted_all vs d (order_of mask)) (order_in rs)) x) (sym (tallied-append k (piece.Mask ∷ ms) qs)) after))))

  -- ---- a whole statement

  pub record Whole (ops : List Op) (ps : List Piece) : Type 0 where
    pub size : sum_of size ops ≤ bound ps + 2
    pub counts : (c : Count) (k : Tally) → Under c k → Below (counted_all vs c ops) (tallied k ps)

  pub first-whole : (ops : List Op) (ps : List Piece) → First ops ps → Whole ops ps
  first-whole ops ps f = record { size = omega (arith, f.size); counts = f.counts }

  -- the header of a FORALL
  header-step : (c : Count) (k : Tally) → Under c k → (ops : List Op) (ps : List Piece) → sum_of heavy ops ≤ 0 → sum_of reduces ops ≤ reductions_in (piece.Part ∷ ps) → sum_of (wholes vs) ops ≤ wholes_in (piece.Part ∷ ps) → AreValuePieces false ps →
      Below (counted_all vs (with_header (after_assignment c)) ops) (tallied k (piece.Part ∷ ps))
  unfolding tallied
  header-step c k u ops ps light few whole are =
      let d = with_header (after_assignment c) in
      let e = counted_all vs d ops in
      let a = adds-light vs d ops light in
      let k' = tallied k (piece.Part ∷ ps) in
      let r = reaches-values false (piece.Part ∷ ps) (tt, are) k _ _ _ _ u in
      record {
        begun = a.begun refl;
        under = under-open e k' (a.assigned ∙ after-open c)
            (reaches-less k' _ _ _ _ e.phases e.temporaries (e.masks + e.held) e.pending r
            (omega (arith, a.phases, few, whole)) (omega (arith, a.temporaries)) (omega (arith, a.masks, a.held)) (omega (arith, a.pending, few, whole)));
        unended = λ h. begun-values false ps are (tallies.counted k piece.Part) refl;
      }

  pub whole-forall : (w : What) (line : ℕ) (header body : List Op) (hs bs : List Piece) →
      ((c : Count) → counted_as vs c w [] 2 ≡ with_header (after_assignment c)) →
      Costs vs header (27 * parts_in (piece.Part ∷ hs) + 1) (reductions_in (piece.Part ∷ hs)) (wholes_in (piece.Part ∷ hs)) → AreValuePieces false hs → Inner (order_of body) bs 0 →
      Whole (order_of (op_of w line [] None (region_of header ∷ region_of body ∷ []) ∷ [])) ((piece.Part ∷ hs) ++ bs)
  whole-forall w line header body hs bs heads h are b =
      let rs = region_of header ∷ region_of body ∷ [] in
      let ps = (piece.Part ∷ hs) ++ bs in
      let all : order_in rs ≡ order_of header ++ order_of body = order-region header (region_of body ∷ []) ∙ ap (λ x. order_of header ++ x) (order-region body [] ∙ append-nil (order_of body)) in
      record {
        size = omega (arith, total-op size w line [] None rs, ap (sum_of size) all, sum-append size (order_of header) (order_of body), h.size, b.size, bound-append (piece.Part ∷ hs) bs);
        counts = λ c k u.
            let d = with_header (after_assignment c) in
            let first = header-step c k u (order_of header) hs h.light h.reductions h.wholes are in
            let after : Below (counted_all vs (counted_all vs d (order_of header)) (order_of body)) (tallied (tallied k (piece.Part ∷ hs)) bs) = b.counts (counted_all vs d (order_of header)) (tallied k (piece.Part ∷ hs)) first in
            subst (λ l. Below (counted_all vs c l) (tallied k ps)) (sym (order-op w line [] None rs))
            (subst (λ (x : Count). Below (counted_all vs x (order_in rs)) (tallied k ps)) (sym (counted-op c w line [] None rs ∙ heads c))
            (subst (λ l. Below (counted_all vs d l) (tallied k ps)) (sym all)
            (subst (λ (x : Count). Below x (tallied k ps)) (sym (counted-append vs d (order_of header) (order_of body)))
            (subst (λ (x : Tally). Below (counted_all vs (counted_all vs d (order_of header)) (order_of body)) x) (sym (tallied-append k (piece.Part ∷ hs) bs)) after))));
      }
