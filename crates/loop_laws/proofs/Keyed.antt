-- The key of a loop is that of its whole maps.
use Rattle.std.proofs.Common.{◌≡◌, ◌⊎◌, inl, inr, ℕ, zero, suc, ◌+◌, ◌<◌, ◌≤◌, Bool, true, false, List, [], ◌∷◌, length, sym, refl, ap, ◌∙◌, subst, arith, Some, None, Result, Ok, Err}
use mathlib.Core.Logic.{dite}
use native.Mathlib.Decide.{dec_le}
use Rattle.std.specs.Prelude.{if◌then◌else◌}
use Rattle.ws_base.specs.declared.fault.FaultName.{FaultName}
use Rattle.ws_base.specs.declared.fault.FaultName.TheVariants as fault
use Rattle.phase_ops.specs.declared.effect.Effect.{Effect}
use Rattle.phase_ops.specs.declared.effect.Effect.TheVariants.{Store, Least, Fault}
use Rattle.phase_ops.specs.declared.phase.Act.{Act}
use Rattle.phase_ops.specs.declared.phase.Source.{Source}
use Rattle.phase_ops.specs.declared.phase.Label.{Label}
use Rattle.phase_ops.specs.declared.phase.Phase.TheVariants.{Loop}
use Rattle.phase_ops.specs.Phases.{Cells, each_from, least_key, none_yet, key_of, key}
use Rattle.phase_ops.specs.Free.{In, IsChunk}
use Rattle.phase_ops.proofs.Members.{in_right, in_either, from_each, to_each}
use Rattle.phase_ops.proofs.Keys.{least_is_one, least_below}
use Rattle.loop_laws.specs.Moves.{Row, Move, Makes, Keeps, Failure, Ended, made, deeper, moved, whole}
use Rattle.loop_laws.specs.Loops.{does, Plan, ended, planned, rows_from, rows_of, Follows, Fitting, Keyed}
use Rattle.loop_laws.specs.Laws.{Ascend, NotAfter, FailsFirst, Bridged}
use Rattle.loop_laws.proofs.Units.{chunked}
use Rattle.loop_laws.proofs.Bridge.{bridged, deeper_fails}
use Rattle.ws_base.specs.Words.{fault_number}

pub least_bound : (es : List Effect) → least_key es ≤ none_yet
least_bound [] = omega arith
least_bound (Store c v ∷ es) = least_bound es
least_bound (Least c v ∷ es) = least_bound es
least_bound (Fault k ∷ es) = let h = least_bound es in omega arith

pub number_small : (n : FaultName) → fault_number n < 15
number_small fault.Bounds = omega arith
number_small fault.Shape = omega arith
number_small fault.Overflow = omega arith
number_small fault.DivideByZero = omega arith
number_small fault.ZeroStride = omega arith
number_small fault.ManyOne = omega arith
number_small fault.Unallocated = omega arith
number_small fault.Allocated = omega arith
number_small fault.TooLarge = omega arith
number_small fault.DataEnd = omega arith
number_small fault.DataBad = omega arith
number_small fault.Steps = omega arith

-- no fault: no key; a fault that none is below: its key
pub no_key : (es : List Effect) → ((k : ℕ) → In (Fault k) es → ⊥) → least_key es ≡ none_yet
no_key es never = dite (dec_le (suc (least_key es)) none_yet)
    (λ l. absurd (never (least_key es) (least_is_one es l)))
    (λ g. let b = least_bound es in omega (arith, b, g))

pub this_key : (es : List Effect) (k : ℕ) → k < none_yet → In (Fault k) es → ((j : ℕ) → In (Fault j) es → k ≤ j) → least_key es ≡ k
this_key es k small h low =
    let a = least_below k es h in
    let b = low (least_key es) (least_is_one es (omega (arith, a, small))) in
    omega (arith, a, b)

fault_in : Effect → ℕ
fault_in (Fault k) = k
fault_in (Store c v) = 0
fault_in (Least c v) = 0

pub one_fault : (j k : ℕ) → In (Fault j) (Fault k ∷ []) → j ≡ k
unfolding fault_in
one_fault j k (inl e) = ap fault_in e
one_fault j k (inr h) = elim h [ ]

pub key_in_range : (a o e : ℕ) (n : FaultName) → a < 1048576 → o < 1048576 → e ≤ 65536 → key_of a o e n < none_yet
key_in_range a o e n ha ho he = let x = number_small n in omega (arith, x, ha, ho, he)

pub key_before : (a o e a' o' e' : ℕ) (n n' : FaultName) → o < 1048576 → o' < 1048576 → e ≤ 65536 → e' ≤ 65536 → (a < a') ⊎ ((a ≡ a') × (o < o')) → key_of a o e n ≤ key_of a' o' e' n'
key_before a o e a' o' e' n n' ho ho' he he' (inl l) = let x = number_small n in omega (arith, x, l, ho, ho', he, he')
key_before a o e a' o' e' n n' ho ho' he he' (inr l) = let x = number_small n in let s = l.0 in let m = l.1 in omega (arith, x, s, m, ho, ho', he, he')

module _ (V : Type 0) where
  fails_within : (moves : List (Move V)) (s : List V) (o : ℕ) (n : FaultName) → moved moves s ≡ Err (o, n) → o < length moves
  fails_within [] s o n e = absurd (let z : zero ≡ suc zero = cc in omega (arith, z))
  fails_within (Makes f ∷ more) s o n e = go (λ t p h. fails_within more t p n h) (f s) refl
    where
      go : ((t : List V) (p : ℕ) → moved more t ≡ Err (p, n) → p < length more) → (y : Result V FaultName) → f s ≡ y → o < length (Makes f ∷ more)
      go rec (Err n') h =
          let g : moved (Makes f ∷ more) s ≡ Err (0, n') = ap (made (λ t. moved more t) s) h in
          let p : (o, n) ≡ (zero, n') = (cc) in
          let z : o ≡ 0 = ap (λ (q : ℕ × FaultName). q.0) p in omega (arith, z)
      go rec (Ok v) h =
          let d = deeper_fails V (moved more (v ∷ s)) o n (sym (ap (made (λ t. moved more t) s) h) ∙ e) in
          let r = rec (v ∷ s) d.0 d.2 in let q = d.1 in omega (arith, r, q)
  fails_within (Keeps t ∷ more) s o n e = go (λ p h. fails_within more s p n h) (t s) refl
    where
      go : ((p : ℕ) → moved more s ≡ Err (p, n) → p < length more) → (b : Bool) → t s ≡ b → o < length (Keeps t ∷ more)
      go rec false h = absurd (let g : moved (Keeps t ∷ more) s ≡ Ok None = ap (λ (b : Bool). let z : Ended V = if b then deeper (moved more s) else Ok None in z) h in let z : zero ≡ suc zero = cc in omega (arith, z))
      go rec true h =
          let d = deeper_fails V (moved more s) o n (sym (ap (λ (b : Bool). let z : Ended V = if b then deeper (moved more s) else Ok None in z) h) ∙ e) in
          let r = rec d.0 d.2 in let q = d.1 in omega (arith, r, q)

  -- ---- rows

  pub in_rows : (start : ℕ → List V) (from n i : ℕ) → from ≤ i → i < from + n → In (i, start i) (rows_from start from n)
  in_rows start from zero i a b = absurd (omega (arith, a, b))
  in_rows start from (suc n) i a b = dite (dec_le i from)
      (λ l. inl (ap (λ (z : ℕ). let r : Row V = (z, start z) in r) (let e : i ≡ from = omega (arith, a, l) in e)))
      (λ g. inr (in_rows start (suc from) n i (omega (arith, g)) (omega (arith, b))))

  pub row_is : (start : ℕ → List V) (from n : ℕ) (r : Row V) → In r (rows_from start from n) → (from ≤ r.0) × (r.0 < from + n) × (r.1 ≡ start r.0)
  row_is start from zero r h = elim h [ ]
  row_is start from (suc n) r (inl e) =
      let z : r.0 ≡ from = ap (λ (q : Row V). q.0) e in
      (omega (arith, z), omega (arith, z), ap (λ (q : Row V). q.1) e ∙ ap start (sym z))
  row_is start from (suc n) r (inr h) = let x = row_is start (suc from) n r h in let a = x.0 in let b = x.1 in (omega (arith, a), omega (arith, b), x.2)

  pub rows_ascend : (start : ℕ → List V) (from n : ℕ) → Ascend (rows_from start from n)
  rows_ascend start from zero = tt
  rows_ascend start from (suc n) = (λ q h. let x = (row_is start (suc from) n q h).0 in omega (arith, x), rows_ascend start (suc from) n)

  module _ (plan : Plan V) (acts : List Act) (m : Cells) (n : ℕ) (small : n ≤ 65536) (w : Follows V plan acts m n) where
    pub the_bridge : Bridged V plan.moves (rows_of plan n) (whole plan.moves (rows_of plan n))
    the_bridge = bridged V plan.moves (rows_of plan n) (rows_ascend plan.start 0 n)

    -- a fault of an iteration is that of a move
    of_move : (i k : ℕ) → i < n → In (Fault k) (does acts m i) → (x : Ended V) → ended plan i ≡ x → (e : ℕ × FaultName) × (ended plan i ≡ Err e) × (k ≡ key_of (plan.act e.0) (plan.op e.0) (suc i) e.1)
    of_move i k l h x q = go x q (subst (λ (es : List Effect). In (Fault k) es) (w.as_planned i l ∙ ap (planned plan i) q) h)
      where
        go : (x : Ended V) → ended plan i ≡ x → In (Fault k) (planned plan i x) → (e : ℕ × FaultName) × (ended plan i ≡ Err e) × (k ≡ key_of (plan.act e.0) (plan.op e.0) (suc i) e.1)
        go (Ok None) q h = absurd (w.first_calm i k h)
        go (Ok (Some s)) q h = absurd (either (in_either (Fault k) (plan.first i) (plan.last i s) h))
          where
            either : In (Fault k) (plan.first i) ⊎ In (Fault k) (plan.last i s) → ⊥
            either (inl g) = w.first_calm i k g
            either (inr g) = w.last_calm i s k g
        go (Err e) q h = (e, q, either (in_either (Fault k) (plan.first i) (Fault (key_of (plan.act e.0) (plan.op e.0) (suc i) e.1) ∷ []) h))
          where
            either : In (Fault k) (plan.first i) ⊎ In (Fault k) (Fault (key_of (plan.act e.0) (plan.op e.0) (suc i) e.1) ∷ []) → k ≡ key_of (plan.act e.0) (plan.op e.0) (suc i) e.1
            either (inl g) = absurd (w.first_calm i k g)
            either (inr g) = one_fault k (key_of (plan.act e.0) (plan.op e.0) (suc i) e.1) g

    there_is : (i : ℕ) (e : ℕ × FaultName) → i < n → ended plan i ≡ Err e → In (Fault (key_of (plan.act e.0) (plan.op e.0) (suc i) e.1)) (does acts m i)
    there_is i e l q = subst (λ (es : List Effect). In (Fault (key_of (plan.act e.0) (plan.op e.0) (suc i) e.1)) es) (sym (w.as_planned i l ∙ ap (planned plan i) q))
        (in_right (Fault (key_of (plan.act e.0) (plan.op e.0) (suc i) e.1)) (plan.first i) (Fault (key_of (plan.act e.0) (plan.op e.0) (suc i) e.1) ∷ []) (inl refl))

    pub failure_within : (f : Failure) → FailsFirst V plan.moves (rows_of plan n) f → key_of (plan.act f.move) (plan.op f.move) (suc f.iteration) f.name < none_yet
    failure_within f b =
        let at = row_is plan.start 0 n b.row b.row_in in
        let same = b.iteration in
        let l : f.iteration < n = (let a = at.1 in omega (arith, a, same)) in
        let spot = w.spots f.move (fails_within plan.moves b.row.1 f.move f.name b.fails) in
        key_in_range (plan.act f.move) (plan.op f.move) (suc f.iteration) f.name spot.0 spot.1 (omega (arith, l, small))

    pub keyed : (r : Result (List (Row V)) Failure) → Bridged V plan.moves (rows_of plan n) r → Keyed plan (least_key (each_from (does acts m) 0 n)) r
    keyed (Ok ts) b = no_key (each_from (does acts m) 0 n) (λ k h.
        let x = from_each (Fault k) (does acts m) 0 n h in
        let l : x.0 < n = (let a = x.2 in omega (arith, a)) in
        let e = of_move x.0 k l x.3 (ended plan x.0) refl in
        b.none_fails (x.0, plan.start x.0) (in_rows plan.start 0 n x.0 (omega arith) (omega (arith, l))) e.0.0 e.0.1 e.1)
    keyed (Err f) b =
        let at = row_is plan.start 0 n b.row b.row_in in
        let i : ℕ = f.iteration in
        let same = b.iteration in
        let l : f.iteration < n = (let a = at.1 in omega (arith, a, same)) in
        let fails : ended plan f.iteration ≡ Err (f.move, f.name) = ap (λ (z : ℕ). moved plan.moves (plan.start z)) (sym same) ∙ ap (moved plan.moves) (sym at.2) ∙ b.fails in
        let inside = fails_within plan.moves (plan.start f.iteration) f.move f.name fails in
        let spot = w.spots f.move inside in
        let here = there_is f.iteration (f.move, f.name) l fails in
        this_key (each_from (does acts m) 0 n) (key_of (plan.act f.move) (plan.op f.move) (suc f.iteration) f.name)
        (key_in_range (plan.act f.move) (plan.op f.move) (suc f.iteration) f.name spot.0 spot.1 (omega (arith, l, small)))
        (to_each (Fault (key_of (plan.act f.move) (plan.op f.move) (suc f.iteration) f.name)) (does acts m) 0 n f.iteration (omega arith) (omega (arith, l)) here)
        (λ j h.
        let x = from_each (Fault j) (does acts m) 0 n h in
        let k : x.0 < n = (let a = x.2 in omega (arith, a)) in
        let e = of_move x.0 j k x.3 (ended plan x.0) refl in
        let low = b.first (x.0, plan.start x.0) (in_rows plan.start 0 n x.0 (omega arith) (omega (arith, k))) e.0.0 e.0.1 e.1 in
        subst (λ (z : ℕ). key_of (plan.act f.move) (plan.op f.move) (suc f.iteration) f.name ≤ z) (sym e.2) (compare x.0 e.0 k l fails e.1 low))
      where
        compare : (j : ℕ) (e : ℕ × FaultName) → j < n → f.iteration < n → ended plan f.iteration ≡ Err (f.move, f.name) → ended plan j ≡ Err e → NotAfter f.move f.iteration e.0 j → key_of (plan.act f.move) (plan.op f.move) (suc f.iteration) f.name ≤ key_of (plan.act e.0) (plan.op e.0) (suc j) e.1
        compare j e k l fails q (inl o) =
            let inside = fails_within plan.moves (plan.start j) e.0 e.1 q in
            let within = fails_within plan.moves (plan.start f.iteration) f.move f.name fails in
            key_before (plan.act f.move) (plan.op f.move) (suc f.iteration) (plan.act e.0) (plan.op e.0) (suc j) f.name e.1 (w.spots f.move within).1 (w.spots e.0 inside).1 (omega (arith, l, small)) (omega (arith, k, small)) (w.order f.move e.0 o inside)
        compare j e k l fails q (inr o) = dite (dec_le (suc f.iteration) j)
            (λ less. subst (λ (z : ℕ). key_of (plan.act f.move) (plan.op f.move) (suc f.iteration) f.name ≤ key_of (plan.act z) (plan.op z) (suc j) e.1) o.0 (let x = number_small f.name in omega (arith, x, less)))
            (λ not_less.
            let same : j ≡ f.iteration = (let z = o.1 in omega (arith, z, not_less)) in
            let p : Err (f.move, f.name) ≡ Err e = sym fails ∙ ap (λ (z : ℕ). moved plan.moves (plan.start z)) (sym same) ∙ q in
            let name : f.name ≡ e.1 = ap (λ (z : ℕ × FaultName). z.1) (let g : (f.move, f.name) ≡ e = (cc) in g) in
            let is : key_of (plan.act f.move) (plan.op f.move) (suc f.iteration) f.name ≡ key_of (plan.act e.0) (plan.op e.0) (suc j) e.1 = (λ i. key_of (plan.act (o.0 i)) (plan.op (o.0 i)) (suc (sym same i)) (name i)) in
            omega (arith, is))

pub keyed_loop : (V : Type 0) (l : ℕ) (b : Label) (count : Source) (acts : List Act) (m : Cells) (n chunk : ℕ) (plan : Plan V) → IsChunk chunk → Fitting count acts m n → Follows V plan acts m n
    → Keyed plan (key (Loop l b count acts) m chunk) (whole plan.moves (rows_of plan n))
keyed_loop V l b count acts m n chunk plan is fit w =
    subst (λ (es : List Effect). Keyed plan (least_key es) (whole plan.moves (rows_of plan n))) (sym (chunked l b count acts m n fit chunk is))
    (keyed V plan acts m n fit.small w (whole plan.moves (rows_of plan n)) (the_bridge V plan acts m n fit.small w))

-- a store is no fault
pub not_fault : (k c v : ℕ) → In (Fault k) (Store c v ∷ []) → ⊥
not_fault k c v (inl e) = absurd (let z : zero ≡ suc zero = cc in omega (arith, z))
not_fault k c v (inr h) = elim h [ ]

-- a loop of which no iteration fails
pub keyless : (l : ℕ) (b : Label) (count : Source) (acts : List Act) (m : Cells) (n chunk : ℕ) → IsChunk chunk → Fitting count acts m n → ((i k : ℕ) → i < n → In (Fault k) (does acts m i) → ⊥) → key (Loop l b count acts) m chunk ≡ none_yet
keyless l b count acts m n chunk is fit never = ap least_key (chunked l b count acts m n fit chunk is)
    ∙ no_key (each_from (does acts m) 0 n) (λ k h. let x = from_each (Fault k) (does acts m) 0 n h in let y = x.2 in never x.0 k (omega (arith, y)) x.3)
