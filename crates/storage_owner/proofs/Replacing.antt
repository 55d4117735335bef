-- Values laid at all targets of a variable together are its values with these replaced.
use Rattle.std.proofs.Common.{◌≡◌, ◌≢◌, ◌⊎◌, inl, inr, refl, sym, ap, ◌∙◌, subst, ℕ, zero, suc, ◌+◌, ◌-◌, ◌<◌, ◌≤◌, Bool, true, false, List, [], ◌∷◌, length, get_or, slice_index, Option, Some, None, Result, Ok, Err, ℤ, pos, negsuc, FitsSigned, arith}
use Rattle.std.specs.Prelude.{◌==◌, ◌||◌, nat_lt}
use Rattle.std.proofs.lemmas.Bool.{eqb-true}
use Rattle.std.specs.Int.{w64, cast_signed}
use Rattle.std.specs.List.{AllPass, Contains, slice_get}
use Rattle.std.proofs.lemmas.Int.{ints, fits_signed_from_abs, to_z-of_z}
use Rattle.std.proofs.lemmas.Option.{slice_get-get_or, slice_get_within, get_or_from_slice_get, same_Some}
use Rattle.std.proofs.lemmas.Bool.Decides.{nat_tests}
use Rattle.std.proofs.Math.Facts.{Fits-of_z}
use mathlib.Core.Logic.{dite}
use native.Mathlib.Decide.{ℕ_discrete, dec_le}
use Rattle.ws_base.specs.declared.fault.Fault.{Fault}
use Rattle.ws_base.specs.Numbers.{in_range, default_half}
use Rattle.ws_space.specs.declared.shape.Dim.{Dim}
use Rattle.ws_space.specs.declared.shape.Shape.{Shape}
use Rattle.ws_space.specs.declared.state.ArrayValue.{ArrayValue}
use Rattle.ws_space.specs.declared.state.VarState.{VarState}
use Rattle.ws_space.specs.declared.state.VarState.TheVariants as state
use Rattle.ws_space.specs.declared.state.Var.{Var}
use Rattle.ws_space.specs.Shapes.{dims, shape_of}
use Rattle.ws_space.specs.Values.{value_at, stored_from, stored, first_repeat, with_state, held, kept}
use Rattle.ws_space.specs.WellFormed.{is_value, elements, IsArray}
use Rattle.ws_space.specs.Laws.{AreApart}
use Rattle.ws_space.specs.Replace.{filled, unless_repeated, replaced}
use Rattle.ws_space.proofs.Replaced.{KeepsOthers-all, ReplacesTargets-all, apart_from_none}
use Rattle.phase_ops.specs.declared.phase.Range.{Range}
use Rattle.phase_ops.specs.declared.phase.Layout.{Layout}
use Rattle.phase_ops.specs.Phases.{Cells, cell_value, word}
use Rattle.phase_ops.specs.Free.{In}
use Rattle.hlfir_ops.specs.declared.kinds.Elem.{Elem}
use Rattle.hlfir_ops.specs.declared.kinds.ValueKind.{ValueKind}
use Rattle.hlfir_ops.specs.declared.kinds.ValueKind.TheVariants as kind
use Rattle.hlfir_ops.specs.RulesValues.{elem_of}
use Rattle.storage_owner.specs.Ranges.{range_at, HasCell}
use Rattle.storage_owner.specs.Layouts.{var_cells, box_cells}
use Rattle.storage_owner.specs.Standing.{Owner, of_var, of_box, number_of, owned, HasRoom, HoldsValues, HoldsDims, StateStands, state_at, is_truth, IsOfKind, HoldWords, IsNamed, Stands}
use Rattle.storage_owner.specs.Laws.{KeepsAllBut, AreLaid}
use Rattle.storage_owner.proofs.Copying.{at_first, same_value, few_dims, array_room, allocated_room, descriptor_copied, box_cell}
use Rattle.storage_owner.proofs.Naming.{named_state}
use Rattle.storage_owner.proofs.Updating.{updated}

-- ---- values are words

truth_low : (n : ℕ) (b : Bool) → (n == 0) ≡ b → (b || (n == 1)) ≡ true → n ≤ 1
truth_low n true e h = let q = eqb-true n 0 e in omega (arith, q)
truth_low n false e h = let q = eqb-true n 1 h in omega (arith, q)

pub value_fits : (b : Bool) (z : ℤ) → is_value b z ≡ true → FitsSigned w64 z
value_fits true (pos n) h = let l = truth_low n (n == 0) refl h in fits_signed_from_abs w64 (pos n) (omega (arith, ints, l))
value_fits true (negsuc n) h = absurd (let f : ⊥ = cc in f)
value_fits false (pos n) h = let l : n < 2147483648 = grind (arith, nat_tests) in fits_signed_from_abs w64 (pos n) (omega (arith, ints, l))
value_fits false (negsuc n) h = let l : n < 2147483648 = grind (arith, nat_tests) in fits_signed_from_abs w64 (negsuc n) (omega (arith, ints, l))

-- ---- which of them is the target

found : (ts : List ℕ) (p : ℕ) → ((k : ℕ) × (slice_get ts k ≡ Some p)) ⊎ ((k : ℕ) → slice_get ts k ≡ Some p → ⊥)
found [] p = inr (λ k e. let f : ⊥ = cc in f)
found (t ∷ ts) p = dite (ℕ_discrete t p) (λ e. inl (0, ap Some e)) (λ other. more other (found ts p))
  where
    never : (t ≡ p → ⊥) → ((k : ℕ) → slice_get ts k ≡ Some p → ⊥) → (k : ℕ) → slice_get (t ∷ ts) k ≡ Some p → ⊥
    never other none zero e = other (same_Some t p e)
    never other none (suc k) e = none k e

    more : (t ≡ p → ⊥) → ((k : ℕ) × (slice_get ts k ≡ Some p)) ⊎ ((k : ℕ) → slice_get ts k ≡ Some p → ⊥) → ((k : ℕ) × (slice_get (t ∷ ts) k ≡ Some p)) ⊎ ((k : ℕ) → slice_get (t ∷ ts) k ≡ Some p → ⊥)
    more other (inl h) = inl (suc h.0, h.1)
    more other (inr none) = inr (never other none)

number_in : (ts : List ℕ) (t : ℕ) (c : Contains ts t) → slice_get ts c.0 ≡ Some t
number_in ts t c = slice_get-get_or ts c.0 t c.1 ∙ ap Some c.2

as_long : (k : ℕ) (ts : List ℕ) (xs olds : List ℤ) → length (stored_from k ts xs olds) ≡ length olds
as_long k ts xs [] = refl
as_long k ts xs (old ∷ olds) = ap suc (as_long (suc k) ts xs olds)

-- ---- one variable's values

-- what stands at one place afterwards
record Stored (b : Bool) (m' : Cells) (first : ℕ) (news : List ℤ) (p : ℕ) : Type 0 where
  value : ℤ
  is_there : slice_get news p ≡ Some value
  in_cell : cell_value m' (first + p) ≡ value
  is_of_type : is_value b value ≡ true

module _ (b : Bool) (m m' : Cells) (first : ℕ) (olds : List ℤ) (targets : List ℕ) (values : List ℤ) (laid : AreLaid first targets values m m') (apart : AreApart targets) (as_many : length values ≡ length targets)
    (pass : AllPass (is_value b) values) (old_pass : AllPass (is_value b) olds) (stand : HoldsValues m first olds) where
  abbrev news : List ℤ
  news = stored olds targets values

  at_target : (p k : ℕ) → p < length olds → slice_get targets k ≡ Some p → Stored b m' first news p
  at_target p k low e =
      let within = slice_get_within targets k p e in
      let z = get_or values k (pos 0) in
      let g = slice_get-get_or values k (pos 0) (omega (arith, within, as_many)) in
      let ok = pass k (pos 0) (omega (arith, within, as_many)) in
      record { value = z; is_there = ReplacesTargets-all olds targets values k p z apart e g low; in_cell = ap (cast_signed w64) (laid.given k p z e g) ∙ to_z-of_z w64 z (value_fits b z ok); is_of_type = ok }

  at_other : (p : ℕ) → p < length olds → ((k : ℕ) → slice_get targets k ≡ Some p → ⊥) → Stored b m' first news p
  at_other p low never = record {
    value = get_or olds p (pos 0);
    is_there = KeepsOthers-all olds targets values p (λ c. never c.0 (number_in targets p c)) ∙ slice_get-get_or olds p (pos 0) low;
    in_cell = same_value m m' (first + p) (first + p) (laid.others (first + p) (λ t c e. let q : t ≡ p = omega (arith, e) in never c.0 (number_in targets t c ∙ ap Some q))) ∙ stand p low;
    is_of_type = old_pass p (pos 0) low;
  }

  at_place : (p : ℕ) → p < length olds → Stored b m' first news p
  at_place p low = elim (found targets p) [ inl h ↦ at_target p h.0 low h.1 | inr never ↦ at_other p low never ]

  at_new : (p : ℕ) → p < length news → Stored b m' first news p
  at_new p low = let e = as_long 0 targets values olds in at_place p (omega (arith, e, low))

  stored_values : HoldsValues m' first news
  stored_values p low = let s = at_new p low in s.in_cell ∙ sym (get_or_from_slice_get news p s.value (pos 0) s.is_there)

  stored_pass : AllPass (is_value b) news
  stored_pass p d low = let s = at_new p low in subst (λ z. is_value b z ≡ true) (sym (get_or_from_slice_get news p s.value d s.is_there)) s.is_of_type

  stored_words : HoldWords m → HoldWords m'
  stored_words words c = dite (dec_le first c)
      (λ from. elim (found targets (c - first)) [
        | inl h ↦ subst (λ d. slice_index m' d < 18446744073709551616) (let e : first + (c - first) ≡ c = omega (arith, from) in e) (given h.0 (c - first) h.1)
        | inr never ↦ other (λ t k e. let q : t ≡ c - first = omega (arith, e) in never k.0 (number_in targets t k ∙ ap Some q))
      ])
      (λ before. other (λ t k e. omega (arith, before, e)))
    where
      given : (k t : ℕ) → slice_get targets k ≡ Some t → slice_index m' (first + t) < 18446744073709551616
      given k t e =
          let within = slice_get_within targets k t e in
          let z = get_or values k (pos 0) in
          let ok = pass k (pos 0) (omega (arith, within, as_many)) in
          subst (λ w. w < 18446744073709551616) (sym (laid.given k t z e (slice_get-get_or values k (pos 0) (omega (arith, within, as_many))))) (Fits-of_z (value_fits b z ok)).fits

      other : ((t : ℕ) → Contains targets t → c ≢ first + t) → slice_index m' c < 18446744073709551616
      other never = subst (λ w. w < 18446744073709551616) (sym (laid.others c never)) (words c)

-- ---- one variable's state

kept_array : (b : Bool) (a : ArrayValue) (xs : List ℤ) → IsArray b a → kept (dims a.shape) xs ≡ state.Array (record { shape = a.shape; values = xs })
kept_array b a xs is = by (dims a.shape) refl
  where
    by : (ds : List Dim) → dims a.shape ≡ ds → kept (dims a.shape) xs ≡ state.Array (record { shape = a.shape; values = xs })
    by [] e = let none : a.shape.rank ≡ 0 = ap (λ (s : Shape). s.rank) (sym is.unused ∙ ap shape_of e) in let some = is.rank in absurd (omega (arith, none, some))
    by (d ∷ ds) e = ap (λ es. kept es xs) e ∙ ap (λ (s : Shape). state.Array (record { shape = s; values = xs })) (sym (ap shape_of e) ∙ is.unused)

-- with other values, as many and of the same type
with_values : (b : Bool) (a : ArrayValue) (xs : List ℤ) → IsArray b a → length xs ≡ length a.values → AllPass (is_value b) xs → IsArray b (record { shape = a.shape; values = xs })
with_values b a xs is e pass = record { shape = is.shape; rank = is.rank; unused = is.unused; extents = is.extents; as_many = e ∙ is.as_many; values = pass }

-- how many values it holds, of which type, and where they stand
record Holding (m : Cells) (first : ℕ) (k : ValueKind) (xs : List ℤ) : Type 0 where
  room : length xs ≤ var_cells k
  typed : AllPass (is_value (is_truth (elem_of k))) xs
  stand : HoldsValues m first xs

one_value : (b : Bool) (z : ℤ) → is_value b z ≡ true → AllPass (is_value b) (z ∷ [])
one_value b z h zero d low = h
one_value b z h (suc p) d low = absurd (omega (arith, low))

one_stands : (m : Cells) (first : ℕ) (z : ℤ) → cell_value m first ≡ z → HoldsValues m first (z ∷ [])
one_stands m first z h zero low = at_first m first ∙ h
one_stands m first z h (suc p) low = absurd (omega (arith, low))

-- a scalar as an array of rank 0
abbrev as_array : ℤ → ArrayValue
as_array z = record { shape = shape_of []; values = z ∷ [] }

holding : (m : Cells) (r b : Range) (k : ValueKind) (s : VarState) (a : ArrayValue) → IsOfKind k s → StateStands m r b k s → held s ≡ Some a → Holding m r.first k a.values
holding m r b (kind.Place e) (state.Scalar z) a fit h q = subst (λ (c : ArrayValue). Holding m r.first (kind.Place e) c.values) (same_Some (as_array z) a q) (record {
  room = omega arith;
  typed = one_value (is_truth e) z fit;
  stand = one_stands m r.first z h;
})
holding m r b (kind.Declared e shape) (state.Array c) a fit h q = subst (λ (d : ArrayValue). Holding m r.first (kind.Declared e shape) d.values) (same_Some c a q) (record {
  room = let n = array_room e shape c fit in omega (arith, n);
  typed = fit.1.values;
  stand = h;
})
holding m r b (kind.Allocatable e rank) (state.Array c) a fit h q = subst (λ (d : ArrayValue). Holding m r.first (kind.Allocatable e rank) d.values) (same_Some c a q) (record {
  room = allocated_room e rank c fit;
  typed = fit.1.values;
  stand = h.0;
})
holding m r b (kind.Allocatable e rank) (state.Unallocated n) a fit h q = absurd (let f : ⊥ = cc in f)
holding m r b k s a fit h q = absurd h

-- the variable with other values in its cells
refilled : (m m' : Cells) (r b : Range) (k : ValueKind) (s : VarState) (a : ArrayValue) (xs : List ℤ) → IsOfKind k s → StateStands m r b k s → held s ≡ Some a → length xs ≡ length a.values → AllPass (is_value (is_truth (elem_of k))) xs
    → HoldsValues m' r.first xs → ((p : ℕ) → p < box_cells k → cell_value m' (b.first + p) ≡ cell_value m (b.first + p)) → IsOfKind k (kept (dims a.shape) xs) × StateStands m' r b k (kept (dims a.shape) xs)
refilled m m' r b (kind.Place e) (state.Scalar z) a xs fit h q long pass stand boxed =
    let one = same_Some (as_array z) a q in
    let n : length xs ≡ 1 = long ∙ ap (λ (c : ArrayValue). length c.values) (sym one) in
    subst (λ (c : ArrayValue). IsOfKind (kind.Place e) (kept (dims c.shape) xs) × StateStands m' r b (kind.Place e) (kept (dims c.shape) xs)) one
    (pass 0 (pos 0) (omega (arith, n)), sym (at_first m' r.first) ∙ stand 0 (omega (arith, n)))
refilled m m' r b (kind.Declared e shape) (state.Array c) a xs fit h q long pass stand boxed =
    let one = same_Some c a q in
    let is = subst (IsArray (is_truth e)) one fit.1 in
    let shaped = sym (ap (λ (d : ArrayValue). d.shape) one) ∙ fit.0 in
    subst (λ t. IsOfKind (kind.Declared e shape) t × StateStands m' r b (kind.Declared e shape) t) (sym (kept_array (is_truth e) a xs is)) ((shaped, with_values (is_truth e) a xs is long pass), stand)
refilled m m' r b (kind.Allocatable e rank) (state.Array c) a xs fit h q long pass stand boxed =
    let one = same_Some c a q in
    let is = subst (IsArray (is_truth e)) one fit.1 in
    let ranked = ap (λ (d : ArrayValue). d.shape.rank) (sym one) ∙ fit.0 in
    let few = few_dims a.shape in
    let held_dims = subst (λ (d : ArrayValue). (cell_value m b.first ≡ pos 1) × HoldsDims m (b.first + 1) (dims d.shape)) one (h.1, h.2) in
    let d = descriptor_copied m m' r b r b rank (dims a.shape) boxed (omega (arith, few, ranked)) held_dims in
    subst (λ t. IsOfKind (kind.Allocatable e rank) t × StateStands m' r b (kind.Allocatable e rank) t) (sym (kept_array (is_truth e) a xs is)) ((ranked, with_values (is_truth e) a xs is long pass), (stand, d.0, d.1))
refilled m m' r b (kind.Allocatable e rank) (state.Unallocated n) a xs fit h q long pass stand boxed = absurd (let f : ⊥ = cc in f)
refilled m m' r b k s a xs fit h q long pass stand boxed = absurd h

-- ---- the step

module _ (l : Layout) (kinds : ℕ → ValueKind) (vs : List ℕ) (cells : ℕ) (vars : List Var) (m m' : Cells) (goal : ℕ) (v : Var) (a : ArrayValue) (targets : List ℕ) (values : List ℤ)
    (room : HasRoom l kinds vs cells) (st : Stands l kinds vs cells vars m) (i : In goal vs) (named : IsNamed vars goal v) (is_held : held v.state ≡ Some a) (low : (t : ℕ) → Contains targets t → t < length a.values)
    (as_many : length values ≡ length targets) (pass : AllPass (is_value (is_truth (elem_of (kinds goal)))) values) (laid : AreLaid (range_at l.vars goal).first targets values m m') where
  abbrev first : ℕ
  first = (range_at l.vars goal).first

  old_held : held (state_at vars goal) ≡ Some a
  old_held = ap held (named_state vars goal v named) ∙ is_held

  old : Holding m first (kinds goal) a.values
  old = holding m (range_at l.vars goal) (range_at l.boxes goal) (kinds goal) (state_at vars goal) a (st.of_kinds goal i) (st.stands goal i) old_held

  goal_cell : (t : ℕ) → Contains targets t → HasCell (range_at l.vars goal) (first + t)
  goal_cell t k = let o = old.room in let r = room.vars goal i in let w = low t k in (omega arith, omega (arith, o, r, w))

  -- a cell of another owner is no target
  apart_from : (o : Owner) (c : ℕ) → In (number_of o) vs → (o ≡ of_var goal → ⊥) → HasCell (owned l o) c → (t : ℕ) → Contains targets t → c ≢ first + t
  apart_from o c j other h t k e = other (room.apart o (of_var goal) c j i h (subst (HasCell (range_at l.vars goal)) (sym e) (goal_cell t k)))

  keeps : KeepsAllBut l m m' vs goal
  keeps o c j other h = laid.others c (apart_from o c j (λ e. other (ap number_of e)) h)

  boxed : (p : ℕ) → p < box_cells (kinds goal) → cell_value m' ((range_at l.boxes goal).first + p) ≡ cell_value m ((range_at l.boxes goal).first + p)
  boxed p w = same_value m m' ((range_at l.boxes goal).first + p) ((range_at l.boxes goal).first + p)
      (laid.others ((range_at l.boxes goal).first + p) (apart_from (of_box goal) ((range_at l.boxes goal).first + p) i (λ e. let f : ⊥ = cc in f) (box_cell l kinds vs cells room goal i p w)))

  filled_stands : AreApart targets → length m' ≡ cells → Stands l kinds vs cells (with_state vars v.name (filled a targets values)) m'
  filled_stands apart long =
      let b = is_truth (elem_of (kinds goal)) in
      let new = refilled m m' (range_at l.vars goal) (range_at l.boxes goal) (kinds goal) (state_at vars goal) a (stored a.values targets values) (st.of_kinds goal i) (st.stands goal i) old_held (as_long 0 targets values a.values)
      (stored_pass b m m' first a.values targets values laid apart as_many pass old.typed old.stand) (stored_values b m m' first a.values targets values laid apart as_many pass old.typed old.stand) boxed in
      updated l kinds vs cells vars m m' room st goal keeps v (filled a targets values) named long (stored_words b m m' first a.values targets values laid apart as_many pass old.typed old.stand st.words) new.0 new.1

  pub replaced_stands : (line : ℕ) (places : List ℕ) (s : VarState) → replaced line places a targets values ≡ Ok s → Stands l kinds vs cells (with_state vars v.name s) m'
  replaced_stands line places s e = by (first_repeat targets) refl e
    where
      same_ok : (x y : VarState) → ◌≡◌ {A = Result VarState Fault} (Ok x) (Ok y) → x ≡ y
      same_ok x y q = cc

      by : (o : Option ℕ) → first_repeat targets ≡ o → unless_repeated line places o (filled a targets values) ≡ Ok s → Stands l kinds vs cells (with_state vars v.name s) m'
      by None none q = subst (λ x. Stands l kinds vs cells (with_state vars v.name x) m') (same_ok (filled a targets values) s q) (filled_stands (apart_from_none [] 0 targets none).0 (laid.same_length ∙ st.long))
      by (Some k) some q = let f : ⊥ = cc in absurd f
