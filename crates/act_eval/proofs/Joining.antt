-- What a Part leaves in its cells: where no iteration fails, the partial of each unit, so that the Join behind it may merge them.
use Rattle.std.proofs.Common.{◌≡◌, ◌⊎◌, inl, inr, ℕ, zero, suc, ◌+◌, ◌-◌, ◌*◌, ◌<◌, ◌≤◌, Bool, true, false, List, [], ◌∷◌, ◌++◌, map, length, length-set, set, slice_index, get_or-set_same, sym, refl, ap, ◌∙◌, subst, arith, ℤ, pos, negsuc, ◌≤ℤ◌}
use Rattle.std.specs.Prelude.{if◌then◌else◌, nat_lt}
use Rattle.std.specs.Int.{w64, cast_signed}
use Rattle.std.proofs.lemmas.Int.{ints, to_z-of_z}
use Rattle.std.proofs.lemmas.Bool.Decides.{nat_tests}
use Rattle.std.proofs.Math.Nat.{div-mul-le_self, mul-le-mul_right}
use mathlib.Core.Logic.{dite}
use native.Mathlib.Decide.{ℕ_discrete}
use Rattle.ws_base.specs.Numbers.{default_half}
use Rattle.ws_base.specs.declared.op.CallWord.{CallWord}
use Rattle.phase_ops.specs.Partials.{merged}
use Rattle.phase_ops.specs.declared.effect.Effect.{Effect}
use Rattle.phase_ops.specs.declared.effect.Effect.TheVariants.{Store, Fault}
use Rattle.phase_ops.specs.declared.phase.Source.{Source}
use Rattle.phase_ops.specs.declared.phase.Act.{Act}
use Rattle.phase_ops.specs.declared.phase.Phase.{Phase}
use Rattle.phase_ops.specs.declared.phase.Phase.TheVariants.{Part, Join}
use Rattle.phase_ops.specs.Phases.{Cells, cell_value, word, source, natural, lay, pieces, unit_size, partial_cells, Event, each_from, makes, gives, least_key, none_yet, strand_events, strand_effects, phase_effects, after_phase, key, effects, parameter}
use Rattle.phase_ops.specs.Free.{In, stored, lessened, WellFormed, Apart, IsChunk}
use Rattle.phase_ops.proofs.Members.{in_left, to_each}
use Rattle.phase_ops.proofs.Frame.{source_same}
use Rattle.phase_ops.proofs.Strands.{lay_length, lay_quiet, from_stored, from_lessened}
use Rattle.phase_ops.proofs.Keys.{least_below}
use Rattle.act_eval.specs.Strands.{PartialsFit}
use Rattle.act_eval.specs.Sites.{part_given}
use Rattle.act_eval.proofs.Fitting.{Near, reach, wider, values_near, values_give, partials_near, reach_fits}

-- ---- stores to cells in a row

abbrev stores : ℕ → (ℕ → ℕ) → ℕ → List Effect
stores f w s = Store (f + s) (w s) ∷ []

later_quiet : (f : ℕ) (w : ℕ → ℕ) (from n : ℕ) → In (f + from) (stored (each_from (stores f w) (suc from) n)) ⊎ In (f + from) (lessened (each_from (stores f w) (suc from) n)) → ⊥
later_quiet f w from n (inl h) = let x = from_stored (f + from) (stores f w) (suc from) n h in other (x.0) x.1 x.3
  where
    other : (s : ℕ) → suc from ≤ s → In (f + from) ((f + s) ∷ []) → ⊥
    other s l (inl e) = omega (arith, l, e)
    other s l (inr i) = elim i [ ]
later_quiet f w from n (inr h) = let x = from_lessened (f + from) (stores f w) (suc from) n h in elim x.3 [ ]

row_stored : (f : ℕ) (w : ℕ → ℕ) (from n s : ℕ) (m : Cells) → from ≤ s → s < from + n → f + s < length m → slice_index (lay m (each_from (stores f w) from n)) (f + s) ≡ w s
row_stored f w from zero s m a b there = absurd (omega (arith, a, b))
row_stored f w from (suc n) s m a b there = dite (ℕ_discrete s from)
    (λ e. subst (λ (x : ℕ). slice_index (lay m (each_from (stores f w) from (suc n))) (f + x) ≡ w x) (sym e)
    (lay_quiet (set m (f + from) (w from)) (each_from (stores f w) (suc from) n) (f + from) (later_quiet f w from n) ∙ get_or-set_same m (f + from) (w from) 0 (omega (arith, there, e))))
    (λ o. row_stored f w (suc from) n s (set m (f + from) (w from)) (omega (arith, a, o)) (omega (arith, b)) (let z = length-set m (f + from) (w from) in omega (arith, there, z)))

append_nil : {A : Type 0} (xs : List A) → xs ++ [] ≡ xs
append_nil [] = refl
append_nil (x ∷ xs) = ap (λ (l : List _). x ∷ l) (append_nil xs)

-- ---- the partials

pub natural_few : (z : ℤ) → z ≤ℤ pos 65536 → natural z ≤ 65536
natural_few (pos n) h = omega (arith, ints, h)
natural_few (negsuc n) h = omega arith

module _ (l : ℕ) (count : Source) (act : Act) (k : CallWord) (t f : ℕ) (m : Cells) (chunk : ℕ) where
  abbrev part : Phase
  part = Part l count act k t f

  abbrev many : ℕ
  many = pieces (natural (source m count)) chunk

  abbrev events : ℕ → List Event
  events u = strand_events part m chunk u

  abbrev partial : ℕ → ℤ
  partial u = part_given k (events u)

  module _ (is : IsChunk chunk) (well : WellFormed part m chunk) (apart : Apart part m chunk) (keyless : key part m chunk ≡ none_yet) where
    abbrev after : Cells
    after = after_phase part m chunk

    -- no unit has a fault
    faultless : (u q : ℕ) → u < many → In (Fault q) (strand_effects part m chunk u) → none_yet ≤ q
    faultless u q b h =
        let low = least_below q (phase_effects part m chunk) (to_each (Fault q) (effects part m chunk) 0 many u (omega arith) (omega (arith, b)) (in_left (Fault q) (strand_effects part m chunk u) [] h)) in
        omega (arith, low, keyless)

    stores_partial : (u : ℕ) → u < many → strand_effects part m chunk u ≡ stores f (λ s. word (partial s)) u
    stores_partial u b = by (nat_lt (least_key (makes (events u))) none_yet) refl
      where
        by : (y : Bool) → nat_lt (least_key (makes (events u))) none_yet ≡ y → strand_effects part m chunk u ≡ stores f (λ s. word (partial s)) u
        by true e =
            let low : least_key (makes (events u)) < none_yet = grind (arith, nat_tests) in
            let not_low = faultless u (least_key (makes (events u))) b (subst (λ (z : Bool). In (Fault (least_key (makes (events u)))) (if z then Fault (least_key (makes (events u))) ∷ [] else Store (f + u) (word (partial u)) ∷ [])) (sym e) (inl refl)) in
            absurd (omega (arith, low, not_low))
        by false e = ap (λ (z : Bool). if z then Fault (least_key (makes (events u))) ∷ [] else Store (f + u) (word (partial u)) ∷ []) e

    all_stores : (from n : ℕ) → from + n ≤ many → each_from (effects part m chunk) from n ≡ each_from (stores f (λ s. word (partial s))) from n
    all_stores from zero b = refl
    all_stores from (suc n) b = λ i. (stores_partial from (omega (arith, b)) i ++ []) ++ all_stores (suc from) n (omega (arith, b)) i

    -- the count is as it was
    count_same : source after count ≡ source m count
    count_same = sym (source_same m after count (sym (lay_length m (phase_effects part m chunk)), λ c r. sym (lay_quiet m (phase_effects part m chunk) c (quiet c r))))
      where
        at_strand : (c u : ℕ) → In c (parameter part) → u < many → In c (stored (strand_effects part m chunk u ++ [])) ⊎ In c (lessened (strand_effects part m chunk u ++ [])) → ⊥
        at_strand c u r b h = apart.parameter_apart u c b (subst (λ (es : List Effect). In c (stored es) ⊎ In c (lessened es)) (append_nil (strand_effects part m chunk u)) h) r

        quiet : (c : ℕ) → In c (parameter part) → In c (stored (phase_effects part m chunk)) ⊎ In c (lessened (phase_effects part m chunk)) → ⊥
        quiet c r (inl h) = let x = from_stored c (effects part m chunk) 0 many h in at_strand c x.0 r (let y = x.2 in omega (arith, y)) (inl x.3)
        quiet c r (inr h) = let x = from_lessened c (effects part m chunk) 0 many h in at_strand c x.0 r (let y = x.2 in omega (arith, y)) (inr x.3)

    few : natural (source m count) ≤ 65536
    few = natural_few (source m count) well.count.1

    partial_near : (u : ℕ) → u < many → Near (reach k chunk) (partial u)
    partial_near u b =
        let n = values_give act m (u * chunk) (unit_size (natural (source m count)) chunk u) in
        wider k (length (gives (events u))) chunk (partial u) (omega (arith, n)) (values_near k (gives (events u)) (λ z i. well.reduction.2 u z b i))

    there : (u : ℕ) → u < many → f + u < length m
    there u b = well.laid u (f + u) b (inl (subst (λ (es : List Effect). In (f + u) (stored es)) (sym (stores_partial u b)) (inl refl)))

    cell_is : (u : ℕ) → u < many → cell_value after (f + u) ≡ partial u
    cell_is u b =
        ap (λ (es : List Effect). cell_value (lay m es) (f + u)) (all_stores 0 many (omega arith))
        ∙ ap (λ (n : ℕ). cast_signed w64 n) (row_stored f (λ s. word (partial s)) 0 many u m (omega arith) (omega (arith, b)) (there u b))
        ∙ to_z-of_z w64 (partial u) (reach_fits k chunk (partial u) (let c = is.1 in omega (arith, c)) (partial_near u b))

    cells_near : (from n : ℕ) → from + n ≤ many → (p : ℤ) → In p (map (cell_value after) (partial_cells (f + from) n)) → Near (reach k chunk) p
    cells_near from zero b p h = elim h [ ]
    cells_near from (suc n) b p (inl e) = subst (λ (z : ℤ). Near (reach k chunk) z) (sym (e ∙ cell_is from (omega (arith, b)))) (partial_near from (omega (arith, b)))
    cells_near from (suc n) b p (inr h) = cells_near (suc from) n (omega (arith, b)) p (subst (λ (x : ℕ). In p (map (cell_value after) (partial_cells x n))) (let e : suc (f + from) ≡ f + suc from = omega arith in e) h)

    cells_long : (m' : Cells) (a n : ℕ) → length (map (cell_value m') (partial_cells a n)) ≡ n
    cells_long m' a zero = refl
    cells_long m' a (suc n) = ap suc (cells_long m' (suc a) n)

    pub join_fits : (l' t' slot : ℕ) → PartialsFit (Join l' count k t' f slot) after chunk
    join_fits l' t' slot _ j b =
        let units' : ℕ = pieces (natural (source after count)) chunk in
        let same : units' ≡ many = ap (λ (z : ℤ). pieces (natural z) chunk) count_same in
        let from : ℕ = units' - j in
        let ps : List ℤ = map (cell_value after) (partial_cells (f + from) j) in
        let all = div-mul-le_self (natural (source m count) + (chunk - 1)) chunk in
        let some : j * chunk ≤ many * chunk = mul-le-mul_right chunk (let e : j ≤ many = omega (arith, b, same) in e) in
        let long = cells_long after (f + from) j in
        let most : length ps * chunk ≤ 131072 = subst (λ (n : ℕ). n * chunk ≤ 131072) (sym long) (let c = is.1 in let n = few in omega (arith, all, some, c, n)) in
        reach_fits k (length ps * chunk) (merged default_half k ps) most (partials_near k chunk ps (cells_near from j (omega (arith, b, same))))
