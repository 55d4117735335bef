-- The steps of a search over a copy of the cells.
use Rattle.std.proofs.Common.{◌≡◌, ◌≢◌, ℕ, zero, suc, ◌-◌, ◌<◌, ◌≤◌, ltb, eqb, cond, Bool, true, false, List, [], ◌∷◌, ◌++◌, map, length, drop, set, slice_index_or, sym, refl, ap, ◌∙◌, arith}
use Rattle.std.specs.Prelude as std
use Rattle.std.proofs.lemmas.List.{map-set}
use Rattle.std.proofs.Math.Seq.{map-set_same}
use Rattle.std.proofs.lemmas.Bool.{lt-ltb, le-ltb}
use Rattle.std.proofs.Common.{eq-eqb, ne_eqb}
use mathlib.Core.Logic.{dite}
use mathlib.Core.Option.{none, some}
use native.Mathlib.Decide.{ℕ_discrete, dec_le}
use lib.ListN.{get_elem?}
use Rattle.phase_ops.specs.declared.effect.Effect.{Effect}
use Rattle.team_core.specs.Machines.{as_option}
use Rattle.team_core.specs.declared.scratch.ScratchCell.{ScratchCell}
use Rattle.team_core.specs.Scratches.{untouched, openings, in_round, InRounds}

-- ---- opening

abbrev pub opened : ℕ → ScratchCell
opened n = record { opening = n; own = 0; round = 0 }

-- ---- rounds

pub fresh_cells : (cells : List ScratchCell) (round : ℕ) → InRounds cells round → map (in_round (suc round)) cells ≡ openings cells
fresh_cells [] round h = refl
fresh_cells (c ∷ cs) round h =
    let old : c.round ≤ round = h 0 (omega arith) in
    let other : eqb c.round (suc round) ≡ false = ne_eqb c.round (suc round) (λ e. omega (arith, e, old)) in λ i.
    cond (other i) c.own c.opening ∷ fresh_cells cs round (λ at b. h (suc at) (omega (arith, b))) i

-- ---- one cell

same_round : (n : ℕ) → eqb n n ≡ true
same_round n = eq-eqb n n refl

pub stored_seen : (round cell value opening : ℕ) (cells : List ScratchCell) → map (in_round round) (set cells cell (record { opening = opening; own = value; round = round })) ≡ set (map (in_round round) cells) cell value
stored_seen round cell value opening cells =
    map-set (in_round round) cells cell (record { opening = opening; own = value; round = round }) ∙ ap (λ (b : Bool). set (map (in_round round) cells) cell (cond b value opening)) (same_round round)

pub stored_openings : (round cell value opening : ℕ) (cells : List ScratchCell) → opening ≡ (slice_index_or cells cell untouched).opening → openings (set cells cell (record { opening = opening; own = value; round = round })) ≡ openings cells
stored_openings round cell value opening cells e = map-set_same (λ (c : ScratchCell). c.opening) cells cell (record { opening = opening; own = value; round = round }) untouched e

-- ---- effects

pub next_effect : {A : Type 0} (xs : List A) (n : ℕ) (x : A) (more : List A) → drop n xs ≡ x ∷ more → (n < length xs) × (get_elem? xs n ≡ some x) × (drop (suc n) xs ≡ more)
next_effect [] zero x more e = cc
next_effect [] (suc n) x more e = cc
next_effect (y ∷ ys) zero x more e = (omega arith, ap some (let q : y ≡ x = cc in q), (let q : ys ≡ more = cc in q))
next_effect (y ∷ ys) (suc n) x more e = let r = next_effect ys n x more e in (let l = r.0 in omega (arith, l), r.1, r.2)

pub none_left : {A : Type 0} (xs : List A) (n : ℕ) → drop n xs ≡ [] → length xs ≤ n
none_left [] n e = omega arith
none_left (y ∷ ys) zero e = cc
none_left (y ∷ ys) (suc n) e = let l = none_left ys n e in omega (arith, l)

-- one more effect is seen, which may be the wanted one
pub found_next : (effects : List Effect) (wanted seen : ℕ) (effect : Effect) (found : std.Option Effect) → get_elem? effects seen ≡ some effect → as_option found ≡ cond (ltb wanted seen) (get_elem? effects wanted) none
    → as_option (cond (eqb seen wanted) (std.Some effect) found) ≡ cond (ltb wanted (suc seen)) (get_elem? effects wanted) none
found_next effects wanted seen effect found at is = dite (ℕ_discrete seen wanted)
    (λ e. ap (λ (b : Bool). as_option (cond b (std.Some effect) found)) (eq-eqb seen wanted e) ∙ sym at ∙ ap (λ (n : ℕ). get_elem? effects n) e
    ∙ sym (ap (λ (b : Bool). cond b (get_elem? effects wanted) none) (lt-ltb wanted (suc seen) (omega (arith, e)))))
    (λ n. ap (λ (b : Bool). as_option (cond b (std.Some effect) found)) (ne_eqb seen wanted n) ∙ is ∙ ap (λ (b : Bool). cond b (get_elem? effects wanted) none) (same n))
  where
    same : seen ≢ wanted → ltb wanted seen ≡ ltb wanted (suc seen)
    same n = dite (dec_le (suc wanted) seen)
        (λ l. lt-ltb wanted seen l ∙ sym (lt-ltb wanted (suc seen) (omega (arith, l))))
        (λ g. le-ltb wanted seen (omega (arith, g)) ∙ sym (le-ltb wanted (suc seen) (omega (arith, g, n))))

get_past : {A : Type 0} (xs : List A) (n : ℕ) → length xs ≤ n → get_elem? xs n ≡ none
get_past [] n h = refl
get_past (x ∷ xs) zero h = absurd (omega (arith, h))
get_past (x ∷ xs) (suc n) h = get_past xs n (omega (arith, h))

-- all effects were seen
pub found_all : (effects : List Effect) (wanted seen : ℕ) (found : std.Option Effect) → seen ≡ length effects → as_option found ≡ cond (ltb wanted seen) (get_elem? effects wanted) none → as_option found ≡ get_elem? effects wanted
found_all effects wanted seen found all is = dite (dec_le (suc wanted) seen)
    (λ l. is ∙ ap (λ (b : Bool). cond b (get_elem? effects wanted) none) (lt-ltb wanted seen l))
    (λ g. is ∙ ap (λ (b : Bool). cond b (get_elem? effects wanted) none) (le-ltb wanted seen (omega (arith, g))) ∙ sym (get_past effects wanted (omega (arith, g, all))))

-- the effect of this number is in the first list or, counted from its end, in the second
pub in_first : {A : Type 0} (xs ys : List A) (n : ℕ) (x : A) → get_elem? xs n ≡ some x → get_elem? (xs ++ ys) n ≡ some x
in_first [] ys n x h = cc
in_first (z ∷ zs) ys zero x h = h
in_first (z ∷ zs) ys (suc n) x h = in_first zs ys n x h

pub in_second : {A : Type 0} (xs ys : List A) (n : ℕ) → get_elem? xs n ≡ none → (length xs ≤ n) × (get_elem? (xs ++ ys) n ≡ get_elem? ys (n - length xs))
in_second [] ys n h = (omega arith, ap (λ (k : ℕ). get_elem? ys k) (let e : n ≡ n - 0 = omega arith in e))
in_second (z ∷ zs) ys zero h = cc
in_second (z ∷ zs) ys (suc n) h = let r = in_second zs ys n h in (let l = r.0 in omega (arith, l), r.1 ∙ ap (λ (k : ℕ). get_elem? ys k) (let e : n - length zs ≡ suc n - suc (length zs) = omega arith in e))
