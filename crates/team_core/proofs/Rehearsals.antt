-- A strand that is tried over a copy of the cells.
use Rattle.std.proofs.Common.{◌≡◌, ℕ, zero, suc, ◌+◌, ◌-◌, ◌<◌, ◌≤◌, ltb, eqb, cond, Bool, true, false, List, [], ◌∷◌, ◌++◌, length, length-append, drop, sym, refl, ap, ◌∙◌, subst, arith}
use Rattle.std.specs.Prelude as std
use Rattle.std.specs.Option.{is_some}
use Rattle.std.proofs.lemmas.List.{length-map}
use Rattle.std.proofs.lemmas.Bool.{le-ltb}
use mathlib.Core.Option.{none}
use lib.ListN.{get_elem?}
use Rattle.phase_ops.specs.declared.effect.Effect.{Effect}
use Rattle.phase_ops.specs.declared.phase.Phase.{Phase}
use Rattle.phase_ops.specs.declared.phase.Phase.TheVariants.{Set, Loop, Part, Join}
use Rattle.phase_ops.specs.Phases.{Cells, each_from, strands, strand_effects, reads}
use Rattle.phase_ops.specs.Free.{WellFormed}
use Rattle.phase_ops.proofs.Courses.{each_snoc}
use Rattle.act_eval.proofs.Fitting.{each_split}
use Rattle.act_eval.specs.Sites.{View}
use Rattle.act_eval.specs.Strands.{Begins, TakesAll}
use Rattle.team_core.specs.Machines.{as_option}
use Rattle.team_core.specs.declared.scratch.ScratchCell.{ScratchCell}
use Rattle.team_core.specs.declared.scratch.Scratch.{Scratch}
use Rattle.team_core.specs.Scratches.{openings, seen_cells, InRounds, IsFresh, Search, IsSearching, search_of, CanTry, IsReached}
use Rattle.team_core.proofs.Sizes.{strand_few}
use Rattle.team_core.proofs.Scratches.{next_effect, none_left, found_next, found_all, in_first, in_second}

pub opening_long : (cells : List ScratchCell) → length (openings cells) ≡ length cells
opening_long cells = length-map cells (λ (c : ScratchCell). c.opening)

pub same_long : (xs ys : List ScratchCell) → openings xs ≡ openings ys → length xs ≡ length ys
same_long xs ys e = sym (opening_long xs) ∙ ap (λ (l : Cells). length l) e ∙ opening_long ys

-- one more effect
pub acted : (k : Search) (s s' : Scratch) (effect : Effect) (more : List Effect) → IsSearching k s → drop s.seen k.effects ≡ effect ∷ more → s'.seen ≡ suc s.seen → s'.wanted ≡ s.wanted → openings s'.cells ≡ openings s.cells → InRounds s'.cells s'.round
    → s'.found ≡ cond (eqb s.seen s.wanted) (std.Some effect) s.found → IsSearching k s'
acted k s s' effect more b left seen wanted opening rounds found =
    let n = next_effect k.effects s.seen effect more left in
    let is = found_next k.effects s.wanted s.seen effect s.found n.1 b.found_is in
    record {
      wanted_is = wanted ∙ b.wanted_is;
      opening_is = opening ∙ b.opening_is;
      there = λ c i. let l = b.there c i in let e = same_long s'.cells s.cells opening in omega (arith, l, e);
      rounds = rounds;
      few = b.few;
      seen_few = (let l = n.0 in omega (arith, l, seen));
      found_is = ap as_option found ∙ is ∙ (λ i. cond (ltb (sym wanted i) (sym seen i)) (get_elem? k.effects (sym wanted i)) none);
    }

takes_all : (p : Phase) (m : Cells) (chunk s : ℕ) → WellFormed p m chunk → s < strands p m chunk → TakesAll p m chunk s
takes_all (Set l b acts) m chunk s w h = tt
takes_all (Loop l b count acts) m chunk s w h = tt
takes_all (Part l count act k t f) m chunk s w h = (w.reduction.0, λ z i. w.reduction.2 s z h i)
takes_all (Join l count k t f slot) m chunk s w h = w.reduction

append_nil : {A : Type 0} (xs : List A) → xs ≡ xs ++ []
append_nil [] = refl
append_nil (x ∷ xs) = ap (λ (l : List _). x ∷ l) (append_nil xs)

module _ (k : Search) (p : Phase) (s : Scratch) (chunk count strand registers : ℕ) (is : k ≡ search_of p s.cells chunk strand s.wanted) (can : CanTry p s.cells chunk count registers) (rounds : InRounds s.cells s.round)
    (fresh : IsFresh s s.wanted) (there : strand < strands p (openings s.cells) chunk) where
  pub begun : IsSearching k s
  begun = subst (λ (x : Search). IsSearching x s) (sym is) (record {
    wanted_is = refl;
    opening_is = refl;
    there = λ c i. let l = can.well.loaded strand c there i in let e = opening_long s.cells in omega (arith, l, e);
    rounds = rounds;
    few = (let l = strand_few p (openings s.cells) chunk strand can.well in omega (arith, l));
    seen_few = (let z = fresh.none_seen in omega (arith, z));
    found_is = ap as_option fresh.none_found ∙ sym (ap (λ (n : ℕ). cond (ltb s.wanted n) (get_elem? (strand_effects p (openings s.cells) chunk strand) s.wanted) none) fresh.none_seen
        ∙ ap (λ (b : Bool). cond b (get_elem? (strand_effects p (openings s.cells) chunk strand) s.wanted) none) (le-ltb s.wanted 0 (omega arith)));
  })

  pub begins : Begins (record { left = drop s.seen k.effects; cells = seen_cells s; may = k.may }) p chunk strand []
  begins =
      let m : Cells = openings s.cells in
      let small : (c : ℕ) → c < length m → c < 9223372036854775808 = λ c l. let e = opening_long s.cells in let f = can.small in omega (arith, l, e, f) in
      let at_start : Begins (record { left = strand_effects p m chunk strand; cells = m; may = reads p m chunk strand }) p chunk strand [] = record {
        left_is = append_nil (strand_effects p m chunk strand);
        looks = record {
          may_load = λ c i. (i, small c (can.well.loaded strand c there i));
          positive = λ z i. can.well.positive strand z there i;
        };
        small = λ c i. small c (can.well.laid strand c there i);
        values = takes_all p m chunk strand can.well there;
        partials = can.partials;
      } in
      subst (λ (v : View). Begins v p chunk strand [])
      (λ i. record { left = drop (sym fresh.none_seen i) (ap (λ (x : Search). x.effects) (sym is) i); cells = sym fresh.cells_are i; may = ap (λ (x : Search). x.may) (sym is) i }) at_start

-- all effects of the strand are done
pub ended : (k : Search) (s : Scratch) → IsSearching k s → drop s.seen k.effects ≡ [] → (s.seen ≡ length k.effects) × (as_option s.found ≡ get_elem? k.effects k.wanted)
ended k s b left =
    let low = none_left k.effects s.seen left in
    let high = b.seen_few in
    let all : s.seen ≡ length k.effects = omega (arith, low, high) in
    (all, found_all k.effects s.wanted s.seen s.found all b.found_is ∙ ap (λ (n : ℕ). get_elem? k.effects n) b.wanted_is)

-- ---- strands in a row

pub open_each : (f : ℕ → List Effect) (strand end : ℕ) → strand < end → each_from f strand (end - strand) ≡ f strand ++ each_from f (strand + 1) (end - (strand + 1))
open_each f strand end h =
    let n : end - strand ≡ suc (end - (strand + 1)) = omega (arith, h) in
    let m : suc strand ≡ strand + 1 = omega arith in
    ap (λ (k : ℕ). each_from f strand k) n ∙ ap (λ (k : ℕ). f strand ++ each_from f k (end - (strand + 1))) m

-- one strand more is behind
pub more_behind : (f : ℕ → List Effect) (first strand n : ℕ) → first ≤ strand → n ≡ length (f strand) → length (each_from f first (strand + 1 - first)) ≡ length (each_from f first (strand - first)) + n
more_behind f first strand n l e =
    let k : strand + 1 - first ≡ suc (strand - first) = omega (arith, l) in
    let at : first + (strand - first) ≡ strand = omega (arith, l) in
    ap (λ (x : ℕ). length (each_from f first x)) k ∙ ap length (each_snoc f first (strand - first)) ∙ length-append (each_from f first (strand - first)) (f (first + (strand - first)))
    ∙ ap (λ (x : ℕ). length (each_from f first (strand - first)) + x) (ap (λ (x : ℕ). length (f x)) at ∙ sym e)

found_here : (o : std.Option Effect) (xs ys : List Effect) (n : ℕ) → is_some o ≡ true → as_option o ≡ get_elem? xs n → as_option o ≡ get_elem? (xs ++ ys) n
found_here (std.Some e) xs ys n some is = sym (in_first xs ys n e (sym is))
found_here std.None xs ys n some is = cc

found_later : (o : std.Option Effect) (xs ys : List Effect) (n : ℕ) → is_some o ≡ false → as_option o ≡ get_elem? xs n → (length xs ≤ n) × (get_elem? (xs ++ ys) n ≡ get_elem? ys (n - length xs))
found_later (std.Some e) xs ys n some is = cc
found_later std.None xs ys n some is = in_second xs ys n (sym is)

-- what a strand that was tried tells: the effect that it was asked for, or how many it has
module _ (p : Phase) (chunk strand left : ℕ) (m m' : Cells) (same : m' ≡ m) (o : std.Option Effect) (wanted : ℕ) (asked : wanted ≡ left) (found : as_option o ≡ get_elem? (strand_effects p m' chunk strand) wanted) (rest : List Effect) where
  is_found : as_option o ≡ get_elem? (strand_effects p m chunk strand) left
  is_found = found ∙ (λ i. get_elem? (strand_effects p (same i) chunk strand) (asked i))

  pub tried_here : is_some o ≡ true → as_option o ≡ get_elem? (strand_effects p m chunk strand ++ rest) left
  tried_here some = found_here o (strand_effects p m chunk strand) rest left some is_found

  pub tried_later : is_some o ≡ false → (seen : ℕ) → seen ≡ length (strand_effects p m' chunk strand)
      → (seen ≡ length (strand_effects p m chunk strand)) × (seen ≤ left) × (get_elem? (strand_effects p m chunk strand ++ rest) left ≡ get_elem? rest (left - seen))
  tried_later missing seen is =
      let long : seen ≡ length (strand_effects p m chunk strand) = is ∙ ap (λ (x : Cells). length (strand_effects p x chunk strand)) same in
      let later = found_later o (strand_effects p m chunk strand) rest left missing is_found in
      (long, subst (λ (n : ℕ). n ≤ left) (sym long) later.0, later.1 ∙ ap (λ (n : ℕ). get_elem? rest (left - n)) (sym long))

-- ---- from a place on

get_behind : (xs ys : List Effect) (n : ℕ) → length xs ≤ n → get_elem? (xs ++ ys) n ≡ get_elem? ys (n - length xs)
get_behind [] ys n h = ap (λ (k : ℕ). get_elem? ys k) (let e : n ≡ n - 0 = omega arith in e)
get_behind (x ∷ xs) ys zero h = absurd (omega (arith, h))
get_behind (x ∷ xs) ys (suc n) h = get_behind xs ys n (omega (arith, h)) ∙ ap (λ (k : ℕ). get_elem? ys k) (let e : n - length xs ≡ suc n - suc (length xs) = omega arith in e)

each_at : (f : ℕ → List Effect) (first strand end : ℕ) → first ≤ strand → strand ≤ end → each_from f first (end - first) ≡ each_from f first (strand - first) ++ each_from f strand (end - strand)
each_at f first strand end l h =
    ap (λ (n : ℕ). each_from f first n) (let e : end - first ≡ (strand - first) + (end - strand) = omega (arith, l, h) in e) ∙ each_split f first (strand - first) (end - strand)
    ∙ ap (λ (n : ℕ). each_from f first (strand - first) ++ each_from f n (end - strand)) (let e : first + (strand - first) ≡ strand = omega (arith, l) in e)

-- what is looked for from a place on is what the unit makes
pub from_place : (f : ℕ → List Effect) (first end strand before done : ℕ) → IsReached f first end strand before → before ≤ done → get_elem? (each_from f strand (end - strand)) (done - before) ≡ get_elem? (each_from f first (end - first)) done
from_place f first end strand before done r l =
    let b = r.before_is in
    ap (λ (n : ℕ). get_elem? (each_from f strand (end - strand)) (done - n)) r.before_is
    ∙ sym (ap (λ (es : List Effect). get_elem? es done) (each_at f first strand end r.low r.high) ∙ get_behind (each_from f first (strand - first)) (each_from f strand (end - strand)) done (omega (arith, b, l)))

-- a place reached from another
pub reached_on : (f : ℕ → List Effect) (first end strand before strand' before' : ℕ) → IsReached f first end strand before → IsReached f strand end strand' before' → IsReached f first end strand' (before + before')
reached_on f first end strand before strand' before' r q =
    let l = r.low in let m = q.low in
    record {
      low = omega (arith, l, m);
      high = q.high;
      before_is = (λ i. r.before_is i + q.before_is i) ∙ sym (ap length (each_at f first strand strand' r.low q.low) ∙ length-append (each_from f first (strand - first)) (each_from f strand (strand' - strand)));
    }

pub reached_first : (f : ℕ → List Effect) (first end : ℕ) → first ≤ end → IsReached f first end first 0
reached_first f first end h = record { low = omega arith; high = h; before_is = ap (λ (n : ℕ). length (each_from f first n)) (let e : 0 ≡ first - first = omega arith in e) }
