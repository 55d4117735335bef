-- How many effects a unit may have, and how many units a phase.
use Rattle.std.proofs.Common.{◌≡◌, inl, inr, ℕ, zero, suc, ◌+◌, ◌-◌, ◌*◌, ◌<◌, ◌≤◌, Bool, true, false, List, [], ◌∷◌, ◌++◌, map, length, length-append, refl, ap, arith, ℤ, pos, negsuc, ◌≤ℤ◌}
use Rattle.std.specs.Prelude.{nat_lt, if◌then◌else◌}
use Rattle.std.proofs.lemmas.Int.{ints}
use Rattle.std.proofs.Math.Nat.{mul-le-mul_right, suc-mul, div-mul-le_self}
use Rattle.phase_ops.proofs.Keys.{makes_plain, makes_loads}
use Rattle.act_eval.proofs.Joining.{natural_few}
use Rattle.phase_ops.specs.declared.effect.Effect.{Effect}
use Rattle.phase_ops.specs.declared.effect.Turn.{Turn}
use Rattle.phase_ops.specs.declared.effect.Turn.TheVariants.{Next, Shut, Fails, Does}
use Rattle.phase_ops.specs.declared.phase.Micro.{Micro}
use Rattle.phase_ops.specs.declared.phase.Act.{Act}
use Rattle.phase_ops.specs.declared.phase.Phase.{Phase}
use Rattle.phase_ops.specs.declared.phase.Phase.TheVariants.{Set, Loop, Part, Join}
use Rattle.phase_ops.specs.Phases.{Cells, Event, Loads, Makes, Spot, plain, went, over, looks, divisors, turn, ops_events, acts_events, spot, makes, each_from, source, natural, pieces, units, effects, strand_events, strand_effects, strand_count, first_strand, least_key, none_yet, joined, partial_cells, cell_value, word, gives}
use Rattle.phase_ops.specs.declared.effect.Effect.TheVariants.{Store, Fault}
use Rattle.phase_ops.specs.Partials.{total, merged, part_of}
use Rattle.ws_base.specs.Numbers.{default_half}
use Rattle.phase_ops.specs.Free.{In, WellFormed}

-- an op makes one effect at most
went_few : (key most : ℕ) (m : Cells) (next : Cells → ℤ → List Event) (rest : Cells → List ℤ → List Event) (t : Turn) → ((m' : Cells) (z : ℤ) → length (makes (next m' z)) ≤ most)
    → ((m' : Cells) (regs : List ℤ) → length (makes (rest m' regs)) ≤ most) → length (makes (went key m next rest t)) ≤ suc most
went_few key most m next rest (Next z) n r = let h = n m z in omega (arith, h)
went_few key most m next rest Shut n r = let h = r m [] in omega (arith, h)
went_few key most m next rest (Fails f) n r = omega arith
went_few key most m next rest (Does e) n r = let h = n (over e m) (pos 0) in omega (arith, h)

ops_few : (s : Spot) (ops : List Micro) (m : Cells) (regs : List ℤ) (rest : Cells → List ℤ → List Event) (most : ℕ) → ((m' : Cells) (regs' : List ℤ) → length (makes (rest m' regs')) ≤ most)
    → length (makes (ops_events s ops m regs rest)) ≤ length ops + most
ops_few s [] m regs rest most r = let h = r m regs in omega (arith, h)
ops_few s (op ∷ ops) m regs rest most r =
    let key : ℕ = ((s.act * 1048576 + length regs) * 1048576 + s.element) * 16 in
    let next : Cells → ℤ → List Event = λ m' z. ops_events s ops m' (regs ++ z ∷ []) rest in
    let h = went_few key (length ops + most) m next rest (turn s.iteration m regs op) (λ m' z. ops_few s ops m' (regs ++ z ∷ []) rest most r) (λ m' regs'. let z = r m' regs' in omega (arith, z)) in
    let e = ap length (makes_plain (looks m regs op) (divisors m op) (went key m next rest (turn s.iteration m regs op))) in
    omega (arith, h, e)

acts_few : (i k : ℕ) (acts : List Act) (m : Cells) → ((a : Act) → In a acts → length a.ops ≤ 1048576) → length (makes (acts_events i k acts m)) ≤ length acts * 1048576
acts_few i k [] m short = omega arith
acts_few i k (a ∷ more) m short =
    let h = ops_few (spot k a i) a.ops m [] (λ m' regs. acts_events i (suc k) more m') (length more * 1048576) (λ m' regs. acts_few i (suc k) more m' (λ b j. short b (inr j))) in
    let l = short a (inl refl) in omega (arith, h, l)

each_few : (f : ℕ → List Effect) (from n most : ℕ) → ((s : ℕ) → length (f s) ≤ most) → length (each_from f from n) ≤ n * most
each_few f from zero most h = omega arith
each_few f from (suc n) most h = let a = each_few f (suc from) n most h in let b = h from in let e = length-append (f from) (each_from f (suc from) n) in let z = suc-mul n most in omega (arith, a, b, e, z)

summed_one : (b : Bool) (x y : Effect) → length (if b then x ∷ [] else y ∷ []) ≤ 1
summed_one true x y = omega arith
summed_one false x y = omega arith

pub strand_few : (p : Phase) (m : Cells) (chunk s : ℕ) → WellFormed p m chunk → length (strand_effects p m chunk s) ≤ 1099511627776
strand_few (Set l b acts) m chunk s w = let h = acts_few 0 0 acts m (λ a j. (w.few_ops a j).0) in let f = w.few_acts in omega (arith, h, f)
strand_few (Loop l b count acts) m chunk s w = let h = acts_few s 0 acts m (λ a j. (w.few_ops a j).0) in let f = w.few_acts in omega (arith, h, f)
strand_few (Part l count act k t f) m chunk s w = let es = strand_events (Part l count act k t f) m chunk s in let h = summed_one (nat_lt (least_key (makes es)) none_yet) (Fault (least_key (makes es))) (Store (f + s) (word (merged default_half k (map (part_of default_half k) (gives es))))) in omega (arith, h)
strand_few (Join l count k t f slot) m chunk s w =
    let cells : List ℕ = partial_cells f (pieces (natural (source m count)) chunk) in
    let e : Effect = joined slot (total default_half k (merged default_half k (map (cell_value m) cells))) in
    let long = ap length (makes_loads cells (Makes e ∷ [])) in omega (arith, long)

count_few : (p : Phase) (m : Cells) (chunk u : ℕ) → WellFormed p m chunk → strand_count p m chunk u ≤ 65536
count_few (Set l b acts) m chunk u w = omega arith
count_few (Loop l b count acts) m chunk u w = let h = natural_few (source m count) w.count.1 in omega (arith, h)
count_few (Part l count act k t f) m chunk u w = omega arith
count_few (Join l count k t f slot) m chunk u w = omega arith

pub effects_few : (p : Phase) (m : Cells) (chunk u : ℕ) → WellFormed p m chunk → length (effects p m chunk u) < 4611686018427387904
effects_few p m chunk u w =
    let h = each_few (strand_effects p m chunk) (first_strand p chunk u) (strand_count p m chunk u) 1099511627776 (λ s. strand_few p m chunk s w) in
    let c = count_few p m chunk u w in
    let big : strand_count p m chunk u * 1099511627776 ≤ 65536 * 1099511627776 = mul-le-mul_right 1099511627776 c in
    omega (arith, h, big)

pieces_few : (n chunk : ℕ) → 0 < chunk → pieces n chunk ≤ n
pieces_few zero chunk c = let h = div-mul-le_self (0 + (chunk - 1)) chunk in below (pieces 0 chunk) chunk c h
  where
    below : (q chunk : ℕ) → 0 < chunk → q * chunk ≤ 0 + (chunk - 1) → q ≤ 0
    below zero chunk c h = omega arith
    below (suc q) chunk c h = let z = suc-mul q chunk in absurd (omega (arith, c, h, z))
pieces_few (suc n) chunk c = let h = div-mul-le_self (suc n + (chunk - 1)) chunk in below (pieces (suc n) chunk) n chunk c h
  where
    below : (q n chunk : ℕ) → 0 < chunk → q * chunk ≤ suc n + (chunk - 1) → q ≤ suc n
    below zero n chunk c h = omega arith
    below (suc zero) n chunk c h = omega arith
    below (suc (suc q)) zero chunk c h = let z = suc-mul (suc q) chunk in let y = suc-mul q chunk in absurd (omega (arith, c, h, z, y))
    below (suc (suc q)) (suc n) chunk c h = let z = suc-mul (suc q) chunk in let r = below (suc q) n chunk c (omega (arith, c, h, z)) in omega (arith, r)

pub units_few : (p : Phase) (m : Cells) (chunk : ℕ) → 0 < chunk → WellFormed p m chunk → units p m chunk ≤ 65536
units_few (Set l b acts) m chunk c w = omega arith
units_few (Loop l b count acts) m chunk c w = let h = natural_few (source m count) w.count.1 in let p = pieces_few (natural (source m count)) chunk c in omega (arith, h, p)
units_few (Part l count act k t f) m chunk c w = let h = natural_few (source m count) w.count.1 in let p = pieces_few (natural (source m count)) chunk c in omega (arith, h, p)
units_few (Join l count k t f slot) m chunk c w = omega arith
