-- The partial of few values fits a word of 64 bits.
use Rattle.std.proofs.Common.{◌≡◌, inl, inr, ℕ, zero, suc, ◌+◌, ◌-◌, ◌*◌, ◌<◌, ◌≤◌, Bool, true, false, List, [], ◌∷◌, ◌++◌, map, length, length-append, sym, refl, ap, ◌∙◌, subst, arith, ℤ, pos, negsuc, ◌+ℤ◌, ◌*ℤ◌, ◌≤ℤ◌, FitsSigned}
use Rattle.std.specs.Prelude.{IsTrue, if◌then◌else◌, int_le}
use Rattle.std.specs.Int.{w64}
use Rattle.std.proofs.lemmas.Int.{ints, fits_signed_from_abs}
use Rattle.std.proofs.lemmas.List.{append_assoc}
use Rattle.std.proofs.lemmas.Bool.Decides.{nat_tests}
use Rattle.std.proofs.Math.Nat.{suc-mul}
use Rattle.ws_base.specs.Numbers.{default_half, in_range, truth, is_true, int_max}
use Rattle.ws_base.specs.declared.op.CallWord.{CallWord}
use Rattle.ws_base.specs.declared.op.CallWord.TheVariants as word
use Rattle.phase_ops.specs.Partials.{clamp, unit_part, part_of, merge, merged, takes}
use Rattle.phase_ops.specs.declared.effect.Turn.{Turn}
use Rattle.phase_ops.specs.declared.effect.Turn.TheVariants.{Next, Shut, Fails, Does}
use Rattle.phase_ops.specs.declared.phase.Micro.{Micro}
use Rattle.phase_ops.specs.declared.phase.Act.{Act}
use Rattle.phase_ops.specs.Phases.{Cells, over, looks, divisors, turn, Spot, Event, spot, went, ops_events, gives, calm, last_event, value_events, each_from}
use Rattle.phase_ops.specs.Free.{In}
use Rattle.phase_ops.proofs.Members.{in_right}
use Rattle.act_eval.specs.Sites.{part_given}
use Rattle.act_eval.proofs.PartSteps.{gives_join}
use Rattle.act_eval.proofs.ValueSteps.{gives_plain}

-- ---- how far from 0 a partial is

-- at most n times one past the range
pub record Near (n : ℕ) (z : ℤ) : Type 0 where
  pub low : pos 0 ≤ℤ (z +ℤ pos (n * 2147483649))
  pub high : z ≤ℤ pos (n * 2147483649)

-- the partial of n values: a sum or a count grows with them
abbrev pub reach : CallWord → ℕ → ℕ
reach word.Sum n = n
reach word.Count n = n
reach _ n = 1

near_fits : (n : ℕ) (z : ℤ) → n ≤ 131072 → Near n z → FitsSigned w64 z
near_fits n (pos k) h b = fits_signed_from_abs w64 (pos k) (let e = b.high in omega (arith, ints, h, e))
near_fits n (negsuc k) h b = fits_signed_from_abs w64 (negsuc k) (let e = b.low in omega (arith, ints, h, e))

range_near : (z : ℤ) → IsTrue (in_range default_half z) → Near 1 z
range_near (pos n) h = let l : n < 2147483648 = grind (arith, nat_tests) in record { low = omega (arith, ints, l); high = omega (arith, ints, l) }
range_near (negsuc n) h = let l : n < 2147483648 = grind (arith, nat_tests) in record { low = omega (arith, ints, l); high = omega (arith, ints, l) }

truth_near : (b : Bool) → Near 1 (truth b)
truth_near true = record { low = omega (arith, ints); high = omega (arith, ints) }
truth_near false = record { low = omega (arith, ints); high = omega (arith, ints) }

clamp_near : (z : ℤ) → Near 1 (clamp default_half z)
clamp_near (pos n) = by (int_le (pos 2147483649) (pos n)) refl
  where
    by : (t : Bool) → int_le (pos 2147483649) (pos n) ≡ t → Near 1 (int_max (negsuc default_half) (if t then pos 2147483649 else pos n))
    by true e = record { low = omega (arith, ints); high = omega (arith, ints) }
    by false e = record { low = omega (arith, ints); high = omega (arith, ints, e) }
clamp_near (negsuc n) = by (int_le (negsuc default_half) (negsuc n)) refl
  where
    by : (t : Bool) → int_le (negsuc default_half) (negsuc n) ≡ t → Near 1 (if t then negsuc n else negsuc default_half)
    by true e = record { low = omega (arith, ints, e); high = omega (arith, ints) }
    by false e = record { low = omega (arith, ints); high = omega (arith, ints) }

zero_near : Near 1 (pos 0)
zero_near = record { low = omega (arith, ints); high = omega (arith, ints) }

either_near : (b : Bool) (x y : ℤ) → Near 1 x → Near 1 y → Near 1 (if b then x else y)
either_near true x y p q = p
either_near false x y p q = q

sum_near : (a b : ℕ) (x y : ℤ) → Near a x → Near b y → Near (a + b) (x +ℤ y)
sum_near a b x y p q = let l = p.low in let h = p.high in let m = q.low in let g = q.high in record { low = omega (arith, ints, l, m); high = omega (arith, ints, h, g) }

part_near : (k : CallWord) (z : ℤ) → IsTrue (takes default_half k z) → Near (reach k 1) (part_of default_half k z)
part_near word.Sum z h = range_near z h
part_near word.Product z h = clamp_near z
part_near word.Minval z h = range_near z h
part_near word.Maxval z h = range_near z h
part_near word.Count z h = truth_near (is_true z)
part_near word.Any z h = truth_near (is_true z)
part_near word.All z h = truth_near (is_true z)
part_near _ z h = cc

unit_near : (k : CallWord) → Near (reach k 0) (unit_part default_half k)
unit_near word.Sum = record { low = omega (arith, ints); high = omega (arith, ints) }
unit_near word.Count = record { low = omega (arith, ints); high = omega (arith, ints) }
unit_near word.Product = record { low = omega (arith, ints); high = omega (arith, ints) }
unit_near word.Minval = record { low = omega (arith, ints); high = omega (arith, ints) }
unit_near word.Maxval = record { low = omega (arith, ints); high = omega (arith, ints) }
unit_near word.All = record { low = omega (arith, ints); high = omega (arith, ints) }
unit_near _ = zero_near

merge_near : (k : CallWord) (a b : ℕ) (x y : ℤ) → Near (reach k a) x → Near (reach k b) y → Near (reach k (a + b)) (merge default_half k x y)
merge_near word.Sum a b x y p q = sum_near a b x y p q
merge_near word.Count a b x y p q = sum_near a b x y p q
merge_near word.Product a b x y p q = clamp_near (x *ℤ y)
merge_near word.Minval a b x y p q = either_near (int_le x y) x y p q
merge_near word.Maxval a b x y p q = either_near (int_le x y) y x q p
merge_near word.Any a b x y p q = truth_near _
merge_near word.All a b x y p q = truth_near _
merge_near _ a b x y p q = zero_near

-- more values reach no less
pub wider : (k : CallWord) (a b : ℕ) (z : ℤ) → a ≤ b → Near (reach k a) z → Near (reach k b) z
wider word.Sum a b z h p = let l = p.low in let g = p.high in record { low = omega (arith, ints, l, h); high = omega (arith, ints, g, h) }
wider word.Count a b z h p = let l = p.low in let g = p.high in record { low = omega (arith, ints, l, h); high = omega (arith, ints, g, h) }
wider _ a b z h p = p

reach_few : (k : CallWord) (n : ℕ) → n ≤ 131072 → reach k n ≤ 131072
reach_few word.Sum n h = h
reach_few word.Count n h = h
reach_few _ n h = omega arith

pub values_near : (k : CallWord) (zs : List ℤ) → ((z : ℤ) → In z zs → IsTrue (takes default_half k z)) → Near (reach k (length zs)) (merged default_half k (map (part_of default_half k) zs))
values_near k [] h = unit_near k
values_near k (z ∷ zs) h =
    let e : 1 + length zs ≡ suc (length zs) = omega arith in
    subst (λ (n : ℕ). Near (reach k n) (merged default_half k (map (part_of default_half k) (z ∷ zs)))) e
    (merge_near k 1 (length zs) (part_of default_half k z) (merged default_half k (map (part_of default_half k) zs)) (part_near k z (h z (inl refl))) (values_near k zs (λ y i. h y (inr i))))

pub partials_near : (k : CallWord) (most : ℕ) (ps : List ℤ) → ((p : ℤ) → In p ps → Near (reach k most) p) → Near (reach k (length ps * most)) (merged default_half k ps)
partials_near k most [] h = subst (λ (n : ℕ). Near (reach k n) (unit_part default_half k)) (let e : 0 ≡ 0 * most = omega arith in e) (unit_near k)
partials_near k most (p ∷ ps) h =
    let e : most + length ps * most ≡ suc (length ps) * most = (let z = suc-mul (length ps) most in omega (arith, z)) in
    subst (λ (n : ℕ). Near (reach k n) (merged default_half k (p ∷ ps))) e
    (merge_near k most (length ps * most) p (merged default_half k ps) (h p (inl refl)) (partials_near k most ps (λ q i. h q (inr i))))

pub reach_fits : (k : CallWord) (n : ℕ) (z : ℤ) → n ≤ 131072 → Near (reach k n) z → FitsSigned w64 z
reach_fits k n z h p = near_fits (reach k n) z (reach_few k n h) p

-- ---- how many values an iteration gives

went_gives : (key most : ℕ) (m : Cells) (next : Cells → ℤ → List Event) (rest : Cells → List ℤ → List Event) (t : Turn) → ((m' : Cells) (z : ℤ) → length (gives (next m' z)) ≤ most)
    → ((m' : Cells) (regs : List ℤ) → length (gives (rest m' regs)) ≤ most) → length (gives (went key m next rest t)) ≤ most
went_gives key most m next rest (Next z) n r = n m z
went_gives key most m next rest Shut n r = r m []
went_gives key most m next rest (Fails f) n r = omega arith
went_gives key most m next rest (Does e) n r = n (over e m) (pos 0)

ops_give : (s : Spot) (ops : List Micro) (m : Cells) (regs : List ℤ) (rest : Cells → List ℤ → List Event) (most : ℕ) → ((m' : Cells) (regs' : List ℤ) → length (gives (rest m' regs')) ≤ most)
    → length (gives (ops_events s ops m regs rest)) ≤ most
ops_give s [] m regs rest most r = r m regs
ops_give s (op ∷ ops) m regs rest most r =
    let key : ℕ = ((s.act * 1048576 + length regs) * 1048576 + s.element) * 16 in
    let next : Cells → ℤ → List Event = λ m' z. ops_events s ops m' (regs ++ z ∷ []) rest in
    let h = went_gives key most m next rest (turn s.iteration m regs op) (λ m' z. ops_give s ops m' (regs ++ z ∷ []) rest most r) r in
    let e = ap length (gives_plain (looks m regs op) (divisors m op) (went key m next rest (turn s.iteration m regs op))) in
    omega (arith, h, e)

last_gives : (regs : List ℤ) → length (gives (last_event regs)) ≤ 1
last_gives [] = omega arith
last_gives (z ∷ []) = omega arith
last_gives (z ∷ y ∷ zs) = last_gives (y ∷ zs)

value_gives : (a : Act) (m : Cells) (i : ℕ) → length (gives (value_events a m i)) ≤ 1
value_gives a m i = ops_give (spot 0 a i) (map calm a.ops) m [] (λ m' regs. last_event regs) 1 (λ m' regs. last_gives regs)

pub values_give : (a : Act) (m : Cells) (from n : ℕ) → length (gives (each_from (value_events a m) from n)) ≤ n
values_give a m from zero = omega arith
values_give a m from (suc n) =
    let here : List Event = value_events a m from in
    let more : List Event = each_from (value_events a m) (suc from) n in
    let h = value_gives a m from in let r = values_give a m (suc from) n in
    let e = ap length (gives_join here more) in let l = length-append (gives here) (gives more) in
    omega (arith, h, r, e, l)

-- ---- a unit of a Part

pub each_split : {A : Type 0} (f : ℕ → List A) (from a b : ℕ) → each_from f from (a + b) ≡ each_from f from a ++ each_from f (from + a) b
each_split f from zero b = (let e : 0 + b ≡ b = omega arith in let o : from ≡ from + 0 = omega arith in λ i. each_from f (o i) (e i))
each_split f from (suc a) b =
    let e : suc a + b ≡ suc (a + b) = omega arith in
    let o : suc from + a ≡ from + suc a = omega arith in
    ap (λ (n : ℕ). each_from f from n) e ∙ ap (λ (l : List _). f from ++ l) (each_split f (suc from) a b ∙ ap (λ (n : ℕ). each_from f (suc from) a ++ each_from f n b) o)
    ∙ sym (append_assoc (f from) (each_from f (suc from) a) (each_from f (from + suc a) b))

pub part_fits : (k : CallWord) (a : Act) (m : Cells) (from count : ℕ) → count ≤ 65536 → ((z : ℤ) → In z (gives (each_from (value_events a m) from count)) → IsTrue (takes default_half k z))
    → (j : ℕ) → j ≤ count → FitsSigned w64 (part_given k (each_from (value_events a m) (from + (count - j)) j))
part_fits k a m from count few takes j l =
    let all : ℕ → ℕ → List Event = each_from (value_events a m) in
    let last : List Event = all (from + (count - j)) j in
    let whole : all from count ≡ all from (count - j) ++ last = ap (λ (n : ℕ). each_from (value_events a m) from n) (let e : count ≡ count - j + j = omega (arith, l) in e) ∙ each_split (value_events a m) from (count - j) j in
    let inside : (z : ℤ) → In z (gives last) → In z (gives (all from count)) = λ z i.
    subst (λ (es : List ℤ). In z es) (sym (ap gives whole ∙ gives_join (all from (count - j)) last)) (in_right z (gives (all from (count - j))) (gives last) i) in
    let n = values_give a m (from + (count - j)) j in
    reach_fits k (length (gives last)) (part_given k last) (omega (arith, n, l, few)) (values_near k (gives last) (λ z i. takes z (inside z i)))
