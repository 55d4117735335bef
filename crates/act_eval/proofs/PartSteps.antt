-- What the iterations of a Part have given, one more at a time.
use Rattle.std.proofs.Common.{◌≡◌, ℕ, suc, ◌+◌, ◌-◌, ◌<◌, min, List, [], ◌∷◌, ◌++◌, map, sym, refl, ap, ◌∙◌, subst, arith, ℤ, FitsSigned}
use Rattle.std.specs.Int.{w64}
use Rattle.ws_base.specs.Numbers.{default_half}
use Rattle.ws_base.specs.declared.op.CallWord.{CallWord}
use Rattle.phase_ops.specs.declared.effect.Effect.{Effect}
use Rattle.phase_ops.specs.Partials.{part_of, merge, merged}
use Rattle.phase_ops.specs.Phases.{Event, Loads, Divides, Makes, Gives, makes, gives, least_key, each_from}
use Rattle.act_eval.specs.declared.site.Worth.TheVariants as worth
use Rattle.act_eval.specs.Sites.{IsWorth, IsFound, part_given}

pub makes_join : (xs ys : List Event) → makes (xs ++ ys) ≡ makes xs ++ makes ys
makes_join [] ys = refl
makes_join (Loads c ∷ xs) ys = makes_join xs ys
makes_join (Divides z ∷ xs) ys = makes_join xs ys
makes_join (Gives z ∷ xs) ys = makes_join xs ys
makes_join (Makes e ∷ xs) ys = ap (λ (l : List Effect). e ∷ l) (makes_join xs ys)

pub gives_join : (xs ys : List Event) → gives (xs ++ ys) ≡ gives xs ++ gives ys
gives_join [] ys = refl
gives_join (Loads c ∷ xs) ys = gives_join xs ys
gives_join (Divides z ∷ xs) ys = gives_join xs ys
gives_join (Gives z ∷ xs) ys = ap (λ (l : List ℤ). z ∷ l) (gives_join xs ys)
gives_join (Makes e ∷ xs) ys = gives_join xs ys

module _ (k : CallWord) (least : ℕ) (part : ℤ) (here later : List Event) (f : IsFound k least part later) where
  abbrev joined : List ℤ → ℤ
  joined zs = merged default_half k (map (part_of default_half k) (zs ++ gives later))

  pub gave_value : (z p : ℤ) → IsWorth (worth.Value z) here → p ≡ merge default_half k (part_of default_half k z) part → IsFound k least p (here ++ later)
  gave_value z p w e = record {
    least_is = f.least_is ∙ sym (ap least_key (makes_join here later) ∙ ap (λ (l : List Effect). least_key (l ++ makes later)) w.0);
    part_is = e ∙ ap (λ (x : ℤ). merge default_half k (part_of default_half k z) x) f.part_is
        ∙ sym (ap (λ (l : List ℤ). merged default_half k (map (part_of default_half k) l)) (gives_join here later) ∙ ap joined w.1);
  }

  pub gave_nothing : IsWorth worth.Nothing here → IsFound k least part (here ++ later)
  gave_nothing w = record {
    least_is = f.least_is ∙ sym (ap least_key (makes_join here later) ∙ ap (λ (l : List Effect). least_key (l ++ makes later)) w.0);
    part_is = f.part_is ∙ sym (ap (λ (l : List ℤ). merged default_half k (map (part_of default_half k) l)) (gives_join here later) ∙ ap joined w.1);
  }

  pub gave_fault : (key n : ℕ) → IsWorth (worth.Fault key) here → n ≡ min key least → IsFound k n part (here ++ later)
  gave_fault key n w e = record {
    least_is = e ∙ ap (λ (x : ℕ). min key x) f.least_is ∙ sym (ap least_key (makes_join here later) ∙ ap (λ (l : List Effect). least_key (l ++ makes later)) w.0);
    part_is = f.part_is ∙ sym (ap (λ (l : List ℤ). merged default_half k (map (part_of default_half k) l)) (gives_join here later) ∙ ap joined w.1);
  }

-- one iteration more
pub one_more : (f : ℕ → List Event) (from count at : ℕ) → at < count → f (from + (count - 1 - at)) ++ each_from f (from + (count - at)) at ≡ each_from f (from + (count - (at + 1))) (at + 1)
one_more f from count at h =
    let i : from + (count - 1 - at) ≡ from + (count - (at + 1)) = omega (arith, h) in
    let j : from + (count - at) ≡ suc (from + (count - (at + 1))) = omega (arith, h) in
    let n : suc at ≡ at + 1 = omega arith in
    (λ x. f (i x) ++ each_from f (j x) at) ∙ ap (λ (y : ℕ). each_from f (from + (count - (at + 1))) y) n

-- the value of an iteration, merged with those after it, is the partial of them all
pub value_fits : (k : CallWord) (z part : ℤ) (here later all : List Event) → IsWorth (worth.Value z) here → part ≡ part_given k later → here ++ later ≡ all → FitsSigned w64 (part_given k all)
    → FitsSigned w64 (merge default_half k (part_of default_half k z) part)
value_fits k z part here later all w e q h = subst (λ (x : ℤ). FitsSigned w64 x)
    (ap (part_given k) (sym q) ∙ ap (λ (l : List ℤ). merged default_half k (map (part_of default_half k) l)) (gives_join here later) ∙ ap (λ (l : List ℤ). merged default_half k (map (part_of default_half k) (l ++ gives later))) w.1
    ∙ ap (λ (x : ℤ). merge default_half k (part_of default_half k z) x) (sym e)) h
