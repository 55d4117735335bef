-- Each step of a member keeps the state of the front.
use Rattle.std.proofs.Common.{◌≡◌, ◌≢◌, ◌⊎◌, ℕ, zero, suc, ◌+◌, ◌<◌, ◌≤◌, min, Bool, cond, List, [], ◌∷◌, length, get_or, set, sym, refl, ap, ◌∙◌, subst, arith, ⊎_elim, inl, inr, count_by}
use mathlib.Core.Logic.{dite}
use mathlib.Core.Option.{some, some-injective, some-ne-none}
use native.Mathlib.Decide.{ℕ_discrete}
use lib.ListN.{get_elem?}
use Rattle.std.proofs.lemmas.List.Sums.{sum_by-set}
use Rattle.team_core.proofs.Lists.{at_set, set_here, set_else, inside}
use Rattle.team_core.specs.declared.member.MemberState.{MemberState}
use Rattle.team_core.specs.declared.member.MemberState.TheVariants.{Ready, Within, Out, Arrived, Ended}
use Rattle.phase_ops.specs.declared.effect.Effect.{Effect}
use Rattle.phase_ops.specs.Course.{Memory, apply, Work, FreeOfRaces}
use Rattle.team_core.specs.declared.state.Numbers.{Numbers}
use Rattle.team_core.specs.Front.{is_past, is_within, is_there, Front}
use Rattle.team_core.proofs.Laying.{put, put_here, put_else, laid_more}

found : {A : Type 0} (xs : List A) (i : ℕ) (a : A) → get_elem? xs i ≡ some a → get_or xs i a ≡ a
found [] i a at = absurd (some-ne-none a (sym at))
found (x ∷ xs) zero a at = some-injective x a at
found (x ∷ xs) (suc i) a at = found xs i a at

pub counted : (p : MemberState → Bool) (xs : List MemberState) (m : ℕ) (old new : MemberState) → get_elem? xs m ≡ some old
    → count_by p (set xs m new) + cond (p old) 1 0 ≡ count_by p xs + cond (p new) 1 0
counted p xs m old new at = subst (λ (z : MemberState). count_by p (set xs m new) + cond (p z) 1 0 ≡ count_by p xs + cond (p new) 1 0) (found xs m old at)
    (sum_by-set (λ (x : MemberState). cond (p x) 1 0) xs m new old (inside xs m old at))

abbrev IsHeld : MemberState → Type 0
IsHeld Ready = ⊥
IsHeld (Within u d) = Unit {0}
IsHeld Out = ⊥
IsHeld Arrived = ⊥
IsHeld Ended = ⊥

abbrev unit_of : MemberState → ℕ
unit_of (Within u d) = u
unit_of _ = 0

abbrev done_of : MemberState → ℕ
done_of (Within u d) = d
done_of _ = 0

not_held : (x : MemberState) → (IsHeld x → ⊥) → (u d : ℕ) → x ≡ Within u d → ⊥
not_held x n u d e = n (subst IsHeld (sym e) tt)

module _ (w : Work) (start : Memory) where
  -- a member that holds no unit before and after
  elsewhere : (n n' : Numbers) (now : Memory) (states : List MemberState) (m : ℕ) (old new : MemberState) → get_elem? states m ≡ some old → (IsHeld old → ⊥) → (IsHeld new → ⊥)
      → (f : Front w start n now states) → n.claimed ≤ n'.claimed → (n.claimed ≡ n'.claimed) ⊎ (w.units ≤ n.claimed)
      → n'.claimed ≡ min n'.claimed w.units + count_by is_past (set states m new) → (0 < count_by is_past (set states m new) → w.units ≤ n'.claimed)
      → n'.finished + count_by is_within (set states m new) ≡ min n'.claimed w.units → n'.arrived ≡ count_by is_there (set states m new)
      → Front w start n' now (set states m new)
  elsewhere n n' now states m old new at not_old not_new f le or claimed past finished arrived = record {
    claimed_is = claimed;
    past = past;
    finished_is = finished;
    arrived_is = arrived;
    done = f.done;
    held = λ i u d at'. let h = f.held i u d (back i u d at').1 in (omega (arith, h.0, le), h.1, h.2, h.3);
    apart = λ i j u d e p q. f.apart i j u d e (back i u d p).1 (back j u e q).1;
    free = λ u l l' none. f.free u (⊎_elim (λ same. omega (arith, l, same)) (λ beyond. omega (arith, l', beyond)) or) l' (λ i d at'. none i d (forth i u d at'));
    later = λ u l. f.later u (omega (arith, l, le));
    now_is = f.now_is;
  }
    where
      back : (i u d : ℕ) → get_elem? (set states m new) i ≡ some (Within u d) → (i ≢ m) × (get_elem? states i ≡ some (Within u d))
      back i u d at' = ⊎_elim (λ (t : (i ≡ m) × (new ≡ Within u d)). absurd (not_held new not_new u d t.1)) (λ (t : (i ≢ m) × (get_elem? states i ≡ some (Within u d))). t) (at_set states m i new (Within u d) at')

      forth : (i u d : ℕ) → get_elem? states i ≡ some (Within u d) → get_elem? (set states m new) i ≡ some (Within u d)
      forth i u d at' = set_else states m i new (λ e. not_held old not_old u d (some-injective old (Within u d) (sym at ∙ (subst (λ (z : ℕ). get_elem? states z ≡ some (Within u d)) e at')))) ∙ at'

  module _ (n : Numbers) (now : Memory) (states : List MemberState) (m : ℕ) (f : Front w start n now states) where
    -- a member claims a unit
    pub claims_in : get_elem? states m ≡ some Ready → n.claimed < w.units → Front w start (record n { claimed = n.claimed + 1 }) now (set states m (Within n.claimed 0))
    claims_in at small = let new : MemberState = Within n.claimed 0 in
        let out = counted is_past states m Ready new at in
        let held = counted is_within states m Ready new at in
        let there = counted is_there states m Ready new at in
        let c = f.claimed_is in let g = f.finished_is in let a = f.arrived_is in record {
          claimed_is = omega arith;
          past = λ z. let p = f.past (omega arith) in absurd (omega arith);
          finished_is = omega arith;
          arrived_is = omega arith;
          done = f.done;
          held = λ i u d at'. ⊎_elim
              (λ (t : (i ≡ m) × (new ≡ Within u d)). let eu : n.claimed ≡ u = ap unit_of t.1 in let ed : 0 ≡ d = ap done_of t.1 in
              (omega (arith, eu), omega (arith, eu), omega (arith, ed), f.later u (omega (arith, eu)) ∙ ed))
              (λ (t : (i ≢ m) × (get_elem? states i ≡ some (Within u d))). let h = f.held i u d t.1 in (omega (arith, h.0), h.1, h.2, h.3))
              (at_set states m i new (Within u d) at');
          apart = λ i j u d e p q. ⊎_elim
              (λ (s : (i ≡ m) × (new ≡ Within u d)). ⊎_elim (λ (t : (j ≡ m) × (new ≡ Within u e)). s.0 ∙ sym t.0)
              (λ (t : (j ≢ m) × (get_elem? states j ≡ some (Within u e))). let h = (f.held j u e t.1).0 in let eu : n.claimed ≡ u = ap unit_of s.1 in absurd (omega arith)) (at_set states m j new (Within u e) q))
              (λ (s : (i ≢ m) × (get_elem? states i ≡ some (Within u d))). ⊎_elim (λ (t : (j ≡ m) × (new ≡ Within u e)). let h = (f.held i u d s.1).0 in let eu : n.claimed ≡ u = ap unit_of t.1 in absurd (omega arith))
              (λ (t : (j ≢ m) × (get_elem? states j ≡ some (Within u e))). f.apart i j u d e s.1 t.1) (at_set states m j new (Within u e) q))
              (at_set states m i new (Within u d) p);
          free = λ u l l' none. dite (ℕ_discrete u n.claimed)
              (λ e. absurd (none m 0 (set_here states m new (inside states m Ready at) ∙ ap (λ (z : ℕ). let y : MemberState = Within z 0 in some y) (sym e))))
              (λ other. f.free u (omega arith) l' (λ i d at'. none i d (set_else states m i new (λ e. not_held Ready (λ z. z) u d (some-injective Ready (Within u d) (sym at ∙ subst (λ (z : ℕ). get_elem? states z ≡ some (Within u d)) e at'))) ∙ at')));
          later = λ u l. f.later u (omega arith);
          now_is = f.now_is;
        }

    pub claims_out : get_elem? states m ≡ some Ready → w.units ≤ n.claimed → Front w start (record n { claimed = n.claimed + 1 }) now (set states m Out)
    claims_out at big =
        let out = counted is_past states m Ready Out at in
        let held = counted is_within states m Ready Out at in
        let there = counted is_there states m Ready Out at in
        let c = f.claimed_is in let g = f.finished_is in let a = f.arrived_is in
        elsewhere n (record n { claimed = n.claimed + 1 }) now states m Ready Out at (λ z. z) (λ z. z) f (omega arith) (inr big) (omega arith) (λ _. omega arith) (omega arith) (omega arith)

    pub arrives : get_elem? states m ≡ some Out → Front w start (record n { arrived = n.arrived + 1 }) now (set states m Arrived)
    arrives at =
        let out = counted is_past states m Out Arrived at in
        let held = counted is_within states m Out Arrived at in
        let there = counted is_there states m Out Arrived at in
        let c = f.claimed_is in let g = f.finished_is in let a = f.arrived_is in
        elsewhere n (record n { arrived = n.arrived + 1 }) now states m Out Arrived at (λ z. z) (λ z. z) f (omega arith) (inl refl) (omega arith) (λ z. f.past (omega arith)) (omega arith) (omega arith)

    pub ends : get_elem? states m ≡ some Arrived → Front w start n now (set states m Ended)
    ends at =
        let out = counted is_past states m Arrived Ended at in
        let held = counted is_within states m Arrived Ended at in
        let there = counted is_there states m Arrived Ended at in
        let c = f.claimed_is in let g = f.finished_is in let a = f.arrived_is in
        elsewhere n n now states m Arrived Ended at (λ z. z) (λ z. z) f (omega arith) (inl refl) (omega arith) (λ z. f.past (omega arith)) (omega arith) (omega arith)

    -- a member does the next effect of its unit
    pub does : FreeOfRaces w → (u d : ℕ) (e : Effect) → get_elem? states m ≡ some (Within u d) → get_elem? (w.effects u) d ≡ some e → Front w start n (apply e now) (set states m (Within u (suc d)))
    does free u d e at eff = let new : MemberState = Within u (suc d) in
        let out = counted is_past states m (Within u d) new at in
        let held = counted is_within states m (Within u d) new at in
        let there = counted is_there states m (Within u d) new at in
        let c = f.claimed_is in let g = f.finished_is in let a = f.arrived_is in let mine = f.held m u d at in let long = inside (w.effects u) d e eff in record {
          claimed_is = omega arith;
          past = λ z. f.past (omega arith);
          finished_is = omega arith;
          arrived_is = omega arith;
          done = put f.done u (suc (f.done u));
          held = λ i v b at'. ⊎_elim
              (λ (t : (i ≡ m) × (new ≡ Within v b)). let eu : u ≡ v = ap unit_of t.1 in let ed : suc d ≡ b = ap done_of t.1 in (
                omega (arith, eu, mine.0),
                omega (arith, eu, mine.1),
                subst (λ (z : ℕ). b ≤ length (w.effects z)) eu (omega (arith, ed, long)),
                ap (put f.done u (suc (f.done u))) (sym eu) ∙ (put_here f.done u (suc (f.done u)) ∙ (ap suc mine.3 ∙ ed)),
              ))
              (λ (t : (i ≢ m) × (get_elem? states i ≡ some (Within v b))). let h = f.held i v b t.1 in
              (h.0, h.1, h.2, put_else f.done u (suc (f.done u)) v (λ e'. t.0 (f.apart i m u b d (subst (λ (z : ℕ). get_elem? states i ≡ some (Within z b)) e' t.1) at)) ∙ h.3))
              (at_set states m i new (Within v b) at');
          apart = λ i j v b e' p q. f.apart i j v (was i v b p).0 (was j v e' q).0 (was i v b p).1 (was j v e' q).1;
          free = λ v l l' none. let other : v ≢ u = λ e'. none m (suc d) (set_here states m new (inside states m (Within u d) at) ∙ ap (λ (z : ℕ). let y : MemberState = Within z (suc d) in some y) (sym e')) in
              put_else f.done u (suc (f.done u)) v other ∙ f.free v l l' (λ i b at'. none i b (set_else states m i new (λ e'. other (sym (ap unit_of (some-injective (Within u d) (Within v b) (sym at ∙ subst (λ (z : ℕ). get_elem? states z ≡ some (Within v b)) e' at'))))) ∙ at'));
          later = λ v l. put_else f.done u (suc (f.done u)) v (λ e'. let x = mine.0 in omega arith) ∙ f.later v l;
          now_is = ap (apply e) f.now_is ∙ sym (laid_more w free start f.done u w.units e (omega arith) mine.1 (ap (get_elem? (w.effects u)) mine.3 ∙ eff));
        }
      where
        was : (i v b : ℕ) → get_elem? (set states m (Within u (suc d))) i ≡ some (Within v b) → (c : ℕ) × (get_elem? states i ≡ some (Within v c))
        was i v b at' = ⊎_elim (λ (t : (i ≡ m) × (Within u (suc d) ≡ Within v b)). (d, subst (λ (z : ℕ × ℕ). get_elem? states z.0 ≡ some (Within z.1 d)) (λ k. (sym t.0 k, ap unit_of t.1 k)) at))
            (λ (t : (i ≢ m) × (get_elem? states i ≡ some (Within v b))). (b, t.1)) (at_set states m i (Within u (suc d)) (Within v b) at')

    -- a member has done all effects of its unit
    pub finishes : (u d : ℕ) → get_elem? states m ≡ some (Within u d) → d ≡ length (w.effects u) → Front w start (record n { finished = n.finished + 1 }) now (set states m Ready)
    finishes u d at whole =
        let out = counted is_past states m (Within u d) Ready at in
        let held = counted is_within states m (Within u d) Ready at in
        let there = counted is_there states m (Within u d) Ready at in
        let c = f.claimed_is in let g = f.finished_is in let a = f.arrived_is in let mine = f.held m u d at in record {
          claimed_is = omega arith;
          past = λ z. f.past (omega arith);
          finished_is = omega arith;
          arrived_is = omega arith;
          done = f.done;
          held = λ i v b at'. f.held i v b (back i v b at').1;
          apart = λ i j v b e p q. f.apart i j v b e (back i v b p).1 (back j v e q).1;
          free = λ v l l' none. dite (ℕ_discrete v u) (λ e. ap f.done e ∙ (mine.3 ∙ (whole ∙ ap (λ (z : ℕ). length (w.effects z)) (sym e))))
              (λ other. f.free v l l' (λ i b at'. none i b (set_else states m i Ready (λ e'. other (sym (ap unit_of (some-injective (Within u d) (Within v b) (sym at ∙ subst (λ (z : ℕ). get_elem? states z ≡ some (Within v b)) e' at'))))) ∙ at')));
          later = f.later;
          now_is = f.now_is;
        }
      where
        back : (i v b : ℕ) → get_elem? (set states m Ready) i ≡ some (Within v b) → (i ≢ m) × (get_elem? states i ≡ some (Within v b))
        back i v b at' = ⊎_elim (λ (t : (i ≡ m) × (Ready ≡ Within v b)). absurd (not_held Ready (λ z. z) v b t.1)) (λ (t : (i ≢ m) × (get_elem? states i ≡ some (Within v b))). t) (at_set states m i Ready (Within v b) at')
