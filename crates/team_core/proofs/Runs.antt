-- Every schedule keeps a core sound.
use Rattle.std.proofs.Common.{◌≡◌, ℕ, ◌<◌, eqb, cond, Bool, true, false, List, [], ◌∷◌, ◌++◌, length, sym, refl, ap, ◌∙◌, subst, arith}
use mathlib.Core.Option.{Option, none, some, some-injective, some-ne-none}
use lib.ListN.{get_elem?}
use Rattle.std.proofs.lemmas.Bool.Decides.{nat_tests}
use Rattle.team_core.specs.declared.member.MemberState.{MemberState}
use Rattle.team_core.specs.declared.member.MemberState.TheVariants.{Ready, Within, Out, Arrived, Ended}
use Rattle.team_core.specs.declared.member.StepKind.{StepKind}
use Rattle.team_core.specs.declared.member.StepKind.TheVariants.{Claim, Look, Put, Note, Finish, Arrive, See, Verdict}
use Rattle.team_core.specs.declared.member.StepKind.TheVariants as kind
use Rattle.phase_ops.specs.Free.{In}
use Rattle.std.proofs.Common.{◌⊎◌, inl, inr}
use Rattle.phase_ops.specs.declared.effect.Effect.{Effect}
use Rattle.phase_ops.specs.declared.effect.Effect.TheVariants.{Store, Least, Fault}
use Rattle.phase_ops.specs.Course.{Course, Safe, work_at}
use Rattle.team_core.specs.declared.state.CoreState.{CoreState}
use Rattle.team_core.specs.declared.state.Member.{Member}
use Rattle.team_core.specs.Core.{Sound, start, finishes, sees, judges}
use Rattle.team_core.specs.Runs.{put_or, least_or, note_or, stepped, of_member, or_same, happens, run, Reads, IsSafeStore}
use Rattle.team_core.proofs.Keeping.{at_front, in_front, keeps_claim, keeps_act, keeps_finish, keeps_arrive, keeps_see, keeps_judge}
use Rattle.team_core.proofs.Ends.{starts}
use Rattle.phase_ops.specs.Free.{stored, lessened}
use Rattle.phase_ops.proofs.Laying.{stored_is, lessened_is}
use Rattle.team_core.proofs.Lists.{member_at}

module _ (c : Course) (safe : Safe c) (k : CoreState) (s : Sound c k) (m : ℕ) (x : Member) (at : get_elem? k.members m ≡ some x) where
  same : {k' k'' : CoreState} → some k'' ≡ some k' → Sound c k'' → Sound c k'
  same {k'} {k''} e h = subst (Sound c) (some-injective k'' k' e) h

  never : {k' : CoreState} → none ≡ some k' → Sound c k'
  never {k'} e = absurd (some-ne-none k' (sym e))

  puts : (u d : ℕ) (o : Option Effect) → x.state ≡ Within u d → get_elem? ((work_at c x.phase).effects u) d ≡ o → (k' : CoreState) → put_or k m x u d o ≡ some k' → Sound c k'
  puts u d (some (Store e v)) is q k' h = same h (keeps_act c k s m x at safe u d (Store e v) is q).0
  puts u d (some (Least e v)) is q k' h = never h
  puts u d (some (Fault f)) is q k' h = never h
  puts u d none is q k' h = never h

  leasts : (u d : ℕ) (o : Option Effect) → x.state ≡ Within u d → get_elem? ((work_at c x.phase).effects u) d ≡ o → (k' : CoreState) → least_or k m x u d o ≡ some k' → Sound c k'
  leasts u d (some (Store e v)) is q k' h = never h
  leasts u d (some (Least e v)) is q k' h = same h (keeps_act c k s m x at safe u d (Least e v) is q).0
  leasts u d (some (Fault f)) is q k' h = never h
  leasts u d none is q k' h = never h

  notes : (u d : ℕ) (o : Option Effect) → x.state ≡ Within u d → get_elem? ((work_at c x.phase).effects u) d ≡ o → (k' : CoreState) → note_or k m x u d o ≡ some k' → Sound c k'
  notes u d (some (Store e v)) is q k' h = never h
  notes u d (some (Least e v)) is q k' h = never h
  notes u d (some (Fault f)) is q k' h = same h (keeps_act c k s m x at safe u d (Fault f) is q).0
  notes u d none is q k' h = never h

  whole : (u d : ℕ) (b : Bool) → x.state ≡ Within u d → eqb d (length ((work_at c x.phase).effects u)) ≡ b → (k' : CoreState) → cond b (some (finishes k m x)) none ≡ some k' → Sound c k'
  whole u d true is q k' h = same h (keeps_finish c k s m x at u d is (let e = q in grind (arith, nat_tests))).0
  whole u d false is q k' h = never h

  marked : (b : Bool) → x.state ≡ Arrived → x.full ≡ b → (k' : CoreState) → cond b none (some (sees c k m x)) ≡ some k' → Sound c k'
  marked true is q k' h = never h
  marked false is q k' h = same h (keeps_see c k s m x at is).0

  judged : (b : Bool) → x.state ≡ Arrived → x.full ≡ b → (k' : CoreState) → cond b (some (judges c k m x)) none ≡ some k' → Sound c k'
  judged true is q k' h = same h (keeps_judge c k s m x at is q).0
  judged false is q k' h = never h

  pub steps : (how : StepKind) (st : MemberState) → x.state ≡ st → (k' : CoreState) → stepped c k m x how st ≡ some k' → Sound c k'
  steps Claim Ready is k' h = same h (keeps_claim c k s m x at is).0
  steps Look Ready is k' h = same h s
  steps Look (Within u d) is k' h = same h s
  steps Put (Within u d) is k' h = puts u d (get_elem? ((work_at c x.phase).effects u) d) is refl k' h
  steps kind.Least (Within u d) is k' h = leasts u d (get_elem? ((work_at c x.phase).effects u) d) is refl k' h
  steps Note (Within u d) is k' h = notes u d (get_elem? ((work_at c x.phase).effects u) d) is refl k' h
  steps Finish (Within u d) is k' h = whole u d (eqb d (length ((work_at c x.phase).effects u))) is refl k' h
  steps Arrive Out is k' h = same h (keeps_arrive c k s m x at is).0
  steps See Arrived is k' h = marked x.full is refl k' h
  steps Verdict Arrived is k' h = judged x.full is refl k' h
  steps _ _ is k' h = never h

happens_sound : (c : Course) → Safe c → (k : CoreState) → Sound c k → (e : ℕ × StepKind) → Sound c (happens c k e)
happens_sound c safe k s e = go (get_elem? k.members e.0) refl
  where
    settle : (o : Option CoreState) → ((k' : CoreState) → o ≡ some k' → Sound c k') → Sound c (or_same k o)
    settle none h = s
    settle (some k') h = h k' refl

    go : (o : Option Member) → get_elem? k.members e.0 ≡ o → Sound c (or_same k (of_member c k e.0 e.1 o))
    go none q = s
    go (some x) q = settle (stepped c k e.0 x e.1 x.state) (λ k' h. steps c safe k s e.0 x q e.1 x.state refl k' h)

run_sound : (c : Course) → Safe c → (k : CoreState) → Sound c k → (es : List (ℕ × StepKind)) → Sound c (run c k es)
run_sound c safe k s [] = s
run_sound c safe k s (e ∷ es) = run_sound c safe (happens c k e) (happens_sound c safe k s e) es

pub every_run : (c : Course) (es : List (ℕ × StepKind)) → Safe c → 0 < c.team → Sound c (run c (start c) es)
every_run c es safe someone = run_sound c safe (start c) (starts c someone).0 es

-- no other member may read a cell that a member is about to change
pub stores_apart : (c : Course) (k : CoreState) (m : ℕ) → Safe c → Sound c k → IsSafeStore c k m
stores_apart c k m safe s cell j a other b = go b.0.state refl b.2
  where
    live : (a.0.phase ≡ s.front) × (s.front < c.count)
    live = at_front c k s m a.0 a.4 (ap Rattle.team_core.specs.Front.is_there a.5)

    unit_there : a.1 < (work_at c s.front).units
    unit_there = ((s.here live.1).held m a.1 a.2 (in_front c k s m a.0 a.4 live.0 (Within a.1 a.2) a.5)).1

    targets : (t : ℕ) → ((get_elem? ((work_at c t).effects a.1) a.2 ≡ some (Store cell a.3)) ⊎ (get_elem? ((work_at c t).effects a.1) a.2 ≡ some (Least cell a.3)))
        → In cell (stored ((work_at c t).effects a.1)) ⊎ In cell (lessened ((work_at c t).effects a.1))
    targets t (inl e) = inl (stored_is cell a.3 ((work_at c t).effects a.1) (member_at ((work_at c t).effects a.1) a.2 (Store cell a.3) e))
    targets t (inr e) = inr (lessened_is cell a.3 ((work_at c t).effects a.1) (member_at ((work_at c t).effects a.1) a.2 (Least cell a.3) e))

    target : In cell (stored ((work_at c s.front).effects a.1)) ⊎ In cell (lessened ((work_at c s.front).effects a.1))
    target = subst (λ (t : ℕ). In cell (stored ((work_at c t).effects a.1)) ⊎ In cell (lessened ((work_at c t).effects a.1))) live.0 (targets a.0.phase a.6)

    one_unit : (u : ℕ) → u < (work_at c s.front).units → In cell ((work_at c s.front).reads u)
        → In cell (stored ((work_at c s.front).effects a.1)) ⊎ In cell (lessened ((work_at c s.front).effects a.1)) → a.1 ≡ u
    one_unit u hu r (inl h) = (safe s.front live.1 s.keyless).loads_apart a.1 u cell unit_there hu h r
    one_unit u hu r (inr h) = absurd ((safe s.front live.1 s.keyless).leasts a.1 u cell unit_there hu h (inr r))

    go : (st : MemberState) → b.0.state ≡ st → Reads c b.0 st cell → ⊥
    go Ready is r = let l = at_front c k s j b.0 b.1 (ap Rattle.team_core.specs.Front.is_there is) in
        (safe s.front live.1 s.keyless).parameter_apart a.1 cell unit_there target (subst (λ (t : ℕ). In cell (work_at c t).parameter) l.0 r)
    go (Within u d) is r = let l = at_front c k s j b.0 b.1 (ap Rattle.team_core.specs.Front.is_there is) in
        let mine = in_front c k s j b.0 b.1 l.0 (Within u d) is in
        let same_unit : u ≡ a.1 = sym (one_unit u ((s.here live.1).held j u d mine).1 (subst (λ (t : ℕ). In cell ((work_at c t).reads u)) l.0 r) target) in
        other ((s.here live.1).apart j m u d a.2 mine (in_front c k s m a.0 a.4 live.0 (Within u a.2) (a.5 ∙ ap (λ (z : ℕ). let y : MemberState = Within z a.2 in y) (sym same_unit))))
    go Out is r = r
    go Arrived is r = r
    go Ended is r = r

pub one_more : (c : Course) (k : CoreState) (es : List (ℕ × StepKind)) (e : ℕ × StepKind) → run c k (es ++ e ∷ []) ≡ happens c (run c k es) e
one_more c k [] e = refl
one_more c k (x ∷ es) e = one_more c (happens c k x) es e

-- a step that the member's state allows
pub takes : (c : Course) (k k' : CoreState) (m : ℕ) (x : Member) (kind : StepKind) → get_elem? k.members m ≡ some x → stepped c k m x kind x.state ≡ some k' → happens c k (m, kind) ≡ k'
takes c k k' m x kind at e = ap (λ (o : Option Member). or_same k (of_member c k m kind o)) at ∙ ap (or_same k) e
