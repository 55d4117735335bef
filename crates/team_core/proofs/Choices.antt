-- What a member's state, its mark and its next effect allow is what a core's steps allow.
use Rattle.std.proofs.Common.{◌≡◌, ℕ, ◌<◌, Bool, true, false, cond, eqb, length, slice_index_or, sym, refl, ap, ◌∙◌, eq-eqb, ne_eqb, arith, List}
use Rattle.std.specs.Prelude as std
use mathlib.Core.Option.{none, some}
use lib.ListN.{get_elem?}
use Rattle.team_core.specs.declared.member.MemberState.{MemberState}
use Rattle.team_core.specs.declared.member.MemberState.TheVariants.{Ready, Within, Out, Arrived, Ended}
use Rattle.team_core.specs.declared.member.StepKind.{StepKind}
use Rattle.team_core.specs.declared.member.StepKind.TheVariants as kind
use Rattle.team_core.specs.declared.state.Member.{Member}
use Rattle.team_core.specs.declared.state.CoreState.{CoreState}
use Rattle.phase_ops.specs.declared.effect.Effect.{Effect}
use Rattle.phase_ops.specs.declared.effect.Effect.TheVariants.{Store, Least, Fault}
use Rattle.phase_ops.specs.Course.{Course, work_at}
use Rattle.team_core.specs.Core.{member_of, finishes, sees, judges}
use Rattle.team_core.specs.Runs.{stepped, put_or, least_or, note_or}
use Rattle.team_core.specs.Machines.{as_option, Holds, allowed, is_look, Did}
use Rattle.team_core.proofs.Lists.{inside}
use Rattle.team_core.proofs.Fronts.{untrue}
use Rattle.team_core.proofs.Machines.{whole_is}

module _ (c : Course) (k : CoreState) (pending : List (std.Option Effect)) (entered : ℕ) (ready : Type 0) (h : Holds c k pending entered ready) (m : ℕ) (there : m < c.team) where
  next_of : (u d : ℕ) (o : std.Option Effect) → (member_of k m).state ≡ Within u d → slice_index_or pending m std.None ≡ o → get_elem? ((work_at c (member_of k m).phase).effects u) d ≡ as_option o
  next_of u d o is q = sym (h.pending_is m u d tt there is) ∙ ap (λ (z : std.Option Effect). as_option z) q

  abbrev x : Member
  x = member_of k m

  pub performs : (how : StepKind) (st : MemberState) (f : Bool) (o : std.Option Effect) → (member_of k m).state ≡ st → (member_of k m).full ≡ f → slice_index_or pending m std.None ≡ o
      → allowed how st f o ≡ true → is_look how ≡ false → (k' : CoreState) → Did c k m (member_of k m) st f o k' → stepped c k m (member_of k m) how st ≡ some k'
  performs kind.Claim Ready f o is fu q a l k' d = ap some (sym d)
  performs kind.Put (Within u d) f (std.Some (Store cell v)) is fu q a l k' did = ap (put_or k m x u d) (next_of u d (std.Some (Store cell v)) is q) ∙ ap some (sym did)
  performs kind.Least (Within u d) f (std.Some (Least cell v)) is fu q a l k' did = ap (least_or k m x u d) (next_of u d (std.Some (Least cell v)) is q) ∙ ap some (sym did)
  performs kind.Note (Within u d) f (std.Some (Fault key)) is fu q a l k' did = ap (note_or k m x u d) (next_of u d (std.Some (Fault key)) is q) ∙ ap some (sym did)
  performs kind.Finish (Within u d) f std.None is fu q a l k' did =
      ap (λ (b : Bool). cond b (some (finishes k m x)) none) (eq-eqb d (length ((work_at c x.phase).effects u)) (whole_is c k pending entered ready h m there u d is q)) ∙ ap some (sym did)
  performs kind.Arrive Out f o is fu q a l k' d = ap some (sym d)
  performs kind.See Arrived false o is fu q a l k' d = ap (λ (b : Bool). cond b none (some (sees c k m x))) fu ∙ ap some (sym d)
  performs kind.Verdict Arrived true o is fu q a l k' d = ap (λ (b : Bool). cond b (some (judges c k m x)) none) fu ∙ ap some (sym d)
  performs kind.Look st f o is fu q a l k' d = absurd (untrue (sym l))
  performs _ _ _ _ is fu q a l k' d = absurd (untrue a)

  pub looks : (st : MemberState) (f : Bool) (o : std.Option Effect) → allowed kind.Look st f o ≡ true → stepped c k m (member_of k m) kind.Look st ≡ some k
  looks Ready f o a = refl
  looks (Within u d) f o a = refl
  looks Out f o a = absurd (untrue a)
  looks Arrived f o a = absurd (untrue a)
  looks Ended f o a = absurd (untrue a)

  pub refuses : (how : StepKind) (st : MemberState) (f : Bool) (o : std.Option Effect) → (member_of k m).state ≡ st → (member_of k m).full ≡ f → slice_index_or pending m std.None ≡ o
      → allowed how st f o ≡ false → stepped c k m (member_of k m) how st ≡ none
  refuses kind.Claim Ready f o is fu q a = absurd (untrue (sym a))
  refuses kind.Look Ready f o is fu q a = absurd (untrue (sym a))
  refuses kind.Look (Within u d) f o is fu q a = absurd (untrue (sym a))
  refuses kind.Put (Within u d) f (std.Some (Store cell v)) is fu q a = absurd (untrue (sym a))
  refuses kind.Put (Within u d) f (std.Some (Least cell v)) is fu q a = ap (put_or k m x u d) (next_of u d (std.Some (Least cell v)) is q)
  refuses kind.Put (Within u d) f (std.Some (Fault key)) is fu q a = ap (put_or k m x u d) (next_of u d (std.Some (Fault key)) is q)
  refuses kind.Put (Within u d) f std.None is fu q a = ap (put_or k m x u d) (next_of u d std.None is q)
  refuses kind.Least (Within u d) f (std.Some (Store cell v)) is fu q a = ap (least_or k m x u d) (next_of u d (std.Some (Store cell v)) is q)
  refuses kind.Least (Within u d) f (std.Some (Least cell v)) is fu q a = absurd (untrue (sym a))
  refuses kind.Least (Within u d) f (std.Some (Fault key)) is fu q a = ap (least_or k m x u d) (next_of u d (std.Some (Fault key)) is q)
  refuses kind.Least (Within u d) f std.None is fu q a = ap (least_or k m x u d) (next_of u d std.None is q)
  refuses kind.Note (Within u d) f (std.Some (Store cell v)) is fu q a = ap (note_or k m x u d) (next_of u d (std.Some (Store cell v)) is q)
  refuses kind.Note (Within u d) f (std.Some (Least cell v)) is fu q a = ap (note_or k m x u d) (next_of u d (std.Some (Least cell v)) is q)
  refuses kind.Note (Within u d) f (std.Some (Fault key)) is fu q a = absurd (untrue (sym a))
  refuses kind.Note (Within u d) f std.None is fu q a = ap (note_or k m x u d) (next_of u d std.None is q)
  refuses kind.Finish (Within u d) f (std.Some e) is fu q a = ap (λ (b : Bool). cond b (some (finishes k m x)) none) (unfinished u d e (next_of u d (std.Some e) is q))
    where
      unfinished : (u d : ℕ) (e : Effect) → get_elem? ((work_at c x.phase).effects u) d ≡ some e → eqb d (length ((work_at c x.phase).effects u)) ≡ false
      unfinished u d e at = ne_eqb d (length ((work_at c x.phase).effects u)) (λ s. let i = inside ((work_at c x.phase).effects u) d e at in omega (arith, s, i))
  refuses kind.Finish (Within u d) f std.None is fu q a = absurd (untrue (sym a))
  refuses kind.Arrive Out f o is fu q a = absurd (untrue (sym a))
  refuses kind.See Arrived false o is fu q a = absurd (untrue (sym a))
  refuses kind.See Arrived true o is fu q a = ap (λ (b : Bool). cond b none (some (sees c k m x))) fu
  refuses kind.Verdict Arrived true o is fu q a = absurd (untrue (sym a))
  refuses kind.Verdict Arrived false o is fu q a = ap (λ (b : Bool). cond b (some (judges c k m x)) none) fu
  refuses _ _ _ _ is fu q a = refl
