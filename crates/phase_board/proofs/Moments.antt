-- Wherever the rule holds, the words and the passes are a sound core.
use Rattle.std.proofs.Common.{◌≡◌, ℕ, Bool, refl, sym, ap, ◌∙◌, subst}
use mathlib.Core.Option.{some}
use lib.ListN.{get_elem?}
use Rattle.atomic_table.specs.Table.{State}
use Rattle.team_core.specs.declared.member.MemberState.{MemberState}
use Rattle.team_core.specs.declared.member.MemberState.TheVariants.{Within}
use Rattle.team_core.specs.Core.{member}
use Rattle.team_core.proofs.Keeping.{at_front, in_front}
use Rattle.team_core.proofs.Teams.{team_apart}
use Rattle.phase_board.specs.declared.plays.Run.{Run}
use Rattle.phase_board.specs.declared.plays.View.{View}
use Rattle.phase_board.specs.declared.plays.Role.{Role}
use Rattle.phase_board.specs.declared.plays.Role.TheVariants.{Of}
use Rattle.phase_board.specs.Rule.{course_of, S, Kept, found_by, Stands}
use Rattle.phase_board.specs.Moments.{Stays, IsSoundMoment}
use Rattle.phase_board.proofs.Moves.{sound_of}

module _ (r : Run) (s : State S View) (h : Kept r s) where
  -- the pass is the member that it says, and the member is its own
  owned : (pass m t : ℕ) (st : MemberState) (full : Bool) → Stays r s pass m t st full → (h.owner m ≡ pass) × (get_elem? h.core.members m ≡ some (member t st full))
  owned pass m t st full x =
      let role : x.0.role ≡ Of m t st full = x.3 in
      let o = subst (λ (z : Role). Stands r h.core (found_by (course_of r) h.steps) h.owner pass x.0.sights z) role (h.seats pass x.0 x.1).1 in
      (o.0, o.1)

  -- two members that hold the same unit are one
  one_holder : (m n t t' u d e : ℕ) (full full' : Bool) → get_elem? h.core.members m ≡ some (member t (Within u d) full) → get_elem? h.core.members n ≡ some (member t' (Within u e) full') → m ≡ n
  one_holder m n t t' u d e full full' a b =
      let sound = sound_of r s h in
      let front = at_front (course_of r) h.core sound m (member t (Within u d) full) a refl in
      let other = at_front (course_of r) h.core sound n (member t' (Within u e) full') b refl in
      (sound.here front.1).apart m n u d e
      (in_front (course_of r) h.core sound m (member t (Within u d) full) a front.0 (Within u d) refl)
      (in_front (course_of r) h.core sound n (member t' (Within u e) full') b other.0 (Within u e) refl)

  pub sound_moment : IsSoundMoment r s
  sound_moment = record {
    core = h.core;
    sound = sound_of r s h;
    words_are = h.words_are;
    members_are = λ pass m t st full x. (owned pass m t st full x).1;
    safe = λ m. team_apart r.phases r.opening r.team r.chunk h.core m h.may (sound_of r s h);
    held_once = λ t t' u i j x y.
        let a = owned i x.0 t (Within u x.1) x.2 x.3 in
        let b = owned j y.0 t' (Within u y.1) y.2 y.3 in
        sym a.0 ∙ ap h.owner (one_holder x.0 y.0 t t' u x.1 y.1 x.2 y.2 a.1 b.1) ∙ b.0;
  }
