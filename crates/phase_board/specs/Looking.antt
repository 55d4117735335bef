-- The states in which a member may look.
use Rattle.std.specs.Prelude.{◌≡◌}
use Rattle.team_core.specs.declared.member.MemberState.{MemberState}
use Rattle.team_core.specs.declared.member.MemberState.TheVariants.{Ready, Within, Out, Arrived, Ended}

abbrev pub Looking : MemberState → Type 0
Looking Ready = Unit {0}
Looking (Within u d) = Unit {0}
Looking Out = ⊥
Looking Arrived = ⊥
Looking Ended = ⊥

-- where it has done no effect of its unit yet
abbrev pub HasDoneNothing : MemberState → Type 0
HasDoneNothing Ready = Unit {0}
HasDoneNothing (Within u d) = d ≡ 0
HasDoneNothing Out = ⊥
HasDoneNothing Arrived = ⊥
HasDoneNothing Ended = ⊥
