-- The place of a variable in the list of all.
use Rattle.std.specs.Prelude.{◌≡◌, ℕ, ◌<◌, List, length, slice_set}
use Rattle.std.specs.List.{All}
use Rattle.ws_space.specs.declared.state.VarState.{VarState}
use Rattle.ws_space.specs.declared.state.Var.{Var}
use Rattle.ws_space.specs.Values.{Name, with_state}
use Rattle.std.proofs.Common.{get_or}

-- there is no variable of this name
abbrev pub IsAbsent : List Var → Name → Type 0
IsAbsent vs x = (s : VarState) → with_state vs x s ≡ vs

-- the first variable of this name stands here
abbrev pub IsPlace : List Var → Name → ℕ → Type 0
IsPlace vs x i = (i < length vs) × ((s : VarState) (d : Var) → with_state vs x s ≡ slice_set vs i (record { name = x; truth = (get_or vs i d).truth; state = s }))
