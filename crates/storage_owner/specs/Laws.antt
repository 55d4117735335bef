-- What holds of cells that stand for a state.
use Rattle.std.specs.Prelude.{◌≡◌, ◌≢◌, ◌↔◌, ◌⊎◌, ℕ, ◌+◌, ◌<◌, Bool, true, List, [], ◌∷◌, ◌++◌, length, slice_index, slice_get, Option, Some, None, Result, Ok, ℤ}
use Rattle.std.specs.List.{AllPass, Contains}
use Rattle.ws_space.specs.declared.state.ArrayValue.{ArrayValue}
use Rattle.ws_space.specs.declared.state.VarState.{VarState}
use Rattle.ws_space.specs.declared.state.Var.{Var}
use Rattle.ws_space.specs.Values.{with_state, held}
use Rattle.ws_space.specs.Replace.{replaced}
use Rattle.ws_space.specs.WellFormed.{is_value}
use Rattle.phase_ops.specs.declared.phase.Range.{Range}
use Rattle.phase_ops.specs.declared.phase.Layout.{Layout}
use Rattle.phase_ops.specs.declared.effect.Effect.{Effect}
use Rattle.phase_ops.specs.declared.effect.Effect.TheVariants.{Store, Least, Fault}
use Rattle.phase_ops.specs.Phases.{Cells, word, lay}
use Rattle.phase_ops.specs.Free.{In}
use Rattle.phase_ops.specs.Free as free
use Rattle.hlfir_ops.specs.declared.kinds.ValueKind.{ValueKind}
use Rattle.hlfir_ops.specs.RulesValues.{elem_of}
use Rattle.storage_owner.specs.declared.needs.Needs.{Needs}
use Rattle.storage_owner.specs.Ranges.{range_at, HasCell, cells_of, IsApart}
use Rattle.storage_owner.specs.Layouts.{var_cells, box_cells, only, layout_of}
use Rattle.storage_owner.specs.Standing.{kind_of, numbers_from, Owner, number_of, owned, HasRoom, IsUnowned, StateStands, state_at, VarStands, is_truth, IsOfKind, HoldWords, IsNamed, Stands}

-- ---- layouts

-- A layout has room for the variables for which it was made.
abbrev pub RoomLaw : Type 0
RoomLaw =
    (matters : ℕ → Bool) (kinds : List ValueKind) (needs : Needs)
    → HasRoom (layout_of (only matters 0 kinds) needs) (kind_of kinds) (numbers_from 0 (only matters 0 kinds)) (cells_of (layout_of (only matters 0 kinds) needs))

-- The numbers of those that matter.
abbrev pub MatterLaw : Type 0
MatterLaw = (matters : ℕ → Bool) (kinds : List ValueKind) (n : ℕ) → In n (numbers_from 0 (only matters 0 kinds)) ↔ ((n < length kinds) × (matters n ≡ true))

-- the slots, the temporaries and the marks
abbrev pub unowned_ranges : Layout → List Range
unowned_ranges l = l.slots ∷ (l.temps ++ l.marks ∷ [])

-- No variable owns a cell of these.
abbrev pub UnownedLaw : Type 0
UnownedLaw = (l : Layout) (vs : List ℕ) (r : Range) (c : ℕ) → IsApart l → In r (unowned_ranges l) → HasCell r c → IsUnowned l vs c

-- ---- stores

-- the cells of these variables are alike in both memories
abbrev pub KeepsCells : Layout → Cells → Cells → List ℕ → Type 0
KeepsCells l m m' vs = (o : Owner) (c : ℕ) → In (number_of o) vs → HasCell (owned l o) c → slice_index m' c ≡ slice_index m c

-- the cells of these variables but for one of them
abbrev pub KeepsAllBut : Layout → Cells → Cells → List ℕ → ℕ → Type 0
KeepsAllBut l m m' vs goal = (o : Owner) (c : ℕ) → In (number_of o) vs → number_of o ≢ goal → HasCell (owned l o) c → slice_index m' c ≡ slice_index m c

-- What changes cells that no variable owns leaves the cells standing for the same state.
abbrev pub FrameLaw : Type 0
FrameLaw =
    (l : Layout) (kinds : ℕ → ValueKind) (vs : List ℕ) (cells : ℕ) (vars : List Var) (m m' : Cells)
    → HasRoom l kinds vs cells → Stands l kinds vs cells vars m → length m' ≡ cells → HoldWords m' → KeepsCells l m m' vs
    → Stands l kinds vs cells vars m'

-- what is stored fits a word
abbrev pub AreWords : List Effect → Type 0
AreWords [] = Unit {0}
AreWords (Store c v ∷ es) = (v < 18446744073709551616) × AreWords es
AreWords (Least c v ∷ es) = (v < 18446744073709551616) × AreWords es
AreWords (Fault k ∷ es) = AreWords es

-- Effects on cells that no variable owns leave the cells standing for the same state.
abbrev pub EffectsLaw : Type 0
EffectsLaw =
    (l : Layout) (kinds : ℕ → ValueKind) (vs : List ℕ) (cells : ℕ) (vars : List Var) (m : Cells) (es : List Effect)
    → HasRoom l kinds vs cells → Stands l kinds vs cells vars m → ((c : ℕ) → In c (free.stored es) ⊎ In c (free.lessened es) → IsUnowned l vs c) → AreWords es
    → Stands l kinds vs cells vars (lay m es)

-- What changes cells of one variable leaves all others standing.
abbrev pub OthersLaw : Type 0
OthersLaw =
    (l : Layout) (kinds : ℕ → ValueKind) (vs : List ℕ) (cells : ℕ) (vars : List Var) (m m' : Cells) (goal n : ℕ)
    → HasRoom l kinds vs cells → Stands l kinds vs cells vars m → KeepsAllBut l m m' vs goal → In n vs → n ≢ goal
    → VarStands m' l kinds vars n

-- Where the cells of one variable then stand for a new state of it, they stand for the state with that one.
abbrev pub UpdateLaw : Type 0
UpdateLaw =
    (l : Layout) (kinds : ℕ → ValueKind) (vs : List ℕ) (cells : ℕ) (vars : List Var) (m m' : Cells) (goal : ℕ) (v : Var) (s : VarState)
    → HasRoom l kinds vs cells → Stands l kinds vs cells vars m → length m' ≡ cells → HoldWords m' → KeepsAllBut l m m' vs goal
    → IsNamed vars goal v → IsOfKind (kinds goal) s → StateStands m' (range_at l.vars goal) (range_at l.boxes goal) (kinds goal) s
    → Stands l kinds vs cells (with_state vars v.name s) m'

-- The k-th of these places, from a cell on, holds the k-th value, and no other cell is changed.
pub record AreLaid (first : ℕ) (targets : List ℕ) (values : List ℤ) (m m' : Cells) : Type 0 where
  pub same_length : length m' ≡ length m
  pub given : (k t : ℕ) (z : ℤ) → slice_get targets k ≡ Some t → slice_get values k ≡ Some z → slice_index m' (first + t) ≡ word z
  pub others : (c : ℕ) → ((t : ℕ) → Contains targets t → c ≢ first + t) → slice_index m' c ≡ slice_index m c

-- What a step stores at its targets, all at once, is replacement in the variable.
abbrev pub ReplaceLaw : Type 0
ReplaceLaw =
    (l : Layout) (kinds : ℕ → ValueKind) (vs : List ℕ) (cells : ℕ) (vars : List Var) (m m' : Cells) (goal : ℕ) (v : Var) (a : ArrayValue) (line : ℕ) (places targets : List ℕ) (values : List ℤ) (s : VarState)
    → HasRoom l kinds vs cells → Stands l kinds vs cells vars m → In goal vs → IsNamed vars goal v → held v.state ≡ Some a
    → ((t : ℕ) → Contains targets t → t < length a.values) → length values ≡ length targets → AllPass (is_value (is_truth (elem_of (kinds goal)))) values
    → AreLaid (range_at l.vars goal).first targets values m m' → replaced line places a targets values ≡ Ok s
    → Stands l kinds vs cells (with_state vars v.name s) m'

-- ---- packed cells

-- these variables have the same in both memories, each laid out in its way
pub record AreCopied (l r : Layout) (kinds : ℕ → ValueKind) (vs : List ℕ) (m m' : Cells) : Type 0 where
  pub vars : (n p : ℕ) → In n vs → p < var_cells (kinds n) → slice_index m' ((range_at r.vars n).first + p) ≡ slice_index m ((range_at l.vars n).first + p)
  pub boxes : (n p : ℕ) → In n vs → p < box_cells (kinds n) → slice_index m' ((range_at r.boxes n).first + p) ≡ slice_index m ((range_at l.boxes n).first + p)

-- Copied into another layout for some of the variables, the cells stand there for these.
abbrev pub PackLaw : Type 0
PackLaw =
    (l r : Layout) (kinds : ℕ → ValueKind) (vs us : List ℕ) (cells packed : ℕ) (vars : List Var) (m m' : Cells)
    → Stands l kinds vs cells vars m → ((n : ℕ) → In n us → In n vs) → AreCopied l r kinds us m m' → length m' ≡ packed → HoldWords m'
    → Stands r kinds us packed vars m'

-- Copied back, the cells stand for a state that has these variables as the packed cells have them, and all others as before.
abbrev pub UnpackLaw : Type 0
UnpackLaw =
    (l r : Layout) (kinds : ℕ → ValueKind) (vs us : List ℕ) (cells packed : ℕ) (before vars : List Var) (m m' n : Cells)
    → HasRoom l kinds vs cells → Stands l kinds vs cells before m → Stands r kinds us packed vars m'
    → ((k : ℕ) → In k vs → (v : Var) × IsNamed vars k v)
    → ((k : ℕ) → In k vs → (In k us → ⊥) → state_at vars k ≡ state_at before k)
    → AreCopied r l kinds us m' n → ((o : Owner) (c : ℕ) → In (number_of o) vs → (In (number_of o) us → ⊥) → HasCell (owned l o) c → slice_index n c ≡ slice_index m c)
    → length n ≡ cells → HoldWords n
    → Stands l kinds vs cells vars n
