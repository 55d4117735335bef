-- What designators of a module select is what those of its source select.
use Rattle.std.specs.Prelude.{◌≡◌, ℕ, ◌<◌, ◌≤◌, ◌==◌, false, List, Ok}
use mathlib.Core.Former.{Count}
use Rattle.ws_base.specs.declared.name.Name.{Name}
use Rattle.ws_base.specs.Outcomes.{Staged, ◌>>=◌}
use Rattle.ws_space.specs.declared.shape.Dim.{Dim}
use Rattle.ws_space.specs.declared.state.ArrayValue.{ArrayValue}
use Rattle.ws_space.specs.declared.state.VarState.{VarState}
use Rattle.ws_space.specs.declared.state.Var.{Var}
use Rattle.ws_space.specs.Shapes.{dims}
use Rattle.ws_space.specs.Values.{state_of}
use Rattle.ws_space.specs.Sections.{elements_at}
use Rattle.ws_tree.specs.declared.expr.Expr.{Expr}
use Rattle.ws_tree.specs.declared.expr.Expr.TheVariants.{Part'}
use Rattle.ws_tree.specs.Trees.{Subs}
use Rattle.array_meaning.specs.declared.world.World.{World}
use Rattle.array_meaning.specs.declared.term.Term.{Term}
use Rattle.array_meaning.specs.declared.term.Term.TheVariants.{Section}
use Rattle.array_meaning.specs.declared.term.Pick.{Pick}
use Rattle.array_meaning.specs.Stage1 as source
use Rattle.array_meaning.specs.Stage2 as later
use Rattle.hlfir_ops.specs.declared.kinds.ValueKind.{ValueKind}
use Rattle.hlfir_ops.specs.declared.op.ValueId.{ValueId}
use Rattle.hlfir_meaning.specs.Environments.{Selection, variable, Environment}
use Rattle.hlfir_meaning.specs.Selections.{array_operand, extents, columns, checked}
use Rattle.hlfir_meaning.specs.Stage2.{targets}
use Rattle.lower_values.specs.declared.operand.Operand.{Operand}
use Rattle.lower_values.specs.declared.operand.Subscript.{Subscript}
use Rattle.lower_values.specs.Scopes.{Scope}
use Rattle.lower_values.specs.Lowerings.{Lowering, next}
use Rattle.lower_values.specs.References.{declare_of, boxed, loaded, designated}
use Rattle.lower_values.specs.Values.{part_of, value, subscripts}
use Rattle.value_laws.specs.Standing.{Does, AreIn, StandsSettled}
use Rattle.value_laws.specs.Variables.{Fits, IsNamed}
use Rattle.part_laws.specs.Selects.{Selects, selected_by, Agree}
use Rattle.part_laws.specs.Parts.{Refers, IsPart, StandsTaken, StandsUnnamed}
use Rattle.part_laws.specs.Subscripts.{AreWithin, SubscriptsStand, SelectsLater, DeclaresArray, SubscriptsFit, SectionFits}

-- ---- selections

abbrev pub ShapesAreSame : Type 0
ShapesAreSame = (ds : List Dim) (s : Selection) (ps : List Pick) → Selects ds s ps → extents s ≡ source.picked ps

-- What is looked at before any element leaves selections that are related again, or the same fault.
abbrev pub ChecksAreSame : Type 0
ChecksAreSame = (ds : List Dim) (s : Selection) (ps : List Pick) → Selects ds s ps → Agree (Selects ds) (checked ds s) (source.checked ds ps)

-- the elements at any places of the section
abbrev pub ElementsAreSame : Type 0
ElementsAreSame = (a : ArrayValue) (ds : List Dim) (s : Selection) (ps : List Pick) → Selects ds s ps → (at : List ℕ) → AreIn at (array_operand (extents s)) →
    (columns s at >>= elements_at a at) ≡ later.values (Section a ps) at

-- and their places, for a left side
abbrev pub TargetsAreSame : Type 0
TargetsAreSame = (a : ArrayValue) (ds : List Dim) (s : Selection) (ps : List Pick) → Selects ds s ps → (at : List ℕ) → AreIn at (array_operand (extents s)) →
    targets a s at ≡ later.targets (Section a ps) at

-- ---- designators

-- Its op leaves the element's place or the section, of which all bounds hold, or faults as its source does.
abbrev pub DesignatorsSelect : Type 0
DesignatorsSelect = (vectors : List ℕ) (base low : ℕ) (s : Scope) (n : ℕ) (env : Environment) (r : Operand) (v : Var) (a : ArrayValue) → low ≤ n → Refers base low n env r v a →
    (ss : List Subscript) (ps : List Pick) → Selects (dims a.shape) (selected_by env ss) ps →
    Does vectors s n env (designated r ss) (source.selected a ps) (λ x qs m after. IsPart low m after x v a qs)

-- the walk of an expression, where what is left may be a subscript too
abbrev pub LeavesTaken : List ℕ → ℕ → ℕ → Scope → ℕ → Environment → Lowering Operand → Staged Term → Type 0
LeavesTaken vectors base low s n env p r = Does vectors s n env p r (λ x t after rho. StandsTaken base low after rho x t)

abbrev pub LeavesUnnamed : List ℕ → ℕ → ℕ → Scope → ℕ → Environment → Lowering Operand → Staged Term → Type 0
LeavesUnnamed vectors base low s n env p r = Does vectors s n env p r (λ x t after rho. StandsUnnamed base low after rho x t)

-- an element is loaded, and a section is an operand of stage 2
abbrev pub PartsStand : Type 0
PartsStand = (vectors : List ℕ) (base low : ℕ) (s : Scope) (n : ℕ) (env : Environment) (x : Operand) (v : Var) (a : ArrayValue) (qs : List Pick) → low ≤ n → IsPart low n env x v a qs →
    LeavesUnnamed vectors base low s n env (loaded x) (source.section_or_element (source.picked qs) a qs)

abbrev pub DesignatorsStand : Type 0
DesignatorsStand = (vectors : List ℕ) (base low : ℕ) (s : Scope) (n : ℕ) (env : Environment) (r : Operand) (v : Var) (a : ArrayValue) → low ≤ n → Refers base low n env r v a →
    (ss : List Subscript) (ps : List Pick) → Selects (dims a.shape) (selected_by env ss) ps →
    LeavesUnnamed vectors base low s n env (next (designated r ss) loaded) (source.designator a ps)

-- ---- left sides

-- the shape of a part, as an operand or a left side
abbrev pub PartShapesAreSame : Type 0
PartShapesAreSame = (a : ArrayValue) (ds : List Dim) (s : Selection) (ps : List Pick) → Selects ds s ps → array_operand (extents s) ≡ later.operands (Section a ps)

-- A whole array is replaced at the active places themselves.
abbrev pub WholeTargetsAreSame : Type 0
WholeTargetsAreSame = (a : ArrayValue) → (a.shape.rank == 0) ≡ false → (at : List ℕ) → AreIn at (later.operands (source.whole_array a)) → later.targets (source.whole_array a) at ≡ Ok at

-- ---- subscripts

-- the variable of a designator, which is an array; a box faults where it is not allocated
abbrev pub ReferencesStand : Type 0
ReferencesStand = (vectors : List ℕ) (base low : ℕ) (s : Scope) (n : ℕ) (env : Environment) (v : Var) (d : Operand) → low ≤ n → d.value.number < base → env d.value.number ≡ variable v →
    (held : VarState) → v.state ≡ held → Fits d.kind held → IsNamed d.kind → Does vectors s n env (boxed d) (source.allocated held) (λ r a m after. Refers base low m after r v a)

-- The subscripts of this array, one after another, select what their sources pick, or the first one that faults does so alike.
abbrev pub SubscriptsSelect : Type 0
SubscriptsSelect = (k : Count) (vectors : List ℕ) (base : ℕ) (s : Scope) (n : ℕ) (env : Environment) (w : World) (r : Operand) (v : Var) (a : ArrayValue) → base ≤ n → Refers base base n env r v a →
    (subs : Subs k) → AreWithin subs (dims a.shape) → SubscriptsStand vectors base env s w r 1 n subs →
    Does vectors s n env (subscripts r 1 subs) (source.picks w (dims a.shape) subs) (SelectsLater (dims a.shape))

-- what the source's designator selects, with its array
abbrev pub part_selected : {k : _} → World → Name → Subs k → Staged (ArrayValue × List Pick)
part_selected w x subs = do
  a ← source.allocated (state_of w.vars x)
  ps ← source.picks w (dims a.shape) subs
  qs ← source.selected a ps
  Ok (a, qs)

-- a part of a variable's array, as a left side
abbrev pub WholePartsSelect : Type 0
WholePartsSelect = (k : Count) (vectors : List ℕ) (base : ℕ) (s : Scope) (n : ℕ) (env : Environment) (w : World) (x : Name) (v : Var) → base ≤ n → DeclaresArray base env (declare_of s.names x) (state_of w.vars x) v →
    (subs : Subs k) → SubscriptsFit vectors base s n env w x subs →
    Does vectors s n env (part_of x (λ r. subscripts r 1 subs)) (part_selected w x subs) (λ y b m after. IsPart n m after y v b.0 b.1)

-- An expression that is a designator leaves what stands for its source. Other expressions are not spoken of.
abbrev pub DesignatorStands : List ℕ → ℕ → Scope → ℕ → Environment → World → Expr → Type 0
DesignatorStands vectors base s n env w (Part' x h subs) = (v : Var) → DeclaresArray base env (declare_of s.names x) (state_of w.vars x) v → SubscriptsFit vectors base s n env w x subs →
    LeavesUnnamed vectors base n s n env (value (Part' x h subs)) (source.walk w (Part' x h subs))
DesignatorStands vectors base s n env w e = Unit {0}

abbrev pub WholePartsStand : Type 0
WholePartsStand = (vectors : List ℕ) (base : ℕ) (s : Scope) (n : ℕ) (env : Environment) (w : World) → base ≤ n → (e : Expr) → DesignatorStands vectors base s n env w e

-- ---- what a designator takes as a subscript

-- what is evaluated whole
abbrev pub SettledIsTaken : Type 0
SettledIsTaken = (base low high : ℕ) (env : Environment) (x : Operand) (t : Term) → StandsSettled base low high env x t → StandsTaken base low high env x t

-- the name of a variable
abbrev pub VariablesAreTaken : Type 0
VariablesAreTaken = (vectors : List ℕ) (base low : ℕ) (s : Scope) (n : ℕ) (env : Environment) (v : Var) (id : ValueId) → base ≤ low → low ≤ n → id.number < base → env id.number ≡ variable v →
    (kind : ValueKind) (held : VarState) → v.state ≡ held → Fits kind held → LeavesTaken vectors base low s n env (next (boxed (record { value = id; kind = kind })) loaded) (source.variable held)

-- a section or a constructor
abbrev pub SectionsStand : Type 0
SectionsStand = (vectors : List ℕ) (base : ℕ) (s : Scope) (n : ℕ) (env : Environment) (w : World) → base ≤ n → (e : Expr) → SectionFits vectors base s n env w e → LeavesUnnamed vectors base n s n env (value e) (source.walk w e)
