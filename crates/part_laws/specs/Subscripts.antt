-- Subscripts of a designator, which are lowered one after another.
use Rattle.std.specs.Prelude.{◌≡◌, ℕ, suc, ◌+◌, ◌<◌, ◌≤◌, ◌==◌, Bool, true, false, List, [], ◌∷◌, Ok}
use Rattle.std.specs.List.{All}
use mathlib.Core.Former.{Count}
use Rattle.ws_base.specs.declared.name.Name.{Name}
use Rattle.ws_base.specs.declared.op.UnOp.TheVariants as unop
use Rattle.ws_base.specs.Outcomes.{Staged, ◌>>=◌}
use Rattle.ws_space.specs.declared.shape.Dim.{Dim}
use Rattle.ws_space.specs.declared.state.ArrayValue.{ArrayValue}
use Rattle.ws_space.specs.declared.state.VarState.{VarState}
use Rattle.ws_space.specs.declared.state.VarState.TheVariants as state
use Rattle.ws_space.specs.declared.state.Var.{Var}
use Rattle.ws_space.specs.Shapes.{dims}
use Rattle.ws_space.specs.Values.{state_of}
use Rattle.ws_tree.specs.declared.expr.Expr.{Expr}
use Rattle.ws_tree.specs.declared.expr.Expr.TheVariants.{Part', Vector'}
use Rattle.ws_tree.specs.declared.expr.Sub.{Sub}
use Rattle.ws_tree.specs.declared.expr.Sub.TheVariants as sub
use Rattle.ws_tree.specs.Trees.{Subs, end_subs, more_subs, Given, absent, given, paren, unary}
use Rattle.ws_types.specs.Sections.{is_designator}
use Rattle.array_meaning.specs.declared.world.World.{World}
use Rattle.array_meaning.specs.declared.term.Term.{Term}
use Rattle.array_meaning.specs.declared.term.Pick.{Pick}
use Rattle.array_meaning.specs.Stage1 as source
use Rattle.hlfir_ops.specs.declared.what.BoundWord.TheVariants.{Lower, Upper}
use Rattle.hlfir_ops.specs.Numbers.{numbers_of}
use Rattle.hlfir_ops.specs.RulesValues.{rank_of}
use Rattle.hlfir_meaning.specs.Environments.{variable, Environment}
use Rattle.lower_values.specs.declared.operand.Operand.{Operand}
use Rattle.lower_values.specs.declared.operand.Subscript.{Subscript}
use Rattle.lower_values.specs.Scopes.{Scope}
use Rattle.lower_values.specs.Lowerings.{Lowering}
use Rattle.lower_values.specs.References.{declare_of, reference, bound}
use Rattle.lower_values.specs.Values.{value, values, given_or, subscript}
use Rattle.value_laws.specs.Standing.{Kept, Does, Stands, StandEach, settled}
use Rattle.value_laws.specs.Singles.{IsSingle}
use Rattle.value_laws.specs.Variables.{Fits, IsNamed}
use Rattle.part_laws.specs.Selects.{Selects, selected_by}
use Rattle.part_laws.specs.Parts.{StandsTaken}

-- ---- what the source takes as a subscript

-- a designator is left for stage 2, and any other array is evaluated whole
abbrev pub ready : Bool → Term → Staged Term
ready true t = Ok t
ready false t = settled t

-- ---- where each part stands for its source

-- the next free number after a part of a triplet, or after what stands for it
abbrev pub after_given : Scope → Lowering Operand → Given → ℕ → ℕ
after_given s other g n = n + numbers_of (given_or other g s n).ops

module _ (vectors : List ℕ) (base : ℕ) (start : Environment) (s : Scope) (w : World) where
  -- a part of a triplet, which is a scalar, after what has kept the declares of this environment
  abbrev pub GivenStands : ℕ → Given → Type 0
  GivenStands n absent = Unit {0}
  GivenStands n (given e) = ((rank_of (value e s n).made.kind == 0) ≡ true)
      × ((env : Environment) → Kept base start env → Does vectors s n env (value e) (source.walk w e) (λ x t after rho. Stands base n after rho x t))

  -- a scalar or a vector, which a designator may take; or a triplet of the dimension of this number
  abbrev pub SubscriptStands : Operand → ℕ → ℕ → Sub → Type 0
  SubscriptStands r dim n (sub.One e) = (rank_of (value e s n).made.kind ≤ 1)
      × ((env : Environment) → Kept base start env → Does vectors s n env (value e) (source.walk w e >>= ready (is_designator e)) (λ x t after rho. StandsTaken base n after rho x t))
  SubscriptStands r dim n (sub.Range' l u t) =
      let m = after_given s (bound Lower dim r) l n in
      GivenStands n l × GivenStands m u × GivenStands (after_given s (bound Upper dim r) u m) t

  abbrev pub SubscriptsStand : {k : _} → Operand → ℕ → ℕ → Subs k → Type 0
  SubscriptsStand r dim n end_subs = Unit {0}
  SubscriptsStand r dim n (more_subs x xs) = SubscriptStands r dim n x × SubscriptsStand r (suc dim) (n + numbers_of (subscript r dim x s n).ops) xs

-- no more subscripts than dimensions
abbrev pub AreWithin : {k : _} → Subs k → List Dim → Type 0
AreWithin end_subs ds = Unit {0}
AreWithin (more_subs x xs) [] = ⊥
AreWithin (more_subs x xs) (d ∷ ds) = AreWithin xs ds

-- ---- what they select

-- what these subscripts select now, and after more ops
abbrev pub SelectsLater : List Dim → List Subscript → List Pick → ℕ → Environment → Type 0
SelectsLater ds ss ps n env = (rho : Environment) → Kept n env rho → Selects ds (selected_by rho ss) ps

-- ---- a whole designator

-- the declare of the name, whose number is below `base`, stands for a variable that holds this and has an array's kind
pub record DeclaresArray (base : ℕ) (env : Environment) (d : Operand) (held : VarState) (v : Var) : Type 0 where
  pub below : d.value.number < base
  pub found : env d.value.number ≡ variable v
  pub holds : v.state ≡ held
  pub fits : Fits d.kind held
  pub named : IsNamed d.kind

-- Where it is allocated, these are no more than its dimensions; and each one stands for its source where it is lowered, after the reference.
pub record SubscriptsFit {k : Count} (vectors : List ℕ) (base : ℕ) (s : Scope) (n : ℕ) (env : Environment) (w : World) (x : Name) (subs : Subs k) : Type 0 where
  pub within : (a : ArrayValue) → state_of w.vars x ≡ state.Array a → AreWithin subs (dims a.shape)
  pub stand : SubscriptsStand vectors base env s w (reference x s n).made 1 (n + numbers_of (reference x s n).ops) subs

-- What is known where a section or a constructor is lowered. Around one, parentheses and a plus are no operation.
abbrev pub SectionFits : List ℕ → ℕ → Scope → ℕ → Environment → World → Expr → Type 0
SectionFits vectors base s n env w (Part' x h subs) = (v : Var) × DeclaresArray base env (declare_of s.names x) (state_of w.vars x) v × SubscriptsFit vectors base s n env w x subs
SectionFits vectors base s n env w (Vector' h es) = Does vectors s n env (values es) (source.walks w es) (λ xs ts after rho. StandEach base n after rho xs ts × All IsSingle ts)
SectionFits vectors base s n env w (paren e) = SectionFits vectors base s n env w e
SectionFits vectors base s n env w (unary unop.Plus e) = SectionFits vectors base s n env w e
SectionFits vectors base s n env w e = ⊥
