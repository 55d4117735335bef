-- What holds of the meaning, beside its equations.
use Rattle.std.specs.Prelude.{◌≡◌, ℕ, ◌<◌, Bool, true, false, ◌&&◌, ◌||◌, List, [], ◌∷◌, map, length, Option, Some, None, Result, Ok, Err, ℤ, pos, bytes_eq, IfOk}
use Rattle.std.specs.List.{All, AllPass}
use mathlib.Core.Former.{Count}
use Rattle.ws_space.specs.declared.shape.Dim.{Dim}
use Rattle.ws_space.specs.declared.state.ArrayValue.{ArrayValue}
use Rattle.ws_space.specs.declared.state.VarState.{VarState}
use Rattle.ws_space.specs.declared.state.VarState.TheVariants.{Scalar, Array, Unallocated}
use Rattle.ws_space.specs.Shapes.{Extents, dims, extents_of, size, all_places}
use Rattle.ws_space.specs.Values.{Name, value_at, is_among, state_of}
use Rattle.ws_space.specs.WellFormed.{is_value, IsWellFormedVar}
use Rattle.ws_space.specs.Replace.{is_logical}
use Rattle.ws_space.specs.Masks.{Split, chosen}
use Rattle.ws_tree.specs.declared.expr.Expr.{Expr}
use Rattle.ws_tree.specs.declared.stmt.Index.{Index}
use Rattle.ws_tree.specs.declared.stmt.Body.{Body}
use Rattle.ws_tree.specs.Trees.{Stmts}
use Rattle.array_meaning.specs.declared.world.World.{World}
use Rattle.ws_base.specs.declared.op.UnOp.TheVariants as un
use Rattle.ws_base.specs.declared.op.CallWord.TheVariants as word
use Rattle.array_meaning.specs.declared.term.Term.{Term}
use Rattle.array_meaning.specs.declared.term.Term.TheVariants as term
use Rattle.array_meaning.specs.Terms.{Terms, end_terms, more_terms, unary_term, binary_term}
use Rattle.array_meaning.specs.Stage2.{values, targets, array_of}
use Rattle.array_meaning.specs.Stage1.{walk}
use Rattle.array_meaning.specs.Assign.{selection, target_name, may_move, assign, carried_out}
use Rattle.ws_types.specs.Steps.{Mask, Assignment}
use Rattle.ws_types.specs.Operations.{gives_truth}
use Rattle.array_meaning.specs.Where.{run_assignment, run_where}
use Rattle.array_meaning.specs.Forall.{Combination, over, over_targets, forall_assign, run_forall}

-- ---- an assignment changes nothing outside its targets

-- every variable but this one holds what it held
abbrev pub KeepsOthers : World → Name → World → Type 0
KeepsOthers w x v = (y : Name) → bytes_eq x y ≡ false → state_of v.vars y ≡ state_of w.vars y

abbrev pub AssignmentKeepsOthers : Type 0
AssignmentKeepsOthers = (w : World) (line : ℕ) (left right : Expr) → IfOk (assign w line left right) (KeepsOthers w (target_name left))

abbrev pub MaskedAssignmentKeepsOthers : Type 0
MaskedAssignmentKeepsOthers = (w : World) (ss : List Split) (ms : List Mask) (a : Assignment) → IfOk (run_assignment (w, ss) ms a) (λ r. KeepsOthers w (target_name a.left) r.0)

abbrev pub ForallAssignmentKeepsOthers : Type 0
ForallAssignmentKeepsOthers =
    (w : World) (line : ℕ) (left right : Expr) (places : List ℕ) (cs : List Combination) → IfOk (forall_assign w line left right places cs) (KeepsOthers w (target_name left))

-- the value at a place of what a variable holds
abbrev pub held_at : VarState → ℕ → ℤ
held_at (Scalar v) p = value_at (v ∷ []) p
held_at (Array a) p = value_at a.values p
held_at (Unallocated r) p = pos 0

-- every element of the array but those at these places has the value that it had
abbrev pub KeepsElements : ArrayValue → List ℕ → VarState → Type 0
KeepsElements a ts s = (p : ℕ) → p < size (extents_of (dims a.shape)) → is_among p ts ≡ false → held_at s p ≡ value_at a.values p

-- of an assignment outside WHERE or in it, to a selection of what the variable holds
abbrev pub AssignmentKeepsElements : Type 0
AssignmentKeepsElements =
    (w : World) (line : ℕ) (right : Expr) (r : Term) (e : Extents) (places : List ℕ) (t : Term) (a : ArrayValue) (ts : List ℕ) →
    array_of t ≡ Some a → targets t places ≡ Ok ts → IfOk (carried_out w line right r e places (selection t)) (KeepsElements a ts)

-- of an assignment in a FORALL
abbrev pub ForallAssignmentKeepsElements : Type 0
ForallAssignmentKeepsElements =
    (w : World) (line : ℕ) (left right : Expr) (places : List ℕ) (cs : List Combination) (a : ArrayValue) (ts : List ℕ) →
    state_of w.vars (target_name left) ≡ Array a → over_targets w left cs ≡ Ok ts → IfOk (forall_assign w line left right places cs) (λ v. KeepsElements a ts (state_of v.vars (target_name left)))

-- ---- the values of an expression do not depend on the order of the places

-- the value, whatever the fault is
abbrev pub got : {A E : Type 0} → Result A E → Option A
got (Ok x) = Some x
got (Err e) = None

abbrev pub first_and : {A : Type 0} → Option A → Option (List A) → Option (List A)
first_and (Some x) (Some xs) = Some (x ∷ xs)
first_and _ _ = None

-- all of them, if each is there
abbrev pub together : {A : Type 0} → List (Option A) → Option (List A)
together [] = Some []
together (x ∷ xs) = first_and x (together xs)

abbrev pub only_one : Option (List ℤ) → Option ℤ
only_one (Some (x ∷ [])) = Some x
only_one _ = None

-- the value at this place alone
abbrev pub alone : Term → ℕ → Option ℤ
alone t p = only_one (got (values t (p ∷ [])))

abbrev pub ValuesPlaceByPlace : Type 0
ValuesPlaceByPlace = (t : Term) (places : List ℕ) → got (values t places) ≡ together (map (alone t) places)

-- in a FORALL, the value at this combination alone
abbrev pub alone_over : World → Expr → Combination → Option ℤ
alone_over w e c = only_one (got (over w e (c ∷ [])))

abbrev pub ValuesCombinationByCombination : Type 0
ValuesCombinationByCombination = (w : World) (e : Expr) (cs : List Combination) → got (over w e cs) ≡ together (map (alone_over w e) cs)

-- ---- the blocks of a WHERE share no place

-- no place stands twice
abbrev pub IsOnce : List ℕ → Type 0
IsOnce [] = Unit {0}
IsOnce (p ∷ ps) = (is_among p ps ≡ false) × IsOnce ps

abbrev pub AllPlacesOnce : Type 0
AllPlacesOnce = (e : Extents) → IsOnce (all_places e)

abbrev pub ChosenOnce : Type 0
ChosenOnce = (want : Bool) (ps : List ℕ) (xs : List ℤ) → IsOnce ps → IsOnce (chosen want ps xs)

abbrev pub BlocksAreAll : Type 0
BlocksAreAll = (ps : List ℕ) (xs : List ℤ) → length xs ≡ length ps → (p : ℕ) → (is_among p (chosen true ps xs) || is_among p (chosen false ps xs)) ≡ is_among p ps

abbrev pub BlocksAreDisjoint : Type 0
BlocksAreDisjoint = (ps : List ℕ) (xs : List ℤ) → IsOnce ps → (p : ℕ) → (is_among p (chosen true ps xs) && is_among p (chosen false ps xs)) ≡ false

-- ---- a step without a fault leaves shapes as they were, but for a left side that may change its shape

abbrev pub dims_held : VarState → Option (List Dim)
dims_held (Scalar v) = Some []
dims_held (Array a) = Some (dims a.shape)
dims_held (Unallocated r) = None

-- every variable is as allocated and has the bounds that it had
abbrev pub KeepsShapes : World → World → Type 0
KeepsShapes w v = (y : Name) → dims_held (state_of v.vars y) ≡ dims_held (state_of w.vars y)

abbrev pub AssignmentKeepsShapes : Type 0
AssignmentKeepsShapes = (w : World) (line : ℕ) (left right : Expr) → may_move w left ≡ false → IfOk (assign w line left right) (KeepsShapes w)

abbrev pub MaskedAssignmentKeepsShapes : Type 0
MaskedAssignmentKeepsShapes = (w : World) (ss : List Split) (ms : List Mask) (a : Assignment) → IfOk (run_assignment (w, ss) ms a) (λ r. KeepsShapes w r.0)

abbrev pub ForallAssignmentKeepsShapes : Type 0
ForallAssignmentKeepsShapes = (w : World) (line : ℕ) (left right : Expr) (places : List ℕ) (cs : List Combination) → IfOk (forall_assign w line left right places cs) (KeepsShapes w)

abbrev pub WhereKeepsShapes : Type 0
WhereKeepsShapes = (w : World) (line : ℕ) (body : Body) → IfOk (run_where w line body) (KeepsShapes w)

abbrev pub ForallKeepsShapes : Type 0
ForallKeepsShapes = (m : Count) (w : World) (line : ℕ) (indexes : List Index) (test : Option Expr) (stmts : Stmts m) → IfOk (run_forall w line indexes test stmts) (KeepsShapes w)

-- ---- a step keeps the variables well formed, where the values of its right side have the type of its left side

abbrev pub AreWellFormed : World → Type 0
AreWellFormed w = All IsWellFormedVar w.vars

-- values of LOGICAL, or of INTEGER, wherever there are any
abbrev pub GivesValues : Bool → Term → Type 0
GivesValues is_truth r = (places : List ℕ) → IfOk (values r places) (AllPass (is_value is_truth))

abbrev pub AssignmentKeepsWellFormed : Type 0
AssignmentKeepsWellFormed =
    (w : World) (line : ℕ) (left right : Expr) → may_move w left ≡ false → AreWellFormed w → IfOk (walk w right) (GivesValues (is_logical w.vars (target_name left))) →
    IfOk (assign w line left right) AreWellFormed

abbrev pub MaskedAssignmentKeepsWellFormed : Type 0
MaskedAssignmentKeepsWellFormed =
    (w : World) (ss : List Split) (ms : List Mask) (a : Assignment) → AreWellFormed w → IfOk (walk w a.right) (GivesValues (is_logical w.vars (target_name a.left))) →
    IfOk (run_assignment (w, ss) ms a) (λ r. AreWellFormed r.0)

abbrev pub ForallAssignmentKeepsWellFormed : Type 0
ForallAssignmentKeepsWellFormed =
    (w : World) (line : ℕ) (left right : Expr) (places : List ℕ) (cs : List Combination) → AreWellFormed w → IfOk (over w right cs) (AllPass (is_value (is_logical w.vars (target_name left)))) →
    IfOk (forall_assign w line left right places cs) AreWellFormed

-- ---- the values of a term have its type

abbrev mutual
  -- A term of type LOGICAL, or of INTEGER. An operation's result has its type whatever its operands are, but for those that hand a value on.
  pub HasType : Bool → Term → Type 0
  HasType b (term.Scalar v) = is_value b v ≡ true
  HasType b (term.Listed xs) = AllPass (is_value b) xs
  HasType b (term.Section' a _ ps) = AllPass (is_value b) a.values
  HasType b (unary_term un.Minus t) = b ≡ false
  HasType b (unary_term un.Plus t) = HasType b t
  HasType b (unary_term un.Not t) = b ≡ true
  HasType b (binary_term op t u) = b ≡ gives_truth op
  HasType b (term.Call' word.Min _ ts) = (b ≡ false) × HaveType b ts
  HasType b (term.Call' word.Max _ ts) = (b ≡ false) × HaveType b ts
  HasType b (term.Call' word.Merge _ ts) = FirstTwoHaveType b ts
  HasType b (term.Call' word.Abs _ ts) = b ≡ false
  HasType b (term.Call' word.Mod _ ts) = b ≡ false
  HasType b (term.Call' word.Modulo _ ts) = b ≡ false
  HasType b (term.Call' word.Sum _ ts) = b ≡ false
  HasType b (term.Call' word.Product _ ts) = b ≡ false
  HasType b (term.Call' word.Minval _ ts) = b ≡ false
  HasType b (term.Call' word.Maxval _ ts) = b ≡ false
  HasType b (term.Call' word.Count _ ts) = b ≡ false
  HasType b (term.Call' word.Any _ ts) = b ≡ false
  HasType b (term.Call' word.All _ ts) = b ≡ false
  HasType b (term.Call' word.Size _ ts) = b ≡ false
  HasType b (term.Call' word.Lbound _ ts) = b ≡ false
  HasType b (term.Call' word.Ubound _ ts) = b ≡ false
  HasType b (term.Call' word.Allocated _ ts) = b ≡ false

  pub HaveType : {m : _} → Bool → Terms m → Type 0
  HaveType b end_terms = Unit {0}
  HaveType b (more_terms t ts) = HasType b t × HaveType b ts

  pub FirstTwoHaveType : {m : _} → Bool → Terms m → Type 0
  FirstTwoHaveType b (more_terms t (more_terms u ts)) = HasType b t × HasType b u
  FirstTwoHaveType b _ = ⊥

abbrev pub TypedTermsGiveValues : Type 0
TypedTermsGiveValues = (b : Bool) (t : Term) → HasType b t → GivesValues b t
