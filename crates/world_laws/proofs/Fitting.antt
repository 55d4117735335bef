-- What the declares of a source say of a world that fits its names, also after one variable takes a new state.
use Rattle.std.proofs.Common.{◌≡◌, refl, sym, ap, ◌∙◌, subst, ℕ, suc, ◌+◌, ◌<◌, ◌≤◌, Bool, true, false, List, [], ◌∷◌, length, Option, Some, None, pos, bytes_eq, if◌then◌else◌, arith}
use Rattle.std.proofs.lemmas.Slice.Eq.{bytes_eq-Decides}
use Rattle.ws_space.specs.declared.state.VarState.{VarState}
use Rattle.ws_space.specs.declared.state.VarState.TheVariants as state
use Rattle.ws_space.specs.declared.state.Var.{Var}
use Rattle.ws_space.specs.Values.{Name, state_of, with_state}
use Rattle.ws_space.specs.Replace.{is_logical}
use Rattle.hlfir_ops.specs.RulesValues.{rank_of}
use Rattle.hlfir_meaning.specs.Environments.{variable, Environment, of_variables}
use Rattle.array_meaning.specs.declared.world.World.{World}
use Rattle.array_meaning.specs.Assign.{with_vars}
use Rattle.lower_values.specs.declared.names.Names.{Names}
use Rattle.lower_values.specs.declared.names.Variable.{Variable}
use Rattle.lower_values.specs.declared.operand.Operand.{Operand}
use Rattle.lower_values.specs.References.{variable_of, or_nothing}
use Rattle.value_laws.specs.Variables.{Fits}
use Rattle.world_laws.specs.Worlds.{FitsDeclare, FitDeclares, FitsNames}

-- where the declares are numbered from n on, this one stands for the variable of this name
pub record DeclaredAt (n : ℕ) (vs : List Var) (x : Name) (d : Operand) : Type 0 where
  pub place : ℕ
  pub number : d.value.number ≡ place + n
  pub small : place < length vs
  pub var : Var
  pub found : of_variables vs place ≡ variable var
  pub name : var.name ≡ x
  pub truth : var.truth ≡ is_logical vs x
  pub state : var.state ≡ state_of vs x
  pub fits : Fits d.kind (state_of vs x)
  pub narrow : rank_of d.kind ≤ 3

here : (n : ℕ) (d : Variable) (v : Var) (vs : List Var) (x : Name) → d.declare.value.number ≡ n → FitsDeclare d v → bytes_eq v.name x ≡ true → DeclaredAt n (v ∷ vs) x d.declare
here n d v vs x number h is = record {
  place = 0;
  number = omega (arith, number);
  small = omega arith;
  var = v;
  found = refl;
  name = (bytes_eq-Decides v.name x).0 is;
  truth = sym (ap (λ b. if b then v.truth else is_logical vs x) is);
  state = same;
  fits = subst (Fits d.declare.kind) same h.state;
  narrow = h.narrow;
} where
  same : v.state ≡ state_of (v ∷ vs) x
  same = sym (ap (λ b. if b then v.state else state_of vs x) is)

later : (n : ℕ) (d : Operand) (v : Var) (vs : List Var) (x : Name) → bytes_eq v.name x ≡ false → DeclaredAt (suc n) vs x d → DeclaredAt n (v ∷ vs) x d
later n d v vs x not h = record {
  place = suc h.place;
  number = omega (arith, h.number);
  small = omega (arith, h.small);
  var = h.var;
  found = h.found;
  name = h.name;
  truth = h.truth ∙ sym (ap (λ b. if b then v.truth else is_logical vs x) not);
  state = h.state ∙ same;
  fits = subst (Fits d.kind) same h.fits;
  narrow = h.narrow;
} where
  same : state_of vs x ≡ state_of (v ∷ vs) x
  same = sym (ap (λ b. if b then v.state else state_of vs x) not)

same_name : (d : Variable) (v : Var) (x : Name) → FitsDeclare d v → bytes_eq d.name x ≡ bytes_eq v.name x
same_name d v x h = ap (λ y. bytes_eq y x) (sym h.name)

declared_in : (n : ℕ) (e : Variable) (ds : List Variable) (v : Var) (vs : List Var) (x : Name) (d : Operand) → e.declare.value.number ≡ n → FitsDeclare e v → (variable_of ds x ≡ Some d → DeclaredAt (suc n) vs x d) →
    (b : Bool) → bytes_eq v.name x ≡ b → variable_of (e ∷ ds) x ≡ Some d → DeclaredAt n (v ∷ vs) x d
declared_in n e ds v vs x d number h rest true b is =
    subst (DeclaredAt n (v ∷ vs) x) (ap or_nothing (sym (ap (λ c. if c then Some e.declare else variable_of ds x) (same_name e v x h ∙ b)) ∙ is)) (here n e v vs x number h b)
declared_in n e ds v vs x d number h rest false b is = later n d v vs x b (rest (sym (ap (λ c. if c then Some e.declare else variable_of ds x) (same_name e v x h ∙ b)) ∙ is))

pub declared_at : (n : ℕ) (ds : List Variable) (vs : List Var) (x : Name) (d : Operand) → FitDeclares n ds vs → variable_of ds x ≡ Some d → DeclaredAt n vs x d
declared_at n [] [] x d h is = cc
declared_at n [] (v ∷ vs) x d h is = absurd h
declared_at n (e ∷ ds) [] x d h is = absurd h
declared_at n (e ∷ ds) (v ∷ vs) x d h is = declared_in n e ds v vs x d h.0 h.1 (declared_at (suc n) ds vs x d h.2) (bytes_eq v.name x) refl is

pub as_many : (n : ℕ) (ds : List Variable) (vs : List Var) → FitDeclares n ds vs → length vs ≡ length ds
as_many n [] [] h = refl
as_many n [] (v ∷ vs) h = absurd h
as_many n (e ∷ ds) [] h = absurd h
as_many n (e ∷ ds) (v ∷ vs) h = ap suc (as_many (suc n) ds vs h.2)

-- in an environment that begins with the variables, it refers to this one
module _ (vs : List Var) (x : Name) (d : Operand) (h : DeclaredAt 0 vs x d) where
  pub is_below : d.value.number < length vs
  is_below = omega (arith, h.number, h.small)

  pub refers : (env : Environment) → ((k : ℕ) → k < length vs → env k ≡ of_variables vs k) → env d.value.number ≡ variable h.var
  refers env same = same d.value.number is_below ∙ (ap (of_variables vs) (let e : d.value.number ≡ h.place = omega (arith, h.number) in e) ∙ h.found)

-- what no declare names holds nothing
absent_at : (b : Bool) (e : Variable) (es : List Variable) (v : Var) (vs : List Var) (x : Name) → (if b then Some e.declare else variable_of es x) ≡ None → (variable_of es x ≡ None → state_of vs x ≡ state.Scalar (pos 0)) →
    (if b then v.state else state_of vs x) ≡ state.Scalar (pos 0)
absent_at true e es v vs x h rest = let f : ⊥ = cc in absurd f
absent_at false e es v vs x h rest = rest h

pub absent_state : (n : ℕ) (es : List Variable) (vs : List Var) (x : Name) → FitDeclares n es vs → variable_of es x ≡ None → state_of vs x ≡ state.Scalar (pos 0)
absent_state n [] [] x h is = refl
absent_state n [] (v ∷ vs) x h is = absurd h
absent_state n (e ∷ es) [] x h is = absurd h
absent_state n (e ∷ es) (v ∷ vs) x h is =
    absent_at (bytes_eq v.name x) e es v vs x (ap (λ y. if bytes_eq y x then Some e.declare else variable_of es x) h.1.name ∙ is) (absent_state (suc n) es vs x h.2)

-- ---- a new state

abbrev pub FitsWhereDeclared : List Variable → Name → VarState → Type 0
FitsWhereDeclared ds x s = (d : Operand) → variable_of ds x ≡ Some d → Fits d.kind s

taken : (d : Variable) (v : Var) (s : VarState) → FitsDeclare d v → Fits d.declare.kind s → FitsDeclare d (record v { state = s })
taken d v s h f = record { name = h.name; truth = h.truth; narrow = h.narrow; state = f }

fits_in : (n : ℕ) (d : Variable) (ds : List Variable) (v : Var) (vs : List Var) (x : Name) (s : VarState) → FitDeclares n (d ∷ ds) (v ∷ vs) → FitsWhereDeclared (d ∷ ds) x s →
    (FitsWhereDeclared ds x s → FitDeclares (suc n) ds (with_state vs x s)) → (b : Bool) → bytes_eq v.name x ≡ b → FitDeclares n (d ∷ ds) (if b then record v { state = s } ∷ vs else v ∷ with_state vs x s)
fits_in n d ds v vs x s h f rest true b = (h.0, taken d v s h.1 (f d.declare (ap (λ c. if c then Some d.declare else variable_of ds x) (same_name d v x h.1 ∙ b))), h.2)
fits_in n d ds v vs x s h f rest false b = (h.0, h.1, rest (λ e is. f e (ap (λ c. if c then Some d.declare else variable_of ds x) (same_name d v x h.1 ∙ b) ∙ is)))

pub with_state-fits : (n : ℕ) (ds : List Variable) (vs : List Var) (x : Name) (s : VarState) → FitDeclares n ds vs → FitsWhereDeclared ds x s → FitDeclares n ds (with_state vs x s)
with_state-fits n [] [] x s h f = tt
with_state-fits n [] (v ∷ vs) x s h f = absurd h
with_state-fits n (d ∷ ds) [] x s h f = absurd h
with_state-fits n (d ∷ ds) (v ∷ vs) x s h f = fits_in n d ds v vs x s h f (with_state-fits (suc n) ds vs x s h.2) (bytes_eq v.name x) refl

pub takes_state : (names : Names) (w : World) (x : Name) (s : VarState) → FitsNames names w → FitsWhereDeclared names.variables x s → FitsNames names (with_vars w (with_state w.vars x s))
takes_state names w x s h f = record {
  variables = with_state-fits 0 names.variables w.vars x s h.variables f;
  constants = h.constants;
  integers = h.integers;
  truths = h.truths;
  allocatables = h.allocatables;
}

pub state_fits : (names : Names) (w : World) (x : Name) (d : Operand) → FitsNames names w → variable_of names.variables x ≡ Some d → DeclaredAt 0 w.vars x d
state_fits names w x d h is = declared_at 0 names.variables w.vars x d h.variables is

same_declare : (a b : Operand) (o : Option Operand) → o ≡ Some a → o ≡ Some b → a ≡ b
same_declare a b o h g = let same : Some a ≡ Some b = sym h ∙ g in cc

-- where its declare is known
pub takes_what_fits : (names : Names) (w : World) (x : Name) (d : Operand) (s : VarState) → FitsNames names w → variable_of names.variables x ≡ Some d → Fits d.kind s → FitsNames names (with_vars w (with_state w.vars x s))
takes_what_fits names w x d s h is fits = takes_state names w x s h (λ e found. subst (λ o. Fits o.kind s) (same_declare d e (variable_of names.variables x) is found) fits)
