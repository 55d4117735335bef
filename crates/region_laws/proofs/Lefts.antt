-- The region of a left side reaches the target of its source.
use Rattle.std.proofs.Common.{◌≡◌, refl, sym, ap, ◌∙◌, subst, ℕ, Bool, true, false, List, Option, Some, None, Ok, Err}
use mathlib.Core.Former.{Count}
use Rattle.ws_base.specs.declared.name.Name.{Name}
use Rattle.ws_base.specs.Outcomes.{Staged, ◌>>=◌}
use Rattle.ws_space.specs.declared.state.ArrayValue.{ArrayValue}
use Rattle.ws_space.specs.declared.state.VarState.{VarState}
use Rattle.ws_space.specs.declared.state.Var.{Var}
use Rattle.ws_space.specs.Shapes.{dims}
use Rattle.ws_space.specs.Values.{state_of, held}
use Rattle.ws_tree.specs.Trees.{Subs}
use Rattle.ws_tree.specs.declared.expr.Expr.{Expr}
use Rattle.array_meaning.specs.declared.world.World.{World}
use Rattle.array_meaning.specs.declared.term.Term.TheVariants.{Section}
use Rattle.array_meaning.specs.declared.term.Pick.{Pick}
use Rattle.array_meaning.specs.Terms.{terms_open}
use Rattle.array_meaning.specs.Stage1 as source
use Rattle.array_meaning.specs.Assign as assigned
use Rattle.hlfir_meaning.specs.Environments.{Value, variable, part, Environment, Yielded, of_variables, result, variable_in}
use Rattle.hlfir_meaning.specs.Assign as hlfir
use Rattle.hlfir_meaning.specs.Stage1.{walk}
use Rattle.hlfir_ops.specs.declared.op.Op.{Op}
use Rattle.part_laws.specs.Lefts.{Ends, IsTarget}
use Rattle.part_laws.specs.Laws.{part_selected}
use Rattle.world_laws.specs.Yields.{region, IsOfName, left_target, Reaches}

-- ---- targets

same_held : (o : Option ArrayValue) → hlfir.held_by o ≡ assigned.held_by o
same_held None = refl
same_held (Some a) = refl

abbrev pub section_target : Staged (ArrayValue × List Pick) → Staged assigned.Target
section_target r = r >>= (λ b. Ok (assigned.selection (Section b.0 b.1)))

module _ (w : World) (e : Expr) (n : ℕ) (ops : List Op) (v : Var) where
  abbrev env : Environment
  env = of_variables w.vars

  abbrev with_target : Bool → Yielded → Staged (Yielded × hlfir.Target)
  with_target b y = hlfir.target b (result y) >>= (λ t. Ok (y, t))

  reached : (b : Bool) (y : Yielded) (x : Value) (r : Staged hlfir.Target) → walk env (region n ops) ≡ Ok y → result y ≡ x → hlfir.target b x ≡ r → left_target w b n ops ≡ (r >>= (λ t. Ok (y, t)))
  reached b y x r walked is target = ap (λ q. q >>= with_target b) walked ∙ (ap (λ u. hlfir.target b u >>= (λ t. Ok (y, t))) is ∙ ap (λ q. q >>= (λ t. let p : Staged (Yielded × hlfir.Target) = Ok (y, t) in p)) target)

  -- ---- a whole variable

  module _ (now : VarState) (holds : v.state ≡ now) (named : IsOfName w (assigned.target_name e) v) where
    abbrev all_target : Staged ArrayValue → Staged hlfir.Target
    all_target r = r >>= (λ a. Ok (hlfir.all_of a))

    whole_is : hlfir.target false (variable v) ≡ all_target (assigned.held_by (held now))
    whole_is = ap all_target (same_held (held v.state) ∙ ap (λ q. assigned.held_by (held q)) holds)

    abbrev whole_target : Staged ArrayValue → Staged assigned.Target
    whole_target r = r >>= (λ a. Ok (assigned.selection (source.whole_array a)))

    held_target : (y : Yielded) (a : ArrayValue) → walk env (region n ops) ≡ Ok y → result y ≡ variable v → assigned.held_by (held now) ≡ Ok a → Reaches w e false n ops (Ok (assigned.selection (source.whole_array a)))
    held_target y a walked is held_now = (
      y,
      hlfir.all_of a,
      reached false y (variable v) (Ok (hlfir.all_of a)) walked is (whole_is ∙ ap all_target held_now),
      refl,
      subst (λ x. IsOfName w (assigned.target_name e) (variable_in x)) (sym is) named,
    )

    -- the box has faulted, or stands for what is held
    pub boxed-reaches : (r : Staged ArrayValue) → assigned.held_by (held now) ≡ r → Ends env (region n ops) r (λ y a. result y ≡ variable v) → Reaches w e false n ops (whole_target r)
    boxed-reaches (Ok a) held_now h = held_target h.0 a h.1 h.2 held_now
    boxed-reaches (Err f) held_now h = ap (λ q. q >>= with_target false) h

    -- the declare itself
    module _ (y : Yielded) (walked : walk env (region n ops) ≡ Ok y) (is : result y ≡ variable v) where
      declared_held : (r : Staged ArrayValue) → assigned.held_by (held now) ≡ r → Reaches w e false n ops (whole_target r)
      declared_held (Ok a) held_now = held_target y a walked is held_now
      declared_held (Err f) held_now = reached false y (variable v) (Err f) walked is (whole_is ∙ ap all_target held_now)

      pub declared-reaches : (b : Bool) → Reaches w e b n ops (assigned.whole_target b now)
      declared-reaches true = (
        y,
        hlfir.movable v.state,
        reached true y (variable v) (Ok (hlfir.movable v.state)) walked is refl,
        holds,
        subst (λ x. IsOfName w (assigned.target_name e) (variable_in x)) (sym is) named,
      )
      declared-reaches false = declared_held (assigned.held_by (held now)) refl

  -- ---- a part

  pub part-reaches : IsOfName w (assigned.target_name e) v → (r : Staged (ArrayValue × List Pick)) → Ends env (region n ops) r (λ y b. IsTarget v y b.0 b.1) → Reaches w e false n ops (section_target r)
  unfolding terms_open
  part-reaches named (Ok b) h =
      let p = h.2 in (
        h.0,
        hlfir.selected b.0 p.selected,
        reached false h.0 (part v b.0 p.selected) (Ok (hlfir.selected b.0 p.selected)) h.1 p.found refl,
        (refl, p.shape, p.targets_are),
        subst (λ x. IsOfName w (assigned.target_name e) (variable_in x)) (sym p.found) named,
      )
  part-reaches named (Err f) h = ap (λ q. q >>= with_target false) h

-- ---- what the source selects

module _ {A C D : Type 0} (k : A × C → D) where
  one_step : (a : A) (r : Staged C) → (r >>= (λ c. Ok (k (a, c)))) ≡ ((r >>= (λ c. let q : Staged (A × C) = Ok (a, c) in q)) >>= (λ p. Ok (k p)))
  one_step a (Ok c) = refl
  one_step a (Err t) = refl

  two_steps : {B : Type 0} (a : A) (r : Staged B) (g : B → Staged C) → (r >>= (λ b. g b >>= (λ c. Ok (k (a, c))))) ≡ ((r >>= (λ b. g b >>= (λ c. let q : Staged (A × C) = Ok (a, c) in q))) >>= (λ p. Ok (k p)))
  two_steps a (Ok b) g = one_step a (g b)
  two_steps a (Err t) g = refl

  three_steps : {B : Type 0} (r : Staged A) (f : A → Staged B) (g : A → B → Staged C) →
      (r >>= (λ a. f a >>= (λ b. g a b >>= (λ c. Ok (k (a, c)))))) ≡ ((r >>= (λ a. f a >>= (λ b. g a b >>= (λ c. let q : Staged (A × C) = Ok (a, c) in q)))) >>= (λ p. Ok (k p)))
  three_steps (Ok a) f g = two_steps a (f a) (g a)
  three_steps (Err t) f g = refl

pub part-target : {k : Count} (w : World) (x : Name) (subs : Subs k) →
    (source.allocated (state_of w.vars x) >>= (λ a. source.picks w (dims a.shape) subs >>= (λ ps. source.selected a ps >>= (λ qs. Ok (assigned.selection (Section a qs)))))) ≡ section_target (part_selected w x subs)
part-target w x subs = three_steps (λ b. assigned.selection (Section b.0 b.1)) (source.allocated (state_of w.vars x)) (λ a. source.picks w (dims a.shape) subs) source.selected
