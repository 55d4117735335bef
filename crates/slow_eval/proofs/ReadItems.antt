-- The items of a READ.
use Rattle.std.proofs.Common.{◌≡◌, refl, sym, ap, ◌∙◌, subst, ℕ, ◌+◌, Bool, true, List, length, Ok, Err, IfOk}
use Rattle.ws_base.specs.Outcomes.{Staged, ◌>>=◌}
use Rattle.ws_space.specs.declared.state.Var.{Var}
use Rattle.ws_space.specs.declared.state.VarState.{VarState}
use Rattle.ws_space.specs.Shapes.{Extents, dims, size, places_from, all_places}
use Rattle.ws_space.specs.Values.{state_of, with_state, held}
use Rattle.ws_space.specs.Replace.{is_logical}
use Rattle.ws_space.proofs.Places.{length-places_from}
use Rattle.ws_tree.specs.declared.expr.Expr.{Expr}
use Rattle.ws_tree.specs.declared.expr.Expr.TheVariants.{Number, TooWide, TooDeep, Truth, Named, Part', Call', Vector'}
use Rattle.ws_tree.specs.Trees.{paren, unary, binary}
use Rattle.array_meaning.specs.declared.world.World.{World}
use Rattle.array_meaning.specs.declared.term.Term.{Term}
use Rattle.array_meaning.specs.Stage1.{allocated, picks, selected}
use Rattle.array_meaning.specs.Assign.{Target, selection, movable, held_by, target, target_name, with_vars, with_target}
use Rattle.array_meaning.specs.Program.{selection_extents, read_into, read_item}
use Rattle.list_io.specs.Items.{take_values}
use Rattle.array_meaning.proofs.Chains.{after_each}
use Rattle.term_eval.specs.declared.stop.Stop.{Stop}
use Rattle.term_eval.specs.declared.stop.Stop.TheVariants.{Memory, Failed}
use Rattle.term_eval.specs.Made.{Stops}
use Rattle.slow_eval.specs.declared.input.Taken.{Taken}
use Rattle.slow_eval.specs.Input.{taken_by}

pub places_count : (e : Extents) (ps : List ℕ) → ps ≡ all_places e → length ps ≡ size e
places_count e ps is = ap length is ∙ length-places_from 0 (size e)

-- ---- no item changes its shape

abbrev IsSelection : Target → Type 0
IsSelection (selection t) = Unit {0}
IsSelection (movable s) = ⊥

target_selects : (w : World) (e : Expr) → IfOk (target true w e) IsSelection
target_selects w (Named x) = after_each IsSelection (held_by (held (state_of w.vars x))) _ (λ a. tt)
target_selects w (Part' x h subs) = after_each IsSelection (allocated (state_of w.vars x)) _ (λ a. after_each IsSelection (picks w (dims a.shape) subs) _ (λ ps. after_each IsSelection (selected a ps) _ (λ qs. tt)))
target_selects w (Number n) = tt
target_selects w TooWide = tt
target_selects w TooDeep = tt
target_selects w (Truth b) = tt
target_selects w (Call' word h es) = tt
target_selects w (Vector' h es) = tt
target_selects w (paren e) = tt
target_selects w (unary op e) = tt
target_selects w (binary op e f) = tt

pub never_movable : (w : World) (e : Expr) (s : VarState) → target true w e ≡ Ok (movable s) → ⊥
never_movable w e s is = let P : Staged Target → Type 0 = λ r. IfOk r IsSelection in subst P is (target_selects w e)

-- ---- one item

made_of : {A B C : Type 0} (r : Staged A) (f : A → B) (g : B → C) → (r >>= (λ a. Ok (g (f a)))) ≡ ((r >>= (λ a. Ok (f a))) >>= (λ b. Ok (g b)))
made_of (Ok a) f g = refl
made_of (Err t) f g = refl

made_after : {A B C D : Type 0} (r : Staged A) (q : A → Staged B) (f : A → B → C) (g : C → D) → (r >>= (λ a. q a >>= (λ b. Ok (g (f a b))))) ≡ ((r >>= (λ a. q a >>= (λ b. Ok (f a b)))) >>= (λ c. Ok (g c)))
made_after (Ok a) q f g = made_of (q a) (f a) g
made_after (Err t) q f g = refl

stops_first : {A B : Type 0} (s : Stop) (r : Staged A) (f : A → Staged B) → Stops s r → Stops s (r >>= f)
stops_first Memory r f h = tt
stops_first (Failed t) r f h = ap (λ q. q >>= f) h

-- the world, how many values were taken, and the place after them
abbrev left_by : World → Expr → Taken → World × ℕ × ℕ
left_by w e r = (with_target w e r.state, r.taken, r.place)

module _ (input : List ℕ) (w : World) (before at : ℕ) (e : Expr) (t : Term) (truth : Bool) (is : target true w e ≡ Ok (selection t)) (truth_is : truth ≡ is_logical w.vars (target_name e)) where
  abbrev rest : Target → Staged (World × ℕ × ℕ)
  rest u = take_values input (is_logical w.vars (target_name e)) before (size (selection_extents u)) at >>= (λ vs. read_into u vs.0 >>= (λ s. Ok (with_target w e s, before + size (selection_extents u), vs.1)))

  item_is : read_item input w before at e ≡ (taken_by input truth before at t >>= (λ r. Ok (left_by w e r)))
  item_is =
      let taken : Bool → Staged Taken = λ b. taken_by input b before at t in
      ap (λ q. q >>= rest) is
      ∙ (made_after (take_values input (is_logical w.vars (target_name e)) before (size (selection_extents (selection t))) at) (λ vs. read_into (selection t) vs.0)
      (λ vs s. record { state = s; taken = before + size (selection_extents (selection t)); place = vs.1 }) (left_by w e)
      ∙ ap (λ b. taken b >>= (λ r. Ok (left_by w e r))) (sym truth_is))

  pub item_stops : (s : Stop) → Stops s (taken_by input truth before at t) → Stops s (read_item input w before at e)
  item_stops s h = subst (Stops s) (sym item_is) (stops_first s (taken_by input truth before at t) (λ r. Ok (left_by w e r)) h)

  pub item_value : (r : Taken) (vars : List Var) → taken_by input truth before at t ≡ Ok r → vars ≡ with_state w.vars (target_name e) r.state → read_item input w before at e ≡ Ok (with_vars w vars, r.taken, r.place)
  item_value r vars h new = item_is ∙ (ap (λ q. q >>= (λ x. Ok (left_by w e x))) h ∙ ap (λ l. Ok (with_vars w l, r.taken, r.place)) (sym new))
