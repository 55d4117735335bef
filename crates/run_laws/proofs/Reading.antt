-- READ, item after item.
use mathlib.Core.Path.{fun_ext}
use Rattle.std.proofs.Common.{◌≡◌, refl, sym, ap, ◌∙◌, subst, ℕ, ◌+◌, Bool, true, false, List, [], ◌∷◌, All, None, Ok, Err, IfOk, ℤ, arith}
use Rattle.std.proofs.lemmas.List.Elements.{All-head, All-tail}
use Rattle.ws_base.specs.Outcomes.{Staged, ◌>>=◌}
use Rattle.ws_space.specs.declared.state.VarState.{VarState}
use Rattle.ws_space.specs.declared.state.Var.{Var}
use Rattle.ws_space.specs.Shapes.{Extents, size}
use Rattle.ws_space.specs.Values.{Name, state_of, with_state}
use Rattle.ws_space.specs.Replace.{is_logical}
use Rattle.list_io.specs.Items.{take_values}
use Rattle.ws_tree.specs.declared.expr.Expr.{Expr}
use Rattle.ws_tree.specs.Grammatical.{IsDesignator}
use Rattle.ws_types.specs.declared.types.Row.{Row}
use Rattle.ws_sema.specs.Statements.{item_faults, items_faults}
use Rattle.ws_sema.proofs.NoFaults.{none_first, none_after}
use Rattle.array_meaning.specs.declared.world.World.{World}
use Rattle.array_meaning.specs.Assign as assigned
use Rattle.array_meaning.specs.Assign.{target_name}
use Rattle.array_meaning.specs.Program as source
use Rattle.array_meaning.specs.Program.{selection_extents}
use Rattle.array_meaning.proofs.LeftSides.{Selects, selects}
use Rattle.hlfir_ops.specs.declared.what.What.TheVariants as what
use Rattle.hlfir_ops.specs.declared.op.Op.{Op, out-roll-Op}
use Rattle.hlfir_ops.specs.Numbers.{op_numbers}
use Rattle.hlfir_ops.specs.RulesStatements.{is_also}
use Rattle.hlfir_meaning.specs.Environments.{of_variables, Yielded, result, variable_in}
use Rattle.hlfir_meaning.specs.Stage1.{walk}
use Rattle.hlfir_meaning.specs.Assign.{Target, target}
use Rattle.hlfir_meaning.specs.Statements.{Item, target_extents, read_into, read_item, read_items}
use Rattle.lower_values.specs.declared.names.Names.{Names}
use Rattle.lower_values.specs.Scopes.{Scope, inside}
use Rattle.lower_values.specs.Lowerings.{statement_of, regions_from, holding}
use Rattle.lower_assign.specs.Statements.{yielded, left_of, reading}
use Rattle.world_laws.specs.Worlds.{FitsNames}
use Rattle.world_laws.specs.Yields.{region, IsOfName, left_target, Reaches}
use Rattle.world_laws.specs.Meanings.{LeftsMean}
use Rattle.world_laws.proofs.Fitting.{FitsWhereDeclared, takes_state, state_fits}
use Rattle.world_laws.proofs.Filling.{filled_fits}
use Rattle.run_laws.proofs.Filling.{FillsAlike, fills_alike, filled_of}
use Rattle.run_laws.proofs.Parts.{statement-read}
use Rattle.run_laws.proofs.Items.{MakesItems, later_items}
use Rattle.run_laws.proofs.Outside.{Outside, stands, outside-later, outside-inside}
use Rattle.run_laws.proofs.Regions.{holding-region}

abbrev pub read_op : ℕ → Bool → Expr → Scope → ℕ → Op
read_op line b e s n = holding (what.Read b) line [] None (yielded (left_of true e) ∷ []) s n

unfoldable pub readings : (line : ℕ) → MakesItems (reading line)
unfolding reading statement_of
readings line = record {
  op = read_op line;
  alone = λ b e s n. refl;
  also = λ b e s n. ap (λ f. is_also f.what) (out-roll-Op (record { what = what.Read b; line = line; operands = []; kind = None; regions = regions_from (what.Read b) line 0 (n + 0) (yielded (left_of true e) ∷ []) s }));
  skipped = λ e s n input m is st. statement-read input m line [] None (regions_from (what.Read true) line 0 (n + 0) (yielded (left_of true e) ∷ []) s) is st true;
}

-- ---- outcomes

-- the variables of the source's world, which fits the names, and as many values taken up to the same place
abbrev LeavesItem : Names → Staged (List Var × ℕ × ℕ) → Staged (World × ℕ × ℕ) → Type 0
LeavesItem names r (Ok q) = (r ≡ Ok (q.0.vars, q.1, q.2)) × FitsNames names q.0
LeavesItem names r (Err t) = r ≡ Err t

abbrev pub LeavesItems : Names → Staged (List Var × ℕ) → Staged (World × ℕ) → Type 0
LeavesItems names r (Ok q) = (r ≡ Ok (q.0.vars, q.1)) × FitsNames names q.0
LeavesItems names r (Err t) = r ≡ Err t

module _ (names : Names) {A : Type 0} (P : A → Type 0) where
  item-then : (r : Staged A) (f : A → Staged (List Var × ℕ × ℕ)) (g : A → Staged (World × ℕ × ℕ)) → IfOk r P → ((a : A) → P a → LeavesItem names (f a) (g a)) → LeavesItem names (r >>= f) (r >>= g)
  item-then (Ok a) f g h k = k a h
  item-then (Err t) f g h k = refl

always : {A : Type 0} (r : Staged A) → IfOk r (λ a. Unit {0})
always (Ok a) = tt
always (Err t) = tt

items-then : (names : Names) (r : Staged (List Var × ℕ × ℕ)) (q : Staged (World × ℕ × ℕ)) (f : List Var × ℕ × ℕ → Staged (List Var × ℕ)) (g : World × ℕ × ℕ → Staged (World × ℕ)) →
    LeavesItem names r q → ((w : World) (k at : ℕ) → FitsNames names w → LeavesItems names (f (w.vars, k, at)) (g (w, k, at))) → LeavesItems names (r >>= f) (q >>= g)
items-then names r (Ok q) f g h k = subst (λ x. LeavesItems names (x >>= f) (g q)) (sym h.0) (k q.0 q.1 q.2 h.1)
items-then names r (Err t) f g h k = ap (λ x. x >>= f) h

-- ---- one item

module _ (lefts : LeftsMean) (input : List ℕ) (t : List Row) (line : ℕ) (s : Scope) where
  module _ (b : Bool) (e : Expr) (n : ℕ) (w : World) (before at : ℕ) (outside : Outside t s n) (fits : FitsNames s.names w) (designator : IsDesignator e) (f : item_faults t line e ≡ []) where
    abbrev item : Item
    item = record { number = n; op = read_op line b e s n }

    abbrev ops : List Op
    ops = (yielded (left_of true e) (inside (what.Read b) line 0 n s) n).ops

    -- what an item does with a target of this type, of these extents, filled by this, in the variable of this name
    abbrev filling : Bool → Extents → (List ℤ → Staged VarState) → Name → Staged (List Var × ℕ × ℕ)
    filling truth es fill x = take_values input truth before (size es) at >>= (λ vs. fill vs.0 >>= (λ q. Ok (with_state w.vars x q, before + size es, vs.1)))

    abbrev with_left : Yielded × Target → Staged (List Var × ℕ × ℕ)
    with_left r = filling (variable_in (result r.0)).truth (target_extents r.1) (read_into r.1) (variable_in (result r.0)).name

    apart : (r : Staged Yielded) → (r >>= (λ y. target false (result y) >>= (λ u. with_left (y, u)))) ≡ ((r >>= (λ y. target false (result y) >>= (λ u. let q : Staged (Yielded × Target) = Ok (y, u) in q))) >>= with_left)
    apart (Err u) = refl
    apart (Ok y) = then (target false (result y)) where
      then : (r : Staged Target) → (r >>= (λ u. with_left (y, u))) ≡ ((r >>= (λ u. let q : Staged (Yielded × Target) = Ok (y, u) in q)) >>= with_left)
      then (Ok u) = refl
      then (Err u) = refl

    read_is : read_item input w.vars before at item ≡ (left_target w false n ops >>= with_left)
    read_is =
        ap (λ r. walk (of_variables w.vars) r >>= (λ y. target false (result y) >>= (λ u. with_left (y, u)))) (holding-region (what.Read b) line [] (yielded (left_of true e)) [] s n refl)
        ∙ apart (walk (of_variables w.vars) (region n ops))

    abbrev from_source : assigned.Target → Staged (World × ℕ × ℕ)
    from_source q = take_values input (is_logical w.vars (target_name e)) before (size (selection_extents q)) at >>= (λ vs. source.read_into q vs.0 >>= (λ x. Ok (assigned.with_target w e x, before + size (selection_extents q), vs.1)))

    same_left : (y : Yielded) (u : Target) (q : assigned.Target) → FillsAlike u q → IsOfName w (target_name e) (variable_in (result y)) →
        with_left (y, u) ≡ filling (is_logical w.vars (target_name e)) (selection_extents q) (source.read_into q) (target_name e)
    same_left y u q alike of =
        ap (λ c. filling c (target_extents u) (read_into u) (variable_in (result y)).name) of.truth
        ∙ (ap (λ es. filling (is_logical w.vars (target_name e)) es (read_into u) (variable_in (result y)).name) alike.extents
        ∙ (ap (λ g. filling (is_logical w.vars (target_name e)) (selection_extents q) g (variable_in (result y)).name) (fun_ext alike.read)
        ∙ ap (filling (is_logical w.vars (target_name e)) (selection_extents q) (source.read_into q)) of.name))

    state_fits_again : (q : assigned.Target) (xs : List ℤ) → Selects (state_of w.vars (target_name e)) q → IfOk (source.read_into q xs) (FitsWhereDeclared s.names.variables (target_name e))
    state_fits_again (assigned.movable x) xs h = absurd h
    state_fits_again (assigned.selection u) xs h = filled_of u h.0 xs (FitsWhereDeclared s.names.variables (target_name e)) h.1 (λ ts d is.
        let here = state_fits s.names w (target_name e) d fits is in filled_fits d.kind (state_of w.vars (target_name e)) h.0 _ here.narrow here.fits h.2)

    filled_alike : (q : assigned.Target) → Selects (state_of w.vars (target_name e)) q → LeavesItem s.names (filling (is_logical w.vars (target_name e)) (selection_extents q) (source.read_into q) (target_name e)) (from_source q)
    filled_alike q h =
        item-then s.names (λ vs. Unit {0}) (take_values input (is_logical w.vars (target_name e)) before (size (selection_extents q)) at) _ _ (always _) (λ vs _.
        item-then s.names (FitsWhereDeclared s.names.variables (target_name e)) (source.read_into q vs.0) _ _ (state_fits_again q vs.0 h) (λ x g. (refl, takes_state s.names w (target_name e) x fits g)))

    at_target : (r : Staged assigned.Target) → Reaches w e false n ops r → IfOk r (Selects (state_of w.vars (target_name e))) → LeavesItem s.names (left_target w false n ops >>= with_left) (r >>= from_source)
    at_target (Ok q) h g =
        subst (λ x. LeavesItem s.names x (from_source q)) (sym (ap (λ r. r >>= with_left) h.2 ∙ same_left h.0 h.1 q (fills_alike h.1 q h.3) h.4)) (filled_alike q g)
    at_target (Err u) h g = ap (λ r. r >>= with_left) h

    one : LeavesItem s.names (read_item input w.vars before at item) (source.read_item input w before at e)
    one =
        subst (λ r. LeavesItem s.names r (source.read_item input w before at e)) (sym read_is)
        (at_target (assigned.target true w e)
        (lefts t line true e (inside (what.Read b) line 0 n s) n w (stands t (inside (what.Read b) line 0 n s) n w (outside-inside t s n (what.Read b) line 0 n refl refl outside) fits) designator (none_first _ _ f))
        (selects true w e refl))

  -- ---- the items of one statement

  pub reads : (es : List Expr) (n : ℕ) (w : World) (before at : ℕ) → Outside t s n → FitsNames s.names w → All IsDesignator es → items_faults t line es ≡ [] →
      LeavesItems s.names (read_items input w.vars before at (later_items (reading line) (readings line) s es n)) (source.read_items input w before at es)
  unfolding readings reading
  reads [] n w before at outside fits each f = (refl, fits)
  reads (e ∷ es) n w before at outside fits each f =
      let m = op_numbers (read_op line true e s n) + n in
      items-then s.names _ _ _ _ (one true e n w before at outside fits (All-head IsDesignator e es each) (none_first _ _ f))
      (λ v k place h. reads es m v k place (outside-later t s n m outside (omega arith)) h (All-tail IsDesignator e es each) (none_after _ _ f))

  pub reads_all : (e : Expr) (es : List Expr) (n : ℕ) (w : World) (before at : ℕ) → Outside t s n → FitsNames s.names w → All IsDesignator (e ∷ es) → items_faults t line (e ∷ es) ≡ [] →
      LeavesItems s.names (read_items input w.vars before at (record { number = n; op = read_op line false e s n } ∷ later_items (reading line) (readings line) s es (op_numbers (read_op line false e s n) + n)))
      (source.read_items input w before at (e ∷ es))
  reads_all e es n w before at outside fits each f =
      let m = op_numbers (read_op line false e s n) + n in
      items-then s.names _ _ _ _ (one false e n w before at outside fits (All-head IsDesignator e es each) (none_first _ _ f))
      (λ v k place h. reads es m v k place (outside-later t s n m outside (omega arith)) h (All-tail IsDesignator e es each) (none_after _ _ f))
