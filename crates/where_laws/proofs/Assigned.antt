-- One step of both: masks alone, or an assignment with its new masks.
use Rattle.std.proofs.Common.{◌≡◌, refl, sym, ap, ◌∙◌, subst, ℕ, Bool, true, false, List, [], ◌∷◌, ◌++◌, Result, Ok, Err, All, Option, Some, None, true≢false}
use Rattle.ws_base.specs.declared.fault.Fault.{Fault}
use Rattle.ws_base.specs.Outcomes.{Staged, ◌>>=◌}
use Rattle.ws_space.specs.declared.state.Var.{Var}
use Rattle.ws_space.specs.declared.state.VarState.{VarState}
use Rattle.ws_space.specs.Shapes.{Extents, agreed}
use Rattle.ws_space.specs.Values.{with_state}
use Rattle.ws_space.specs.Faults.{at_line}
use Rattle.ws_space.specs.Masks.{Split, Control, active, shapes_of}
use Rattle.ws_tree.specs.declared.expr.Expr.{Expr}
use Rattle.ws_types.specs.Steps as steps
use Rattle.array_meaning.specs.declared.world.World.{World}
use Rattle.array_meaning.specs.declared.term.Term.{Term}
use Rattle.array_meaning.specs.Stage1 as stage1
use Rattle.array_meaning.specs.Stage2 as stage2
use Rattle.array_meaning.specs.Assign as source
use Rattle.array_meaning.specs.Where as run
use Rattle.hlfir_ops.specs.declared.op.Op.{Op}
use Rattle.hlfir_meaning.specs.Environments.{Yielded, of_variables, result, variable_in}
use Rattle.hlfir_meaning.specs.Stage1.{walk}
use Rattle.hlfir_meaning.specs.Stage2.{operands}
use Rattle.hlfir_meaning.specs.Steps.{Mask, Assignment, Step}
use Rattle.hlfir_meaning.specs.Assign.{Target, target, step_shape, carried_out, with_target}
use Rattle.hlfir_meaning.specs.Masks.{Progress, mask_values, operands_of_masks, splits_after, run_masks, run_assignment, run_part, run_step, run_steps}
use Rattle.lower_values.specs.declared.names.Names.{Names}
use Rattle.world_laws.specs.Worlds.{FitsNames}
use Rattle.world_laws.specs.Yields.{YieldStands, TargetStands, IsOfName, left_target, Reaches}
use Rattle.where_laws.specs.Steps.{MasksStand, AssignmentStands, PartStands, StepStands, StepsStand}
use Rattle.where_laws.proofs.Same.{Same, same_then, same_known, same_lines, same_weaker}
use Rattle.where_laws.proofs.Places.{HaveShape, AreSplit, IsPlaced, active_within, have_first, have_after}
use Rattle.where_laws.proofs.Masks.{yields_same, TermsStand, terms_operands, masks_first, SplitAlike, splits_same, last_line-same}
use Rattle.where_laws.proofs.Targets.{Left, step_shape-same, step_conform}
use Rattle.where_laws.proofs.Carried.{carried}
use Rattle.value_laws.proofs.Evaluated.{agreed-all}

-- ---- left sides

abbrev Reached : World → Expr → source.Target → Yielded × Target → Type 0
Reached w e q p = TargetStands p.1 q × IsOfName w (source.target_name e) (variable_in (result p.0))

reaches_same : (w : World) (e : Expr) (realloc : Bool) (n : ℕ) (ops : List Op) (r : Staged source.Target) → Reaches w e realloc n ops r → Same (Reached w e) r (left_target w realloc n ops)
reaches_same w e realloc n ops (Ok q) h = ((h.0, h.1), h.2, (h.3, h.4))
reaches_same w e realloc n ops (Err t) h = h

module _ {A B C : Type 0} (line : ℕ) (g : A → Staged B) (K : A → B → Result C Fault) where
  second_step : (a : A) (r : Staged B) → (at_line line r >>= (λ t. K a t)) ≡ (at_line line (r >>= (λ t. let p : Staged (A × B) = Ok (a, t) in p)) >>= (λ p. K p.0 p.1))
  second_step a (Ok b) = refl
  second_step a (Err t) = refl

  -- two operations of one line, one after another, as one
  two_steps : (p : Staged A) → (at_line line p >>= (λ a. at_line line (g a) >>= (λ t. K a t))) ≡ (at_line line (p >>= (λ a. g a >>= (λ t. let p : Staged (A × B) = Ok (a, t) in p))) >>= (λ p. K p.0 p.1))
  two_steps (Ok a) = second_step a (g a)
  two_steps (Err t) = refl

-- ---- how far both have come

abbrev pub Gone : Names → World × List Split → Progress → Type 0
Gone names r q = (q ≡ (r.0.vars, r.1)) × FitsNames names r.0 × All IsPlaced r.1

module _ (names : Names) (w : World) (ss : List Split) (fits : FitsNames names w) (placed : All IsPlaced ss) where
  split_before : (e : Extents) → HaveShape e (shapes_of ss) → AreSplit e ss
  split_before e h = record { shapes = h; places = placed }

  module _ (ms : List steps.Mask) (os : List Mask) (line : ℕ) (stand : MasksStand names ms os) where
    abbrev After : List Term → Extents → Result (World × List Split) Fault
    After ts e = run.splits_after e ss ms ts >>= (λ all. Ok (w, all))

    abbrev AfterOps : List Yielded → Extents → Result Progress Fault
    AfterOps ys e = splits_after e ss os ys >>= (λ all. Ok (w.vars, all))

    abbrev Shape : List Term → Staged Extents
    Shape ts = agreed (shapes_of ss ++ run.operands_of ts)

    abbrev ShapeOfOps : List Yielded → Staged Extents
    ShapeOfOps ys = agreed (shapes_of ss ++ operands_of_masks ys)

    masks_left : (ts : List Term) (ys : List Yielded) (e : Extents) → TermsStand ts ys → HaveShape e (shapes_of ss ++ run.operands_of ts) → Same (Gone names) (After ts e) (AfterOps ys e)
    masks_left ts ys e terms conform =
        same_then (SplitAlike e) (Gone names) (run.splits_after e ss ms ts) (splits_after e ss os ys) (λ all. Ok (w, all)) (λ all. Ok (w.vars, all))
        (splits_same names e ss ms os ts ys stand terms (have_after e (shapes_of ss) (run.operands_of ts) conform) (split_before e (have_first e (shapes_of ss) (run.operands_of ts) conform)))
        (λ all also _ is. ((w.vars, also), refl, (ap (λ l. let q : Progress = (w.vars, l) in q) is.0, fits, is.1.places)))

    masks_conform : (ts : List Term) (ys : List Yielded) → TermsStand ts ys → Same (Gone names) (at_line line (Shape ts) >>= After ts) (at_line line (ShapeOfOps ys) >>= AfterOps ys)
    masks_conform ts ys terms =
        same_then (λ e f. (f ≡ e) × (Shape ts ≡ Ok e)) (Gone names) (at_line line (Shape ts)) (at_line line (ShapeOfOps ys)) (After ts) (AfterOps ys)
        (same_lines (λ e f. (f ≡ e) × (Shape ts ≡ Ok e)) line line (Shape ts) (ShapeOfOps ys) (same_known (Shape ts) (ShapeOfOps ys) (ap (λ o. agreed (shapes_of ss ++ o)) (terms_operands ts ys terms))))
        (λ e f _ is. subst (λ g. Same (Gone names) (After ts e) (AfterOps ys g)) (sym is.0) (masks_left ts ys e terms (agreed-all (shapes_of ss ++ run.operands_of ts) e is.1)))

    masks_at : Same (Gone names) (run.mask_terms w line ms >>= (λ ts. at_line line (Shape ts) >>= After ts)) (mask_values w.vars line os >>= (λ ys. at_line line (ShapeOfOps ys) >>= AfterOps ys))
    masks_at =
        same_then TermsStand (Gone names) (run.mask_terms w line ms) (mask_values w.vars line os) (λ ts. at_line line (Shape ts) >>= After ts) (λ ys. at_line line (ShapeOfOps ys) >>= AfterOps ys)
        (masks_first names w fits line ms os stand) (λ ts ys _ terms. masks_conform ts ys terms)

  masks_alone : (ms : List steps.Mask) (os : List Mask) → MasksStand names ms os → Same (Gone names) (run.run_masks (w, ss) ms) (run_masks (w.vars, ss) os)
  masks_alone ms os h =
      subst (λ l. Same (Gone names) (run.run_masks (w, ss) ms) (mask_values w.vars l os >>= (λ ys. at_line l (ShapeOfOps ms os l h ys) >>= AfterOps ms os l h ys))) (sym (last_line-same names 0 ms os h))
      (masks_at ms os (run.last_line 0 ms) h)

  -- ---- an assignment

  module _ (in_where : Bool) (ms : List steps.Mask) (os : List Mask) (a : steps.Assignment) (o : Assignment) (stand : MasksStand names ms os) (h : AssignmentStands names in_where a o) where
    abbrev pub Carried : List Term → Term → source.Target → Extents → Result (World × List Split) Fault
    Carried ts r q e = run.splits_after e ss ms ts >>= (λ all. source.carried_out w a.line a.right r e (active all e a.under) q >>= (λ s. Ok (source.with_target w a.left s, all)))

    abbrev CarriedByOps : List Yielded → Yielded → Yielded → Target → Extents → Result Progress Fault
    CarriedByOps ys r l t e = splits_after e ss os ys >>= (λ all. carried_out a.line r e (active all e a.under) t >>= (λ s. Ok (with_target w.vars (result l) s, all)))

    abbrev pub Shaped : List Term → Term → source.Target → Staged Extents
    Shaped ts r q = source.step_shape (shapes_of ss ++ run.operands_of ts ++ stage2.operands r) q

    abbrev ShapedByOps : List Yielded → Yielded → Target → Staged Extents
    ShapedByOps ys r t = step_shape (shapes_of ss ++ operands_of_masks ys ++ operands (result r)) t

    module _ (alone : (ts : List Term) → run.mask_terms w a.line ms ≡ Ok ts → in_where ≡ false → shapes_of ss ++ run.operands_of ts ≡ []) where
      new_world : (l : Yielded) (q : source.Target) (t : Target) (s : VarState) (b : VarState) (all : List Split) → Reached w a.left q (l, t) → b ≡ s →
          (let p : Progress = (with_target w.vars (result l) b, all) in p) ≡ ((source.with_target w a.left s).vars, all)
      new_world l q t s b all reached is = ap (λ x. let p : Progress = (with_state w.vars x b, all) in p) reached.1.name ∙ ap (λ x. let p : Progress = (with_state w.vars (source.target_name a.left) x, all) in p) is

      module _ (ts : List Term) (ys : List Yielded) (r : Term) (y l : Yielded) (q : source.Target) (t : Target) (first : run.mask_terms w a.line ms ≡ Ok ts) (terms : TermsStand ts ys)
          (right : stage1.walk w a.right ≡ Ok r) (stands : YieldStands w a.right y r) (left : source.target in_where w a.left ≡ Ok q) (reached : Reached w a.left q (l, t)) where
        abbrev before : List Extents
        before = shapes_of ss ++ run.operands_of ts

        shaped_same : ShapedByOps ys y t ≡ Shaped ts r q
        shaped_same =
            ap (λ x. step_shape (shapes_of ss ++ x ++ operands (result y)) t) (terms_operands ts ys terms)
            ∙ (ap (λ x. step_shape (shapes_of ss ++ run.operands_of ts ++ x) t) stands.operands ∙ step_shape-same (shapes_of ss ++ run.operands_of ts ++ stage2.operands r) t q reached.0)

        target_carried : (e : Extents) (all : List Split) → Shaped ts r q ≡ Ok e → AreSplit e all →
            Same (Gone names) (source.carried_out w a.line a.right r e (active all e a.under) q >>= (λ s. let done : Result (World × List Split) Fault = Ok (source.with_target w a.left s, all) in done))
            (carried_out a.line y e (active all e a.under) t >>= (λ s. let done : Result Progress Fault = Ok (with_target w.vars (result l) s, all) in done))
        target_carried e all shape split =
            let places = active all e a.under in
            same_then (Left names w a.line a.left a.right r y e places) (Gone names) (source.carried_out w a.line a.right r e places q) (carried_out a.line y e places t)
            (λ s. Ok (source.with_target w a.left s, all)) (λ s. Ok (with_target w.vars (result l) s, all))
            (carried names w a.line a.left a.right r y in_where before e places stands (alone ts first) (active_within e all a.under split) t q reached.0 (h.takes w r q fits right left) shape)
            (λ s b _ is. ((with_target w.vars (result l) b, all), refl, (new_world l q t s b all reached is.0, is.1, split.places)))

        splits_carried : (e : Extents) → Shaped ts r q ≡ Ok e → Same (Gone names) (Carried ts r q e) (CarriedByOps ys y l t e)
        splits_carried e shape =
            let conform = (step_conform (shapes_of ss ++ run.operands_of ts ++ stage2.operands r) q e shape).0 in
            let masks = have_first e before (stage2.operands r) conform in
            same_then (SplitAlike e) (Gone names) (run.splits_after e ss ms ts) (splits_after e ss os ys)
            (λ all. source.carried_out w a.line a.right r e (active all e a.under) q >>= (λ s. Ok (source.with_target w a.left s, all)))
            (λ all. carried_out a.line y e (active all e a.under) t >>= (λ s. Ok (with_target w.vars (result l) s, all)))
            (splits_same names e ss ms os ts ys stand terms (have_after e (shapes_of ss) (run.operands_of ts) masks) (split_before e (have_first e (shapes_of ss) (run.operands_of ts) masks)))
            (λ all also _ is. subst (λ x. Same (Gone names) (source.carried_out w a.line a.right r e (active all e a.under) q >>= (λ s. let done : Result (World × List Split) Fault = Ok (source.with_target w a.left s, all) in done))
            (carried_out a.line y e (active x e a.under) t >>= (λ s. let done : Result Progress Fault = Ok (with_target w.vars (result l) s, x) in done))) (sym is.0) (target_carried e all shape is.1))

        shape_carried : Same (Gone names) (at_line a.line (Shaped ts r q) >>= Carried ts r q) (at_line a.line (ShapedByOps ys y t) >>= CarriedByOps ys y l t)
        shape_carried =
            same_then (λ e f. (f ≡ e) × (Shaped ts r q ≡ Ok e)) (Gone names) (at_line a.line (Shaped ts r q)) (at_line a.line (ShapedByOps ys y t)) (Carried ts r q) (CarriedByOps ys y l t)
            (same_lines (λ e f. (f ≡ e) × (Shaped ts r q ≡ Ok e)) a.line a.line (Shaped ts r q) (ShapedByOps ys y t) (same_known (Shaped ts r q) (ShapedByOps ys y t) shaped_same))
            (λ e f _ is. subst (λ g. Same (Gone names) (Carried ts r q e) (CarriedByOps ys y l t g)) (sym is.0) (splits_carried e is.1))

      -- ---- its stages, from the last one back

      abbrev pub Lefts : List Term → Term → Result (World × List Split) Fault
      Lefts ts r = at_line a.line (source.target in_where w a.left) >>= (λ q. at_line a.line (Shaped ts r q) >>= Carried ts r q)

      abbrev LeftsByOps : List Yielded → Yielded → Result Progress Fault
      LeftsByOps ys y = at_line a.line (walk (of_variables w.vars) o.left) >>= (λ l. at_line a.line (target o.realloc (result l)) >>= (λ t. at_line a.line (ShapedByOps ys y t) >>= CarriedByOps ys y l t))

      abbrev ReachedWell : source.Target → Yielded × Target → Type 0
      ReachedWell q p = Reached w a.left q p × (source.target in_where w a.left ≡ Ok q)

      left_carried : (ts : List Term) (ys : List Yielded) (r : Term) (y : Yielded) → run.mask_terms w a.line ms ≡ Ok ts → TermsStand ts ys → stage1.walk w a.right ≡ Ok r → YieldStands w a.right y r → Same (Gone names) (Lefts ts r) (LeftsByOps ys y)
      left_carried ts ys r y first terms right stands =
          let both = left_target w o.realloc o.left.first o.left.ops in
          let there = source.target in_where w a.left in
          subst (Same (Gone names) (Lefts ts r)) (sym (two_steps a.line (λ l. target o.realloc (result l)) (λ l t. at_line a.line (ShapedByOps ys y t) >>= CarriedByOps ys y l t) (walk (of_variables w.vars) o.left)))
          (same_then ReachedWell (Gone names) (at_line a.line there) (at_line a.line both) (λ q. at_line a.line (Shaped ts r q) >>= Carried ts r q) (λ p. at_line a.line (ShapedByOps ys y p.1) >>= CarriedByOps ys y p.0 p.1)
          (same_lines ReachedWell a.line a.line there both
          (same_weaker (Reached w a.left) ReachedWell there both (λ q p is g. (g, is)) (reaches_same w a.left o.realloc o.left.first o.left.ops there (h.left w fits))))
          (λ q p _ g. shape_carried ts ys r y p.0 q p.1 first terms right stands g.1 g.0))

      abbrev pub Rights : List Term → Result (World × List Split) Fault
      Rights ts = at_line a.line (stage1.walk w a.right) >>= Lefts ts

      abbrev RightsByOps : List Yielded → Result Progress Fault
      RightsByOps ys = at_line a.line (walk (of_variables w.vars) o.right) >>= LeftsByOps ys

      abbrev Stands : Term → Yielded → Type 0
      Stands r y = YieldStands w a.right y r × (stage1.walk w a.right ≡ Ok r)

      right_carried : (ts : List Term) (ys : List Yielded) → run.mask_terms w a.line ms ≡ Ok ts → TermsStand ts ys → Same (Gone names) (Rights ts) (RightsByOps ys)
      right_carried ts ys first terms =
          let here = walk (of_variables w.vars) o.right in
          let there = stage1.walk w a.right in
          same_then Stands (Gone names) (at_line a.line there) (at_line a.line here) (Lefts ts) (LeftsByOps ys)
          (same_lines Stands a.line a.line there here
          (same_weaker (λ r y. YieldStands w a.right y r) Stands there here (λ r y is g. (g, is)) (yields_same w a.right o.right.first o.right.ops there (h.right w fits))))
          (λ r y _ g. left_carried ts ys r y first terms g.1 g.0)

      all_carried : Same (Gone names) (run.mask_terms w a.line ms >>= Rights) (mask_values w.vars a.line os >>= RightsByOps)
      all_carried =
          same_then TermsStand (Gone names) (run.mask_terms w a.line ms) (mask_values w.vars a.line os) Rights RightsByOps (masks_first names w fits a.line ms os stand) (λ ts ys first terms. right_carried ts ys first terms)

      -- the op has the line and the control of its source
      abbrev ByOps : ℕ → Control → Result Progress Fault
      ByOps line c = run_assignment (w.vars, ss) os (record { line = line; realloc = o.realloc; right = o.right; left = o.left; under = c })

      pub assignment_same : Same (Gone names) (run.mask_terms w a.line ms >>= Rights) (run_assignment (w.vars, ss) os o)
      assignment_same =
          subst (λ l. Same (Gone names) (run.mask_terms w a.line ms >>= Rights) (ByOps l o.under)) (sym h.line) (subst (λ c. Same (Gone names) (run.mask_terms w a.line ms >>= Rights) (ByOps a.line c)) (sym h.under) all_carried)

  -- in a WHERE
  masked : (ms : List steps.Mask) (os : List Mask) (a : steps.Assignment) (o : Assignment) → MasksStand names ms os → AssignmentStands names true a o → Same (Gone names) (run.run_assignment (w, ss) ms a) (run_assignment (w.vars, ss) os o)
  masked ms os a o stand h = assignment_same true ms os a o stand h (λ ts _ is. absurd (true≢false is))

  part_same : (ms : List steps.Mask) (os : List Mask) (a : Option steps.Assignment) (o : Option Assignment) → MasksStand names ms os → PartStands names a o → Same (Gone names) (run.run_part (w, ss) ms a) (run_part (w.vars, ss) os o)
  part_same ms os None None stand h = masks_alone ms os stand
  part_same ms os None (Some o) stand h = absurd h
  part_same ms os (Some a) None stand h = absurd h
  part_same ms os (Some a) (Some o) stand h = masked ms os a o stand h

  step_same : (s : steps.Step) (o : Step) → StepStands names s o → Same (Gone names) (run.run_step (w, ss) s) (run_step (w.vars, ss) o)
  step_same s o h = part_same s.masks o.masks s.assignment o.assignment h.masks h.assignment

-- ---- all steps

abbrev pub Whole : Names → World → List Var → Type 0
Whole names v vars = (vars ≡ v.vars) × FitsNames names v

pub steps_same : (names : Names) (w : World) (ss : List Split) (steps : List steps.Step) (os : List Step) → FitsNames names w → All IsPlaced ss → StepsStand names steps os →
    Same (Whole names) (run.run_steps (w, ss) steps) (run_steps (w.vars, ss) os)
steps_same names w ss [] [] fits placed h = (w.vars, refl, (refl, fits))
steps_same names w ss [] (o ∷ os) fits placed h = absurd h
steps_same names w ss (s ∷ more) [] fits placed h = absurd h
steps_same names w ss (s ∷ more) (o ∷ os) fits placed h =
    same_then (Gone names) (Whole names) (run.run_step (w, ss) s) (run_step (w.vars, ss) o) (λ q. run.run_steps q more) (λ q. run_steps q os) (step_same names w ss fits placed s o h.0)
    (λ r q _ g. subst (λ p. Same (Whole names) (run.run_steps r more) (run_steps p os)) (sym g.0) (steps_same names r.0 r.1 more os g.1 g.2 h.1))
