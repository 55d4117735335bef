-- An assignment outside WHERE is one step, active everywhere.
use Rattle.std.proofs.Common.{◌≡◌, refl, sym, ap, subst, ℕ, false, List, [], ◌∷◌, Result, Ok, Err, Some}
use Rattle.std.proofs.lemmas.List.Elements.{All-nil}
use Rattle.ws_base.specs.declared.fault.Fault.{Fault}
use Rattle.ws_base.specs.Outcomes.{◌>>=◌}
use Rattle.ws_space.specs.Shapes.{Extents, all_places}
use Rattle.ws_space.specs.Faults.{at_line}
use Rattle.ws_space.specs.Masks.{Split, everywhere}
use Rattle.ws_tree.specs.declared.expr.Expr.{Expr}
use Rattle.ws_types.specs.Steps as steps
use Rattle.array_meaning.specs.declared.world.World.{World}
use Rattle.array_meaning.specs.declared.term.Term.{Term}
use Rattle.array_meaning.specs.Stage1.{walk}
use Rattle.array_meaning.specs.Stage2.{operands}
use Rattle.array_meaning.specs.Assign.{Target, target, step_shape, carried_out, with_target, assign}
use Rattle.array_meaning.specs.Where.{operands_of}
use Rattle.hlfir_meaning.specs.Steps.{Assignment, Step}
use Rattle.hlfir_meaning.specs.Masks.{run_assignment, run_steps}
use Rattle.lower_values.specs.declared.names.Names.{Names}
use Rattle.world_laws.specs.Worlds.{FitsNames}
use Rattle.where_laws.specs.Steps.{AssignmentStands}
use Rattle.where_laws.proofs.Same.{Same, same_then, ok_same}
use Rattle.where_laws.proofs.Places.{IsPlaced}
use Rattle.where_laws.proofs.Assigned.{Gone, Whole, assignment_same}

-- one operation more after each
then_more : {A B C E : Type 0} (p : Result A E) (f : A → Result B E) (g : B → Result C E) (h : A → Result C E) → ((x : A) → h x ≡ (f x >>= g)) → (p >>= h) ≡ ((p >>= f) >>= g)
then_more (Ok x) f g h k = k x
then_more (Err e) f g h k = refl

module _ (names : Names) (w : World) (line : ℕ) (left right : Expr) where
  abbrev Both : Type 0
  Both = Result (World × List Split) Fault

  abbrev Last : Term → Target → Extents → Both
  Last r q e = carried_out w line right r e (all_places e) q >>= (λ s. Ok (with_target w left s, []))

  -- the assignment, as a step leaves it
  abbrev stepped : Both
  stepped = at_line line (walk w right) >>= (λ r. at_line line (target false w left) >>= (λ q. at_line line (step_shape (operands r) q) >>= Last r q))

  assign-stepped : assign w line left right ≡ (stepped >>= (λ p. let v : Result World Fault = Ok p.0 in v))
  assign-stepped =
      let out : World × List Split → Result World Fault = λ p. Ok p.0 in
      then_more (at_line line (walk w right)) _ out _ (λ r. then_more (at_line line (target false w left)) _ out _ (λ q. then_more (at_line line (step_shape (operands r) q)) (Last r q) out _
      (λ e. then_more (carried_out w line right r e (all_places e) q) (λ s. Ok (with_target w left s, [])) out _ (λ s. refl))))

  pub plain_same : (o : Assignment) → FitsNames names w → AssignmentStands names false (record { line = line; left = left; right = right; under = everywhere }) o →
      Same (Whole names) (assign w line left right) (run_steps (w.vars, []) (let s : Step = record { masks = []; assignment = Some o } in s ∷ []))
  plain_same o fits h =
      let a : steps.Assignment = record { line = line; left = left; right = right; under = everywhere } in
      let step : Same (Gone names) stepped (run_assignment (w.vars, []) [] o) =
      assignment_same names w [] fits (All-nil IsPlaced) false [] [] a o tt h (λ ts is _. ap operands_of (sym (ok_same [] ts is))) in
      subst (λ r. Same (Whole names) r (run_assignment (w.vars, []) [] o >>= (λ q. run_steps q []))) (sym assign-stepped)
      (same_then (Gone names) (Whole names) stepped (run_assignment (w.vars, []) [] o) (λ p. Ok p.0) (λ q. run_steps q []) step
      (λ r q _ g. subst (λ p. Same (Whole names) (let v : Result World Fault = Ok r.0 in v) (run_steps p [])) (sym g.0) (r.0.vars, refl, (refl, g.1))))
