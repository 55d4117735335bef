-- The masks and assignments of a construct are small where its body is.
use Rattle.std.proofs.Common.{◌≡◌, sym, subst, ℕ, suc, List, [], ◌∷◌, map, All, Option, Some, None}
use Rattle.std.proofs.lemmas.List.Elements.{All-nil, All-cons, All-head, All-tail, All-append}
use Rattle.ws_space.specs.Masks.{Control, everywhere, held, failed}
use Rattle.ws_tree.specs.declared.expr.Expr.{Expr}
use Rattle.ws_tree.specs.declared.stmt.Body.{Body}
use Rattle.ws_tree.specs.declared.stmt.Body.TheVariants.{Assign, Masked', Forall', Loop', Allocate, Deallocate, Read, Shared', Unsupported, TooDeep}
use Rattle.ws_tree.specs.declared.stmt.Else.{Else'}
use Rattle.ws_tree.specs.Trees.{Stmts, end_stmts, more_stmts, Elses, end_elses, more_elses}
use Rattle.ws_types.specs.Steps as steps
use Rattle.ws_types.specs.Steps.{Numbered, masking, else_part, block, inside, otherwise, where_events}
use Rattle.term_eval.specs.Limits.{IsSmall}
use Rattle.step_eval.specs.declared.events.Event.{Event}
use Rattle.step_eval.specs.declared.events.Event.TheVariants as code
use Rattle.step_eval.specs.Events.{event_of, IsSmallEvent}
use Rattle.step_eval.specs.Small.{IsSmallOption, IsSmallBody, AreSmallStmts, AreSmallElses}

abbrev IsSmallStep : steps.Event → Type 0
IsSmallStep (steps.mask m) = IsSmall m.test
IsSmallStep (steps.assigned a) = IsSmall a.left × IsSmall a.right

-- whatever the number of the next mask
abbrev AreSmallSteps : Numbered → Type 0
AreSmallSteps p = (k : ℕ) → All IsSmallStep (p k).0

none_small : AreSmallSteps steps.nothing
none_small k = All-nil IsSmallStep

masking_small : (line : ℕ) (test : Expr) (c : Control) (p : ℕ → Numbered) → IsSmall test → ((k : ℕ) → AreSmallSteps (p k)) → AreSmallSteps (masking line test c p)
masking_small line test c p h g k = All-cons IsSmallStep (steps.mask (record { line = line; test = test; under = c })) (p k (suc k)).0 h (g k (suc k))

both_small : (p q : Numbered) → AreSmallSteps p → AreSmallSteps q → AreSmallSteps (steps.both p q)
both_small p q h g k = All-append IsSmallStep (p k).0 (q (p k).1).0 (h k) (g (p k).1)

part_small : (line : ℕ) (test : Option Expr) (c : Control) (p q : Control → Numbered) → IsSmallOption test → ((d : Control) → AreSmallSteps (p d)) → ((d : Control) → AreSmallSteps (q d)) → AreSmallSteps (else_part line test c p q)
part_small line (Some test) c p q h f g = masking_small line test c (λ k. steps.both (p (held k)) (q (failed k))) h (λ k. both_small (p (held k)) (q (failed k)) (f (held k)) (g (failed k)))
part_small line None c p q h f g = f c

mutual
  block_small : {m : _} (c : Control) (ss : Stmts m) → AreSmallStmts ss → AreSmallSteps (block c ss)
  block_small c end_stmts h = none_small
  block_small c (more_stmts line body rest) h = both_small (inside c line body) (block c rest) (inside_small c line body h.0) (block_small c rest h.1)

  inside_small : (c : Control) (line : ℕ) (body : Body) → IsSmallBody body → AreSmallSteps (inside c line body)
  inside_small c line (Assign left right) h = λ k. All-cons IsSmallStep (steps.assigned (record { line = line; left = left; right = right; under = c })) [] h (All-nil IsSmallStep)
  inside_small c line (Masked' test n ss m es) h =
      masking_small line test c (λ k. steps.both (block (held k) ss) (otherwise (failed k) es)) h.0
      (λ k. both_small (block (held k) ss) (otherwise (failed k) es) (block_small (held k) ss h.1) (otherwise_small (failed k) es h.2))
  inside_small c line (Forall' indexes test n ss) h = none_small
  inside_small c line (Loop' x l u s n ss) h = none_small
  inside_small c line (Allocate parts) h = none_small
  inside_small c line (Deallocate names) h = none_small
  inside_small c line (Read items) h = none_small
  inside_small c line (Shared' n ss) h = none_small
  inside_small c line Unsupported h = none_small
  inside_small c line TooDeep h = none_small

  otherwise_small : {m : _} (c : Control) (es : Elses m) → AreSmallElses es → AreSmallSteps (otherwise c es)
  otherwise_small c end_elses h = none_small
  otherwise_small c (more_elses (Else' line test n ss) rest) h = part_small line test c (λ d. block d ss) (λ d. otherwise d rest) h.0 (λ d. block_small d ss h.1) (λ d. otherwise_small d rest h.2)

one_small : (e : Event) → IsSmallStep (event_of e) → IsSmallEvent e
one_small (code.Mask m) h = h
one_small (code.Assigned a) h = h

each_small : (es : List Event) → All IsSmallStep (map event_of es) → All IsSmallEvent es
each_small [] h = All-nil IsSmallEvent
each_small (e ∷ es) h = All-cons IsSmallEvent e es (one_small e (All-head IsSmallStep (event_of e) (map event_of es) h)) (each_small es (All-tail IsSmallStep (event_of e) (map event_of es) h))

pub events_small : (es : List Event) (line : ℕ) (body : Body) → map event_of es ≡ where_events line body → IsSmallBody body → All IsSmallEvent es
events_small es line body is h = let P : List steps.Event → Type 0 = λ l. All IsSmallStep l in each_small es (subst P (sym is) (inside_small everywhere line body h 0))
