-- Events that stand for events, and their steps.
use Rattle.std.proofs.Common.{◌≡◌, refl, sym, subst, ℕ, suc, List, [], ◌∷◌, ◌++◌}
use Rattle.ws_space.specs.Masks.{Control}
use Rattle.ws_tree.specs.declared.expr.Expr.{Expr}
use Rattle.ws_types.specs.Steps as source
use Rattle.hlfir_meaning.specs.Environments.{OpRegion}
use Rattle.hlfir_meaning.specs.Steps as ops
use Rattle.lower_values.specs.declared.names.Names.{Names}
use Rattle.where_laws.specs.Steps.{MaskStands, MasksStand, EventStands, EventsStand, StepsStand}

module _ (names : Names) where
  -- from each number of the next mask on: the events of one stand for those of the other, and the next number is the same
  abbrev pub Alike : source.Numbered → ops.Numbered → Type 0
  Alike p q = (k : ℕ) → EventsStand names (p k).0 (q k).0 × ((q k).1 ≡ (p k).1)

  pub alike_nothing : Alike source.nothing ops.nothing
  alike_nothing k = (tt, refl)

  pub alike_event : (e : source.Event) (f : ops.Event) → EventStands names e f → Alike (source.event e) (ops.event f)
  alike_event e f h k = ((h, tt), refl)

  stand_append : (es fs : List source.Event) (gs hs : List ops.Event) → EventsStand names es gs → EventsStand names fs hs → EventsStand names (es ++ fs) (gs ++ hs)
  stand_append [] fs [] hs h g = g
  stand_append [] fs (x ∷ gs) hs h g = absurd h
  stand_append (e ∷ es) fs [] hs h g = absurd h
  stand_append (e ∷ es) fs (x ∷ gs) hs h g = (h.0, stand_append es fs gs hs h.1 g)

  pub alike_both : (p p' : source.Numbered) (q q' : ops.Numbered) → Alike p q → Alike p' q' → Alike (source.both p p') (ops.both q q')
  alike_both p p' q q' h g k =
      subst (λ m. EventsStand names ((p k).0 ++ (p' (p k).1).0) ((q k).0 ++ (q' m).0) × ((q' m).1 ≡ (p' (p k).1).1)) (sym (h k).1)
      (stand_append (p k).0 (p' (p k).1).0 (q k).0 (q' (p k).1).0 (h k).0 (g (p k).1).0, (g (p k).1).1)

  pub alike_masking : (line : ℕ) (e : Expr) (test : OpRegion) (c : Control) (p : ℕ → source.Numbered) (q : ℕ → ops.Numbered) →
      MaskStands names (record { line = line; test = e; under = c }) (record { line = line; test = test; under = c }) → ((k : ℕ) → Alike (p k) (q k)) → Alike (source.masking line e c p) (ops.masking line test c q)
  alike_masking line e test c p q h g k = ((h, (g k (suc k)).0), (g k (suc k)).1)

  -- ---- steps

  masks_more : (ms : List source.Mask) (os : List ops.Mask) (m : source.Mask) (o : ops.Mask) → MasksStand names ms os → MaskStands names m o → MasksStand names (ms ++ m ∷ []) (os ++ o ∷ [])
  masks_more [] [] m o h g = (g, tt)
  masks_more [] (x ∷ os) m o h g = absurd h
  masks_more (y ∷ ms) [] m o h g = absurd h
  masks_more (y ∷ ms) (x ∷ os) m o h g = (h.0, masks_more ms os m o h.1 g)

  pub steps_stand : (ms : List source.Mask) (os : List ops.Mask) (es : List source.Event) (fs : List ops.Event) → MasksStand names ms os → EventsStand names es fs → StepsStand names (source.steps_after ms es) (ops.steps_after os fs)
  steps_stand [] [] [] [] h g = tt
  steps_stand [] (o ∷ os) es fs h g = absurd h
  steps_stand (m ∷ ms) [] es fs h g = absurd h
  steps_stand ms os [] (f ∷ fs) h g = absurd g
  steps_stand ms os (e ∷ es) [] h g = absurd g
  steps_stand (m ∷ ms) (o ∷ os) [] [] h g = (record { masks = h; assignment = tt }, tt)
  steps_stand ms os (source.mask m ∷ es) (ops.assigned o ∷ fs) h g = absurd g.0
  steps_stand ms os (source.assigned a ∷ es) (ops.mask o ∷ fs) h g = absurd g.0
  steps_stand [] [] (source.mask m ∷ es) (ops.mask o ∷ fs) h g = steps_stand (m ∷ []) (o ∷ []) es fs (g.0, tt) g.1
  steps_stand (x ∷ ms) (y ∷ os) (source.mask m ∷ es) (ops.mask o ∷ fs) h g = steps_stand (x ∷ (ms ++ m ∷ [])) (y ∷ (os ++ o ∷ [])) es fs (masks_more (x ∷ ms) (y ∷ os) m o h g.0) g.1
  steps_stand [] [] (source.assigned a ∷ es) (ops.assigned o ∷ fs) h g = (record { masks = tt; assignment = g.0 }, steps_stand [] [] es fs tt g.1)
  steps_stand (x ∷ ms) (y ∷ os) (source.assigned a ∷ es) (ops.assigned o ∷ fs) h g = (record { masks = h; assignment = g.0 }, steps_stand [] [] es fs tt g.1)
