-- The masks of a step: stage 1 of each, and then what each leaves.
use Rattle.std.proofs.Common.{◌≡◌, refl, sym, ap, ◌∙◌, subst, ℕ, List, [], ◌∷◌, ◌++◌, Ok, Err, ℤ}
use Rattle.ws_base.specs.Outcomes.{Staged, ◌>>=◌}
use Rattle.ws_space.specs.Shapes.{Extents}
use Rattle.ws_space.specs.Faults.{at_lines, at_places}
use Rattle.ws_space.specs.Masks.{Split, split_by, active}
use Rattle.ws_tree.specs.declared.expr.Expr.{Expr}
use Rattle.ws_types.specs.Steps as source
use Rattle.array_meaning.specs.declared.world.World.{World}
use Rattle.array_meaning.specs.declared.term.Term.{Term}
use Rattle.array_meaning.specs.Stage1 as stage1
use Rattle.array_meaning.specs.Stage2 as stage2
use Rattle.array_meaning.specs.Where as run
use Rattle.hlfir_ops.specs.declared.op.Op.{Op}
use Rattle.hlfir_meaning.specs.Environments.{Yielded, of_variables, result}
use Rattle.hlfir_meaning.specs.Stage1.{walk}
use Rattle.hlfir_meaning.specs.Stage2.{operands, values}
use Rattle.hlfir_meaning.specs.Steps.{Mask}
use Rattle.hlfir_meaning.specs.Masks.{mask_values, operands_of_masks, splits_after, last_line}
use Rattle.lower_values.specs.declared.names.Names.{Names}
use Rattle.value_laws.specs.Standing.{AreIn}
use Rattle.world_laws.specs.Worlds.{FitsNames}
use Rattle.world_laws.specs.Yields.{region, Yields, YieldStands}
use Rattle.where_laws.specs.Steps.{MaskStands, MasksStand}
use Rattle.where_laws.proofs.Same.{Same, same_then, same_equal, same_lines, same_weaker}
use Rattle.where_laws.proofs.Places.{HaveShape, within_each, AreSplit, split_placed, more_split, active_within, have_first, have_after}

-- ---- what a region yields

pub yields_same : (w : World) (e : Expr) (n : ℕ) (ops : List Op) (r : Staged Term) → Yields w e n ops r → Same (λ t y. YieldStands w e y t) r (walk (of_variables w.vars) (region n ops))
yields_same w e n ops (Ok t) h = h
yields_same w e n ops (Err t) h = h

-- what is yielded has the operands of this term, and its values at the places of their shapes
pub record TermStands (t : Term) (y : Yielded) : Type 0 where
  pub operands : operands (result y) ≡ stage2.operands t
  pub values : (at : List ℕ) → AreIn at (stage2.operands t) → values y at ≡ stage2.values t at

pub term_stands : (w : World) (e : Expr) (y : Yielded) (t : Term) → YieldStands w e y t → TermStands t y
term_stands w e y t h = record { operands = h.operands; values = h.values }

abbrev pub TermsStand : List Term → List Yielded → Type 0
TermsStand [] [] = Unit {0}
TermsStand (t ∷ ts) (y ∷ ys) = TermStands t y × TermsStand ts ys
TermsStand _ _ = ⊥

pub terms_operands : (ts : List Term) (ys : List Yielded) → TermsStand ts ys → operands_of_masks ys ≡ run.operands_of ts
terms_operands [] [] h = refl
terms_operands [] (y ∷ ys) h = absurd h
terms_operands (t ∷ ts) [] h = absurd h
terms_operands (t ∷ ts) (y ∷ ys) h = ap (λ o. o ++ operands_of_masks ys) h.0.operands ∙ ap (λ o. stage2.operands t ++ o) (terms_operands ts ys h.1)

-- ---- stage 1

module _ (names : Names) (w : World) (fits : FitsNames names w) where
  first_stage : (shape_line : ℕ) (m : source.Mask) (o : Mask) → MaskStands names m o →
      Same (λ t y. TermStands t y) (at_lines m.line shape_line (stage1.walk w m.test)) (at_lines o.line shape_line (walk (of_variables w.vars) o.test))
  first_stage shape_line m o h =
      subst (λ l. Same (λ t y. TermStands t y) (at_lines m.line shape_line (stage1.walk w m.test)) (at_lines l shape_line (walk (of_variables w.vars) o.test))) (sym h.line)
      (same_lines (λ t y. TermStands t y) m.line shape_line (stage1.walk w m.test) (walk (of_variables w.vars) o.test)
      (same_weaker (λ t y. YieldStands w m.test y t) (λ t y. TermStands t y) (stage1.walk w m.test) (walk (of_variables w.vars) o.test) (λ t y _ g. term_stands w m.test y t g)
      (yields_same w m.test o.test.first o.test.ops (stage1.walk w m.test) (h.test w fits))))

  pub masks_first : (shape_line : ℕ) (ms : List source.Mask) (os : List Mask) → MasksStand names ms os → Same TermsStand (run.mask_terms w shape_line ms) (mask_values w.vars shape_line os)
  masks_first shape_line [] [] h = ([], refl, tt)
  masks_first shape_line [] (o ∷ os) h = absurd h
  masks_first shape_line (m ∷ ms) [] h = absurd h
  masks_first shape_line (m ∷ ms) (o ∷ os) h =
      same_then (λ t y. TermStands t y) TermsStand (at_lines m.line shape_line (stage1.walk w m.test)) (at_lines o.line shape_line (walk (of_variables w.vars) o.test))
      (λ t. run.mask_terms w shape_line ms >>= (λ ts. Ok (t ∷ ts))) (λ y. mask_values w.vars shape_line os >>= (λ ys. Ok (y ∷ ys))) (first_stage shape_line m o h.0)
      (λ t y _ first. same_then TermsStand TermsStand (run.mask_terms w shape_line ms) (mask_values w.vars shape_line os) (λ ts. Ok (t ∷ ts)) (λ ys. Ok (y ∷ ys)) (masks_first shape_line ms os h.1)
      (λ ts ys _ rest. (y ∷ ys, refl, (first, rest))))

-- ---- stage 2

abbrev pub SplitAlike : Extents → List Split → List Split → Type 0
SplitAlike e ss os = (os ≡ ss) × AreSplit e ss

module _ (names : Names) (e : Extents) where
  places_same : (m : source.Mask) (o : Mask) (ss : List Split) (t : Term) (y : Yielded) → MaskStands names m o → AreSplit e ss → HaveShape e (stage2.operands t) → TermStands t y →
      at_places o.line (active ss e o.under) (values y (active ss e o.under)) ≡ at_places m.line (active ss e m.under) (stage2.values t (active ss e m.under))
  places_same m o ss t y h split conform stands =
      ap (λ l. at_places l (active ss e o.under) (values y (active ss e o.under))) h.line
      ∙ (ap (λ c. at_places m.line (active ss e c) (values y (active ss e c))) h.under
      ∙ ap (at_places m.line (active ss e m.under)) (stands.values (active ss e m.under) (within_each e (active ss e m.under) (stage2.operands t) (active_within e ss m.under split) conform)))

  split_alike : (m : source.Mask) (o : Mask) (ss : List Split) (xs ys : List ℤ) → MaskStands names m o → ys ≡ xs → split_by e (active ss e o.under) ys ≡ split_by e (active ss e m.under) xs
  split_alike m o ss xs ys h is = ap (λ c. split_by e (active ss e c) ys) h.under ∙ ap (split_by e (active ss e m.under)) is

  pub splits_same : (ss : List Split) (ms : List source.Mask) (os : List Mask) (ts : List Term) (ys : List Yielded) → MasksStand names ms os → TermsStand ts ys → HaveShape e (run.operands_of ts) → AreSplit e ss →
      Same (SplitAlike e) (run.splits_after e ss ms ts) (splits_after e ss os ys)
  splits_same ss [] [] [] [] h g conform split = (ss, refl, (refl, split))
  splits_same ss [] [] [] (y ∷ ys) h g conform split = absurd g
  splits_same ss [] [] (t ∷ ts) [] h g conform split = absurd g
  splits_same ss [] [] (t ∷ ts) (y ∷ ys) h g conform split = (ss, refl, (refl, split))
  splits_same ss [] (o ∷ os) ts ys h g conform split = absurd h
  splits_same ss (m ∷ ms) [] ts ys h g conform split = absurd h
  splits_same ss (m ∷ ms) (o ∷ os) [] [] h g conform split = (ss, refl, (refl, split))
  splits_same ss (m ∷ ms) (o ∷ os) [] (y ∷ ys) h g conform split = absurd g
  splits_same ss (m ∷ ms) (o ∷ os) (t ∷ ts) [] h g conform split = absurd g
  splits_same ss (m ∷ ms) (o ∷ os) (t ∷ ts) (y ∷ ys) h g conform split =
      let first = have_first e (stage2.operands t) (run.operands_of ts) conform in
      let rest = have_after e (stage2.operands t) (run.operands_of ts) conform in
      let here = active ss e m.under in
      same_then (λ xs zs. zs ≡ xs) (SplitAlike e) (at_places m.line here (stage2.values t here)) (at_places o.line (active ss e o.under) (values y (active ss e o.under)))
      (λ xs. run.splits_after e (ss ++ split_by e here xs ∷ []) ms ts) (λ zs. splits_after e (ss ++ split_by e (active ss e o.under) zs ∷ []) os ys)
      (same_equal (at_places m.line here (stage2.values t here)) (at_places o.line (active ss e o.under) (values y (active ss e o.under))) (places_same m o ss t y h.0 split first g.0))
      (λ xs zs _ is. subst (λ s. Same (SplitAlike e) (run.splits_after e (ss ++ split_by e here xs ∷ []) ms ts) (splits_after e (ss ++ s ∷ []) os ys)) (sym (split_alike m o ss xs zs h.0 is))
      (splits_same (ss ++ split_by e here xs ∷ []) ms os ts ys h.1 g.1 rest (more_split e ss (split_by e here xs) refl (split_placed e here xs (active_within e ss m.under split)) split)))

pub last_line-same : (names : Names) (line : ℕ) (ms : List source.Mask) (os : List Mask) → MasksStand names ms os → last_line line os ≡ run.last_line line ms
last_line-same names line [] [] h = refl
last_line-same names line [] (o ∷ os) h = absurd h
last_line-same names line (m ∷ ms) [] h = absurd h
last_line-same names line (m ∷ ms) (o ∷ os) h = ap (λ l. last_line l os) h.0.line ∙ last_line-same names m.line ms os h.1
