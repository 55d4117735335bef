-- Layered acts behind an idle one.
use Rattle.std.proofs.Common.{◌≡◌, ℕ, suc, ◌+◌, ◌<◌, List, [], ◌∷◌, ◌++◌, length, refl, ap, ◌∙◌, subst, arith, Some, None, Ok, Err, ℤ, pos, negsuc}
use Rattle.ws_base.specs.Numbers.{Exact, exact, default_half}
use Rattle.std.specs.Prelude.{◌-ℤ◌}
use Rattle.phase_ops.specs.declared.effect.Effect.{Effect}
use Rattle.phase_ops.specs.declared.effect.Effect.TheVariants.{Store, Fault}
use Rattle.phase_ops.specs.declared.phase.Micro.{Micro}
use Rattle.phase_ops.specs.declared.phase.Micro.TheVariants as op
use Rattle.phase_ops.specs.Phases.{Cells, word, key_of, over, turn_of, Event, ops_events, acts_events, makes, loads}
use Rattle.phase_ops.specs.Free.{In}
use Rattle.phase_ops.proofs.Strands.{loads_append}
use Rattle.loop_laws.specs.Moves.{Move, Ended, moved}
use Rattle.loop_laws.specs.Loops.{does, looks_at, planned}
use Rattle.segment_laws.specs.Segments.{Ran, Through, Out, Broke, ran, seen, seen_next, AllStoreNothing, onward}
use Rattle.segment_laws.specs.Compiled.{Compiled, all_ops, RanSo}
use Rattle.segment_laws.specs.Acts.{from, negative_ops, act}
use Rattle.mask_laws.specs.Layers.{Layer, layered, ops_of, layer_of, spot_at, no_rest}
use Rattle.mask_laws.specs.Idles.{idle_end, idle_store, idle_layered}
use Rattle.segment_laws.proofs.Acts.{at_is, at_first}
use Rattle.segment_laws.proofs.Segments.{segment}
use Rattle.segment_laws.proofs.Compiled.{runs}
use Rattle.segment_laws.proofs.Idle.{idles, with_idle, first_act}
use Rattle.mask_laws.proofs.Layers.{end_from, goes}
use Rattle.mask_laws.proofs.Looks.{later_loads}

module _ (layers : List Layer) (line a : ℕ) (rest tail : List Micro) (m : Cells) (i : ℕ) (low : i < 65536) (quiet : AllStoreNothing (ops_of layers)) (quiet_rest : AllStoreNothing rest) where
  abbrev x : Cells
  x = with_idle a i m

  one_later : (r : Ran) → end_from i x line rest tail quiet_rest 1 0 layers r ≡ idle_end layers tail x i r
  one_later (Through regs) = ap (λ (k : ℕ). makes (ops_events (spot_at k i) tail x regs no_rest)) (let e : 1 + length layers ≡ suc (length layers) = omega arith in e)
  one_later Out = refl
  one_later (Broke o n) = ap (λ (k : ℕ). let es : List Effect = Fault (key_of k o (suc i) n) ∷ [] in es) (let e : 1 + layer_of layers o ≡ suc (layer_of layers o) = omega arith in e)

  pub idle_does : does (idle_layered line a layers (rest ++ tail)) m i ≡ idle_store a i ++ idle_end layers tail x i (ran i x [] (ops_of layers ++ rest))
  idle_does =
      first_act line a i (layered layers line (rest ++ tail)) m low
      ∙ ap (λ (es : List Effect). Store (a + i) (word (negsuc i)) ∷ es) (goes i x line rest tail quiet_rest 1 [] [] layers tt quiet refl ∙ one_later (ran i x [] (ops_of layers ++ rest)))

  -- ---- what they load

  abbrev next : Cells → List ℤ → List Event
  next y regs = acts_events i 1 (layered layers line (rest ++ tail)) y

  given_none : (r : Exact) → loads (seen_next (λ z. []) (turn_of r)) ≡ []
  given_none (Ok z) = refl
  given_none (Err f) = refl

  all_loads : looks_at (idle_layered line a layers (rest ++ tail)) m i ≡ loads (acts_events i 1 (layered layers line (rest ++ tail)) x)
  all_loads =
      ap loads (segment (at_first i) negative_ops (op.Store (from a 0) 2 ∷ []) m [] next (tt, (tt, (tt, tt))))
      ∙ loads_append (seen i m [] negative_ops) (onward (at_first i) (op.Store (from a 0) 2 ∷ []) m next (ran i m [] negative_ops))
      ∙ ap (λ (l : List ℕ). l ++ loads (onward (at_first i) (op.Store (from a 0) 2 ∷ []) m next (ran i m [] negative_ops))) (given_none (exact default_half (negsuc 0 -ℤ pos i)))
      ∙ ap (λ (r : Ran). loads (onward (at_first i) (op.Store (from a 0) 2 ∷ []) m next r)) (idles i m low)
      ∙ (λ j. loads (acts_events i 1 (layered layers line (rest ++ tail)) (over (Store (at_is a i j) (word (negsuc i))) m)))

  pub idle_looks : (c : ℕ) → In c (looks_at (idle_layered line a layers (rest ++ tail)) m i) → In c (looks_at (act line (ops_of layers ++ (rest ++ tail))) x i)
  idle_looks c h = later_loads i x line (rest ++ tail) 1 c layers quiet (subst (In c) all_loads h)

-- ---- a loop that follows its plan

module _ (V : Type 0) (stands : ℕ → ℕ → List ℤ → List V → Type 0) (m : Cells) (number : ℕ → ℕ) (layers : List Layer) (line a : ℕ) (rest tail : List Micro) (xs : List (Move V)) (parts : List (List Micro)) (start : ℕ → List V) (last : ℕ → List V → List Effect) where
  pub idle_plan : (i : ℕ) → i < 65536 → all_ops parts ≡ ops_of layers ++ rest → AllStoreNothing (ops_of layers) → AllStoreNothing rest → Compiled stands (with_idle a i m) number 0 xs parts → stands 0 i [] (start i)
      → ((regs : List ℤ) (s : List V) → stands (length xs) i regs s → makes (ops_events (spot_at (suc (length layers)) i) tail (with_idle a i m) regs no_rest) ≡ last i s)
      → does (idle_layered line a layers (rest ++ tail)) m i ≡ planned (record { moves = xs; act = λ o. suc (layer_of layers (number o)); op = number; start = start; first = λ j. idle_store a j; last = last }) i (moved xs (start i))
  idle_plan i low same q qr w h at_end =
      idle_does layers line a rest tail m i low q qr
      ∙ by (moved xs (start i)) (ran i (with_idle a i m) [] (ops_of layers ++ rest)) (subst (λ (ops : List Micro). RanSo stands number 0 (0 + length xs) i (moved xs (start i)) (ran i (with_idle a i m) [] ops)) same (runs V stands (with_idle a i m) number 0 i xs parts [] (start i) w h))
    where
      by : (y : Ended V) (r : Ran) → RanSo stands number 0 (0 + length xs) i y r
          → idle_store a i ++ idle_end layers tail (with_idle a i m) i r ≡ planned (record { moves = xs; act = λ o. suc (layer_of layers (number o)); op = number; start = start; first = λ j. idle_store a j; last = last }) i y
      by (Ok (Some s)) r g = ap (λ (z : Ran). idle_store a i ++ idle_end layers tail (with_idle a i m) i z) g.1 ∙ ap (λ (es : List Effect). idle_store a i ++ es) (at_end g.0 s (subst (λ (z : ℕ). stands z i g.0 s) (let e : 0 + length xs ≡ length xs = omega arith in e) g.2))
      by (Ok None) r g = ap (λ (z : Ran). idle_store a i ++ idle_end layers tail (with_idle a i m) i z) g
      by (Err e) r g = ap (λ (z : Ran). idle_store a i ++ idle_end layers tail (with_idle a i m) i z) g ∙ ap (λ (z : ℕ). idle_store a i ++ Fault (key_of (suc (layer_of layers (number z))) (number z) (suc i) e.1) ∷ []) (let q : 0 + e.0 ≡ e.0 = omega arith in q)
