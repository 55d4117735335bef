-- What acts load and divide by that share their first ops: nothing that one act with all ops does not.
use Rattle.std.proofs.Common.{◌≡◌, ◌⊎◌, inl, inr, ℕ, suc, ◌+◌, ◌*◌, List, [], ◌∷◌, ◌++◌, map, length, sym, refl, ap, ◌∙◌, subst, ℤ, pos}
use Rattle.std.proofs.lemmas.List.{append_assoc, append-nil}
use Rattle.ws_base.specs.Words.{fault_number}
use Rattle.phase_ops.specs.declared.effect.Effect.{Effect}
use Rattle.phase_ops.specs.declared.effect.Effect.TheVariants.{Fault}
use Rattle.phase_ops.specs.declared.effect.Turn.{Turn}
use Rattle.phase_ops.specs.declared.effect.Turn.TheVariants.{Next, Shut, Fails, Does}
use Rattle.phase_ops.specs.declared.phase.Micro.{Micro}
use Rattle.phase_ops.specs.Phases.{Cells, looks, divisors, turn, over, Event, Loads, Divides, Makes, Gives, went, ops_events, acts_events, loads, divides}
use Rattle.phase_ops.specs.Free.{In}
use Rattle.phase_ops.proofs.Members.{in_left, in_right, in_either}
use Rattle.phase_ops.proofs.Strands.{loads_append}
use Rattle.loop_laws.specs.Loops.{looks_at}
use Rattle.segment_laws.specs.Segments.{Ran, Through, Out, Broke, ran, seen, seen_next, AllStoreNothing, onward}
use Rattle.segment_laws.specs.Acts.{act}
use Rattle.segment_laws.proofs.Segments.{segment}
use Rattle.mask_laws.specs.Layers.{Layer, layered_from, layered, ops_of, spot_at, no_rest}

pub quiet_join : (xs ys : List Micro) → AllStoreNothing xs → AllStoreNothing ys → AllStoreNothing (xs ++ ys)
quiet_join [] ys a b = b
quiet_join (x ∷ xs) ys a b = (a.0, quiet_join xs ys a.1 b)

pub quiet_left : (xs ys : List Micro) → AllStoreNothing (xs ++ ys) → AllStoreNothing xs
quiet_left [] ys h = tt
quiet_left (x ∷ xs) ys h = (h.0, quiet_left xs ys h.1)

pub quiet_right : (xs ys : List Micro) → AllStoreNothing (xs ++ ys) → AllStoreNothing ys
quiet_right [] ys h = h
quiet_right (x ∷ xs) ys h = quiet_right xs ys h.1

-- ---- whatever events tell, if effects tell nothing

module _ {A : Type 0} (tell : List Event → List A) (join : (xs ys : List Event) → tell (xs ++ ys) ≡ tell xs ++ tell ys) (none : tell [] ≡ []) (calm : (e : Effect) → tell (Makes e ∷ []) ≡ []) where
  -- what an op itself tells
  abbrev here : Cells → List ℤ → Micro → List A
  here m regs op = tell (map Loads (looks m regs op) ++ map Divides (divisors m op))

  -- faults alone name their act
  told_any : (a b i : ℕ) (ops : List Micro) (m : Cells) (regs : List ℤ) → tell (ops_events (spot_at a i) ops m regs no_rest) ≡ tell (ops_events (spot_at b i) ops m regs no_rest)
  told_any a b i [] m regs = refl
  told_any a b i (op ∷ ops) m regs =
      join (map Loads (looks m regs op) ++ map Divides (divisors m op)) (went (((a * 1048576 + length regs) * 1048576 + suc i) * 16) m (λ y z. ops_events (spot_at a i) ops y (regs ++ z ∷ []) no_rest) no_rest (turn i m regs op))
      ∙ ap (λ (l : List A). here m regs op ++ l) (by (λ y z. told_any a b i ops y (regs ++ z ∷ [])) (turn i m regs op))
      ∙ sym (join (map Loads (looks m regs op) ++ map Divides (divisors m op)) (went (((b * 1048576 + length regs) * 1048576 + suc i) * 16) m (λ y z. ops_events (spot_at b i) ops y (regs ++ z ∷ []) no_rest) no_rest (turn i m regs op)))
    where
      by : ((y : Cells) (z : ℤ) → tell (ops_events (spot_at a i) ops y (regs ++ z ∷ []) no_rest) ≡ tell (ops_events (spot_at b i) ops y (regs ++ z ∷ []) no_rest))
          → (t : Turn) → tell (went (((a * 1048576 + length regs) * 1048576 + suc i) * 16) m (λ y z. ops_events (spot_at a i) ops y (regs ++ z ∷ []) no_rest) no_rest t)
          ≡ tell (went (((b * 1048576 + length regs) * 1048576 + suc i) * 16) m (λ y z. ops_events (spot_at b i) ops y (regs ++ z ∷ []) no_rest) no_rest t)
      by rec (Next z) = rec m z
      by rec Shut = refl
      by rec (Fails n) = calm (Fault (((a * 1048576 + length regs) * 1048576 + suc i) * 16 + fault_number n)) ∙ sym (calm (Fault (((b * 1048576 + length regs) * 1048576 + suc i) * 16 + fault_number n)))
      by rec (Does e) =
          join (Makes e ∷ []) (ops_events (spot_at a i) ops (over e m) (regs ++ pos 0 ∷ []) no_rest)
          ∙ ap (λ (l : List A). tell (Makes e ∷ []) ++ l) (rec (over e m) (pos 0))
          ∙ sym (join (Makes e ∷ []) (ops_events (spot_at b i) ops (over e m) (regs ++ pos 0 ∷ []) no_rest))

  module _ (i : ℕ) (m : Cells) (x : A) where
    seen_prefix : (regs : List ℤ) (xs ys : List Micro) → In x (tell (seen i m regs xs)) → In x (tell (seen i m regs (xs ++ ys)))
    seen_prefix regs [] ys h = absurd (subst (In x) none h)
    seen_prefix regs (op ∷ xs) ys h =
        subst (In x) (sym (join (map Loads (looks m regs op) ++ map Divides (divisors m op)) (seen_next (λ z. seen i m (regs ++ z ∷ []) (xs ++ ys)) (turn i m regs op))))
        (by (λ z g. seen_prefix (regs ++ z ∷ []) xs ys g) (turn i m regs op) (in_either x (here m regs op) (tell (seen_next (λ z. seen i m (regs ++ z ∷ []) xs) (turn i m regs op))) (subst (In x) (join (map Loads (looks m regs op) ++ map Divides (divisors m op)) (seen_next (λ z. seen i m (regs ++ z ∷ []) xs) (turn i m regs op))) h)))
      where
        further : ((z : ℤ) → In x (tell (seen i m (regs ++ z ∷ []) xs)) → In x (tell (seen i m (regs ++ z ∷ []) (xs ++ ys)))) → (t : Turn) → In x (tell (seen_next (λ z. seen i m (regs ++ z ∷ []) xs) t)) → In x (tell (seen_next (λ z. seen i m (regs ++ z ∷ []) (xs ++ ys)) t))
        further rec (Next z) g = rec z g
        further rec Shut g = g
        further rec (Fails n) g = g
        further rec (Does e) g = rec (pos 0) g

        by : ((z : ℤ) → In x (tell (seen i m (regs ++ z ∷ []) xs)) → In x (tell (seen i m (regs ++ z ∷ []) (xs ++ ys)))) → (t : Turn) → In x (here m regs op) ⊎ In x (tell (seen_next (λ z. seen i m (regs ++ z ∷ []) xs) t))
            → In x (here m regs op ++ tell (seen_next (λ z. seen i m (regs ++ z ∷ []) (xs ++ ys)) t))
        by rec t (inl g) = in_left x (here m regs op) (tell (seen_next (λ z. seen i m (regs ++ z ∷ []) (xs ++ ys)) t)) g
        by rec t (inr g) = in_right x (here m regs op) (tell (seen_next (λ z. seen i m (regs ++ z ∷ []) (xs ++ ys)) t)) (further rec t g)

    -- the ops of an act that stores nothing, in the longer act
    prefix_tells : (k : ℕ) (xs ys : List Micro) → AllStoreNothing xs → In x (tell (seen i m [] xs)) → In x (tell (ops_events (spot_at k i) (xs ++ ys) m [] no_rest))
    prefix_tells k xs ys q h =
        subst (In x) (sym (ap tell (segment (spot_at k i) xs ys m [] no_rest q) ∙ join (seen i m [] xs) (onward (spot_at k i) ys m no_rest (ran i m [] xs))))
        (in_left x (tell (seen i m [] xs)) (tell (onward (spot_at k i) ys m no_rest (ran i m [] xs))) h)

    module _ (line : ℕ) (last : List Micro) where
      -- all ops of these layers and behind them
      abbrev all_of : List Layer → List Micro
      all_of xs = ops_of xs ++ last

      -- the acts behind the act k
      abbrev next_of : ℕ → List Micro → List Layer → Cells → List ℤ → List Event
      next_of k done xs m' regs = acts_events i (suc k) (layered_from done xs line last) m'

      pub looked : (k : ℕ) (done : List Micro) (xs : List Layer) → AllStoreNothing done → AllStoreNothing (ops_of xs) → In x (tell (acts_events i k (layered_from done xs line last) m))
          → In x (tell (ops_events (spot_at 0 i) (done ++ all_of xs) m [] no_rest))
      looked k done [] q q' h = subst (In x) (told_any k 0 i (done ++ last) m []) h
      looked k done (y ∷ xs) q q' h =
          by (λ g. as_one (looked (suc k) (done ++ y.ops) xs qd (quiet_right y.ops (ops_of xs) q') g)) (ran i m [] (done ++ y.ops)) (in_either x (tell (seen i m [] (done ++ y.ops))) (tell (onward (spot_at k i) [] m (next_of k (done ++ y.ops) xs) (ran i m [] (done ++ y.ops)))) (subst (In x) all_told h))
        where
          qd : AllStoreNothing (done ++ y.ops)
          qd = quiet_join done y.ops q (quiet_left y.ops (ops_of xs) q')

          all_told : tell (acts_events i k (layered_from done (y ∷ xs) line last) m) ≡ tell (seen i m [] (done ++ y.ops)) ++ tell (onward (spot_at k i) [] m (next_of k (done ++ y.ops) xs) (ran i m [] (done ++ y.ops)))
          all_told = ap (λ (ops : List Micro). tell (ops_events (spot_at k i) ops m [] (next_of k (done ++ y.ops) xs))) (sym (append-nil (done ++ y.ops)))
              ∙ ap tell (segment (spot_at k i) (done ++ y.ops) [] m [] (next_of k (done ++ y.ops) xs) qd)
              ∙ join (seen i m [] (done ++ y.ops)) (onward (spot_at k i) [] m (next_of k (done ++ y.ops) xs) (ran i m [] (done ++ y.ops)))

          same_ops : (done ++ y.ops) ++ all_of xs ≡ done ++ all_of (y ∷ xs)
          same_ops = append_assoc done y.ops (all_of xs) ∙ ap (λ (l : List Micro). done ++ l) (sym (append_assoc y.ops (ops_of xs) last))

          as_one : In x (tell (ops_events (spot_at 0 i) ((done ++ y.ops) ++ all_of xs) m [] no_rest)) → In x (tell (ops_events (spot_at 0 i) (done ++ all_of (y ∷ xs)) m [] no_rest))
          as_one g = subst (λ (ops : List Micro). In x (tell (ops_events (spot_at 0 i) ops m [] no_rest))) same_ops g

          by : (In x (tell (acts_events i (suc k) (layered_from (done ++ y.ops) xs line last) m)) → In x (tell (ops_events (spot_at 0 i) (done ++ all_of (y ∷ xs)) m [] no_rest)))
              → (r : Ran) → In x (tell (seen i m [] (done ++ y.ops))) ⊎ In x (tell (onward (spot_at k i) [] m (next_of k (done ++ y.ops) xs) r)) → In x (tell (ops_events (spot_at 0 i) (done ++ all_of (y ∷ xs)) m [] no_rest))
          by later r (inl g) = as_one (prefix_tells 0 (done ++ y.ops) (all_of xs) qd g)
          by later (Through regs) (inr g) = later g
          by later Out (inr g) = later g
          by later (Broke o n) (inr g) = absurd (subst (In x) (calm (Fault (((k * 1048576 + o) * 1048576 + suc i) * 16 + fault_number n))) g)

-- ---- loads and divisors

divides_append : (es fs : List Event) → divides (es ++ fs) ≡ divides es ++ divides fs
divides_append [] fs = refl
divides_append (Loads c ∷ es) fs = divides_append es fs
divides_append (Divides z ∷ es) fs = ap (λ (l : List ℤ). z ∷ l) (divides_append es fs)
divides_append (Makes e ∷ es) fs = divides_append es fs
divides_append (Gives z ∷ es) fs = divides_append es fs

module _ (i : ℕ) (m : Cells) (line : ℕ) (last : List Micro) where
  pub later_loads : (k c : ℕ) (layers : List Layer) → AllStoreNothing (ops_of layers) → In c (loads (acts_events i k (layered layers line last) m)) → In c (looks_at (act line (ops_of layers ++ last)) m i)
  later_loads k c layers q h = looked loads loads_append refl (λ e. refl) i m c line last k [] layers tt q h

  pub layered_loads : (layers : List Layer) → AllStoreNothing (ops_of layers) → (c : ℕ) → In c (looks_at (layered layers line last) m i) → In c (looks_at (act line (ops_of layers ++ last)) m i)
  layered_loads layers q c h = later_loads 0 c layers q h

  pub layered_divides : (layers : List Layer) → AllStoreNothing (ops_of layers) → (z : ℤ) → In z (divides (acts_events i 0 (layered layers line last) m)) → In z (divides (acts_events i 0 (act line (ops_of layers ++ last)) m))
  layered_divides layers q z h = looked divides divides_append refl (λ e. refl) i m z line last 0 [] layers tt q h
