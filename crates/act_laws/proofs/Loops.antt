-- A loop stores what its places give, or has the key of the fault at which they stop together.
use Rattle.std.proofs.Common.{◌≡◌, arith, inl, inr, refl, sym, ap, ◌∙◌, subst, ℕ, zero, suc, ◌+◌, ◌<◌, ◌≤◌, List, [], ◌∷◌, ◌++◌, Option, Some, None}
use mathlib.Core.Logic.{dite}
use native.Mathlib.Decide.{dec_le}
use Rattle.std.specs.List.{slice_get}
use Rattle.std.proofs.lemmas.Option.{slice_get_within}
use Rattle.ws_base.specs.declared.fault.FaultName.{FaultName}
use Rattle.ws_base.specs.declared.fault.FaultName.TheVariants as fault
use Rattle.ws_base.specs.Words.{fault_number}
use Rattle.ws_space.specs.Shapes.{places_from}
use Rattle.ws_space.proofs.Places.{length-places_from}
use Rattle.phase_ops.specs.declared.effect.Effect.{Effect}
use Rattle.phase_ops.specs.declared.effect.Effect.TheVariants.{Store, Least, Fault}
use Rattle.phase_ops.specs.declared.phase.Address.{Address}
use Rattle.phase_ops.specs.declared.phase.Micro.{Micro}
use Rattle.phase_ops.specs.declared.phase.Micro.TheVariants as micro
use Rattle.phase_ops.specs.Phases.{Cells, word, register, address, address_cells, Event, Loads, Divides, Makes, Gives, plain, acts_events, makes}
use Rattle.phase_ops.specs.Free.{In}
use Rattle.act_laws.specs.Together.{Scene, with_ops, Stop, first_stop, MayRead}
use Rattle.act_laws.specs.Strands.{ArePlain, Goes, NoEarlier, Apart}
use Rattle.act_laws.specs.Loops.{in_loop, no_registers, loop_effects, stop_key, LoopGoes}
use Rattle.act_laws.proofs.Strands.{makes_plain, strand_goes, places_apart}

makes_append : (es fs : List Event) → makes (es ++ fs) ≡ makes es ++ makes fs
makes_append [] fs = refl
makes_append (Makes e ∷ es) fs = ap (λ (l : List Effect). e ∷ l) (makes_append es fs)
makes_append (Loads c ∷ es) fs = makes_append es fs
makes_append (Divides z ∷ es) fs = makes_append es fs
makes_append (Gives z ∷ es) fs = makes_append es fs

small_name : (n : FaultName) → fault_number n < 16
small_name fault.Bounds = omega arith
small_name fault.Shape = omega arith
small_name fault.Overflow = omega arith
small_name fault.DivideByZero = omega arith
small_name fault.ZeroStride = omega arith
small_name fault.ManyOne = omega arith
small_name fault.Unallocated = omega arith
small_name fault.Allocated = omega arith
small_name fault.TooLarge = omega arith
small_name fault.DataEnd = omega arith
small_name fault.DataBad = omega arith
small_name fault.Steps = omega arith

key_in : Effect → ℕ
key_in (Fault k) = k
key_in (Store c v) = 0
key_in (Least c v) = 0

not_store : (k c v : ℕ) → In (Fault k) (Store c v ∷ []) → ⊥
not_store k c v (inl e) = subst is_fault e tt
  where
    is_fault : Effect → Type 0
    is_fault (Fault j) = Unit {0}
    is_fault (Store d w) = ⊥
    is_fault (Least d w) = ⊥
not_store k c v (inr i) = elim i [ ]

same_fault : (j k : ℕ) → In (Fault j) (Fault k ∷ []) → j ≡ k
unfolding key_in
same_fault j k (inl e) = ap key_in e
same_fault j k (inr i) = elim i [ ]

place_got : (from n j : ℕ) → j < n → slice_get (places_from from n) j ≡ Some (from + j)
place_got from zero j h = absurd (omega (arith, h))
place_got from (suc n) zero h = ap Some (omega arith)
place_got from (suc n) (suc j) h = place_got (suc from) n j (omega (arith, h)) ∙ ap Some (omega arith)

module _ (line : ℕ) (ops : List Micro) (a : Address) (reg : ℕ) (m : Cells) (may : List ℕ) (n : ℕ) (few : n ≤ 65536) (plains : ArePlain ops) (reads : (i : ℕ) → i < n → MayRead (in_loop m may) ops no_registers i) where
  abbrev scene : Scene
  scene = in_loop m may

  abbrev alone : ℕ → Option Stop
  alone i = first_stop scene (i ∷ []) 0 no_registers ops

  -- what one iteration does
  abbrev Does : ℕ → Option Stop → Type 0
  Does i None = loop_effects line ops a reg m i ≡ Store (address m (with_ops scene ops no_registers i) a) (word (register (with_ops scene ops no_registers i) reg)) ∷ []
  Does i (Some stop) = loop_effects line ops a reg m i ≡ Fault (stop_key stop i) ∷ []

  does_from : (i : ℕ) (o : Option Stop) → Goes scene 0 (suc i) i no_registers ops (micro.Store a reg ∷ []) (λ m' regs. acts_events i 1 [] m') o → Does i o
  does_from i None g =
      ap makes g.2 ∙ (makes_append g.0 (plain (address_cells a) [] (Makes (Store (address m (with_ops scene ops no_registers i) a) (word (register (with_ops scene ops no_registers i) reg))) ∷ []))
      ∙ (λ j. g.1.makes_none j ++ makes_plain (address_cells a) [] (Makes (Store (address m (with_ops scene ops no_registers i) a) (word (register (with_ops scene ops no_registers i) reg))) ∷ []) j))
  does_from i (Some stop) g = ap makes g.2 ∙ (makes_append g.0 (Makes (Fault (stop_key stop i)) ∷ []) ∙ ap (λ l. l ++ Fault (stop_key stop i) ∷ []) g.1.makes_none)

  does : (i : ℕ) → i < n → Does i (alone i)
  does i h = does_from i (alone i) (strand_goes scene 0 (suc i) i (micro.Store a reg ∷ []) (λ m' regs. acts_events i 1 [] m') 0 no_registers ops (λ p. refl) plains (reads i h))

  found : (i : ℕ) → i < n → slice_get (places_from 0 n) i ≡ Some i
  found i h = place_got 0 n i h ∙ ap Some (omega arith)

  in_places : (at : List ℕ) (j i : ℕ) → slice_get at j ≡ Some i → In i at
  in_places [] j i e = let f : ⊥ = cc in absurd f
  in_places (q ∷ qs) zero i e = inl (let f : i ≡ q = cc in f)
  in_places (q ∷ qs) (suc j) i e = inr (in_places qs j i e)

  -- another iteration's fault has no lesser key
  no_less : (stop : Stop) (i key : ℕ) (o : Option Stop) → stop.trouble.element < n → i < n → NoEarlier stop i o → Does i o → ((other : Stop) → i ≡ stop.trouble.element → o ≡ Some other → other.trouble.name ≡ stop.trouble.name) → In (Fault key) (loop_effects line ops a reg m i) → stop_key stop stop.trouble.element ≤ key
  no_less stop i key None there h early d name l = absurd (not_store key (address m (with_ops scene ops no_registers i) a) (word (register (with_ops scene ops no_registers i) reg)) (subst (λ es. In (Fault key) es) d l))
  no_less stop i key (Some other) there h (inl less) d name l =
      let e = same_fault key (stop_key other i) (subst (λ es. In (Fault key) es) d l) in
      let s = small_name stop.trouble.name in
      omega (arith, e, less, there, few, s)
  no_less stop i key (Some other) there h (inr same) d name l =
      let e = same_fault key (stop_key other i) (subst (λ es. In (Fault key) es) d l) in
      let s = small_name stop.trouble.name in
      let q = same.0 in
      let le = same.1 in
      dite (dec_le (suc stop.trouble.element) i)
      (λ less. omega (arith, e, q, less, s))
      (λ g. let is : i ≡ stop.trouble.element = omega (arith, g, le) in let x = ap fault_number (name other is refl) in omega (arith, e, q, is, x))

  goes_from : (o : Option Stop) → Apart scene (places_from 0 n) 0 no_registers ops o → LoopGoes line ops a reg m may n o
  goes_from None h = λ i l. subst (Does i) (h i (in_places (places_from 0 n) i i (found i l))) (does i l)
  goes_from (Some stop) h =
      let there : stop.trouble.element < n = (let x = slice_get_within (places_from 0 n) stop.trouble.element h.0.0 h.0.1 in let y = length-places_from 0 n in omega (arith, x, y)) in
      let is : h.0.0 ≡ stop.trouble.element = (let e : Some h.0.0 ≡ Some stop.trouble.element = sym h.0.1 ∙ found stop.trouble.element there in cc) in
      let single = ap alone (sym is) ∙ h.0.2 in (
        there,
        subst (Does stop.trouble.element) single (does stop.trouble.element there),
        λ i key l f. no_less stop i key (alone i) there l (h.1 i i (found i l)) (does i l)
            (λ other e o. let x : Some other ≡ Some (record { op = stop.op; trouble = record { element = 0; name = stop.trouble.name } }) = sym o ∙ (ap alone e ∙ single) in ap (name_or stop.trouble.name) x) f,
      )
    where
      name_or : FaultName → Option Stop → FaultName
      name_or d (Some x) = x.trouble.name
      name_or d None = d

  pub loop_goes : LoopGoes line ops a reg m may n (first_stop scene (places_from 0 n) 0 no_registers ops)
  loop_goes = goes_from (first_stop scene (places_from 0 n) 0 no_registers ops) (places_apart scene (places_from 0 n) 0 no_registers ops)
