-- A loop of two acts that saves values and targets: the first puts the negative of the number of the position, the second has the moves.
use Rattle.std.proofs.Common.{◌≡◌, ℕ, suc, ◌+◌, ◌<◌, false, List, [], ◌∷◌, ◌++◌, length, ap, ◌∙◌, arith, Some, None, Ok, Err, ℤ, pos, negsuc, ◌+ℤ◌, ◌*ℤ◌}
use Rattle.std.proofs.lemmas.List.{get_or_append_left}
use Rattle.phase_ops.specs.declared.effect.Effect.{Effect}
use Rattle.phase_ops.specs.declared.effect.Effect.TheVariants.{Store}
use Rattle.phase_ops.specs.declared.phase.Micro.{Micro}
use Rattle.phase_ops.specs.Phases.{Cells, word, cell_of, register, ops_events, acts_events, makes}
use Rattle.loop_laws.specs.Moves.{Move, Ended, moved}
use Rattle.loop_laws.specs.Loops.{does, planned}
use Rattle.segment_laws.specs.Segments.{AllStoreNothing}
use Rattle.segment_laws.specs.Compiled.{Compiled, all_ops}
use Rattle.mark_laws.specs.Acts.{saver_plan, saves_at, saver_acts}
use Rattle.segment_laws.proofs.Acts.{ActEnds, act_ends, at_is, nothing}
use Rattle.segment_laws.proofs.Idle.{with_idle, first_act}

module _ (V : Type 0) (stands : ℕ → ℕ → List ℤ → List V → Type 0) (number : ℕ → ℕ) (xs : List (Move V)) (parts : List (List Micro)) (start : ℕ → List V) (value target : ℕ → List V → ℕ) (line t a rv rt : ℕ) where
  -- what the registers show at the end
  pub record Shows (i : ℕ) (regs : List ℤ) (s : List V) : Type 0 where
    pub position : register regs 0 ≡ pos i
    pub inside : (rv < length regs) × (rt < length regs)
    pub value_is : word (register regs rv) ≡ value i s
    pub target_is : register regs rt ≡ pos (target i s)

  still : (regs : List ℤ) (r : ℕ) → r < length regs → register (regs ++ pos 0 ∷ []) r ≡ register regs r
  still regs r l = get_or_append_left regs (pos 0 ∷ []) (pos 0) r l

  tail : (i : ℕ) (x : Cells) (regs : List ℤ) (s : List V) → Shows i regs s → makes (ops_events (record { act = 1; element = suc i; iteration = i }) (saves_at t a rv rt) x regs nothing) ≡ Store (t + i) (value i s) ∷ Store (a + i) (word (pos (target i s))) ∷ []
  tail i x regs s w =
      let in0 : 0 < length regs = (let l = w.inside.0 in omega (arith, l)) in
      let p = w.position in
      let q = still regs 0 in0 ∙ w.position in
      let r = still regs rt w.inside.1 ∙ w.target_is in
      (λ j. Store (cell_of (pos t +ℤ (p j *ℤ pos 1 +ℤ pos 0))) (w.value_is j) ∷ Store (cell_of (pos a +ℤ (q j *ℤ pos 1 +ℤ pos 0))) (word (r j)) ∷ [])
      ∙ (λ j. Store (at_is t i j) (value i s) ∷ Store (at_is a i j) (word (pos (target i s))) ∷ [])

  pub saver_follows : (m : Cells) (i : ℕ) → i < 65536 → AllStoreNothing (all_ops parts) → Compiled stands (with_idle a i m) number 0 xs parts → stands 0 i [] (start i) → ((regs : List ℤ) (s : List V) → stands (length xs) i regs s → Shows i regs s)
      → does (saver_acts line t a rv rt parts) m i ≡ planned (saver_plan xs number start value target t a) i (moved xs (start i))
  saver_follows m i l quiet w h shows =
      first_act line a i (record { line = line; ops = all_ops parts ++ saves_at t a rv rt; whole = false } ∷ []) m l
      ∙ by (moved xs (start i)) (act_ends V stands (with_idle a i m) number 1 i line xs parts (saves_at t a rv rt) nothing (start i) quiet w h)
    where
      by : (x : Ended V) → ActEnds V stands (with_idle a i m) number 1 i (length xs) (saves_at t a rv rt) nothing x (makes (acts_events i 1 (record { line = line; ops = all_ops parts ++ saves_at t a rv rt; whole = false } ∷ []) (with_idle a i m)))
          → Store (a + i) (word (negsuc i)) ∷ makes (acts_events i 1 (record { line = line; ops = all_ops parts ++ saves_at t a rv rt; whole = false } ∷ []) (with_idle a i m)) ≡ planned (saver_plan xs number start value target t a) i x
      by (Ok (Some s)) e = ap (λ (es : List Effect). Store (a + i) (word (negsuc i)) ∷ es) (e.2 ∙ tail i (with_idle a i m) e.0 s (shows e.0 s e.1))
      by (Ok None) e = ap (λ (es : List Effect). Store (a + i) (word (negsuc i)) ∷ es) e
      by (Err f) e = ap (λ (es : List Effect). Store (a + i) (word (negsuc i)) ∷ es) e
