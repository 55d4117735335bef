-- The loop of `d = a + b + c`, run again and again, is free of races.
use Rattle.std.proofs.Common.{◌≡◌, ◌⊎◌, inl, inr, ℕ, zero, suc, ◌+◌, ◌*◌, ◌<◌, ◌≤◌, List, [], ◌∷◌, ◌++◌, length, sym, ◌∙◌, subst, arith, replicate, ℤ, pos}
use Rattle.std.specs.Prelude.{Ok, Err, Option, None, Some}
use Rattle.std.proofs.lemmas.Int.{ints}
use Rattle.std.proofs.lemmas.List.{length-replicate}
use Rattle.ws_base.specs.Numbers.{Exact, default_half}
use Rattle.phase_ops.specs.Scalars.{scalar_value}
use Rattle.phase_ops.specs.declared.effect.Effect.TheVariants.{Store, Fault}
use Rattle.phase_ops.specs.declared.phase.Micro.{Micro}
use Rattle.phase_ops.specs.declared.phase.Micro.TheVariants as op
use Rattle.phase_ops.specs.declared.phase.ScalarOp.{ScalarOp}
use Rattle.phase_ops.specs.declared.phase.ScalarOp.TheVariants.{Add}
use Rattle.phase_ops.specs.declared.phase.Act.{Act}
use Rattle.phase_ops.specs.declared.phase.Phase.{Phase}
use Rattle.phase_ops.specs.Phases.{Cells, Event, Loads, Makes, loads, makes, divides, turn_of, went, Spot, spot, address, cell_value, register, ops_events, acts_events, strand_effects, after_phase, phase_effects}
use Rattle.phase_ops.specs.Free.{In, stored, lessened, Apart, WellFormed, NameEarlier, IsChunk, JoinsAgree, FreeFrom}
use Rattle.phase_ops.proofs.Strands.{lay_length}
use Rattle.team_core.specs.Laws.{MayStart}
use Rattle.team_core.specs.Shifts.{cell_from}
use Rattle.team_run.specs.Added.{add_act, added}
use Rattle.team_run.proofs.Cells.{only, address_is}

-- ---- one iteration: it loads below the cell 3 n, and may store in the cell 3 n + s

record Adds (n s : ℕ) (es : List Event) : Type 0 where
  pub stores : (c : ℕ) → In c (stored (makes es)) → c ≡ 3 * n + s
  pub lessens : (c : ℕ) → In c (lessened (makes es)) → ⊥
  pub loads_low : (c : ℕ) → In c (loads es) → c < 3 * n
  pub divides_by : (z : ℤ) → In z (divides es) → ⊥

first_loads : (n s c : ℕ) (es : List Event) → c < 3 * n → Adds n s es → Adds n s (Loads c ∷ es)
first_loads n s c es l h = record { stores = h.stores; lessens = h.lessens; loads_low = low; divides_by = h.divides_by }
  where
    low : (d : ℕ) → In d (c ∷ loads es) → d < 3 * n
    low d (inl e) = omega (arith, e, l)
    low d (inr i) = h.loads_low d i

then_stores : (n s c v : ℕ) → c ≡ 3 * n + s → Adds n s (Makes (Store c v) ∷ [])
then_stores n s c v e = record { stores = λ d i. only d c i ∙ e; lessens = λ d i. elim i [ ]; loads_low = λ d i. elim i [ ]; divides_by = λ z i. elim i [ ] }

then_fails : (n s k : ℕ) → Adds n s (Makes (Fault k) ∷ [])
then_fails n s k = record { stores = λ d i. elim i [ ]; lessens = λ d i. elim i [ ]; loads_low = λ d i. elim i [ ]; divides_by = λ z i. elim i [ ] }

-- an operation goes on, or fails
then_sums : (n s : ℕ) (sp : Spot) (o : ScalarOp) (r t : ℕ) (ops : List Micro) (m : Cells) (regs : List ℤ) (rest : Cells → List ℤ → List Event) → ((z : ℤ) → Adds n s (ops_events sp ops m (regs ++ z ∷ []) rest))
    → Adds n s (ops_events sp (op.Binary o r t ∷ ops) m regs rest)
then_sums n s sp o r t ops m regs rest h = by (scalar_value default_half o (register regs r) (register regs t))
  where
    by : (x : Exact) → Adds n s (went (((sp.act * 1048576 + length regs) * 1048576 + sp.element) * 16) m (λ m' z. ops_events sp ops m' (regs ++ z ∷ []) rest) rest (turn_of x))
    by (Ok z) = h z
    by (Err f) = then_fails n s _

strand_adds : (n s : ℕ) (m : Cells) → s < n → Adds n s (acts_events s 0 (add_act n ∷ []) m)
strand_adds n s m l =
    let sp : Spot = spot 0 (add_act n) s in
    let store : List Micro = op.Store (cell_from (3 * n)) 5 ∷ [] in
    let ended : Cells → List ℤ → List Event = λ m' regs. [] in
    let at : ℕ → ℕ = λ base. address m (pos s ∷ []) (cell_from base) in
    let regs : List ℤ = pos s ∷ cell_value m (at 0) ∷ cell_value m (at n) ∷ cell_value m (at (2 * n)) ∷ [] in
    let a = address_is 0 s in let b = address_is n s in let c = address_is (2 * n) s in let d = address_is (3 * n) s in
    first_loads n s (at 0) _ (omega (arith, a, l)) (first_loads n s (at n) _ (omega (arith, b, l)) (first_loads n s (at (2 * n)) _ (omega (arith, c, l))
    (then_sums n s sp Add 1 2 (op.Binary Add 4 3 ∷ store) m regs ended (λ x. then_sums n s sp Add 4 3 store m (regs ++ x ∷ []) ended (λ y. then_stores n s (at (3 * n)) _ d)))))

module _ (n : ℕ) (m : Cells) (few : n ≤ 65536) (room : 4 * n ≤ length m) (chunk : ℕ) where
  added_apart : Apart (added n) m chunk
  added_apart = record {
    stores = λ s t c bs bt i j. let e = (strand_adds n s m bs).stores c i in let f = (strand_adds n t m bt).stores c j in omega (arith, e, f);
    loads_apart = λ s t c bs bt i j. let e = (strand_adds n s m bs).stores c i in let f = (strand_adds n t m bt).loads_low c j in absurd (omega (arith, e, f));
    leasts = λ s t c bs bt i j. (strand_adds n s m bs).lessens c i;
    parameter_apart = λ s c bs i j. elim j [ ];
  }

  added_ops : (a : Act) → In a (add_act n ∷ []) → (length a.ops ≤ 1048576) × NameEarlier 0 a.ops
  added_ops a i = subst (λ (x : Act). (length x.ops ≤ 1048576) × NameEarlier 0 x.ops) (sym (only a (add_act n) i)) (omega arith, earlier)
    where
      one : (r k : ℕ) → 0 < k → In r (0 ∷ []) → r < k
      one r k h j = let e = only r 0 j in omega (arith, e, h)

      two : (r a b k : ℕ) → a < k → b < k → In r (a ∷ b ∷ []) → r < k
      two r a b k x y (inl e) = omega (arith, e, x)
      two r a b k x y (inr j) = let e = only r b j in omega (arith, e, y)

      earlier : NameEarlier 0 (add_act n).ops
      earlier = (λ r j. elim j [ ], (λ r j. one r 1 (omega arith) j, (λ r j. one r 2 (omega arith) j, (λ r j. one r 3 (omega arith) j, (λ r j. two r 1 2 4 (omega arith) (omega arith) j, (λ r j. two r 4 3 5 (omega arith) (omega arith) j, (λ r j. two r 5 0 6 (omega arith) (omega arith) j, tt)))))))

  added_laid : (s c : ℕ) → s < n → In c (stored (strand_effects (added n) m chunk s)) ⊎ In c (lessened (strand_effects (added n) m chunk s)) → c < length m
  added_laid s c b (inl i) = let e = (strand_adds n s m b).stores c i in omega (arith, e, b, room)
  added_laid s c b (inr i) = absurd ((strand_adds n s m b).lessens c i)

  added_well : WellFormed (added n) m chunk
  added_well = record {
    count = (omega (arith, ints), omega (arith, ints, few));
    few_acts = omega arith;
    few_ops = added_ops;
    positive = λ s z b i. absurd ((strand_adds n s m b).divides_by z i);
    reduction = tt;
    there = λ c i. elim i [ ];
    loaded = λ s c b i. let h = (strand_adds n s m b).loads_low c i in omega (arith, h, room);
    laid = added_laid;
  }

-- ---- again and again

repeated_joins : (times n : ℕ) (before : Option Phase) → JoinsAgree before (replicate times (added n))
repeated_joins zero n before = tt
repeated_joins (suc times) n before = (tt, repeated_joins times n (Some (added n)))

repeated_free : (times n chunk : ℕ) (m : Cells) → n ≤ 65536 → 4 * n ≤ length m → FreeFrom chunk (replicate times (added n)) m
repeated_free zero n chunk m few room = tt
repeated_free (suc times) n chunk m few room = (
  λ c ci. (added_apart n m few room c, added_well n m few room c),
  λ none. repeated_free times n chunk (after_phase (added n) m chunk) few (let e = lay_length m (phase_effects (added n) m chunk) in omega (arith, e, room)),
)

pub repeated_may : (times n team chunk : ℕ) (m : Cells) → times ≤ 512 → n ≤ 65536 → 4 * n ≤ length m → 1 ≤ team → team ≤ 64 → IsChunk chunk → MayStart (replicate times (added n)) m team chunk
repeated_may times n team chunk m short few room some most is =
    record { someone = some; team_small = most; chunk_is = is; few = (let e = length-replicate times (added n) in omega (arith, e, short)); free = record { joins = repeated_joins times n None; phases = λ c ci. repeated_free times n c m few room } }
