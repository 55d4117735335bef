-- The first phase that has a key, or the memory after all.
use Rattle.std.proofs.Common.{◌≡◌, ℕ, zero, suc, ◌-◌, ◌<◌, ◌≤◌, Bool, if◌then◌else◌, List, [], ◌∷◌, length, sym, refl, ap, ◌∙◌, subst, arith}
use Rattle.std.proofs.lemmas.Bool.{lt-ltb, le-ltb}
use mathlib.Core.Logic.{dite}
use native.Mathlib.Decide.{dec_le}
use Rattle.phase_ops.specs.declared.phase.Phase.{Phase}
use Rattle.phase_ops.specs.Phases.{Cells, none_yet, key, after, after_phase, Finished, Failed, later, result}
use Rattle.phase_ops.specs.Faults.{HasKey, HoldsKey}
use Rattle.phase_ops.proofs.Courses.{memory_is, key_is}
use Rattle.phase_ops.proofs.Held.{has_key, holds_key}
use Rattle.team_core.specs.Laws.{MayStart, phase_at}
use Rattle.team_core.proofs.Entering.{enters_well}
use Rattle.phase_board.specs.Closed.{outcome_of}

module _ (chunk : ℕ) where
  -- the key of the phase t
  abbrev pub keyed : List Phase → Cells → ℕ → ℕ
  keyed ps m t = key (phase_at ps t) (after ps m chunk t) chunk

  none_fails : (ps : List Phase) (m : Cells) → ((t : ℕ) → t < length ps → keyed ps m t ≡ none_yet) → result ps m chunk ≡ Finished (after ps m chunk (length ps))
  none_fails [] m h = refl
  none_fails (p ∷ ps) m h =
      let k : key p m chunk ≡ none_yet = h zero (omega arith) in
      ap (λ (b : Bool). if b then Failed 0 (key p m chunk) else later (result ps (after_phase p m chunk) chunk)) (le-ltb (key p m chunk) none_yet (omega (arith, k)))
      ∙ ap later (none_fails ps (after_phase p m chunk) (λ t l. h (suc t) (omega (arith, l))))

  first_fails : (ps : List Phase) (m : Cells) (t k : ℕ) → t < length ps → ((s : ℕ) → s < t → keyed ps m s ≡ none_yet) → keyed ps m t ≡ k → k < none_yet → result ps m chunk ≡ Failed t k
  first_fails [] m t k l earlier e small = absurd (omega (arith, l))
  first_fails (p ∷ ps) m zero k l earlier e small =
      let is : key p m chunk ≡ k = e in
      ap (λ (b : Bool). if b then Failed 0 (key p m chunk) else later (result ps (after_phase p m chunk) chunk)) (lt-ltb (key p m chunk) none_yet (omega (arith, is, small)))
      ∙ ap (λ (n : ℕ). Failed 0 n) is
  first_fails (p ∷ ps) m (suc t) k l earlier e small =
      let first : key p m chunk ≡ none_yet = earlier zero (omega arith) in
      ap (λ (b : Bool). if b then Failed 0 (key p m chunk) else later (result ps (after_phase p m chunk) chunk)) (le-ltb (key p m chunk) none_yet (omega (arith, first)))
      ∙ ap later (first_fails ps (after_phase p m chunk) t k (omega (arith, l)) (λ s b. earlier (suc s) (omega (arith, b))) e small)

  module _ (ps : List Phase) (m closing : Cells) (entered found : ℕ) (within : entered ≤ length ps) (closing_is : closing ≡ after ps m chunk entered)
      (earlier : (t : ℕ) → suc t < entered → keyed ps m t ≡ none_yet) (last : (t : ℕ) → suc t ≡ entered → keyed ps m t ≡ found)
      (none : entered ≡ 0 → found ≡ none_yet) (stopped : entered < length ps → found < none_yet) (most : found ≤ none_yet) where
    all_keyless : none_yet ≤ found → entered ≡ length ps → (t : ℕ) → t < length ps → keyed ps m t ≡ none_yet
    all_keyless big all t l = dite (dec_le (suc (suc t)) entered) (λ b. earlier t b)
        (λ b. last t (omega (arith, b, l, all)) ∙ (let q : found ≡ none_yet = omega (arith, big, most) in q))

    is_live : found < none_yet → 0 < entered
    is_live s = dite (dec_le 1 entered) (λ b. b) (λ b. let z = none (omega (arith, b)) in absurd (omega (arith, z, s)))

    pub result_found : result ps m chunk ≡ outcome_of entered found closing
    result_found = dite (dec_le none_yet found)
        (λ big.
        let all : entered ≡ length ps = dite (dec_le (length ps) entered) (λ b. omega (arith, b, within)) (λ b. let s = stopped (omega (arith, b)) in absurd (omega (arith, s, big))) in
        none_fails ps m (all_keyless big all)
        ∙ ap (λ (n : ℕ). Finished (after ps m chunk n)) (sym all) ∙ ap (λ (c : Cells). Finished c) (sym closing_is)
        ∙ sym (ap (λ (b : Bool). if b then Failed (entered - 1) found else Finished closing) (le-ltb found none_yet big)))
        (λ small.
        let s : found < none_yet = omega (arith, small) in
        let live = is_live s in
        first_fails ps m (entered - 1) found (omega (arith, live, within)) (λ t l. earlier t (omega (arith, l, live))) (last (entered - 1) (omega (arith, live))) s
        ∙ sym (ap (λ (b : Bool). if b then Failed (entered - 1) found else Finished closing) (lt-ltb found none_yet s)))

    -- where a phase fails, its key has the parts of one of its keys
    pub key_stands : (team : ℕ) → MayStart ps m team chunk → found < none_yet → (0 < entered) × HoldsKey (phase_at ps (entered - 1)) found
    key_stands team may s =
        let live = is_live s in
        let t : ℕ = entered - 1 in
        let at : t < length ps = omega (arith, live, within) in
        let well = (enters_well ps m team chunk t (after ps m chunk t) may (record {
          there = at;
          keyless = λ s l. key_is ps m chunk team s (omega (arith, l, at)) ∙ earlier s (omega (arith, l, live));
          cells_are = sym (memory_is ps m chunk team t (omega (arith, at)));
        })).0 in
        let e : keyed ps m t ≡ found = last t (omega (arith, live)) in
        (live, holds_key (phase_at ps t) found (subst (λ (k : ℕ). HasKey (phase_at ps t) k) e (has_key (phase_at ps t) (after ps m chunk t) chunk may.chunk_is well (omega (arith, e, s)))))
