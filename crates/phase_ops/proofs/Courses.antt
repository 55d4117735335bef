-- Phases free of races are safe work for a team, and the team's memory is that of the phases.
use Rattle.std.proofs.Common.{◌≡◌, ◌⊎◌, inl, inr, ℕ, zero, suc, ◌+◌, ◌*◌, ◌<◌, ◌≤◌, min, List, [], ◌∷◌, ◌++◌, length, sym, refl, ap, ◌∙◌, subst, arith, slice_index_or}
use mathlib.Core.Logic.{dite}
use native.Mathlib.Decide.{dec_le}
use Rattle.std.proofs.Math.Nat.{suc-mul, mul-le-mul_right}
use Rattle.std.proofs.lemmas.List.{append_assoc}
use Rattle.phase_ops.specs.declared.effect.Effect.{Effect}
use Rattle.phase_ops.specs.declared.effect.Effect.TheVariants.{Store, Least, Fault}
use Rattle.phase_ops.specs.declared.phase.Phase.{Phase}
use Rattle.phase_ops.specs.declared.phase.Phase.TheVariants.{Set, Loop, Part, Join}
use Rattle.phase_ops.specs.Phases.{Cells, source, natural, each_from, unit_size, strand_effects, reads, parameter, strands, units, effects, unit_reads, first_strand, strand_count, lay, least_key, none_yet, phase_effects, after_phase, key, after}
use Rattle.phase_ops.specs.Free.{In, stored, lessened, Apart, IsChunk, FreeFrom, FreeList}
use Rattle.phase_ops.specs.Course.{Memory, apply, lay_both, Work, all_effects, FreeOfRaces, memory_after, key_at, Safe, no_phase, work_of, course}
use Rattle.phase_ops.proofs.Members.{in_either, from_each}
use Rattle.phase_ops.proofs.Strands.{from_stored, from_lessened}

-- ---- strands and units

abbrev Within : Phase → Cells → ℕ → ℕ → ℕ → Type 0
Within p m chunk u s = (first_strand p chunk u ≤ s) × (s < first_strand p chunk u + strand_count p m chunk u)

near : (n chunk u s : ℕ) → u * chunk ≤ s → s < u * chunk + unit_size n chunk u → s < n
near n chunk u s a b = omega (arith, a, b)

strand_there : (p : Phase) (m : Cells) (chunk u s : ℕ) → u < units p m chunk → Within p m chunk u s → s < strands p m chunk
strand_there (Set l b acts) m chunk u s h w = let x = w.0 in let y = w.1 in omega arith
strand_there (Loop l b count acts) m chunk u s h w = near (natural (source m count)) chunk u s w.0 w.1
strand_there (Part l count act k t f) m chunk u s h w = let x = w.0 in let y = w.1 in omega arith
strand_there (Join l count k t f slot) m chunk u s h w = let x = w.0 in let y = w.1 in omega arith

not_before : (n chunk u v s : ℕ) → u * chunk ≤ s → s < u * chunk + unit_size n chunk u → v * chunk ≤ s → u < v → ⊥
not_before n chunk u v s a b c l =
    let d : suc u * chunk ≤ v * chunk = mul-le-mul_right chunk l in
    let e = suc-mul u chunk in omega (arith, a, b, c, d, e)

one_unit : (p : Phase) (m : Cells) (chunk u v s : ℕ) → Within p m chunk u s → Within p m chunk v s → u ≡ v
one_unit (Set l b acts) m chunk u v s w x = let a = w.0 in let b = w.1 in let c = x.0 in let d = x.1 in omega arith
one_unit (Part l count act k t f) m chunk u v s w x = let a = w.0 in let b = w.1 in let c = x.0 in let d = x.1 in omega arith
one_unit (Join l count k t f slot) m chunk u v s w x = let a = w.0 in let b = w.1 in let c = x.0 in let d = x.1 in omega arith
one_unit (Loop l b count acts) m chunk u v s w x =
    let n = natural (source m count) in
    dite (dec_le (suc u) v) (λ l. absurd (not_before n chunk u v s w.0 w.1 x.0 l))
    (λ a. dite (dec_le (suc v) u) (λ l. absurd (not_before n chunk v u s x.0 x.1 w.0 l)) (λ c. omega (arith, a, c)))

-- ---- races between units

pub units_free : (p : Phase) (m : Cells) (chunk : ℕ) → Apart p m chunk → FreeOfRaces (work_of p m chunk)
units_free p m chunk a = record {
  stores = λ u v c hu hv x y.
      let i = at_store u c x in let j = at_store v c y in
      let same = a.stores i.0 j.0 c (strand_there p m chunk u i.0 hu i.1) (strand_there p m chunk v j.0 hv j.1) i.2 j.2 in
      one_unit p m chunk u v i.0 i.1 (subst (λ (s : ℕ). Within p m chunk v s) (sym same) j.1);
  loads_apart = λ u v c hu hv x y.
      let i = at_store u c x in against u v c hu hv i (in_either c (parameter p) (unit_reads p m chunk v) y);
  leasts = λ u v c hu hv x y.
      let i = at_least u c x in lessens u v c hu hv i y;
  parameter_apart = λ u c hu x y. elim x as (λ z. ⊥) [
    | inl h ↦ let i = at_store u c h in a.parameter_apart i.0 c (strand_there p m chunk u i.0 hu i.1) (inl i.2) y
    | inr h ↦ let i = at_least u c h in a.parameter_apart i.0 c (strand_there p m chunk u i.0 hu i.1) (inr i.2) y
  ];
}
  where
    at_store : (u c : ℕ) → In c (stored (effects p m chunk u)) → (s : ℕ) × Within p m chunk u s × In c (stored (strand_effects p m chunk s))
    at_store u c h = let x = from_stored c (strand_effects p m chunk) (first_strand p chunk u) (strand_count p m chunk u) h in (x.0, (x.1, x.2), x.3)

    at_least : (u c : ℕ) → In c (lessened (effects p m chunk u)) → (s : ℕ) × Within p m chunk u s × In c (lessened (strand_effects p m chunk s))
    at_least u c h = let x = from_lessened c (strand_effects p m chunk) (first_strand p chunk u) (strand_count p m chunk u) h in (x.0, (x.1, x.2), x.3)

    at_read : (u c : ℕ) → In c (unit_reads p m chunk u) → (s : ℕ) × Within p m chunk u s × In c (reads p m chunk s)
    at_read u c h = let x = from_each c (reads p m chunk) (first_strand p chunk u) (strand_count p m chunk u) h in (x.0, (x.1, x.2), x.3)

    against : (u v c : ℕ) → u < units p m chunk → v < units p m chunk → ((s : ℕ) × Within p m chunk u s × In c (stored (strand_effects p m chunk s))) → In c (parameter p) ⊎ In c (unit_reads p m chunk v) → u ≡ v
    against u v c hu hv i (inl h) = absurd (a.parameter_apart i.0 c (strand_there p m chunk u i.0 hu i.1) (inl i.2) h)
    against u v c hu hv i (inr h) = let j = at_read v c h in
        let same = a.loads_apart i.0 j.0 c (strand_there p m chunk u i.0 hu i.1) (strand_there p m chunk v j.0 hv j.1) i.2 j.2 in
        one_unit p m chunk u v i.0 i.1 (subst (λ (s : ℕ). Within p m chunk v s) (sym same) j.1)

    lessens : (u v c : ℕ) → u < units p m chunk → v < units p m chunk → ((s : ℕ) × Within p m chunk u s × In c (lessened (strand_effects p m chunk s))) → In c (stored (effects p m chunk v)) ⊎ In c (parameter p ++ unit_reads p m chunk v) → ⊥
    lessens u v c hu hv i (inl h) = let j = at_store v c h in
        a.leasts i.0 j.0 c (strand_there p m chunk u i.0 hu i.1) (strand_there p m chunk v j.0 hv j.1) i.2 (inl j.2)
    lessens u v c hu hv i (inr h) = either (in_either c (parameter p) (unit_reads p m chunk v) h)
      where
        either : In c (parameter p) ⊎ In c (unit_reads p m chunk v) → ⊥
        either (inl g) = a.parameter_apart i.0 c (strand_there p m chunk u i.0 hu i.1) (inr i.2) g
        either (inr g) = let j = at_read v c g in
            a.leasts i.0 j.0 c (strand_there p m chunk u i.0 hu i.1) (strand_there p m chunk v j.0 hv j.1) i.2 (inr j.2)

-- ---- the team's memory

pub each_snoc : (f : ℕ → List Effect) (from n : ℕ) → each_from f from (suc n) ≡ each_from f from n ++ f (from + n)
each_snoc f from zero = append_nil (f from) ∙ ap f (let e : from ≡ from + zero = omega arith in e)
  where
    append_nil : (xs : List Effect) → xs ++ [] ≡ xs
    append_nil [] = refl
    append_nil (x ∷ xs) = λ i. x ∷ append_nil xs i
each_snoc f from (suc n) = ap (λ (l : List Effect). f from ++ l) (each_snoc f (suc from) n) ∙ sym (append_assoc (f from) (each_from f (suc from) n) (f (suc from + n)))
    ∙ ap (λ (k : ℕ). (f from ++ each_from f (suc from) n) ++ f k) (let e : suc from + n ≡ from + suc n = omega arith in e)

pub all_are : (w : Work) (k : ℕ) → all_effects w k ≡ each_from w.effects 0 k
all_are w zero = refl
all_are w (suc k) = ap (λ (l : List Effect). l ++ w.effects k) (all_are w k) ∙ sym (each_snoc w.effects 0 k ∙ ap (λ (n : ℕ). each_from w.effects 0 k ++ w.effects n) (let e : 0 + k ≡ k = omega arith in e))

pub lay_cells : (m : Memory) (es : List Effect) → (lay_both m es).0 ≡ lay m.0 es
lay_cells m [] = refl
lay_cells m (Store c v ∷ es) = lay_cells (apply (Store c v) m) es
lay_cells m (Least c v ∷ es) = lay_cells (apply (Least c v) m) es
lay_cells m (Fault k ∷ es) = lay_cells (apply (Fault k) m) es

key_bound : (es : List Effect) → least_key es ≤ none_yet
key_bound [] = omega arith
key_bound (Store c v ∷ es) = key_bound es
key_bound (Least c v ∷ es) = key_bound es
key_bound (Fault k ∷ es) = let h = key_bound es in omega arith

lay_keys : (m : Memory) (es : List Effect) → m.1 ≤ none_yet → (lay_both m es).1 ≡ min m.1 (least_key es)
lay_keys m [] h = omega (arith, h)
lay_keys m (Store c v ∷ es) h = lay_keys (apply (Store c v) m) es h
lay_keys m (Least c v ∷ es) h = lay_keys (apply (Least c v) m) es h
lay_keys m (Fault k ∷ es) h = lay_keys (m.0, min m.1 k) es (omega (arith, h)) ∙ (let e : min (min m.1 k) (least_key es) ≡ min m.1 (min k (least_key es)) = omega arith in e)

pub phase_cells : (p : Phase) (m : Cells) (chunk : ℕ) → (lay_both (m, none_yet) (all_effects (work_of p m chunk) (work_of p m chunk).units)).0 ≡ after_phase p m chunk
phase_cells p m chunk = lay_cells (m, none_yet) (all_effects (work_of p m chunk) (units p m chunk)) ∙ ap (λ (es : List Effect). lay m es) (all_are (work_of p m chunk) (units p m chunk))

pub phase_key : (p : Phase) (m : Cells) (chunk : ℕ) → (lay_both (m, none_yet) (all_effects (work_of p m chunk) (work_of p m chunk).units)).1 ≡ key p m chunk
phase_key p m chunk = lay_keys (m, none_yet) (all_effects (work_of p m chunk) (units p m chunk)) (omega arith)
    ∙ ap (λ (es : List Effect). min none_yet (least_key es)) (all_are (work_of p m chunk) (units p m chunk))
    ∙ (let h = key_bound (phase_effects p m chunk) in let e : min none_yet (least_key (phase_effects p m chunk)) ≡ least_key (phase_effects p m chunk) = omega arith in e)

-- the phases after the first are the course from the memory after it
shift : (p : Phase) (ps : List Phase) (m : Cells) (chunk team t : ℕ) → memory_after (course (p ∷ ps) m chunk team) (suc t) ≡ memory_after (course ps (after_phase p m chunk) chunk team) t
shift p ps m chunk team zero = phase_cells p m chunk
shift p ps m chunk team (suc t) = ap (λ (z : Cells). let w : Work = work_of (slice_index_or ps t no_phase) z chunk in (lay_both (z, none_yet) (all_effects w w.units)).0) (shift p ps m chunk team t)

pub memory_is : (ps : List Phase) (m : Cells) (chunk team t : ℕ) → t ≤ length ps → memory_after (course ps m chunk team) t ≡ after ps m chunk t
memory_is ps m chunk team zero h = refl
memory_is [] m chunk team (suc t) h = absurd (omega arith)
memory_is (p ∷ ps) m chunk team (suc t) h = shift p ps m chunk team t ∙ memory_is ps (after_phase p m chunk) chunk team t (omega arith)

pub key_is : (ps : List Phase) (m : Cells) (chunk team t : ℕ) → t ≤ length ps → key_at (course ps m chunk team) t ≡ key (slice_index_or ps t no_phase) (after ps m chunk t) chunk
key_is ps m chunk team t h = phase_key (slice_index_or ps t no_phase) (memory_after (course ps m chunk team) t) chunk ∙ ap (λ (z : Cells). key (slice_index_or ps t no_phase) z chunk) (memory_is ps m chunk team t h)

-- ---- safe

pub phases_apart : (chunk : ℕ) (is : IsChunk chunk) (ps : List Phase) (m : Cells) → FreeFrom chunk ps m → (t : ℕ) → t < length ps
    → ((s : ℕ) → s < t → key (slice_index_or ps s no_phase) (after ps m chunk s) chunk ≡ none_yet) → Apart (slice_index_or ps t no_phase) (after ps m chunk t) chunk
phases_apart chunk is [] m f t l keyless = absurd (omega arith)
phases_apart chunk is (p ∷ ps) m f zero l keyless = (f.0 chunk is).0
phases_apart chunk is (p ∷ ps) m f (suc t) l keyless =
    phases_apart chunk is ps (after_phase p m chunk) (f.1 (keyless zero (omega arith))) t (omega arith) (λ s h. keyless (suc s) (omega (arith, h)))

pub course_safe : (ps : List Phase) (m : Cells) (chunk team : ℕ) → IsChunk chunk → FreeList ps m → Safe (course ps m chunk team)
course_safe ps m chunk team is f = λ t l keyless.
    let a = phases_apart chunk is ps m (f.phases chunk is) t l (λ s h. sym (key_is ps m chunk team s (omega (arith, h, l))) ∙ keyless s h) in
    units_free (slice_index_or ps t no_phase) (memory_after (course ps m chunk team) t) chunk (subst (λ (z : Cells). Apart (slice_index_or ps t no_phase) z chunk) (sym (memory_is ps m chunk team t (omega (arith, l)))) a)
