-- A reduction between two Sets.
use Rattle.std.proofs.Common.{◌≡◌, ◌⊎◌, inl, inr, ℕ, ◌<◌, ◌≤◌, Bool, true, false, List, [], ◌∷◌, ◌++◌, sym, refl, ap, ◌∙◌, subst, arith, Result, Ok, Err, ℤ}
use Rattle.std.specs.Prelude.{nat_lt}
use Rattle.std.proofs.lemmas.Bool.Decides.{nat_tests}
use Rattle.ws_base.specs.declared.op.CallWord.{CallWord}
use Rattle.ws_base.specs.Numbers.{Exact, default_half, reduction}
use Rattle.phase_ops.specs.declared.effect.Effect.{Effect}
use Rattle.phase_ops.specs.declared.phase.Source.{Source}
use Rattle.phase_ops.specs.declared.phase.Label.{Label}
use Rattle.phase_ops.specs.declared.phase.Act.{Act}
use Rattle.phase_ops.specs.declared.phase.Phase.TheVariants.{Set}
use Rattle.phase_ops.specs.Phases.{Cells, lay, least_key, none_yet, after_phase, key, Outcome, result}
use Rattle.phase_ops.specs.Free.{IsChunk}
use Rattle.loop_laws.specs.Moves.{Row, Failure, whole, values_of}
use Rattle.loop_laws.specs.Loops.{Plan, rows_of, does}
use Rattle.list_laws.specs.Lists.{Good, Leads, LeadsOne, either_fails, joined_fails, NeverAt}
use Rattle.loop_laws.specs.Sets.{Staging}
use Rattle.loop_laws.proofs.Keyed.{the_bridge, least_bound}
use Rattle.list_laws.proofs.Lists.{one_more, list_law, nothing_more}
use Rattle.loop_laws.proofs.Sets.{set_free, one_strand}
use Rattle.part_phase_laws.specs.Parts.{TotalEnds, ReductionEnds, reducing}
use Rattle.part_phase_laws.specs.Stretch.{ReducesFrom, Totalled, FailsSo, AfterSet, SetFails}
use Rattle.part_phase_laws.proofs.PartCells.{part_keyed, part_leaves}
use Rattle.part_phase_laws.proofs.Joins.{reduces_all}

pub reduction_leads : (l t f slot : ℕ) (kind : CallWord) (count : Source) (act : Act) (pre : Cells → Type 0) (plan : Cells → Plan ℤ) (value : Cells → ℕ → List ℤ → ℤ) (n : Cells → ℕ)
    → ReducesFrom pre plan value n kind f slot count act → (chunk : ℕ) → IsChunk chunk
    → Leads chunk (reducing l t f slot kind count act) pre (Totalled pre plan value n kind f slot) (FailsSo pre plan value n kind)
reduction_leads l t f slot kind count act pre plan value n w chunk is = λ m h.
    let s = w.summing m h in
    let k = part_keyed ℤ (plan m) (value m) kind f count act m (n m) s l t chunk is in
    let b = the_bridge ℤ (plan m) (act ∷ []) m (n m) s.fitting.small s.follows in
    let e = reduces_all ℤ l t f slot kind count act m (n m) (plan m) (value m) s (w.joining m h) chunk is (whole (plan m).moves (rows_of (plan m) (n m))) refl b k
    (part_leaves ℤ (plan m) (value m) kind f count act m (n m) s l t chunk is (whole (plan m).moves (rows_of (plan m) (n m))) refl b k) in
    (e.0, ends m h (whole (plan m).moves (rows_of (plan m) (n m))) refl (result (reducing l t f slot kind count act) m chunk) e.1)
  where
    totals : (m : Cells) → pre m → (ts : List (Row ℤ)) → whole (plan m).moves (rows_of (plan m) (n m)) ≡ Ok ts → (x : Exact) → reduction default_half kind (values_of (value m) ts) ≡ x
        → (r : Outcome) → TotalEnds slot f (n m) m x r → Good (Totalled pre plan value n kind f slot) (FailsSo pre plan value n kind) r
    totals m h ts e (Ok z) q r g = subst (Good (Totalled pre plan value n kind f slot) (FailsSo pre plan value n kind)) (sym g.1) (m, ts, z, h, e, q, g.2)
    totals m h ts e (Err y) q r g = subst (Good (Totalled pre plan value n kind f slot) (FailsSo pre plan value n kind)) (sym g) (inr (m, ts, y, h, e, q, refl, refl))

    ends : (m : Cells) → pre m → (x : Result (List (Row ℤ)) Failure) → whole (plan m).moves (rows_of (plan m) (n m)) ≡ x
        → (r : Outcome) → ReductionEnds ℤ (plan m) (value m) kind slot f (n m) m x r → Good (Totalled pre plan value n kind f slot) (FailsSo pre plan value n kind) r
    ends m h (Ok ts) e r g = totals m h ts e (reduction default_half kind (values_of (value m) ts)) refl r g
    ends m h (Err y) e r g = subst (Good (Totalled pre plan value n kind f slot) (FailsSo pre plan value n kind)) (sym g) (inl (m, y, h, e, refl, refl))

-- a Set from each memory of a kind
pub set_leads : (l : ℕ) (b : Label) (acts : List Act) (pre : Cells → Type 0) → ((m : Cells) → pre m → Staging acts m) → (chunk : ℕ) → LeadsOne chunk (Set l b acts) pre (AfterSet acts pre) (SetFails acts pre)
set_leads l b acts pre w chunk = λ m h. (set_free l b acts m (w m h), pick m h (nat_lt (least_key (does acts m 0)) none_yet) refl)
  where
    key_is : (m : Cells) → (h : pre m) → key (Set l b acts) m chunk ≡ least_key (does acts m 0)
    key_is m h = ap least_key (one_strand l b acts m (w m h) chunk)

    pick : (m : Cells) → (h : pre m) → (y : Bool) → nat_lt (least_key (does acts m 0)) none_yet ≡ y
        → ((key (Set l b acts) m chunk ≡ none_yet) × AfterSet acts pre (after_phase (Set l b acts) m chunk)) ⊎ ((key (Set l b acts) m chunk < none_yet) × SetFails acts pre (key (Set l b acts) m chunk))
    pick m h true e = let k = key_is m h in let g : least_key (does acts m 0) < none_yet = grind (arith, nat_tests) in inr (omega (arith, k, g), (m, h, k))
    pick m h false e =
        let k = key_is m h in
        let b' = least_bound (does acts m 0) in
        let g : none_yet ≤ least_key (does acts m 0) = grind (arith, nat_tests) in
        let none : least_key (does acts m 0) ≡ none_yet = omega (arith, b', g) in
        inl (k ∙ none, (m, h, none, ap (λ (es : List Effect). lay m es) (one_strand l b acts m (w m h) chunk)))

pub stretch : (l t f slot : ℕ) (kind : CallWord) (count : Source) (act : Act) (first last : List Act) (lf ll : ℕ) (bf bl : Label) (pre : Cells → Type 0) (plan : Cells → Plan ℤ) (value : Cells → ℕ → List ℤ → ℤ) (n : Cells → ℕ)
    → ((m : Cells) → pre m → Staging first m)
    → ReducesFrom (AfterSet first pre) plan value n kind f slot count act
    → ((m : Cells) → Totalled (AfterSet first pre) plan value n kind f slot m → Staging last m)
    → (chunk : ℕ) → IsChunk chunk
    → Leads chunk (Set lf bf first ∷ (reducing l t f slot kind count act ++ Set ll bl last ∷ [])) pre (AfterSet last (Totalled (AfterSet first pre) plan value n kind f slot))
    (either_fails (SetFails first pre) (joined_fails 2 (FailsSo (AfterSet first pre) plan value n kind) (either_fails (SetFails last (Totalled (AfterSet first pre) plan value n kind f slot)) NeverAt)))
stretch l t f slot kind count act first last lf ll bf bl pre plan value n stage w after chunk is =
    let mid : Cells → Type 0 = AfterSet first pre in
    let total : Cells → Type 0 = Totalled (AfterSet first pre) plan value n kind f slot in
    let post : Cells → Type 0 = AfterSet last (Totalled (AfterSet first pre) plan value n kind f slot) in
    let behind = one_more chunk total post post (SetFails last total) NeverAt (Set ll bl last) [] (set_leads ll bl last total after chunk) (nothing_more chunk post NeverAt) in
    one_more chunk pre mid post (SetFails first pre) (joined_fails 2 (FailsSo (AfterSet first pre) plan value n kind) (either_fails (SetFails last total) NeverAt)) (Set lf bf first) (reducing l t f slot kind count act ++ Set ll bl last ∷ [])
    (set_leads lf bf first pre stage chunk)
    (list_law chunk total post (either_fails (SetFails last total) NeverAt) (Set ll bl last ∷ []) behind (reducing l t f slot kind count act) mid (FailsSo (AfterSet first pre) plan value n kind) (reduction_leads l t f slot kind count act mid plan value n w chunk is))
