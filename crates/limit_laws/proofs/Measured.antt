-- A whole statement counts no more than the steps of the source do, and keeps the limits where these do.
use Rattle.std.proofs.Common.{◌≡◌, refl, sym, ap, ◌∙◌, subst, ℕ, ◌+◌, ◌*◌, ◌≤◌, ◌||◌, min, max, Bool, true, false, List, [], ◌∷◌, ◌++◌, None, arith, if◌then◌else◌}
use Rattle.std.proofs.lemmas.Bool.{and_from, le-leb}
use Rattle.hlfir_ops.specs.declared.what.What.{What}
use Rattle.hlfir_ops.specs.declared.op.Op.{Op, Op-F, out-Op, out-roll-Op}
use Rattle.hlfir_ops.specs.declared.op.Region.{Region}
use Rattle.hlfir_ops.specs.Trees.{op_of}
use Rattle.hlfir_ops.specs.Numbers.{order_of, order_in}
use Rattle.hlfir_ops.specs.RulesValues.{Value}
use Rattle.hlfir_ops.specs.RulesLimits.{Count, nothing, ended, counted, counted_all, size_of, size_limit, statement_count, fits_count, phase_limit, temporary_limit}
use Rattle.hlfir_ops.specs.Rules.{statement_fits}
use Rattle.ws_counts.specs.declared.tally.Piece.{Piece}
use Rattle.ws_counts.specs.declared.tally.Piece.TheVariants as piece
use Rattle.ws_counts.specs.declared.tally.Tally.{Tally}
use Rattle.ws_counts.specs.declared.tally.Total.{Total}
use Rattle.ws_counts.specs.Counts.{parts_in, masks_in, parts_of, phases_of, temporaries_of, steps_from}
use Rattle.ws_counts.specs.Tallies.{tallied}
use Rattle.ws_counts.specs.Tallies as tallies
use Rattle.ws_counts.proofs.Steps.{IsInStep, one_more, ends}
use Rattle.ws_counts.proofs.Numbers.{all_counted}
use Rattle.limit_laws.proofs.Costs.{sum_of, size}
use Rattle.limit_laws.proofs.Totals.{order-op}
use Rattle.limit_laws.proofs.Pieces.{how_many-append}
use Rattle.limit_laws.proofs.Counting.{size-is}
use Rattle.limit_laws.proofs.Tallying.{Reaches, reaches-assigned}
use Rattle.limit_laws.proofs.Walking.{Under, Below, Whole, bound, assigned_in}
use Rattle.ws_counts.specs.Counts.{is_part, is_mask}

-- ---- the steps of pieces count all of them

-- so many parts, and so many phases for masks and assignments, at least
record Sums (ps qs : List Piece) (ss : List (List Piece)) : Type 0 where
  parts : parts_in ps + parts_in qs ≤ parts_of ss
  phases : (masks_in ps + masks_in qs) + 6 * assigned_in qs ≤ phases_of ss

sums_one : (ps : List Piece) (q : Piece) (qs : List Piece) → IsInStep q → assigned_in (q ∷ []) ≡ 0 → Sums (ps ++ q ∷ []) qs (steps_from (ps ++ q ∷ []) qs) → Sums ps (q ∷ qs) (steps_from ps (q ∷ qs))
sums_one ps q qs in_step other s =
    subst (Sums ps (q ∷ qs)) (sym (one_more ps q qs in_step))
    (record {
      parts = omega (arith, s.parts, how_many-append is_part ps (q ∷ []));
      phases = omega (arith, s.phases, how_many-append is_mask ps (q ∷ []), other);
    })

sums : (qs ps : List Piece) → Sums ps qs (steps_from ps qs)
sums [] [] = record { parts = omega arith; phases = omega arith }
sums [] (p ∷ ps) = record { parts = omega arith; phases = omega arith }
sums (piece.Part ∷ qs) ps = sums_one ps piece.Part qs tt refl (sums qs (ps ++ piece.Part ∷ []))
sums (piece.Reduction ∷ qs) ps = sums_one ps piece.Reduction qs tt refl (sums qs (ps ++ piece.Reduction ∷ []))
sums (piece.Whole m ∷ qs) ps = sums_one ps (piece.Whole m) qs tt refl (sums qs (ps ++ piece.Whole m ∷ []))
sums (piece.Mask ∷ qs) ps = sums_one ps piece.Mask qs tt refl (sums qs (ps ++ piece.Mask ∷ []))
sums (piece.Assigned ∷ qs) ps =
    let s = sums qs [] in
    subst (Sums ps (piece.Assigned ∷ qs)) (sym (ends ps qs)) (record { parts = omega (arith, s.parts); phases = omega (arith, s.phases) })

-- ---- what is counted at the end

ended_case : (b : Bool) (k : Tally) (p t h q : ℕ) → k.begun ≡ b → Reaches k p t h q → Reaches (if b then tallies.counted k piece.Assigned else k) p t 0 0
ended_case true k p t h q is r = record { phases = omega (arith, r.phases); temporaries = omega (arith, r.temporaries); held = omega arith; pending = omega arith }
ended_case false k p t h q is r = record { phases = r.phases; temporaries = r.temporaries; held = omega arith; pending = omega arith }

-- reached before or with the end of the last step
tally-ended : (k : Tally) (p t h q : ℕ) → Reaches k p t h q → Reaches (tallies.ended k) p t 0 0
unfolding tallies.ended
tally-ended k p t h q r = ended_case k.begun k p t h q refl r

tally-begun : (k : Tally) (p t h q : ℕ) → k.begun ≡ true → Reaches k p t h q → Reaches (tallies.ended k) (p + 6) (max t (2 + (h + q))) 0 0
unfolding tallies.ended
tally-begun k p t h q is r =
    let e = reaches-assigned k p t h q r in
    subst (λ b. Reaches (if b then tallies.counted k piece.Assigned else k) (p + 6) (max t (2 + (h + q))) 0 0) (sym is)
    (record { phases = e.phases; temporaries = e.temporaries; held = omega arith; pending = omega arith })

count_case : (b : Bool) (c : Count) (k : Tally) → c.assigned ≡ b → Under c k → (b ≡ false → k.begun ≡ true) → Reaches (tallies.ended k) (ended c).phases (ended c).temporaries 0 0
count_case true c k is u g = tally-ended k _ _ _ _ (subst (λ a. let d : Count = if a then ended c else c in Reaches k d.phases d.temporaries (d.masks + d.held) d.pending) is u)
count_case false c k is u g =
    let r = tally-begun k _ _ _ _ (g refl) (subst (λ a. let d : Count = if a then ended c else c in Reaches k d.phases d.temporaries (d.masks + d.held) d.pending) is u) in
    record { phases = omega (arith, r.phases); temporaries = omega (arith, r.temporaries); held = omega arith; pending = omega arith }

count-ended : (c : Count) (k : Tally) → Below c k → Reaches (tallies.ended k) (ended c).phases (ended c).temporaries 0 0
count-ended c k b = count_case c.assigned c k refl b.under b.unended

uncapped : (x y : ℕ) → y ≤ 65536 → min x 4294967295 ≤ min y 4294967295 → x ≤ y
uncapped x y h g = omega (arith, h, g)

module _ (vs : List Value) where
  -- what a statement counts, and its size
  pub record Measured (op : Op) (ss : List (List Piece)) : Type 0 where
    pub size : size_of (order_in (out-Op op).regions) ≤ 65536
    pub phases : (statement_count vs op).phases ≤ phases_of ss
    pub temporaries : (statement_count vs op).temporaries ≤ temporaries_of ss

  none_counted : Under nothing tallies.nothing
  none_counted = record { phases = omega arith; temporaries = omega arith; held = omega arith; pending = omega arith }

  statement_ended : (c : Count) → c.begun ≡ true → (if c.begun then ended c else c) ≡ ended c
  statement_ended c h = ap (λ b. if b then ended c else c) h

  pub measured : (w : What) (line : ℕ) (rs : List Region) (ps : List Piece) (ss : List (List Piece)) → steps_from [] ps ≡ ss → Whole vs (order_of (op_of w line [] None rs ∷ [])) ps → parts_of ss ≤ 1024 → phases_of ss ≤ 512 → temporaries_of ss ≤ 64 → Measured (op_of w line [] None rs) ss
  measured w line rs ps ss is h few phases temporaries =
      let op = op_of w line [] None rs in
      let whole : Op-F Op Region = record { what = w; line = line; operands = []; kind = None; regions = rs } in
      let k = tallied tallies.nothing ps in
      let c = counted_all vs (counted vs nothing op) (order_in rs) in
      let order = order-op w line [] None rs in
      let below : Below c k = subst (λ l. Below (counted_all vs nothing l) k) order (h.counts nothing tallies.nothing none_counted) in
      let r = count-ended c k below in
      let total = all_counted ps k refl in
      let same : (statement_count vs op) ≡ ended c = ap (λ f. let d = counted_all vs (counted vs nothing op) (order_in f.regions) in if d.begun then ended d else d) (out-roll-Op whole) ∙ statement_ended c below.begun in
      let parts : parts_in ps ≤ parts_of ss = subst (λ x. parts_in ps ≤ parts_of x) is (let s = sums ps [] in omega (arith, s.parts)) in
      let steps : masks_in ps + 6 * assigned_in ps ≤ phases_of ss = subst (λ x. masks_in ps + 6 * assigned_in ps ≤ phases_of x) is (let s = sums ps [] in omega (arith, s.phases)) in
      let all_phases : (tallies.ended k).phases ≡ min (phases_of ss) 4294967295 = ap (λ (t : Total). t.phases) total ∙ ap (λ x. min (phases_of x) 4294967295) is in
      let all_temporaries : (tallies.ended k).temporaries ≡ min (temporaries_of ss) 4294967295 = ap (λ (t : Total). t.temporaries) total ∙ ap (λ x. min (temporaries_of x) 4294967295) is in
      let regions : size_of (order_in (out-Op op).regions) ≡ sum_of size (order_in rs) = ap (λ f. size_of (order_in f.regions)) (out-roll-Op whole) ∙ size-is (order_in rs) in
      let sized : sum_of size (order_in rs) ≤ bound ps + 2 = let first = ap (sum_of size) order in omega (arith, first, h.size) in
      record {
        size = omega (arith, regions, sized, parts, steps, few, phases);
        phases = subst (λ (d : Count). d.phases ≤ phases_of ss) (sym same) (uncapped (ended c).phases (phases_of ss) (omega (arith, phases)) (omega (arith, r.phases, all_phases)));
        temporaries = subst (λ (d : Count). d.temporaries ≤ temporaries_of ss) (sym same) (uncapped (ended c).temporaries (temporaries_of ss) (omega (arith, temporaries)) (omega (arith, r.temporaries, all_temporaries)));
      }

  pub count-fits : (p t : ℕ) → p ≤ 512 → t ≤ 64 → fits_count p t ≡ true
  count-fits p t hp ht = and_from _ _ (le-leb p phase_limit hp) (le-leb t temporary_limit ht)

  or_right : (b c : Bool) → c ≡ true → (b || c) ≡ true
  or_right true c h = refl
  or_right false c h = h

  pub statement-fits : (masked shared : Bool) (op : Op) (ss : List (List Piece)) → Measured op ss → phases_of ss ≤ 512 → temporaries_of ss ≤ 64 → statement_fits masked shared vs op ≡ true
  statement-fits masked shared op ss m hp ht =
      or_right masked _ (and_from _ _ (le-leb (size_of (order_in (out-Op op).regions)) size_limit m.size)
      (or_right shared _ (count-fits (statement_count vs op).phases (statement_count vs op).temporaries (omega (arith, m.phases, hp)) (omega (arith, m.temporaries, ht)))))
