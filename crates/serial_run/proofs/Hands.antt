-- The steps of one thread through a unit.
use Rattle.std.proofs.Common.{◌≡◌, ◌⊎◌, inl, inr, ℕ, suc, ◌<◌, ◌≤◌, min, List, [], ◌∷◌, ◌++◌, length, take, drop, sym, refl, ap, ◌∙◌, arith}
use Rattle.phase_ops.specs.declared.effect.Effect.{Effect}
use Rattle.phase_ops.specs.declared.effect.Effect.TheVariants.{Store, Least, Fault}
use Rattle.phase_ops.specs.declared.phase.Phase.{Phase}
use Rattle.phase_ops.specs.Phases.{Cells, over, lay, least_key, natural, units, effects, reads, unit_reads, first_strand, strand_count, none_yet, key}
use Rattle.phase_ops.specs.Free.{In, count_value, Apart, WellFormed, Free}
use Rattle.phase_ops.specs.Faults.{HasKey}
use Rattle.phase_ops.specs.Laws.{NoneFails, IsFirstFault}
use Rattle.phase_ops.proofs.Members.{from_each}
use Rattle.phase_ops.proofs.Strands.{lay_length}
use Rattle.phase_ops.proofs.Keys.{key_holds}
use Rattle.phase_ops.proofs.Held.{has_key}
use Rattle.act_eval.specs.Sites.{View}
use Rattle.act_eval.specs.Strands.{HasRoom, AreChunks, UnitBegins}
use Rattle.act_eval.proofs.Leads.{lay_append}
use Rattle.act_eval.proofs.InOrder.{strand_there}
use Rattle.team_core.proofs.Lists.{take_next, take_whole}
use Rattle.team_core.proofs.Scratches.{next_effect, none_left}
use Rattle.team_core.proofs.Sizes.{effects_few}
use Rattle.serial_run.specs.declared.hand.Hand.{Hand}
use Rattle.serial_run.proofs.Alone.{partials_alone}
use Rattle.serial_run.specs.Hands.{key_after, Order, order_of, IsAt}

least_snoc : (es : List Effect) (e : Effect) → least_key (es ++ e ∷ []) ≡ key_after e (least_key es)
least_snoc [] (Store c v) = refl
least_snoc [] (Least c v) = refl
least_snoc [] (Fault k) = omega arith
least_snoc (Store c v ∷ es) e = least_snoc es e
least_snoc (Least c v ∷ es) e = least_snoc es e
least_snoc (Fault j ∷ es) (Store c v) = ap (min j) (least_snoc es (Store c v))
least_snoc (Fault j ∷ es) (Least c v) = ap (min j) (least_snoc es (Least c v))
least_snoc (Fault j ∷ es) (Fault k) = ap (min j) (least_snoc es (Fault k)) ∙ (let e : min j (min (least_key es) k) ≡ min (min j (least_key es)) k = omega arith in e)

module _ (o : Order) (h : Hand) (is : IsAt o h) where
  pub read_there : (c : ℕ) → In c o.may → c < length h.cells
  read_there c i =
      let l = is.there c i in
      let e : length h.cells ≡ length o.opening = ap length is.cells_are ∙ lay_length o.opening (take h.done o.effects) in
      omega (arith, l, e)

  pub done_small : h.done < 9223372036854775808
  done_small = let f = is.few in let d = is.done_few in omega (arith, f, d)

  -- all effects are done
  pub all_done : drop h.done o.effects ≡ [] → (h.cells ≡ lay o.opening o.effects) × (h.key ≡ least_key o.effects)
  all_done none =
      let low = none_left o.effects h.done none in let high = is.done_few in
      let whole : take h.done o.effects ≡ o.effects = ap (λ (k : ℕ). take k o.effects) (let e : h.done ≡ length o.effects = omega (arith, low, high) in e) ∙ take_whole o.effects in
      (is.cells_are ∙ ap (lay o.opening) whole, is.key_is ∙ ap least_key whole)

module _ (o : Order) (h h' : Hand) (e : Effect) (more : List Effect) (is : IsAt o h) (left : drop h.done o.effects ≡ e ∷ more) (cells : h'.cells ≡ over e h.cells) (key_is : h'.key ≡ key_after e h.key) (done : h'.done ≡ suc h.done) where
  taken : take h'.done o.effects ≡ take h.done o.effects ++ e ∷ []
  taken = ap (λ (k : ℕ). take k o.effects) done ∙ take_next o.effects h.done e (next_effect o.effects h.done e more left).1

  pub acted : IsAt o h'
  acted = record {
    few = is.few;
    done_few = (let l = (next_effect o.effects h.done e more left).0 in omega (arith, l, done));
    cells_are = cells ∙ ap (over e) is.cells_are ∙ sym (lay_append o.opening (take h.done o.effects) (e ∷ [])) ∙ ap (lay o.opening) (sym taken);
    key_is = key_is ∙ ap (key_after e) is.key_is ∙ sym (least_snoc (take h.done o.effects) e) ∙ ap least_key (sym taken);
    there = is.there;
  }

pub acted_view : (o : Order) (h h' : Hand) (e : Effect) (more : List Effect) → drop h.done o.effects ≡ e ∷ more → h'.cells ≡ over e h.cells → h'.done ≡ suc h.done
    → (let v : View = record { left = drop h'.done o.effects; cells = h'.cells; may = o.may } in v) ≡ record { left = more; cells = over e h.cells; may = o.may }
acted_view o h h' e more left cells done = λ i. record { left = (ap (λ (k : ℕ). drop k o.effects) done ∙ (next_effect o.effects h.done e more left).2) i; cells = cells i; may = o.may }

-- ---- where a phase begins

pub free_apart : (p : Phase) (m : Cells) → Free p m → Apart p m 65536
free_apart p m free = (free 65536 (omega arith, omega arith)).0

pub free_well : (p : Phase) (m : Cells) → Free p m → WellFormed p m 65536
free_well p m free = (free 65536 (omega arith, omega arith)).1

module _ (p : Phase) (h : Hand) (free : Free p h.cells) (there : 0 < units p h.cells 65536) (none_done : h.done ≡ 0) where
  pub begun : h.key ≡ none_yet → IsAt (order_of p h.cells) h
  begun no_key =
      let well = free_well p h.cells free in
      let few : length (effects p h.cells 65536 0) < 4611686018427387904 = effects_few p h.cells 65536 0 well in
      record {
        few = few;
        done_few = omega (arith, none_done);
        cells_are = ap (λ (k : ℕ). lay h.cells (take k (effects p h.cells 65536 0))) (sym none_done);
        key_is = no_key ∙ ap (λ (k : ℕ). least_key (take k (effects p h.cells 65536 0))) (sym none_done);
        there = λ c i.
            let x = from_each c (reads p h.cells 65536) (first_strand p 65536 0) (strand_count p h.cells 65536 0) i in
            well.loaded x.0 c (strand_there p h.cells 65536 0 x.0 there x.1 x.2) x.3;
      }

  pub begins : (n : ℕ) → length h.cells < 4294967296 → AreChunks 65536 n → n ≡ natural (count_value p h.cells)
      → UnitBegins (record { left = drop h.done (effects p h.cells 65536 0); cells = h.cells; may = unit_reads p h.cells 65536 0 }) p 65536 n 0
  begins n few chunks count = record {
    left_is = ap (λ (k : ℕ). drop k (effects p h.cells 65536 0)) none_done;
    may_read = λ c i. i;
    apart = free_apart p h.cells free;
    well = free_well p h.cells free;
    partials = partials_alone p h.cells (free_well p h.cells free);
    few_cells = omega (arith, few);
    chunks = chunks;
    count_is = count;
    there = there;
  }

pub has_room : (p : Phase) (m : Cells) (registers : ℕ) → Free p m → registers ≡ 1048576 → HasRoom p registers
has_room p m registers free e =
    let well = free_well p m free in
    record { few_acts = well.few_acts; few_ops = λ a i. (let l = (well.few_ops a i).0 in omega (arith, l, e), (well.few_ops a i).0) }

-- ---- keys

pub free_key : (p : Phase) (m : Cells) → Free p m → key p m 65536 < none_yet → HasKey p (key p m 65536)
free_key p m free some = has_key p m 65536 (omega arith, omega arith) (free_well p m free) some

pub no_key : (p : Phase) (m : Cells) → Free p m → none_yet ≤ key p m 65536 → key p m 65536 ≡ none_yet
no_key p m free none = by (key_holds p m 65536 (omega arith, omega arith) (free_well p m free))
  where
    by : ((key p m 65536 ≡ none_yet) × NoneFails p m 65536) ⊎ ((key p m 65536 < none_yet) × IsFirstFault p m 65536 (key p m 65536)) → key p m 65536 ≡ none_yet
    by (inl h) = h.0
    by (inr h) = let l = h.0 in absurd (omega (arith, l, none))
