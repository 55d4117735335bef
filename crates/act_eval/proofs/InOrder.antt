-- Strands of a phase that run one after the other, each over what the earlier ones have left.
use Rattle.std.proofs.Common.{◌≡◌, ◌≢◌, ◌⊎◌, inl, inr, ℕ, suc, ◌+◌, ◌-◌, ◌<◌, ◌≤◌, List, [], ◌∷◌, ◌++◌, length, sym, refl, ap, ◌∙◌, subst, arith, ℤ}
use Rattle.std.proofs.lemmas.List.{append_cancel_right}
use Rattle.phase_ops.specs.declared.effect.Effect.{Effect}
use Rattle.phase_ops.specs.declared.phase.Phase.{Phase}
use Rattle.phase_ops.specs.declared.phase.Phase.TheVariants.{Set, Loop, Part, Join}
use Rattle.phase_ops.specs.Phases.{Cells, Event, loads, divides, gives, natural, pieces, each_from, strand_events, strand_effects, reads, parameter, strands, units, first_strand, strand_count, lay}
use Rattle.phase_ops.specs.Free.{In, stored, lessened, count_value, Apart, WellFormed}
use Rattle.phase_ops.specs.Laws.{Agree, OfOthers}
use Rattle.phase_ops.proofs.Members.{from_each, to_each}
use Rattle.phase_ops.proofs.Frame.{source_same}
use Rattle.phase_ops.proofs.Strands.{from_stored, from_lessened, lay_length, lay_quiet, strand_after, effects_after}
use Rattle.phase_ops.proofs.Courses.{each_snoc}
use Rattle.act_eval.specs.Sites.{View, Small, Led}
use Rattle.act_eval.specs.Strands.{PartialsFit, TakesAll, Begins, AreChunks, HasStrand, UnitBegins}
use Rattle.act_eval.proofs.Leads.{lay_append}
use Rattle.act_eval.proofs.Fitting.{each_split}

-- ---- what depends on the count alone

count_same : (p : Phase) (xs ys : Cells) → Agree xs ys (parameter p) → count_value p xs ≡ count_value p ys
count_same (Set l b acts) xs ys a = refl
count_same (Loop l b count acts) xs ys a = source_same xs ys count a
count_same (Part l count act k t f) xs ys a = source_same xs ys count a
count_same (Join l count k t f slot) xs ys a = source_same xs ys count a

strands_same : (p : Phase) (chunk : ℕ) (xs ys : Cells) → Agree xs ys (parameter p) → strands p xs chunk ≡ strands p ys chunk
strands_same (Set l b acts) chunk xs ys a = refl
strands_same (Loop l b count acts) chunk xs ys a = ap natural (source_same xs ys count a)
strands_same (Part l count act k t f) chunk xs ys a = ap (λ (z : ℤ). pieces (natural z) chunk) (source_same xs ys count a)
strands_same (Join l count k t f slot) chunk xs ys a = refl

takes_over : (p : Phase) (m m' : Cells) (chunk s : ℕ) → WellFormed p m chunk → s < strands p m chunk → strand_events p m' chunk s ≡ strand_events p m chunk s → TakesAll p m' chunk s
takes_over (Set l b acts) m m' chunk s w h e = tt
takes_over (Loop l b count acts) m m' chunk s w h e = tt
takes_over (Part l count act k t f) m m' chunk s w h e = (w.reduction.0, λ z i. w.reduction.2 s z h (subst (λ (es : List Event). In z (gives es)) e i))
takes_over (Join l count k t f slot) m m' chunk s w h e = w.reduction

-- a Join is the only strand of its phase, so nothing was done before it
fits_over : (p : Phase) (m : Cells) (chunk first s : ℕ) (f : ℕ → List Effect) → PartialsFit p m chunk → s < strands p m chunk → first ≤ s → PartialsFit p (lay m (each_from f first (s - first))) chunk
fits_over (Set l b acts) m chunk first s f fits h a = tt
fits_over (Loop l b count acts) m chunk first s f fits h a = tt
fits_over (Part l count act k t g) m chunk first s f fits h a = tt
fits_over (Join l count k t g slot) m chunk first s f fits h a =
    subst (λ (n : ℕ). PartialsFit (Join l count k t g slot) (lay m (each_from f first n)) chunk) (let e : 0 ≡ s - first = omega (arith, h, a) in e) fits

-- ---- the strands of a unit

pub strand_there : (p : Phase) (m : Cells) (chunk u s : ℕ) → u < units p m chunk → first_strand p chunk u ≤ s → s < first_strand p chunk u + strand_count p m chunk u → s < strands p m chunk
strand_there (Set l b acts) m chunk u s h a c = omega (arith, h, c)
strand_there (Loop l b count acts) m chunk u s h a c = omega (arith, a, c)
strand_there (Part l count act k t f) m chunk u s h a c = omega (arith, h, a, c)
strand_there (Join l count k t f slot) m chunk u s h a c = omega (arith, h, c)

-- ---- the strands from `first` on, so many

module _ (p : Phase) (m : Cells) (chunk first count : ℕ) (apart : Apart p m chunk) (within : (s : ℕ) → first ≤ s → s < first + count → s < strands p m chunk) where
  abbrev f : ℕ → List Effect
  f = strand_effects p m chunk

  -- what the strands before s have done
  abbrev pub done_before : ℕ → List Effect
  done_before s = each_from f first (s - first)

  target : (s c : ℕ) → first ≤ s → s ≤ first + count → In c (stored (done_before s)) ⊎ In c (lessened (done_before s)) → (t : ℕ) × (t < strands p m chunk) × (In c (stored (f t)) ⊎ In c (lessened (f t)))
  target s c a l (inl h) = let x = from_stored c f first (s - first) h in let y = x.2 in (x.0, within x.0 x.1 (omega (arith, y, a, l)), inl x.3)
  target s c a l (inr h) = let x = from_lessened c f first (s - first) h in let y = x.2 in (x.0, within x.0 x.1 (omega (arith, y, a, l)), inr x.3)

  quiet : (s : ℕ) → first ≤ s → s ≤ first + count → Agree m (lay m (done_before s)) (parameter p)
  quiet s a l = (sym (lay_length m (done_before s)), λ c r. sym (lay_quiet m (done_before s) c (λ h. let x = target s c a l h in apart.parameter_apart x.0 c x.1 x.2 r)))

  others : (s : ℕ) → first ≤ s → s < first + count → OfOthers p m chunk s (done_before s)
  others s a l = λ e i.
      let x = from_each e f first (s - first) i in let y = x.2 in
      let before : x.0 < s = omega (arith, y, a) in
      let apart_from : x.0 ≢ s = λ q. omega (arith, q, before) in
      (x.0, within x.0 x.1 (omega (arith, before, l)), apart_from, x.3)

  pub next_has : (v : View) (n s : ℕ) → AreChunks chunk n → n ≡ natural (count_value p m) → first ≤ s → s < first + count → v.cells ≡ lay m (done_before s) → HasStrand p v.cells chunk n s
  next_has v n s chunks is a l e =
      let q = quiet s a (omega (arith, l)) in
      subst (λ (z : Cells). HasStrand p z chunk n s) (sym e) (record {
        count_is = is ∙ ap natural (count_same p m (lay m (done_before s)) q);
        chunks = chunks;
        there = subst (λ (k : ℕ). s < k) (strands_same p chunk m (lay m (done_before s)) q) (within s a l);
      })

  -- the strand s comes next, and after it the effects `more`
  pub next_begins : (v : View) (s : ℕ) (more : List Effect) → WellFormed p m chunk → PartialsFit p m chunk → length m < 9223372036854775808 → first ≤ s → s < first + count
      → v.left ≡ f s ++ more → v.cells ≡ lay m (done_before s) → ((c : ℕ) → In c (reads p m chunk s) → In c v.may) → Begins v p chunk s more
  next_begins v s more well partials few a l left cells may =
      let there = within s a l in
      let m' : Cells = lay m (done_before s) in
      let same_events : strand_events p m' chunk s ≡ strand_events p m chunk s = strand_after p m chunk s apart there (done_before s) (others s a l) in
      let same : strand_effects p m' chunk s ≡ f s = effects_after p m chunk s apart there (done_before s) (others s a l) in
      let small : (c : ℕ) → c < length m → Small c = λ c h. omega (arith, h, few) in
      let at_start : Begins (record { left = v.left; cells = m'; may = v.may }) p chunk s more = record {
        left_is = left ∙ ap (λ (es : List Effect). es ++ more) (sym same);
        looks = record {
          may_load = λ c i. let j = subst (λ (es : List Event). In c (loads es)) same_events i in (may c j, small c (well.loaded s c there j));
          positive = λ z i. well.positive s z there (subst (λ (es : List Event). In z (divides es)) same_events i);
        };
        small = λ c i. small c (well.laid s c there (subst (λ (es : List Effect). In c (stored es) ⊎ In c (lessened es)) same i));
        values = takes_over p m m' chunk s well there same_events;
        partials = fits_over p m chunk first s f partials there a;
      } in
      subst (λ (z : Cells). Begins (record { left = v.left; cells = z; may = v.may }) p chunk s more) (sym cells) at_start

  -- the strand s is done
  pub next_led : (v v' : View) (s : ℕ) (more : List Effect) → first ≤ s → v.left ≡ f s ++ more → v.cells ≡ lay m (done_before s) → Led v v' → v'.left ≡ more → v'.cells ≡ lay m (done_before (s + 1))
  next_led v v' s more a left cells led after =
      let did : led.did ≡ f s = append_cancel_right led.did (f s) more (ap (λ (es : List Effect). led.did ++ es) (sym after) ∙ sym led.left_was ∙ left) in
      let n : s + 1 - first ≡ suc (s - first) = omega (arith, a) in
      let at : first + (s - first) ≡ s = omega (arith, a) in
      led.cells_are ∙ (λ i. lay (cells i) (did i)) ∙ sym (lay_append m (done_before s) (f s))
      ∙ ap (λ (es : List Effect). lay m es) (sym (ap (λ (k : ℕ). each_from f first k) n ∙ each_snoc f first (s - first) ∙ ap (λ (k : ℕ). done_before s ++ f k) at))

  -- what is left from the strand s on
  pub left_from : (s : ℕ) → s < first + count → each_from f s (first + count - s) ≡ f s ++ each_from f (s + 1) (first + count - (s + 1))
  left_from s l =
      ap (λ (k : ℕ). each_from f s k) (let e : first + count - s ≡ 1 + (first + count - (s + 1)) = omega (arith, l) in e) ∙ each_split f s 1 (first + count - (s + 1))
      ∙ ap (λ (es : List Effect). es ++ each_from f (s + 1) (first + count - (s + 1))) (append_nil (f s))
    where
      append_nil : (xs : List Effect) → xs ++ [] ≡ xs
      append_nil [] = refl
      append_nil (x ∷ xs) = ap (λ (l : List Effect). x ∷ l) (append_nil xs)

-- ---- of a unit

module _ (v₀ : View) (p : Phase) (chunk n u first count : ℕ) (b : UnitBegins v₀ p chunk n u) (e : (first ≡ first_strand p chunk u) × (count ≡ strand_count p v₀.cells chunk u)) (v : View) (s : ℕ) (a : first ≤ s) (l : s < first + count)
    (left : v.left ≡ each_from (strand_effects p v₀.cells chunk) s (first + count - s)) (cells : v.cells ≡ lay v₀.cells (each_from (strand_effects p v₀.cells chunk) first (s - first))) (may : v.may ≡ v₀.may) where
  all_there : (t : ℕ) → first ≤ t → t < first + count → t < strands p v₀.cells chunk
  all_there t x y = let f = e.0 in let c = e.1 in strand_there p v₀.cells chunk u t b.there (omega (arith, f, x)) (omega (arith, f, c, y))

  rest : List Effect
  rest = each_from (strand_effects p v₀.cells chunk) (s + 1) (first + count - (s + 1))

  left_is : v.left ≡ strand_effects p v₀.cells chunk s ++ rest
  unfolding rest
  left_is = left ∙ left_from p v₀.cells chunk first count b.apart all_there s l

  may_read : (c : ℕ) → In c (reads p v₀.cells chunk s) → In c v.may
  may_read c i = subst (λ (cs : List ℕ). In c cs) (sym may)
      (b.may_read c (to_each c (reads p v₀.cells chunk) (first_strand p chunk u) (strand_count p v₀.cells chunk u) s (let f = e.0 in omega (arith, f, a)) (let f = e.0 in let k = e.1 in omega (arith, f, k, l)) i))

  pub strand_has : HasStrand p v.cells chunk n s
  strand_has = next_has p v₀.cells chunk first count b.apart all_there v n s b.chunks b.count_is a l cells

  pub strand_begins : Begins v p chunk s (each_from (strand_effects p v₀.cells chunk) (s + 1) (first + count - (s + 1)))
  unfolding rest
  strand_begins = next_begins p v₀.cells chunk first count b.apart all_there v s rest b.well b.partials b.few_cells a l left_is cells may_read

  pub strand_led : (v' : View) → Led v v' → v'.left ≡ each_from (strand_effects p v₀.cells chunk) (s + 1) (first + count - (s + 1))
      → v'.cells ≡ lay v₀.cells (each_from (strand_effects p v₀.cells chunk) first (s + 1 - first))
  unfolding rest
  strand_led v' led after = next_led p v₀.cells chunk first count b.apart all_there v v' s rest a left_is cells led after
