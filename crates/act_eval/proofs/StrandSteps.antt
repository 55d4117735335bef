-- A strand of each kind of phase.
use Rattle.std.proofs.Common.{◌≡◌, inl, inr, ℕ, zero, suc, ◌+◌, ◌*◌, ◌<◌, ◌≤◌, List, [], ◌∷◌, ◌++◌, map, length, slice_index_or, sym, refl, ap, ◌∙◌, subst, arith, ℤ}
use Rattle.ws_base.specs.declared.op.CallWord.{CallWord}
use Rattle.phase_ops.specs.declared.effect.Effect.{Effect}
use Rattle.phase_ops.specs.declared.phase.Source.{Source}
use Rattle.phase_ops.specs.declared.phase.Label.{Label}
use Rattle.phase_ops.specs.declared.phase.Act.{Act}
use Rattle.phase_ops.specs.declared.phase.Phase.{Phase}
use Rattle.phase_ops.specs.declared.phase.Phase.TheVariants.{Set, Loop, Part, Join}
use Rattle.phase_ops.specs.Phases.{Event, Loads, Divides, Makes, Gives, acts_events, value_events, each_from, loads, makes, divides, natural, source, pieces, unit_size, partial_cells}
use Rattle.phase_ops.specs.Free.{In, acts_of}
use Rattle.phase_ops.proofs.Members.{in_left, in_right, to_each}
use Rattle.phase_ops.proofs.Keys.{makes_loads}
use Rattle.phase_ops.proofs.Strands.{loads_append}
use Rattle.act_eval.specs.Sites.{View, Comes, MayLook}
use Rattle.act_eval.specs.Strands.{Begins, HasRoom, HasStrand, PartBegins, JoinBegins}
use Rattle.act_eval.proofs.Fitting.{part_fits}

-- ---- what a part of some events may look at

divides_append : (es fs : List Event) → divides (es ++ fs) ≡ divides es ++ divides fs
divides_append [] fs = refl
divides_append (Loads c ∷ es) fs = divides_append es fs
divides_append (Divides z ∷ es) fs = ap (λ (l : List ℤ). z ∷ l) (divides_append es fs)
divides_append (Makes e ∷ es) fs = divides_append es fs
divides_append (Gives z ∷ es) fs = divides_append es fs

look_first : (may : List ℕ) (es fs : List Event) → MayLook may (es ++ fs) → MayLook may es
look_first may es fs h = record {
  may_load = λ c i. h.may_load c (subst (λ (l : List ℕ). In c l) (sym (loads_append es fs)) (in_left c (loads es) (loads fs) i));
  positive = λ z i. h.positive z (subst (λ (l : List ℤ). In z l) (sym (divides_append es fs)) (in_left z (divides es) (divides fs) i));
}

look_second : (may : List ℕ) (es fs : List Event) → MayLook may (es ++ fs) → MayLook may fs
look_second may es fs h = record {
  may_load = λ c i. h.may_load c (subst (λ (l : List ℕ). In c l) (sym (loads_append es fs)) (in_right c (loads es) (loads fs) i));
  positive = λ z i. h.positive z (subst (λ (l : List ℤ). In z l) (sym (divides_append es fs)) (in_right z (divides es) (divides fs) i));
}

look_at : (may : List ℕ) (f : ℕ → List Event) (from n i : ℕ) → i < n → MayLook may (each_from f from n) → MayLook may (f (from + i))
look_at may f from zero i l h = absurd (omega (arith, l))
look_at may f from (suc n) zero l h = subst (λ (k : ℕ). MayLook may (f k)) (let e : from ≡ from + 0 = omega arith in e) (look_first may (f from) (each_from f (suc from) n) h)
look_at may f from (suc n) (suc i) l h =
    subst (λ (k : ℕ). MayLook may (f k)) (let e : suc from + i ≡ from + suc i = omega arith in e) (look_at may f (suc from) n i (omega (arith, l)) (look_second may (f from) (each_from f (suc from) n) h))

loads_first : (c : ℕ) (cs : List ℕ) (es : List Event) → In c cs → In c (loads (map Loads cs ++ es))
loads_first c [] es h = elim h [ ]
loads_first c (d ∷ cs) es (inl e) = inl e
loads_first c (d ∷ cs) es (inr h) = inr (loads_first c cs es h)

-- ---- acts

in_at : {A : Type 0} (xs : List A) (at : ℕ) (d : A) → at < length xs → In (slice_index_or xs at d) xs
in_at [] at d h = absurd (omega (arith, h))
in_at (x ∷ xs) zero d h = inl refl
in_at (x ∷ xs) (suc at) d h = inr (in_at xs at d (omega (arith, h)))

pub room_at : (p : Phase) (registers : ℕ) (acts : List Act) → acts_of p ≡ acts → HasRoom p registers → (at : ℕ) (d : Act) → at < length acts
    → (length (slice_index_or acts at d).ops ≤ registers) × (length (slice_index_or acts at d).ops ≤ 1048576)
room_at p registers acts e h at d l = h.few_ops (slice_index_or acts at d) (subst (λ (as' : List Act). In (slice_index_or acts at d) as') (sym e) (in_at acts at d l))

-- ---- the strand of each kind

pub set_comes : (v : View) (p : Phase) (chunk s : ℕ) (more : List Effect) (l : ℕ) (b : Label) (acts : List Act) → p ≡ Set l b acts → Begins v p chunk s more → Comes v (acts_events 0 0 acts v.cells) more
set_comes v p chunk s more l b acts e h =
    let q : Begins v (Set l b acts) chunk s more = subst (λ (x : Phase). Begins v x chunk s more) e h in
    record { left_is = q.left_is; may_load = q.looks.may_load; small = q.small; positive = q.looks.positive }

pub loop_comes : (v : View) (p : Phase) (chunk s : ℕ) (more : List Effect) (l : ℕ) (b : Label) (count : Source) (acts : List Act) → p ≡ Loop l b count acts → Begins v p chunk s more → Comes v (acts_events s 0 acts v.cells) more
loop_comes v p chunk s more l b count acts e h =
    let q : Begins v (Loop l b count acts) chunk s more = subst (λ (x : Phase). Begins v x chunk s more) e h in
    record { left_is = q.left_is; may_load = q.looks.may_load; small = q.small; positive = q.looks.positive }

pub part_begins : (v : View) (p : Phase) (chunk n s : ℕ) (more : List Effect) (l : ℕ) (count : Source) (act : Act) (k : CallWord) (t f : ℕ) → p ≡ Part l count act k t f → HasStrand p v.cells chunk n s → Begins v p chunk s more
    → PartBegins v k act (s * chunk) (unit_size n chunk s) (f + s) more
part_begins v p chunk n s more l count act k t f e there h =
    let q : Begins v (Part l count act k t f) chunk s more = subst (λ (x : Phase). Begins v x chunk s more) e h in
    let r : HasStrand (Part l count act k t f) v.cells chunk n s = subst (λ (x : Phase). HasStrand x v.cells chunk n s) e there in
    let size : ℕ = unit_size (natural (source v.cells count)) chunk s in
    let few : size ≤ 65536 = (let a = r.chunks.few in let b = r.count_is in omega (arith, a, b)) in
    subst (λ (x : ℕ). PartBegins v k act (s * chunk) (unit_size x chunk s) (f + s) more) (sym r.count_is) (record {
      left_is = q.left_is;
      looks = λ i b. look_at v.may (value_events act v.cells) (s * chunk) size i b q.looks;
      fits = part_fits k act v.cells (s * chunk) size few q.values.1;
    })

pub join_begins : (v : View) (p : Phase) (chunk n s : ℕ) (more : List Effect) (l : ℕ) (count : Source) (k : CallWord) (t f slot : ℕ) → p ≡ Join l count k t f slot → HasStrand p v.cells chunk n s → Begins v p chunk s more
    → JoinBegins v k f (pieces n chunk) slot more
join_begins v p chunk n s more l count k t f slot e there h =
    let q : Begins v (Join l count k t f slot) chunk s more = subst (λ (x : Phase). Begins v x chunk s more) e h in
    let r : HasStrand (Join l count k t f slot) v.cells chunk n s = subst (λ (x : Phase). HasStrand x v.cells chunk n s) e there in
    let units : ℕ = pieces (natural (source v.cells count)) chunk in
    subst (λ (x : ℕ). JoinBegins v k f (pieces x chunk) slot more) (sym r.count_is) (record {
      left_is = q.left_is ∙ ap (λ (l : List Effect). l ++ more) (makes_loads (partial_cells f units) _);
      looks = λ i b. (q.looks.may_load (f + i) (loads_first (f + i) (partial_cells f units) _ (to_each (f + i) (λ c. c ∷ []) f units (f + i) (omega arith) (omega (arith, b)) (inl refl)))).0;
      fits = q.partials;
    })
