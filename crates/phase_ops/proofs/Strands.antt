-- A strand does the same over what the earlier strands of its unit have left.
use Rattle.std.proofs.Common.{◌≡◌, ◌≢◌, ◌⊎◌, inl, inr, ℕ, zero, suc, ◌+◌, ◌*◌, ◌<◌, ◌≤◌, min, List, [], ◌∷◌, ◌++◌, map, length, set, sym, refl, ap, ◌∙◌, subst, slice_index, get_or-set_other, ℤ}
use Rattle.ws_base.specs.Numbers.{default_half}
use Rattle.phase_ops.specs.Partials.{total, merged}
use Rattle.phase_ops.specs.declared.effect.Effect.{Effect}
use Rattle.phase_ops.specs.declared.effect.Effect.TheVariants.{Store, Least, Fault}
use Rattle.phase_ops.specs.declared.phase.Source.TheVariants.{Cell}
use Rattle.phase_ops.specs.declared.phase.Act.{Act}
use Rattle.phase_ops.specs.declared.phase.Phase.{Phase}
use Rattle.phase_ops.specs.declared.phase.Phase.TheVariants.{Set, Loop, Part, Join}
use Rattle.phase_ops.specs.Phases.{Cells, cell_value, source, over, Event, Loads, Divides, Makes, Gives, value_events, each_from, loads, makes, natural, pieces, unit_size, partial_cells, joined, strand_events, summed, strand_effects, reads, parameter, strands, units, effects, unit_reads, first_strand, strand_count, lay}
use Rattle.phase_ops.specs.Free.{In, stored, lessened, Apart}
use Rattle.phase_ops.proofs.Laying.{stored_is, lessened_is}
use Rattle.phase_ops.proofs.Members.{from_each}
use Rattle.phase_ops.specs.Laws.{Agree, OfOthers}
use Rattle.phase_ops.proofs.Frame.{agree_left, agree_right, source_same, acts_same, value_same, over_length}

pub loads_append : (es fs : List Event) → loads (es ++ fs) ≡ loads es ++ loads fs
loads_append [] fs = refl
loads_append (Loads c ∷ es) fs = ap (λ (l : List ℕ). c ∷ l) (loads_append es fs)
loads_append (Divides z ∷ es) fs = loads_append es fs
loads_append (Makes e ∷ es) fs = loads_append es fs
loads_append (Gives z ∷ es) fs = loads_append es fs

values_same : (x : Act) (from n : ℕ) (xs ys : Cells) → Agree xs ys (loads (each_from (value_events x xs) from n)) → each_from (value_events x xs) from n ≡ each_from (value_events x ys) from n
values_same x from zero xs ys a = refl
values_same x from (suc n) xs ys a =
    let b = subst (λ (l : List ℕ). Agree xs ys l) (loads_append (value_events x xs from) (each_from (value_events x xs) (suc from) n)) a in λ i.
    value_same x from xs ys (agree_left xs ys (loads (value_events x xs from)) (loads (each_from (value_events x xs) (suc from) n)) b) i
    ++ values_same x (suc from) n xs ys (agree_right xs ys (loads (value_events x xs from)) (loads (each_from (value_events x xs) (suc from) n)) b) i

cells_same : (cs : List ℕ) (es : List Event) (xs ys : Cells) → Agree xs ys (loads (map Loads cs ++ es)) → map (cell_value xs) cs ≡ map (cell_value ys) cs
cells_same [] es xs ys a = refl
cells_same (c ∷ cs) es xs ys a = λ i. source_same xs ys (Cell c) (a.0, λ d h. a.1 d (first d h)) i ∷ cells_same cs es xs ys (a.0, λ d h. a.1 d (inr h)) i
  where
    first : (d : ℕ) → In d (c ∷ []) → In d (c ∷ loads (map Loads cs ++ es))
    first d (inl e) = inl e
    first d (inr h) = elim h [ ]

pub strand_same : (p : Phase) (chunk s : ℕ) (xs ys : Cells) → Agree xs ys (parameter p) → Agree xs ys (reads p xs chunk s) → strand_events p xs chunk s ≡ strand_events p ys chunk s
strand_same (Set l b acts) chunk s xs ys q a = acts_same 0 0 acts xs ys a
strand_same (Loop l b count acts) chunk s xs ys q a = acts_same s 0 acts xs ys a
strand_same (Part l count act k t f) chunk s xs ys q a =
    values_same act (s * chunk) (unit_size (natural (source xs count)) chunk s) xs ys a
    ∙ (λ i. each_from (value_events act ys) (s * chunk) (unit_size (natural (source_same xs ys count q i)) chunk s))
strand_same (Join l count k t f slot) chunk s xs ys q a =
    let cs : ℕ → List ℕ = λ n. partial_cells f (pieces n chunk) in
    let n : ℕ = natural (source xs count) in
    ap (λ (zs : List ℤ). map Loads (cs n) ++ Makes (joined slot (total default_half k (merged default_half k zs))) ∷ []) (cells_same (cs n) (Makes (joined slot (total default_half k (merged default_half k (map (cell_value xs) (cs n))))) ∷ []) xs ys a)
    ∙ (λ i. map Loads (cs (natural (source_same xs ys count q i))) ++ Makes (joined slot (total default_half k (merged default_half k (map (cell_value ys) (cs (natural (source_same xs ys count q i))))))) ∷ [])

effects_of : Phase → ℕ → List Event → List Effect
effects_of (Part l count act k t f) s es = summed k (f + s) es
effects_of p s es = makes es

effects_are : (p : Phase) (m : Cells) (chunk s : ℕ) → strand_effects p m chunk s ≡ effects_of p s (strand_events p m chunk s)
unfolding effects_of
effects_are (Set l b acts) m chunk s = refl
effects_are (Loop l b count acts) m chunk s = refl
effects_are (Part l count act k t f) m chunk s = refl
effects_are (Join l count k t f slot) m chunk s = refl

-- the frame law
pub strand_frame : (p : Phase) (chunk s : ℕ) (xs ys : Cells) → Agree xs ys (parameter p) → Agree xs ys (reads p xs chunk s) → strand_effects p xs chunk s ≡ strand_effects p ys chunk s
strand_frame p chunk s xs ys q a = effects_are p xs chunk s ∙ ap (effects_of p s) (strand_same p chunk s xs ys q a) ∙ sym (effects_are p ys chunk s)

pub reads_frame : (p : Phase) (chunk s : ℕ) (xs ys : Cells) → Agree xs ys (parameter p) → Agree xs ys (reads p xs chunk s) → reads p xs chunk s ≡ reads p ys chunk s
reads_frame p chunk s xs ys q a = ap loads (strand_same p chunk s xs ys q a)

pub units_frame : (p : Phase) (chunk : ℕ) (xs ys : Cells) → Agree xs ys (parameter p) → units p xs chunk ≡ units p ys chunk
units_frame (Set l b acts) chunk xs ys q = refl
units_frame (Loop l b count acts) chunk xs ys q = ap (λ (z : ℤ). pieces (natural z) chunk) (source_same xs ys count q)
units_frame (Part l count act k t f) chunk xs ys q = ap (λ (z : ℤ). pieces (natural z) chunk) (source_same xs ys count q)
units_frame (Join l count k t f slot) chunk xs ys q = refl

-- ---- what effects leave alone

pub lay_length : (m : Cells) (es : List Effect) → length (lay m es) ≡ length m
lay_length m [] = refl
lay_length m (e ∷ es) = lay_length (over e m) es ∙ over_length e m

pub lay_quiet : (m : Cells) (es : List Effect) (c : ℕ) → (In c (stored es) ⊎ In c (lessened es) → ⊥) → slice_index (lay m es) c ≡ slice_index m c
lay_quiet m [] c q = refl
lay_quiet m (Store d v ∷ es) c q = lay_quiet (set m d v) es c (λ h. q (wider h)) ∙ get_or-set_other m d c v 0 (λ e. q (inl (inl e)))
  where
    wider : In c (stored es) ⊎ In c (lessened es) → In c (d ∷ stored es) ⊎ In c (lessened es)
    wider (inl h) = inl (inr h)
    wider (inr h) = inr h
lay_quiet m (Least d v ∷ es) c q = lay_quiet (over (Least d v) m) es c (λ h. q (wider h)) ∙ get_or-set_other m d c (min (slice_index m d) v) 0 (λ e. q (inr (inl e)))
  where
    wider : In c (stored es) ⊎ In c (lessened es) → In c (stored es) ⊎ In c (d ∷ lessened es)
    wider (inl h) = inl h
    wider (inr h) = inr (inr h)
lay_quiet m (Fault k ∷ es) c q = lay_quiet m es c q

stored_append : (es fs : List Effect) → stored (es ++ fs) ≡ stored es ++ stored fs
stored_append [] fs = refl
stored_append (Store c v ∷ es) fs = ap (λ (l : List ℕ). c ∷ l) (stored_append es fs)
stored_append (Least c v ∷ es) fs = stored_append es fs
stored_append (Fault k ∷ es) fs = stored_append es fs

lessened_append : (es fs : List Effect) → lessened (es ++ fs) ≡ lessened es ++ lessened fs
lessened_append [] fs = refl
lessened_append (Store c v ∷ es) fs = lessened_append es fs
lessened_append (Least c v ∷ es) fs = ap (λ (l : List ℕ). c ∷ l) (lessened_append es fs)
lessened_append (Fault k ∷ es) fs = lessened_append es fs

stored_each : (f : ℕ → List Effect) (from n : ℕ) → stored (each_from f from n) ≡ each_from (λ s. stored (f s)) from n
stored_each f from zero = refl
stored_each f from (suc n) = stored_append (f from) (each_from f (suc from) n) ∙ ap (λ (l : List ℕ). stored (f from) ++ l) (stored_each f (suc from) n)

lessened_each : (f : ℕ → List Effect) (from n : ℕ) → lessened (each_from f from n) ≡ each_from (λ s. lessened (f s)) from n
lessened_each f from zero = refl
lessened_each f from (suc n) = lessened_append (f from) (each_from f (suc from) n) ∙ ap (λ (l : List ℕ). lessened (f from) ++ l) (lessened_each f (suc from) n)

pub from_stored : (c : ℕ) (f : ℕ → List Effect) (from n : ℕ) → In c (stored (each_from f from n)) → (s : ℕ) × (from ≤ s) × (s < from + n) × In c (stored (f s))
from_stored c f from n h = from_each c (λ s. stored (f s)) from n (subst (λ (l : List ℕ). In c l) (stored_each f from n) h)

pub from_lessened : (c : ℕ) (f : ℕ → List Effect) (from n : ℕ) → In c (lessened (each_from f from n)) → (s : ℕ) × (from ≤ s) × (s < from + n) × In c (lessened (f s))
from_lessened c f from n h = from_each c (λ s. lessened (f s)) from n (subst (λ (l : List ℕ). In c l) (lessened_each f from n) h)

-- ---- the strands of a phase

store_of : (c : ℕ) (es : List Effect) → In c (stored es) → (v : ℕ) × In (Store c v) es
store_of c [] h = elim h [ ]
store_of c (Store d v ∷ es) (inl e) = (v, inl (ap (λ (z : ℕ). let y : Effect = Store z v in y) e))
store_of c (Store d v ∷ es) (inr h) = let x = store_of c es h in (x.0, inr x.1)
store_of c (Least d v ∷ es) h = let x = store_of c es h in (x.0, inr x.1)
store_of c (Fault k ∷ es) h = let x = store_of c es h in (x.0, inr x.1)

least_of : (c : ℕ) (es : List Effect) → In c (lessened es) → (v : ℕ) × In (Least c v) es
least_of c [] h = elim h [ ]
least_of c (Least d v ∷ es) (inl e) = (v, inl (ap (λ (z : ℕ). let y : Effect = Least z v in y) e))
least_of c (Least d v ∷ es) (inr h) = let x = least_of c es h in (x.0, inr x.1)
least_of c (Store d v ∷ es) h = let x = least_of c es h in (x.0, inr x.1)
least_of c (Fault k ∷ es) h = let x = least_of c es h in (x.0, inr x.1)

module _ (p : Phase) (m : Cells) (chunk s : ℕ) (free : Apart p m chunk) (l : s < strands p m chunk) (es : List Effect) (others : OfOthers p m chunk s es) where
  target : (c : ℕ) → In c (stored es) ⊎ In c (lessened es) → (t : ℕ) × (t < strands p m chunk) × (t ≢ s) × (In c (stored (strand_effects p m chunk t)) ⊎ In c (lessened (strand_effects p m chunk t)))
  target c (inl h) = let x = store_of c es h in let o = others (Store c x.0) x.1 in (o.0, o.1, o.2, inl (stored_is c x.0 (strand_effects p m chunk o.0) o.3))
  target c (inr h) = let x = least_of c es h in let o = others (Least c x.0) x.1 in (o.0, o.1, o.2, inr (lessened_is c x.0 (strand_effects p m chunk o.0) o.3))

  quiet_reads : Agree m (lay m es) (reads p m chunk s)
  quiet_reads = (sym (lay_length m es), λ c r. sym (lay_quiet m es c (λ h. let x = target c h in no c r x.0 x.1 x.2 x.3)))
    where
      no : (c : ℕ) → In c (reads p m chunk s) → (t : ℕ) → t < strands p m chunk → t ≢ s → In c (stored (strand_effects p m chunk t)) ⊎ In c (lessened (strand_effects p m chunk t)) → ⊥
      no c r t b n (inl h) = n (free.loads_apart t s c b l h r)
      no c r t b n (inr h) = free.leasts t s c b l h (inr r)

  quiet_parameter : Agree m (lay m es) (parameter p)
  quiet_parameter = (sym (lay_length m es), λ c r. sym (lay_quiet m es c (λ h. let x = target c h in free.parameter_apart x.0 c x.1 x.3 r)))

  pub strand_after : strand_events p (lay m es) chunk s ≡ strand_events p m chunk s
  strand_after = sym (strand_same p chunk s m (lay m es) quiet_parameter quiet_reads)

  pub effects_after : strand_effects p (lay m es) chunk s ≡ strand_effects p m chunk s
  effects_after = sym (strand_frame p chunk s m (lay m es) quiet_parameter quiet_reads)

-- ---- units

count_frame : (p : Phase) (chunk u : ℕ) (xs ys : Cells) → Agree xs ys (parameter p) → strand_count p xs chunk u ≡ strand_count p ys chunk u
count_frame (Set l b acts) chunk u xs ys q = refl
count_frame (Loop l b count acts) chunk u xs ys q = ap (λ (z : ℤ). unit_size (natural z) chunk u) (source_same xs ys count q)
count_frame (Part l count act k t f) chunk u xs ys q = refl
count_frame (Join l count k t f slot) chunk u xs ys q = refl

strands_frame : (p : Phase) (chunk from n : ℕ) (xs ys : Cells) → Agree xs ys (parameter p) → Agree xs ys (each_from (reads p xs chunk) from n)
    → (each_from (strand_effects p xs chunk) from n ≡ each_from (strand_effects p ys chunk) from n) × (each_from (reads p xs chunk) from n ≡ each_from (reads p ys chunk) from n)
strands_frame p chunk from zero xs ys q a = (refl, refl)
strands_frame p chunk from (suc n) xs ys q a =
    let here = agree_left xs ys (reads p xs chunk from) (each_from (reads p xs chunk) (suc from) n) a in
    let more = strands_frame p chunk (suc from) n xs ys q (agree_right xs ys (reads p xs chunk from) (each_from (reads p xs chunk) (suc from) n) a) in (
      (λ i. strand_frame p chunk from xs ys q here i ++ more.0 i),
      (λ i. reads_frame p chunk from xs ys q here i ++ more.1 i),
    )

pub unit_frame : (p : Phase) (chunk u : ℕ) (xs ys : Cells) → Agree xs ys (parameter p ++ unit_reads p xs chunk u)
    → (units p xs chunk ≡ units p ys chunk) × (effects p xs chunk u ≡ effects p ys chunk u) × (unit_reads p xs chunk u ≡ unit_reads p ys chunk u)
unit_frame p chunk u xs ys a =
    let q = agree_left xs ys (parameter p) (unit_reads p xs chunk u) a in
    let f = strands_frame p chunk (first_strand p chunk u) (strand_count p xs chunk u) xs ys q (agree_right xs ys (parameter p) (unit_reads p xs chunk u) a) in
    let c = count_frame p chunk u xs ys q in (
      units_frame p chunk xs ys q,
      f.0 ∙ ap (λ (n : ℕ). each_from (strand_effects p ys chunk) (first_strand p chunk u) n) c,
      f.1 ∙ ap (λ (n : ℕ). each_from (reads p ys chunk) (first_strand p chunk u) n) c,
    )
