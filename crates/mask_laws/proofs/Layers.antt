-- What acts do that share their first ops.
use Rattle.std.proofs.Common.{◌≡◌, ◌⊎◌, inl, inr, ℕ, zero, suc, ◌+◌, ◌<◌, ◌≤◌, Bool, true, false, List, [], ◌∷◌, ◌++◌, length, length-append, sym, refl, ap, ◌∙◌, subst, arith, Some, None, Ok, Err, ℤ, pos}
use Rattle.std.specs.Prelude.{if◌then◌else◌, nat_lt, slice_index_or}
use Rattle.std.proofs.lemmas.Bool.Decides.{nat_tests}
use Rattle.std.proofs.lemmas.List.{append_assoc, append-nil}
use Rattle.phase_ops.specs.declared.effect.Effect.{Effect}
use Rattle.phase_ops.specs.declared.effect.Effect.TheVariants.{Fault}
use Rattle.phase_ops.specs.declared.effect.Turn.{Turn}
use Rattle.phase_ops.specs.declared.effect.Turn.TheVariants.{Next, Shut, Fails, Does}
use Rattle.phase_ops.specs.declared.phase.Micro.{Micro}
use Rattle.phase_ops.specs.declared.phase.Act.{Act}
use Rattle.phase_ops.specs.Phases.{Cells, turn, key_of, Event, ops_events, acts_events, makes}
use Rattle.phase_ops.specs.Faults.{lines}
use Rattle.phase_ops.specs.Free.{In, NameEarlier}
use Rattle.loop_laws.specs.Moves.{Move, Ended, moved}
use Rattle.loop_laws.specs.Loops.{does, planned, Fitting}
use Rattle.segment_laws.specs.Segments.{Ran, Through, Out, Broke, stepped, ran, AllStoreNothing, onward}
use Rattle.segment_laws.specs.Compiled.{Compiled, all_ops, RanSo}
use Rattle.segment_laws.proofs.Segments.{ran_on, ran_join}
use Rattle.segment_laws.proofs.Acts.{onward_makes}
use Rattle.segment_laws.proofs.Compiled.{runs}
use Rattle.mask_laws.specs.Layers.{Layer, layered_from, layered, ops_of, layer_from, layer_of, line_from, spot_at, no_rest, layered_end}
use Rattle.segment_laws.specs.Acts.{act}
use Rattle.phase_ops.specs.declared.phase.Source.{Source}
use Rattle.mask_laws.proofs.Looks.{quiet_join, quiet_left, quiet_right, layered_loads, layered_divides}

-- ---- numbers of ops

module _ (i : ℕ) (m : Cells) where
  -- a run through has a register for each op, and a fault is that of one of the ops
  abbrev Numbered : ℕ → ℕ → Ran → Type 0
  Numbered from n (Through regs) = length regs ≡ from + n
  Numbered from n Out = Unit {0}
  Numbered from n (Broke o x) = (from ≤ o) × (o < from + n)

  numbered : (regs : List ℤ) (ops : List Micro) → Numbered (length regs) (length ops) (ran i m regs ops)
  numbered regs [] = let e : length regs ≡ length regs + 0 = omega arith in e
  numbered regs (op ∷ ops) = by (λ z. numbered (regs ++ z ∷ []) ops) (turn i m regs op)
    where
      one_more : (z : ℤ) (r : Ran) → Numbered (length (regs ++ z ∷ [])) (length ops) r → Numbered (length regs) (suc (length ops)) r
      one_more z (Through more) h = let e = length-append regs (z ∷ []) in omega (arith, h, e)
      one_more z Out h = tt
      one_more z (Broke o x) h = let e = length-append regs (z ∷ []) in let a = h.0 in let b = h.1 in (omega (arith, a, e), omega (arith, b, e))

      by : ((z : ℤ) → Numbered (length (regs ++ z ∷ [])) (length ops) (ran i m (regs ++ z ∷ []) ops)) → (t : Turn) → Numbered (length regs) (suc (length ops)) (stepped (length regs) (λ z. ran i m (regs ++ z ∷ []) ops) t)
      by rec (Next z) = one_more z (ran i m (regs ++ z ∷ []) ops) (rec z)
      by rec Shut = tt
      by rec (Fails x) = (omega arith, omega arith)
      by rec (Does e) = one_more (pos 0) (ran i m (regs ++ pos 0 ∷ []) ops) (rec (pos 0))

  -- ---- what they do

  module _ (line : ℕ) (rest tail : List Micro) (quiet_rest : AllStoreNothing rest) where
    -- the acts behind the act k
    abbrev next_of : ℕ → List Micro → List Layer → Cells → List ℤ → List Event
    next_of k done xs y regs = acts_events i (suc k) (layered_from done xs line (rest ++ tail)) y

    -- what a gate lets go stays out
    shut : (k : ℕ) (done : List Micro) (xs : List Layer) → AllStoreNothing done → AllStoreNothing (ops_of xs) → ran i m [] done ≡ Out → makes (acts_events i k (layered_from done xs line (rest ++ tail)) m) ≡ []
    shut k done [] q q' e = onward_makes (spot_at k i) done (rest ++ tail) m [] no_rest q ∙ ap (λ (r : Ran). makes (onward (spot_at k i) (rest ++ tail) m no_rest r)) e
    shut k done (x ∷ xs) q q' e =
        onward_makes (spot_at k i) done x.ops m [] (next_of k (done ++ x.ops) xs) q
        ∙ ap (λ (r : Ran). makes (onward (spot_at k i) x.ops m (next_of k (done ++ x.ops) xs) r)) e
        ∙ shut (suc k) (done ++ x.ops) xs (quiet_join done x.ops q (quiet_left x.ops (ops_of xs) q')) (quiet_right x.ops (ops_of xs) q') (ran_join i m done x.ops [] ∙ ap (ran_on i m x.ops) e)

    abbrev pub end_from : ℕ → ℕ → List Layer → Ran → List Effect
    end_from k before xs (Through regs) = makes (ops_events (spot_at (k + length xs) i) tail m regs no_rest)
    end_from k before xs Out = []
    end_from k before xs (Broke o n) = Fault (key_of (k + layer_from before xs o) o (suc i) n) ∷ []

    -- a later layer's end, as that of one layer more
    later_end : (k before : ℕ) (x : Layer) (xs : List Layer) (size : ℕ) (r : Ran) → Numbered (before + length x.ops) size r → end_from (suc k) (before + length x.ops) xs r ≡ end_from k before (x ∷ xs) r
    later_end k before x xs size (Through regs) h = ap (λ (a : ℕ). makes (ops_events (spot_at a i) tail m regs no_rest)) (let e : suc k + length xs ≡ k + suc (length xs) = omega arith in e)
    later_end k before x xs size Out h = refl
    later_end k before x xs size (Broke o n) h =
        ap (λ (a : ℕ). let es : List Effect = Fault (key_of a o (suc i) n) ∷ [] in es)
        ((let e : suc k + layer_from (before + length x.ops) xs o ≡ k + suc (layer_from (before + length x.ops) xs o) = omega arith in e)
        ∙ ap (λ (b : Bool). k + (if b then 0 else suc (layer_from (before + length x.ops) xs o))) (let l = h.0 in let e : false ≡ nat_lt o (before + length x.ops) = grind (arith, nat_tests) in e))

    pub goes : (k : ℕ) (done : List Micro) (regs : List ℤ) (xs : List Layer) → AllStoreNothing done → AllStoreNothing (ops_of xs) → ran i m [] done ≡ Through regs
        → makes (acts_events i k (layered_from done xs line (rest ++ tail)) m) ≡ end_from k (length regs) xs (ran i m regs (ops_of xs ++ rest))
    goes k done regs [] q q' e =
        onward_makes (spot_at k i) done (rest ++ tail) m [] no_rest q
        ∙ ap (λ (r : Ran). makes (onward (spot_at k i) (rest ++ tail) m no_rest r)) e
        ∙ onward_makes (spot_at k i) rest tail m regs no_rest quiet_rest
        ∙ by (ran i m regs rest)
      where
        same : k ≡ k + 0
        same = omega arith

        by : (r : Ran) → makes (onward (spot_at k i) tail m no_rest r) ≡ end_from k (length regs) [] r
        by (Through more) = ap (λ (a : ℕ). makes (ops_events (spot_at a i) tail m more no_rest)) same
        by Out = refl
        by (Broke o n) = ap (λ (a : ℕ). let es : List Effect = Fault (key_of a o (suc i) n) ∷ [] in es) same
    goes k done regs (x ∷ xs) q q' e =
        onward_makes (spot_at k i) done x.ops m [] (next_of k (done ++ x.ops) xs) q
        ∙ ap (λ (r : Ran). makes (onward (spot_at k i) x.ops m (next_of k (done ++ x.ops) xs) r)) e
        ∙ ap (λ (ops : List Micro). makes (ops_events (spot_at k i) ops m regs (next_of k (done ++ x.ops) xs))) (sym (append-nil x.ops))
        ∙ onward_makes (spot_at k i) x.ops [] m regs (next_of k (done ++ x.ops) xs) qx
        ∙ by (λ more h. goes (suc k) (done ++ x.ops) more xs (quiet_join done x.ops q (quiet_left x.ops (ops_of xs) q')) (quiet_right x.ops (ops_of xs) q') h) (ran i m regs x.ops) refl (numbered regs x.ops)
        ∙ ap (end_from k (length regs) (x ∷ xs)) (sym (ran_join i m x.ops (ops_of xs ++ rest) regs) ∙ ap (ran i m regs) (sym (append_assoc x.ops (ops_of xs) rest)))
      where
        qx : AllStoreNothing x.ops
        qx = quiet_left x.ops (ops_of xs) q'

        qd : AllStoreNothing (done ++ x.ops)
        qd = quiet_join done x.ops q qx

        after_x : ran i m [] (done ++ x.ops) ≡ ran i m regs x.ops
        after_x = ran_join i m done x.ops [] ∙ ap (ran_on i m x.ops) e

        by : ((more : List ℤ) → ran i m [] (done ++ x.ops) ≡ Through more → makes (acts_events i (suc k) (layered_from (done ++ x.ops) xs line (rest ++ tail)) m) ≡ end_from (suc k) (length more) xs (ran i m more (ops_of xs ++ rest)))
            → (r : Ran) → ran i m regs x.ops ≡ r → Numbered (length regs) (length x.ops) r → makes (onward (spot_at k i) [] m (next_of k (done ++ x.ops) xs) r) ≡ end_from k (length regs) (x ∷ xs) (ran_on i m (ops_of xs ++ rest) r)
        by rec (Through more) h n =
            rec more (after_x ∙ h)
            ∙ ap (λ (b : ℕ). end_from (suc k) b xs (ran i m more (ops_of xs ++ rest))) n
            ∙ later_end k (length regs) x xs (length (ops_of xs ++ rest)) (ran i m more (ops_of xs ++ rest)) (subst (λ (b : ℕ). Numbered b (length (ops_of xs ++ rest)) (ran i m more (ops_of xs ++ rest))) n (numbered more (ops_of xs ++ rest)))
        by rec Out h n = shut (suc k) (done ++ x.ops) xs qd (quiet_right x.ops (ops_of xs) q') (after_x ∙ h)
        by rec (Broke o f) h n = ap (λ (a : ℕ). let es : List Effect = Fault (key_of a o (suc i) f) ∷ [] in es)
            ((let s : k ≡ k + 0 = omega arith in s) ∙ ap (λ (b : Bool). k + (if b then 0 else suc (layer_from (length regs + length x.ops) xs o))) (let l = n.1 in let t : true ≡ nat_lt o (length regs + length x.ops) = grind (arith, nat_tests) in t))

    -- ---- from the first act on

    pub layered_does : (layers : List Layer) → AllStoreNothing (ops_of layers) → does (layered layers line (rest ++ tail)) m i ≡ layered_end layers tail m i (ran i m [] (ops_of layers ++ rest))
    layered_does layers q = goes 0 [] [] layers tt q refl ∙ by (ran i m [] (ops_of layers ++ rest))
      where
        by : (r : Ran) → end_from 0 0 layers r ≡ layered_end layers tail m i r
        by (Through regs) = ap (λ (a : ℕ). makes (ops_events (spot_at a i) tail m regs no_rest)) (let e : 0 + length layers ≡ length layers = omega arith in e)
        by Out = refl
        by (Broke o n) = ap (λ (a : ℕ). let es : List Effect = Fault (key_of a o (suc i) n) ∷ [] in es) (let e : 0 + layer_of layers o ≡ layer_of layers o = omega arith in e)

-- ---- a loop that follows its plan

module _ (V : Type 0) (stands : ℕ → ℕ → List ℤ → List V → Type 0) (m : Cells) (number : ℕ → ℕ) (layers : List Layer) (line : ℕ) (rest tail : List Micro) (xs : List (Move V)) (parts : List (List Micro)) (start : ℕ → List V) (last : ℕ → List V → List Effect) where
  -- the ops of all moves are those of the layers and the rest
  pub layered_plan : (i : ℕ) → all_ops parts ≡ ops_of layers ++ rest → AllStoreNothing (ops_of layers) → AllStoreNothing rest → Compiled stands m number 0 xs parts → stands 0 i [] (start i)
      → ((regs : List ℤ) (s : List V) → stands (length xs) i regs s → makes (ops_events (spot_at (length layers) i) tail m regs no_rest) ≡ last i s)
      → does (layered layers line (rest ++ tail)) m i ≡ planned (record { moves = xs; act = λ o. layer_of layers (number o); op = number; start = start; first = λ j. []; last = last }) i (moved xs (start i))
  layered_plan i same q qr w h at_end = layered_does i m line rest tail qr layers q ∙ by (moved xs (start i)) (ran i m [] (ops_of layers ++ rest)) (subst (λ (ops : List Micro). RanSo stands number 0 (0 + length xs) i (moved xs (start i)) (ran i m [] ops)) same (runs V stands m number 0 i xs parts [] (start i) w h))
    where
      by : (x : Ended V) (r : Ran) → RanSo stands number 0 (0 + length xs) i x r → layered_end layers tail m i r ≡ planned (record { moves = xs; act = λ o. layer_of layers (number o); op = number; start = start; first = λ j. []; last = last }) i x
      by (Ok (Some s)) r g = ap (layered_end layers tail m i) g.1 ∙ at_end g.0 s (subst (λ (z : ℕ). stands z i g.0 s) (let e : 0 + length xs ≡ length xs = omega arith in e) g.2)
      by (Ok None) r g = ap (layered_end layers tail m i) g
      by (Err e) r g = ap (layered_end layers tail m i) g ∙ ap (λ (z : ℕ). let es : List Effect = Fault (key_of (layer_of layers (number z)) (number z) (suc i) e.1) ∷ [] in es) (let q : 0 + e.0 ≡ e.0 = omega arith in q)

-- a later op stands in no earlier act
layer_up : (before : ℕ) (xs : List Layer) (a b : ℕ) → a ≤ b → layer_from before xs a ≤ layer_from before xs b
layer_up before [] a b h = omega arith
layer_up before (x ∷ xs) a b h = by (nat_lt a (before + length x.ops)) (nat_lt b (before + length x.ops)) refl refl (layer_up (before + length x.ops) xs a b h)
  where
    by : (s t : Bool) → nat_lt a (before + length x.ops) ≡ s → nat_lt b (before + length x.ops) ≡ t → layer_from (before + length x.ops) xs a ≤ layer_from (before + length x.ops) xs b
        → (if s then 0 else suc (layer_from (before + length x.ops) xs a)) ≤ (if t then 0 else suc (layer_from (before + length x.ops) xs b))
    by true t e g r = omega arith
    by false true e g r = absurd (let y : b < before + length x.ops = grind (arith, nat_tests) in let z : before + length x.ops ≤ a = grind (arith, nat_tests) in omega (arith, y, z, h))
    by false false e g r = omega (arith, r)

pub layer_order : (layers : List Layer) (a b : ℕ) → a < b → (layer_of layers a < layer_of layers b) ⊎ ((layer_of layers a ≡ layer_of layers b) × (a < b))
layer_order layers a b h = cases (layer_of layers a) (layer_of layers b) (layer_up 0 layers a b (omega (arith, h)))
  where
    cases : (p q : ℕ) → p ≤ q → (p < q) ⊎ ((p ≡ q) × (a < b))
    cases zero zero l = inr (refl, h)
    cases zero (suc q) l = inl (omega arith)
    cases (suc p) zero l = absurd (omega (arith, l))
    cases (suc p) (suc q) l = elim (cases p q (omega (arith, l))) [ inl g ↦ inl (omega (arith, g)) | inr g ↦ inr (ap suc g.0, h) ]

-- ---- well formed

-- the ops of an act are the first ones of all
prefix_of : (done : List Micro) (xs : List Layer) (line : ℕ) (last : List Micro) (a : Act) → In a (layered_from done xs line last) → (a.whole ≡ false) × (more : List Micro) × (a.ops ++ more ≡ done ++ (ops_of xs ++ last))
prefix_of done [] line last a (inl e) = (ap (λ (b : Act). b.whole) e, [], append-nil a.ops ∙ ap (λ (b : Act). b.ops) e)
prefix_of done [] line last a (inr h) = elim h [ ]
prefix_of done (x ∷ xs) line last a (inl e) = (ap (λ (b : Act). b.whole) e, ops_of xs ++ last, ap (λ (b : Act). b.ops ++ (ops_of xs ++ last)) e ∙ append_assoc done x.ops (ops_of xs ++ last) ∙ ap (λ (l : List Micro). done ++ l) (sym (append_assoc x.ops (ops_of xs) last)))
prefix_of done (x ∷ xs) line last a (inr h) =
    let r = prefix_of (done ++ x.ops) xs line last a h in
    (r.0, r.1, r.2 ∙ append_assoc done x.ops (ops_of xs ++ last) ∙ ap (λ (l : List Micro). done ++ l) (sym (append_assoc x.ops (ops_of xs) last)))

earlier_prefix : (k : ℕ) (xs ys : List Micro) → NameEarlier k (xs ++ ys) → NameEarlier k xs
earlier_prefix k [] ys h = tt
earlier_prefix k (x ∷ xs) ys h = (h.0, earlier_prefix (suc k) xs ys h.1)

abbrev one_act_of : List Layer → ℕ → List Micro → Act
one_act_of layers line last = record { line = line; ops = ops_of layers ++ last; whole = false }

acts_count : (done : List Micro) (xs : List Layer) (line : ℕ) (last : List Micro) → length (layered_from done xs line last) ≡ suc (length xs)
acts_count done [] line last = refl
acts_count done (x ∷ xs) line last = ap suc (acts_count (done ++ x.ops) xs line last)

-- where one act with all ops fits
pub layered_fits : (layers : List Layer) (line : ℕ) (last : List Micro) (count : Source) (m : Cells) (n : ℕ) → AllStoreNothing (ops_of layers) → length layers < 1048575
    → Fitting count (act line (ops_of layers ++ last)) m n → Fitting count (layered layers line last) m n
layered_fits layers line last count m n q few f = record {
  count_is = f.count_is;
  small = f.small;
  count_there = f.count_there;
  few_acts = let c = acts_count [] layers line last in omega (arith, c, few);
  few_ops = λ a h. let p = prefix_of [] layers line last a h in let one = f.few_ops (one_act_of layers line last) (inl refl) in (
    (let z : length (a.ops ++ p.1) ≡ length (ops_of layers ++ last) = ap length p.2 in let y = length-append a.ops p.1 in let short : length (ops_of layers ++ last) ≤ 1048576 = one.0 in omega (arith, z, y, short)),
    earlier_prefix 0 a.ops p.1 (subst (NameEarlier 0) (sym p.2) one.1),
  );
  positive = λ i z l h. f.positive i z l (layered_divides i m line last layers q z h);
  loaded = λ i c l h. f.loaded i c l (layered_loads i m line last layers q c h);
}

-- ---- lines

pub lines_are : (before : ℕ) (done : List Micro) (layers : List Layer) (line : ℕ) (last : List Micro) (o : ℕ) → slice_index_or (lines (layered_from done layers line last)) (layer_from before layers o) 0 ≡ line_from before layers line o
lines_are before done [] line last o = refl
lines_are before done (x ∷ xs) line last o = by (nat_lt o (before + length x.ops)) (lines_are (before + length x.ops) (done ++ x.ops) xs line last o)
  where
    by : (s : Bool) → slice_index_or (lines (layered_from (done ++ x.ops) xs line last)) (layer_from (before + length x.ops) xs o) 0 ≡ line_from (before + length x.ops) xs line o
        → slice_index_or (x.line ∷ lines (layered_from (done ++ x.ops) xs line last)) (if s then 0 else suc (layer_from (before + length x.ops) xs o)) 0 ≡ (if s then x.line else line_from (before + length x.ops) xs line o)
    by true r = refl
    by false r = r
