-- Evaluated masks by their numbers.
use Rattle.std.proofs.Common.{◌≡◌, refl, sym, ap, ◌∙◌, subst, ℕ, zero, suc, ◌+◌, ◌<◌, ◌≤◌, ◌^◌, Bool, true, false, cond, List, [], ◌∷◌, ◌++◌, map, length, drop, get_or, All, Option, Some, None, Result, Ok, Err, arith}
use Rattle.std.proofs.lemmas.List.{drop_more, get_or_read}
use Rattle.std.proofs.lemmas.List.Elements.{All-nil, All-cons, All-append}
use Rattle.std.specs.List.{slice_get}
use Rattle.ws_base.specs.declared.fault.Fault.{Fault}
use Rattle.ws_base.specs.Outcomes.{◌>>=◌}
use Rattle.ws_space.specs.Shapes.{Extents}
use Rattle.ws_space.specs.Masks.{Split, split_at}
use Rattle.step_eval.specs.declared.construct.Places.{Places}
use Rattle.step_eval.specs.declared.construct.MaskTerm.{MaskTerm}
use Rattle.step_eval.specs.Masked.{split_of, splits_of, places_at, one_split, splits_through, IsEvaluated}

at_split : (ps : List Places) (k : ℕ) (p : Places) → slice_get ps k ≡ Some p → split_at (splits_of ps) k ≡ split_of p
at_split [] k p h = let f : ⊥ = cc in absurd f
at_split (q ∷ ps) zero p h = let e : q ≡ p = cc in ap split_of e
at_split (q ∷ ps) (suc k) p h = at_split ps k p h

at_none : (ps : List Places) (k : ℕ) → slice_get ps k ≡ None → split_at (splits_of ps) k ≡ record { shape = []; yes = []; no = [] }
at_none [] k h = refl
at_none (q ∷ ps) zero h = let f : ⊥ = cc in absurd f
at_none (q ∷ ps) (suc k) h = at_none ps k h

pub split_there : (ps : List Places) (k : ℕ) (want : Bool) (p : Places) → slice_get ps k ≡ Some p → places_at (splits_of ps) k want ≡ (cond want p.yes p.no)
split_there ps k true p h = ap (λ s. s.yes) (at_split ps k p h)
split_there ps k false p h = ap (λ s. s.no) (at_split ps k p h)

pub split_absent : (ps : List Places) (k : ℕ) (want : Bool) → slice_get ps k ≡ None → places_at (splits_of ps) k want ≡ []
split_absent ps k true h = ap (λ s. s.yes) (at_none ps k h)
split_absent ps k false h = ap (λ s. s.no) (at_none ps k h)

-- ---- one mask more

splits_more : (ps : List Places) (p : Places) → splits_of (ps ++ p ∷ []) ≡ splits_of ps ++ split_of p ∷ []
splits_more [] p = refl
splits_more (q ∷ ps) p = ap (λ l. split_of q ∷ l) (splits_more ps p)

pub mask_step : (e : Extents) (all : Result (List Split) Fault) (ps next : List Places) (ts : List MaskTerm) (i : ℕ) (t : MaskTerm) (p : Places) → i < length ts → t ≡ get_or ts i t →
    one_split e (splits_of ps) t ≡ Ok (split_of p) → next ≡ ps ++ p ∷ [] → all ≡ splits_through e (splits_of ps) (drop i ts) → all ≡ splits_through e (splits_of next) (drop (i + 1) ts)
mask_step e all ps next ts i t p low item is more before =
    let front : drop i ts ≡ t ∷ drop (i + 1) ts = drop_more ts i t low ∙ ap (λ x. x ∷ drop (i + 1) ts) (sym item) in
    let step : (one_split e (splits_of ps) t >>= (λ s. splits_through e (splits_of ps ++ s ∷ []) (drop (i + 1) ts))) ≡ splits_through e (splits_of ps ++ split_of p ∷ []) (drop (i + 1) ts) =
    ap (λ r. r >>= (λ s. splits_through e (splits_of ps ++ s ∷ []) (drop (i + 1) ts))) is in
    before ∙ (ap (λ l. splits_through e (splits_of ps) l) front ∙ (step ∙ ap (λ l. splits_through e l (drop (i + 1) ts)) (sym (ap splits_of more ∙ splits_more ps p))))

pub evaluated_more : (ps next : List Places) (p : Places) → next ≡ ps ++ p ∷ [] → All IsEvaluated ps → IsEvaluated p → All IsEvaluated next
evaluated_more ps next p more h k = let P : List Places → Type 0 = λ l. All IsEvaluated l in subst P (sym more) (All-append IsEvaluated ps (p ∷ []) h (All-cons IsEvaluated p [] k (All-nil IsEvaluated)))
