-- The first stage of masks, one after another.
use Rattle.std.proofs.Common.{◌≡◌, refl, sym, ap, ◌∙◌, subst, ℕ, ◌+◌, ◌<◌, ◌≤◌, List, [], ◌∷◌, ◌++◌, map, length, drop, get_or, Result, Ok, Err, ℤ, append_assoc, append-nil}
use Rattle.std.proofs.lemmas.List.{drop_more}
use Rattle.std.proofs.Math.ListN.{drop_of_length-le}
use Rattle.ws_base.specs.declared.fault.Fault.{Fault}
use Rattle.ws_base.specs.Outcomes.{◌>>=◌}
use mathlib.Core.Path.{fun_ext}
use Rattle.ws_space.specs.Shapes.{Extents}
use Rattle.ws_space.specs.Masks.{Split, split_by, active}
use Rattle.ws_space.specs.Faults.{at_lines, at_places}
use Rattle.array_meaning.specs.Stage2.{values}
use Rattle.array_meaning.specs.declared.world.World.{World}
use Rattle.array_meaning.specs.declared.term.Term.{Term}
use Rattle.array_meaning.specs.Stage1.{walk}
use Rattle.array_meaning.specs.Where.{mask_terms, splits_after}
use Rattle.step_eval.specs.declared.events.MaskOf.{MaskOf}
use Rattle.step_eval.specs.declared.construct.MaskTerm.{MaskTerm}
use Rattle.step_eval.specs.declared.halt.Halt.{Halt}
use Rattle.step_eval.specs.declared.halt.Halt.TheVariants.{Memory, Faulted}
use Rattle.step_eval.specs.Halts.{Halts}
use Rattle.step_eval.specs.declared.construct.Under.{Under}
use Rattle.step_eval.specs.Masked.{control_of, splits_through}
use Rattle.step_eval.specs.Events.{mask_of, AreTermsOf}

-- terms that were made before these
abbrev pub made_then : List Term → Result (List Term) Fault → Result (List Term) Fault
made_then made (Ok ts) = Ok (made ++ ts)
made_then made (Err e) = Err e

-- The first i masks have these terms, and the rest is still to come.
pub record Made (w : World) (line : ℕ) (masks : List MaskOf) (i : ℕ) (terms : List MaskTerm) : Type 0 where
  pub before : List MaskOf
  pub split : masks ≡ before ++ drop i masks
  pub terms_of : AreTermsOf before terms
  pub value : mask_terms w line (map mask_of masks) ≡ made_then (map (λ t. t.term) terms) (mask_terms w line (map mask_of (drop i masks)))

made_nothing : (r : Result (List Term) Fault) → r ≡ made_then [] r
made_nothing (Ok ts) = refl
made_nothing (Err e) = refl

pub begins : (w : World) (line : ℕ) (masks : List MaskOf) → Made w line masks 0 []
begins w line masks = record { before = []; split = refl; terms_of = tt; value = made_nothing (mask_terms w line (map mask_of masks)) }

terms_more : (ms : List MaskOf) (ts : List MaskTerm) (m : MaskOf) (t : MaskTerm) → t.line ≡ m.line → t.under ≡ m.under → AreTermsOf ms ts → AreTermsOf (ms ++ m ∷ []) (ts ++ t ∷ [])
terms_more [] [] m t l u h = ((l, u), tt)
terms_more [] (x ∷ ts) m t l u h = absurd h
terms_more (n ∷ ms) [] m t l u h = absurd h
terms_more (n ∷ ms) (x ∷ ts) m t l u h = (h.0, terms_more ms ts m t l u h.1)

map_more : (ts : List MaskTerm) (t : MaskTerm) → map (λ x. x.term) (ts ++ t ∷ []) ≡ map (λ x. x.term) ts ++ t.term ∷ []
map_more [] t = refl
map_more (x ∷ ts) t = ap (λ l. x.term ∷ l) (map_more ts t)

one_made : (made : List Term) (t : Term) (r : Result (List Term) Fault) → made_then made (r >>= (λ ts. Ok (t ∷ ts))) ≡ made_then (made ++ t ∷ []) r
one_made made t (Ok ts) = ap Ok (sym (append_assoc made (t ∷ []) ts))
one_made made t (Err e) = refl

module _ (w : World) (line : ℕ) (masks : List MaskOf) (i : ℕ) (m : MaskOf) (terms : List MaskTerm) (low : i < length masks) (item : m ≡ get_or masks i m) (so_far : Made w line masks i terms) where
  front : drop i masks ≡ m ∷ drop (i + 1) masks
  front = drop_more masks i m low ∙ ap (λ x. x ∷ drop (i + 1) masks) (sym item)

  pub goes_on : (t : Term) (next : List MaskTerm) → at_lines m.line line (walk w m.test.now) ≡ Ok t → next ≡ terms ++ record { line = m.line; under = m.under; term = t } ∷ [] → Made w line masks (i + 1) next
  goes_on t next is more =
      let new : MaskTerm = record { line = m.line; under = m.under; term = t } in
      let rest = mask_terms w line (map mask_of (drop (i + 1) masks)) in
      let P : List MaskTerm → Type 0 = λ l. AreTermsOf (so_far.before ++ m ∷ []) l in
      let step : mask_terms w line (map mask_of (m ∷ drop (i + 1) masks)) ≡ (rest >>= (λ ts. Ok (t ∷ ts))) = ap (λ r. r >>= (λ x. rest >>= (λ ts. Ok (x ∷ ts)))) is in
      record {
        before = so_far.before ++ m ∷ [];
        split = so_far.split ∙ (ap (λ l. so_far.before ++ l) front ∙ sym (append_assoc so_far.before (m ∷ []) (drop (i + 1) masks)));
        terms_of = subst P (sym more) (terms_more so_far.before terms m new refl refl so_far.terms_of);
        value = so_far.value ∙ (ap (λ l. made_then (map (λ x. x.term) terms) (mask_terms w line (map mask_of l))) front ∙ (ap (made_then (map (λ x. x.term) terms)) step ∙ (one_made (map (λ x. x.term) terms) t rest
            ∙ ap (λ l. made_then l rest) (sym (ap (map (λ x. x.term)) more ∙ map_more terms new)))));
      }

  pub fails : (e : Halt) → Halts e (at_lines m.line line (walk w m.test.now)) → Halts e (mask_terms w line (map mask_of masks))
  fails Memory h = tt
  fails (Faulted f) h =
      let rest = mask_terms w line (map mask_of (drop (i + 1) masks)) in
      so_far.value ∙ (ap (λ l. made_then (map (λ x. x.term) terms) (mask_terms w line (map mask_of l))) front ∙ ap (λ r. made_then (map (λ x. x.term) terms) (r >>= (λ x. rest >>= (λ ts. Ok (x ∷ ts))))) h)

pub ends : (w : World) (line : ℕ) (masks : List MaskOf) (i : ℕ) (terms : List MaskTerm) → length masks ≤ i → Made w line masks i terms → AreTermsOf masks terms × (mask_terms w line (map mask_of masks) ≡ Ok (map (λ t. t.term) terms))
ends w line masks i terms high so_far =
    let over : drop i masks ≡ [] = drop_of_length-le masks high in
    let P : List MaskOf → Type 0 = λ l. AreTermsOf l terms in (
      subst P (sym (so_far.split ∙ (ap (λ l. so_far.before ++ l) over ∙ append-nil so_far.before))) so_far.terms_of,
      so_far.value ∙ (ap (λ l. made_then (map (λ t. t.term) terms) (mask_terms w line (map mask_of l))) over ∙ ap Ok (append-nil (map (λ t. t.term) terms))),
    )

-- ---- the second stage

split_then : {A B : Type 0} (r : Result A Fault) (f : A → Split) (g : Split → Result B Fault) → (r >>= (λ x. g (f x))) ≡ ((r >>= (λ x. Ok (f x))) >>= g)
split_then (Ok x) f g = refl
split_then (Err e) f g = refl

pub splits_same : (e : Extents) (ss : List Split) (ms : List MaskOf) (ts : List MaskTerm) → AreTermsOf ms ts → splits_after e ss (map mask_of ms) (map (λ t. t.term) ts) ≡ splits_through e ss ts
splits_same e ss [] [] h = refl
splits_same e ss [] (t ∷ ts) h = absurd h
splits_same e ss (m ∷ ms) [] h = absurd h
splits_same e ss (m ∷ ms) (t ∷ ts) h =
    let at : Under → ℕ → Result (List ℤ) Fault = λ u l. at_places l (active ss e (control_of u)) (values t.term (active ss e (control_of u))) in
    let step : Under → ℕ → Result (List Split) Fault = λ u l. at u l >>= (λ xs. splits_after e (ss ++ split_by e (active ss e (control_of u)) xs ∷ []) (map mask_of ms) (map (λ x. x.term) ts)) in
    ap (λ u. step u m.line) (sym h.0.1) ∙ (ap (step t.under) (sym h.0.0)
    ∙ (ap (λ f. at t.under t.line >>= f) (fun_ext (λ xs. splits_same e (ss ++ split_by e (active ss e (control_of t.under)) xs ∷ []) ms ts h.1))
    ∙ split_then (at t.under t.line) (split_by e (active ss e (control_of t.under))) (λ s. splits_through e (ss ++ s ∷ []) ts)))
