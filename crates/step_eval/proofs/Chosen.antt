-- The places that a mask leaves, place by place.
use Rattle.std.proofs.Common.{◌≡◌, ℕ, suc, ◌+◌, ◌≤◌, ◌<◌, ◌^◌, All, subst, Bool, true, false, if◌then◌else◌, List, [], ◌∷◌, ◌++◌, length, drop, get_or, ℤ, pos, refl, sym, ap, ◌∙◌, arith, append_assoc}
use Rattle.std.proofs.lemmas.List.{drop_more}
use Rattle.std.proofs.lemmas.List.Elements.{All-nil, All-cons, All-head, All-tail}
use Rattle.step_eval.specs.Masked.{ArePlaces}
use Rattle.ws_base.specs.Numbers.{is_true}
use Rattle.ws_space.specs.Masks.{chosen, same_truth}

pub chosen_front : (want : Bool) (ps : List ℕ) (vs : List ℤ) (i : ℕ) → i < length ps → length vs ≡ length ps →
    chosen want (drop i ps) (drop i vs) ≡ (if same_truth want (is_true (get_or vs i (pos 0))) then get_or ps i 0 ∷ chosen want (drop (i + 1) ps) (drop (i + 1) vs) else chosen want (drop (i + 1) ps) (drop (i + 1) vs))
chosen_front want ps vs i h n = ap (λ l. chosen want l (drop i vs)) (drop_more ps i 0 h) ∙ ap (λ l. chosen want (get_or ps i 0 ∷ drop (i + 1) ps) l) (drop_more vs i (pos 0) (omega (arith, h, n)))

module _ (want : Bool) (ps : List ℕ) (vs : List ℤ) (i : ℕ) (all made next : List ℕ) (low : i < length ps) (n : length vs ≡ length ps) (before : all ≡ made ++ chosen want (drop i ps) (drop i vs)) where
  pub taken : same_truth want (is_true (get_or vs i (pos 0))) ≡ true → next ≡ made ++ get_or ps i 0 ∷ [] → all ≡ next ++ chosen want (drop (i + 1) ps) (drop (i + 1) vs)
  taken t e =
      let rest : List ℕ = chosen want (drop (i + 1) ps) (drop (i + 1) vs) in
      let front : chosen want (drop i ps) (drop i vs) ≡ get_or ps i 0 ∷ rest = chosen_front want ps vs i low n ∙ rw t refl in
      before ∙ (ap (λ l. made ++ l) front ∙ (sym (append_assoc made (get_or ps i 0 ∷ []) rest) ∙ ap (λ l. l ++ rest) (sym e)))

  pub left : same_truth want (is_true (get_or vs i (pos 0))) ≡ false → next ≡ made → all ≡ next ++ chosen want (drop (i + 1) ps) (drop (i + 1) vs)
  left t e =
      let rest : List ℕ = chosen want (drop (i + 1) ps) (drop (i + 1) vs) in
      let front : chosen want (drop i ps) (drop i vs) ≡ rest = chosen_front want ps vs i low n ∙ rw t refl in
      before ∙ (ap (λ l. made ++ l) front ∙ ap (λ l. l ++ rest) (sym e))

-- ---- chosen places are places

chosen_length : (want : Bool) (ps : List ℕ) (vs : List ℤ) → length (chosen want ps vs) ≤ length ps
chosen_length want [] vs = omega arith
chosen_length want (p ∷ ps) [] = omega arith
chosen_length want (p ∷ ps) (v ∷ vs) = either_length (same_truth want (is_true v)) p (chosen want ps vs) (length ps) (chosen_length want ps vs) where
  either_length : (b : Bool) (p : ℕ) (l : List ℕ) (n : ℕ) → length l ≤ n → length (if b then p ∷ l else l) ≤ suc n
  either_length true p l n h = omega (arith, h)
  either_length false p l n h = omega (arith, h)

pub chosen_below : (m : ℕ) (want : Bool) (ps : List ℕ) (vs : List ℤ) → All (λ p. p < m) ps → All (λ p. p < m) (chosen want ps vs)
chosen_below m want [] vs h = All-nil (λ p. p < m)
chosen_below m want (p ∷ ps) [] h = All-nil (λ p. p < m)
chosen_below m want (p ∷ ps) (v ∷ vs) h = either_below (same_truth want (is_true v)) (chosen want ps vs) (chosen_below m want ps vs (All-tail (λ q. q < m) p ps h)) where
  either_below : (b : Bool) (l : List ℕ) → All (λ q. q < m) l → All (λ q. q < m) (if b then p ∷ l else l)
  either_below true l g = All-cons (λ q. q < m) p l (All-head (λ q. q < m) p ps h) g
  either_below false l g = g

pub chosen_places : (want : Bool) (ps : List ℕ) (vs : List ℤ) (out : List ℕ) → out ≡ chosen want ps vs → ArePlaces ps → ArePlaces out
chosen_places want ps vs out is h =
    let P : List ℕ → Type 0 = λ l. All (λ p. p < 2 ^ 31) l in
    record { few = omega (arith, ap length is, chosen_length want ps vs, h.few); below = subst P (sym is) (chosen_below (2 ^ 31) want ps vs h.below) }
