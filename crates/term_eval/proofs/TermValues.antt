-- The values of terms, as the code finds them.
use Rattle.std.proofs.Common.{◌≡◌, refl, sym, ap, ◌∙◌, subst, ℕ, ◌+◌, ◌<◌, length, List, [], ◌∷◌, ◌++◌, map, append_assoc, drop, get_or, All, Option, Some, None, Result, Ok, Err, ℤ}
use Rattle.std.specs.Prelude.{◌/◌}
use Rattle.std.proofs.lemmas.List.{length-map}
use Rattle.ws_base.specs.declared.op.BinOp.{BinOp}
use Rattle.ws_base.specs.declared.op.UnOp.{UnOp}
use Rattle.ws_base.specs.declared.op.CallWord.{CallWord}
use Rattle.ws_base.specs.Outcomes.{Staged, ◌>>=◌, rows}
use Rattle.ws_space.specs.declared.state.ArrayValue.{ArrayValue}
use Rattle.ws_space.specs.Shapes.{dims, place}
use Rattle.ws_space.specs.Values.{value_at}
use Rattle.ws_space.specs.Maps.{unary_map, binary_map, call_map}
use Rattle.ws_space.specs.Sections.{elements_at, places_at}
use Rattle.array_meaning.specs.declared.term.Term.{Term}
use Rattle.array_meaning.specs.declared.term.Term.TheVariants.{Section, Unary, Binary, Call}
use Rattle.array_meaning.specs.declared.term.Pick.{Pick}
use Rattle.array_meaning.specs.Terms.{terms_open}
use Rattle.array_meaning.specs.Stage2.{values, targets}
use Rattle.term_eval.specs.declared.stop.Stop.{Stop}
use Rattle.term_eval.specs.declared.stop.Stop.TheVariants.{Memory, Failed}
use Rattle.term_eval.specs.Made.{Stops, Gives, IsAlong}
use Rattle.term_eval.specs.Limits.{IsSmallTerm, IsSmallArray, IsSmallPick}
use Rattle.term_eval.specs.Lists as lists
use Rattle.term_eval.proofs.Along.{is_along, values-along}
use Rattle.term_eval.proofs.Front.{front}
use Rattle.term_eval.proofs.Made.{each_then}
use Rattle.term_eval.proofs.Forms.{values_section, values_call, targets_section, small_section, small_call}

-- ---- what comes first, and what it gives

pub stops_first : {A B : Type 0} (s : Stop) (r : Staged A) (f : A → Staged B) → Stops s r → Stops s (r >>= f)
stops_first Memory r f h = tt
stops_first (Failed t) r f h = ap (λ x. x >>= f) h

-- from the list that the code goes over
module _ {X A B : Type 0} (made : X → Staged A) (f : A → Staged B) (whole : Staged B) (xs xs' : X) (is : whole ≡ (made xs >>= f)) (same : xs' ≡ xs) where
  list_is : whole ≡ (made xs' >>= f)
  list_is = is ∙ ap (λ l. made l >>= f) (sym same)

  list_stops : (s : Stop) → Stops s (made xs') → Stops s whole
  list_stops s h = subst (Stops s) (sym list_is) (stops_first s (made xs') f h)

  list_value : (cs cs' : A) (answer : Result B Stop) → made xs' ≡ Ok cs → cs' ≡ cs → Gives answer (f cs') → Gives answer whole
  list_value cs cs' answer h e g = subst (Gives answer) (ap f e ∙ sym (list_is ∙ ap (λ r. r >>= f) h)) g

-- ---- sections

elements_are : (a : ArrayValue) (at : List ℕ) (cs : List (List ℤ)) → elements_at a at cs ≡ (places_at a at cs >>= (λ qs. Ok (map (value_at a.values) qs)))
elements_are a at cs = each_then (place (dims a.shape)) (value_at a.values) (rows at cs)

module _ (t : Term) (a : ArrayValue) (ps ps' : List Pick) (is : t ≡ Section a ps) (same : ps' ≡ ps) (at : List ℕ) where
  pub picks_small : IsSmallTerm t → All IsSmallPick ps'
  picks_small h = subst (All IsSmallPick) (sym same) (small_section a ps (subst IsSmallTerm is h)).1

  pub array_small : IsSmallTerm t → IsSmallArray a
  array_small h = (small_section a ps (subst IsSmallTerm is h)).0

  section_is : values t at ≡ (lists.columns ps at >>= elements_at a at)
  section_is = ap (λ u. values u at) is ∙ values_section a ps at

  pub section_stops : (s : Stop) → Stops s (lists.columns ps' at) → Stops s (values t at)
  section_stops = list_stops (λ p. lists.columns p at) (elements_at a at) (values t at) ps ps' section_is same

  -- once there are columns: the places of the elements, and then the elements
  module _ (cs cs' : List (List ℤ)) (columns_are : lists.columns ps' at ≡ Ok cs) (as_columns : cs' ≡ cs) where
    from_places : (answer : Result (List ℤ) Stop) → Gives answer (places_at a at cs' >>= (λ qs. Ok (map (value_at a.values) qs))) → Gives answer (values t at)
    from_places answer g =
        list_value (λ p. lists.columns p at) (elements_at a at) (values t at) ps ps' section_is same cs cs' answer columns_are as_columns (subst (Gives answer) (sym (elements_are a at cs')) g)

    pub section_stops_later : (s : Stop) → Stops s (places_at a at cs') → Stops s (values t at)
    section_stops_later s h = from_places (Err s) (stops_first s (places_at a at cs') (λ qs. Ok (map (value_at a.values) qs)) h)

    pub section_value : (qs qs' : List ℕ) (held made : List ℤ) → places_at a at cs' ≡ Ok qs → qs' ≡ qs → held ≡ a.values → made ≡ map (value_at held) qs' → values t at ≡ Ok made
    section_value qs qs' held made places_are as_places as_held is_made =
        let listed : made ≡ map (value_at a.values) qs = is_made ∙ ap (λ vs. map (value_at vs) qs') as_held ∙ ap (map (value_at a.values)) as_places in
        from_places (Ok made) (ap (λ r. r >>= (λ xs. Ok (map (value_at a.values) xs))) places_are ∙ ap Ok (sym listed))

  pub target_stops : (s : Stop) → Stops s (lists.columns ps' at) → Stops s (targets t at)
  target_stops = list_stops (λ p. lists.columns p at) (places_at a at) (targets t at) ps ps' (ap (λ u. targets u at) is ∙ targets_section a ps at) same

  pub target_value : (cs cs' : List (List ℤ)) (r : Result (List ℕ) Stop) → lists.columns ps' at ≡ Ok cs → cs' ≡ cs → Gives r (places_at a at cs') → Gives r (targets t at)
  target_value = list_value (λ p. lists.columns p at) (places_at a at) (targets t at) ps ps' (ap (λ u. targets u at) is ∙ targets_section a ps at) same

-- ---- calls

module _ (t : Term) (w : CallWord) (ts ts' : List Term) (is : t ≡ Call w ts) (same : ts' ≡ ts) (at : List ℕ) where
  pub arguments_small : IsSmallTerm t → All IsSmallTerm ts'
  arguments_small h = subst (All IsSmallTerm) (sym same) (small_call w ts (subst IsSmallTerm is h))

  pub call_stops : (s : Stop) → Stops s (lists.all_values ts' at) → Stops s (values t at)
  call_stops = list_stops (λ us. lists.all_values us at) (call_map w at) (values t at) ts ts' (ap (λ u. values u at) is ∙ values_call w ts at) same

  pub call_value_is : (cs cs' : List (List ℤ)) (r : Result (List ℤ) Stop) → lists.all_values ts' at ≡ Ok cs → cs' ≡ cs → Gives r (call_map w at cs') → Gives r (values t at)
  call_value_is = list_value (λ us. lists.all_values us at) (call_map w at) (values t at) ts ts' (ap (λ u. values u at) is ∙ values_call w ts at) same

-- ---- operators

unary_values : (op : UnOp) (t : Term) (at : List ℕ) → values (Unary op t) at ≡ (values t at >>= unary_map op)
unfolding terms_open
unary_values op t at = refl

binary_values : (op : BinOp) (t u : Term) (at : List ℕ) → values (Binary op t u) at ≡ (values t at >>= (λ xs. values u at >>= (λ ys. binary_map op at xs ys)))
unfolding terms_open
binary_values op t u at = refl

pub unary_value_is : (whole t t' : Term) (op : UnOp) (at : List ℕ) (xs xs' : List ℤ) (r : Result (List ℤ) Stop) → whole ≡ Unary op t → t' ≡ t → values t' at ≡ Ok xs → xs' ≡ xs → Gives r (unary_map op xs') → Gives r (values whole at)
unary_value_is whole t t' op at xs xs' r is same h e g =
    subst (Gives r) (ap (unary_map op) e ∙ ap (λ x. x >>= unary_map op) (sym h) ∙ ap (λ u. values u at >>= unary_map op) same ∙ sym (unary_values op t at) ∙ ap (λ u. values u at) (sym is)) g

pub binary_value_is : (whole t u t' u' : Term) (op : BinOp) (at : List ℕ) (xs ys xs' ys' : List ℤ) (r : Result (List ℤ) Stop) → whole ≡ Binary op t u → t' ≡ t → u' ≡ u →
    values t' at ≡ Ok xs → values u' at ≡ Ok ys → xs' ≡ xs → ys' ≡ ys → Gives r (binary_map op at xs' ys') → Gives r (values whole at)
binary_value_is whole t u t' u' op at xs ys xs' ys' r is st su hx hy ex ey g =
    let left : values t at ≡ Ok xs = ap (λ x. values x at) (sym st) ∙ hx in
    let right : values u at ≡ Ok ys = ap (λ x. values x at) (sym su) ∙ hy in
    let both : (values t at >>= (λ p. values u at >>= (λ q. binary_map op at p q))) ≡ binary_map op at xs ys =
    ap (λ x. x >>= (λ p. values u at >>= (λ q. binary_map op at p q))) left ∙ ap (λ y. y >>= (λ q. binary_map op at xs q)) right in
    subst (Gives r) (ap (λ p. binary_map op at p ys') ex ∙ ap (binary_map op at xs) ey ∙ sym both ∙ sym (binary_values op t u at) ∙ ap (λ x. values x at) (sym is)) g

-- ---- as many as places

pub along_of : (t : Term) (at : List ℕ) (r : Result (List ℤ) Stop) → Gives r (values t at) → IsAlong r (length at)
along_of t at r g = is_along r (length at) (values t at) g (values-along t at)

pub stops_along_of : (t : Term) (at : List ℕ) (s : Stop) → Stops s (values t at) → IsAlong (let e : Result (List ℤ) Stop = Err s in e) (length at)
stops_along_of t at s h = is_along (Err s) (length at) (values t at) h (values-along t at)

-- ---- columns

pub past-length : (r : Option ℕ) (at : List ℕ) → length (lists.past r at) ≡ length at
past-length None at = refl
past-length (Some n) at = length-map at (λ p. p / n)

made_more : {A : Type 0} (made : List A) (x : A) (r : Staged (List A)) → lists.then_rest made (r >>= (λ xs. Ok (x ∷ xs))) ≡ lists.then_rest (made ++ x ∷ []) r
made_more made x (Ok xs) = ap Ok (sym (append_assoc made (x ∷ []) xs))
made_more made x (Err t) = refl

pub next_column : (ps : List Pick) (i : ℕ) (p : Pick) (made new : List (List ℤ)) (rest next : List ℕ) (c : List ℤ) (start : Staged (List (List ℤ))) → i < length ps → p ≡ get_or ps i p →
    lists.column p rest ≡ Ok c → new ≡ made ++ c ∷ [] → next ≡ lists.past (lists.reach p) rest →
    start ≡ lists.then_rest made (lists.columns (drop i ps) rest) → start ≡ lists.then_rest new (lists.columns (drop (i + 1) ps) next)
next_column ps i p made new rest next c start low is first pushed moved before =
    before
    ∙ ap (λ l. lists.then_rest made (lists.columns l rest)) (front ps i p low is)
    ∙ ap (λ r. lists.then_rest made (r >>= (λ x. lists.columns (drop (i + 1) ps) (lists.past (lists.reach p) rest) >>= (λ xs. Ok (x ∷ xs))))) first
    ∙ made_more made c (lists.columns (drop (i + 1) ps) (lists.past (lists.reach p) rest))
    ∙ ap (λ m. lists.then_rest m (lists.columns (drop (i + 1) ps) (lists.past (lists.reach p) rest))) (sym pushed)
    ∙ ap (λ at. lists.then_rest new (lists.columns (drop (i + 1) ps) at)) (sym moved)
