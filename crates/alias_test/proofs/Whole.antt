-- The forms of whole variables, dimension by dimension.
use Rattle.std.proofs.Common.{◌≡◌, ap, sym, ◌∙◌, ℕ, zero, suc, ◌+◌, ◌-◌, List, [], ◌∷◌, ◌++◌, map, drop, Option, Some, None, ℤ, append_assoc, add-one, arith}
use Rattle.std.specs.Prelude.{slice_get}
use Rattle.std.proofs.lemmas.List.{map-append}
use Rattle.ws_space.specs.declared.shape.Dim.{Dim}
use Rattle.ws_space.specs.Shapes.{upper, places_from}
use Rattle.alias_test.specs.declared.designator.Form.{Form}
use Rattle.alias_test.specs.Normal.{integer, dim_at, whole_form, declared_forms, kept_forms}

drop-at : (ds : List Dim) (j : ℕ) (d : Dim) → Some d ≡ slice_get ds j → drop j ds ≡ d ∷ drop (suc j) ds
drop-at [] j d e = cc
drop-at (x ∷ xs) zero d e = let same : d ≡ x = cc in ap (λ y. y ∷ xs) (sym same)
drop-at (x ∷ xs) (suc j) d e = drop-at xs j d e

-- the dimensions from this one on
from_here : (ds : List Dim) (k : ℕ) (d : Dim) → Some d ≡ dim_at ds k → drop (k - 1) ds ≡ d ∷ drop (k + 1 - 1) ds
from_here ds zero d e = cc
from_here ds (suc j) d e =
    let here : suc j - 1 ≡ j = omega arith in
    let next : suc j ≡ suc j + 1 - 1 = omega arith in
    ap (λ n. drop n ds) here ∙ (drop-at ds j d e ∙ ap (λ n. d ∷ drop n ds) next)

pub declared_next : (var k : ℕ) (ds : List Dim) (d : Dim) (l : ℤ) (u : Option ℤ) (w : Form) (fs gs all : List Form) → Some d ≡ dim_at ds k → l ≡ d.lower → u ≡ integer (upper d) → w ≡ whole_form var k (Some l) u → gs ≡ fs ++ w ∷ [] →
    fs ++ declared_forms var k (drop (k - 1) ds) ≡ all → gs ++ declared_forms var (k + 1) (drop (k + 1 - 1) ds) ≡ all
declared_next var k ds d l u w fs gs all here low up form more whole =
    let rest = declared_forms var (k + 1) (drop (k + 1 - 1) ds) in
    let own : w ≡ whole_form var k (Some d.lower) (integer (upper d)) = form ∙ (ap (λ x. whole_form var k (Some x) u) low ∙ ap (λ x. whole_form var k (Some d.lower) x) up) in
    let split : declared_forms var k (drop (k - 1) ds) ≡ w ∷ declared_forms var (k + 1) (drop (k + 1 - 1) ds) =
    ap (λ l. declared_forms var k l) (from_here ds k d here) ∙ (ap (λ f. f ∷ declared_forms var (suc k) (drop (k + 1 - 1) ds)) (sym own) ∙ ap (λ n. w ∷ declared_forms var n (drop (k + 1 - 1) ds)) (sym (add-one k))) in
    ap (λ l. l ++ rest) more ∙ (append_assoc fs (w ∷ []) rest ∙ (ap (λ l. fs ++ l) (sym split) ∙ whole))

places_push : (k n : ℕ) → places_from k (suc n) ≡ places_from k n ++ (k + n) ∷ []
places_push k zero = let same : k ≡ k + 0 = omega arith in ap (λ m. m ∷ []) same
places_push k (suc n) = let same : suc k + n ≡ k + suc n = omega arith in ap (λ l. k ∷ l) (places_push (suc k) n ∙ ap (λ m. places_from (suc k) n ++ m ∷ []) same)

pub kept_next : (var n : ℕ) (w : Form) (fs gs : List Form) → w ≡ whole_form var (n + 1) None None → gs ≡ fs ++ w ∷ [] → fs ≡ kept_forms var n → gs ≡ kept_forms var (n + 1)
kept_next var n w fs gs form more so_far =
    let place : n + 1 ≡ 1 + n = omega arith in
    more ∙ (ap (λ l. l ++ w ∷ []) so_far ∙ (ap (λ x. kept_forms var n ++ x ∷ []) (form ∙ ap (λ dim. whole_form var dim None None) place)
    ∙ (sym (map-append (λ (dim : ℕ). whole_form var dim None None) (places_from 1 n) ((1 + n) ∷ [])) ∙ (ap (map (λ (dim : ℕ). whole_form var dim None None)) (sym (places_push 1 n)) ∙ ap (kept_forms var) (sym (add-one n))))))
