-- Tests of numbers and of lists of them.
use Rattle.std.proofs.Common.{◌≡◌, refl, sym, ap, ◌∙◌, ℤ, pos, negsuc, true, false, eqb, List, [], ◌∷◌, w32, of_z, to_z, FitsSigned, eq-eqb, subst, get_or}
use Rattle.std.specs.Bool.{Decides}
use Rattle.std.specs.List.{Contains, list_any}
use Rattle.std.proofs.lemmas.Bool.{false≢true, eqb-true, and_parts, and_from}
use Rattle.std.proofs.lemmas.Bool.Decides.{same_from_decides, Decides-like, Decides-by_or}
use Rattle.std.proofs.lemmas.Int.{to_z-of_z}
use Rattle.std.proofs.lemmas.List.Elements.{Contains-get_or, at_from_Contains, Decides-contains}
use Rattle.ws_base.specs.Numbers.{int_eq}
use Rattle.alias_test.specs.Relations.{share_member, same_list}

pub never : {A : Type 0} → false ≡ true → A
never h = absurd (false≢true h)

pub int_eq-true : (a b : ℤ) → int_eq a b ≡ true → a ≡ b
int_eq-true (pos a) (pos b) e = ap pos (eqb-true a b e)
int_eq-true (pos a) (negsuc b) e = never e
int_eq-true (negsuc a) (pos b) e = never e
int_eq-true (negsuc a) (negsuc b) e = ap negsuc (eqb-true a b e)

pub int_eq-same : (a b : ℤ) → a ≡ b → int_eq a b ≡ true
int_eq-same (pos a) b e = rw (sym e) (eq-eqb a a refl)
int_eq-same (negsuc a) b e = rw (sym e) (eq-eqb a a refl)

pub Decides-int_eq : (a b : ℤ) → Decides (int_eq a b) (a ≡ b)
Decides-int_eq a b = (int_eq-true a b, int_eq-same a b)

-- what the code compares
pub same_from_bits : (a b : ℤ) → FitsSigned w32 a → FitsSigned w32 b → of_z w32 a ≡ of_z w32 b → a ≡ b
same_from_bits a b fa fb e = sym (to_z-of_z w32 a fa) ∙ (ap (to_z w32) e ∙ to_z-of_z w32 b fb)

pub bits-int_eq : (a b : ℤ) → FitsSigned w32 a → FitsSigned w32 b → eqb (of_z w32 a) (of_z w32 b) ≡ int_eq a b
bits-int_eq a b fa fb =
    same_from_decides (eqb (of_z w32 a) (of_z w32 b)) (int_eq a b) (
      (λ e. same_from_bits a b fa fb (eqb-true (of_z w32 a) (of_z w32 b) e)),
      (λ e. eq-eqb (of_z w32 a) (of_z w32 b) (ap (of_z w32) e)),
    )
    (Decides-int_eq a b)

-- ---- lists

pub same_list-true : (is js : List ℤ) → same_list is js ≡ true → is ≡ js
same_list-true [] [] e = refl
same_list-true [] (j ∷ js) e = never e
same_list-true (i ∷ is) [] e = never e
same_list-true (i ∷ is) (j ∷ js) e =
    let both = and_parts (int_eq i j) (same_list is js) e in
    let first : i ≡ j = int_eq-true i j both.0 in
    let rest : is ≡ js = same_list-true is js both.1 in
    cc

pub same_list-itself : (is : List ℤ) → same_list is is ≡ true
same_list-itself [] = refl
same_list-itself (i ∷ is) = and_from (int_eq i i) (same_list is is) (int_eq-same i i refl) (same_list-itself is)

pub Decides-same_list : (is js : List ℤ) → Decides (same_list is js) (is ≡ js)
Decides-same_list is js = (same_list-true is js, λ e. ap (same_list is) (sym e) ∙ same_list-itself is)

Decides-any : (i : ℤ) (js : List ℤ) → Decides (list_any (int_eq i) js) (Contains js i)
Decides-any i js = Decides-contains js i (list_any (int_eq i) js) (Decides-by_or (int_eq i) (λ j. j ≡ i) (list_any (int_eq i)) (λ j. Decides-like (int_eq i j) (λ e. sym e) (λ e. sym e) (Decides-int_eq i j)) refl (λ j js. refl) js)

pub Decides-share_member : (is js : List ℤ) → Decides (share_member is js) ((x : ℤ) × Contains is x × Contains js x)
Decides-share_member is js =
    let each = Decides-by_or (λ i. list_any (int_eq i) js) (Contains js) (λ is. share_member is js) (λ i. Decides-any i js) refl (λ i is. refl) is in
    Decides-like (share_member is js) (λ h. (get_or is h.0 (pos 0), Contains-get_or is h.0 (pos 0) h.1, h.2 (pos 0))) (λ h. let at = at_from_Contains is h.0 h.1 in (at.0, at.1, λ d. subst (Contains js) (sym (at.2 d)) h.2)) each
