-- When forms and designators are apart or alike.
use Rattle.std.proofs.Common.{◌≡◌, refl, sym, ap, ◌∙◌, suc, Bool, true, false, not, if◌then◌else◌, List, [], ◌∷◌, length, Option, Some, None, ℤ, ◌↔◌, IsTrue, eq-eqb}
use Rattle.std.proofs.lemmas.Bool.{ne_eqb, and_right}
use Rattle.std.proofs.lemmas.Bool.Decides.{same_from_decides, Decides-like}
use Rattle.alias_test.specs.declared.designator.Relation.TheVariants.{Same, Disjoint, May}
use Rattle.alias_test.specs.declared.designator.Sym.{Sym}
use Rattle.alias_test.specs.declared.designator.Form.{Form}
use Rattle.alias_test.specs.declared.designator.Designator.{Designator}
use Rattle.alias_test.specs.declared.run.Run.{Run}
use Rattle.alias_test.specs.Relations.{share_member, are_apart, same_symbol, same_tree, some_apart, all_alike, relation}
use Rattle.alias_test.specs.Runs.{Meet, Lists}
use Rattle.alias_test.proofs.Numbers.{Decides-share_member}

pub apart_runs : (o n : Option (List ℤ)) (p q : Run) (b : Bool) → Lists o p → Lists n q → (IsTrue b ↔ Meet p q) → not b ≡ are_apart o n
apart_runs None n p q b lo ln meets = absurd lo
apart_runs (Some is) None p q b lo ln meets = absurd ln
apart_runs (Some is) (Some js) p q b lo ln meets =
    ap not (same_from_decides b (share_member is js) meets
    (Decides-like (share_member is js) (λ s. (s.0, (lo s.0).0 s.1, (ln s.0).0 s.2)) (λ m. (m.0, (lo m.0).1 m.1, (ln m.0).1 m.2)) (Decides-share_member is js)))

pub trees_of_other_lengths : (s t : List Sym) → (length s ≡ length t → ⊥) → false ≡ same_tree s t
trees_of_other_lengths [] [] other = absurd (other refl)
trees_of_other_lengths [] (y ∷ ys) other = refl
trees_of_other_lengths (x ∷ xs) [] other = refl
trees_of_other_lengths (x ∷ xs) (y ∷ ys) other = sym (and_right (same_symbol x y) (same_tree xs ys) (sym (trees_of_other_lengths xs ys (λ e. other (ap suc e)))))

-- ---- the relation of designators

pub other_variables : (a b : Designator) → (a.var ≡ b.var → ⊥) → Disjoint ≡ relation a b
unfolding relation
other_variables a b other = rw (ne_eqb a.var b.var other) refl

of_one_variable : (a b : Designator) → a.var ≡ b.var → (if some_apart a.forms b.forms then Disjoint else (if all_alike a.forms b.forms then Same else May)) ≡ relation a b
unfolding relation
of_one_variable a b one = rw (eq-eqb a.var b.var one) refl

pub some_dimension_apart : (a b : Designator) (fs gs : List Form) → a.var ≡ b.var → fs ≡ a.forms → gs ≡ b.forms → true ≡ some_apart fs gs → Disjoint ≡ relation a b
some_dimension_apart a b fs gs one ef eg e =
    let apart : some_apart a.forms b.forms ≡ true = ap (λ f. some_apart f b.forms) (sym ef) ∙ (ap (some_apart fs) (sym eg) ∙ sym e) in
    sym (ap (λ t. if t then Disjoint else (if all_alike a.forms b.forms then Same else May)) apart) ∙ of_one_variable a b one

pub each_dimension_alike : (a b : Designator) (fs gs hs is : List Form) → a.var ≡ b.var → fs ≡ a.forms → gs ≡ b.forms → hs ≡ a.forms → is ≡ b.forms → false ≡ some_apart fs gs → true ≡ all_alike hs is → Same ≡ relation a b
each_dimension_alike a b fs gs hs is one ef eg eh ei e f =
    let apart : some_apart a.forms b.forms ≡ false = ap (λ f. some_apart f b.forms) (sym ef) ∙ (ap (some_apart fs) (sym eg) ∙ sym e) in
    let alike : all_alike a.forms b.forms ≡ true = ap (λ f. all_alike f b.forms) (sym eh) ∙ (ap (all_alike hs) (sym ei) ∙ sym f) in
    sym (ap (λ t. if t then Disjoint else (if all_alike a.forms b.forms then Same else May)) apart ∙ ap (λ t. if t then Same else May) alike) ∙ of_one_variable a b one

pub some_dimension_open : (a b : Designator) (fs gs hs is : List Form) → a.var ≡ b.var → fs ≡ a.forms → gs ≡ b.forms → hs ≡ a.forms → is ≡ b.forms → false ≡ some_apart fs gs → false ≡ all_alike hs is → May ≡ relation a b
some_dimension_open a b fs gs hs is one ef eg eh ei e f =
    let apart : some_apart a.forms b.forms ≡ false = ap (λ f. some_apart f b.forms) (sym ef) ∙ (ap (some_apart fs) (sym eg) ∙ sym e) in
    let alike : all_alike a.forms b.forms ≡ false = ap (λ f. all_alike f b.forms) (sym eh) ∙ (ap (all_alike hs) (sym ei) ∙ sym f) in
    sym (ap (λ t. if t then Disjoint else (if all_alike a.forms b.forms then Same else May)) apart ∙ ap (λ t. if t then Same else May) alike) ∙ of_one_variable a b one
