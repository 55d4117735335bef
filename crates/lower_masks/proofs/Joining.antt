-- What passes each test keeps all rules.
use Rattle.std.proofs.Common.{◌≡◌, refl, Bool, true, ◌&&◌, List, [], ◌∷◌}
use Rattle.std.specs.List.{list_all}
use Rattle.std.proofs.lemmas.Bool.{and_from, and_parts}
use Rattle.hlfir_ops.specs.declared.op.Op.{out-Op}
use Rattle.hlfir_ops.specs.RulesPlaces.{Site}
use Rattle.hlfir_ops.specs.Rules.{Facts, are_defined, operands_fit, result_fits, is_used_once, yields_of, sides_of, realloc_of, where_of, forall_of, lists_fit, declares_fit, keeps}
use Rattle.lower_constructs.specs.Sites.{Test, passes}
use Rattle.limit_laws.specs.Laws.{limits_test}

pub all_both : {A : Type 0} (p q : A → Bool) (xs : List A) → list_all p xs ≡ true → list_all q xs ≡ true → list_all (λ x. p x && q x) xs ≡ true
all_both p q [] h k = refl
all_both p q (x ∷ xs) h k =
    let a = and_parts (p x) (list_all p xs) h in let b = and_parts (q x) (list_all q xs) k in
    and_from (p x && q x) (list_all (λ y. p y && q y) xs) (and_from (p x) (q x) a.0 b.0) (all_both p q xs a.1 b.1)

pub all_true : {A : Type 0} (xs : List A) → list_all (λ x. true) xs ≡ true
all_true [] = refl
all_true (x ∷ xs) = all_true xs

-- ---- the twelve tests

abbrev pub defined_test : Test
defined_test f p op = are_defined p.defined (out-Op op).operands

abbrev pub operands_test : Test
operands_test f p op = operands_fit p.around.elemental f.values op

abbrev pub result_test : Test
result_test f p op = result_fits f.values op

abbrev pub once_test : Test
once_test f p op = is_used_once f.used p.number (out-Op op).kind

abbrev pub yields_test : Test
yields_test f p op = yields_of f.values (out-Op op).what (out-Op op).regions

abbrev pub sides_test : Test
sides_test f p op = sides_of f.values (out-Op op).what (out-Op op).regions

abbrev pub realloc_test : Test
realloc_test f p op = realloc_of p.around.masked f.values (out-Op op).what (out-Op op).regions

abbrev pub where_test : Test
where_test f p op = where_of f.values (out-Op op).what (out-Op op).regions

abbrev pub forall_test : Test
forall_test f p op = forall_of f.values (out-Op op).what (out-Op op).regions

abbrev pub lists_test : Test
lists_test f p op = lists_fit p.around.own p.before op

abbrev pub declares_test : Test
declares_test f p op = declares_fit p.around.own f.values p.before op

module _ (f : Facts) (xs : List Site) where
  abbrev Passed : Test → Type 0
  Passed test = list_all (passes test f) xs ≡ true

  pub keeps_each :
      Passed defined_test → Passed operands_test → Passed result_test → Passed once_test → Passed yields_test → Passed sides_test → Passed realloc_test →
      Passed where_test → Passed forall_test → Passed lists_test → Passed declares_test → Passed limits_test → list_all (keeps f) xs ≡ true
  keeps_each a b c d e g h i j k l m =
      all_both (passes defined_test f) _ xs a (all_both (passes operands_test f) _ xs b (all_both (passes result_test f) _ xs c (all_both (passes once_test f) _ xs d (all_both (passes yields_test f) _ xs e
      (all_both (passes sides_test f) _ xs g (all_both (passes realloc_test f) _ xs h (all_both (passes where_test f) _ xs i (all_both (passes forall_test f) _ xs j (all_both (passes lists_test f) _ xs k
      (all_both (passes declares_test f) _ xs l (all_both (passes limits_test f) _ xs m (all_true xs))))))))))))
