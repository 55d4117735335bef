-- Trees that are written from their end.
use Rattle.std.proofs.Common.{◌≡◌, refl, ap, sym, ◌∙◌, ℕ, Bool, true, false, List, [], ◌∷◌, ◌++◌, reverse, get_or, Option, Some, None, append_assoc, if◌then◌else◌}
use Rattle.std.specs.Prelude.{slice_get, nat_lt}
use Rattle.std.specs.List.{flat_map}
use Rattle.std.proofs.lemmas.Bool.{ltb-true, and_parts}
use Rattle.std.proofs.lemmas.List.{append-nil, reverse-append}
use Rattle.hlfir_ops.specs.declared.op.ValueId.{ValueId}
use Rattle.hlfir_ops.specs.declared.op.Op.{Op, out-Op}
use Rattle.alias_test.specs.declared.designator.Sym.{Sym}
use Rattle.alias_test.specs.declared.designator.Sym.TheVariants.{Unary, Binary, Other}
use Rattle.alias_test.specs.Symbols.{are_earlier, symbol_by, symbol_of, parts_by, parts_given, parts_at, symbol_at, tree_after, tree_at, trees_at}
use Rattle.alias_test.specs.Tables.{entries_before}
use Rattle.alias_test.proofs.Tabled.{get_or-entries_before}

-- ---- a tree from those of its parts

-- the parts are earlier values
parts_earlier : (n : ℕ) (s : Sym) (os : List ValueId) → are_earlier n os ≡ true → are_earlier n (parts_by s os) ≡ true
parts_earlier n (Unary f) os e = e
parts_earlier n (Binary f) os e = e
parts_earlier n _ os e = refl

parts_of_symbol : (n : ℕ) (b : Bool) (s : Sym) (os : List ValueId) → b ≡ are_earlier n os → are_earlier n (parts_by (if b then s else Other) os) ≡ true
parts_of_symbol n true s os e = parts_earlier n s os (sym e)
parts_of_symbol n false s os e = refl

parts_of_op : (gs : List Op) (n : ℕ) (op : Op) → are_earlier n (parts_by (symbol_of gs n op) (out-Op op).operands) ≡ true
unfolding symbol_of
parts_of_op gs n op = parts_of_symbol n (are_earlier n (out-Op op).operands) (symbol_by gs n (out-Op op).what (out-Op op).operands (out-Op op).kind) (out-Op op).operands refl

parts_given-earlier : (gs : List Op) (n : ℕ) (o : Option Op) → are_earlier n (parts_given gs n o) ≡ true
parts_given-earlier gs n (Some op) = parts_of_op gs n op
parts_given-earlier gs n None = refl

parts_at-earlier : (gs : List Op) (n : ℕ) → are_earlier n (parts_at gs n) ≡ true
unfolding parts_at
parts_at-earlier gs n = parts_given-earlier gs n (slice_get gs n)

among : (gs : List Op) (n : ℕ) (vs : List ValueId) → are_earlier n vs ≡ true → flat_map (λ v. get_or (entries_before (tree_after gs) n) v.number []) vs ≡ trees_at gs vs
unfolding trees_at tree_at
among gs n [] e = refl
among gs n (v ∷ vs) e =
    let both = and_parts (nat_lt v.number n) (are_earlier n vs) e in
    ap (λ l. l ++ flat_map (λ v. get_or (entries_before (tree_after gs) n) v.number []) vs) (get_or-entries_before (tree_after gs) n v.number [] (ltb-true v.number n both.0)) ∙ ap (λ l. tree_at gs v.number ++ l) (among gs n vs both.1)

pub tree_at-parts : (gs : List Op) (n : ℕ) → tree_at gs n ≡ trees_at gs (parts_at gs n) ++ symbol_at gs n ∷ []
unfolding tree_at
tree_at-parts gs n = ap (λ l. l ++ symbol_at gs n ∷ []) (among gs n (parts_at gs n) (parts_at-earlier gs n))

-- ---- the loop

pub trees_at-append : (gs : List Op) (xs ys : List ValueId) → trees_at gs (xs ++ ys) ≡ trees_at gs xs ++ trees_at gs ys
unfolding trees_at
trees_at-append gs [] ys = refl
trees_at-append gs (x ∷ xs) ys = ap (λ l. tree_at gs x.number ++ l) (trees_at-append gs xs ys) ∙ sym (append_assoc (tree_at gs x.number) (trees_at gs xs) (trees_at gs ys))

trees_at-one : (gs : List Op) (v : ValueId) → trees_at gs (v ∷ []) ≡ tree_at gs v.number
unfolding trees_at
trees_at-one gs v = append-nil (tree_at gs v.number)

pub trees_at-none : (gs : List Op) → trees_at gs [] ≡ []
unfolding trees_at
trees_at-none gs = refl

-- the trees that are left, and what is written of the trees after them
pub written_more : (gs : List Op) (left rest more values : List ValueId) (v : ValueId) (back next : List Sym) → left ≡ rest ++ v ∷ [] → more ≡ rest ++ parts_at gs v.number → next ≡ back ++ symbol_at gs v.number ∷ [] →
    trees_at gs left ++ reverse back ≡ trees_at gs values → trees_at gs more ++ reverse next ≡ trees_at gs values
written_more gs left rest more values v back next split parts symbol whole =
    let before = trees_at gs rest in
    let below = trees_at gs (parts_at gs v.number) in
    let here : trees_at gs left ≡ before ++ (below ++ symbol_at gs v.number ∷ []) =
    ap (trees_at gs) split ∙ (trees_at-append gs rest (v ∷ []) ∙ ap (λ l. before ++ l) (trees_at-one gs v ∙ tree_at-parts gs v.number)) in
    let there : trees_at gs more ≡ before ++ below = ap (trees_at gs) parts ∙ trees_at-append gs rest (parts_at gs v.number) in
    let turned : reverse next ≡ symbol_at gs v.number ∷ reverse back = ap reverse symbol ∙ reverse-append back (symbol_at gs v.number ∷ []) in
    ap (λ l. l ++ reverse next) there
    ∙ (ap (λ l. (before ++ below) ++ l) turned
    ∙ (sym (append_assoc (before ++ below) (symbol_at gs v.number ∷ []) (reverse back)) ∙ (ap (λ l. l ++ reverse back) (append_assoc before below (symbol_at gs v.number ∷ [])) ∙ (ap (λ l. l ++ reverse back) (sym here) ∙ whole))))

-- where none is left
pub written_all : (gs : List Op) (left values : List ValueId) (back : List Sym) → left ≡ [] → trees_at gs left ++ reverse back ≡ trees_at gs values → reverse back ≡ trees_at gs values
written_all gs left values back none whole = sym (ap (λ l. l ++ reverse back) (ap (trees_at gs) none ∙ trees_at-none gs)) ∙ whole
