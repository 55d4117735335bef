-- Ranks of what designators with subscripts give.
use Rattle.std.proofs.Common.{◌≡◌, refl, sym, ap, ◌∙◌, subst, ℕ, ◌+◌, ◌<◌, Bool, true, false, List, [], ◌∷◌, length, nat_lt, Ok, IfOk, arith, if◌then◌else◌}
use Rattle.ws_base.specs.Outcomes.{Staged, scalar_of, ◌>>=◌, trouble}
use Rattle.ws_base.specs.declared.fault.FaultName.TheVariants.{TooLarge}
use Rattle.ws_space.specs.declared.shape.Dim.{Dim}
use Rattle.ws_space.specs.declared.state.ArrayValue.{ArrayValue}
use Rattle.ws_space.specs.declared.shape.TheConstants.{ELEMENT_LIMIT}
use Rattle.ws_space.specs.Shapes.{Extents, dims, size}
use Rattle.ws_space.specs.Values.{element}
use Rattle.ws_space.specs.Sections.{limited, checked_subscript, checked_triplet}
use Rattle.array_meaning.specs.declared.term.Term.{Term}
use Rattle.array_meaning.specs.declared.term.Term.TheVariants.{Scalar, Listed, Section', Unary', Binary', Call', Section}
use Rattle.array_meaning.specs.declared.term.Pick.{Pick}
use Rattle.array_meaning.specs.declared.term.Pick.TheVariants as pick
use Rattle.array_meaning.specs.declared.term.Pick.TheBlock.{hidden-the_row-Pick-0}
use Rattle.array_meaning.specs.Terms.{terms_open}
use Rattle.array_meaning.specs.Stage1.{subscript, checked_pick, checked, picked, selected, only, section_or_element, designator}
use Rattle.array_meaning.specs.Stage2.{operands, extent, extents, array_operand, whole}
use Rattle.array_meaning.proofs.Chains.{after_each, after_fact}
use Rattle.where_laws.specs.Laws.{HaveRank}
use Rattle.where_laws.proofs.Ranked.{HasRank}
use Rattle.where_laws.proofs.NamesRanked.{section_ranked, operand_ranked}

-- ---- picks

-- how many dimensions a pick leaves
abbrev pub added : Pick → ℕ
added (pick.One i) = 0
added (pick.Full d) = 1
added (pick.Range t) = 1
added (pick.Vector t) = 1

extent-length : (p : Pick) (ns : Extents) → length (extent p ns) ≡ added p + length ns
extent-length (pick.One i) ns = omega arith
extent-length (pick.Full d) ns = omega arith
extent-length (pick.Range t) ns = omega arith
extent-length (pick.Vector t) ns = omega arith

pub picked-length : (p : Pick) (ps : List Pick) → length (picked (p ∷ ps)) ≡ added p + length (picked ps)
picked-length p ps = extent-length p (picked ps)

rows-extents : (ps : List Pick) → extents (hidden-the_row-Pick-0 ps) ≡ picked ps
unfolding terms_open
rows-extents [] = refl
rows-extents (p ∷ ps) = ap (extent p) (rows-extents ps)

section_operands : (a : ArrayValue) (ps : List Pick) → operands (Section a ps) ≡ array_operand (picked ps)
unfolding terms_open
section_operands a ps = ap array_operand (rows-extents ps)

pick_checked : (d : Dim) (p : Pick) → IfOk (checked_pick d p) (λ q. added q ≡ added p)
pick_checked d (pick.One i) = after_each (λ q. added q ≡ 0) (checked_subscript d i) (λ j. Ok (pick.One j)) (λ j. refl)
pick_checked d (pick.Full e) = refl
pick_checked d (pick.Range t) = after_each (λ q. added q ≡ 1) (checked_triplet d t) (λ u. Ok (pick.Range u)) (λ u. refl)
pick_checked d (pick.Vector t) = refl

checked_picked : (ds : List Dim) (ps : List Pick) → length ps ≡ length ds → IfOk (checked ds ps) (λ qs. length (picked qs) ≡ length (picked ps))
checked_picked [] [] h = refl
checked_picked [] (p ∷ ps) h = absurd (omega (arith, h))
checked_picked (d ∷ ds) [] h = absurd (omega (arith, h))
checked_picked (d ∷ ds) (p ∷ ps) h =
    let P : List Pick → Type 0 = λ qs. length (picked qs) ≡ length (picked (p ∷ ps)) in
    after_fact (λ q. added q ≡ added p) P (checked_pick d p) (λ q. checked ds ps >>= (λ qs. Ok (q ∷ qs))) (pick_checked d p)
    (λ q same. after_fact (λ qs. length (picked qs) ≡ length (picked ps)) P (checked ds ps) (λ qs. Ok (q ∷ qs)) (checked_picked ds ps (omega (arith, h)))
    (λ qs rest. let new = picked-length q qs in let old = picked-length p ps in omega (arith, same, rest, new, old)))

-- ---- what they select

selection_ranked : (a : ArrayValue) (ps : List Pick) (n : ℕ) (es : Extents) → picked ps ≡ es → length es ≡ n → IfOk (section_or_element es a ps) (HasRank n)
selection_ranked a ps n [] is long = after_each (HasRank n) (scalar_of (element a (only ps))) (λ v. Ok (Scalar v)) (λ v. sym long)
selection_ranked a ps n (m ∷ ms) is long =
    let low : 0 < n = omega (arith, long) in
    section_ranked a ps n low (subst (HaveRank n) (sym (section_operands a ps ∙ ap array_operand is)) (operand_ranked (m ∷ ms) n long low))

pub designator_ranked : (a : ArrayValue) (ps : List Pick) (n : ℕ) → length ps ≡ length (dims a.shape) → length (picked ps) ≡ n → IfOk (designator a ps) (HasRank n)
designator_ranked a ps n many long =
    let P : List Pick → Type 0 = λ qs. length (picked qs) ≡ length (picked ps) in
    let fine : IfOk (selected a ps) P =
    after_fact P P (checked (dims a.shape) ps) (λ qs. limited (picked qs) qs) (checked_picked (dims a.shape) ps many) (λ qs same. keeps qs same (nat_lt ELEMENT_LIMIT (size (picked qs)))) in
    after_fact P (HasRank n) (selected a ps) (λ qs. section_or_element (picked qs) a qs) fine (λ qs same. selection_ranked a qs n (picked qs) refl (same ∙ long))
  where
    keeps : (qs : List Pick) → length (picked qs) ≡ length (picked ps) → (b : Bool) → IfOk (let r : Staged (List Pick) = if b then trouble TooLarge else Ok qs in r) (λ x. length (picked x) ≡ length (picked ps))
    keeps qs same true = tt
    keeps qs same false = same

-- ---- a subscript that is no triplet

-- it leaves a dimension where its rank is not 0
abbrev pub Leaves : ℕ → ℕ → Pick → Type 0
Leaves c n p = added p + c ≡ (if nat_lt 0 n then c + 1 else c)

one_more : (c n m : ℕ) → 0 < n → m ≡ 1 → m + c ≡ (if nat_lt 0 n then c + 1 else c)
one_more c n m low is = let some : nat_lt 0 n ≡ true = grind (arith, low) in rw some (omega (arith, is))

no_more : (c n : ℕ) → n ≡ 0 → 0 + c ≡ (if nat_lt 0 n then c + 1 else c)
no_more c n is = let none : nat_lt 0 n ≡ false = grind (arith, is) in rw none (omega arith)

pub subscript_leaves : (b : Bool) (c n : ℕ) (t : Term) → HasRank n t → IfOk (subscript b t) (Leaves c n)
subscript_leaves b c n (Scalar v) h = no_more c n h
subscript_leaves true c n (Listed xs) h = one_more c n 1 h.0 refl
subscript_leaves true c n (Section' a i ps) h = one_more c n 1 h.0 refl
subscript_leaves true c n (Unary' op i ts) h = one_more c n 1 h.0 refl
subscript_leaves true c n (Binary' op i ts j us) h = one_more c n 1 h.0 refl
subscript_leaves true c n (Call' w i ts) h = one_more c n 1 h.0 refl
subscript_leaves false c n (Listed xs) h = after_each (Leaves c n) (whole (Listed xs)) (λ ys. Ok (pick.Vector (Listed ys))) (λ ys. one_more c n 1 h.0 refl)
subscript_leaves false c n (Section' a i ps) h = after_each (Leaves c n) (whole (Section' a i ps)) (λ ys. Ok (pick.Vector (Listed ys))) (λ ys. one_more c n 1 h.0 refl)
subscript_leaves false c n (Unary' op i ts) h = after_each (Leaves c n) (whole (Unary' op i ts)) (λ ys. Ok (pick.Vector (Listed ys))) (λ ys. one_more c n 1 h.0 refl)
subscript_leaves false c n (Binary' op i ts j us) h = after_each (Leaves c n) (whole (Binary' op i ts j us)) (λ ys. Ok (pick.Vector (Listed ys))) (λ ys. one_more c n 1 h.0 refl)
subscript_leaves false c n (Call' w i ts) h = after_each (Leaves c n) (whole (Call' w i ts)) (λ ys. Ok (pick.Vector (Listed ys))) (λ ys. one_more c n 1 h.0 refl)
