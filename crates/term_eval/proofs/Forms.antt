-- What the definitions say of terms at each form, over the lists that the code goes over.
use Rattle.std.proofs.Common.{◌≡◌, refl, ap, ℕ, List, [], ◌∷◌, ◌++◌, All, Ok}
use Rattle.ws_base.specs.declared.op.CallWord.{CallWord}
use Rattle.ws_base.specs.Outcomes.{◌>>=◌}
use Rattle.ws_space.specs.declared.state.ArrayValue.{ArrayValue}
use Rattle.ws_space.specs.Maps.{everywhere_same, call_map}
use Rattle.ws_space.specs.Shapes.{count}
use Rattle.ws_space.specs.Sections.{here, beyond, full_column, triplet_column, elements_at, places_at}
use Rattle.array_meaning.specs.declared.term.Term.{Term}
use Rattle.array_meaning.specs.declared.term.Term.TheVariants.{Section, Call}
use Rattle.array_meaning.specs.declared.term.Pick.{Pick}
use Rattle.array_meaning.specs.declared.term.Pick.TheVariants.{One, Full, Range, Vector}
use Rattle.array_meaning.specs.declared.term.Pick.TheBlock.{hidden-the_row-Pick-0, hidden-the_row-Term-2}
use Rattle.array_meaning.specs.Terms.{terms_open}
use Rattle.array_meaning.specs.Stage1.{picked}
use Rattle.array_meaning.specs.Stage2.{array_operand, vector_extent, operands, all_operands, extents, extent, values, all_values, columns, targets}
use Rattle.term_eval.specs.Limits.{IsFew, IsSmallArray, IsSmallTerm, AreSmallTerms, AreSmallPicks, IsSmallPick}
use Rattle.term_eval.specs.Lists as lists
use Rattle.term_eval.proofs.Rows.{each_in_row, row_of_each}

-- ---- lists

pub extents_list : (ps : List Pick) → extents (hidden-the_row-Pick-0 ps) ≡ picked ps
unfolding terms_open
extents_list [] = refl
extents_list (p ∷ ps) = ap (extent p) (extents_list ps)

pub operands_list : (ts : List Term) → all_operands (hidden-the_row-Term-2 ts) ≡ lists.all_operands ts
unfolding terms_open
operands_list [] = refl
operands_list (t ∷ ts) = ap (λ r. operands t ++ r) (operands_list ts)

pub values_list : (ts : List Term) (at : List ℕ) → all_values (hidden-the_row-Term-2 ts) at ≡ lists.all_values ts at
unfolding terms_open
values_list [] at = refl
values_list (t ∷ ts) at = ap (λ r. values t at >>= (λ xs. r >>= (λ rest. Ok (xs ∷ rest)))) (values_list ts at)

pub columns_list : (ps : List Pick) (at : List ℕ) → columns (hidden-the_row-Pick-0 ps) at ≡ lists.columns ps at
unfolding terms_open
columns_list [] at = refl
columns_list (One i ∷ ps) at = ap (λ r. r >>= (λ rest. Ok (everywhere_same i at ∷ rest))) (columns_list ps at)
columns_list (Full d ∷ ps) at = ap (λ r. r >>= (λ rest. Ok (full_column d at ∷ rest))) (columns_list ps (beyond d.extent at))
columns_list (Range t ∷ ps) at = ap (λ r. r >>= (λ rest. Ok (triplet_column t at ∷ rest))) (columns_list ps (beyond (count t) at))
columns_list (Vector t ∷ ps) at = ap (λ r. values t (here (vector_extent (operands t)) at) >>= (λ xs. r >>= (λ rest. Ok (xs ∷ rest)))) (columns_list ps (beyond (vector_extent (operands t)) at))

-- ---- forms

pub operands_section : (a : ArrayValue) (ps : List Pick) → operands (Section a ps) ≡ array_operand (picked ps)
unfolding terms_open
operands_section a ps = ap array_operand (extents_list ps)

pub operands_call : (w : CallWord) (ts : List Term) → operands (Call w ts) ≡ lists.all_operands ts
unfolding terms_open
operands_call w ts = operands_list ts

pub values_section : (a : ArrayValue) (ps : List Pick) (at : List ℕ) → values (Section a ps) at ≡ (lists.columns ps at >>= elements_at a at)
unfolding terms_open
values_section a ps at = ap (λ r. r >>= elements_at a at) (columns_list ps at)

pub values_call : (w : CallWord) (ts : List Term) (at : List ℕ) → values (Call w ts) at ≡ (lists.all_values ts at >>= call_map w at)
unfolding terms_open
values_call w ts at = ap (λ r. r >>= call_map w at) (values_list ts at)

pub targets_section : (a : ArrayValue) (ps : List Pick) (at : List ℕ) → targets (Section a ps) at ≡ (lists.columns ps at >>= places_at a at)
unfolding terms_open
targets_section a ps at = ap (λ r. r >>= places_at a at) (columns_list ps at)

-- ---- what is small

pub small_section : (a : ArrayValue) (ps : List Pick) → IsSmallTerm (Section a ps) → IsSmallArray a × All IsSmallPick ps
unfolding terms_open
small_section a ps h = (h.0, each_in_row IsSmallPick (λ qs. AreSmallPicks (hidden-the_row-Pick-0 qs)) (λ q qs k. k) ps h.2)

pub is_small_section : (a : ArrayValue) (ps : List Pick) → IsSmallArray a → IsFew (picked ps) → All IsSmallPick ps → IsSmallTerm (Section a ps)
unfolding terms_open
is_small_section a ps h few is = (h, rw extents_list few, row_of_each IsSmallPick (λ qs. AreSmallPicks (hidden-the_row-Pick-0 qs)) tt (λ q qs k. k) ps is)

pub small_call : (w : CallWord) (ts : List Term) → IsSmallTerm (Call w ts) → All IsSmallTerm ts
unfolding terms_open
small_call w ts h = each_in_row IsSmallTerm (λ us. AreSmallTerms (hidden-the_row-Term-2 us)) (λ u us k. k) ts h

pub is_small_call : (w : CallWord) (ts : List Term) → All IsSmallTerm ts → IsSmallTerm (Call w ts)
unfolding terms_open
is_small_call w ts h = row_of_each IsSmallTerm (λ us. AreSmallTerms (hidden-the_row-Term-2 us)) tt (λ u us k. k) ts h
