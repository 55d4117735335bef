-- Where the words of a core stand, and what a write of one does.
use Rattle.std.proofs.Common.{◌≡◌, ℕ, zero, suc, ◌+◌, ◌*◌, ◌<◌, List, [], ◌∷◌, ◌++◌, length, get_or, set, sym, refl, ap, ◌∙◌, arith}
use Rattle.team_core.specs.declared.state.Counts.{Counts}
use Rattle.team_core.specs.declared.state.CoreState.{CoreState}
use Rattle.team_core.specs.Core.{blank, counts_at}
use Rattle.phase_board.specs.Rule.{four, count_words, words_of}

append_left : (xs ys : List ℕ) (i d : ℕ) → i < length xs → get_or (xs ++ ys) i d ≡ get_or xs i d
append_left [] ys i d h = absurd (omega arith)
append_left (x ∷ xs) ys zero d h = refl
append_left (x ∷ xs) ys (suc i) d h = append_left xs ys i d (omega arith)

append_right : (xs ys : List ℕ) (i j d : ℕ) → i ≡ length xs + j → get_or (xs ++ ys) i d ≡ get_or ys j d
append_right [] ys i j d h = ap (λ (n : ℕ). get_or ys n d) (let e : i ≡ j = omega arith in e)
append_right (x ∷ xs) ys zero j d h = absurd (omega arith)
append_right (x ∷ xs) ys (suc i) j d h = append_right xs ys i j d (omega arith)

set_left : (xs ys : List ℕ) (i v : ℕ) → i < length xs → set (xs ++ ys) i v ≡ set xs i v ++ ys
set_left [] ys i v h = absurd (omega arith)
set_left (x ∷ xs) ys zero v h = refl
set_left (x ∷ xs) ys (suc i) v h = λ k. x ∷ set_left xs ys i v (omega arith) k

set_right : (xs ys : List ℕ) (i j v : ℕ) → i ≡ length xs + j → set (xs ++ ys) i v ≡ xs ++ set ys j v
set_right [] ys i j v h = ap (λ (n : ℕ). set ys n v) (let e : i ≡ j = omega arith in e)
set_right (x ∷ xs) ys zero j v h = absurd (omega arith)
set_right (x ∷ xs) ys (suc i) j v h = λ k. x ∷ set_right xs ys i j v (omega arith) k

count_at : (ns : List Counts) (t i j : ℕ) → i ≡ 4 * t + j → j < 4 → t < length ns → get_or (count_words ns) i 0 ≡ get_or (four (get_or ns t blank)) j 0
count_at [] t i j e l h = absurd (omega arith)
count_at (n ∷ ns) zero zero zero e l h = refl
count_at (n ∷ ns) zero (suc zero) (suc zero) e l h = refl
count_at (n ∷ ns) zero (suc (suc zero)) (suc (suc zero)) e l h = refl
count_at (n ∷ ns) zero (suc (suc (suc zero))) (suc (suc (suc zero))) e l h = refl
count_at (n ∷ ns) (suc t) (suc (suc (suc (suc i)))) j e l h = count_at ns t i j (omega arith) l (omega arith)
count_at (n ∷ ns) t i j e l h = absurd (omega arith)

count_set : (ns : List Counts) (t i j v : ℕ) (n' : Counts) → i ≡ 4 * t + j → j < 4 → t < length ns → four n' ≡ set (four (get_or ns t blank)) j v → set (count_words ns) i v ≡ count_words (set ns t n')
count_set [] t i j v n' e l h q = absurd (omega arith)
count_set (n ∷ ns) zero i j v n' e l h q = here i j (omega arith) l q
  where
    first_four : (m : Counts) → count_words (m ∷ ns) ≡ four m ++ count_words ns
    first_four m = refl

    here : (i j : ℕ) → i ≡ j → j < 4 → four n' ≡ set (four n) j v → set (count_words (n ∷ ns)) i v ≡ count_words (n' ∷ ns)
    here i j e l q = set_left (four n) (count_words ns) i v (omega arith) ∙ (λ k. set (four n) (e k) v ++ count_words ns) ∙ (λ k. sym q k ++ count_words ns)
count_set (n ∷ ns) (suc t) (suc (suc (suc (suc i)))) j v n' e l h q = λ k. n.numbers.claimed ∷ n.numbers.finished ∷ n.numbers.arrived ∷ n.key ∷ count_set ns t i j v n' (omega arith) l (omega arith) q k
count_set (n ∷ ns) (suc t) zero j v n' e l h q = absurd (omega arith)
count_set (n ∷ ns) (suc t) (suc zero) j v n' e l h q = absurd (omega arith)
count_set (n ∷ ns) (suc t) (suc (suc zero)) j v n' e l h q = absurd (omega arith)
count_set (n ∷ ns) (suc t) (suc (suc (suc zero))) j v n' e l h q = absurd (omega arith)

pub cell_word : (k : CoreState) (i cell : ℕ) → i ≡ suc cell → cell < length k.cells → get_or (words_of k) i 0 ≡ get_or k.cells cell 0
cell_word k zero cell e h = absurd (omega arith)
cell_word k (suc i) cell e h = append_left k.cells (count_words k.counts) i 0 (omega arith) ∙ ap (λ (n : ℕ). get_or k.cells n 0) (let q : i ≡ cell = omega arith in q)

pub cell_set : (k : CoreState) (i cell v : ℕ) → i ≡ suc cell → cell < length k.cells → set (words_of k) i v ≡ words_of (record k { cells = set k.cells cell v })
cell_set k zero cell v e h = absurd (omega arith)
cell_set k (suc i) cell v e h = λ z. 0 ∷ (set_left k.cells (count_words k.counts) i v (omega arith) ∙ ap (λ (n : ℕ). set k.cells n v ++ count_words k.counts) (let q : i ≡ cell = omega arith in q)) z

pub count_word : (k : CoreState) (i t j : ℕ) → i ≡ 1 + length k.cells + 4 * t + j → j < 4 → t < length k.counts → get_or (words_of k) i 0 ≡ get_or (four (counts_at k t)) j 0
count_word k zero t j e l h = absurd (omega arith)
count_word k (suc i) t j e l h = append_right k.cells (count_words k.counts) i (4 * t + j) 0 (omega arith) ∙ count_at k.counts t (4 * t + j) j refl l h

pub count_word_set : (k : CoreState) (i t j v : ℕ) (n' : Counts) → i ≡ 1 + length k.cells + 4 * t + j → j < 4 → t < length k.counts → four n' ≡ set (four (counts_at k t)) j v
    → set (words_of k) i v ≡ words_of (record k { counts = set k.counts t n' })
count_word_set k zero t j v n' e l h q = absurd (omega arith)
count_word_set k (suc i) t j v n' e l h q = λ z. 0 ∷ (set_right k.cells (count_words k.counts) i (4 * t + j) v (omega arith) ∙ (λ y. k.cells ++ count_set k.counts t (4 * t + j) j v n' refl l h q y)) z
