-- A loop that counts ELSEWHERE after ELSEWHERE, up to one without a mask.
use Rattle.std.proofs.Common.{◌≡◌, ap, sym, ◌∙◌, ℕ, ◌+◌, ◌<◌, ◌≤◌, Bool, true, false, if◌then◌else◌, List, [], ◌++◌, length, drop, get_or}
use Rattle.std.proofs.Math.ListN.{drop_of_length-le}
use Rattle.std.proofs.lemmas.List.{append-nil}
use Rattle.ws_tree.specs.declared.stmt.Else.{Else}
use Rattle.ws_types.specs.declared.types.Row.{Row}
use Rattle.ws_types.proofs.Appended.{front}
use Rattle.ws_counts.specs.declared.tally.Piece.{Piece}
use Rattle.ws_counts.specs.declared.tally.Tally.{Tally}
use Rattle.ws_counts.specs.Pieces as one
use Rattle.ws_counts.specs.Lists as lists
use Rattle.ws_counts.specs.Tallies.{tallied}
use Rattle.ws_counts.proofs.Tallied.{tallied-append, tallied-none}

abbrev pub IsLast : Else → Bool → Type 0
IsLast e last = (ps : List Piece) → one.unless_last e ps ≡ (if last then [] else ps)

pub next_else : (t : List Row) (inside : Bool) (es : List Else) (i : ℕ) (e : Else) (last : Bool) (k now : Tally) →
    i < length es → e ≡ get_or es i e → IsLast e last → last ≡ false → now ≡ tallied k (one.else_pieces t inside e) →
    tallied k (lists.elses_pieces t inside (drop i es)) ≡ tallied now (lists.elses_pieces t inside (drop (i + 1) es))
next_else t inside es i e last k now within is lasts test step =
    let more : List Piece = lists.elses_pieces t inside (drop (i + 1) es) in
    ap (λ l. tallied k (lists.elses_pieces t inside l)) (front es i e within is)
    ∙ ap (λ r. tallied k (one.else_pieces t inside e ++ r)) (lasts more ∙ ap (λ b. if b then [] else more) test)
    ∙ tallied-append k (one.else_pieces t inside e) more
    ∙ ap (λ g. tallied g more) (sym step)

pub last_else : (t : List Row) (inside : Bool) (es : List Else) (i : ℕ) (e : Else) (last : Bool) (k now : Tally) →
    i < length es → e ≡ get_or es i e → IsLast e last → last ≡ true → now ≡ tallied k (one.else_pieces t inside e) →
    tallied k (lists.elses_pieces t inside (drop i es)) ≡ now
last_else t inside es i e last k now within is lasts test step =
    let more : List Piece = lists.elses_pieces t inside (drop (i + 1) es) in
    ap (λ l. tallied k (lists.elses_pieces t inside l)) (front es i e within is)
    ∙ ap (λ r. tallied k (one.else_pieces t inside e ++ r)) (lasts more ∙ ap (λ b. if b then [] else more) test)
    ∙ ap (tallied k) (append-nil (one.else_pieces t inside e))
    ∙ sym step

pub no_else : (t : List Row) (inside : Bool) (es : List Else) (i : ℕ) (k : Tally) → length es ≤ i → tallied k (lists.elses_pieces t inside (drop i es)) ≡ k
no_else t inside es i k h = ap (λ l. tallied k (lists.elses_pieces t inside l)) (drop_of_length-le es h) ∙ tallied-none k
