-- There are as many values as places, and a fault comes at one of the places.
use Rattle.std.proofs.Common.{◌≡◌, refl, ap, ℕ, suc, ◌<◌, List, [], ◌∷◌, map, length, All, Option, Some, None, IfSome, Result, Ok, Err, ℤ, pos, arith}
use Rattle.std.specs.Prelude.{◌/◌, ◌%◌, ◌+ℤ◌}
use Rattle.std.proofs.lemmas.List.{length-map}
use Rattle.std.proofs.lemmas.List.Elements.{All-nil, All-cons}
use Rattle.ws_base.specs.declared.fault.FaultName.{FaultName}
use Rattle.ws_base.specs.Numbers.{Exact, default_half, unary_value, call_value}
use Rattle.ws_base.specs.Outcomes.{Staged, ◌>>=◌, joined, each, rows}
use Rattle.ws_space.specs.declared.state.ArrayValue.{ArrayValue}
use Rattle.ws_space.specs.Shapes.{dims, place, count}
use Rattle.ws_space.specs.Subscripts.{stepped}
use Rattle.ws_space.specs.Values.{value_at, element}
use Rattle.ws_space.specs.Maps.{pair_value}
use Rattle.ws_space.specs.Sections.{here, beyond}
use Rattle.array_meaning.specs.declared.term.Term.{Term}
use Rattle.array_meaning.specs.declared.term.Term.TheVariants.{Scalar, Listed, Section', Call'}
use Rattle.array_meaning.specs.declared.term.Pick.{Pick}
use Rattle.array_meaning.specs.declared.term.Pick.TheVariants.{One, Full, Range, Vector}
use Rattle.array_meaning.specs.declared.term.Pick.TheBlock.{Row_of-Term as Terms, end_of-Term as end_terms, more_of-Term as more_terms, hidden-the_row-Pick-0, hidden-the_row-Term-2, Row_of-Pick as Picks, end_of-Pick as end_picks, more_of-Pick as more_picks}
use Rattle.array_meaning.specs.Terms.{unary_term, binary_term}
use Rattle.array_meaning.specs.Stage2.{vector_extent, operands, values, all_values, columns, array_of, targets}
use Rattle.term_eval.specs.declared.stop.Stop.{Stop}
use Rattle.term_eval.specs.declared.stop.Stop.TheVariants.{Memory, Failed}
use Rattle.term_eval.specs.Made.{Gives, IsAlong}
use Rattle.term_eval.specs.Lists as lists
use Rattle.term_eval.proofs.Columns.{rows-length, two}
use Rattle.term_eval.proofs.Forms.{columns_list, values_list}

-- as many values, or a fault at one of so many places
abbrev pub Along : {A : Type 0} → ℕ → Staged (List A) → Type 0
Along n (Ok xs) = length xs ≡ n
Along n (Err t) = t.element < n

-- columns of so many values, or a fault at one of so many places
abbrev pub AllAlong : ℕ → Staged (List (List ℤ)) → Type 0
AllAlong n (Ok cs) = All (λ c. length c ≡ n) cs
AllAlong n (Err t) = t.element < n

joined-along : {B : Type 0} (n : ℕ) (r : Result B FaultName) (rest : Staged (List B)) → Along n rest → Along (suc n) (joined r rest)
joined-along n (Err name) rest h = omega arith
joined-along n (Ok y) (Ok ys) h = ap suc h
joined-along n (Ok y) (Err t) h = omega (arith, h)

each-along : {A B : Type 0} (f : A → Result B FaultName) (xs : List A) → Along (length xs) (each f xs)
each-along f [] = refl
each-along f (x ∷ xs) = joined-along (length xs) (f x) (each f xs) (each-along f xs)

each-on : {A B : Type 0} (f : A → Result B FaultName) (n : ℕ) (xs : List A) → length xs ≡ n → Along n (each f xs)
each-on f n xs h = rw (← h) (each-along f xs)

-- an operation on rows
rows-along : {B : Type 0} (f : List ℤ → Result B FaultName) (at : List ℕ) (r : Staged (List (List ℤ))) → AllAlong (length at) r → Along (length at) (r >>= (λ cs. each f (rows at cs)))
rows-along f at (Ok cs) h = each-on f (length at) (rows at cs) (rows-length at cs h)
rows-along f at (Err t) h = h

unary-along : (f : ℤ → Exact) (n : ℕ) (r : Staged (List ℤ)) → Along n r → Along n (r >>= each f)
unary-along f n (Ok xs) h = each-on f n xs h
unary-along f n (Err t) h = h

binary-along : (f : List ℤ → Exact) (at : List ℕ) (r s : Staged (List ℤ)) → Along (length at) r → Along (length at) s → Along (length at) (r >>= (λ xs. s >>= (λ ys. each f (rows at (xs ∷ ys ∷ [])))))
binary-along f at (Ok xs) (Ok ys) h k = each-on f (length at) (rows at (xs ∷ ys ∷ [])) (rows-length at (xs ∷ ys ∷ []) (two (length at) xs ys h k))
binary-along f at (Ok xs) (Err t) h k = k
binary-along f at (Err t) s h k = h

column-along : (n : ℕ) (r : Staged (List ℤ)) (rest : Staged (List (List ℤ))) → Along n r → AllAlong n rest → AllAlong n (r >>= (λ xs. rest >>= (λ cs. Ok (xs ∷ cs))))
column-along n (Ok xs) (Ok cs) h k = All-cons (λ c. length c ≡ n) xs cs h k
column-along n (Ok xs) (Err t) h k = k
column-along n (Err t) rest h k = h

further : (n m : ℕ) (r : Staged (List (List ℤ))) → m ≡ n → AllAlong m r → AllAlong n r
further n m r e h = rw (← e) h

mutual
  pub values-along : (t : Term) (at : List ℕ) → Along (length at) (values t at)
  values-along (Scalar v) at = length-map at (λ _. v)
  values-along (Listed xs) at = length-map at (value_at xs)
  values-along (Section' a _ ps) at = rows-along (element a) at (columns ps at) (columns-along ps at)
  values-along (unary_term op t) at = unary-along (unary_value default_half op) (length at) (values t at) (values-along t at)
  values-along (binary_term op t u) at = binary-along (pair_value op) at (values t at) (values u at) (values-along t at) (values-along u at)
  values-along (Call' word _ ts) at = rows-along (call_value default_half word) at (all_values ts at) (all_values-along ts at)

  all_values-along : {m : _} (ts : Terms m) (at : List ℕ) → AllAlong (length at) (all_values ts at)
  all_values-along end_terms at = All-nil (λ c. length c ≡ length at)
  all_values-along (more_terms t ts) at = column-along (length at) (values t at) (all_values ts at) (values-along t at) (all_values-along ts at)

  columns-along : {m : _} (ps : Picks m) (at : List ℕ) → AllAlong (length at) (columns ps at)
  columns-along end_picks at = All-nil (λ c. length c ≡ length at)
  columns-along (more_picks (One i) ps) at = column-along (length at) (Ok (map (λ _. i) at)) (columns ps at) (length-map at (λ _. i)) (columns-along ps at)
  columns-along (more_picks (Full d) ps) at =
      column-along (length at) (Ok (map (λ p. d.lower +ℤ pos (p % d.extent)) at)) (columns ps (beyond d.extent at)) (length-map at (λ p. d.lower +ℤ pos (p % d.extent)))
      (further (length at) (length (beyond d.extent at)) (columns ps (beyond d.extent at)) (length-map at (λ p. p / d.extent)) (columns-along ps (beyond d.extent at)))
  columns-along (more_picks (Range t) ps) at =
      column-along (length at) (Ok (map (λ p. stepped t (p % count t)) at)) (columns ps (beyond (count t) at)) (length-map at (λ p. stepped t (p % count t)))
      (further (length at) (length (beyond (count t) at)) (columns ps (beyond (count t) at)) (length-map at (λ p. p / count t)) (columns-along ps (beyond (count t) at)))
  columns-along (more_picks (Vector t) ps) at =
      let n = vector_extent (operands t) in
      let same : length (here n at) ≡ length at = length-map at (λ p. p % n) in
      column-along (length at) (values t (here n at)) (columns ps (beyond n at)) (rw (← same) (values-along t (here n at)))
      (further (length at) (length (beyond n at)) (columns ps (beyond n at)) (length-map at (λ p. p / n)) (columns-along ps (beyond n at)))

-- the targets of a section
targets-along : (t : Term) (at : List ℕ) → IfSome (array_of t) (λ _. Along (length at) (targets t at))
targets-along (Scalar v) at = tt
targets-along (Listed xs) at = tt
targets-along (Section' a _ ps) at = rows-along (place (dims a.shape)) at (columns ps at) (columns-along ps at)
targets-along (unary_term op t) at = tt
targets-along (binary_term op t u) at = tt
targets-along (Call' word _ ts) at = tt

-- ---- over lists

pub list-columns-along : (ps : List Pick) (at : List ℕ) → AllAlong (length at) (lists.columns ps at)
list-columns-along ps at = rw (← columns_list ps at) (columns-along (hidden-the_row-Pick-0 ps) at)

pub list-values-along : (ts : List Term) (at : List ℕ) → AllAlong (length at) (lists.all_values ts at)
list-values-along ts at = rw (← values_list ts at) (all_values-along (hidden-the_row-Term-2 ts) at)

-- ---- what the code gives

pub is_along : {A : Type 0} (r : Result (List A) Stop) (n : ℕ) (outcome : Staged (List A)) → Gives r outcome → Along n outcome → IsAlong r n
is_along (Ok xs) n outcome g h = rw g at h
is_along (Err Memory) n outcome g h = tt
is_along (Err (Failed t)) n outcome g h = rw g at h

pub all_along : (cs : List (List ℤ)) (n : ℕ) (outcome : Staged (List (List ℤ))) → outcome ≡ Ok cs → AllAlong n outcome → All (λ c. length c ≡ n) cs
all_along cs n outcome g h = rw g at h

if_section : (o : Option ArrayValue) (r : Result (List ℕ) Stop) (n : ℕ) (outcome : Staged (List ℕ)) → Gives r outcome → IfSome o (λ _. Along n outcome) → IfSome o (λ _. IsAlong r n)
if_section None r n outcome g h = tt
if_section (Some a) r n outcome g h = is_along r n outcome g h

pub targets_along_of : (t : Term) (at : List ℕ) (r : Result (List ℕ) Stop) → Gives r (targets t at) → IfSome (array_of t) (λ _. IsAlong r (length at))
targets_along_of t at r g = if_section (array_of t) r (length at) (targets t at) g (targets-along t at)
