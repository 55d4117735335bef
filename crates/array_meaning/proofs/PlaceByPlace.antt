-- The values of an expression over a list of places are those at each place alone.
use Rattle.std.proofs.Common.{◌≡◌, refl, sym, ap, ◌∙◌, ℕ, List, [], ◌∷◌, map, Option, Some, None, Ok, Err, ℤ}
use Rattle.std.specs.Prelude.{◌/◌, ◌%◌, ◌+ℤ◌, pos}
use mathlib.Core.Path.{fun_ext}
use Rattle.ws_base.specs.declared.op.BinOp.{BinOp}
use Rattle.ws_base.specs.Numbers.{Exact, default_half, unary_value, call_value}
use Rattle.ws_base.specs.Outcomes.{Staged, ◌>>=◌, joined, each, rows, pair_up}
use Rattle.ws_space.specs.Shapes.{count}
use Rattle.ws_space.specs.Values.{value_at, element}
use Rattle.ws_space.specs.Maps.{pair_value}
use Rattle.ws_space.specs.Subscripts.{stepped}
use Rattle.ws_space.specs.Sections.{here, beyond}
use Rattle.array_meaning.specs.declared.term.Term.{Term}
use Rattle.array_meaning.specs.declared.term.Term.TheVariants.{Scalar, Listed, Section', Call'}
use Rattle.array_meaning.specs.declared.term.Pick.TheVariants.{One, Full, Range, Vector}
use Rattle.array_meaning.specs.Terms.{Terms, end_terms, more_terms, Picks, end_picks, more_picks, unary_term, binary_term}
use Rattle.array_meaning.specs.Stage2.{operands, vector_extent, values, all_values, columns}
use Rattle.array_meaning.specs.Laws.{got, first_and, together, only_one, alone, ValuesPlaceByPlace}

-- ---- lists of values that may be missing

abbrev pub then_maybe : {A B : Type 0} → Option A → (A → Option B) → Option B
then_maybe (Some x) f = f x
then_maybe None f = None

-- a column before rows
abbrev pub beside : {A : Type 0} → Option (List A) → Option (List (List A)) → Option (List (List A))
beside (Some c) (Some rs) = Some (pair_up c rs)
beside _ _ = None

map-map : {A B C : Type 0} (g : B → C) (f : A → B) (xs : List A) → map g (map f xs) ≡ map (λ x. g (f x)) xs
map-map g f [] = refl
map-map g f (x ∷ xs) = ap (λ ys. g (f x) ∷ ys) (map-map g f xs)

-- every value is there
pub together-there : {A B : Type 0} (f : A → B) (xs : List A) → together (map (λ x. Some (f x)) xs) ≡ Some (map f xs)
together-there f [] = refl
together-there f (x ∷ xs) = ap (first_and (Some (f x))) (together-there f xs)

first_beside : {A : Type 0} (c : Option A) (r : Option (List A)) (cs : Option (List A)) (rs : Option (List (List A))) → first_and (first_and c r) (beside cs rs) ≡ beside (first_and c cs) (first_and r rs)
first_beside (Some c) (Some r) (Some cs) (Some rs) = refl
first_beside (Some c) (Some r) (Some cs) None = refl
first_beside (Some c) (Some r) None (Some rs) = refl
first_beside (Some c) (Some r) None None = refl
first_beside (Some c) None (Some cs) rs = refl
first_beside (Some c) None None rs = refl
first_beside None r cs rs = none (beside cs rs) (first_and r rs) where
  none : {A : Type 0} (p q : Option (List (List A))) → first_and None p ≡ beside None q
  none p q = refl

-- a row at each place from the column and the other rows
together-beside : {X A : Type 0} (h : X → Option A) (g : X → Option (List A)) (at : List X) →
    together (map (λ p. first_and (h p) (g p)) at) ≡ beside (together (map h at)) (together (map g at))
together-beside h g [] = refl
together-beside h g (p ∷ at) = ap (first_and (first_and (h p) (g p))) (together-beside h g at) ∙ first_beside (h p) (g p) (together (map h at)) (together (map g at))

first_then : {A B : Type 0} (f : A → Option B) (x : Option A) (xs : Option (List A)) →
    first_and (then_maybe x f) (then_maybe xs (λ ys. together (map f ys))) ≡ then_maybe (first_and x xs) (λ ys. together (map f ys))
first_then f (Some x) (Some xs) = refl
first_then f (Some x) None = lost (f x) where
  lost : {B : Type 0} (y : Option B) → first_and y None ≡ None
  lost (Some y) = refl
  lost None = refl
first_then f None (Some xs) = lost (together (map f xs)) where
  lost : {B : Type 0} (ys : Option (List B)) → first_and None ys ≡ None
  lost ys = refl
first_then f None None = refl

-- one operation more at each place
together-then : {X A B : Type 0} (g : X → Option A) (f : A → Option B) (at : List X) →
    together (map (λ p. then_maybe (g p) f) at) ≡ then_maybe (together (map g at)) (λ ys. together (map f ys))
together-then g f [] = refl
together-then g f (p ∷ at) = ap (first_and (then_maybe (g p) f)) (together-then g f at) ∙ first_then f (g p) (together (map g at))

-- ---- operations

got-bind : {A B : Type 0} (r : Staged A) (f : A → Staged B) → got (r >>= f) ≡ then_maybe (got r) (λ x. got (f x))
got-bind (Ok x) f = refl
got-bind (Err t) f = refl

got-joined : {B : Type 0} (r : _) (rest : Staged (List B)) → got (joined r rest) ≡ first_and (got r) (got rest)
got-joined (Err n) rest = refl
got-joined (Ok y) (Ok ys) = refl
got-joined (Ok y) (Err t) = refl

pub got-each : {A B : Type 0} (f : A → _) (xs : List A) → got (each {A = A} {B = B} f xs) ≡ together (map (λ x. got (f x)) xs)
got-each f [] = refl
got-each f (x ∷ xs) = got-joined (f x) (each f xs) ∙ ap (first_and (got (f x))) (got-each f xs)

-- an operation on rows, of which it is known what each place has
pub each-on : {X A : Type 0} (g : X → Option A) (f : A → Exact) (at : List X) (r : Staged (List A)) → got r ≡ together (map g at) →
    got (r >>= each f) ≡ together (map (λ p. then_maybe (g p) (λ x. got (f x))) at)
each-on g f at r h =
    got-bind r (each f) ∙ ap (λ k. then_maybe (got r) k) (fun_ext (λ xs. got-each f xs)) ∙ ap (λ o. then_maybe o (λ xs. together (map (λ x. got (f x)) xs))) h ∙ sym (together-then g (λ x. got (f x)) at)

bind-assoc : {A B C : Type 0} (r : Staged A) (f : A → Staged B) (g : B → Staged C) → (r >>= f >>= g) ≡ (r >>= (λ x. f x >>= g))
bind-assoc (Ok x) f g = refl
bind-assoc (Err t) f g = refl

-- ---- columns as rows

abbrev pub in_rows : {X : Type 0} → List X → Staged (List (List ℤ)) → Staged (List (List ℤ))
in_rows at r = r >>= (λ cs. Ok (rows at cs))

rows-map : {X Y : Type 0} (h : X → Y) (at : List X) (cs : List (List ℤ)) → rows (map h at) cs ≡ rows at cs
rows-map h at [] = map-map (λ _. []) h at
rows-map h at (c ∷ cs) = ap (pair_up c) (rows-map h at cs)

in_rows-map : {X Y : Type 0} (h : X → Y) (at : List X) (r : Staged (List (List ℤ))) → in_rows (map h at) r ≡ in_rows at r
in_rows-map h at (Ok cs) = ap (λ rs. Ok rs) (rows-map h at cs)
in_rows-map h at (Err t) = refl

got-beside : {X : Type 0} (at : List X) (c : Staged (List ℤ)) (r : Staged (List (List ℤ))) →
    got (in_rows at (c >>= (λ xs. r >>= (λ rest. Ok (xs ∷ rest))))) ≡ beside (got c) (got (in_rows at r))
got-beside at (Ok xs) (Ok rest) = refl
got-beside at (Ok xs) (Err t) = refl
got-beside at (Err t) (Ok rest) = refl
got-beside at (Err t) (Err u) = refl

-- a column, of which it is known what each place has, before others
pub column-on : {X : Type 0} (h : X → Option ℤ) (g : X → Option (List ℤ)) (at : List X) (c : Staged (List ℤ)) (r : Staged (List (List ℤ))) →
    got c ≡ together (map h at) → got (in_rows at r) ≡ together (map g at) →
    got (in_rows at (c >>= (λ xs. r >>= (λ rest. Ok (xs ∷ rest))))) ≡ together (map (λ p. first_and (h p) (g p)) at)
column-on h g at c r e f = got-beside at c r ∙ ap (λ o. beside o (got (in_rows at r))) e ∙ ap (beside (together (map h at))) f ∙ sym (together-beside h g at)

pub no_columns : {X : Type 0} (at : List X) → got (in_rows at (Ok [])) ≡ together (map (λ p. Some []) at)
no_columns at = sym (together-there (λ _. []) at)

-- ---- what a term has at one place

abbrev mutual
  value_there : Term → ℕ → Option ℤ
  value_there (Scalar v) p = Some v
  value_there (Listed xs) p = Some (value_at xs p)
  value_there (Section' a _ ps) p = then_maybe (subscripts_there ps p) (λ is. got (element a is))
  value_there (unary_term op t) p = then_maybe (value_there t p) (λ x. got (unary_value default_half op x))
  value_there (binary_term op t u) p = then_maybe (first_and (value_there t p) (first_and (value_there u p) (Some []))) (λ r. got (pair_value op r))
  value_there (Call' word _ ts) p = then_maybe (values_there ts p) (λ r. got (call_value default_half word r))

  values_there : {m : _} → Terms m → ℕ → Option (List ℤ)
  values_there end_terms p = Some []
  values_there (more_terms t ts) p = first_and (value_there t p) (values_there ts p)

  subscripts_there : {m : _} → Picks m → ℕ → Option (List ℤ)
  subscripts_there end_picks p = Some []
  subscripts_there (more_picks (One i) ps) p = first_and (Some i) (subscripts_there ps p)
  subscripts_there (more_picks (Full d) ps) p = first_and (Some (d.lower +ℤ pos (p % d.extent))) (subscripts_there ps (p / d.extent))
  subscripts_there (more_picks (Range t) ps) p = first_and (Some (stepped t (p % count t))) (subscripts_there ps (p / count t))
  subscripts_there (more_picks (Vector t) ps) p = first_and (value_there t (p % vector_extent (operands t))) (subscripts_there ps (p / vector_extent (operands t)))

pub pairs : {X : Type 0} (op : BinOp) (at : List X) (r s : Staged (List ℤ)) →
    (r >>= (λ xs. s >>= (λ ys. each (pair_value op) (rows at (xs ∷ ys ∷ []))))) ≡ (in_rows at (r >>= (λ xs. (s >>= (λ ys. Ok [] >>= (λ rest. Ok (ys ∷ rest)))) >>= (λ rest. Ok (xs ∷ rest)))) >>= each (pair_value op))
pairs op at (Ok xs) (Ok ys) = refl
pairs op at (Ok xs) (Err t) = refl
pairs op at (Err t) s = refl

-- the rest of a section, whose places lie further apart
further : (g : ℕ → Option (List ℤ)) (n : ℕ) (at : List ℕ) (r : Staged (List (List ℤ))) → got (in_rows (beyond n at) r) ≡ together (map g (beyond n at)) → got (in_rows at r) ≡ together (map (λ p. g (p / n)) at)
further g n at r h = ap got (sym (in_rows-map (λ p. p / n) at r)) ∙ h ∙ ap together (map-map g (λ p. p / n) at)

pub rows_of : {X : Type 0} (f : List ℤ → Exact) (at : List X) (r : Staged (List (List ℤ))) → (r >>= (λ cs. each f (rows at cs))) ≡ (in_rows at r >>= each f)
rows_of f at (Ok cs) = refl
rows_of f at (Err t) = refl

mutual
  value-law : (t : Term) (at : List ℕ) → got (values t at) ≡ together (map (value_there t) at)
  value-law (Scalar v) at = sym (together-there (λ _. v) at)
  value-law (Listed xs) at = sym (together-there (value_at xs) at)
  value-law (Section' a _ ps) at = ap got (rows_of (element a) at (columns ps at)) ∙ each-on (subscripts_there ps) (element a) at (in_rows at (columns ps at)) (columns-law ps at)
  value-law (unary_term op t) at = each-on (value_there t) (unary_value default_half op) at (values t at) (value-law t at)
  value-law (binary_term op t u) at =
      ap got (pairs op at (values t at) (values u at))
      ∙ each-on (λ p. first_and (value_there t p) (first_and (value_there u p) (Some []))) (pair_value op) at _
      (column-on (value_there t) (λ p. first_and (value_there u p) (Some [])) at (values t at) (values u at >>= (λ ys. Ok [] >>= (λ rest. Ok (ys ∷ rest)))) (value-law t at)
      (column-on (value_there u) (λ p. Some []) at (values u at) (Ok []) (value-law u at) (no_columns at)))
  value-law (Call' word _ ts) at = ap got (rows_of (call_value default_half word) at (all_values ts at)) ∙ each-on (values_there ts) (call_value default_half word) at (in_rows at (all_values ts at)) (arguments-law ts at)

  arguments-law : {m : _} (ts : Terms m) (at : List ℕ) → got (in_rows at (all_values ts at)) ≡ together (map (values_there ts) at)
  arguments-law end_terms at = no_columns at
  arguments-law (more_terms t ts) at = column-on (value_there t) (values_there ts) at (values t at) (all_values ts at) (value-law t at) (arguments-law ts at)

  columns-law : {m : _} (ps : Picks m) (at : List ℕ) → got (in_rows at (columns ps at)) ≡ together (map (subscripts_there ps) at)
  columns-law end_picks at = no_columns at
  columns-law (more_picks (One i) ps) at = column-on (λ p. Some i) (subscripts_there ps) at (Ok (map (λ _. i) at)) (columns ps at) (sym (together-there (λ _. i) at)) (columns-law ps at)
  columns-law (more_picks (Full d) ps) at =
      column-on (λ p. Some (d.lower +ℤ pos (p % d.extent))) (λ p. subscripts_there ps (p / d.extent)) at (Ok (map (λ p. d.lower +ℤ pos (p % d.extent)) at)) (columns ps (beyond d.extent at))
      (sym (together-there (λ p. d.lower +ℤ pos (p % d.extent)) at)) (further (subscripts_there ps) d.extent at (columns ps (beyond d.extent at)) (columns-law ps (beyond d.extent at)))
  columns-law (more_picks (Range t) ps) at =
      column-on (λ p. Some (stepped t (p % count t))) (λ p. subscripts_there ps (p / count t)) at (Ok (map (λ p. stepped t (p % count t)) at)) (columns ps (beyond (count t) at))
      (sym (together-there (λ p. stepped t (p % count t)) at)) (further (subscripts_there ps) (count t) at (columns ps (beyond (count t) at)) (columns-law ps (beyond (count t) at)))
  columns-law (more_picks (Vector t) ps) at =
      let n = vector_extent (operands t) in
      column-on (λ p. value_there t (p % n)) (λ p. subscripts_there ps (p / n)) at (values t (here n at)) (columns ps (beyond n at))
      (value-law t (here n at) ∙ ap together (map-map (value_there t) (λ p. p % n) at)) (further (subscripts_there ps) n at (columns ps (beyond n at)) (columns-law ps (beyond n at)))

-- ---- the law

pub one_alone : (x : Option ℤ) → only_one (first_and x (Some [])) ≡ x
one_alone (Some x) = refl
one_alone None = refl

alone-there : (t : Term) (p : ℕ) → alone t p ≡ value_there t p
alone-there t p = ap only_one (value-law t (p ∷ [])) ∙ one_alone (value_there t p)

pub law : ValuesPlaceByPlace
law t places = value-law t places ∙ ap (λ f. together (map f places)) (fun_ext (λ p. sym (alone-there t p)))
