-- In the block of a DO its variable is active. This changes no type, and no pieces.
use Rattle.std.proofs.Common.{◌≡◌, refl, sym, ap, ◌∙◌, not, ◌&&◌, ◌||◌, Bool, true, false, List, [], ◌∷◌, ◌++◌, length, Option, Some, None, if◌then◌else◌, bytes_eq}
use Rattle.std.proofs.lemmas.Slice.Eq.{bytes_eq-Decides}
use mathlib.Core.Former.{Count}
use Rattle.ws_base.specs.declared.op.CallWord.{CallWord}
use Rattle.ws_tree.specs.declared.expr.Expr.{Expr}
use Rattle.ws_tree.specs.declared.expr.Expr.TheVariants.{Number, TooWide, TooDeep, Truth, Named, Part', Call', Vector'}
use Rattle.ws_tree.specs.declared.expr.Sub.TheVariants as sub
use Rattle.ws_tree.specs.declared.stmt.Index.{Index}
use Rattle.ws_tree.specs.Trees.{Exprs, end_exprs, more_exprs, Subs, end_subs, more_subs, Given, absent, given, paren, unary, binary}
use Rattle.ws_types.specs.declared.types.Typed.{Typed}
use Rattle.ws_types.specs.declared.types.Entry.{Entry}
use Rattle.ws_types.specs.declared.types.Standing.{Standing}
use Rattle.ws_types.specs.declared.types.Standing.TheVariants.{Declared, Active, Index as Index', Barred}
use Rattle.ws_types.specs.declared.types.Row.{Row}
use Rattle.ws_types.specs.declared.types.Arguments.{Arguments}
use Rattle.ws_types.specs.declared.types.Subscripts.{Subscripts}
use Rattle.ws_types.specs.Names.{Name, standing_of, name_type, is_no_allocatable}
use Rattle.ws_types.specs.Operations.{unary_type, binary_type, part_type, vector_type, with_argument, no_arguments, no_subscripts, with_subscript, with_triplet, is_scalar, takes, is_inquiry, call_type, inquiry_type, inquired_type, is_allocated_word, is_outside_type, has_wide_dimension}
use Rattle.ws_types.specs.Expressions.{typed, arguments, subscripts, with_sub, is_sound, listed, how_many, first_standing, called_type}
use Rattle.ws_types.specs.Sections.{is_designator}
use Rattle.ws_types.specs.Tables.{with_indexes}
use Rattle.ws_counts.specs.declared.tally.Piece.{Piece}
use Rattle.ws_counts.specs.declared.tally.Piece.TheVariants as piece
use Rattle.ws_counts.specs.Pieces as p
use Rattle.ws_sema.specs.Statements.{activated, with_active}

-- of one type, and to be allocated alike
pub record AreAlike (a b : Option Standing) : Type 0 where
  pub type : name_type a ≡ name_type b
  pub free : is_no_allocatable a ≡ is_no_allocatable b

abbrev pub Alike : List Row → List Row → Type 0
Alike t u = (x : Name) → AreAlike (standing_of t x) (standing_of u x)

same_standing : (a : Option Standing) → AreAlike a a
same_standing a = record { type = refl; free = refl }

pub alike-self : (t : List Row) → Alike t t
alike-self t x = same_standing (standing_of t x)

first_alike : (b : Bool) (s : Standing) (o p : Option Standing) → AreAlike o p → AreAlike (if b then Some s else o) (if b then Some s else p)
first_alike true s o p h = same_standing (Some s)
first_alike false s o p h = h

pub indexes-alike : (s : Standing) (is : List Index) (t u : List Row) → Alike t u → Alike (with_indexes s is t) (with_indexes s is u)
indexes-alike s [] t u h x = h x
indexes-alike s (i ∷ is) t u h x = first_alike (bytes_eq i.name x) s (standing_of (with_indexes s is t) x) (standing_of (with_indexes s is u) x) (indexes-alike s is t u h x)

active_at : (b : Bool) (x y : Name) (e : Entry) (t u : List Row) → bytes_eq x y ≡ b → standing_of t x ≡ Some (Declared e) → Alike t u → AreAlike (if b then Some (Active e) else standing_of t y) (standing_of u y)
active_at true x y e t u same is h =
    let at : standing_of t y ≡ Some (Declared e) = ap (standing_of t) (sym ((bytes_eq-Decides x y).0 same)) ∙ is in
    let g = h y in
    record { type = ap name_type (sym at) ∙ g.type; free = ap is_no_allocatable (sym at) ∙ g.free }
active_at false x y e t u same is h = h y

activated_alike : (t u : List Row) (x : Name) (s : Option Standing) → standing_of t x ≡ s → Alike t u → Alike (activated t x s) u
activated_alike t u x (Some (Declared e)) is h y = active_at (bytes_eq x y) x y e t u refl is h
activated_alike t u x (Some (Active e)) is h y = h y
activated_alike t u x (Some Index') is h y = h y
activated_alike t u x (Some Barred) is h y = h y
activated_alike t u x None is h y = h y

pub active-alike : (t u : List Row) (x : Name) → Alike t u → Alike (with_active t x) u
active-alike t u x h = activated_alike t u x (standing_of t x) refl h

-- ---- types

module _ (t u : List Row) (h : Alike t u) (inside : Bool) where
  abbrev asked : CallWord → List Expr → Option Typed → Bool → Option Typed
  asked w es ty free = if not (is_allocated_word w) && is_outside_type ty es || is_allocated_word w && free || has_wide_dimension es then None else inquired_type w ty

  inquiry_alike : (w : CallWord) (es : List Expr) (a b : Option Standing) → AreAlike a b → inquiry_type w a es ≡ inquiry_type w b es
  unfolding inquiry_type
  inquiry_alike w es a b g = ap (λ ty. asked w es ty (is_no_allocatable a)) g.type ∙ ap (asked w es (name_type b)) g.free

  first_name_alike : (es : List Expr) → AreAlike (first_standing t es) (first_standing u es)
  first_name_alike (Named x ∷ es) = h x
  first_name_alike (Number n ∷ es) = same_standing None
  first_name_alike (TooWide ∷ es) = same_standing None
  first_name_alike (TooDeep ∷ es) = same_standing None
  first_name_alike (Truth b ∷ es) = same_standing None
  first_name_alike (Part' x c subs ∷ es) = same_standing None
  first_name_alike (Call' w c es ∷ fs) = same_standing None
  first_name_alike (Vector' c es ∷ fs) = same_standing None
  first_name_alike (paren e ∷ es) = same_standing None
  first_name_alike (unary op e ∷ es) = same_standing None
  first_name_alike (binary op a b ∷ es) = same_standing None
  first_name_alike [] = same_standing None

  called_alike : (w : CallWord) (es : List Expr) (a b : Arguments) → a ≡ b → called_type t inside w es a ≡ called_type u inside w es b
  called_alike w es a b e =
      ap (λ x. called_type t inside w es x) e
      ∙ ap (λ x. if takes w es then (if is_inquiry w then x else call_type inside w b) else None) (inquiry_alike w es (first_standing t es) (first_standing u es) (first_name_alike es))

  mutual
    pub typed-alike : (e : Expr) → typed t inside e ≡ typed u inside e
    typed-alike (Number n) = refl
    typed-alike TooWide = refl
    typed-alike TooDeep = refl
    typed-alike (Truth b) = refl
    typed-alike (Named x) = (h x).type
    typed-alike (Part' x c subs) =
        ap (λ ty. part_type ty (how_many subs) (subscripts t inside no_subscripts subs)) (h x).type
        ∙ ap (part_type (name_type (standing_of u x)) (how_many subs)) (subscripts-alike no_subscripts subs)
    typed-alike (Call' w c es) = called_alike w (listed es) (arguments t inside no_arguments es) (arguments u inside no_arguments es) (arguments-alike no_arguments es)
    typed-alike (Vector' c es) = ap (vector_type inside (length (listed es))) (arguments-alike no_arguments es)
    typed-alike (paren e) = typed-alike e
    typed-alike (unary op e) = ap (unary_type op) (typed-alike e)
    typed-alike (binary op a b) = ap (λ x. binary_type op x (typed t inside b)) (typed-alike a) ∙ ap (binary_type op (typed u inside a)) (typed-alike b)

    arguments-alike : {m : Count} (a : Arguments) (es : Exprs m) → arguments t inside a es ≡ arguments u inside a es
    arguments-alike a end_exprs = refl
    arguments-alike a (more_exprs e es) = arguments-alike (with_argument a (typed t inside e)) es ∙ ap (λ x. arguments u inside (with_argument a x) es) (typed-alike e)

    subscripts-alike : {m : Count} (s : Subscripts) (subs : Subs m) → subscripts t inside s subs ≡ subscripts u inside s subs
    subscripts-alike s end_subs = refl
    subscripts-alike s (more_subs (sub.One e) xs) = subscripts-alike (with_sub t inside s (sub.One e)) xs ∙ ap (λ x. subscripts u inside (with_subscript s x) xs) (typed-alike e)
    subscripts-alike s (more_subs (sub.Range' l k st) xs) =
        subscripts-alike (with_sub t inside s (sub.Range' l k st)) xs
        ∙ (ap (λ x. subscripts u inside (with_triplet s (x && is_sound t inside k && is_sound t inside st)) xs) (sound-alike l)
        ∙ (ap (λ x. subscripts u inside (with_triplet s (is_sound u inside l && x && is_sound t inside st)) xs) (sound-alike k)
        ∙ ap (λ x. subscripts u inside (with_triplet s (is_sound u inside l && is_sound u inside k && x)) xs) (sound-alike st)))

    sound-alike : (g : Given) → is_sound t inside g ≡ is_sound u inside g
    sound-alike absent = refl
    sound-alike (given e) = ap is_scalar (typed-alike e)

-- ---- pieces

whole-alike : (t u : List Row) → Alike t u → (inside : Bool) (e : Expr) → p.is_whole t inside e ≡ p.is_whole u inside e
unfolding p.is_whole
whole-alike t u h inside e = ap (λ ty. not (is_designator e) && p.is_vector ty) (typed-alike t u h inside e)

pub both-alike : (xs ys xs' ys' : List Piece) → xs ≡ xs' → ys ≡ ys' → xs ++ ys ≡ xs' ++ ys'
both-alike xs ys xs' ys' h g = ap (λ l. l ++ ys) h ∙ ap (λ l. xs' ++ l) g

module _ (t u : List Row) (h : Alike t u) (inside mask : Bool) where
  mutual
    pub pieces-alike : (e : Expr) → p.pieces t inside mask e ≡ p.pieces u inside mask e
    pieces-alike (Number n) = refl
    pieces-alike TooWide = refl
    pieces-alike TooDeep = refl
    pieces-alike (Truth b) = refl
    pieces-alike (Named x) = refl
    pieces-alike (Part' x c subs) = subs-alike subs
    pieces-alike (Call' w c es) = ap (λ l. p.call_pieces w ++ l) (all-alike es)
    pieces-alike (Vector' c es) = all-alike es
    pieces-alike (paren e) = pieces-alike e
    pieces-alike (unary op e) = ap (λ l. piece.Part ∷ l) (pieces-alike e)
    pieces-alike (binary op a b) = ap (λ l. piece.Part ∷ l) (both-alike _ _ _ _ (pieces-alike a) (pieces-alike b))

    all-alike : {m : Count} (es : Exprs m) → p.all_pieces t inside mask es ≡ p.all_pieces u inside mask es
    all-alike end_exprs = refl
    all-alike (more_exprs e es) = ap (λ l. piece.Part ∷ l) (both-alike _ _ _ _ (pieces-alike e) (all-alike es))

    subs-alike : {m : Count} (ss : Subs m) → p.subs_pieces t inside mask ss ≡ p.subs_pieces u inside mask ss
    subs-alike end_subs = refl
    subs-alike (more_subs (sub.One e) xs) = both-alike _ _ _ _ (both-alike _ _ _ _ (ap (p.subscript_pieces mask) (whole-alike t u h inside e)) (pieces-alike e)) (subs-alike xs)
    subs-alike (more_subs (sub.Range' l k st) xs) = both-alike _ _ _ _ (ap (λ x. piece.Part ∷ x) (both-alike _ _ _ _ (both-alike _ _ _ _ (held-alike l) (held-alike k)) (held-alike st))) (subs-alike xs)

    held-alike : (g : Given) → p.held_pieces t inside mask g ≡ p.held_pieces u inside mask g
    held-alike absent = refl
    held-alike (given e) = pieces-alike e

  pub given-alike : (o : Option Expr) → p.given_pieces t inside mask o ≡ p.given_pieces u inside mask o
  given-alike None = refl
  given-alike (Some e) = pieces-alike e
