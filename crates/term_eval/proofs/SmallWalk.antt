-- The first stage of a small expression leaves a small term.
use Rattle.std.proofs.Common.{◌≡◌, refl, ap, ℕ, suc, ◌≤◌, Bool, true, false, List, [], ◌∷◌, map, length, All, Option, Some, None, IfSome, Ok, IfOk, ℤ, pos, bytes_eq, arith}
use Rattle.std.specs.Prelude.{nat_lt, if◌then◌else◌}
use Rattle.std.proofs.lemmas.Bool.{lt-ltb, ltb-false}
use Rattle.std.proofs.lemmas.List.Elements.{All-nil, All-cons, All-head, All-tail}
use Rattle.ws_base.specs.declared.fault.FaultName.TheVariants.{TooLarge}
use Rattle.ws_base.specs.declared.op.BinOp.{BinOp}
use Rattle.ws_base.specs.declared.op.UnOp.{UnOp}
use Rattle.ws_base.specs.declared.op.UnOp.TheVariants as un
use Rattle.ws_base.specs.declared.op.CallWord.{CallWord}
use Rattle.ws_base.specs.declared.op.CallWord.TheVariants as word
use Rattle.ws_base.specs.Numbers.{default_half, exact, unary_value, binary_value, call_value, reduction}
use Rattle.ws_base.specs.Outcomes.{Staged, trouble, scalar_of, ◌>>=◌}
use Rattle.ws_space.specs.declared.shape.Dim.{Dim}
use Rattle.ws_space.specs.declared.shape.TheConstants.{ELEMENT_LIMIT}
use Rattle.ws_space.specs.declared.state.ArrayValue.{ArrayValue}
use Rattle.ws_space.specs.declared.state.VarState.{VarState}
use Rattle.ws_space.specs.declared.state.VarState.TheVariants as state
use Rattle.ws_space.specs.Inquiries.{dim_at, size_value, lower_bound, upper_bound}
use Rattle.ws_space.specs.Sections.{checked_subscript, checked_triplet, omitted_upper}
use Rattle.ws_space.specs.Shapes.{Extents, dims, extents_of, size}
use Rattle.ws_space.specs.Values.{element, state_of}
use Rattle.ws_tree.specs.declared.expr.Expr.{Expr}
use Rattle.ws_tree.specs.declared.expr.Expr.TheVariants.{Number, TooWide, TooDeep, Truth, Named, Part', Call', Vector'}
use Rattle.ws_tree.specs.declared.expr.Sub.{Sub}
use Rattle.ws_tree.specs.declared.expr.Sub.TheVariants as sub
use Rattle.ws_tree.specs.Trees.{Exprs, end_exprs, more_exprs, Subs, end_subs, more_subs, paren, unary, binary}
use Rattle.ws_tree.specs.Grammatical.{count}
use Rattle.array_meaning.specs.declared.world.World.{World}
use Rattle.array_meaning.specs.declared.world.Constant.{Constant}
use Rattle.array_meaning.specs.declared.term.Term.{Term}
use Rattle.array_meaning.specs.declared.term.Term.TheVariants.{Scalar, Listed, Section', Call' as CallOf'}
use Rattle.array_meaning.specs.declared.term.Pick.{Pick}
use Rattle.array_meaning.specs.declared.term.Pick.TheVariants as pick
use Rattle.array_meaning.specs.Terms.{terms_open, unary_term, binary_term}
use Rattle.ws_types.specs.Operations.{is_reduction, is_inquiry}
use Rattle.ws_types.specs.Sections.{is_designator}
use Rattle.array_meaning.specs.Stage1.{constant_of, allocated, variable, named, whole_array, checked_pick, checked, picked, selected, section_or_element, only, designator, unary_on, binary_on, with_scalar, scalars, elemental_on, reduced, called, is_allocated, dimension, inquired, name_in, dimension_in, known, value_of, subscript, walk, walks, picks, one_pick, end}
use Rattle.array_meaning.specs.Stage2.{whole}
use Rattle.term_eval.specs.Limits.{IsInteger, IsSmallState, IsSmall, AreSmall, AreSmallSubs, IsSmallSub, IsWorld, IsFew, IsSmallArray, IsSmallTerm, IsSmallPick}
use Rattle.array_meaning.proofs.Chains.{after_each, after_fact}
use Rattle.term_eval.proofs.Forms.{is_small_section, is_small_call}
use Rattle.term_eval.proofs.Integers.{scalar_of-keeps, exact-integer, truth-integer, unary-integer, binary-integer, call-integer, reduction-integer}
use Rattle.term_eval.proofs.SmallTerms.{element-integer, whole-small}
use Rattle.term_eval.proofs.Variables.{state_of-small}

-- ---- variables and constants

constant_at : (c : Bool) (v : ℤ) (o : Option ℤ) → IsInteger v → IfSome o IsInteger → IfSome (if c then Some v else o) IsInteger
constant_at true v o h k = h
constant_at false v o h k = k

pub constant_of-integer : (cs : List Constant) (x : List ℕ) → All (λ c. IsInteger c.value) cs → IfSome (constant_of cs x) IsInteger
constant_of-integer [] x is = tt
constant_of-integer (c ∷ cs) x is =
    constant_at (bytes_eq c.name x) c.value (constant_of cs x) (All-head (λ c. IsInteger c.value) c cs is) (constant_of-integer cs x (All-tail (λ c. IsInteger c.value) c cs is))

picked-full : (ds : List Dim) → picked (map pick.Full ds) ≡ extents_of ds
picked-full [] = refl
picked-full (d ∷ ds) = ap (λ l. d.extent ∷ l) (picked-full ds)

full-small : (ds : List Dim) → All IsSmallPick (map pick.Full ds)
full-small [] = All-nil IsSmallPick
full-small (d ∷ ds) = All-cons IsSmallPick (pick.Full d) (map pick.Full ds) tt (full-small ds)

pub whole_array-small : (a : ArrayValue) → IsSmallArray a → IsSmallTerm (whole_array a)
whole_array-small a h = is_small_section a (map pick.Full (dims a.shape)) h (rw picked-full h.few) (full-small (dims a.shape))

variable-small : (s : VarState) → IsSmallState s → IfOk (variable s) IsSmallTerm
variable-small (state.Scalar v) h = h
variable-small (state.Array a) h = whole_array-small a h
variable-small (state.Unallocated r) h = tt

named-small : (o : Option ℤ) (s : VarState) → IfSome o IsInteger → IsSmallState s → IfOk (named o s) IsSmallTerm
named-small (Some v) s h k = h
named-small None s h k = variable-small s k

pub allocated-small : (s : VarState) → IsSmallState s → IfOk (allocated s) IsSmallArray
allocated-small (state.Scalar v) h = tt
allocated-small (state.Array a) h = h
allocated-small (state.Unallocated r) h = tt

-- ---- designators

checked_pick-small : (d : Dim) (p : Pick) → IsSmallPick p → IfOk (checked_pick d p) IsSmallPick
checked_pick-small d (pick.One i) h = after_each _ (checked_subscript d i) _ (λ j. tt)
checked_pick-small d (pick.Full e) h = tt
checked_pick-small d (pick.Range t) h = after_each _ (checked_triplet d t) _ (λ u. tt)
checked_pick-small d (pick.Vector t) h = h

checked-small : (ds : List Dim) (ps : List Pick) → All IsSmallPick ps → IfOk (checked ds ps) (All IsSmallPick)
checked-small [] ps h = All-nil IsSmallPick
checked-small (d ∷ ds) [] h = All-nil IsSmallPick
checked-small (d ∷ ds) (p ∷ ps) h =
    after_fact IsSmallPick _ (checked_pick d p) _ (checked_pick-small d p (All-head IsSmallPick p ps h)) (λ q is.
    after_fact (All IsSmallPick) _ (checked ds ps) _ (checked-small ds ps (All-tail IsSmallPick p ps h)) (λ qs are. All-cons IsSmallPick q qs is are))

limited-at : {A : Type 0} (P : A → Type 0) (c : Bool) (n : ℕ) (x : A) → nat_lt ELEMENT_LIMIT n ≡ c → (n ≤ ELEMENT_LIMIT → P x) → IfOk (if c then trouble TooLarge else Ok x) P
limited-at P true n x e h = tt
limited-at P false n x e h = h (ltb-false ELEMENT_LIMIT n e)

pub selected-small : (a : ArrayValue) (ps : List Pick) → All IsSmallPick ps → IfOk (selected a ps) (λ qs. IsFew (picked qs) × All IsSmallPick qs)
selected-small a ps h =
    after_fact (All IsSmallPick) _ (checked (dims a.shape) ps) _ (checked-small (dims a.shape) ps h) (λ qs are.
    limited-at (λ qs. IsFew (picked qs) × All IsSmallPick qs) (nat_lt ELEMENT_LIMIT (size (picked qs))) (size (picked qs)) qs refl (λ few. (few, are)))

section-small : (e : Extents) (a : ArrayValue) (qs : List Pick) → IsSmallArray a → IsFew (picked qs) → All IsSmallPick qs → IfOk (section_or_element e a qs) IsSmallTerm
section-small [] a qs h few are = after_fact IsInteger _ (scalar_of (element a (only qs))) _ (scalar_of-keeps (element a (only qs)) (element-integer a (only qs) h.values)) (λ v is. is)
section-small (n ∷ ns) a qs h few are = is_small_section a qs h few are

pub designator-small : (a : ArrayValue) (ps : List Pick) → IsSmallArray a → All IsSmallPick ps → IfOk (designator a ps) IsSmallTerm
designator-small a ps h are = after_fact (λ qs. IsFew (picked qs) × All IsSmallPick qs) _ (selected a ps) _ (selected-small a ps are) (λ qs is. section-small (picked qs) a qs h is.0 is.1)

-- ---- operators and calls

after_scalar : (r : _) → IfOk r IsInteger → IfOk (scalar_of r >>= (λ x. let s : Staged Term = Ok (Scalar x) in s)) IsSmallTerm
after_scalar r h = after_fact IsInteger IsSmallTerm (scalar_of r) _ (scalar_of-keeps r h) (λ x is. is)

unary_on-small : (op : UnOp) (t : Term) → IsSmallTerm t → IfOk (unary_on op t) IsSmallTerm
unfolding terms_open
unary_on-small op (Scalar v) h = after_scalar (unary_value default_half op v) (unary-integer op v h)
unary_on-small un.Plus (Listed xs) h = h
unary_on-small un.Minus (Listed xs) h = h
unary_on-small un.Not (Listed xs) h = h
unary_on-small un.Plus (Section' a k ps) h = h
unary_on-small un.Minus (Section' a k ps) h = h
unary_on-small un.Not (Section' a k ps) h = h
unary_on-small un.Plus (unary_term o t) h = h
unary_on-small un.Minus (unary_term o t) h = h
unary_on-small un.Not (unary_term o t) h = h
unary_on-small un.Plus (binary_term o t u) h = h
unary_on-small un.Minus (binary_term o t u) h = h
unary_on-small un.Not (binary_term o t u) h = h
unary_on-small un.Plus (CallOf' w k ts) h = h
unary_on-small un.Minus (CallOf' w k ts) h = h
unary_on-small un.Not (CallOf' w k ts) h = h

binary_on-small : (op : BinOp) (t u : Term) → IsSmallTerm t → IsSmallTerm u → IfOk (binary_on op t u) IsSmallTerm
unfolding terms_open
binary_on-small op (Scalar v) (Scalar w) h k = after_scalar (binary_value default_half op v w) (binary-integer op v w)
binary_on-small op (Scalar v) (Listed xs) h k = (h, k)
binary_on-small op (Scalar v) (Section' a l ps) h k = (h, k)
binary_on-small op (Scalar v) (unary_term o t) h k = (h, k)
binary_on-small op (Scalar v) (binary_term o t u) h k = (h, k)
binary_on-small op (Scalar v) (CallOf' w l ts) h k = (h, k)
binary_on-small op (Listed xs) u h k = (h, k)
binary_on-small op (Section' a l ps) u h k = (h, k)
binary_on-small op (unary_term o t) u h k = (h, k)
binary_on-small op (binary_term o t v) u h k = (h, k)
binary_on-small op (CallOf' w l ts) u h k = (h, k)

with_scalar-integer : (o : Option (List ℤ)) (t : Term) → IfSome o (All IsInteger) → IsSmallTerm t → IfSome (with_scalar o t) (All IsInteger)
with_scalar-integer None t h k = tt
with_scalar-integer (Some vs) (Scalar v) h k = All-cons IsInteger v vs k h
with_scalar-integer (Some vs) (Listed xs) h k = tt
with_scalar-integer (Some vs) (Section' a l ps) h k = tt
with_scalar-integer (Some vs) (unary_term o t) h k = tt
with_scalar-integer (Some vs) (binary_term o t u) h k = tt
with_scalar-integer (Some vs) (CallOf' w l ts) h k = tt

scalars-integers : (ts : List Term) → All IsSmallTerm ts → IfSome (scalars ts) (All IsInteger)
scalars-integers [] h = All-nil IsInteger
scalars-integers (t ∷ ts) h = with_scalar-integer (scalars ts) t (scalars-integers ts (All-tail IsSmallTerm t ts h)) (All-head IsSmallTerm t ts h)

elemental-small : (w : CallWord) (ts : List Term) (o : Option (List ℤ)) → All IsSmallTerm ts → IfSome o (All IsInteger) → IfOk (elemental_on w ts o) IsSmallTerm
elemental-small w ts (Some vs) h k = after_scalar (call_value default_half w vs) (call-integer w vs k)
elemental-small w ts None h k = is_small_call w ts h

reduced-small : (w : CallWord) (ts : List Term) → All IsSmallTerm ts → IfOk (reduced w ts) IsSmallTerm
reduced-small w [] h = refl
reduced-small w (t ∷ ts) h =
    after_fact (λ xs. (length xs ≤ 65536) × All IsInteger xs) _ (whole t) _ (whole-small t (All-head IsSmallTerm t ts h)) (λ xs is. after_scalar (reduction default_half w xs) (reduction-integer w xs is.0 is.1))

called-at : (c : Bool) (w : CallWord) (ts : List Term) → All IsSmallTerm ts → IfOk (if c then reduced w ts else elemental_on w ts (scalars ts)) IsSmallTerm
called-at true w ts h = reduced-small w ts h
called-at false w ts h = elemental-small w ts (scalars ts) h (scalars-integers ts h)

called-small : (w : CallWord) (ts : List Term) → All IsSmallTerm ts → IfOk (called w ts) IsSmallTerm
called-small w ts h = called-at (is_reduction w) w ts h

-- ---- inquiries

size-integer : (ds : List Dim) (k : Option ℕ) → IfOk (size_value ds k) IsInteger
size-integer ds None = exact-integer (pos (size (extents_of ds)))
size-integer ds (Some k) = exact-integer (pos (dim_at ds k).extent)

pub inquired-integer : (w : CallWord) (s : VarState) (k : Option ℕ) → IfOk (inquired w s k) IsInteger
inquired-integer word.Size s k = after_each _ (allocated s) _ (λ a. scalar_of-keeps (size_value (dims a.shape) k) (size-integer (dims a.shape) k))
inquired-integer word.Lbound s k = after_each _ (allocated s) _ (λ a. let d = dim_at (dims a.shape) (dimension k) in scalar_of-keeps (exact default_half (lower_bound d)) (exact-integer (lower_bound d)))
inquired-integer word.Ubound s k = after_each _ (allocated s) _ (λ a. let d = dim_at (dims a.shape) (dimension k) in scalar_of-keeps (exact default_half (upper_bound d)) (exact-integer (upper_bound d)))
inquired-integer word.Allocated s k = truth-integer (is_allocated s)
inquired-integer word.Abs s k = refl
inquired-integer word.Mod s k = refl
inquired-integer word.Modulo s k = refl
inquired-integer word.Min s k = refl
inquired-integer word.Max s k = refl
inquired-integer word.Merge s k = refl
inquired-integer word.Sum s k = refl
inquired-integer word.Product s k = refl
inquired-integer word.Minval s k = refl
inquired-integer word.Maxval s k = refl
inquired-integer word.Count s k = refl
inquired-integer word.Any s k = refl
inquired-integer word.All s k = refl

-- ---- subscripts and constructors

pub value_of-integer : (t : Term) → IsSmallTerm t → IsInteger (value_of t)
value_of-integer (Scalar v) h = h
value_of-integer (Listed xs) h = refl
value_of-integer (Section' a k ps) h = refl
value_of-integer (unary_term o t) h = refl
value_of-integer (binary_term o t u) h = refl
value_of-integer (CallOf' w k ts) h = refl

values_of-integers : (ts : List Term) → All IsSmallTerm ts → All IsInteger (map value_of ts)
values_of-integers [] h = All-nil IsInteger
values_of-integers (t ∷ ts) h = All-cons IsInteger (value_of t) (map value_of ts) (value_of-integer t (All-head IsSmallTerm t ts h)) (values_of-integers ts (All-tail IsSmallTerm t ts h))

values_of-length : (ts : List Term) → length (map value_of ts) ≡ length ts
values_of-length [] = refl
values_of-length (t ∷ ts) = ap suc (values_of-length ts)

vector-small : (b : Bool) (t : Term) → IsSmallTerm t → IfOk (whole t >>= (λ xs. let p : Staged Pick = Ok (pick.Vector (Listed xs)) in p)) IsSmallPick
vector-small b t h = after_fact (λ xs. (length xs ≤ 65536) × All IsInteger xs) IsSmallPick (whole t) _ (whole-small t h) (λ xs is. is)

subscript-small : (b : Bool) (t : Term) → IsSmallTerm t → IfOk (subscript b t) IsSmallPick
subscript-small b (Scalar v) h = tt
subscript-small true (Listed xs) h = h
subscript-small false (Listed xs) h = vector-small false (Listed xs) h
subscript-small true (Section' a k ps) h = h
subscript-small false (Section' a k ps) h = vector-small false (Section' a k ps) h
subscript-small true (unary_term o t) h = h
subscript-small false (unary_term o t) h = vector-small false (unary_term o t) h
subscript-small true (binary_term o t u) h = h
subscript-small false (binary_term o t u) h = vector-small false (binary_term o t u) h
subscript-small true (CallOf' w k ts) h = h
subscript-small false (CallOf' w k ts) h = vector-small false (CallOf' w k ts) h

-- ---- the walk

call-at : (c : Bool) (r : Staged ℤ) (s : Staged Term) → IfOk r IsInteger → IfOk s IsSmallTerm → IfOk (if c then known r else s) IsSmallTerm
call-at true r s h k = after_fact IsInteger _ r _ h (λ v is. is)
call-at false r s h k = k

mutual
  pub walk-small : (w : World) → IsWorld w → (e : Expr) → IsSmall e → IfOk (walk w e) IsSmallTerm
  walk-small w is (Number n) h = lt-ltb n default_half h
  walk-small w is TooWide h = refl
  walk-small w is TooDeep h = refl
  walk-small w is (Truth b) h = truth-integer b
  walk-small w is (Named x) h = named-small (constant_of w.constants x) (state_of w.vars x) (constant_of-integer w.constants x is.constants) (state_of-small w.vars x is.vars)
  walk-small w is (Part' x _ ss) h =
      after_fact IsSmallArray _ (allocated (state_of w.vars x)) _ (allocated-small (state_of w.vars x) (state_of-small w.vars x is.vars)) (λ a small.
      after_fact (All IsSmallPick) _ (picks w (dims a.shape) ss) _ (picks-small w is (dims a.shape) ss h) (λ ps are. designator-small a ps small are))
  walk-small w is (Call' word _ es) h =
      call-at (is_inquiry word) (inquired word (state_of w.vars (name_in es)) (dimension_in es)) (walks w es >>= called word) (inquired-integer word (state_of w.vars (name_in es)) (dimension_in es))
      (after_fact (λ ts. (length ts ≡ count es) × All IsSmallTerm ts) _ (walks w es) _ (walks-small w is es h) (λ ts are. called-small word ts are.1))
  walk-small w is (Vector' _ es) h =
      after_fact (λ ts. (length ts ≡ count es) × All IsSmallTerm ts) _ (walks w es) _ (walks-small w is es h.1) (λ ts are. (omega (arith, values_of-length ts, are.0, h.0), values_of-integers ts are.1))
  walk-small w is (paren e) h = walk-small w is e h
  walk-small w is (unary op e) h = after_fact IsSmallTerm _ (walk w e) _ (walk-small w is e h) (λ t k. unary_on-small op t k)
  walk-small w is (binary op e f) h =
      after_fact IsSmallTerm _ (walk w e) _ (walk-small w is e h.0) (λ t k. after_fact IsSmallTerm _ (walk w f) _ (walk-small w is f h.1) (λ u l. binary_on-small op t u k l))

  pub walks-small : {m : _} (w : World) → IsWorld w → (es : Exprs m) → AreSmall es → IfOk (walks w es) (λ ts. (length ts ≡ count es) × All IsSmallTerm ts)
  walks-small w is end_exprs h = (refl, All-nil IsSmallTerm)
  walks-small w is (more_exprs e es) h =
      after_fact IsSmallTerm _ (walk w e) _ (walk-small w is e h.0) (λ t k.
      after_fact (λ ts. (length ts ≡ count es) × All IsSmallTerm ts) _ (walks w es) _ (walks-small w is es h.1) (λ ts are. (omega (arith, are.0), All-cons IsSmallTerm t ts k are.1)))

  pub picks-small : {m : _} (w : World) → IsWorld w → (ds : List Dim) (ss : Subs m) → AreSmallSubs ss → IfOk (picks w ds ss) (All IsSmallPick)
  picks-small w is ds end_subs h = All-nil IsSmallPick
  picks-small w is [] (more_subs s ss) h = All-nil IsSmallPick
  picks-small w is (d ∷ ds) (more_subs s ss) h =
      after_fact IsSmallPick _ (one_pick w d s) _ (one_pick-small w is d s h.0) (λ p k. after_fact (All IsSmallPick) _ (picks w ds ss) _ (picks-small w is ds ss h.1) (λ ps are. All-cons IsSmallPick p ps k are))

  one_pick-small : (w : World) → IsWorld w → (d : Dim) (s : Sub) → IsSmallSub s → IfOk (one_pick w d s) IsSmallPick
  one_pick-small w is d (sub.One e) h = after_fact IsSmallTerm _ (walk w e) _ (walk-small w is e h) (λ t k. subscript-small (is_designator e) t k)
  one_pick-small w is d (sub.Range' l u s) h =
      after_each _ (end w (Ok d.lower) l) _ (λ l'. after_each _ (end w (omitted_upper d) u) _ (λ u'. after_each _ (end w (Ok (pos 1)) s) _ (λ s'. tt)))
