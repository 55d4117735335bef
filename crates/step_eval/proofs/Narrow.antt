-- The operands of a term have at most three dimensions.
use Rattle.std.proofs.Common.{◌≡◌, ◌≤◌, refl, sym, ◌∙◌, ap, subst, ℕ, suc, Bool, true, false, if◌then◌else◌, List, [], ◌∷◌, ◌++◌, map, take, length, All, Option, Some, None, Ok, Err, IfOk, ℤ, pos, arith}
use Rattle.std.specs.Prelude.{not, ◌&&◌}
use Rattle.std.proofs.lemmas.List.Elements.{All-nil, All-cons, All-head, All-tail, All-append}
use Rattle.ws_base.specs.declared.op.UnOp.{UnOp}
use Rattle.ws_base.specs.declared.op.UnOp.TheVariants as un
use Rattle.ws_base.specs.declared.op.BinOp.{BinOp}
use Rattle.ws_base.specs.declared.op.CallWord.{CallWord}
use Rattle.ws_base.specs.declared.fault.FaultName.TheVariants.{Shape as Shape'}
use Rattle.ws_base.specs.Outcomes.{Staged, scalar_of, trouble, ◌>>=◌}
use Rattle.ws_base.specs.Numbers.{default_half, unary_value, binary_value, call_value, reduction}
use Rattle.ws_space.specs.declared.shape.Dim.{Dim}
use Rattle.ws_space.specs.declared.state.ArrayValue.{ArrayValue}
use Rattle.ws_space.specs.declared.state.VarState.{VarState}
use Rattle.ws_space.specs.declared.state.VarState.TheVariants as state
use Rattle.ws_space.specs.Shapes.{Extents, dims, shape_of, agreed, same_extents}
use Rattle.ws_space.specs.Values.{state_of, element, held}
use Rattle.ws_space.specs.Sections.{checked_subscript, checked_triplet, limited}
use Rattle.ws_space.proofs.Whole.{length-dims_le}
use Rattle.ws_tree.specs.declared.expr.Expr.{Expr}
use Rattle.ws_tree.specs.declared.expr.Expr.TheVariants.{Number, TooWide, TooDeep, Truth, Named, Part', Call', Vector'}
use Rattle.ws_tree.specs.Trees.{Exprs, end_exprs, more_exprs, paren, unary, binary}
use Rattle.array_meaning.specs.declared.world.World.{World}
use Rattle.array_meaning.specs.declared.term.Term.{Term}
use Rattle.array_meaning.specs.declared.term.Term.TheVariants as term
use Rattle.array_meaning.specs.declared.term.Pick.{Pick}
use Rattle.array_meaning.specs.declared.term.Pick.TheVariants as pick
use Rattle.array_meaning.specs.declared.term.Pick.TheBlock.{hidden-the_row-Pick-0, hidden-the_row-Term-2}
use Rattle.array_meaning.specs.Terms.{terms_open}
use Rattle.array_meaning.specs.Stage2.{operands, all_operands, extents, extent, array_operand, vector_extent, whole}
use Rattle.array_meaning.specs.Stage1.{only, value_of, constant_of, variable, named, allocated, whole_array, checked, checked_pick, picked, selected, section_or_element, designator, unary_on, binary_on, elemental_on, scalars, reduced, called, inquired, known, name_in, dimension_in, walk, walks, picks}
use Rattle.ws_types.specs.Operations.{is_inquiry, is_reduction}
use Rattle.array_meaning.proofs.Chains.{after_each, after_fact}
use Rattle.array_meaning.specs.Assign.{Target, selection, movable, held_by, whole_target, is_name_in, target}
use Rattle.term_eval.specs.declared.left_sides.Target as code
use Rattle.term_eval.specs.declared.left_sides.Target.TheVariants.{Selection, Movable}
use Rattle.term_eval.specs.Targets.{target_of}
use Rattle.step_eval.specs.Narrow.{IsNarrow, IsNarrowTerm, IsNarrowSpec, IsNarrowTarget}

extents_length : (ps : List Pick) → length (extents (hidden-the_row-Pick-0 ps)) ≤ length ps
unfolding terms_open
extents_length [] = omega arith
extents_length (pick.One i ∷ ps) = omega (arith, extents_length ps)
extents_length (pick.Full d ∷ ps) = omega (arith, extents_length ps)
extents_length (pick.Range t ∷ ps) = omega (arith, extents_length ps)
extents_length (pick.Vector t ∷ ps) = omega (arith, extents_length ps)

array_operand_narrow : (e : Extents) → IsNarrow e → All IsNarrow (array_operand e)
array_operand_narrow [] h = All-nil IsNarrow
array_operand_narrow (n ∷ ns) h = All-cons IsNarrow (n ∷ ns) [] h (All-nil IsNarrow)

section_narrow : (a : ArrayValue) (ps : List Pick) → length ps ≤ 3 → IsNarrowTerm (term.Section a ps)
unfolding terms_open
section_narrow a ps h = array_operand_narrow (extents (hidden-the_row-Pick-0 ps)) (omega (arith, h, extents_length ps))

all_operands_narrow : (ts : List Term) → All IsNarrowTerm ts → All IsNarrow (all_operands (hidden-the_row-Term-2 ts))
unfolding terms_open
all_operands_narrow [] h = All-nil IsNarrow
all_operands_narrow (t ∷ ts) h = All-append IsNarrow (operands t) (all_operands (hidden-the_row-Term-2 ts)) (All-head IsNarrowTerm t ts h) (all_operands_narrow ts (All-tail IsNarrowTerm t ts h))

call_narrow : (w : CallWord) (ts : List Term) → All IsNarrowTerm ts → IsNarrowTerm (term.Call w ts)
unfolding terms_open
call_narrow w ts h = all_operands_narrow ts h

length_map : (ds : List Dim) → length (map pick.Full ds) ≡ length ds
length_map [] = refl
length_map (d ∷ ds) = ap suc (length_map ds)

variable_narrow : (s : VarState) → IfOk (variable s) IsNarrowTerm
variable_narrow (state.Scalar v) = All-nil IsNarrow
variable_narrow (state.Array a) = section_narrow a (map pick.Full (dims a.shape)) (omega (arith, length_map (dims a.shape), length-dims_le a.shape))
variable_narrow (state.Unallocated r) = tt

named_narrow : (c : Option ℤ) (s : VarState) → IfOk (named c s) IsNarrowTerm
named_narrow (Some v) s = All-nil IsNarrow
named_narrow None s = variable_narrow s

checked_length : (ds : List Dim) (ps : List Pick) → IfOk (checked ds ps) (λ qs. length qs ≤ length ds)
checked_length [] ps = omega arith
checked_length (d ∷ ds) [] = omega arith
checked_length (d ∷ ds) (p ∷ ps) =
    after_each _ (checked_pick d p) _ (λ q. after_fact (λ qs. length qs ≤ length ds) _ (checked ds ps) _ (checked_length ds ps) (λ qs h. omega (arith, h)))

limited_keeps : {A : Type 0} (P : A → Type 0) (e : Extents) (x : A) → P x → IfOk (limited e x) P
limited_keeps P e x h = grind (arith, h)

known_narrow : (r : Staged ℤ) → IfOk (r >>= (λ v. Ok (term.Scalar v))) IsNarrowTerm
known_narrow (Ok v) = All-nil IsNarrow
known_narrow (Err t) = tt

section_or_element_narrow : (e : Extents) (a : ArrayValue) (ps : List Pick) → length ps ≤ 3 → IfOk (section_or_element e a ps) IsNarrowTerm
section_or_element_narrow [] a ps h = known_narrow (scalar_of (element a (only ps)))
section_or_element_narrow (n ∷ ns) a ps h = section_narrow a ps h

selected_narrow : (a : ArrayValue) (ps : List Pick) → IfOk (selected a ps) (λ qs. length qs ≤ 3)
selected_narrow a ps =
    let P : List Pick → Type 0 = λ qs. length qs ≤ 3 in
    after_fact P P (checked (dims a.shape) ps) _ (checked_narrow (checked (dims a.shape) ps) (checked_length (dims a.shape) ps)) (λ qs h. limited_keeps P (picked qs) qs h)
  where
    checked_narrow : (r : Staged (List Pick)) → IfOk r (λ qs. length qs ≤ length (dims a.shape)) → IfOk r (λ qs. length qs ≤ 3)
    checked_narrow (Ok qs) h = omega (arith, h, length-dims_le a.shape)
    checked_narrow (Err t) h = tt

designator_narrow : (a : ArrayValue) (ps : List Pick) → IfOk (designator a ps) IsNarrowTerm
designator_narrow a ps = after_fact (λ qs. length qs ≤ 3) IsNarrowTerm (selected a ps) _ (selected_narrow a ps) (λ qs h. section_or_element_narrow (picked qs) a qs h)

unary_narrow : (op : UnOp) (t : Term) → IsNarrowTerm t → IfOk (unary_on op t) IsNarrowTerm
unfolding terms_open
unary_narrow op (term.Scalar v) h = known_narrow (scalar_of (unary_value default_half op v))
unary_narrow un.Minus (term.Listed xs) h = h
unary_narrow un.Minus (term.Section' a k ps) h = h
unary_narrow un.Minus (term.Unary' o k ts) h = h
unary_narrow un.Minus (term.Binary' o k ts l us) h = h
unary_narrow un.Minus (term.Call' w k ts) h = h
unary_narrow un.Plus (term.Listed xs) h = h
unary_narrow un.Plus (term.Section' a k ps) h = h
unary_narrow un.Plus (term.Unary' o k ts) h = h
unary_narrow un.Plus (term.Binary' o k ts l us) h = h
unary_narrow un.Plus (term.Call' w k ts) h = h
unary_narrow un.Not (term.Listed xs) h = h
unary_narrow un.Not (term.Section' a k ps) h = h
unary_narrow un.Not (term.Unary' o k ts) h = h
unary_narrow un.Not (term.Binary' o k ts l us) h = h
unary_narrow un.Not (term.Call' w k ts) h = h

binary_narrow : (op : BinOp) (t u : Term) → IsNarrowTerm t → IsNarrowTerm u → IfOk (binary_on op t u) IsNarrowTerm
unfolding terms_open
binary_narrow op (term.Scalar v) (term.Scalar w) h g = known_narrow (scalar_of (binary_value default_half op v w))
binary_narrow op (term.Scalar v) (term.Listed xs) h g = g
binary_narrow op (term.Scalar v) (term.Section' a k ps) h g = g
binary_narrow op (term.Scalar v) (term.Unary' o k ts) h g = g
binary_narrow op (term.Scalar v) (term.Binary' o k ts l us) h g = g
binary_narrow op (term.Scalar v) (term.Call' w k ts) h g = g
binary_narrow op (term.Listed xs) u h g = All-append IsNarrow (operands (term.Listed xs)) (operands u) h g
binary_narrow op (term.Section' a k ps) u h g = All-append IsNarrow (operands (term.Section' a k ps)) (operands u) h g
binary_narrow op (term.Unary' o k ts) u h g = All-append IsNarrow (operands (term.Unary' o k ts)) (operands u) h g
binary_narrow op (term.Binary' o k ts l us) u h g = All-append IsNarrow (operands (term.Binary' o k ts l us)) (operands u) h g
binary_narrow op (term.Call' w k ts) u h g = All-append IsNarrow (operands (term.Call' w k ts)) (operands u) h g

elemental_narrow : (w : CallWord) (ts : List Term) (vs : Option (List ℤ)) → All IsNarrowTerm ts → IfOk (elemental_on w ts vs) IsNarrowTerm
elemental_narrow w ts (Some vs) h = known_narrow (scalar_of (call_value default_half w vs))
elemental_narrow w ts None h = call_narrow w ts h

reduced_narrow : (w : CallWord) (ts : List Term) → IfOk (reduced w ts) IsNarrowTerm
reduced_narrow w [] = All-nil IsNarrow
reduced_narrow w (t ∷ ts) = after_each IsNarrowTerm (whole t) _ (λ xs. known_narrow (scalar_of (reduction default_half w xs)))

called_narrow : (w : CallWord) (ts : List Term) → All IsNarrowTerm ts → IfOk (called w ts) IsNarrowTerm
called_narrow w ts h = at (is_reduction w) where
  at : (b : Bool) → IfOk (if b then reduced w ts else elemental_on w ts (scalars ts)) IsNarrowTerm
  at true = reduced_narrow w ts
  at false = elemental_narrow w ts (scalars ts) h

either_narrow : (b : Bool) (p q : Staged Term) → IfOk p IsNarrowTerm → IfOk q IsNarrowTerm → IfOk (if b then p else q) IsNarrowTerm
either_narrow true p q h k = h
either_narrow false p q h k = k

mutual
  pub walk_narrow : (w : World) (e : Expr) → IfOk (walk w e) IsNarrowTerm
  walk_narrow w (Number n) = All-nil IsNarrow
  walk_narrow w TooWide = All-nil IsNarrow
  walk_narrow w TooDeep = All-nil IsNarrow
  walk_narrow w (Truth b) = All-nil IsNarrow
  walk_narrow w (Named x) = named_narrow (constant_of w.constants x) (state_of w.vars x)
  walk_narrow w (Part' x _ subs) = after_each IsNarrowTerm (allocated (state_of w.vars x)) _ (λ a. after_each IsNarrowTerm (picks w (dims a.shape) subs) _ (λ ps. designator_narrow a ps))
  walk_narrow w (Call' word _ es) =
      either_narrow (is_inquiry word) (known (inquired word (state_of w.vars (name_in es)) (dimension_in es))) (walks w es >>= called word)
      (known_narrow (inquired word (state_of w.vars (name_in es)) (dimension_in es))) (after_fact (All IsNarrowTerm) IsNarrowTerm (walks w es) _ (walks_narrow w es) (λ ts h. called_narrow word ts h))
  walk_narrow w (Vector' _ es) = after_each IsNarrowTerm (walks w es) _ (λ ts. All-cons IsNarrow (length (map value_of ts) ∷ []) [] (omega arith) (All-nil IsNarrow))
  walk_narrow w (paren e) = walk_narrow w e
  walk_narrow w (unary op e) = after_fact IsNarrowTerm IsNarrowTerm (walk w e) _ (walk_narrow w e) (λ t h. unary_narrow op t h)
  walk_narrow w (binary op e f) = after_fact IsNarrowTerm IsNarrowTerm (walk w e) _ (walk_narrow w e) (λ t h. after_fact IsNarrowTerm IsNarrowTerm (walk w f) _ (walk_narrow w f) (λ u g. binary_narrow op t u h g))

  walks_narrow : {m : _} (w : World) (es : Exprs m) → IfOk (walks w es) (All IsNarrowTerm)
  walks_narrow w end_exprs = All-nil IsNarrowTerm
  walks_narrow w (more_exprs e es) = after_fact IsNarrowTerm (All IsNarrowTerm) (walk w e) _ (walk_narrow w e) (λ t h. after_fact (All IsNarrowTerm) (All IsNarrowTerm) (walks w es) _ (walks_narrow w es) (λ ts hs. All-cons IsNarrowTerm t ts h hs))

if_same : (c : Bool) (r : Staged Extents) → IfOk r IsNarrow → IfOk (if c then r else trouble Shape') IsNarrow
if_same true r h = h
if_same false r h = tt

pub agreed_narrow : (es : List Extents) → All IsNarrow es → IfOk (agreed es) IsNarrow
agreed_narrow [] h = omega arith
agreed_narrow (e ∷ []) h = All-head IsNarrow e [] h
agreed_narrow (e ∷ f ∷ more) h = if_same (same_extents e f) (agreed (f ∷ more)) (agreed_narrow (f ∷ more) (All-tail IsNarrow e (f ∷ more) h))

pub agreed_is_narrow : (es : List Extents) (e : Extents) → All IsNarrow es → agreed es ≡ Ok e → IsNarrow e
agreed_is_narrow es e h is = let P : Staged Extents → Type 0 = λ r. IfOk r IsNarrow in subst P is (agreed_narrow es h)

-- ---- left sides

held_narrow : (s : VarState) → IfOk (held_by (held s) >>= (λ a. Ok (selection (whole_array a)))) IsNarrowSpec
held_narrow (state.Scalar v) = section_narrow (record { shape = shape_of []; values = v ∷ [] }) [] (omega arith)
held_narrow (state.Array a) = section_narrow a (map pick.Full (dims a.shape)) (omega (arith, length_map (dims a.shape), length-dims_le a.shape))
held_narrow (state.Unallocated r) = tt

whole_target_narrow : (b : Bool) (s : VarState) → IfOk (whole_target b s) IsNarrowSpec
whole_target_narrow true s = tt
whole_target_narrow false s = held_narrow s

pub target_narrow : (in_where : Bool) (w : World) (left : Expr) → IfOk (target in_where w left) IsNarrowSpec
unfolding terms_open
target_narrow in_where w (Named x) = whole_target_narrow (not in_where && is_name_in w.allocatables x) (state_of w.vars x)
target_narrow in_where w (Part' x h subs) =
    after_each IsNarrowSpec (allocated (state_of w.vars x)) _ (λ a. after_each IsNarrowSpec (picks w (dims a.shape) subs) _ (λ ps. after_fact (λ qs. length qs ≤ 3) IsNarrowSpec (selected a ps) _ (selected_narrow a ps) (λ qs h. section_narrow a qs h)))
target_narrow in_where w (Number n) = tt
target_narrow in_where w TooWide = tt
target_narrow in_where w TooDeep = tt
target_narrow in_where w (Truth b) = tt
target_narrow in_where w (Call' word h es) = tt
target_narrow in_where w (Vector' h es) = tt
target_narrow in_where w (paren e) = tt
target_narrow in_where w (unary op e) = tt
target_narrow in_where w (binary op e f) = tt

pub spec_narrow : (s : VarState) (t : code.Target) → IsNarrowSpec (target_of s t) → IsNarrowTarget t
spec_narrow s (Selection t) h = h
spec_narrow s Movable h = tt
