-- Copies of whole arrays, in parentheses or after a plus.
use Rattle.std.proofs.Common.{◌≡◌, refl, sym, ap, ◌∙◌, subst, inr, ℕ, ◌+◌, ◌<◌, ◌≤◌, ◌==◌, Bool, true, false, List, [], ◌∷◌, Some, Ok, Err, ℤ, arith}
use Rattle.ws_base.specs.Outcomes.{Staged, ◌>>=◌}
use Rattle.ws_base.specs.declared.op.UnOp.TheVariants as un
use Rattle.ws_space.specs.declared.state.ArrayValue.{ArrayValue}
use Rattle.ws_space.specs.Shapes.{dims, extents_of}
use Rattle.ws_space.specs.Values.{is_among}
use Rattle.array_meaning.specs.declared.term.Term.{Term}
use Rattle.array_meaning.specs.declared.term.Term.TheVariants as term
use Rattle.array_meaning.specs.declared.term.Pick.{Pick}
use Rattle.array_meaning.specs.declared.term.Pick.TheVariants as pick
use Rattle.array_meaning.specs.Terms.{terms_open}
use Rattle.array_meaning.specs.Stage1 as source
use Rattle.array_meaning.specs.Stage2 as later
use Rattle.hlfir_ops.specs.declared.kinds.Elem.{Elem}
use Rattle.hlfir_ops.specs.declared.kinds.ValueKind.{ValueKind}
use Rattle.hlfir_ops.specs.declared.kinds.ValueKind.TheVariants as kind
use Rattle.hlfir_ops.specs.declared.what.What.TheVariants as what
use Rattle.hlfir_ops.specs.Trees.{op_of}
use Rattle.hlfir_ops.specs.Numbers.{numbers_of}
use Rattle.hlfir_ops.proofs.Numbered.{op_numbers-op_of}
use Rattle.hlfir_meaning.specs.Environments.{Value, array, Environment, with_value}
use Rattle.hlfir_meaning.specs.Places.{column_at}
use Rattle.hlfir_meaning.specs.References.{held_extents, held_values}
use Rattle.hlfir_meaning.specs.Stage1 as walked
use Rattle.hlfir_meaning.specs.Stage1.{stage1}
use Rattle.lower_values.specs.declared.operand.Operand.{Operand}
use Rattle.lower_values.specs.Scopes.{Scope}
use Rattle.lower_values.specs.Lowerings.{giving}
use Rattle.lower_values.specs.Operations.{as_expr, value_of_whole, in_parentheses, unary_operation}
use Rattle.value_laws.specs.Standing.{Does, Gives, AreIn, Stands, StandsSettled, settled}
use Rattle.value_laws.specs.Variables.{IsArrayOf, IsWhole, IsNamed, IsWholeWhereNamed}
use Rattle.value_laws.proofs.Ordered.{ordered-none}
use Rattle.value_laws.proofs.Walking.{with_value-here, does-done}
use Rattle.value_laws.proofs.Wholes.{whole-values}
use Rattle.value_laws.proofs.Names.{whole_operands, some_take, in_shape}
use Rattle.value_laws.proofs.Settled.{settle_if, settled_if, StandsIf, goes-settled}

copy_of : ArrayValue → Value
copy_of a = array (extents_of (dims a.shape)) a.values

-- the array's values under a number of their own
copy-stands : (base low high n : ℕ) (env : Environment) (e : Elem) (rank : ℕ) (a : ArrayValue) → low ≤ n → n < high → (rank == 0) ≡ false → IsArrayOf rank a → env n ≡ copy_of a →
    Stands base low high env (record { value = record { number = n }; kind = kind.Array e rank }) (source.whole_array a)
unfolding terms_open copy_of
copy-stands base low high n env e rank a l h ranked held is = record {
  value = copy_of a;
  found = is;
  own = inr (l, h);
  rank = ranked;
  whole = tt;
  shapes = sym (whole_operands a);
  ordered = ordered-none low high;
  gives = λ other at alike inside.
      let some = some_take a.shape.rank a.shape.d1 (a.shape.d2 ∷ a.shape.d3 ∷ []) (ap (λ r. r == 0) held.same ∙ ranked) in
      let places = in_shape at (extents_of (dims a.shape)) some (subst (AreIn at) (whole_operands a) inside) in
      subst (Gives low high at other n []) (sym (whole-values a at places))
      (other, refl, ap (column_at at) (alike n (inr (l, h)) ∙ is), record { below = λ k _. refl; above = λ k _. refl });
}

abbrev IsScalar : Term → Type 0
IsScalar (term.Scalar z) = Unit {0}
IsScalar t = ⊥

no_array : (z : ℤ) (a : ArrayValue) → (let t : Term = term.Scalar z in t) ≡ source.whole_array a → ⊥
unfolding terms_open
no_array z a h = subst IsScalar h tt

abbrev IsListed : Term → Type 0
IsListed (term.Listed xs) = Unit {0}
IsListed t = ⊥

no_section : (xs : List ℤ) (a : ArrayValue) → (let t : Term = term.Listed xs in t) ≡ source.whole_array a → ⊥
unfolding terms_open
no_section xs a h = subst IsListed h tt

settled-section : (a : ArrayValue) → settled (source.whole_array a) ≡ settled_if true (source.whole_array a)
unfolding terms_open
settled-section a = refl

settled-whole : (rank : ℕ) (v : Value) (t : Term) → IsWhole rank v t → settled t ≡ settled_if true t
settled-whole rank v t h = ap settled h.term ∙ (settled-section h.array ∙ sym (ap (settled_if true) h.term))

module _ (vectors : List ℕ) (base low : ℕ) (s : Scope) (n : ℕ) (env : Environment) (x : Operand) where
  copied : (b : Bool) (e : Elem) (rank : ℕ) (v : Value) (t : Term) → low ≤ n → is_among n vectors ≡ b → env x.value.number ≡ v → IsWhole rank v t →
      Does vectors s n env (as_expr x e rank) (settled_if b t) (λ y u m after. StandsIf b base low m after y u)
  unfolding giving copy_of
  copied b e rank v t l among found h =
      let value = copy_of h.array in
      let past : n < n + numbers_of (op_of what.AsExpr s.line (x.value ∷ []) (Some (kind.Array e rank)) [] ∷ []) = omega (arith, op_numbers-op_of what.AsExpr s.line (x.value ∷ []) (Some (kind.Array e rank)) []) in
      let high = n + numbers_of (op_of what.AsExpr s.line (x.value ∷ []) (Some (kind.Array e rank)) [] ∷ []) in
      let y : Operand = record { value = record { number = n }; kind = kind.Array e rank } in
      goes-settled what.AsExpr s.line (x.value ∷ []) e rank [] vectors base low n env l refl h.fits.some value t b
      (ap (λ q. let r : Staged Value = Ok (walked.copied q) in r) (found ∙ h.value) ∙ ap (λ q. let r : Staged Value = Ok (array (held_extents q) (held_values q)) in r) h.holds) among
      (subst (λ u. Stands base low high (with_value n value env) y u) (sym h.term) (copy-stands base low high n (with_value n value env) e rank h.array l past h.fits.some h.fits (with_value-here n value env)))

  -- ---- where it is no vector subscript

  copy_of_kind : (k : ValueKind) (t : Term) (h : Stands base low n env x t) → low ≤ n → is_among n vectors ≡ false → IsWholeWhereNamed k h.value t →
      Does vectors s n env (value_of_whole k x) (Ok t) (λ y u m after. Stands base low m after y u)
  copy_of_kind (kind.Declared e shape) t h l free is = copied false e shape.rank h.value t l free h.found is
  copy_of_kind (kind.Allocatable e rank) t h l free is = copied false e rank h.value t l free h.found is
  copy_of_kind k t h l free is = does-done (stage1 vectors) s n env x t (λ y u m after. Stands base low m after y u) h

  pub does-copy : low ≤ n → (t : Term) → is_among n vectors ≡ false → Stands base low n env x t → Does vectors s n env (in_parentheses x) (Ok t) (λ y u m after. Stands base low m after y u)
  unfolding in_parentheses
  does-copy l t free h = copy_of_kind x.kind t h l free h.whole

  -- a plus is no operation
  pub does-plus : low ≤ n → (t : Term) → is_among n vectors ≡ false → Stands base low n env x t → Does vectors s n env (unary_operation un.Plus x) (source.unary_on un.Plus t) (λ y u m after. Stands base low m after y u)
  does-plus l (term.Scalar z) free h = does-copy l (term.Scalar z) free h
  does-plus l t free h = does-copy l t free h

  -- ---- where it is a vector subscript

  settles_of_kind : (k : ValueKind) (t : Term) (h : Stands base low n env x t) → low ≤ n → is_among n vectors ≡ true → IsNamed k → IsWholeWhereNamed k h.value t →
      Does vectors s n env (value_of_whole k x) (settled t) (λ y u m after. StandsSettled base low m after y u)
  settles_of_kind (kind.Declared e shape) t h l taken named is =
      subst (λ q. Does vectors s n env (as_expr x e shape.rank) q (λ y u m after. StandsSettled base low m after y u)) (sym (settled-whole shape.rank h.value t is)) (copied true e shape.rank h.value t l taken h.found is)
  settles_of_kind (kind.Allocatable e rank) t h l taken named is =
      subst (λ q. Does vectors s n env (as_expr x e rank) q (λ y u m after. StandsSettled base low m after y u)) (sym (settled-whole rank h.value t is)) (copied true e rank h.value t l taken h.found is)
  settles_of_kind k t h l taken named is = absurd named

  pub settles-copy : low ≤ n → IsNamed x.kind → (t : Term) → is_among n vectors ≡ true → Stands base low n env x t → Does vectors s n env (in_parentheses x) (settled t) (λ y u m after. StandsSettled base low m after y u)
  unfolding in_parentheses
  settles-copy l named t taken h = settles_of_kind x.kind t h l taken named h.whole

  scalar_stays : (k : ValueKind) (z : ℤ) (h : Stands base low n env x (term.Scalar z)) → IsWholeWhereNamed k h.value (term.Scalar z) → Does vectors s n env (value_of_whole k x) (Ok (term.Scalar z)) (λ y u m after. StandsSettled base low m after y u)
  scalar_stays (kind.Declared e shape) z h is = absurd (no_array z is.array is.term)
  scalar_stays (kind.Allocatable e rank) z h is = absurd (no_array z is.array is.term)
  scalar_stays k z h is = does-done (stage1 vectors) s n env x (term.Scalar z) (λ y u m after. StandsSettled base low m after y u) h

  listed_stays : (k : ValueKind) (xs : List ℤ) (h : Stands base low n env x (term.Listed xs)) → env x.value.number ≡ walked.vector xs → IsWholeWhereNamed k h.value (term.Listed xs) →
      Does vectors s n env (value_of_whole k x) (Ok (term.Listed xs)) (λ y u m after. StandsSettled base low m after y u)
  listed_stays (kind.Declared e shape) xs h at is = absurd (no_section xs is.array is.term)
  listed_stays (kind.Allocatable e rank) xs h at is = absurd (no_section xs is.array is.term)
  listed_stays k xs h at is = does-done (stage1 vectors) s n env x (term.Listed xs) (λ y u m after. StandsSettled base low m after y u) (h, at)

  -- what was settled before stays as it is
  pub settled-stays : (t : Term) → StandsSettled base low n env x t → Does vectors s n env (in_parentheses x) (Ok t) (λ y u m after. StandsSettled base low m after y u)
  unfolding in_parentheses
  settled-stays (term.Scalar z) h = scalar_stays x.kind z h h.whole
  settled-stays (term.Listed xs) h = listed_stays x.kind xs h.0 h.1 h.0.whole
  settled-stays t h = absurd h

  -- either way
  pub copy-if : low ≤ n → IsNamed x.kind → (b : Bool) (t : Term) → is_among n vectors ≡ b → Stands base low n env x t → Does vectors s n env (in_parentheses x) (settle_if b (Ok t)) (λ y u m after. StandsIf b base low m after y u)
  copy-if l named true t taken h = settles-copy l named t taken h
  copy-if l named false t free h = does-copy l t free h

-- ---- as a subscript of the source

taken_after : (w : Staged (List ℤ)) → (w >>= (λ xs. let p : Staged Pick = Ok (pick.Vector (term.Listed xs)) in p)) ≡ ((w >>= (λ xs. let t : Staged Term = Ok (term.Listed xs) in t)) >>= source.subscript true)
taken_after (Ok xs) = refl
taken_after (Err t) = refl

pub settled-subscript : (t : Term) → source.subscript false t ≡ (settled t >>= source.subscript true)
settled-subscript (term.Scalar z) = refl
settled-subscript t = taken_after (later.whole t)
