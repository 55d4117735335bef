-- What an elemental holds: operands at the current position, an operation on them, and the yield of its result.
use Rattle.std.proofs.Common.{◌≡◌, refl, sym, ap, ◌∙◌, subst, ℕ, ◌+◌, ◌==◌, max, Bool, true, false, not, ◌&&◌, ◌||◌, List, [], ◌∷◌, ◌++◌, length, All, Option, Some, None, arith, append_assoc, true≢false, if◌then◌else◌}
use Rattle.std.specs.List.{list_all, list_any}
use Rattle.std.proofs.lemmas.List.Elements.{All-nil, All-cons, All-head, All-tail, All-weaker, All-push}
use Rattle.std.proofs.lemmas.Bool.{and_from, or_left, or_right}
use Rattle.hlfir_ops.specs.declared.kinds.Elem.{Elem}
use Rattle.hlfir_ops.specs.declared.kinds.ValueKind.{ValueKind}
use Rattle.hlfir_ops.specs.declared.kinds.ValueKind.TheVariants.{Scalar}
use Rattle.hlfir_ops.specs.declared.what.What.{What}
use Rattle.hlfir_ops.specs.declared.what.What.TheVariants as what
use Rattle.hlfir_ops.specs.declared.op.ValueId.{ValueId}
use Rattle.hlfir_ops.specs.declared.op.Op.{Op, Op-F, out-Op, out-roll-Op}
use Rattle.hlfir_ops.specs.declared.op.Region.{Region}
use Rattle.hlfir_ops.specs.Trees.{op_of}
use Rattle.hlfir_ops.specs.Numbers.{numbers_of}
use Rattle.hlfir_ops.specs.RulesValues.{Value, kind_of, kind_at, value_at, elem_of, rank_of, is_allocatable_declare}
use Rattle.hlfir_ops.specs.RulesRegions.{is_apply, is_operation, is_value_op, applies, operates, works_on_elements, is_yield_element, front_of, parts, is_any_scalar, first_kind, yields_element}
use Rattle.hlfir_ops.specs.RulesStatements.{no_allocatable}
use Rattle.lower_values.specs.declared.operand.Operand.{Operand}
use Rattle.lower_values.specs.Scopes.{Scope}
use Rattle.lower_values.specs.Lowerings.{Lowering, done, ◌>>=◌, giving, acting}
use Rattle.lower_values.specs.Operations.{values_of, rank_from, arranged, on_scalars, at_position, at_positions, element}
use Rattle.kind_laws.specs.Found.{Holds, Found}
use Rattle.yield_laws.proofs.Right.{IsRight, AreRight}
use Rattle.kind_laws.proofs.Finding.{holds_first, holds_after}
use Rattle.kind_laws.proofs.Ends.{is_last-push, front_of-push, parts-push}
use Rattle.yield_laws.proofs.Usable.{IsUsable, is_plain, usable-reached, more-reached, all-reached, plain-right, given-usable}
use Rattle.yield_laws.proofs.Walking.{Walks, walks-done, walks-then, walks-giving, walks-if}

pub kind-found : {vs : List Value} {x : Operand} → Found vs x → kind_at vs x.value ≡ Some x.kind
kind-found h = ap kind_of h.found ∙ ap Some h.kind

-- ---- operations

pub operation_value : (w : What) → is_operation w ≡ true → is_value_op w ≡ true
operation_value (what.Unary op) h = refl
operation_value (what.Binary op) h = refl
operation_value what.Select h = refl
operation_value _ h = absurd (true≢false (sym h))

pub operation_plain : (w : What) → is_operation w ≡ true → is_plain w ≡ true
operation_plain (what.Unary op) h = refl
operation_plain (what.Binary op) h = refl
operation_plain what.Select h = refl
operation_plain _ h = absurd (true≢false (sym h))

turned : (a b c : Bool) → (a && (b && (c && true))) ≡ true → (c && (a && (b && true))) ≡ true
turned true true true h = refl
turned true true false h = h
turned true false c h = absurd (true≢false (sym h))
turned false b c h = absurd (true≢false (sym h))

abbrev other : List Value → ValueId → Bool
other vs v = not (is_allocatable_declare (value_at vs v))

select_reached : (vs : List Value) (os : List ValueId) → no_allocatable vs os ≡ true → no_allocatable vs (arranged what.Select os) ≡ true
select_reached vs [] h = h
select_reached vs (a ∷ []) h = h
select_reached vs (a ∷ b ∷ []) h = h
select_reached vs (a ∷ b ∷ c ∷ []) h = turned (other vs a) (other vs b) (other vs c) h
select_reached vs (a ∷ b ∷ c ∷ d ∷ os) h = h

pub arranged-reached : (vs : List Value) (w : What) (os : List ValueId) → no_allocatable vs os ≡ true → no_allocatable vs (arranged w os) ≡ true
arranged-reached vs what.Select os h = select_reached vs os h
arranged-reached vs _ os h = h

-- ---- ops of a body

-- one that works on elements, and is right wherever it stands
abbrev pub IsElement : List Value → Op → Type 0
IsElement vs op = (works_on_elements op ≡ true) × ((m : Bool) → IsRight vs m op)

what-is : (w : What) (line : ℕ) (operands : List ValueId) (kind : Option ValueKind) (regions : List Region) → (out-Op (op_of w line operands kind regions)).what ≡ w
what-is w line operands kind regions = ap (λ (f : Op-F Op Region). f.what) (out-roll-Op (record { what = w; line = line; operands = operands; kind = kind; regions = regions }))

any_front : (test : Op → Bool) (xs ys : List Op) → list_any test xs ≡ true → list_any test (xs ++ ys) ≡ true
any_front test [] ys h = absurd (true≢false (sym h))
any_front test (x ∷ xs) ys h = here (test x) refl (any_front test xs ys)
  where
    here : (b : Bool) → test x ≡ b → (list_any test xs ≡ true → list_any test (xs ++ ys) ≡ true) → (test x || list_any test (xs ++ ys)) ≡ true
    here true is f = or_left _ _ is
    here false is f = or_right (test x) _ (f (sym (ap (λ b. b || list_any test xs) is) ∙ h))

any_back : (test : Op → Bool) (xs ys : List Op) → list_any test ys ≡ true → list_any test (xs ++ ys) ≡ true
any_back test [] ys h = h
any_back test (x ∷ xs) ys h = or_right (test x) _ (any_back test xs ys h)

all_work : (vs : List Value) (ops : List Op) → All (IsElement vs) ops → list_all works_on_elements ops ≡ true
all_work vs [] h = refl
all_work vs (op ∷ ops) h = and_from _ _ (All-head (IsElement vs) op ops h).0 (all_work vs ops (All-tail (IsElement vs) op ops h))

pub elements-right : (vs : List Value) (m : Bool) (ops : List Op) → All (IsElement vs) ops → AreRight vs m ops
elements-right vs m ops h = All-weaker (IsElement vs) (IsRight vs m) (λ op g. g.1 m) ops h

-- the ops of a body are right, and it yields an element
pub record IsBody (vs : List Value) (ops : List Op) : Type 0 where
  pub right : (m : Bool) → AreRight vs m ops
  pub yields : yields_element vs ops ≡ true
  pub reached : no_allocatable vs (parts ops) ≡ true

module _ (vs : List Value) (s : Scope) where
  apply_element : (x : Operand) → IsUsable vs x → IsElement vs (op_of what.Apply s.line (x.value ∷ []) (Some (Scalar (elem_of x.kind))) [])
  apply_element x u = (
    or_left _ _ (ap is_apply (what-is what.Apply s.line (x.value ∷ []) (Some (Scalar (elem_of x.kind))) [])),
    λ m. plain-right vs m what.Apply s.line (x.value ∷ []) (Some (Scalar (elem_of x.kind))) refl (more-reached vs x.value [] (usable-reached u) refl),
  )

  walks-position : (k : ℕ) (x : Operand) → IsUsable vs x → Walks vs (IsElement vs) s k (at_position x) (IsUsable vs)
  unfolding at_position
  walks-position k x u =
      walks-if vs (IsElement vs) s k (rank_of x.kind == 0) (done x) (giving what.Apply (x.value ∷ []) (Scalar (elem_of x.kind))) (IsUsable vs) (λ is. walks-done vs (IsElement vs) s k x (IsUsable vs) u)
      (λ is. walks-giving vs (IsElement vs) s k what.Apply (x.value ∷ []) (Scalar (elem_of x.kind)) refl refl (apply_element x u))

  walks-positions : (k : ℕ) (xs : List Operand) → All (IsUsable vs) xs → Walks vs (IsElement vs) s k (at_positions xs) (All (IsUsable vs))
  unfolding at_positions
  walks-positions k [] h = walks-done vs (IsElement vs) s k [] (All (IsUsable vs)) (All-nil (IsUsable vs))
  walks-positions k (x ∷ xs) h =
      walks-then vs (IsElement vs) s k (at_position x) (λ y. at_positions xs >>= (λ ys. done (y ∷ ys))) (IsUsable vs) (All (IsUsable vs)) (walks-position k x (All-head (IsUsable vs) x xs h))
      (λ m y u. walks-then vs (IsElement vs) s m (at_positions xs) (λ ys. done (y ∷ ys)) (All (IsUsable vs)) (All (IsUsable vs)) (walks-positions m xs (All-tail (IsUsable vs) x xs h))
      (λ j ys us. walks-done vs (IsElement vs) s j (y ∷ ys) (All (IsUsable vs)) (All-cons (IsUsable vs) y ys u us)))

  -- ---- an array among the operands is applied

  position : Bool → Operand → Lowering Operand
  position b x = if b then done x else giving what.Apply (x.value ∷ []) (Scalar (elem_of x.kind))

  applied_first : (k : ℕ) (x : Operand) → (rank_of x.kind == 0) ≡ false → list_any applies (at_position x s k).ops ≡ true
  unfolding at_position giving position
  applied_first k x h =
      ap (λ b. list_any applies (position b x s k).ops) h
      ∙ or_left _ _ (ap is_apply (what-is what.Apply s.line (x.value ∷ []) (Some (Scalar (elem_of x.kind))) []))

  none_greater : (a b : ℕ) → (a == 0) ≡ true → (b == 0) ≡ true → (max a b == 0) ≡ true
  none_greater a b h g = grind (arith, h, g)

  two_cases : {P : Type 0} (b : Bool) → (b ≡ false → P) → (b ≡ true → P) → P
  two_cases true f g = g refl
  two_cases false f g = f refl

  some_applied : (k r : ℕ) (xs : List Operand) → (r == 0) ≡ true → (rank_from r xs == 0) ≡ false → list_any applies (at_positions xs s k).ops ≡ true
  unfolding at_positions ◌>>=◌ done
  some_applied k r [] z h = absurd (true≢false (sym z ∙ h))
  some_applied k r (x ∷ xs) z h =
      let here = (at_position x s k).ops in
      let m = k + numbers_of here in
      let rest = (at_positions xs s m).ops in
      two_cases (rank_of x.kind == 0) (λ is. any_front applies here (rest ++ []) (applied_first k x is))
      (λ is. any_back applies here (rest ++ []) (any_front applies rest [] (some_applied m (max r (rank_of x.kind)) xs (none_greater r (rank_of x.kind) z is) h)))

  -- ---- the whole body

  module _ (w : What) (op : is_operation w ≡ true) (e : Elem) where
    made_op : List Operand → Op
    made_op ys = op_of w s.line (arranged w (values_of ys)) (Some (Scalar e)) []

    operation_element : (ys : List Operand) → All (IsUsable vs) ys → IsElement vs (made_op ys)
    unfolding made_op
    operation_element ys us =
        let os = arranged w (values_of ys) in (
          or_right _ _ (ap is_operation (what-is w s.line os (Some (Scalar e)) []) ∙ op),
          λ m. plain-right vs m w s.line os (Some (Scalar e)) (operation_plain w op) (or_right _ _ (arranged-reached vs w (values_of ys) (all-reached vs ys us))),
        )

    last_yield : ℕ → Op
    last_yield z = op_of what.YieldElement s.line (record { number = z } ∷ []) None []

    element-ops : (k : ℕ) (xs : List Operand) → (element w e xs s k).ops ≡ ((at_positions xs s k).ops ++ made_op (at_positions xs s k).made ∷ []) ++ last_yield (k + numbers_of (at_positions xs s k).ops) ∷ []
    unfolding element on_scalars giving acting ◌>>=◌ made_op last_yield
    element-ops k xs = sym (append_assoc (at_positions xs s k).ops (made_op (at_positions xs s k).made ∷ []) (last_yield (k + numbers_of (at_positions xs s k).ops) ∷ []))

    pub body : (k : ℕ) (xs : List Operand) → All (IsUsable vs) xs → (rank_from 0 xs == 0) ≡ false → Holds vs k (element w e xs s k).ops → IsBody vs (element w e xs s k).ops
    unfolding made_op last_yield
    body k xs us some holds =
        let at = at_positions xs s k in
        let z = k + numbers_of at.ops in
        let made = made_op at.made in
        let front = at.ops ++ made ∷ [] in
        let held : Holds vs k (front ++ last_yield z ∷ []) = subst (Holds vs k) (element-ops k xs) holds in
        let held_front = holds_first vs _ front (last_yield z ∷ []) held in
        let walked = walks-positions k xs us (holds_first vs _ at.ops (made ∷ []) held_front) in
        let own = operation_element at.made walked.1 in
        let elements : All (IsElement vs) front = All-push (IsElement vs) at.ops made walked.0 own in
        let usable : IsUsable vs (record { value = record { number = z }; kind = Scalar e }) =
        given-usable vs z w s.line (arranged w (values_of at.made)) (Scalar e) [] [] (operation_value w op) refl (holds_after vs _ at.ops (made ∷ []) held_front) in
        let yielded : parts (front ++ last_yield z ∷ []) ≡ record { number = z } ∷ [] = parts-push what.YieldElement s.line (record { number = z } ∷ []) front refl in
        let fr : front_of (front ++ last_yield z ∷ []) ≡ front = front_of-push front (last_yield z) in
        let works : list_any operates front ≡ true = any_back operates at.ops (made ∷ []) (or_left _ _ (ap is_operation (what-is w s.line (arranged w (values_of at.made)) (Some (Scalar e)) []) ∙ op)) in
        subst (IsBody vs) (sym (element-ops k xs))
        (record {
          right = λ m. All-push (IsRight vs m) front (last_yield z) (elements-right vs m front elements)
              (plain-right vs m what.YieldElement s.line (record { number = z } ∷ []) None refl refl);
          yields =
              and_from _ _ (and_from _ _ (and_from _ _ (and_from _ _ (and_from _ _ (is_last-push what.YieldElement s.line (record { number = z } ∷ []) is_yield_element front)
              (ap (list_all works_on_elements) fr ∙ all_work vs front elements))
              (ap (list_any applies) fr ∙ any_front applies at.ops (made ∷ []) (some_applied k 0 xs refl some)))
              (ap (list_any operates) fr ∙ works))
              (ap (λ os. length os == 1) yielded))
              (ap (λ os. is_any_scalar (first_kind vs os)) yielded ∙ ap is_any_scalar (kind-found usable.found));
          reached = ap (no_allocatable vs) yielded ∙ more-reached vs (record { number = z }) [] (usable-reached usable) refl;
        })
