-- Operations on usable operands are right, and what they make is usable.
use Rattle.std.proofs.Common.{◌≡◌, refl, ap, ◌∙◌, ℕ, ◌+◌, ◌==◌, nat_lt, Bool, true, false, List, [], ◌∷◌, length, All, Option, Some, None, ℤ, arith}
use Rattle.std.proofs.lemmas.List.Elements.{All-nil, All-cons}
use Rattle.std.proofs.lemmas.Bool.{and_from, or_right}
use Rattle.ws_base.specs.declared.op.UnOp.{UnOp}
use Rattle.ws_base.specs.declared.op.UnOp.TheVariants as un
use Rattle.ws_base.specs.declared.op.CallWord.{CallWord}
use Rattle.ws_base.specs.declared.op.CallWord.TheVariants as word
use Rattle.hlfir_ops.specs.declared.kinds.Elem.{Elem}
use Rattle.hlfir_ops.specs.declared.kinds.Elem.TheVariants.{I32, I1}
use Rattle.hlfir_ops.specs.declared.kinds.ValueKind.{ValueKind}
use Rattle.hlfir_ops.specs.declared.kinds.ValueKind.TheVariants.{Scalar, Place, Declared, Allocatable, Section, Array}
use Rattle.hlfir_ops.specs.declared.what.ValueUnary.TheVariants as unary
use Rattle.hlfir_ops.specs.declared.what.ValueBinary.{ValueBinary}
use Rattle.hlfir_ops.specs.declared.what.Reduction.{Reduction}
use Rattle.hlfir_ops.specs.declared.what.What.{What}
use Rattle.hlfir_ops.specs.declared.what.What.TheVariants as what
use Rattle.hlfir_ops.specs.declared.op.Op.{Op}
use Rattle.hlfir_ops.specs.Trees.{op_of, region_of}
use Rattle.hlfir_ops.specs.Numbers.{names_in, own_numbers}
use Rattle.hlfir_ops.specs.RulesValues.{Value}
use Rattle.hlfir_ops.specs.RulesForms.{result_elem, total_elem}
use Rattle.hlfir_ops.specs.RulesRegions.{is_operation, yields_element}
use Rattle.hlfir_ops.specs.Rules.{yields_of, sides_of, realloc_of}
use Rattle.lower_values.specs.declared.operand.Operand.{Operand}
use Rattle.lower_values.specs.Scopes.{Scope, inside}
use Rattle.lower_values.specs.Lowerings.{Lowering, giving_by}
use Rattle.lower_values.specs.Operations.{constant, values_of, rank_from, arranged, on_scalars, element, at_each, operation, binary_operation, value_of_whole, in_parentheses, unary_operation, reduction_of, what_of, call_elem, first_elem, total_or, call_on, vector}
use Rattle.kind_laws.specs.Found.{RegionsHeld}
use Rattle.kind_laws.proofs.ScopesFound.{regions_are_held}
use Rattle.yield_laws.proofs.Right.{IsRight, op-right}
use Rattle.kind_laws.proofs.Ends.{ops_in-first}
use Rattle.yield_laws.proofs.Regions.{no-regions, more-regions, region-reached}
use Rattle.yield_laws.proofs.Usable.{IsUsable, IsValue, is_solid, usable-reached, more-reached, all-reached, gives-value, given-usable}
use Rattle.yield_laws.proofs.Walking.{Walks, walks-done, walks-value, walks-if}
use Rattle.yield_laws.proofs.Elements.{IsBody, body, operation_value, operation_plain, arranged-reached}

pub solid_rank : (rank : ℕ) → (rank == 0) ≡ false → nat_lt 0 rank ≡ true
solid_rank rank h = grind (arith, h)

module _ (vs : List Value) (s : Scope) (n : ℕ) where
  -- ---- elementals

  elemental-right : (m : Bool) (line : ℕ) (kind : Option ValueKind) (ops : List Op) → IsBody vs ops → IsRight vs m (op_of what.Elemental line [] kind (region_of ops ∷ []))
  unfolding yields_of sides_of realloc_of
  elemental-right m line kind ops b =
      op-right vs m what.Elemental line [] kind (region_of ops ∷ [])
      (record {
        other = refl;
        yields = ap (yields_element vs) (ops_in-first ops []) ∙ b.yields;
        sides = refl;
        realloc = refl;
        uses = refl;
        judged = and_from _ true (region-reached vs ops b.reached) refl;
      })
      (more-regions vs m ops [] (b.right m) (no-regions vs m))

  module _ (w : What) (op : is_operation w ≡ true) (e : Elem) (xs : List Operand) (us : All (IsUsable vs) xs) where
    walks-scalars : Walks vs (IsValue vs) s n (on_scalars w e xs) (IsUsable vs)
    unfolding on_scalars
    walks-scalars = walks-value vs s n w (arranged w (values_of xs)) (Scalar e) (operation_value w op) (operation_plain w op) refl (or_right _ _ (arranged-reached vs w (values_of xs) (all-reached vs xs us)))

    walks-each : (rank_from 0 xs == 0) ≡ false → Walks vs (IsValue vs) s n (at_each w e (rank_from 0 xs) xs) (IsUsable vs)
    unfolding at_each giving_by
    walks-each some h =
        let kind = Array e (rank_from 0 xs) in
        let first = n + own_numbers (Some kind) in
        let s' = inside what.Elemental s.line 0 first s in
        let ops = (element w e xs s' (first + length (names_in what.Elemental 0))).ops in
        let whole = op_of what.Elemental s.line [] (Some kind) (region_of ops ∷ []) in
        let held : RegionsHeld vs what.Elemental s.line 0 first (element w e xs ∷ []) s = regions_are_held vs what.Elemental s.line [] (Some kind) (element w e xs ∷ []) s n [] h in
        let b = body vs s' w op e (first + length (names_in what.Elemental 0)) xs us some held.1 in (
          All-cons (IsValue vs) whole [] (gives-value what.Elemental s.line [] (Some kind) (region_of ops ∷ []) refl, λ m. elemental-right m s.line (Some kind) ops b) (All-nil (IsValue vs)),
          given-usable vs n what.Elemental s.line [] kind (region_of ops ∷ []) [] refl (solid_rank (rank_from 0 xs) some) h,
        )

    pub walks-operation : Walks vs (IsValue vs) s n (operation w e xs) (IsUsable vs)
    unfolding operation
    walks-operation = walks-if vs (IsValue vs) s n (rank_from 0 xs == 0) (on_scalars w e xs) (at_each w e (rank_from 0 xs) xs) (IsUsable vs) (λ is. walks-scalars) walks-each

  -- ---- operators

  pub walks-constant : (e : Elem) (z : ℤ) → Walks vs (IsValue vs) s n (constant e z) (IsUsable vs)
  walks-constant e z = walks-value vs s n (what.Constant z) [] (Scalar e) refl refl refl refl

  one : (x : Operand) → IsUsable vs x → All (IsUsable vs) (x ∷ [])
  one x u = All-cons (IsUsable vs) x [] u (All-nil (IsUsable vs))

  pub walks-binary : (op : ValueBinary) (x y : Operand) → IsUsable vs x → IsUsable vs y → Walks vs (IsValue vs) s n (binary_operation op x y) (IsUsable vs)
  walks-binary op x y u v = walks-operation (what.Binary op) refl (result_elem op) (x ∷ y ∷ []) (All-cons (IsUsable vs) x (y ∷ []) u (one y v))

  whole : (k : ValueKind) (x : Operand) → is_solid k ≡ true → IsUsable vs x → Walks vs (IsValue vs) s n (value_of_whole k x) (IsUsable vs)
  whole (Scalar e) x k u = walks-done vs (IsValue vs) s n x (IsUsable vs) u
  whole (Place e) x k u = walks-done vs (IsValue vs) s n x (IsUsable vs) u
  whole (Declared e shape) x k u = walks-value vs s n what.AsExpr (x.value ∷ []) (Array e shape.rank) refl refl k (more-reached vs x.value [] (usable-reached u) refl)
  whole (Allocatable e rank) x k u = walks-value vs s n what.AsExpr (x.value ∷ []) (Array e rank) refl refl k (more-reached vs x.value [] (usable-reached u) refl)
  whole (Section e rank) x k u = walks-done vs (IsValue vs) s n x (IsUsable vs) u
  whole (Array e rank) x k u = walks-done vs (IsValue vs) s n x (IsUsable vs) u

  pub walks-parentheses : (x : Operand) → IsUsable vs x → Walks vs (IsValue vs) s n (in_parentheses x) (IsUsable vs)
  unfolding in_parentheses
  walks-parentheses x u = whole x.kind x u.solid u

  pub walks-unary : (op : UnOp) (x : Operand) → IsUsable vs x → Walks vs (IsValue vs) s n (unary_operation op x) (IsUsable vs)
  walks-unary un.Minus x u = walks-operation (what.Unary unary.Neg) refl I32 (x ∷ []) (one x u)
  walks-unary un.Plus x u = walks-parentheses x u
  walks-unary un.Not x u = walks-operation (what.Unary unary.Not) refl I1 (x ∷ []) (one x u)

  -- ---- calls and constructors

  pub walks-vector : (xs : List Operand) → All (IsUsable vs) xs → Walks vs (IsValue vs) s n (vector xs) (IsUsable vs)
  unfolding vector
  walks-vector xs us = walks-value vs s n what.Vector (values_of xs) (Array (first_elem xs) 1) refl refl refl (all-reached vs xs us)

  call_operates : (w : CallWord) → is_operation (what_of w) ≡ true
  call_operates word.Abs = refl
  call_operates word.Mod = refl
  call_operates word.Modulo = refl
  call_operates _ = refl

  walks-total_or : (r : Option Reduction) (xs : List Operand) (p : Lowering Operand) → All (IsUsable vs) xs → Walks vs (IsValue vs) s n p (IsUsable vs) → Walks vs (IsValue vs) s n (total_or r xs p) (IsUsable vs)
  walks-total_or (Some r) xs p us h = walks-value vs s n (what.Reduce r) (values_of xs) (Scalar (total_elem r)) refl refl refl (all-reached vs xs us)
  walks-total_or None xs p us h = h

  pub walks-call : (w : CallWord) (xs : List Operand) → All (IsUsable vs) xs → Walks vs (IsValue vs) s n (call_on w xs) (IsUsable vs)
  unfolding call_on
  walks-call w xs us = walks-total_or (reduction_of w) xs (operation (what_of w) (call_elem w xs) xs) us (walks-operation (what_of w) (call_operates w) (call_elem w xs) xs us)
