-- The triplets of a normal form have strides.
use Rattle.std.proofs.Common.{◌≡◌, refl, subst, sym, ◌∙◌, ℕ, suc, Bool, true, false, if◌then◌else◌, List, [], ◌∷◌, map, Option, Some, None, Result, Ok, Err, ℤ, pos}
use Rattle.std.specs.Prelude.{IfOk}
use Rattle.std.specs.List.{All}
use Rattle.std.proofs.lemmas.Bool.{false≢true}
use Rattle.std.proofs.lemmas.List.Elements.{All-nil, All-cons}
use Rattle.ws_base.specs.Numbers.{int_eq}
use Rattle.ws_space.specs.declared.shape.Dim.{Dim}
use Rattle.ws_space.specs.Shapes.{dims, upper, places_from}
use Rattle.hlfir_ops.specs.declared.kinds.ValueKind.{ValueKind}
use Rattle.hlfir_ops.specs.declared.kinds.ValueKind.TheVariants as kind
use Rattle.hlfir_ops.specs.declared.what.SubKind.{SubKind}
use Rattle.hlfir_ops.specs.declared.what.SubKind.TheVariants as sub
use Rattle.hlfir_ops.specs.declared.what.What.{What}
use Rattle.hlfir_ops.specs.declared.what.What.TheVariants as what
use Rattle.hlfir_ops.specs.declared.op.ValueId.{ValueId}
use Rattle.hlfir_ops.specs.declared.op.Op.{Op}
use Rattle.alias_test.specs.declared.designator.Form.TheVariants.{Vector}
use Rattle.alias_test.specs.declared.designator.Designator.{Designator}
use Rattle.alias_test.specs.Symbols.{Tree, trees_at}
use Rattle.alias_test.specs.Normal.{integer, constant_at, fixed_at, constant_triplet, index_form, range_form, forms_of, kept_bounds, whole_form, declared_forms, whole_forms, designator_by}
use Rattle.alias_test.specs.Relations.{HasStride, HasStrides}
use Rattle.alias_test.proofs.Numbers.{int_eq-same}

strided_range : (l u s : Option ℤ) (trees : Tree) → HasStride (range_form (constant_triplet l u s) trees)
strided_range None u s trees = tt
strided_range (Some l) None s trees = tt
strided_range (Some l) (Some u) None trees = tt
strided_range (Some l) (Some u) (Some s) trees = at (int_eq s (pos 0)) refl where
  at : (b : Bool) → int_eq s (pos 0) ≡ b → HasStride (range_form (if b then None else Some (record { l = l; u = u; s = s })) trees)
  at true e = tt
  at false e = λ zero. false≢true (sym e ∙ int_eq-same s (pos 0) zero)

strided_index : (c : Option ℤ) (tree : Tree) → HasStride (index_form c tree)
strided_index None tree = tt
strided_index (Some c) tree = tt

strided_forms : (gs : List Op) (subs : List SubKind) (os : List ValueId) → All HasStride (forms_of gs subs os)
strided_forms gs (sub.One ∷ subs) (i ∷ more) = All-cons HasStride (index_form (constant_at gs i) (trees_at gs (i ∷ []))) (forms_of gs subs more) (strided_index (constant_at gs i) (trees_at gs (i ∷ []))) (strided_forms gs subs more)
strided_forms gs (sub.Range ∷ subs) (l ∷ u ∷ s ∷ more) =
    All-cons HasStride (range_form (constant_triplet (fixed_at gs l) (fixed_at gs u) (fixed_at gs s)) (trees_at gs (l ∷ u ∷ s ∷ []))) (forms_of gs subs more) (strided_range (fixed_at gs l) (fixed_at gs u) (fixed_at gs s) (trees_at gs (l ∷ u ∷ s ∷ [])))
    (strided_forms gs subs more)
strided_forms gs (sub.Vector ∷ subs) (v ∷ more) = All-cons HasStride Vector (forms_of gs subs more) tt (strided_forms gs subs more)
strided_forms gs _ _ = All-nil HasStride

strided_whole : (var dim : ℕ) (l u : Option ℤ) → HasStride (whole_form var dim l u)
strided_whole var dim l u = strided_range l u (Some (pos 1)) (kept_bounds var dim)

strided_declared : (var dim : ℕ) (ds : List Dim) → All HasStride (declared_forms var dim ds)
strided_declared var dim [] = All-nil HasStride
strided_declared var dim (d ∷ ds) = All-cons HasStride (whole_form var dim (Some d.lower) (integer (upper d))) (declared_forms var (suc dim) ds) (strided_whole var dim (Some d.lower) (integer (upper d))) (strided_declared var (suc dim) ds)

strided_kept : (var : ℕ) (dims : List ℕ) → All HasStride (map (λ dim. whole_form var dim None None) dims)
strided_kept var [] = All-nil HasStride
strided_kept var (dim ∷ dims) = All-cons HasStride (whole_form var dim None None) (map (λ dim. whole_form var dim None None) dims) (strided_whole var dim None None) (strided_kept var dims)

strided_variable : (var : ℕ) (k : Option ValueKind) → All HasStride (whole_forms var k)
strided_variable var (Some (kind.Declared e shape)) = strided_declared var 1 (dims shape)
strided_variable var (Some (kind.Allocatable e rank)) = strided_kept var (places_from 1 rank)
strided_variable var _ = All-nil HasStride

strided_by : (gs : List Op) (n : ℕ) (w : What) (os : List ValueId) (k : Option ValueKind) → HasStrides (designator_by gs n w os k)
strided_by gs n (what.Designate subs) (r ∷ more) k = strided_forms gs subs more
strided_by gs n w os k = strided_variable _ k

pub strided : (gs : List Op) (n : ℕ) (w : What) (os : List ValueId) (k : Option ValueKind) {E : Type 0} (r : Result Designator E) → IfOk r (λ d. d ≡ designator_by gs n w os k) → IfOk r HasStrides
strided gs n w os k (Ok d) same = subst HasStrides (sym same) (strided_by gs n w os k)
strided gs n w os k (Err e) same = tt
