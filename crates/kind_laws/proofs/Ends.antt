-- The ops of regions, and what a list of ops that ends with a yield yields.
use Rattle.std.proofs.Common.{◌≡◌, refl, ap, ◌∙◌, ℕ, ◌-◌, Bool, true, ◌||◌, List, [], ◌∷◌, ◌++◌, length, take, Some, None, slice_get, arith, if◌then◌else◌}
use Rattle.std.specs.List.{list_all}
use Rattle.std.proofs.lemmas.List.{length_push}
use Rattle.std.proofs.Math.Seq.{take-append_seam}
use Rattle.std.proofs.lemmas.Bool.{and_from}
use Rattle.hlfir_ops.specs.declared.what.What.{What}
use Rattle.hlfir_ops.specs.declared.what.What.TheVariants as what
use Rattle.hlfir_ops.specs.declared.op.ValueId.{ValueId}
use Rattle.hlfir_ops.specs.declared.op.Op.{Op, Op-F, out-Op, out-roll-Op}
use Rattle.hlfir_ops.specs.declared.op.Region.{Region, out-Region, out-roll-Region}
use Rattle.hlfir_ops.specs.Trees.{op_of, region_of}
use Rattle.hlfir_ops.specs.RulesRegions.{ops_in, is_yield, is_yield_element, gives_value, last_of, front_of, is_last, parts_of, parts, yields}
use Rattle.lower_values.specs.declared.operand.Operand.{Operand}
use Rattle.lower_values.specs.Scopes.{Scope}
use Rattle.lower_values.specs.Lowerings.{Lowering, ◌>>=◌, acting}
use Rattle.lower_assign.specs.Statements.{yielded, all_yielded}

-- ---- the last one and those before it

at_seam : (xs : List Op) (x : Op) → slice_get (xs ++ x ∷ []) (length xs) ≡ Some x
at_seam [] x = refl
at_seam (y ∷ xs) x = at_seam xs x

less_one : (xs : List Op) (x : Op) → length (xs ++ x ∷ []) - 1 ≡ length xs
less_one xs x = omega (arith, length_push xs x)

pub last_of-push : (xs : List Op) (x : Op) → last_of (xs ++ x ∷ []) ≡ Some x
last_of-push xs x = ap (slice_get (xs ++ x ∷ [])) (less_one xs x) ∙ at_seam xs x

pub front_of-push : (xs : List Op) (x : Op) → front_of (xs ++ x ∷ []) ≡ xs
front_of-push xs x = ap (λ n. take n (xs ++ x ∷ [])) (less_one xs x) ∙ take-append_seam xs (x ∷ [])

-- ---- a region by its ops

pub ops-region_of : (ops : List Op) → (out-Region (region_of ops)).ops ≡ ops
ops-region_of ops = ap (λ f. f.ops) (out-roll-Region (record { ops = ops }))

pub ops_in-first : (ops : List Op) (rest : List Region) → ops_in (region_of ops ∷ rest) 0 ≡ ops
ops_in-first ops rest = ops-region_of ops

pub ops_in-second : (first : Region) (ops : List Op) (rest : List Region) → ops_in (first ∷ region_of ops ∷ rest) 1 ≡ ops
ops_in-second first ops rest = ops-region_of ops

pub ops_in-third : (first second : Region) (ops : List Op) (rest : List Region) → ops_in (first ∷ second ∷ region_of ops ∷ rest) 2 ≡ ops
ops_in-third first second ops rest = ops-region_of ops

-- ---- yields

module _ (w : What) (line : ℕ) (operands : List ValueId) where
  abbrev last : Op
  last = op_of w line operands None []

  abbrev fields : Op-F Op Region
  fields = record { what = w; line = line; operands = operands; kind = None; regions = [] }

  ends : out-Op last ≡ fields
  ends = out-roll-Op fields

  pub is_last-push : (test : What → Bool) (xs : List Op) → is_last test (last_of (xs ++ last ∷ [])) ≡ test w
  is_last-push test xs = ap (is_last test) (last_of-push xs last) ∙ ap (λ f. test f.what) ends

  pub parts-push : (xs : List Op) → (is_yield w || is_yield_element w) ≡ true → parts (xs ++ last ∷ []) ≡ operands
  parts-push xs h = ap parts_of (last_of-push xs last)
      ∙ (ap (λ f. if is_yield f.what || is_yield_element f.what then f.operands else []) ends ∙ ap (λ b. if b then operands else []) h)

pub parts-yield : (line : ℕ) (operands : List ValueId) (xs : List Op) → parts (xs ++ op_of what.Yield line operands None [] ∷ []) ≡ operands
parts-yield line operands xs = parts-push what.Yield line operands xs refl

pub yields-push : (line : ℕ) (operands : List ValueId) (xs : List Op) → list_all gives_value xs ≡ true → yields (xs ++ op_of what.Yield line operands None [] ∷ []) ≡ true
yields-push line operands xs h =
    and_from _ _ (is_last-push what.Yield line operands is_yield xs) (ap (list_all gives_value) (front_of-push xs (op_of what.Yield line operands None [])) ∙ h)

-- ---- regions that yield what they make

pub parts-yielded : (p : Lowering Operand) (s : Scope) (n : ℕ) → parts (yielded p s n).ops ≡ (p s n).made.value ∷ []
unfolding ◌>>=◌ acting
parts-yielded p s n = parts-yield s.line ((p s n).made.value ∷ []) (p s n).ops

pub parts-all_yielded : (p : Lowering (List ValueId)) (s : Scope) (n : ℕ) → parts (all_yielded p s n).ops ≡ (p s n).made
unfolding ◌>>=◌ acting
parts-all_yielded p s n = parts-yield s.line (p s n).made (p s n).ops
