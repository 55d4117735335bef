-- The declares of a source: they are found, at most 64, and small.
use Rattle.std.proofs.Common.{◌≡◌, refl, ap, ◌∙◌, ℕ, suc, ◌+◌, ◌<◌, ◌≤◌, nat_lt, nat_le, Bool, true, false, List, [], ◌∷◌, ◌++◌, length, All, Some, arith}
use Rattle.std.specs.Prelude.{⊤}
use Rattle.std.specs.List.{list_all}
use Rattle.std.proofs.lemmas.Bool.{and_from}
use Rattle.std.proofs.lemmas.List.{length-append}
use Rattle.std.proofs.lemmas.List.Folds.{list_all-append}
use Rattle.std.proofs.lemmas.List.Elements.{All-head, All-tail}
use Rattle.ws_tree.specs.declared.stmt.Decl.{Decl}
use Rattle.ws_types.specs.declared.constant.Constant.{Constant}
use Rattle.ws_sema.specs.Declarations.{heading_faults, decls_faults, with_constant}
use Rattle.hlfir_ops.specs.declared.what.What.TheVariants as what
use Rattle.hlfir_ops.specs.declared.op.Op.{Op, Op-F, out-roll-Op}
use Rattle.hlfir_ops.specs.declared.op.Region.{Region}
use Rattle.hlfir_ops.specs.Trees.{op_of}
use Rattle.hlfir_ops.specs.Numbers.{numbers_of}
use Rattle.hlfir_ops.specs.RulesValues.{Value}
use Rattle.hlfir_ops.specs.RulesPlaces.{Around, sites_of}
use Rattle.hlfir_ops.specs.RulesStatements.{declares, is_declare}
use Rattle.hlfir_ops.specs.RulesLimits.{declares_in, declare_limit}
use Rattle.lower_values.specs.declared.names.Variable.{Variable}
use Rattle.lower_values.specs.Scopes.{Scope}
use Rattle.lower_values.specs.Lowerings.{Lowering, done, ◌>>=◌ as ◌then◌, in_turn, giving}
use Rattle.lower_assign.specs.Known.{declares_variable, if_variable, variable_decls, numbered}
use Rattle.lower_constructs.specs.Modules.{declaration}
use Rattle.small_laws.proofs.NoFaults.{none_first, none_after, not_broken}
use Rattle.hlfir_ops.proofs.Sites.{sites_of-append, defined_by}
use Rattle.limit_laws.proofs.Costs.{one_if}
use Rattle.limit_laws.proofs.Passing.{fits_there, passing-at, regions-none}
use Rattle.limit_laws.proofs.Shapes.{HasSmallKind}

-- ---- at most 64 names

leb_false : (n : ℕ) → nat_le 64 n ≡ false → n < 64
leb_false n h = grind (arith, h)

few_before : (before : List Decl) (d : Decl) → heading_faults before d ≡ [] → length before < 64
unfolding heading_faults
few_before before d f = leb_false (length before) (not_broken _ _ _ (none_after _ _ f))

few_names : (before : List Decl) (cs : List Constant) (ds : List Decl) → length before ≤ 64 → decls_faults before cs ds ≡ [] → length before + length ds ≤ 64
few_names before cs [] h f = omega (arith, h)
few_names before cs (d ∷ ds) h f =
    let here = few_before before d (none_first _ _ (none_first _ _ (none_first _ _ (none_first _ _ f)))) in
    omega (arith, few_names (before ++ d ∷ []) (with_constant cs d) ds (omega (arith, length-append before (d ∷ []), here)) (none_after _ _ f), length-append before (d ∷ []))

one_fewer : (b : Bool) (d : Decl) (ds : List Decl) → length (if_variable b d ++ ds) ≤ suc (length ds)
one_fewer true d ds = omega arith
one_fewer false d ds = omega arith

fewer_variables : (ds : List Decl) → length (variable_decls ds) ≤ length ds
fewer_variables [] = omega arith
fewer_variables (d ∷ ds) = omega (arith, one_fewer (declares_variable d.constant) d (variable_decls ds), fewer_variables ds)

numbered_length : (n : ℕ) (cs : List Constant) (ds : List Decl) → length (numbered n cs ds) ≡ length ds
numbered_length n cs [] = refl
numbered_length n cs (d ∷ ds) = ap suc (numbered_length (suc n) cs ds)

pub few-variables : (cs : List Constant) (ds : List Decl) → decls_faults [] [] ds ≡ [] → length (numbered 0 cs (variable_decls ds)) ≤ 64
few-variables cs ds f = omega (arith, few_names [] [] ds (omega arith) f, fewer_variables ds, numbered_length 0 cs (variable_decls ds))

-- ---- the op of a declare

abbrev declare : Variable → ℕ → Op
declare v line = op_of (what.Declare v.name) line [] (Some v.declare.kind) []

declare_counts : (v : Variable) (line : ℕ) → declares (declare v line) ≡ true
declare_counts v line =
    let whole : Op-F Op Region = record { what = what.Declare v.name; line = line; operands = []; kind = Some v.declare.kind; regions = [] } in ap (λ f. is_declare f.what) (out-roll-Op whole)

declares-append : (xs ys : List Op) → declares_in (xs ++ ys) ≡ declares_in xs + declares_in ys
declares-append [] ys = omega arith
declares-append (x ∷ xs) ys = omega (arith, declares-append xs ys)

one_more : (before : List Op) (v : Variable) (line : ℕ) → declares_in (before ++ declare v line ∷ []) ≡ declares_in before + 1
one_more before v line = omega (arith, declares-append before (declare v line ∷ []), ap one_if (declare_counts v line))

below : (n : ℕ) → n < 64 → nat_lt n declare_limit ≡ true
below n h = grind (arith, h)

module _ (vs : List Value) (s : Scope) where
  abbrev all : ℕ → List Variable → Lowering ⊤
  all = in_turn declaration

  -- they keep the limits
  pub declares-pass : (a : Around) (k n : ℕ) (variables : List Variable) (before : List Op) (number : ℕ) (d : List ℕ) → declares_in before + length variables ≤ 64 → All HasSmallKind variables → list_all (fits_there vs) (sites_of a before number d (all k variables s n).ops) ≡ true
  unfolding in_turn declaration giving ◌then◌ done
  declares-pass a k n [] before number d few small = refl
  declares-pass a k n (v ∷ variables) before number d few small =
      let op = declare v s.line in
      let first = op ∷ [] ++ [] in
      let rest = (all (suc k) variables s (n + numbers_of first)).ops in
      ap (list_all (fits_there vs)) (sites_of-append a before number d first rest)
      ∙ (list_all-append (fits_there vs) (sites_of a before number d first) (sites_of a (before ++ first) (numbers_of first + number) (d ++ defined_by number first) rest)
      ∙ and_from _ _
      (passing-at vs a (what.Declare v.name) s.line [] (Some v.declare.kind) [] before (and_from _ _ (and_from _ _ (below (declares_in before) (omega (arith, few))) (All-head HasSmallKind v variables small)) refl) (regions-none vs a (what.Declare v.name) 0) number d)
      (declares-pass a (suc k) (n + numbers_of first) variables (before ++ first) (numbers_of first + number) (d ++ defined_by number first) (omega (arith, few, one_more before v s.line)) (All-tail HasSmallKind v variables small)))
