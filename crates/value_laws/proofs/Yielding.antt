-- The region of a lowered expression.
use Rattle.std.proofs.Common.{◌≡◌, refl, ap, ◌∙◌, ℕ, ◌+◌, ◌≤◌, Bool, false, List, [], ◌∷◌, ◌++◌, None, Ok, Err}
use Rattle.std.proofs.lemmas.List.{append-nil}
use Rattle.ws_base.specs.Outcomes.{Staged}
use Rattle.ws_tree.specs.declared.expr.Expr.{Expr}
use Rattle.array_meaning.specs.declared.world.World.{World}
use Rattle.array_meaning.specs.declared.term.Term.{Term}
use Rattle.array_meaning.specs.declared.term.Term.TheVariants as term
use Rattle.array_meaning.specs.Stage1 as source
use Rattle.hlfir_ops.specs.declared.kinds.ValueKind.{ValueKind}
use Rattle.hlfir_ops.specs.declared.what.What.TheVariants as what
use Rattle.hlfir_ops.specs.declared.op.Op.{Op}
use Rattle.hlfir_ops.specs.Trees.{op_of}
use Rattle.hlfir_ops.specs.Numbers.{numbers_of}
use Rattle.hlfir_meaning.specs.Environments.{Value, Environment, yielding}
use Rattle.hlfir_meaning.specs.Stage1.{subscript_numbers, once, stage1}
use Rattle.lower_values.specs.declared.operand.Operand.{Operand}
use Rattle.lower_values.specs.Scopes.{Scope}
use Rattle.lower_values.specs.Lowerings.{Lowering, acting, ◌>>=◌ as ◌then◌}
use Rattle.lower_assign.specs.Statements.{yielded}
use Rattle.lower_values.specs.Values.{value}
use Rattle.value_laws.specs.Standing.{Goes, IsOfRank, Stands}
use Rattle.value_laws.specs.Names.{Agrees}
use Rattle.value_laws.specs.Sound.{IsSound}
use Rattle.value_laws.specs.Laws.{PartsStand, IfParts}
use Rattle.value_laws.specs.Regions.{IsScalarOf, RegionYields}
use Rattle.value_laws.proofs.ClearExpressions.{clear-whole}
use Rattle.value_laws.proofs.Elementals.{shapes-are}
use Rattle.value_laws.proofs.Evaluated.{values-same}
use Rattle.value_laws.proofs.Expressions.{expression-if}
use Rattle.value_laws.proofs.Ops.{ending}
use Rattle.value_laws.proofs.VectorNumbers.{subscripts-append, subscripts-op}

scalar_is : (t : Term) (k : ValueKind) (v w : Value) → w ≡ v → IsOfRank k v t → IsScalarOf w t
scalar_is (term.Scalar z) k v w same h = same ∙ h.1
scalar_is t k v w same h = tt

module _ (s : Scope) (n : ℕ) (env : Environment) (p : Lowering Operand) where
  abbrev ops : List Op
  ops = (p s n).ops

  abbrev made : Operand
  made = (p s n).made

  abbrev yield_op : Op
  yield_op = op_of what.Yield s.line (made.value ∷ []) None []

  yielded-ops : (yielded p s n).ops ≡ ops ++ yield_op ∷ []
  unfolding acting ◌then◌
  yielded-ops = refl

  -- the yield takes no vector subscript
  pub yielded-vectors : subscript_numbers (yielded p s n).ops ≡ subscript_numbers ops
  yielded-vectors = ap subscript_numbers yielded-ops
      ∙ (subscripts-append ops (yield_op ∷ []) ∙ (ap (λ ns. subscript_numbers ops ++ ns) (subscripts-op what.Yield s.line (made.value ∷ []) None []) ∙ append-nil (subscript_numbers ops)))

  module _ (vectors : List ℕ) (base low high : ℕ) where
    ended : (r : Staged Term) → Goes vectors n env ops r (λ t after. Stands base low high after made t) → (os : List Op) → os ≡ ops ++ yield_op ∷ [] → subscript_numbers os ≡ vectors → RegionYields env (record { first = n; ops = os }) r
    ended (Ok t) h os is same =
        let after = h.0 in (
          yielding after (made.value ∷ []),
          ap (λ vs. stage1 vs n env os) same ∙ (ap (stage1 vectors n env) is ∙ (h.1.walked (yield_op ∷ [])
              ∙ ending what.Yield s.line (made.value ∷ []) None [] (once vectors) (n + numbers_of ops) after [] refl)),
          record {
            scalar = scalar_is t made.kind h.2.value (after made.value.number) h.2.found h.2.rank;
            operands = shapes-are base low high after made t h.2;
            values = λ at inside. values-same base low high after made t h.2 at inside;
          },
        )
    ended (Err e) h os is same = ap (λ vs. stage1 vs n env os) same ∙ (ap (stage1 vectors n env) is ∙ h (yield_op ∷ []))

pub expression-yields : (parts : Bool) (base : ℕ) (s : Scope) (w : World) (n : ℕ) (env : Environment) → base ≤ n → Agrees s.names base w env → (e : Expr) → IsSound parts s e →
    IfParts parts (PartsStand (subscript_numbers (value e s n).ops) base s w) → RegionYields env (record { first = n; ops = (yielded (value e) s n).ops }) (source.walk w e)
expression-yields parts base s w n env g agrees e sound law =
    let vectors = subscript_numbers (value e s n).ops in
    let clear = clear-whole base s (λ x d is. (agrees.variables x d is).1.below) parts vectors e n g sound (λ k low high. refl) in
    ended s n env (value e) vectors base n (n + numbers_of (value e s n).ops) (source.walk w e)
    (expression-if parts vectors base s w law false e n env g agrees sound clear tt)
    (yielded (value e) s n).ops (yielded-ops s n env (value e)) (yielded-vectors s n env (value e))
