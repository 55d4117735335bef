-- A constant expression that has a value is one constant, and its source has this value.
use Rattle.std.proofs.Common.{◌≡◌, refl, sym, ap, ◌∙◌, subst, ℕ, ◌≤◌, Bool, true, false, List, Some, Ok, ℤ}
use Rattle.ws_base.specs.Outcomes.{Staged, scalar_of, ◌>>=◌}
use Rattle.ws_space.specs.Values.{state_of}
use Rattle.ws_tree.specs.declared.expr.Expr.{Expr}
use Rattle.ws_tree.specs.declared.expr.Expr.TheVariants.{Named}
use Rattle.ws_types.specs.declared.constant.Constant as types
use Rattle.ws_types.specs.declared.constant.Constancy.{Constancy}
use Rattle.ws_types.specs.declared.constant.Constancy.TheVariants.{Value, NoValue, NotConstant}
use Rattle.ws_types.specs.Constants as known
use Rattle.ws_types.specs.Constants.{constancy}
use Rattle.array_meaning.specs.declared.world.World.{World}
use Rattle.array_meaning.specs.declared.term.Term.{Term}
use Rattle.array_meaning.specs.declared.term.Term.TheVariants.{Scalar}
use Rattle.array_meaning.specs.Stage1 as source
use Rattle.array_meaning.specs.Stage1.{named, walk, unary_on, binary_on}
use Rattle.hlfir_ops.specs.declared.kinds.Elem.TheVariants.{I32}
use Rattle.hlfir_meaning.specs.Environments.{Environment}
use Rattle.hlfir_meaning.specs.Stage1.{stage1}
use Rattle.lower_values.specs.declared.operand.Operand.{Operand}
use Rattle.lower_values.specs.Scopes.{Scope}
use Rattle.lower_values.specs.Lowerings.{Lowering}
use Rattle.lower_values.specs.Operations.{constant}
use Rattle.lower_values.specs.Values.{constant_or, folded}
use Rattle.value_laws.specs.Standing.{Does, Stands, settled, StandsSettled}
use Rattle.value_laws.specs.Names.{IfValue, ConstantsAgree}
use Rattle.value_laws.specs.Sound.{UnlessValue}
use Rattle.value_laws.proofs.Settled.{settle_if, StandsIf, does-scalar_if}
use Rattle.value_laws.proofs.Scalars.{does-constant}
use Rattle.value_laws.proofs.Walking.{does-scoped}
use Rattle.value_laws.proofs.Constancy.{value_weaker, constant-holds}

module _ (w : World) where
  abbrev IsWalked : Expr → ℤ → Type 0
  IsWalked e z = walk w e ≡ Ok (Scalar z)

  pub constant-walked : (cs : List types.Constant) → ConstantsAgree cs w.constants → (e : Expr) → IfValue (constancy cs e) (IsWalked e)
  constant-walked cs agree = constant-holds cs IsWalked (record {
    number = λ n. refl;
    name = λ x. value_weaker (known.constant_of cs x) (λ z. source.constant_of w.constants x ≡ Some z) (IsWalked (Named x)) (λ z is. ap (λ o. named o (state_of w.vars x)) is) (agree x);
    parentheses = λ e z h. h;
    sign = λ op e z v h is. ap (λ r. r >>= unary_on op) h ∙ ap (λ r. scalar_of r >>= (λ y. let t : Staged Term = Ok (Scalar y) in t)) is;
    operation = λ op e f y z v h g is.
        ap (λ r. r >>= (λ t. walk w f >>= (λ u. binary_on op t u))) h
        ∙ (ap (λ r. r >>= (λ u. binary_on op (Scalar y) u)) g ∙ ap (λ r. scalar_of r >>= (λ x. let t : Staged Term = Ok (Scalar x) in t)) is);
  })

-- ---- its lowering

pub unless-value : (c : Constancy) (P : Type 0) → P → UnlessValue c P
unless-value (Value z) P h = tt
unless-value NoValue P h = h
unless-value NotConstant P h = h

module _ (vectors : List ℕ) (base low : ℕ) (s : Scope) (n : ℕ) (env : Environment) (l : low ≤ n) (w : World) (agree : ConstantsAgree s.names.constants w.constants) (e : Expr) (p : Lowering Operand) where
  abbrev pub LeavesIf : Bool → Lowering Operand → Type 0
  LeavesIf b q = Does vectors s n env q (settle_if b (walk w e)) (λ x t m after. StandsIf b base low m after x t)

  by_value : (b : Bool) (c : Constancy) → IfValue c (λ z. walk w e ≡ Ok (Scalar z)) → UnlessValue c (LeavesIf b p) → LeavesIf b (constant_or c p)
  by_value b (Value z) is h = subst (λ r. Does vectors s n env (constant I32 z) (settle_if b r) (λ x t m after. StandsIf b base low m after x t)) (sym is)
      (does-scalar_if vectors base low s n env (constant I32 z) b (Ok z) (does-constant vectors base low I32 z s n env l))
  by_value b NoValue is h = h
  by_value b NotConstant is h = h

  pub folded-if : (b : Bool) → UnlessValue (constancy s.names.constants e) (LeavesIf b p) → LeavesIf b (folded e p)
  unfolding folded
  folded-if b h = does-scoped (stage1 vectors) s n env (λ q. constant_or (constancy q.names.constants e) p) (settle_if b (walk w e)) (λ x t m after. StandsIf b base low m after x t)
      (by_value b (constancy s.names.constants e) (constant-walked w s.names.constants agree e) h)

  pub does-folded : Does vectors s n env p (walk w e) (λ x t m after. Stands base low m after x t) → Does vectors s n env (folded e p) (walk w e) (λ x t m after. Stands base low m after x t)
  does-folded h = folded-if false (unless-value (constancy s.names.constants e) (LeavesIf false p) h)

  pub settles-folded : Does vectors s n env p (walk w e >>= settled) (λ x t m after. StandsSettled base low m after x t) → Does vectors s n env (folded e p) (walk w e >>= settled) (λ x t m after. StandsSettled base low m after x t)
  settles-folded h = folded-if true (unless-value (constancy s.names.constants e) (LeavesIf true p) h)
