-- Sections and constructors, which parentheses and a plus keep as they are.
use Rattle.std.proofs.Common.{◌≡◌, refl, sym, ap, subst, ℕ, ◌≤◌, List, map, Ok}
use Rattle.ws_base.specs.Outcomes.{Staged, ◌>>=◌}
use Rattle.ws_base.specs.declared.op.UnOp.TheVariants as unop
use Rattle.ws_tree.specs.declared.expr.Expr.{Expr}
use Rattle.ws_tree.specs.declared.expr.Expr.TheVariants.{Part', Vector'}
use Rattle.ws_tree.specs.Trees.{paren, unary}
use Rattle.ws_types.specs.declared.constant.Constant.{Constant}
use Rattle.ws_types.specs.declared.constant.Constancy.TheVariants.{NotConstant}
use Rattle.ws_types.specs.Constants.{signed, constancy}
use Rattle.array_meaning.specs.declared.world.World.{World}
use Rattle.array_meaning.specs.declared.term.Term.{Term}
use Rattle.array_meaning.specs.declared.term.Term.TheVariants as term
use Rattle.array_meaning.specs.Stage1 as source
use Rattle.hlfir_ops.specs.declared.kinds.ValueKind.{ValueKind}
use Rattle.hlfir_ops.specs.declared.kinds.ValueKind.TheVariants as kind
use Rattle.hlfir_meaning.specs.Environments.{Environment}
use Rattle.lower_values.specs.declared.operand.Operand.{Operand}
use Rattle.lower_values.specs.Scopes.{Scope}
use Rattle.lower_values.specs.Lowerings.{Lowering, ◌>>=◌ as ◌then◌}
use Rattle.lower_values.specs.Operations.{value_of_whole, in_parentheses, unary_operation, vector}
use Rattle.lower_values.specs.Values.{constant_or, folded, value, values}
use Rattle.value_laws.specs.Standing.{Does, StandEach}
use Rattle.value_laws.specs.Singles.{IsSingle}
use Rattle.value_laws.specs.Variables.{IsNamed}
use Rattle.value_laws.proofs.Walking.{does-done, does-then, does-scoped, bind-ok}
use Rattle.std.specs.List.{All}
use Rattle.hlfir_meaning.specs.Stage1.{stage1}
use Rattle.part_laws.specs.Parts.{StandsUnnamed}
use Rattle.part_laws.specs.Subscripts.{SectionFits}
use Rattle.part_laws.proofs.Constructed.{does-constructor}
use Rattle.part_laws.proofs.Parts.{does-part}

module _ (vectors : List ℕ) (base low : ℕ) (s : Scope) (n : ℕ) (env : Environment) (x : Operand) (t : Term) (h : StandsUnnamed base low n env x t) where
  by_kind : (k : ValueKind) → (IsNamed k → ⊥) → Does vectors s n env (value_of_whole k x) (Ok t) (λ y u m after. StandsUnnamed base low m after y u)
  by_kind (kind.Declared e shape) unnamed = absurd (unnamed tt)
  by_kind (kind.Allocatable e rank) unnamed = absurd (unnamed tt)
  by_kind k unnamed = does-done (stage1 vectors) s n env x t (λ y u m after. StandsUnnamed base low m after y u) h

  pub does-parentheses : Does vectors s n env (in_parentheses x) (Ok t) (λ y u m after. StandsUnnamed base low m after y u)
  unfolding in_parentheses
  does-parentheses = by_kind x.kind h.1

plus-same : (t : Term) → source.unary_on unop.Plus t ≡ Ok t
plus-same (term.Scalar z) = refl
plus-same t = refl

-- ---- no constant expression

module _ (vectors : List ℕ) (base : ℕ) (s : Scope) (n : ℕ) (env : Environment) (w : World) where
  not_constant : (cs : List Constant) (e : Expr) → SectionFits vectors base s n env w e → constancy cs e ≡ NotConstant
  not_constant cs (Part' x h subs) fits = refl
  not_constant cs (Vector' h es) fits = refl
  not_constant cs (paren e) fits = not_constant cs e fits
  not_constant cs (unary unop.Plus e) fits = ap (signed unop.Plus) (not_constant cs e fits)
  not_constant cs e fits = absurd fits

  abbrev Leaves : Operand → Term → ℕ → Environment → Type 0
  Leaves y u m after = StandsUnnamed base n m after y u

  unfolded : (e : Expr) (p : Lowering Operand) (r : Staged Term) → SectionFits vectors base s n env w e → Does vectors s n env p r Leaves → Does vectors s n env (folded e p) r Leaves
  unfolding folded
  unfolded e p r fits h = does-scoped (stage1 vectors) s n env (λ q. constant_or (constancy q.names.constants e) p) r Leaves
      (subst (λ c. Does vectors s n env (constant_or c p) r Leaves) (sym (not_constant s.names.constants e fits)) h)

  module _ (g : base ≤ n) where
    pub does-section : (e : Expr) → SectionFits vectors base s n env w e → Does vectors s n env (value e) (source.walk w e) Leaves
    does-section (Part' x h subs) fits = does-part vectors base s n env w g (Part' x h subs) fits.0 fits.1 fits.2
    does-section (Vector' h es) fits = does-then (stage1 vectors) s n env (values es) vector (source.walks w es) (λ ts. Ok (term.Listed (map source.value_of ts))) (λ xs ts m after. StandEach base n m after xs ts × All IsSingle ts) Leaves fits
        (λ ts m middle at kept each. does-constructor vectors base n s m middle (values es s n).made ts each.1 each.0)
    does-section (paren e) fits =
        unfolded (paren e) (value e then in_parentheses) (source.walk w e) fits
        (subst (λ r. Does vectors s n env (value e then in_parentheses) r Leaves) (bind-ok (source.walk w e))
        (does-then (stage1 vectors) s n env (value e) in_parentheses (source.walk w e) (λ t. Ok t) Leaves Leaves (does-section e fits)
        (λ t m middle at kept h. does-parentheses vectors base n s m middle (value e s n).made t h)))
    does-section (unary unop.Plus e) fits =
        unfolded (unary unop.Plus e) (value e then unary_operation unop.Plus) (source.walk w e >>= source.unary_on unop.Plus) fits
        (does-then (stage1 vectors) s n env (value e) (unary_operation unop.Plus) (source.walk w e) (source.unary_on unop.Plus) Leaves Leaves (does-section e fits)
        (λ t m middle at kept h. subst (λ r. Does vectors s m middle (unary_operation unop.Plus (value e s n).made) r Leaves) (sym (plus-same t)) (does-parentheses vectors base n s m middle (value e s n).made t h)))
    does-section e fits = absurd fits
