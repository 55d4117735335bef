-- Constant expressions, calls by their sort, and the arguments of MIN and MAX.
use Rattle.std.proofs.Common.{◌≡◌, refl, sym, ap, ◌∙◌, subst, ℕ, Bool, true, false, List, [], Option, Some, None, arith, if◌then◌else◌}
use Rattle.std.specs.Prelude.{max}
use Rattle.ws_base.specs.declared.op.CallWord.{CallWord}
use Rattle.ws_base.specs.declared.op.CallWord.TheVariants as word
use Rattle.ws_base.specs.declared.refusal.Refusal.{Refusal}
use Rattle.ws_base.specs.declared.refusal.RefusalKind.{RefusalKind}
use Rattle.ws_tree.specs.declared.expr.Expr.{Expr}
use Rattle.ws_types.specs.declared.constant.Constancy.{Constancy}
use Rattle.ws_types.specs.declared.constant.Constancy.TheVariants.{Value, NoValue, NotConstant}
use Rattle.ws_types.specs.declared.types.Typed.{Typed}
use Rattle.ws_types.specs.declared.types.Arguments.{Arguments}
use Rattle.ws_types.specs.Constants.{constancy}
use Rattle.ws_types.specs.Kinds.{when}
use Rattle.ws_types.specs.Operations.{differ, is_inquiry, has_wrong_type, has_wrong_rank, with_argument}
use Rattle.ws_sema.proofs.NoFaults.{impossible, left_false}
use Rattle.hlfir_ops.specs.declared.kinds.Elem.TheVariants.{I32}
use Rattle.hlfir_ops.specs.declared.what.ValueBinary.{ValueBinary}
use Rattle.hlfir_ops.specs.declared.what.ValueBinary.TheVariants as binary
use Rattle.hlfir_ops.specs.RulesValues as values
use Rattle.hlfir_ops.specs.RulesValues.{elem_of, rank_of}
use Rattle.hlfir_ops.specs.RulesForms.{operand_elem, result_elem}
use Rattle.lower_values.specs.declared.operand.Operand.{Operand}
use Rattle.lower_assign.specs.Known.{elem}
use Rattle.lower_values.specs.Scopes.{Scope}
use Rattle.lower_values.specs.Lowerings.{Lowering, done, scoped}
use Rattle.lower_values.specs.Operations.{nesting_of, joined}
use Rattle.lower_values.specs.References.{or_nothing}
use Rattle.lower_values.specs.Values.{constant_or, folded, call_by}
use Rattle.kind_laws.specs.Found.{Holds}
use Rattle.form_laws.proofs.Constants.{HasDefault, ConstantsFit, constancy-fits}
use Rattle.form_laws.proofs.Typed.{IsOf, binary-made}
use Rattle.form_laws.proofs.Walking.{Good, done-good, Leaves, done-leaves}
use Rattle.form_laws.proofs.References.{constant-good}

-- ---- arguments that are known after some of them

pub with-truths : (a : Arguments) (o : Option Typed) → (with_argument a o).truths ≡ false → a.truths ≡ false
with-truths a None h = h
with-truths a (Some ty) h = left_false a.truths ty.truth h

pub with-mixed : (a : Arguments) (o : Option Typed) → (with_argument a o).mixed ≡ false → a.mixed ≡ false
with-mixed a None h = h
with-mixed a (Some ty) h = left_false a.mixed (differ a.rank ty.rank) h

-- ---- what the faults of a call say

pub is_right : (right : Bool) (line : ℕ) (kind : RefusalKind) (xs : List Refusal) → (if right then xs else when true line kind) ≡ [] → right ≡ true
is_right true line kind xs f = refl
is_right false line kind xs f = impossible line kind f

pub chosen : (b : Bool) (xs ys : List Refusal) → (if b then xs else ys) ≡ [] → b ≡ true → xs ≡ []
chosen b xs ys f is = ap (λ c. if c then xs else ys) (sym is) ∙ f

pub not_chosen : (b : Bool) (xs ys : List Refusal) → (if b then xs else ys) ≡ [] → b ≡ false → ys ≡ []
not_chosen b xs ys f is = ap (λ c. if c then xs else ys) (sym is) ∙ f

-- MIN or MAX
pub record Nests (w : CallWord) (op : ValueBinary) : Type 0 where
  pub takes : operand_elem op ≡ I32
  pub gives : result_elem op ≡ I32
  pub no_inquiry : is_inquiry w ≡ false
  pub type : (a : Arguments) → has_wrong_type w a ≡ a.truths
  pub rank : (a : Arguments) → has_wrong_rank w a ≡ a.mixed

nests_at : (w : CallWord) (o : ValueBinary) (op : ValueBinary) → Nests w o → (let p : Option ValueBinary = Some o in p) ≡ Some op → Nests w op
nests_at w o op h is = let same : o ≡ op = cc in subst (Nests w) same h

pub nests : (w : CallWord) (op : ValueBinary) → nesting_of w ≡ Some op → Nests w op
nests word.Min op is = nests_at word.Min binary.Min op (record { takes = refl; gives = refl; no_inquiry = refl; type = λ a. refl; rank = λ a. refl }) is
nests word.Max op is = nests_at word.Max binary.Max op (record { takes = refl; gives = refl; no_inquiry = refl; type = λ a. refl; rank = λ a. refl }) is
nests _ op is = cc

module _ (vs : List values.Value) (s : Scope) (n : ℕ) where
  -- ---- constant expressions

  constant_or-good : (c : Constancy) (p : Lowering Operand) → HasDefault c → (Holds vs n (p s n).ops → Good vs (p s n)) → Holds vs n (constant_or c p s n).ops → Good vs (constant_or c p s n)
  constant_or-good (Value z) p h g held = constant-good vs I32 z h s n
  constant_or-good NoValue p h g held = g held
  constant_or-good NotConstant p h g held = g held

  pub folded-good : (e : Expr) (p : Lowering Operand) → ConstantsFit s.names.constants → (Holds vs n (p s n).ops → Good vs (p s n)) → Holds vs n (folded e p s n).ops → Good vs (folded e p s n)
  unfolding folded scoped
  folded-good e p h g held = constant_or-good (constancy s.names.constants e) p (constancy-fits s.names.constants h e) g held

  -- ---- calls

  pub call_by-good : (w : CallWord) (o : Option ValueBinary) (b : Bool) (nested : ValueBinary → Lowering Operand) (inquiry all : Lowering Operand) → nesting_of w ≡ o → is_inquiry w ≡ b →
      ((op : ValueBinary) → Nests w op → Holds vs n (nested op s n).ops → Good vs (nested op s n)) →
      (is_inquiry w ≡ true → Holds vs n (inquiry s n).ops → Good vs (inquiry s n)) →
      (nesting_of w ≡ None → is_inquiry w ≡ false → Holds vs n (all s n).ops → Good vs (all s n)) →
      Holds vs n (call_by o b nested inquiry all s n).ops → Good vs (call_by o b nested inquiry all s n)
  call_by-good w (Some op) b nested inquiry all nest is f g h held = f op (nests w op nest) held
  call_by-good w None true nested inquiry all nest is f g h held = g is held
  call_by-good w None false nested inquiry all nest is f g h held = h nest is held

  -- ---- MIN and MAX

  abbrev pub number : ℕ → Typed
  number rank = record { truth = false; rank = rank }

  -- what the arguments so far gave
  abbrev pub IsSoFar : Option Operand → ℕ → Type 0
  IsSoFar None rank = rank ≡ 0
  IsSoFar (Some x) rank = IsOf vs (number rank) x

  pub so_far-good : (before : Option Operand) (rank : ℕ) → IsSoFar before rank → Good vs (done (or_nothing before) s n)
  so_far-good None rank h = done-good vs (or_nothing None) s n tt
  so_far-good (Some x) rank h = done-good vs x s n h.stands.solid

  pub joined-leaves : (op : ValueBinary) (before : Option Operand) (rank : ℕ) (ty : Typed) (y : Operand) → operand_elem op ≡ I32 → result_elem op ≡ I32 → IsSoFar before rank → IsOf vs ty y → ty.truth ≡ false → differ rank ty.rank ≡ false →
      Holds vs n (joined op before y s n).ops → Leaves vs (IsOf vs (number (max rank ty.rank))) (joined op before y s n)
  joined-leaves op None rank ty y takes gives h of truth ranks held =
      done-leaves vs (IsOf vs (number (max rank ty.rank))) y s n
      (record { stands = of.stands; of_elem = of.of_elem ∙ ap elem truth; of_rank = of.of_rank ∙ (let e : ty.rank ≡ max rank ty.rank = omega (arith, h) in e) })
  joined-leaves op (Some x) rank ty y takes gives h of truth ranks held =
      let made = binary-made vs false s n op x y h.stands of.stands (h.of_elem ∙ sym takes) (of.of_elem ∙ (ap elem truth ∙ sym takes)) (ap (λ k. differ k (rank_of y.kind)) h.of_rank ∙ (ap (differ rank) of.of_rank ∙ ranks)) held in
      record {
        fit = made.made.fit;
        holds = record {
          stands = made.made.stands;
          of_elem = made.of_elem ∙ gives;
          of_rank = made.of_rank ∙ (let e : max (max 0 (rank_of x.kind)) (rank_of y.kind) ≡ max rank ty.rank = omega (arith, h.of_rank, of.of_rank) in e);
        };
      }
