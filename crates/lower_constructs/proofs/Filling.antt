-- The regions of a statement's op, filled one after another.
use Rattle.std.proofs.Common.{◌≡◌, sym, ap, subst, ℕ, ◌<◌, List, [], ◌∷◌, length, None, arith, append-nil}
use Rattle.std.specs.Prelude.{⊤}
use Rattle.hlfir_ops.specs.declared.what.What.{What}
use Rattle.hlfir_ops.specs.declared.op.ValueId.{ValueId}
use Rattle.hlfir_ops.specs.Built.{Built, Enters, left}
use Rattle.hlfir_ops.proofs.Entering.{enters-around}
use Rattle.lower_values.specs.declared.names.Names.{Names}
use Rattle.lower_values.specs.Lowerings.{Lowering, acting, statement_of, opened, Appends}
use Rattle.lower_assign.specs.Statements.{all_yielded}
use Rattle.hlfir_ops.specs.declared.what.What.TheVariants as what
use Rattle.lower_values.proofs.Appended.{appends-next}
use Rattle.lower_values.proofs.Holding.{Holds, holds-none, holds-op, holds-next, appends-statement}
use Rattle.lower_constructs.specs.Filled.{Fills}

-- ---- the op stands last

pub begins : {names : Names} (w : What) (line : ℕ) (operands : List ValueId) {old new : Built} → new ≡ opened old w line operands None [] → Appends names (statement_of w line operands []) old new tt
begins {names} w line operands {old} {new} is = appends-statement (holds-none names w line operands None old new is)

holds-of : (names : Names) (w : What) (line : ℕ) (operands : List ValueId) (ps : List (Lowering ⊤)) (old new : Built) → Appends names (statement_of w line operands ps) old new tt → Holds names w line operands None ps old new
unfolding statement_of
holds-of names w line operands ps old new h = record { is = h.ops }

-- regions can be entered
pub stands : (names : Names) (w : What) (line : ℕ) (operands : List ValueId) (ps : List (Lowering ⊤)) (old new : Built) → Appends names (statement_of w line operands ps) old new tt → 0 < length new.ops
stands names w line operands ps old new h = holds-op (holds-of names w line operands ps old new h)

-- ---- its regions

-- the region that was entered can be left
pub inside : {A : Type 0} {names : Names} {p : Lowering A} {x : A} (old inner full : Built) → 0 < length old.ops → Enters old inner → Appends names p inner full x → 0 < length full.around
inside old inner full some enters filled =
    let around : 0 < length inner.around = (enters-around old inner some enters).1 in
    omega (arith, around, ap (λ b. length b.around) filled.ops)

pub fills-one : {names : Names} {p : Lowering ⊤} (old inner full new : Built) → Enters old inner → Appends names p inner full tt → new ≡ left full → Fills names (p ∷ []) old new
fills-one {names} {p} old inner full new enters filled leaves = record {
  next = λ w line operands ps before h. appends-statement (holds-next (holds-of names w line operands ps before old h) enters filled leaves);
}

pub fills-none : {names : Names} (b : Built) → Fills names [] b b
fills-none {names} b = record {
  next = λ w line operands ps before h.
      let P : List (Lowering ⊤) → Type 0 = λ qs. Appends names (statement_of w line operands qs) before b tt in
      subst P (sym (append-nil ps)) h;
}

-- ---- what a header's region holds

pub yields-all : {names : Names} (p : Lowering (List ValueId)) {old mid new : Built} {vs : List ValueId} → Appends names p old mid vs → Appends names (acting what.Yield vs) mid new tt → Appends names (all_yielded p) old new tt
yields-all {names} p {old} {mid} {new} {vs} first second = appends-next names p (λ us. acting what.Yield us) old mid new vs tt first second
