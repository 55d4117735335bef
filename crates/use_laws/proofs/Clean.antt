-- In a source without variables no variable is used.
use Rattle.std.proofs.Common.{◌≡◌, refl, ap, ◌∙◌, ℕ, suc, Bool, true, false, List, [], ◌∷◌, ◌++◌, Option, Some, None, arith}
use Rattle.std.specs.Prelude.{not, ◌&&◌, nat_eq, if◌then◌else◌}
use Rattle.std.proofs.lemmas.Bool.{true≢false, false≢true, ne_eqb}
use mathlib.Core.Former.{Count}
use Rattle.ws_base.specs.declared.refusal.Refusal.{Refusal}
use Rattle.ws_base.specs.declared.refusal.RefusalKind.TheVariants as kind
use Rattle.ws_base.specs.declared.op.CallWord.{CallWord}
use Rattle.ws_tree.specs.declared.expr.Expr.{Expr}
use Rattle.ws_tree.specs.declared.expr.Expr.TheVariants.{Named}
use Rattle.ws_tree.specs.Trees.{Subs, end_subs, more_subs}
use Rattle.ws_tree.specs.Grammatical.{HasSubs}
use Rattle.ws_types.specs.declared.types.Entry.{Entry}
use Rattle.ws_types.specs.declared.types.Row.{Row}
use Rattle.ws_types.specs.declared.types.Arguments.{Arguments}
use Rattle.ws_types.specs.declared.types.Standing.{Standing}
use Rattle.ws_types.specs.declared.types.Standing.TheVariants.{Declared, Active, Index, Barred}
use Rattle.ws_types.specs.Kinds.{when}
use Rattle.ws_types.specs.Names.{Name, standing_of, name_type, name_faults, is_constant, is_no_allocatable, target_faults}
use Rattle.ws_types.specs.Operations.{is_other_number, part_faults, is_inquiry, takes, call_faults, is_allocated_word, is_outside, is_outside_type, inquiry_faults}
use Rattle.ws_types.specs.Expressions.{how_many, named_type, first_standing, named_faults, called_faults}
use Rattle.ws_sema.specs.Statements.{variable_faults, loop_faults, allocatable_faults}
use Rattle.ws_sema.proofs.NoFaults.{none_first, none_after, broken}
use Rattle.kind_laws.proofs.ScalarRanks.{outside_zero}
use Rattle.use_laws.proofs.Standing.{IsNoVariable, HasNoVariables}

-- a named constant
pub record IsConstant (s : Option Standing) : Type 0 where
  pub entry : Entry
  pub stands : s ≡ Some (Declared entry)
  pub constant : entry.constant ≡ true
  pub rank : entry.rank ≡ 0
  pub fixed : entry.allocatable ≡ false

-- a name that may be used is one
pub named-constant : (line : ℕ) (s : Option Standing) → IsNoVariable s → name_faults line s ≡ [] → IsConstant s
unfolding name_faults
named-constant line None h f = broken true line kind.Undeclared refl (none_first _ _ f)
named-constant line (Some (Declared e)) h f = record { entry = e; stands = refl; constant = h.0; rank = h.1; fixed = h.2 }
named-constant line (Some (Active e)) h f = absurd h
named-constant line (Some Index) h f = absurd h
named-constant line (Some Barred) h f = broken true line kind.DoVariable refl (none_after _ _ f)

constant-is : (s : Option Standing) → IsConstant s → is_constant s ≡ true
constant-is s c = ap is_constant c.stands ∙ c.constant

constant-fixed : (s : Option Standing) → IsConstant s → is_no_allocatable s ≡ true
constant-fixed s c = ap is_no_allocatable c.stands ∙ ap not c.fixed

-- ---- it is not assigned, allocated, or the variable of a DO

pub no-variable : (line : ℕ) (s : Option Standing) → IsNoVariable s → variable_faults line s ≡ [] → ⊥
unfolding variable_faults
no-variable line s h f =
    let front = none_first _ _ f in
    let c = named-constant line s h (none_first _ _ front) in
    broken (is_constant s) line kind.TypeWrong (constant-is s c) (none_after _ _ front)

pub no-loop : (w : _) (line : ℕ) (s : Option Standing) → IsNoVariable s → loop_faults w line s ≡ [] → ⊥
unfolding loop_faults
no-loop w line s h f = no-variable line s h (none_first _ _ f)

pub no-allocatable : (line : ℕ) (s : Option Standing) → IsNoVariable s → allocatable_faults line s ≡ [] → ⊥
unfolding allocatable_faults
no-allocatable line s h f = let c = named-constant line s h (none_first _ _ f) in broken (is_no_allocatable s) line kind.NotAllocatable (constant-fixed s c) (none_after _ _ f)

pub no-target : (line : ℕ) (s : Option Standing) → IsNoVariable s → name_faults line s ≡ [] → target_faults line s ≡ [] → ⊥
unfolding target_faults
no-target line s h f g = let c = named-constant line s h f in broken (is_constant s) line kind.TypeWrong (constant-is s c) (none_first _ _ g)

-- ---- it has no parts

some-subs : {m : Count} (subs : Subs m) → HasSubs subs → nat_eq 0 (how_many subs) ≡ false
some-subs end_subs h = absurd h
some-subs (more_subs x xs) h = ne_eqb 0 (suc (how_many xs)) (λ e. omega arith)

other-number : {m : Count} (s : Option Standing) (subs : Subs m) → IsConstant s → HasSubs subs → is_other_number (name_type s) (how_many subs) ≡ true
other-number s subs c h =
    ap (λ o. is_other_number (name_type o) (how_many subs)) c.stands ∙ (ap (λ r. not (nat_eq r (how_many subs))) c.rank ∙ ap not (some-subs subs h))

pub no-part : {m : Count} (t : List Row) (line : ℕ) (x : Name) (subs : Subs m) → HasNoVariables t → HasSubs subs → named_faults t line x ≡ [] → part_faults line (named_type t x) (how_many subs) ≡ [] → ⊥
unfolding part_faults
no-part t line x subs none h f g =
    let s = standing_of t x in
    let c = named-constant line s (none.each x) f in broken (is_other_number (name_type s) (how_many subs)) line kind.RankWrong (other-number s subs c h) g

-- ---- it has no bounds

first-none : (t : List Row) (es : List Expr) → HasNoVariables t → IsNoVariable (first_standing t es)
first-none t [] none = tt
first-none t (Named x ∷ es) none = none.each x
first-none t (e ∷ es) none = tt

inquired : (line : ℕ) (w : Bool) (s : Option Standing) (es : List Expr) → IsConstant s → when (not w && is_outside_type (name_type s) es) line kind.RankWrong ≡ [] → when (w && is_no_allocatable s) line kind.NotAllocatable ≡ [] → ⊥
inquired line true s es c f g = broken (is_no_allocatable s) line kind.NotAllocatable (constant-fixed s c) g
inquired line false s es c f g =
    let same : is_outside_type (name_type s) es ≡ true = ap (λ o. is_outside_type (name_type o) es) c.stands ∙ (ap (λ r. is_outside r es) c.rank ∙ outside_zero es) in
    broken (is_outside_type (name_type s) es) line kind.RankWrong same f

pub no-inquiry : (t : List Row) (line : ℕ) (w : CallWord) (es : List Expr) → HasNoVariables t → inquiry_faults line w (first_standing t es) es ≡ [] → ⊥
unfolding inquiry_faults
no-inquiry t line w es none f =
    let s = first_standing t es in
    let three = none_first _ _ f in
    let two = none_first _ _ three in
    inquired line (is_allocated_word w) s es (named-constant line s (first-none t es none) (none_first _ _ two)) (none_after _ _ two) (none_after _ _ three)

-- ---- calls

inquiry-chosen : (a b : Bool) (line : ℕ) (p q : List Refusal) → b ≡ true → (if a then (if b then p else q) else when true line kind.Unsupported) ≡ [] → p ≡ []
inquiry-chosen true true line p q h f = f
inquiry-chosen true false line p q h f = absurd (false≢true h)
inquiry-chosen false b line p q h f = broken true line kind.Unsupported refl f

pub called-inquiry : (t : List Row) (inside : Bool) (line : ℕ) (w : CallWord) (es : List Expr) (parts : List Refusal) (a : Arguments) → is_inquiry w ≡ true → called_faults t inside line w es parts a ≡ [] → inquiry_faults line w (first_standing t es) es ≡ []
called-inquiry t inside line w es parts a h f = inquiry-chosen (takes w es) (is_inquiry w) line (inquiry_faults line w (first_standing t es) es) (parts ++ call_faults line inside w a) h f

parts-chosen : (a b : Bool) (line : ℕ) (p q : List Refusal) → b ≡ false → (if a then (if b then p else q) else when true line kind.Unsupported) ≡ [] → q ≡ []
parts-chosen true false line p q h f = f
parts-chosen true true line p q h f = absurd (true≢false h)
parts-chosen false b line p q h f = broken true line kind.Unsupported refl f

pub called-parts : (t : List Row) (inside : Bool) (line : ℕ) (w : CallWord) (es : List Expr) (parts : List Refusal) (a : Arguments) → is_inquiry w ≡ false → called_faults t inside line w es parts a ≡ [] → parts ≡ []
called-parts t inside line w es parts a h f =
    none_first parts (call_faults line inside w a) (parts-chosen (takes w es) (is_inquiry w) line (inquiry_faults line w (first_standing t es) es) (parts ++ call_faults line inside w a) h f)
