-- The least fault is one of the faults, and none precedes it.
use Rattle.std.proofs.Common.{◌≡◌, refl, ap, sym, subst, ◌∙◌, ℕ, ◌<◌, ◌≤◌, ◌⊎◌, inl, inr, Bool, true, false, ◌||◌, ◌&&◌, nat_lt, nat_eq, ◌≢◌, List, [], ◌∷◌, ◌++◌, Option, Some, None, MatchOption, arith, if◌then◌else◌}
use Rattle.std.proofs.Math.Nat.{eq-or-lt_of_le, le_of_lt}
use borrow.Author.Tests.{ltb-true, ltb-false, eqb-true, eqb-false}
use Rattle.ws_base.specs.declared.refusal.Refusal.{Refusal}
use Rattle.ws_base.specs.Words.{kind_number}
use Rattle.ws_tree.specs.declared.stmt.Tree.{Tree}
use Rattle.ws_tree.specs.declared.stmt.Decl.{Decl}
use Rattle.ws_tree.specs.declared.stmt.Stmt.{Stmt}
use Rattle.ws_types.specs.declared.types.Row.{Row}
use Rattle.ws_sema.specs.declared.within.Within.TheVariants.{Outside}
use Rattle.ws_sema.specs.Declarations.{decls_faults, table_of}
use Rattle.ws_sema.specs.Statements.{stmts_faults}
use Rattle.ws_counts.specs.Limits.{stmts_limits}
use Rattle.ws_sema.specs.Checks.{rule_faults}
use Rattle.ws_types.proofs.Appended.{least-append}
use Rattle.ws_types.specs.Kinds.{precedes, least_from, IsNotAfter, IsAmong, IsBeforeAll, IsLeast}

before_numbers : (l k m n : ℕ) → ((l < m) ⊎ ((l ≡ m) × (k ≤ n))) → (p q : ℕ) → ((m < p) ⊎ ((m ≡ p) × (n ≤ q))) → ((l < p) ⊎ ((l ≡ p) × (k ≤ q)))
before_numbers l k m n (inl h) p q (inl g) = inl (omega arith)
before_numbers l k m n (inl h) p q (inr g) = inl (omega arith)
before_numbers l k m n (inr h) p q (inl g) = inl (omega arith)
before_numbers l k m n (inr h) p q (inr g) = inr (omega arith, omega arith)

not_after_trans : (a b c : Refusal) → IsNotAfter a b → IsNotAfter b c → IsNotAfter a c
not_after_trans a b c h g = before_numbers a.line (kind_number a.kind) b.line (kind_number b.kind) h c.line (kind_number c.kind) g

not_after_self : (a : Refusal) → IsNotAfter a a
not_after_self a = inr (refl, omega arith)

test_true : (x y z : Bool) → (x || (y && z)) ≡ true → (x ≡ true) ⊎ ((y ≡ true) × (z ≡ true))
test_true true y z e = inl refl
test_true false true true e = inr (refl, refl)
test_true false true false e = cc
test_true false false z e = cc

test_false : (x y z : Bool) → (x || (y && z)) ≡ false → (x ≡ false) × ((y ≡ false) ⊎ (z ≡ false))
test_false true y z e = cc
test_false false true true e = cc
test_false false true false e = (refl, inr refl)
test_false false false z e = (refl, inl refl)

earlier_numbers : (l k m n : ℕ) → (nat_lt l m || (nat_eq l m && nat_lt k n)) ≡ true → (l < m) ⊎ ((l ≡ m) × (k ≤ n))
earlier_numbers l k m n e = elim (test_true (nat_lt l m) (nat_eq l m) (nat_lt k n) e) [
  | inl h ↦ inl (ltb-true l m h)
  | inr h ↦ inr (eqb-true l m h.0, le_of_lt (ltb-true k n h.1))
]

at_most : (l k m n : ℕ) → m ≤ l → n ≤ k → (m < l) ⊎ ((m ≡ l) × (n ≤ k))
at_most l k m n h g = elim (eq-or-lt_of_le h) [ inl e ↦ inr (e, g) | inr e ↦ inl e ]

later_numbers : (l k m n : ℕ) → (nat_lt l m || (nat_eq l m && nat_lt k n)) ≡ false → (m < l) ⊎ ((m ≡ l) × (n ≤ k))
later_numbers l k m n e =
    let h = test_false (nat_lt l m) (nat_eq l m) (nat_lt k n) e in
    let low : m ≤ l = ltb-false l m h.0 in
    elim h.1 [
      | inl y ↦ let apart : l ≢ m = eqb-false l m y in inl (omega arith)
      | inr z ↦ at_most l k m n low (ltb-false k n z)
    ]

earlier : (a b : Refusal) → precedes a b ≡ true → IsNotAfter a b
earlier a b h = earlier_numbers a.line (kind_number a.kind) b.line (kind_number b.kind) h

later : (a b : Refusal) → precedes a b ≡ false → IsNotAfter b a
later a b h = later_numbers a.line (kind_number a.kind) b.line (kind_number b.kind) h

-- the lesser of two is one of them, and after neither
abbrev IsLesser : Refusal → Refusal → Refusal → Type 0
IsLesser s q r = ((s ≡ q) ⊎ (s ≡ r)) × IsNotAfter s q × IsNotAfter s r

chosen : (q r : Refusal) (b : Bool) → precedes r q ≡ b → (s : Refusal) × ((if b then Some r else Some q) ≡ Some s) × IsLesser s q r
chosen q r true e = (r, refl, (inr refl, earlier r q e, not_after_self r))
chosen q r false e = (q, refl, (inl refl, not_after_self q, later r q e))

before_all : (a b : Refusal) (fs : List Refusal) → IsNotAfter a b → IsBeforeAll b fs → IsBeforeAll a fs
before_all a b [] h g = tt
before_all a b (f ∷ fs) h g = (not_after_trans a b f h g.0, before_all a b fs h g.1)

least_of_more : (fs : List Refusal) (q r : Refusal) → least_from (Some q) fs ≡ Some r → ((r ≡ q) ⊎ IsAmong r fs) × IsNotAfter r q × IsBeforeAll r fs
unfolding least_from
least_of_more [] q r e = let same : q ≡ r = cc in (inl (sym same), subst (λ x. IsNotAfter x q) same (not_after_self q), tt)
least_of_more (f ∷ fs) q r e =
    let s = chosen q f (precedes f q) refl in
    let more = least_of_more fs s.0 r (ap (λ o. least_from o fs) (sym s.1) ∙ e) in (
      elim more.0 [
        | inl same ↦ elim s.2.0 [ inl old ↦ inl (same ∙ old) | inr new ↦ inr (inl (same ∙ new)) ]
        | inr among ↦ inr (inr among)
      ],
      not_after_trans r s.0 q more.1 s.2.1,
      (not_after_trans r s.0 f more.1 s.2.2, more.2),
    )

some_stays : (fs : List Refusal) (q : Refusal) → least_from (Some q) fs ≡ None → ⊥
unfolding least_from
some_stays [] q e = cc
some_stays (f ∷ fs) q e = let s = chosen q f (precedes f q) refl in some_stays fs s.0 (ap (λ o. least_from o fs) (sym s.1) ∙ e)

pub least_is : (fs : List Refusal) (r : Refusal) → least_from None fs ≡ Some r → IsLeast r fs
unfolding least_from
least_is [] r e = cc
least_is (f ∷ fs) r e = let more = least_of_more fs f r e in (more.0, (more.1, more.2))

pub none_is : (fs : List Refusal) → least_from None fs ≡ None → fs ≡ []
unfolding least_from
none_is [] e = refl
none_is (f ∷ fs) e = absurd (some_stays fs f e)

pub first_is : (fs : List Refusal) (found : Option Refusal) → found ≡ least_from None fs → MatchOption found (fs ≡ []) (λ r. IsLeast r fs)
first_is fs None e = none_is fs (sym e)
first_is fs (Some r) e = least_is fs r (sym e)

-- the faults of the declarations, those of the statements and the limits, noted one after the other
pub all_noted : (t : Tree) (ds ds' : List Decl) (table table' table'' : List Row) (body body' : List Stmt) (f1 f2 f3 : Option Refusal) →
    ds ≡ t.decls → ds' ≡ t.decls → table ≡ table_of ds' → table' ≡ table → table'' ≡ table → body ≡ t.body → body' ≡ t.body →
    f1 ≡ least_from None (decls_faults [] [] ds) → f2 ≡ least_from f1 (stmts_faults table' Outside body) → f3 ≡ least_from f2 (stmts_limits table'' false body') →
    MatchOption f3 (rule_faults t ≡ []) (λ r. IsLeast r (rule_faults t))
all_noted t ds ds' table table' table'' body body' f1 f2 f3 sd sd' known st st' sb sb' e1 e2 e3 =
    let names : List Row = table_of t.decls in
    let decls : List Refusal = decls_faults [] [] t.decls in
    let stmts : List Refusal = stmts_faults names Outside t.body in
    let limits : List Refusal = stmts_limits names false t.body in
    let known' : table ≡ names = known ∙ ap table_of sd' in
    let decls_noted : f1 ≡ least_from None decls = e1 ∙ ap (λ d. least_from None (decls_faults [] [] d)) sd in
    let stmts_noted : f2 ≡ least_from f1 stmts = e2 ∙ ap (λ b. least_from f1 (stmts_faults table' Outside b)) sb ∙ ap (λ k. least_from f1 (stmts_faults k Outside t.body)) (st ∙ known') in
    let limits_noted : f3 ≡ least_from f2 limits = e3 ∙ ap (λ b. least_from f2 (stmts_limits table'' false b)) sb' ∙ ap (λ k. least_from f2 (stmts_limits k false t.body)) (st' ∙ known') in
    first_is (rule_faults t) f3
    (limits_noted
    ∙ ap (λ f. least_from f limits) (stmts_noted ∙ ap (λ f. least_from f stmts) decls_noted ∙ sym (least-append None decls stmts))
    ∙ sym (least-append None (decls ++ stmts) limits))
