-- Where there is no fault, no rule is broken.
use Rattle.std.proofs.Common.{◌≡◌, refl, sym, ℕ, Bool, true, false, not, ◌||◌, List, [], ◌∷◌, ◌++◌, if◌then◌else◌, true≢false}
use Rattle.ws_base.specs.declared.refusal.Refusal.{Refusal}
use Rattle.ws_base.specs.declared.refusal.RefusalKind.{RefusalKind}
use Rattle.ws_types.specs.Kinds.{when}

pub none_first : (xs ys : List Refusal) → xs ++ ys ≡ [] → xs ≡ []
none_first [] ys e = refl
none_first (x ∷ xs) ys e = cc

pub none_after : (xs ys : List Refusal) → xs ++ ys ≡ [] → ys ≡ []
none_after [] ys e = e
none_after (x ∷ xs) ys e = cc

pub not_broken : (broken : Bool) (line : ℕ) (kind : RefusalKind) → when broken line kind ≡ [] → broken ≡ false
unfolding when
not_broken true line kind e = cc
not_broken false line kind e = refl

-- this rule is broken
pub broken : {P : Type 0} (b : Bool) (line : ℕ) (kind : RefusalKind) → b ≡ true → when b line kind ≡ [] → P
broken true line kind h e = absurd (true≢false (not_broken true line kind e))
broken false line kind h e = cc

-- this rule is always broken
pub impossible : {P : Type 0} (line : ℕ) (kind : RefusalKind) → when true line kind ≡ [] → P
impossible line kind e = absurd (true≢false (not_broken true line kind e))

-- where it is not refused outright, nothing in it is
pub looked_into : (refused : Bool) (line : ℕ) (kind : RefusalKind) (xs : List Refusal) → (if refused then when true line kind else xs) ≡ [] → xs ≡ []
looked_into true line kind xs e = impossible line kind e
looked_into false line kind xs e = e

pub allowed : (right : Bool) (line : ℕ) (kind : RefusalKind) (xs : List Refusal) → (if right then xs else when true line kind) ≡ [] → xs ≡ []
allowed true line kind xs e = e
allowed false line kind xs e = impossible line kind e

pub left_false : (b c : Bool) → (b || c) ≡ false → b ≡ false
left_false true c h = h
left_false false c h = refl

pub right_false : (b c : Bool) → (b || c) ≡ false → c ≡ false
right_false true c h = absurd (true≢false h)
right_false false c h = h

pub both_false : (b c : Bool) → b ≡ false → c ≡ false → (b || c) ≡ false
both_false true c h k = h
both_false false c h k = k

pub not_false : (b : Bool) → not b ≡ false → b ≡ true
not_false true h = refl
not_false false h = absurd (true≢false h)

pub not_true : (b : Bool) → b ≡ true → not b ≡ false
not_true true h = refl
not_true false h = sym h
