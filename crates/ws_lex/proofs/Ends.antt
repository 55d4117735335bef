-- The last byte of a part.
use Rattle.std.proofs.Common.{◌≡◌, ℕ, List, [], ◌∷◌, ◌++◌, refl, sym, ap, ◌∙◌}
use Rattle.std.specs.Prelude.{nat_eq}
use Rattle.ws_lex.specs.Text.{ends_in_ampersand, but_last}

pub ends-last : (xs : List ℕ) (b : ℕ) → ends_in_ampersand (xs ++ b ∷ []) ≡ nat_eq b 38
ends-last [] b = refl
ends-last (x ∷ []) b = refl
ends-last (x ∷ y ∷ xs) b = ends-last (y ∷ xs) b

pub but_last-last : (xs : List ℕ) (b : ℕ) → but_last (xs ++ b ∷ []) ≡ xs
but_last-last [] b = refl
but_last-last (x ∷ []) b = refl
but_last-last (x ∷ y ∷ xs) b = ap (λ l. x ∷ l) (but_last-last (y ∷ xs) b)

pub ends-part : (part xs : List ℕ) (b : ℕ) → part ≡ xs ++ b ∷ [] → nat_eq b 38 ≡ ends_in_ampersand part
ends-part part xs b h = sym (ap ends_in_ampersand h ∙ ends-last xs b)

pub but_last-part : (part xs : List ℕ) (b : ℕ) → part ≡ xs ++ b ∷ [] → xs ≡ but_last part
but_last-part part xs b h = sym (ap but_last h ∙ but_last-last xs b)
