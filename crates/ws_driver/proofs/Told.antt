-- From the bytes that were read to those that are told.
use Rattle.std.proofs.Common.{◌≡◌, subst, ℕ, List, Option, None, Some}
use Rattle.std.specs.Prelude.{IfSome}

pub told_one : (told : Option (List ℕ)) (bytes : List ℕ) (P : List ℕ → Type 0) → IfSome told (λ file. bytes ≡ file) → P bytes → IfSome told P
told_one None bytes P whole h = tt
told_one (Some file) bytes P whole h = subst P whole h

-- of a file that tells its bytes
pub at_file : (told : Option (List ℕ)) (file : List ℕ) (P : List ℕ → Type 0) → told ≡ Some file → IfSome told P → P file
at_file told file P is h = subst (λ o. IfSome o P) is h
