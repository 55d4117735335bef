-- What holds after operations in a row holds where the last one ends well.
use Rattle.std.proofs.Common.{◌≡◌, refl, ℕ, List, Result, Ok, Err, IfOk}
use Rattle.ws_base.specs.Outcomes.{Staged, ◌>>=◌}
use Rattle.ws_space.specs.Faults.{at_line, at_places}

pub after_each : {A B E : Type 0} (P : B → Type 0) (r : Result A E) (f : A → Result B E) → ((x : A) → IfOk (f x) P) → IfOk (r >>= f) P
after_each P (Ok x) f h = h x
after_each P (Err e) f h = tt

pub after_known : {A B E : Type 0} (P : B → Type 0) (r : Result A E) (f : A → Result B E) → ((x : A) → r ≡ Ok x → IfOk (f x) P) → IfOk (r >>= f) P
after_known P (Ok x) f h = h x refl
after_known P (Err e) f h = tt

-- where it is known what the first one gives
pub after_fact : {A B E : Type 0} (Q : A → Type 0) (P : B → Type 0) (r : Result A E) (f : A → Result B E) → IfOk r Q → ((x : A) → Q x → IfOk (f x) P) → IfOk (r >>= f) P
after_fact Q P (Ok x) f q h = h x q
after_fact Q P (Err e) f q h = tt

pub at_line-keeps : {A : Type 0} (P : A → Type 0) (line : ℕ) (r : Staged A) → IfOk r P → IfOk (at_line line r) P
at_line-keeps P line (Ok x) h = h
at_line-keeps P line (Err t) h = tt

pub at_places-keeps : {A : Type 0} (P : A → Type 0) (line : ℕ) (places : List ℕ) (r : Staged A) → IfOk r P → IfOk (at_places line places r) P
at_places-keeps P line places (Ok x) h = h
at_places-keeps P line places (Err t) h = tt
