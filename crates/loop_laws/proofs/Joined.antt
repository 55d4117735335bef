-- Whole maps of two lists of moves, one after the other.
use Rattle.std.proofs.Common.{◌≡◌, ℕ, List, [], ◌∷◌, ◌++◌, sym, refl, ap, ◌∙◌, Result, Ok, Err}
use Rattle.ws_base.specs.declared.fault.FaultName.{FaultName}
use Rattle.ws_base.specs.Outcomes.{◌>>=◌, Staged, each}
use Rattle.loop_laws.specs.Moves.{Row, Move, Makes, Keeps, Failure, whole, pushed, kept, further, and_then}
use Rattle.loop_laws.specs.Laws.{told}

told_further : {A : Type 0} (r : Result A Failure) → told (further r) ≡ told r
told_further (Ok x) = refl
told_further (Err f) = refl

module _ (V : Type 0) where
  same_bind : (r : Result (List (Row V)) (ℕ × FaultName)) (q : Result (List (Row V)) (ℕ × FaultName)) (go : List (Row V) → Result (List (Row V)) (ℕ × FaultName)) → r ≡ q → (r >>= go) ≡ (q >>= go)
  same_bind r q go e = ap (λ z. z >>= go) e

  pub told_join : (xs ys : List (Move V)) (rs : List (Row V)) → told (whole (xs ++ ys) rs) ≡ (told (whole xs rs) >>= (λ ts. told (whole ys ts)))
  told_join [] ys rs = refl
  told_join (Makes f ∷ xs) ys rs = by (λ ts. told_join xs ys ts) (each (λ r. f r.1) rs)
    where
      by : ((ts : List (Row V)) → told (whole (xs ++ ys) ts) ≡ (told (whole xs ts) >>= (λ us. told (whole ys us)))) → (q : Staged (List V)) → told (and_then rs q (λ ts. whole (xs ++ ys) ts)) ≡ (told (and_then rs q (λ ts. whole xs ts)) >>= (λ us. told (whole ys us)))
      by rec (Err t) = refl
      by rec (Ok vs) = told_further (whole (xs ++ ys) (pushed vs rs)) ∙ rec (pushed vs rs) ∙ same_bind (told (whole xs (pushed vs rs))) (told (further (whole xs (pushed vs rs)))) (λ us. told (whole ys us)) (sym (told_further (whole xs (pushed vs rs))))
  told_join (Keeps t ∷ xs) ys rs = told_further (whole (xs ++ ys) (kept t rs)) ∙ told_join xs ys (kept t rs) ∙ same_bind (told (whole xs (kept t rs))) (told (further (whole xs (kept t rs)))) (λ us. told (whole ys us)) (sym (told_further (whole xs (kept t rs))))
