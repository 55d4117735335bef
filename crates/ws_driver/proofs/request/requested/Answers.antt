use Rattle.std.proofs.Common.{◌≡◌, ◌<◌, refl, sym, ◌∙◌, ℕ, List, [], ◌∷◌, map, length, arith}
use Rattle.std.specs.Prelude.{string_bytes}
use Rattle.ws_driver.specs.declared.request.Emit.TheVariants as emits
use Rattle.ws_driver.specs.Request.{named, requested}
use Rattle.ws_driver.proofs.request.requested.Goals as goal

-- fewer than two words hold no option with its value
few : {T : Type 0} (f : T → List ℕ) (xs : List T) → length xs < 2 → requested (map f xs) ≡ named emits.Run (map f xs)
few f [] h = refl
few f (x ∷ []) h = refl
few f (x ∷ y ∷ xs) h = absurd (omega arith)

pub returns-in_default : goal.returns-in_default
returns-in_default c = c.named.ensures ∙ sym (few string_bytes c.args.words.now c.in_default.len_below)
