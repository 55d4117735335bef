-- Words that are a request, and words that are none.
use Rattle.std.proofs.Common.{◌≡◌, refl, [], ◌∷◌, Option, None, Some}
use Rattle.std.specs.Prelude.{codes}
use Rattle.ws_driver.specs.declared.request.Emit.TheVariants as emits
use Rattle.ws_driver.specs.Request.{requested, translation}

one_name : requested (codes "f" ∷ []) ≡ Some (record { emit = emits.Run; source = codes "f"; input = None })
one_name = refl

two_names : requested (codes "f" ∷ codes "d" ∷ []) ≡ Some (record { emit = emits.Run; source = codes "f"; input = Some (codes "d") })
two_names = refl

asks_for_a_run : requested (codes "--emit" ∷ codes "run" ∷ codes "f" ∷ []) ≡ Some (record { emit = emits.Run; source = codes "f"; input = None })
asks_for_a_run = refl

asks_for_hlfir : requested (codes "--emit" ∷ codes "hlfir" ∷ codes "f" ∷ []) ≡ Some (record { emit = emits.Hlfir; source = codes "f"; input = None })
asks_for_hlfir = refl

asks_for_a_schedule : requested (codes "--emit" ∷ codes "schedule" ∷ codes "f" ∷ codes "d" ∷ []) ≡ Some (record { emit = emits.Schedule; source = codes "f"; input = Some (codes "d") })
asks_for_a_schedule = refl

a_run_is_no_translation : translation (codes "--emit" ∷ codes "run" ∷ codes "f" ∷ []) ≡ None
a_run_is_no_translation = refl

no_words : requested [] ≡ None
no_words = refl

no_value : requested (codes "--emit" ∷ []) ≡ None
no_value = refl

no_name : requested (codes "--emit" ∷ codes "hlfir" ∷ []) ≡ None
no_name = refl

twice : requested (codes "--emit" ∷ codes "hlfir" ∷ codes "--emit" ∷ codes "hlfir" ∷ codes "f" ∷ []) ≡ None
twice = refl

another_value : requested (codes "--emit" ∷ codes "phases" ∷ codes "f" ∷ []) ≡ None
another_value = refl

option_behind_the_name : requested (codes "f" ∷ codes "--emit" ∷ codes "hlfir" ∷ []) ≡ None
option_behind_the_name = refl

in_one_word : requested (codes "--emit=hlfir" ∷ codes "f" ∷ []) ≡ None
in_one_word = refl

three_names : requested (codes "--emit" ∷ codes "hlfir" ∷ codes "f" ∷ codes "d" ∷ codes "e" ∷ []) ≡ None
three_names = refl
