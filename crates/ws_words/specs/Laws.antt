-- What holds of all words.
use Rattle.std.specs.Prelude.{◌≡◌, List, Some, None}
use Rattle.ws_words.specs.Words.{Named, Text, said}
use Rattle.ws_words.specs.Spelled.{Says}

-- words say some parts exactly where the grammar reads these parts in them
abbrev pub WordsAreSpelled : Type 0
WordsAreSpelled = (words : List Text) (parts : List Named) → (said None words ≡ Some parts → Says words parts) × (Says words parts → said None words ≡ Some parts)
