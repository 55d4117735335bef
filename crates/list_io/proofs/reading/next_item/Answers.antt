use Rattle.std.proofs.Common.{◌≡◌, ◌<◌, ◌+◌, ◌-◌, ℕ, Bool, List, [], ◌∷◌, length, drop, refl, ap, ◌∙◌, arith, rules}
use Rattle.std.proofs.lemmas.Slice.{between_to_end}
use Rattle.list_io.specs.declared.item.Item.{Item}
use Rattle.list_io.specs.Items.{item_from, item_at, item_bytes, next_item, spelled}
use Rattle.list_io.proofs.reading.next_item.Goals as goal

item_at-some : (from : ℕ) (rest : List ℕ) → 0 < length rest → item_at from rest ≡ spelled (item_bytes rest) (from + length (item_bytes rest))
item_at-some from [] h = absurd (omega (arith, h))
item_at-some from (b ∷ rest) h = refl

spelled-item : (bytes rest word : List ℕ) (at end : ℕ) (first : Bool) (result : Item) → rest ≡ item_from first (drop at bytes) → 0 < length rest → word ≡ item_bytes rest →
    end ≡ length bytes - length rest + length word → result ≡ spelled word end → result ≡ next_item bytes at first
spelled-item bytes rest word at end first result is some w e r = let f = item_at-some (length bytes - length rest) rest some in cc

pub returns-clause-value : goal.returns-clause-value
returns-clause-value c =
    spelled-item c.args.bytes.now c.item_from-rest.result.now c.item_bytes-word.result.now c.args.at _ c.args.first c.spelled.result
    (c.item_from-rest.ensures.value ∙ ap (item_from c.args.first) (between_to_end c.args.bytes.now c.args.at (length c.args.bytes.now) (omega arith))) (search rules) c.item_bytes-word.ensures.value refl c.spelled.ensures.value
