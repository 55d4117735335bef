-- The words that most clauses cite, of this crate and of those above it.
pub use Rattle.term_eval.specs.Limits.{IsInteger, IsSmall, IsSmallSub, IsFew, IsSmallArray, IsSmallState, IsVar, IsWorld, IsSmallTerm, IsSmallPick}
pub use Rattle.term_eval.specs.Made.{Stops, Gives, IsAlong, keeps}
pub use Rattle.term_eval.specs.Targets.{target_of, GivesTarget, IsSmallTarget}
