-- Where there is no fault, no rule is broken: as `ws_sema` has it.
pub use Rattle.ws_sema.proofs.NoFaults.{none_first, none_after, not_broken, impossible, looked_into, allowed, left_false, right_false}
