-- Lines of ops.
pub use Rattle.hlfir_ops.specs.Sorts.{has_line}
