pub mod NamesSound
pub mod ExpressionsSound
