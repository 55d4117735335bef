pub mod Looks
pub mod Layers
pub mod Idles
pub mod Masks
pub mod Controls
mod Rows
