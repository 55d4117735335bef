mod Begins
mod Compute
