mod Blocks
mod Filling
mod Parts
mod RowWords
mod RowsOfMasks
mod RowsOfStatements
mod RowsOfValues
mod Weights
