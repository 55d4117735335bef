mod Adding
mod Cells
mod Idling
mod Reducing
mod Rows
