pub mod AtBoard
