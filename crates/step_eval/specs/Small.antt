-- Statements and declarations whose numbers an evaluation can take. Those of every accepted program are.
pub use Rattle.small_laws.specs.Small.{IsSmallOption, IsSmallIndex, IsSmallBound, IsSmallPart, IsSmallBody, AreSmallStmts, AreSmallElses, IsSmallStmt, IsSmallDecl, AreSmallDecls}
