-- The forms of terms, under one name each.
use Rattle.ws_base.specs.declared.op.UnOp.{UnOp}
use Rattle.ws_base.specs.declared.op.BinOp.{BinOp}
use Rattle.array_meaning.specs.declared.term.Term.{Term}
use Rattle.array_meaning.specs.declared.term.Term.TheVariants.{Unary', Binary'}
pub use Rattle.array_meaning.specs.declared.term.Pick.TheBlock.{Row_of-Term as Terms, end_of-Term as end_terms, more_of-Term as more_terms, Row_of-Pick as Picks, end_of-Pick as end_picks, more_of-Pick as more_picks}

pattern abbrev pub unary_term : UnOp → Term → Term
unary_term op t = Unary' op tt (more_terms t end_terms)

pattern abbrev pub binary_term : BinOp → Term → Term → Term
binary_term op a b = Binary' op tt (more_terms a end_terms) tt (more_terms b end_terms)

-- What opens the constructors of terms, so that the values of a term that was made compute by their clauses.
unfoldable pub terms_open : Unit {0}
unfolding
    Rattle.array_meaning.specs.declared.term.Pick.TheBlock.hidden-the_row-Pick-0 Rattle.array_meaning.specs.declared.term.Pick.TheBlock.hidden-the_row-Term-1 Rattle.array_meaning.specs.declared.term.Pick.TheBlock.hidden-the_row-Term-2
    denote.Hole.Carrier.roll denote.Hole.Carrier.hidden
terms_open = tt
