-- What the code of tuples works with, as the definitions have it. Contracts of the code alone speak of it.
use Rattle.logic_term.specs.TermView.{terms_of}
use Rattle.logic_term.specs.TyView.{tys_of}
use Rattle.logic_elab.specs.declared.parts.SortedParts.{SortedParts}
use Rattle.logic_elab.specs.Elaborated.{SortedTerms}

abbrev pub parts_as : SortedParts → SortedTerms
parts_as p = record { sorts = tys_of p.sorts.items; terms = terms_of p.terms.items }
