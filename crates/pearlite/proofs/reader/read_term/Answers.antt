use Rattle.pearlite.proofs.Terms.{reads}
use Rattle.pearlite.proofs.reader.read_term.Goals as goal

pub returns-in-Ok-term_of-clause-ok : goal.returns-in-Ok-term_of-clause-ok
returns-in-Ok-term_of-clause-ok c =
    reads c.args.levels c.args.words.now c.in-Ok.kinds.items c.in_ok-front.front c.in-Ok-term_of.term
    (rw c.as_slice.ensures at c.in-Ok.ensures) (rw c.as_slice-2.ensures.value at c.in_ok-front.ensures.parsed) (rw c.as_slice-3.ensures.value at c.in-Ok-term_of.ensures)
