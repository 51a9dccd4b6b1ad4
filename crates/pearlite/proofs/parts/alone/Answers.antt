use Rattle.std.proofs.Common.{◌∙◌, sym, arith}
use Rattle.std.proofs.lemmas.List.{length-reverse}
use Rattle.pearlite.proofs.PartLists.{alone_is, two_more}
use Rattle.pearlite.proofs.parts.alone.Goals as goal

pub returns-in-Some-clause-value : goal.returns-in-Some-clause-value
returns-in-Some-clause-value c = alone_is _ _ c.in-Some.part (omega (arith, length-reverse c.args.parts.now.items)) (sym c.skip.ensures ∙ c.in-Some.ensures)

pub returns-in-None-clause-value : goal.returns-in-None-clause-value
returns-in-None-clause-value c = absurd (two_more _ (omega (arith, length-reverse c.args.parts.now.items)) (sym c.skip.ensures ∙ c.in-None.ensures.0))

pub returns-in-None-clause-rest : goal.returns-in-None-clause-rest
returns-in-None-clause-rest c = absurd (two_more _ (omega (arith, length-reverse c.args.parts.now.items)) (sym c.skip.ensures ∙ c.in-None.ensures.0))
