use Rattle.std.proofs.Common.{◌∙◌, sym, ap, Some}
use Rattle.type_check.proofs.FlatMatches.{flat_typed, covered, left_over}
use Rattle.type_check.proofs.covering.uncovered.Goals as goal

pub missing-requires : goal.missing-requires
missing-requires c = record { typed = flat_typed c.args.ty.now c.args.patterns.now c.requires.flat }

pub returns-in-None : goal.returns-in-None
returns-in-None c = sym (covered c.args.span c.args.ty.now c.args.patterns.now c.in_ok-missing.field-0 c.requires.scalar c.requires.flat c.in_ok-missing.ensures c.in-None.is)

pub returns-in-Some : goal.returns-in-Some
returns-in-Some c =
    ap Some c.uncovered_match.ensures
    ∙ sym (left_over c.args.span c.args.ty.now c.args.patterns.now c.in_ok-missing.field-0 c.in-Some._left c.requires.scalar c.requires.flat c.in_ok-missing.ensures c.in-Some.is)
