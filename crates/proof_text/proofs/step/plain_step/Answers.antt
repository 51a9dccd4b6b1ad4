use Rattle.std.specs.Option.{option_copied}
use Rattle.proof_text.proofs.RuleLaw.{rule_line}
use Rattle.proof_text.proofs.step.plain_step.Goals as goal

pub returns-in_default-clause-said : goal.returns-in_default-clause-said
returns-in_default-clause-said c =
    rule_line c.args.names.now c.args.head.now (option_copied c.args.rest) c.rule_step.result c.ok_or-in_default.result c.rule_step.ensures c.ok_or-in_default.ensures.value
