use Rattle.std.proofs.Common.{◌∙◌, sym, ap, Some}
use Rattle.std.specs.Option.{option_copied}
use Rattle.proof_text.proofs.TermLines.{none_by_ok, plain_bad, plain_table, missing_bad, term_said, term_bad, term_table, missing_two, two_said, two_bad, two_table, missing_instance, instance_said, instance_bad, instance_table}
use Rattle.proof_text.proofs.step.step.Goals as goal

pub returns-in_err-ok_or-in-Some-Rule-clause-bad : goal.returns-in_err-ok_or-in-Some-Rule-clause-bad
returns-in_err-ok_or-in-Some-Rule-clause-bad c = λ e.
    missing_bad c.args.head.now (option_copied c.args.rest) c.in-Some-Rule.rule (sym (c.in-Some-Rule.is ∙ ap Some c.in-Some-Rule.field-0-is) ∙ c.term_line.ensures) (none_by_ok c.args.rest c.ok_or.result _ c.ok_or.ensures.value c.in_err-ok_or-in-Some-Rule.was)

pub returns-in_ok-ok_or-in-Some-Rule-clause-said : goal.returns-in_ok-ok_or-in-Some-Rule-clause-said
returns-in_ok-ok_or-in-Some-Rule-clause-said c =
    term_said c.args.head.now (option_copied c.args.rest) c.in-Some-Rule.rule (sym (c.in-Some-Rule.is ∙ ap Some c.in-Some-Rule.field-0-is) ∙ c.term_line.ensures) c.in_ok-ok_or-in-Some-Rule.field-0.now (ap option_copied c.in_ok-ok_or-in-Some-Rule.ensures.ok_part)
    c.on_term.new.names c.on_term.result c.on_term.ensures.said

pub returns-in_ok-ok_or-in-Some-Rule-clause-bad : goal.returns-in_ok-ok_or-in-Some-Rule-clause-bad
returns-in_ok-ok_or-in-Some-Rule-clause-bad c = λ e.
    term_bad c.args.head.now (option_copied c.args.rest) c.in-Some-Rule.rule (sym (c.in-Some-Rule.is ∙ ap Some c.in-Some-Rule.field-0-is) ∙ c.term_line.ensures) c.in_ok-ok_or-in-Some-Rule.field-0.now (ap option_copied c.in_ok-ok_or-in-Some-Rule.ensures.ok_part)
    (c.on_term.ensures.bad e)

pub returns-in_ok-ok_or-in-Some-Rule-clause-table : goal.returns-in_ok-ok_or-in-Some-Rule-clause-table
returns-in_ok-ok_or-in-Some-Rule-clause-table c =
    term_table c.args.head.now (option_copied c.args.rest) c.in-Some-Rule.rule (sym (c.in-Some-Rule.is ∙ ap Some c.in-Some-Rule.field-0-is) ∙ c.term_line.ensures) c.in_ok-ok_or-in-Some-Rule.field-0.now (ap option_copied c.in_ok-ok_or-in-Some-Rule.ensures.ok_part)
    c.args.names.now c.on_term.new.names c.on_term.result c.on_term.ensures.table

pub returns-in-None-clause-bad : goal.returns-in-None-clause-bad
returns-in-None-clause-bad c = λ e. plain_bad c.args.head.now (option_copied c.args.rest) (sym c.in-None.is ∙ c.term_line.ensures) (c.plain_step.ensures.bad e)

pub returns-in-None-clause-table : goal.returns-in-None-clause-table
returns-in-None-clause-table c =
    plain_table c.args.head.now (option_copied c.args.rest) c.args.names.now c.plain_step.new.names c.plain_step.result (sym c.in-None.is ∙ c.term_line.ensures) c.plain_step.ensures.table

pub returns-in_err-ok_or-in-Some-Division-clause-bad : goal.returns-in_err-ok_or-in-Some-Division-clause-bad
returns-in_err-ok_or-in-Some-Division-clause-bad c = λ e.
    missing_two c.args.head.now (option_copied c.args.rest) (sym (c.in-Some-Division.is ∙ ap Some c.in-Some-Division.field-0-is) ∙ c.term_line.ensures) (none_by_ok c.args.rest c.ok_or-in-Some-Division.result _ c.ok_or-in-Some-Division.ensures.value c.in_err-ok_or-in-Some-Division.was)

pub returns-in_ok-ok_or-in-Some-Division-clause-said : goal.returns-in_ok-ok_or-in-Some-Division-clause-said
returns-in_ok-ok_or-in-Some-Division-clause-said c =
    two_said c.args.head.now (option_copied c.args.rest) (sym (c.in-Some-Division.is ∙ ap Some c.in-Some-Division.field-0-is) ∙ c.term_line.ensures) c.in_ok-ok_or-in-Some-Division.field-0.now (ap option_copied c.in_ok-ok_or-in-Some-Division.ensures.ok_part)
    c.division.new.names c.division.result c.division.ensures.said

pub returns-in_ok-ok_or-in-Some-Division-clause-bad : goal.returns-in_ok-ok_or-in-Some-Division-clause-bad
returns-in_ok-ok_or-in-Some-Division-clause-bad c = λ e.
    two_bad c.args.head.now (option_copied c.args.rest) (sym (c.in-Some-Division.is ∙ ap Some c.in-Some-Division.field-0-is) ∙ c.term_line.ensures) c.in_ok-ok_or-in-Some-Division.field-0.now (ap option_copied c.in_ok-ok_or-in-Some-Division.ensures.ok_part)
    (c.division.ensures.bad e)

pub returns-in_ok-ok_or-in-Some-Division-clause-table : goal.returns-in_ok-ok_or-in-Some-Division-clause-table
returns-in_ok-ok_or-in-Some-Division-clause-table c =
    two_table c.args.head.now (option_copied c.args.rest) (sym (c.in-Some-Division.is ∙ ap Some c.in-Some-Division.field-0-is) ∙ c.term_line.ensures) c.in_ok-ok_or-in-Some-Division.field-0.now (ap option_copied c.in_ok-ok_or-in-Some-Division.ensures.ok_part)
    c.args.names.now c.division.new.names c.division.result c.division.ensures.table

pub returns-in_err-ok_or-in-Some-Instance-clause-bad : goal.returns-in_err-ok_or-in-Some-Instance-clause-bad
returns-in_err-ok_or-in-Some-Instance-clause-bad c = λ e.
    missing_instance c.args.head.now (option_copied c.args.rest) (sym (c.in-Some-Instance.is ∙ ap Some c.in-Some-Instance.field-0-is) ∙ c.term_line.ensures) (none_by_ok c.args.rest c.ok_or-in-Some-Instance.result _ c.ok_or-in-Some-Instance.ensures.value c.in_err-ok_or-in-Some-Instance.was)

pub returns-in_ok-ok_or-in-Some-Instance-clause-said : goal.returns-in_ok-ok_or-in-Some-Instance-clause-said
returns-in_ok-ok_or-in-Some-Instance-clause-said c =
    instance_said c.args.head.now (option_copied c.args.rest) (sym (c.in-Some-Instance.is ∙ ap Some c.in-Some-Instance.field-0-is) ∙ c.term_line.ensures) c.in_ok-ok_or-in-Some-Instance.field-0.now (ap option_copied c.in_ok-ok_or-in-Some-Instance.ensures.ok_part)
    c.instance.new.names c.instance.result c.instance.ensures.said

pub returns-in_ok-ok_or-in-Some-Instance-clause-bad : goal.returns-in_ok-ok_or-in-Some-Instance-clause-bad
returns-in_ok-ok_or-in-Some-Instance-clause-bad c = λ e.
    instance_bad c.args.head.now (option_copied c.args.rest) (sym (c.in-Some-Instance.is ∙ ap Some c.in-Some-Instance.field-0-is) ∙ c.term_line.ensures) c.in_ok-ok_or-in-Some-Instance.field-0.now (ap option_copied c.in_ok-ok_or-in-Some-Instance.ensures.ok_part)
    (c.instance.ensures.bad e)

pub returns-in_ok-ok_or-in-Some-Instance-clause-table : goal.returns-in_ok-ok_or-in-Some-Instance-clause-table
returns-in_ok-ok_or-in-Some-Instance-clause-table c =
    instance_table c.args.head.now (option_copied c.args.rest) (sym (c.in-Some-Instance.is ∙ ap Some c.in-Some-Instance.field-0-is) ∙ c.term_line.ensures) c.in_ok-ok_or-in-Some-Instance.field-0.now (ap option_copied c.in_ok-ok_or-in-Some-Instance.ensures.ok_part)
    c.args.names.now c.instance.new.names c.instance.result c.instance.ensures.table
