use Rattle.std.proofs.Common.{rules, ap₂, ◌∙◌}
use Rattle.clap.specs.Words.{with_rule}
use Rattle.call_words.specs.Grammar.{command}
use Rattle.call_words.proofs.grammar.command.Goals as goal

pub returns : goal.returns
unfolding command
returns c =
    let verb = c.in_ok-arg.ensures.shape (search rules) ∙ ap₂ with_rule c.without_arguments.ensures c.positional.ensures.rule in
    let source = c.in_ok-arg-2.ensures.shape (search rules) ∙ ap₂ with_rule verb c.positional-2.ensures.rule in
    let proofs = c.in_ok-arg-3.ensures.shape (search rules) ∙ ap₂ with_rule source c.option.ensures.rule in
    let script = c.in_ok-arg-4.ensures.shape (search rules) ∙ ap₂ with_rule proofs c.option-2.ensures.rule in
    let out = c.in_ok-arg-5.ensures.shape (search rules) ∙ ap₂ with_rule script c.option-3.ensures.rule in
    let function = c.in_ok-arg-6.ensures.shape (search rules) ∙ ap₂ with_rule out c.option-4.ensures.rule in
    let arguments = c.in_ok-arg-7.ensures.shape (search rules) ∙ ap₂ with_rule function c.option-5.ensures.rule in
    let steps = c.in_ok-arg-8.ensures.shape (search rules) ∙ ap₂ with_rule arguments c.option-6.ensures.rule in
    c.in_ok-command.ensures.shape (search rules) ∙ ap₂ with_rule steps c.flag.ensures.rule
