use Rattle.std.proofs.Common.{sym, ◌∙◌}
use Rattle.rs_tokens.specs.Blanks.{white}
use Rattle.rs_tokens.proofs.ListLaws.{head_of}
use Rattle.rs_tokens.proofs.BlankLaws.{line_blank, block_blank}
use Rattle.rs_tokens.proofs.blanks.blank_len.Goals as goal

pub returns-then-is_white-clause-ends : goal.returns-then-is_white-clause-ends
returns-then-is_white-clause-ends c =
    white (head_of c.args.text.now c.in_ok-first.field-0.now c.in_ok-first.ensures.value) (sym c.is_white.ensures ∙ c.if-is_white.true)

pub returns-then-begins-clause-ends : goal.returns-then-begins-clause-ends
returns-then-begins-clause-ends c = line_blank c.args.text.now c.line_len.result (sym c.begins.ensures ∙ c.if-begins.true) c.line_len.ensures.count

pub returns-then-begins-2-clause-ends : goal.returns-then-begins-2-clause-ends
returns-then-begins-2-clause-ends c = block_blank c.args.text.now c.in_ok-comment_len.field-0 (sym c.begins-2.ensures ∙ c.if-begins-2.true) c.in_ok-comment_len.ensures.ends
