use Rattle.std.proofs.Common.{sym, ◌∙◌, ap, length, arith}
use Rattle.rs_tokens.proofs.WordLaws.{no_word, no_word_empty, word_longest, word_boundary}
use Rattle.rs_tokens.proofs.words.word_len.Goals as goal

pub returns-in_err-first-clause-longest : goal.returns-in_err-first-clause-longest
returns-in_err-first-clause-longest c =
    rw c.from_residual.ensures (no_word_empty c.args.text.now (omega (arith, ap length c.chars.ensures.rest, c.in_err-first.ensures.steps.0)))

pub returns-then-not-begins_word-clause-longest : goal.returns-then-not-begins_word-clause-longest
returns-then-not-begins_word-clause-longest c =
    no_word c.args.text.now _ c.in_ok-first.first (sym c.chars.ensures.rest ∙ c.in_ok-first.ensures.steps.0) (sym c.begins_word.ensures ∙ c.if-not-begins_word.true)

pub returns-clause-longest : goal.returns-clause-longest
returns-clause-longest c =
    word_longest c.args.text.now _ c.in_ok-first.first c.continuing_len.result c.utf8.text (sym c.chars.ensures.rest ∙ c.in_ok-first.ensures.steps.0)
    (sym c.begins_word.ensures ∙ c.if-not-begins_word.false) c.continuing_len.ensures

pub returns-clause-boundary : goal.returns-clause-boundary
returns-clause-boundary c = word_boundary c.args.text.now c.continuing_len.result c.utf8.text c.continuing_len.ensures
