use Rattle.rs_tokens.proofs.ListLaws.{rest_of}
use Rattle.rs_tokens.proofs.IntegerLaws.{integer_plain, integer_named}
use Rattle.std.proofs.Common.{◌∙◌}
use Rattle.rs_tokens.proofs.integers.integer_len.Goals as goal
use Rattle.rs_tokens.proofs.integers.integer_len.Goals.{then-base-eq10, else-base-eq10}

pub returns : goal.returns
returns c =
    let text = c.args.text.now in
    elim c.if-base-eq10.branch [
      | then-base-eq10 w ↦ integer_plain text _ c.base_at-base.result c.if-base-eq10.named c.digits_len-digits.result c.suffix_len.result c.base_at-base.ensures (rest_of c.if-base-eq10.named text)
          c.digits_len-digits.ensures.count c.suffix_len.ensures c.requires w.if-base-eq10.true w.named-is
      | else-base-eq10 w ↦ integer_named text _ c.base_at-base.result c.if-base-eq10.named c.digits_len-digits.result c.suffix_len.result c.base_at-base.ensures (rest_of c.if-base-eq10.named text)
          c.digits_len-digits.ensures.count c.suffix_len.ensures w.if-base-eq10.false (w.named-is ∙ w.min-named.ensures)
    ]
