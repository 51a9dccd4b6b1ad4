use Rattle.std.proofs.Common.{◌∙◌, sym}
use Rattle.wp_gen.proofs.CountLaws.{length_at_return}
use Rattle.wp_gen.proofs.count.count_of_return.Goals as goal

pub returns : goal.returns
returns c = λ b. c.len.ensures ∙ sym (length_at_return b c.args.contract.now)
