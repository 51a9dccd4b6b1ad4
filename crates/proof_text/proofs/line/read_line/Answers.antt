use Rattle.std.proofs.Common.{◌∙◌, sym}
use Rattle.proof_text.specs.ProofTextLines.{NamesTexts}
use Rattle.proof_text.proofs.NameOrder.{gives_none, passed_names}
use Rattle.proof_text.proofs.line.read_line.Goals as goal

pub returns-then-is_passed-clause-table : goal.returns-then-is_passed-clause-table
returns-then-is_passed-clause-table c = gives_none (NamesTexts c.args.text.now) c.args.names.now (passed_names c.args.text.now (sym c.is_passed.ensures ∙ c.if-is_passed.true))
