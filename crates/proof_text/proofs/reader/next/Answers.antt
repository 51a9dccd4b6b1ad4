use Rattle.std.proofs.Common.{sym, ◌∙◌}
use Rattle.proof_text.specs.ProofTextLines.{NamesTexts}
use Rattle.proof_text.proofs.KeptNames.{kept_state, keeps_by}
use Rattle.proof_text.proofs.StageLemmas.{line_goes_on}
use Rattle.proof_text.proofs.NameOrder.{gives_none, header_names}
use Rattle.proof_text.proofs.reader.next.Goals as goal

pub returns-clause-said : goal.returns-clause-said
returns-clause-said c = λ s h.
    line_goes_on c.read_line.new.names s c.args.stage c.in_ok-line.line c.args.number c.args.text.now c.after.result
    (sym c.is_start.ensures ∙ c.if-is_start.false) c.in_ok-line.ensures.said
    (kept_state c.args.names.now c.read_line.new.names (keeps_by c.args.names.now c.read_line.new.names c.in_ok-line.ensures.table.0 c.in_ok-line.ensures.table.2) s c.args.stage h)
    (λ said k l. c.after.ensures c.read_line.new.names s c.args.text.now said k l)

pub returns-then-is_start-clause-table : goal.returns-then-is_start-clause-table
returns-then-is_start-clause-table c = gives_none (NamesTexts c.args.text.now) c.args.names.now (header_names c.args.text.now (sym c.is_header.ensures ∙ c.if-not-is_header.false))
