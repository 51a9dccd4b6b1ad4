use Rattle.std.proofs.Common.{◌∙◌, sym, ap, Some}
use Rattle.std.specs.Option.{option_copied}
use Rattle.proof_text.specs.ProofTextLines.{NamesOfParts}
use Rattle.proof_text.proofs.LineLemmas.{headed_proof, headed_step}
use Rattle.proof_text.proofs.NameOrder.{on_ok, gives_none, none_by, proof_names, end_names}
use Rattle.proof_text.proofs.line.line_by_head.Goals as goal

pub returns-then-eq-clause-said : goal.returns-then-eq-clause-said
returns-then-eq-clause-said c =
    headed_proof c.args.names.now c.args.head.now (option_copied c.args.rest) c.in_ok-ok_or.field-0.now c.heading.result (sym c.eq.ensures ∙ c.if-eq.true) (ap option_copied c.in_ok-ok_or.ensures.ok_part)
    (c.heading.ensures c.args.names.now c.args.head.now (Some c.in_ok-ok_or.field-0.now))

pub returns-then-eq-clause-table : goal.returns-then-eq-clause-table
returns-then-eq-clause-table c =
    on_ok c.heading.result
    (gives_none (NamesOfParts c.args.head.now (option_copied c.args.rest)) c.args.names.now (none_by c.args.head.now _ (option_copied c.args.rest) (sym c.eq.ensures ∙ c.if-eq.true) (proof_names (option_copied c.args.rest))))

pub returns-then-eq-2-clause-table : goal.returns-then-eq-2-clause-table
returns-then-eq-2-clause-table c =
    gives_none (NamesOfParts c.args.head.now (option_copied c.args.rest)) c.args.names.now (none_by c.args.head.now _ (option_copied c.args.rest) (sym c.eq-2.ensures ∙ c.if-eq-2.true) (end_names (option_copied c.args.rest)))

pub returns-clause-said : goal.returns-clause-said
returns-clause-said c =
    headed_step c.step.new.names c.args.head.now (option_copied c.args.rest) c.in_ok-step.field-0 c.in_ok-step.ensures.said (sym c.eq.ensures ∙ c.if-eq.false) (sym c.eq-2.ensures ∙ c.if-eq-2.false)
