use Rattle.std.proofs.Common.{map, None}
use Rattle.term_texts.proofs.TermLaw.{kept_term}
use Rattle.proof_text.specs.ProofTextWords.{lists_of, joined}
use Rattle.proof_text.proofs.KeptNames.{keeps_by}
use Rattle.proof_text.proofs.ListLemmas.{lists_at}
use Rattle.proof_text.proofs.NameOrder.{gives_lists}
use Rattle.proof_text.proofs.StageLemmas.{now}
use Rattle.proof_text.proofs.step.by_variants.Goals as goal

pub returns-in_err-lists-clause-kept : goal.returns-in_err-lists-clause-kept
returns-in_err-lists-clause-kept c = λ name text h. c.name_lists.ensures.kept name text (c.whole_term.ensures.kept name text h)

pub returns-clause-said : goal.returns-clause-said
returns-clause-said c =
    let lists = lists_of (map now c.args.words.now) in
    let keeps = keeps_by c.whole_term.new.names c.name_lists.new.names (joined lists) c.in_ok-lists.ensures.table in
    (kept_term c.whole_term.new.names c.name_lists.new.names keeps c.args.text.now c.in_ok-term.term c.in_ok-term.ensures.said, lists_at c.name_lists.new.names c.in_ok-lists.lists lists c.in_ok-lists.ensures.named)

pub returns-clause-table : goal.returns-clause-table
returns-clause-table c = gives_lists c.args.names.now c.whole_term.new.names c.name_lists.new.names c.args.text.now (map now c.args.words.now) None c.in_ok-term.ensures.table c.in_ok-lists.ensures.table

pub returns-clause-kept : goal.returns-clause-kept
returns-clause-kept c = λ name text h. c.name_lists.ensures.kept name text (c.whole_term.ensures.kept name text h)
