use Rattle.std.proofs.Common.{map, sym, subst, rules}
use Rattle.term_texts.specs.TermTexts.{SpellsWholeTerm}
use Rattle.proof_text.specs.ProofTextWords.{Each}
use Rattle.proof_text.proofs.StageLemmas.{now, room_after}
use Rattle.proof_text.proofs.TermLists.{one_bad, term_named, terms_named, terms_spelled}
use Rattle.proof_text.proofs.TwoTerms.{next_spelled}
use Rattle.proof_text.proofs.step.terms.Goals as goal

pub loop-text-preserved : goal.loop-text-preserved
loop-text-preserved c = record {
  said = next_spelled c.loop-text.names c.whole_term.new.names c.args.texts.now c.loop-text.terms.items _ c.loop-text.text-index _ _ c.loop-text-test.true c.in_ok-push.ensures.items c.loop-text.invariant.said c.in_ok-whole_term.ensures.table c.in_ok-whole_term.ensures.said;
  table = term_named _ c.loop-text.names c.whole_term.new.names c.args.texts.now c.loop-text.text-index _ c.loop-text-test.true c.loop-text.invariant.table c.in_ok-whole_term.ensures.table;
  kept = λ name text h. c.whole_term.ensures.kept name text (c.loop-text.invariant.kept name text h);
  room = room_after c.args.texts.now c.loop-text.text-index _ _ _ _ c.loop-text-test.true c.whole_term.ensures.grown c.loop-text.invariant.room;
}

pub returns-clause-said : goal.returns-clause-said
returns-clause-said c = subst (λ ts. Each (SpellsWholeTerm c.loop-text.names) (map now c.args.texts.now) ts) (sym c.from_vec.ensures) (terms_spelled c.loop-text.names c.args.texts.now c.loop-text.terms.items c.loop-text.text-index c.loop-text-test.false c.loop-text.invariant.said)

pub returns-clause-table : goal.returns-clause-table
returns-clause-table c = terms_named c.args.names.now c.loop-text.names c.args.texts.now c.loop-text.text-index c.loop-text-test.false c.loop-text.invariant.table

pub returns-in_err-whole_term-clause-bad : goal.returns-in_err-whole_term-clause-bad
returns-in_err-whole_term-clause-bad c = λ e.
    one_bad c.args.texts.now c.loop-text.text-index _ c.loop-text-test.true (c.whole_term.ensures.bad (search rules))

pub returns-in_err-whole_term-clause-kept : goal.returns-in_err-whole_term-clause-kept
returns-in_err-whole_term-clause-kept c = λ name text h. c.whole_term.ensures.kept name text (c.loop-text.invariant.kept name text h)

pub returns-in_err-push-clause-kept : goal.returns-in_err-push-clause-kept
returns-in_err-push-clause-kept c = λ name text h. c.whole_term.ensures.kept name text (c.loop-text.invariant.kept name text h)
