use Rattle.rs_tokens.specs.declared.token.TokenKind.TheVariants as T
use Rattle.source_words.proofs.GivenTokens.{all_left, next_left, no_more, lexeme_left, one_less, grown_left, none_left, names_left, only_left}
use Rattle.source_words.proofs.WordSteps.{keeps_on}
use Rattle.source_words.proofs.words.words_of_tokens.Goals as goal

pub loop-token-init : goal.loop-token-init
loop-token-init c = rw c.new-words.ensures (all_left c.args.names.now c.args.bytes.now c.args.tokens.now c.requires.whole)

pub word_of-requires-clause-lexeme : goal.word_of-requires-clause-lexeme
word_of-requires-clause-lexeme c =
    let h = next_left c.args.names.now c.loop-token.names c.args.bytes.now c.loop-token.words c.args.tokens.now c.loop-token.token-index _ c.loop-token-test.true c.loop-token.invariant in
    lexeme_left c.args.names.now c.loop-token.names c.args.bytes.now c.loop-token.words c.args.tokens.now c.requires.whole _ _ h

pub returns-in_err-word-clause-kept : goal.returns-in_err-word-clause-kept
returns-in_err-word-clause-kept c = keeps_on c.args.names.now c.loop-token.names c.word_of.new.names c.loop-token.invariant.kept c.word_of.ensures.kept

pub returns-in_err-word-clause-grown : goal.returns-in_err-word-clause-grown
returns-in_err-word-clause-grown c =
    let h = next_left c.args.names.now c.loop-token.names c.args.bytes.now c.loop-token.words c.args.tokens.now c.loop-token.token-index (record { kind = T.Ident; span = record { start = 0; end = 0 } }) c.loop-token-test.true c.loop-token.invariant in
    grown_left c.args.names.now c.loop-token.names c.args.bytes.now c.loop-token.words c.args.tokens.now c.requires.whole c.word_of.new.names _ _ h c.word_of.ensures.few

pub returns-in_err-push-clause-kept : goal.returns-in_err-push-clause-kept
returns-in_err-push-clause-kept c = keeps_on c.args.names.now c.loop-token.names c.word_of.new.names c.loop-token.invariant.kept c.word_of.ensures.kept

pub returns-in_err-push-clause-grown : goal.returns-in_err-push-clause-grown
returns-in_err-push-clause-grown c =
    let h = next_left c.args.names.now c.loop-token.names c.args.bytes.now c.loop-token.words c.args.tokens.now c.loop-token.token-index (record { kind = T.Ident; span = record { start = 0; end = 0 } }) c.loop-token-test.true c.loop-token.invariant in
    grown_left c.args.names.now c.loop-token.names c.args.bytes.now c.loop-token.words c.args.tokens.now c.requires.whole c.word_of.new.names _ _ h c.word_of.ensures.few

pub loop-token-preserved : goal.loop-token-preserved
loop-token-preserved c =
    let h = next_left c.args.names.now c.loop-token.names c.args.bytes.now c.loop-token.words c.args.tokens.now c.loop-token.token-index (record { kind = T.Ident; span = record { start = 0; end = 0 } }) c.loop-token-test.true c.loop-token.invariant in
    rw c.in_ok-push.ensures.ok (one_less c.args.names.now c.loop-token.names c.args.bytes.now c.loop-token.words c.args.tokens.now c.requires.whole c.word_of.new.names c.in_ok-word.word _ _ h
    c.word_of.ensures.kept c.word_of.ensures.new c.word_of.ensures.few c.in_ok-word.ensures.ok c.in_ok-word.ensures.only c.in_ok-word.ensures.table)

pub returns-clause-ok : goal.returns-clause-ok
returns-clause-ok c =
    none_left c.args.names.now c.loop-token.names c.args.bytes.now c.loop-token.words c.args.tokens.now c.requires.whole
    (no_more c.args.names.now c.loop-token.names c.args.bytes.now c.loop-token.words c.args.tokens.now c.loop-token.token-index c.loop-token-test.false c.loop-token.invariant)

pub returns-clause-only : goal.returns-clause-only
returns-clause-only c =
    only_left c.args.names.now c.loop-token.names c.args.bytes.now c.loop-token.words c.args.tokens.now c.requires.whole
    (no_more c.args.names.now c.loop-token.names c.args.bytes.now c.loop-token.words c.args.tokens.now c.loop-token.token-index c.loop-token-test.false c.loop-token.invariant)

pub returns-clause-names : goal.returns-clause-names
returns-clause-names c =
    names_left c.args.names.now c.loop-token.names c.args.bytes.now c.loop-token.words c.args.tokens.now c.requires.whole
    (no_more c.args.names.now c.loop-token.names c.args.bytes.now c.loop-token.words c.args.tokens.now c.loop-token.token-index c.loop-token-test.false c.loop-token.invariant)
