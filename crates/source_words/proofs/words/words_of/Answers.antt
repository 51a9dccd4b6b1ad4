use Rattle.std.proofs.Common.{◌≡◌, ◌<◌, ◌∙◌, arith}
use Rattle.source_words.proofs.WordLists.{read_nothing, read_more}
use Rattle.source_words.proofs.TokenLists.{utf8_of, state_of, gives_here, again_of}
use Rattle.source_words.proofs.WordSteps.{lexeme_here, all_here, names_here, only_here, bad_here, keeps_on}
use Rattle.source_words.proofs.words.words_of.Goals as goal

pub loop-error-init : goal.loop-error-init
loop-error-init c = record {
  bytes = c.new-lexer.ensures.bytes;
  within = omega (arith, c.new-lexer.ensures.start);
  state = c.new-lexer.ensures.refusal;
  read = rw (c.new-words.ensures, c.new-lexer.ensures.start) (read_nothing c.args.names.now c.args.bytes.now);
  kept = λ name text h. h;
  few = omega (arith, c.new-lexer.ensures.start);
}

pub returns-in-Err-clause-refused : goal.returns-in-Err-clause-refused
returns-in-Err-clause-refused c =
    let i = c.loop-error.invariant in
    bad_here c.args.bytes.now c.loop-error.lexer.bytes c.loop-error.lexer.at c.loop-error.lexer.refusal i.bytes i.state c.args.names.now c.loop-error.names c.loop-error.words c.in-Err.error
    (again_of c.loop-error.lexer.refusal c.in-Err.error _ c.in-Err.ensures.again) c.in-Err.ensures.refused i.read

pub returns-in-Ok-None-clause-ok : goal.returns-in-Ok-None-clause-ok
returns-in-Ok-None-clause-ok c =
    let i = c.loop-error.invariant in
    all_here c.args.bytes.now c.loop-error.lexer.bytes c.loop-error.lexer.at c.loop-error.lexer.refusal i.bytes i.state c.args.names.now c.loop-error.names c.loop-error.words c.in-Ok-None.ensures.unrefused i.read
    (rw c.in-Ok-None.field-0-is at c.in-Ok-None.ensures.end)

pub returns-in-Ok-None-clause-names : goal.returns-in-Ok-None-clause-names
returns-in-Ok-None-clause-names c =
    let i = c.loop-error.invariant in
    names_here c.args.bytes.now c.loop-error.lexer.bytes c.loop-error.lexer.at c.loop-error.lexer.refusal i.bytes i.state c.args.names.now c.loop-error.names c.loop-error.words c.in-Ok-None.ensures.unrefused i.read
    (rw c.in-Ok-None.field-0-is at c.in-Ok-None.ensures.end)

pub returns-in-Ok-None-clause-only : goal.returns-in-Ok-None-clause-only
returns-in-Ok-None-clause-only c =
    let i = c.loop-error.invariant in
    only_here c.args.bytes.now c.loop-error.lexer.bytes c.loop-error.lexer.at c.loop-error.lexer.refusal i.bytes i.state c.args.names.now c.loop-error.names c.loop-error.words c.in-Ok-None.ensures.unrefused i.read
    (rw c.in-Ok-None.field-0-is at c.in-Ok-None.ensures.end)

pub word_of-requires-clause-lexeme : goal.word_of-requires-clause-lexeme
word_of-requires-clause-lexeme c =
    let i = c.loop-error.invariant in
    lexeme_here c.args.bytes.now c.loop-error.lexer.bytes c.loop-error.lexer.at c.loop-error.lexer.refusal i.bytes i.state c.in-Ok-Some.token c.in-Ok-Some.ensures.unrefused
    (rw c.in-Ok-Some.field-0-is at c.in-Ok-Some.ensures.token)

pub returns-in_err-word-in-Ok-Some-clause-kept : goal.returns-in_err-word-in-Ok-Some-clause-kept
returns-in_err-word-in-Ok-Some-clause-kept c = keeps_on c.args.names.now c.loop-error.names c.word_of.new.names c.loop-error.invariant.kept c.word_of.ensures.kept

pub returns-in_err-push-in-Ok-Some-clause-kept : goal.returns-in_err-push-in-Ok-Some-clause-kept
returns-in_err-push-in-Ok-Some-clause-kept c = keeps_on c.args.names.now c.loop-error.names c.word_of.new.names c.loop-error.invariant.kept c.word_of.ensures.kept

pub loop-error-preserved : goal.loop-error-preserved
loop-error-preserved c =
    let i = c.loop-error.invariant in
    let given = gives_here c.args.bytes.now c.loop-error.lexer.bytes c.loop-error.lexer.at c.loop-error.lexer.refusal i.bytes i.state c.in-Ok-Some.token (rw c.in-Ok-Some.field-0-is at c.in-Ok-Some.ensures.token) in
    let behind : c.next.new.self.at ≡ c.in-Ok-Some.token.span.end = rw c.in-Ok-Some.field-0-is at c.in-Ok-Some.ensures.behind in
    let forward : c.loop-error.lexer.at < c.next.new.self.at = rw c.in-Ok-Some.field-0-is at c.in-Ok-Some.ensures.forward in
    record {
      bytes = c.next.ensures.bytes ∙ i.bytes;
      within = omega (arith, behind, given.within);
      state = state_of c.args.bytes.now c.next.new.self.refusal (utf8_of c.args.bytes.now c.loop-error.lexer.refusal i.state c.in-Ok-Some.ensures.unrefused) c.in-Ok-Some.ensures.accepted;
      read = rw (c.in_ok-push-in-Ok-Some.ensures.ok, behind) (read_more c.args.names.now c.loop-error.names c.word_of.new.names c.args.bytes.now c.loop-error.words c.loop-error.lexer.at c.in-Ok-Some.token c.in_ok-word-in-Ok-Some.word i.read
          c.word_of.ensures.kept c.word_of.ensures.new given c.in_ok-word-in-Ok-Some.ensures.ok c.in_ok-word-in-Ok-Some.ensures.only c.in_ok-word-in-Ok-Some.ensures.table);
      kept = keeps_on c.args.names.now c.loop-error.names c.word_of.new.names i.kept c.word_of.ensures.kept;
      few = omega (arith, c.word_of.ensures.few, i.few, forward);
    }
