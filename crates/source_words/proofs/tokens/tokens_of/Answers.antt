use Rattle.std.proofs.Common.{◌≡◌, ◌<◌, ◌+◌, ◌∷◌, [], length, ap, ◌∙◌, arith}
use Rattle.std.proofs.lemmas.List.{length-append}
use Rattle.rs_tokens.specs.Reading.{nothing, one_more}
use Rattle.source_words.proofs.TokenLists.{utf8_of, state_of, gives_here, all_here, bad_here, again_of}
use Rattle.source_words.proofs.tokens.tokens_of.Goals as goal

pub loop-error-init : goal.loop-error-init
loop-error-init c = record {
  bytes = c.new-lexer.ensures.bytes;
  within = omega (arith, c.new-lexer.ensures.start);
  state = c.new-lexer.ensures.refusal;
  given = rw (c.new-tokens.ensures, c.new-lexer.ensures.start) nothing;
  few = rw c.new-tokens.ensures (omega arith);
}

pub returns-in-Err-clause-refused : goal.returns-in-Err-clause-refused
returns-in-Err-clause-refused c =
    let i = c.loop-error.invariant in
    bad_here c.args.bytes.now c.loop-error.lexer.bytes c.loop-error.lexer.at c.loop-error.lexer.refusal i.bytes i.state c.loop-error.tokens c.in-Err.error
    (again_of c.loop-error.lexer.refusal c.in-Err.error _ c.in-Err.ensures.again) c.in-Err.ensures.refused i.given

pub returns-in-Ok-None-clause-ok : goal.returns-in-Ok-None-clause-ok
returns-in-Ok-None-clause-ok c =
    let i = c.loop-error.invariant in
    all_here c.args.bytes.now c.loop-error.lexer.bytes c.loop-error.lexer.at c.loop-error.lexer.refusal i.bytes i.state c.loop-error.tokens c.in-Ok-None.ensures.unrefused i.given
    (rw c.in-Ok-None.field-0-is at c.in-Ok-None.ensures.end)

pub loop-error-preserved : goal.loop-error-preserved
loop-error-preserved c =
    let i = c.loop-error.invariant in
    let given = gives_here c.args.bytes.now c.loop-error.lexer.bytes c.loop-error.lexer.at c.loop-error.lexer.refusal i.bytes i.state c.in-Ok-Some.token (rw c.in-Ok-Some.field-0-is at c.in-Ok-Some.ensures.token) in
    let behind : c.next.new.self.at ≡ c.in-Ok-Some.token.span.end = rw c.in-Ok-Some.field-0-is at c.in-Ok-Some.ensures.behind in
    let forward : c.loop-error.lexer.at < c.next.new.self.at = rw c.in-Ok-Some.field-0-is at c.in-Ok-Some.ensures.forward in
    let longer : length c.push.new.self ≡ length c.loop-error.tokens + 1 = ap length c.in_ok-push-in-Ok-Some.ensures.ok ∙ length-append c.loop-error.tokens (c.in-Ok-Some.token ∷ []) in
    record {
      bytes = c.next.ensures.bytes ∙ i.bytes;
      within = omega (arith, behind, given.within);
      state = state_of c.args.bytes.now c.next.new.self.refusal (utf8_of c.args.bytes.now c.loop-error.lexer.refusal i.state c.in-Ok-Some.ensures.unrefused) c.in-Ok-Some.ensures.accepted;
      given = rw (c.in_ok-push-in-Ok-Some.ensures.ok, behind) (one_more i.given given);
      few = omega (arith, longer, i.few, forward);
    }
