use Rattle.std.proofs.Common.{ℕ, List, Option, ◌≡◌, ◌∙◌, subst, arith, MatchOption}
use Rattle.std.specs.Str.{IsUtf8}
use Rattle.text_core.specs.declared.refusal.SourceError.{SourceError}
use Rattle.rs_tokens.specs.Reading.{Gives, nothing, one_more, HasEnded, IsNoText}
use Rattle.rs_tokens.proofs.OneReading.{given_whole}
use Rattle.text_tests.proofs.tokens.all_tokens.Goals as goal

pub loop-tokens-init : goal.loop-tokens-init
loop-tokens-init c = record {
  bytes = c.new-lexer.ensures.bytes;
  so_far = rw (c.new-tokens.ensures.items, c.new-lexer.ensures.start) nothing;
  within = omega (arith, c.new-lexer.ensures.start);
  text = λ e. subst (λ (r : Option SourceError). MatchOption r (IsUtf8 c.args.bytes.now) (λ error. IsNoText c.args.bytes.now error)) e c.new-lexer.ensures.refusal;
}

pub loop-tokens-preserved : goal.loop-tokens-preserved
loop-tokens-preserved c =
    let given : Gives c.loop-tokens.lexer.bytes c.loop-tokens.lexer.at c.in-Some.token = rw c.in-Some.is at c.in_ok-token.ensures.token in
    let behind : c.next.new.self.at ≡ c.in-Some.token.span.end = rw c.in-Some.is at c.in_ok-token.ensures.behind in
    let here : Gives c.args.bytes.now c.loop-tokens.lexer.at c.in-Some.token = subst (λ (b : List ℕ). Gives b c.loop-tokens.lexer.at c.in-Some.token) c.loop-tokens.invariant.bytes given in
    record {
      bytes = c.next.ensures.bytes ∙ c.loop-tokens.invariant.bytes;
      so_far = rw (c.in_ok-push.ensures.items, behind) (one_more c.loop-tokens.invariant.so_far here);
      within = omega (arith, behind, here.within);
      text = λ e. c.loop-tokens.invariant.text c.in_ok-token.ensures.unrefused;
    }

pub returns : goal.returns
returns c =
    let ended : HasEnded c.loop-tokens.lexer.bytes c.loop-tokens.lexer.at = rw c.in_default.is at c.in_ok-token.ensures.end in
    given_whole c.args.bytes.now c.loop-tokens.tokens.items c.loop-tokens.lexer.at (c.loop-tokens.invariant.text c.in_ok-token.ensures.unrefused) c.loop-tokens.invariant.so_far
    (subst (λ (b : List ℕ). HasEnded b c.loop-tokens.lexer.at) c.loop-tokens.invariant.bytes ended)
