use Rattle.std.proofs.Common.{◌∙◌, sym, ap}
use Rattle.rs_tokens.specs.declared.token.TokenKind.{TokenKind}
use Rattle.source_words.specs.Words.{kind_by}
use Rattle.source_words.proofs.KindLemmas.{other_kind}
use Rattle.source_words.proofs.kinds.kind_by.Goals as goal

pub returns-in-Ident : goal.returns-in-Ident
unfolding kind_by
returns-in-Ident c = c.identifier_kind.ensures ∙ sym (ap (λ (kind : TokenKind). kind_by kind c.args.text.now) c.in-Ident.is)

pub returns-in-Lifetime : goal.returns-in-Lifetime
unfolding kind_by
returns-in-Lifetime c = c.lifetime_kind.ensures ∙ sym (ap (λ (kind : TokenKind). kind_by kind c.args.text.now) c.in-Lifetime.is)

pub returns-in_default : goal.returns-in_default
returns-in_default c = other_kind c.args.kind c.args.text.now c.in_default.not-Ident c.in_default.not-Lifetime
