use Rattle.std.proofs.Common.{◌≡◌, List, false, sym, ◌∙◌, subst}
use Rattle.rs_tokens.specs.declared.token.Token.{Token}
use Rattle.rs_tokens.specs.Reading.{AreTokens}
use Rattle.term_texts.specs.TermTexts.{fills, IsTermText}
use Rattle.term_texts.proofs.TermLaw.{not_filled}
use Rattle.term_texts.proofs.reading.read_whole_term.Goals as goal

pub returns-then-not-fills-clause-refused : goal.returns-then-not-fills-clause-refused
returns-then-not-fills-clause-refused c = λ e is.
    let gap : fills c.as_bytes-bytes.result.now c.as_slice.result.now ≡ false = sym c.fills.ensures ∙ c.if-not-fills.true in
    let here : IsTermText c.as_bytes-bytes.result.now = subst IsTermText (sym c.as_bytes-bytes.ensures.value) is in
    let are : AreTokens c.as_bytes-bytes.result.now c.as_slice.result.now = subst (AreTokens c.as_bytes-bytes.result.now) (sym c.as_slice.ensures) c.in_ok-tokens.ensures.ok in
    not_filled c.as_bytes-bytes.result.now c.as_slice.result.now are gap here
