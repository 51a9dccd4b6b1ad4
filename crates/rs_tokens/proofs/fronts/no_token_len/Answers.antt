use Rattle.std.proofs.Common.{ℕ, List, ◌++◌, sym, ◌∙◌, ap, refl, arith}
use Rattle.std.specs.Prelude.{encode_utf8}
use Rattle.std.proofs.lemmas.Str.{encode_ascii}
use Rattle.rs_tokens.specs.Reading.{character, string}
use Rattle.rs_tokens.proofs.fronts.no_token_len.Goals as goal

pub returns-then-character-eq34 : goal.returns-then-character-eq34
returns-then-character-eq34 c =
    string _
    (sym c.chars.ensures.rest ∙ c.in-Some.ensures.steps.0 ∙ ap (λ (x : ℕ). encode_utf8 x ++ c.next.new.self.rest.now) c.if-character-eq34.true
    ∙ ap (λ (x : List ℕ). x ++ c.next.new.self.rest.now) (encode_ascii 34 (omega arith))) c.requires.none refl

pub returns-else-character-eq34 : goal.returns-else-character-eq34
returns-else-character-eq34 c =
    character c.in-Some.character _ c.requires.no_comment (sym c.chars.ensures.rest ∙ c.in-Some.ensures.steps.0) c.if-character-eq34.false c.requires.none c.len_utf8.ensures.len
