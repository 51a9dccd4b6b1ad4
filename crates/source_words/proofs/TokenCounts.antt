-- Bytes have no more tokens than bytes, and as many words as tokens.
use Rattle.std.proofs.Common.{◌≡◌, ℕ, ◌+◌, ◌≤◌, List, length, drop, Option, None, refl, ap, ◌∙◌, arith, length-drop}
use Rattle.std.specs.List.{prefix_len}
use Rattle.text_core.specs.declared.span.Span.{Span}
use Rattle.rs_tokens.specs.declared.token.Token.{Token}
use Rattle.rs_tokens.specs.Blanks.{is_no_line_feed, CommentEnds, close, nested, other, BlankEnds, white, line, block, Skips, none, more}
use Rattle.rs_tokens.specs.Reading.{AreTokens, Gives, HasTokens, ended, refused, token}
use Rattle.rs_tokens.proofs.OneReading.{one_list, longest_some}
use Rattle.source_words.specs.declared.word.Word.{Word}
use Rattle.source_words.specs.Words.{AreWords, AreWordsOf, none as no_words, one_more}

behind_comment : (text rest : List ℕ) → CommentEnds text rest → length rest ≤ length text
behind_comment text rest (close e) = omega (arith, ap length e)
behind_comment text rest (nested {inside} {after} e inner outer) = omega (arith, ap length e, behind_comment inside after inner, behind_comment after rest outer)
behind_comment text rest (other {more} e o c ends) = omega (arith, ap length e, behind_comment more rest ends)

behind_blank : (text rest : List ℕ) → BlankEnds text rest → length rest ≤ length text
behind_blank text rest (white e w) = omega (arith, ap length e)
behind_blank text rest (line {more} e r) = omega (arith, ap length e, ap length r, length-drop (prefix_len is_no_line_feed more) more)
behind_blank text rest (block {inside} e c) = omega (arith, ap length e, behind_comment inside rest c)

behind_blanks : (text rest : List ℕ) → Skips text rest → length rest ≤ length text
behind_blanks text rest (none e) = omega (arith, ap length e)
behind_blanks text rest (more {after} b s) = omega (arith, behind_blank text after b, behind_blanks after rest s)

pub ends_behind : (bytes : List ℕ) (at : ℕ) (t : Token) → at ≤ length bytes → Gives bytes at t → at + 1 ≤ t.span.end
ends_behind bytes at t inside g =
    let shorter = behind_blanks (drop at bytes) (drop t.span.start bytes) g.settles.skips in
    let some = (longest_some (drop t.span.start bytes) t.kind g.len g.stands).0 in
    omega (arith, g.ends, g.within, shorter, some, length-drop at bytes, length-drop t.span.start bytes)

few : (bytes : List ℕ) (at : ℕ) (tokens : List Token) (end : Option Span) → at ≤ length bytes → HasTokens bytes at tokens end → at + length tokens ≤ length bytes
few bytes at _ _ inside (ended e) = omega arith
few bytes at _ _ inside (refused r) = omega arith
few bytes at _ _ inside (token {first} {others} {end} g rest) = omega (arith, ends_behind bytes at first inside g, few bytes first.span.end others end g.within rest)

pub few_tokens : (bytes : List ℕ) (tokens : List Token) → AreTokens bytes tokens → length tokens ≤ length bytes
few_tokens bytes tokens are = omega (arith, few bytes 0 tokens None (omega arith) are.tokens_of)

as_many : (table : List (List ℕ)) (bytes : List ℕ) (tokens : List Token) (words : List Word) → AreWordsOf table bytes tokens words → length words ≡ length tokens
as_many table bytes _ _ no_words = refl
as_many table bytes _ _ (one_more {tokens} {words} w ws) = omega (arith, as_many table bytes tokens words ws)

pub as_many_words : (table : List (List ℕ)) (bytes : List ℕ) (tokens : List Token) (words : List Word) → AreTokens bytes tokens → AreWords table bytes words → length words ≡ length tokens
as_many_words table bytes tokens words are h =
    as_many table bytes h.tokens words h.are_words ∙ ap length (one_list bytes 0 h.tokens tokens None None h.are_tokens.tokens_of are.tokens_of).0
