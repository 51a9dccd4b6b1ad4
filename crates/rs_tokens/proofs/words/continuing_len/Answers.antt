use Rattle.std.proofs.Common.{ℕ, ◌≡◌, ◌+◌, length, take, sym, ap, ◌∙◌, arith}
use Rattle.std.specs.Prelude.{encode_utf8_all}
use Rattle.std.specs.List.{prefix_len}
use Rattle.std.specs.Str.{chars}
use Rattle.std.proofs.lemmas.Iterator.{YieldsList-from_chars}
use Rattle.std.proofs.lemmas.Iterator.Consumers.{YieldsList-turn, YieldsList-end}
use Rattle.std.proofs.lemmas.List.{length_push}
use Rattle.std.proofs.lemmas.List.Sums.{prefix_len-le-length}
use Rattle.unicode_ident.specs.Ident.{is_xid_continue}
use Rattle.rs_tokens.proofs.WordLaws.{run_goes_on, run_ends, length-encodes_more, encodes_take_within, chars_length}
use Rattle.rs_tokens.proofs.words.continuing_len.Goals as goal

pub returns-then-not-continues_word : goal.returns-then-not-continues_word
returns-then-not-continues_word c =
    let text = c.args.text.now in
    let k = length c.loop-character.yielded in
    let t = YieldsList-turn (YieldsList-from_chars text c.utf8.text cc) c.loop-character.yielded _ c.loop-character.yielded_by _ _ c.in-Some.character c.in-Some.is c.next.ensures.steps in
    let e = run_ends (chars text) k c.in-Some.character t.0 t.1 (sym c.continues_word.ensures ∙ c.if-not-continues_word.true) c.loop-character.invariant.passed in
    c.loop-character.invariant.bytes ∙ ap (λ (n : ℕ). length (encode_utf8_all (take n (chars text)))) (sym e)

pub overflow_add-len : goal.overflow_add-len
overflow_add-len c =
    let text = c.args.text.now in
    let k = length c.loop-character.yielded in
    let t = YieldsList-turn (YieldsList-from_chars text c.utf8.text cc) c.loop-character.yielded _ c.loop-character.yielded_by _ _ c.in-Some.character c.in-Some.is c.next.ensures.steps in
    let more = length-encodes_more (chars text) k c.in-Some.character t.0 t.1 in
    omega (arith, more, encodes_take_within (chars text) (k + 1), chars_length text c.utf8.text, c.loop-character.invariant.bytes, c.len_utf8-len.ensures.len)

pub loop-character-preserved : goal.loop-character-preserved
loop-character-preserved c =
    let text = c.args.text.now in
    let k = length c.loop-character.yielded in
    let t = YieldsList-turn (YieldsList-from_chars text c.utf8.text cc) c.loop-character.yielded _ c.loop-character.yielded_by _ _ c.in-Some.character c.in-Some.is c.next.ensures.steps in
    let more = length-encodes_more (chars text) k c.in-Some.character t.0 t.1 in
    let pushed = length_push c.loop-character.yielded c.in-Some.character in
    let on = run_goes_on (chars text) k c.in-Some.character t.0 t.1 (sym c.continues_word.ensures ∙ c.if-not-continues_word.false) c.loop-character.invariant.passed in
    record {
      bytes = omega (arith, more, c.loop-character.invariant.bytes, c.len_utf8-len.ensures.len, ap (λ (n : ℕ). length (encode_utf8_all (take n (chars text)))) pushed);
      passed = omega (arith, on, pushed);
    }

pub returns : goal.returns
returns c =
    let text = c.args.text.now in
    let t = YieldsList-end (YieldsList-from_chars text c.utf8.text cc) c.loop-character.yielded _ c.loop-character.yielded_by _ _ c.in-None.is c.next.ensures.steps in
    let e : length c.loop-character.yielded ≡ prefix_len is_xid_continue (chars text) = omega (arith, t.1, c.loop-character.invariant.passed, prefix_len-le-length is_xid_continue (chars text)) in
    c.loop-character.invariant.bytes ∙ ap (λ (n : ℕ). length (encode_utf8_all (take n (chars text)))) e
