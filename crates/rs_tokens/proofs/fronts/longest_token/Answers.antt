use Rattle.std.proofs.Common.{ap, sym, ◌∙◌, length, arith}
use Rattle.rs_tokens.proofs.TokenLaws.{nil_of, no_token_empty, integer_stands, integer_ends, string_stands, string_ends, no_string_stands, tick_ends, lifetime_stands, no_lifetime_stands, word_stands, mark_stands, mark_ends}
use Rattle.rs_tokens.proofs.fronts.longest_token.Goals as goal

pub returns-in_err-first-clause-stands : goal.returns-in_err-first-clause-stands
returns-in_err-first-clause-stands c =
    rw c.from_residual.ensures
    (no_token_empty c.args.text.now (omega (arith, nil_of c.as_bytes-bytes.result.now c.in_err-first.ensures.value, ap length c.as_bytes-bytes.ensures.value)))

pub returns-then-is_digit-clause-stands : goal.returns-then-is_digit-clause-stands
returns-then-is_digit-clause-stands c =
    integer_stands c.as_bytes-bytes.result.now c.args.text.now c.in_ok-first.field-0.now c.as_bytes-bytes.ensures.value c.in_ok-first.ensures.value
    c.integer_len-len.result (sym c.is_digit.ensures ∙ c.if-is_digit.true) c.integer_len-len.ensures

pub returns-then-is_digit-clause-boundary : goal.returns-then-is_digit-clause-boundary
returns-then-is_digit-clause-boundary c =
    integer_ends c.as_bytes-bytes.result.now c.args.text.now c.in_ok-first.field-0.now c.as_bytes-bytes.ensures.value c.in_ok-first.ensures.value
    c.integer_len-len.result c.utf8.text c.integer_len-len.ensures

pub returns-in_err-len-clause-stands : goal.returns-in_err-len-clause-stands
returns-in_err-len-clause-stands c =
    rw c.from_residual-in_err-len.ensures
    (no_string_stands c.as_bytes-bytes.result.now c.args.text.now c.in_ok-first.field-0.now c.as_bytes-bytes.ensures.value c.in_ok-first.ensures.value
    c.if-first-eq34.true c.in_err-len.ensures.ends)

pub returns-then-first-eq34-clause-stands : goal.returns-then-first-eq34-clause-stands
returns-then-first-eq34-clause-stands c =
    string_stands c.as_bytes-bytes.result.now c.args.text.now c.in_ok-first.field-0.now c.as_bytes-bytes.ensures.value c.in_ok-first.ensures.value
    c.in_ok-len.field-0 c.if-first-eq34.true c.in_ok-len.ensures.within c.in_ok-len.ensures.ends

pub returns-then-first-eq34-clause-boundary : goal.returns-then-first-eq34-clause-boundary
returns-then-first-eq34-clause-boundary c =
    string_ends c.as_bytes-bytes.result.now c.args.text.now c.in_ok-first.field-0.now c.as_bytes-bytes.ensures.value c.in_ok-first.ensures.value
    c.in_ok-len.field-0 c.if-first-eq34.true c.utf8.text c.in_ok-len.ensures.within c.in_ok-len.ensures.ends

pub range_from-requires : goal.range_from-requires
range_from-requires c _ =
    tick_ends c.as_bytes-bytes.result.now c.args.text.now c.in_ok-first.field-0.now c.as_bytes-bytes.ensures.value c.in_ok-first.ensures.value
    c.if-first-eq39.true c.utf8.text

pub returns-in_err-len-2-clause-stands : goal.returns-in_err-len-2-clause-stands
returns-in_err-len-2-clause-stands c =
    rw c.from_residual-in_err-len-2.ensures
    (no_lifetime_stands c.as_bytes-bytes.result.now c.args.text.now c.in_ok-first.field-0.now c.as_bytes-bytes.ensures.value c.in_ok-first.ensures.value
    c.range_from.result.now c.range_from.ensures.value c.if-first-eq39.true c.in_err-len-2.ensures.longest)

pub returns-then-first-eq39-clause-stands : goal.returns-then-first-eq39-clause-stands
returns-then-first-eq39-clause-stands c =
    lifetime_stands c.as_bytes-bytes.result.now c.args.text.now c.in_ok-first.field-0.now c.as_bytes-bytes.ensures.value c.in_ok-first.ensures.value
    c.in_ok-len-2.field-0 c.range_from.result.now c.range_from.ensures.value c.if-first-eq39.true c.in_ok-len-2.ensures.longest

pub returns-in-Some-clause-stands : goal.returns-in-Some-clause-stands
returns-in-Some-clause-stands c =
    word_stands c.as_bytes-bytes.result.now c.args.text.now c.in_ok-first.field-0.now c.as_bytes-bytes.ensures.value c.in_ok-first.ensures.value
    c.in-Some.len c.word_kind.result c.word_kind.ensures c.in-Some.ensures.longest

pub returns-clause-stands : goal.returns-clause-stands
returns-clause-stands c =
    mark_stands c.as_bytes-bytes.result.now c.args.text.now c.in_ok-first.field-0.now c.as_bytes-bytes.ensures.value c.in_ok-first.ensures.value
    c.longest_mark.result (sym c.is_digit.ensures ∙ c.if-is_digit.false) c.if-first-eq34.false c.if-first-eq39.false c.in_default.ensures.longest c.longest_mark.ensures.kind c.longest_mark.ensures.longest

pub returns-clause-boundary : goal.returns-clause-boundary
returns-clause-boundary c =
    mark_ends c.as_bytes-bytes.result.now c.args.text.now c.in_ok-first.field-0.now c.as_bytes-bytes.ensures.value c.in_ok-first.ensures.value
    c.longest_mark.result c.utf8.text c.longest_mark.ensures.kind c.longest_mark.ensures.longest
