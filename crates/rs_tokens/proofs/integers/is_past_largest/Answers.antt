use Rattle.std.proofs.Common.{sym, ◌∙◌, arith}
use Rattle.rs_tokens.specs.Tokens.{largest_integer}
use Rattle.rs_tokens.proofs.IntegerLaws.{past, next_digit, next_low}
use Rattle.rs_tokens.proofs.integers.is_past_largest.Goals as goal
use Rattle.rs_tokens.proofs.integers.is_past_largest.Goals.{then-byte-ne95+in-Some, else-byte-ne95}

pub returns-in-None : goal.returns-in-None
returns-in-None c =
    past c.args.base largest_integer c.args.digits.now c.loop-byte.byte-index c.loop-byte.value c.digit_value.result c.requires c.loop-byte-test.true c.loop-byte.invariant.value c.digit_value.ensures
    c.if-byte-ne95.true (sym c.with_digit.ensures ∙ c.in-None.is)

pub loop-byte-preserved : goal.loop-byte-preserved
loop-byte-preserved c =
    elim c.if-byte-ne95.branch [
      | then-byte-ne95+in-Some w ↦ let next = next_digit c.args.base largest_integer c.args.digits.now c.loop-byte.byte-index c.loop-byte.value w.digit_value.result c.requires c.loop-byte-test.true c.loop-byte.invariant.value w.digit_value.ensures
          w.in-Some.next w.if-byte-ne95.true (sym w.with_digit.ensures ∙ w.in-Some.is) in
          record { value = w.value-is ∙ next.0; small = omega (arith, w.value-is, next.1) }
      | else-byte-ne95 w ↦ record {
        value = w.value-is ∙ next_low c.args.base c.args.digits.now c.loop-byte.byte-index c.loop-byte.value c.loop-byte-test.true c.loop-byte.invariant.value w.if-byte-ne95.false;
        small = omega (arith, w.value-is, c.loop-byte.invariant.small);
      }
    ]
