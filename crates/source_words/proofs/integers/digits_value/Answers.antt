use Rattle.std.proofs.Common.{◌≡◌, ◌+◌, ◌*◌, ap, ◌∙◌, refl, get_or, arith}
use Rattle.std.specs.Char.{digit_value}
use Rattle.rs_tokens.proofs.IntegerLaws.{next_low}
use Rattle.source_words.proofs.Digits.{next_value}
use Rattle.source_words.proofs.integers.digits_value.Goals as goal
use Rattle.source_words.proofs.integers.digits_value.Goals.{then-byte-ne95, else-byte-ne95}

pub overflow_mul-value : goal.overflow_mul-value
overflow_mul-value c =
    let n = next_value c.args.base c.args.digits.now c.loop-byte.byte-index c.loop-byte.value (digit_value (get_or c.args.digits.now c.loop-byte.byte-index 0)) c.requires.base c.loop-byte-test.true c.loop-byte.invariant refl c.if-byte-ne95.true in
    let e : c.loop-byte.value * c.from.result ≡ c.loop-byte.value * c.args.base = ap (λ b. c.loop-byte.value * b) c.from.ensures in
    omega (arith, e, n.1, c.requires.fits)

pub overflow_add-value : goal.overflow_add-value
overflow_add-value c =
    let n = next_value c.args.base c.args.digits.now c.loop-byte.byte-index c.loop-byte.value c.digit_value.result c.requires.base c.loop-byte-test.true c.loop-byte.invariant c.digit_value.ensures c.if-byte-ne95.true in
    let e : c.loop-byte.value * c.from.result ≡ c.loop-byte.value * c.args.base = ap (λ b. c.loop-byte.value * b) c.from.ensures in
    omega (arith, e, n.1, c.requires.fits, c.from-then-byte-ne95.ensures)

pub loop-byte-preserved : goal.loop-byte-preserved
loop-byte-preserved c =
    elim c.if-byte-ne95.branch [
      | then-byte-ne95 w ↦
          let n = next_value c.args.base c.args.digits.now c.loop-byte.byte-index c.loop-byte.value w.digit_value.result c.requires.base c.loop-byte-test.true c.loop-byte.invariant w.digit_value.ensures w.if-byte-ne95.true in
          let e : c.loop-byte.value * w.from.result ≡ c.loop-byte.value * c.args.base = ap (λ b. c.loop-byte.value * b) w.from.ensures in
          let d : c.if-byte-ne95.value ≡ c.loop-byte.value * c.args.base + w.digit_value.result = omega (arith, w.value-is, e, w.from-then-byte-ne95.ensures) in
          d ∙ n.0
      | else-byte-ne95 w ↦ w.value-is ∙ next_low c.args.base c.args.digits.now c.loop-byte.byte-index c.loop-byte.value c.loop-byte-test.true c.loop-byte.invariant w.if-byte-ne95.false
    ]
