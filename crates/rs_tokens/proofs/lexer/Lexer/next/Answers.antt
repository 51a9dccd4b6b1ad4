use Rattle.std.proofs.Common.{ap, length, arith}
use Rattle.rs_tokens.proofs.ReadingLaws.{refused_within, settled_boundary, here_len}
use Rattle.rs_tokens.specs.Place.{Place}
use Rattle.rs_tokens.proofs.OneReading.{longest_some}
use Rattle.rs_tokens.proofs.lexer.Lexer.next.Goals as goal

pub range_from-rest-requires : goal.range_from-rest-requires
range_from-rest-requires c _ =
    settled_boundary c.as_bytes.result.now c.self.inside.rest.now c.blanks_len-skipped.result c.as_bytes.ensures.value c.as_bytes.ensures.utf8
    c.blanks_len-skipped.ensures.within c.blanks_len-skipped.ensures.settles

pub overflow_add-start-in-Err : goal.overflow_add-start-in-Err
overflow_add-start-in-Err c =
    omega (
      arith,
      c.self.invariant.few,
      refused_within c.range_from-rest.result.now c.in-Err.len c.in-Err.ensures.token,
      here_len c.self.inside.bytes.now c.self.inside.rest.now c.range_from-rest.result.now c.self.inside.at c.blanks_len-skipped.result c.self.invariant.within
          (c.self.invariant.left c.in_default.is) (omega (arith, c.blanks_len-skipped.ensures.within, ap length c.as_bytes.ensures.value)) c.range_from-rest.ensures.value,
    )

pub overflow_cast-start-in-Err : goal.overflow_cast-start-in-Err
overflow_cast-start-in-Err c =
    omega (
      arith,
      c.self.invariant.few,
      refused_within c.range_from-rest.result.now c.in-Err.len c.in-Err.ensures.token,
      here_len c.self.inside.bytes.now c.self.inside.rest.now c.range_from-rest.result.now c.self.inside.at c.blanks_len-skipped.result c.self.invariant.within
          (c.self.invariant.left c.in_default.is) (omega (arith, c.blanks_len-skipped.ensures.within, ap length c.as_bytes.ensures.value)) c.range_from-rest.ensures.value,
    )

pub returns-in-Ok-clause-forward : goal.returns-in-Ok-clause-forward
returns-in-Ok-clause-forward c =
    omega (arith, (longest_some c.range_from-rest.result.now c.in-Ok.front.kind c.in-Ok.front.len c.in-Ok.ensures.token).0, ap (λ (place : Place). place.at) c.self.view_is)
