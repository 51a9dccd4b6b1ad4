use Rattle.std.proofs.Common.{◌≢◌, get_or, drop, refl, arith}
use Rattle.std.proofs.lemmas.List.{drop_all}
use Rattle.rs_tokens.proofs.StringLaws.{string_nil, end_quote, step_plain, step_escape}
use Rattle.rs_tokens.proofs.strings.string_len.Goals as goal

pub returns-in-34-clause-ends : goal.returns-in-34-clause-ends
returns-in-34-clause-ends c =
    let text = c.args.text.now in
    end_quote text c.loop-at.at (get_or text c.loop-at.at 0) c.loop-at-test.true refl c.loop-at.invariant.so_far c.in-34.is

pub loop-at-preserved-in-92 : goal.loop-at-preserved-in-92
loop-at-preserved-in-92 c =
    let text = c.args.text.now in
    record {
      within = omega arith;
      so_far = step_escape text c.loop-at.at (get_or text c.loop-at.at 0) c.loop-at-test.true refl c.loop-at.invariant.so_far c.in-92.is;
    }

pub loop-at-preserved : goal.loop-at-preserved
loop-at-preserved c =
    let text = c.args.text.now in
    record {
      within = omega arith;
      so_far = step_plain text c.loop-at.at (get_or text c.loop-at.at 0) c.loop-at-test.true refl c.loop-at.invariant.so_far
          (let other : get_or text c.loop-at.at 0 ≢ 34 = omega arith in other) (let other : get_or text c.loop-at.at 0 ≢ 92 = omega arith in other);
    }

pub returns-clause-ends : goal.returns-clause-ends
returns-clause-ends c rest h =
    let text = c.args.text.now in
    string_nil (drop c.loop-at.at text) rest (drop_all c.loop-at.at text (omega arith)) (c.loop-at.invariant.so_far.to rest h)
