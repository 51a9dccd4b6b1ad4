use Rattle.std.proofs.Common.{drop, ◌+◌, ◌-◌, refl, sym, ap, ◌∙◌, arith}
use Rattle.std.proofs.lemmas.List.{drop_all}
use Rattle.rs_tokens.specs.Blanks.{opens_comment, closes_comment}
use Rattle.rs_tokens.proofs.ListLaws.{begins_at, two_within, drop_byte, rest_of}
use Rattle.rs_tokens.proofs.CommentLaws.{close_step, open_step, other_step, none_left}
use Rattle.rs_tokens.proofs.blanks.comment_len.Goals as goal

pub returns-then-depth-eq0-clause-ends : goal.returns-then-depth-eq0-clause-ends
returns-then-depth-eq0-clause-ends c =
    let text = c.args.text.now in
    let at = c.loop-at.at in
    let here = begins_at text at 42 47 (sym c.begins.ensures ∙ c.if-begins.true) in
    (close_step text (drop at text) (drop (at + 2) text) c.loop-at.depth 0 (omega arith) here c.loop-at.invariant.so_far).from (drop (at + 2) text) refl

pub loop-at-preserved-else-depth-eq0 : goal.loop-at-preserved-else-depth-eq0
loop-at-preserved-else-depth-eq0 c =
    let text = c.args.text.now in
    let at = c.loop-at.at in
    let here = begins_at text at 42 47 (sym c.begins.ensures ∙ c.if-begins.true) in
    record {
      within = two_within text (drop (at + 2) text) at 42 47 here;
      some = omega arith;
      few = omega arith;
      so_far = close_step text (drop at text) (drop (at + 2) text) c.loop-at.depth (c.loop-at.depth - 1) (omega arith) here c.loop-at.invariant.so_far;
    }

pub loop-at-preserved-then-begins-2 : goal.loop-at-preserved-then-begins-2
loop-at-preserved-then-begins-2 c =
    let text = c.args.text.now in
    let at = c.loop-at.at in
    let here = begins_at text at 47 42 (sym c.begins-else-begins.ensures ∙ c.if-begins-2.true) in
    record {
      within = two_within text (drop (at + 2) text) at 47 42 here;
      some = omega arith;
      few = omega arith;
      so_far = open_step text (drop at text) (drop (at + 2) text) c.loop-at.depth (c.loop-at.depth + 1) (omega arith) c.loop-at.invariant.some here c.loop-at.invariant.so_far;
    }

pub loop-at-preserved : goal.loop-at-preserved
loop-at-preserved c =
    let text = c.args.text.now in
    let at = c.loop-at.at in
    record {
      within = omega arith;
      some = omega arith;
      few = omega arith;
      so_far = other_step text (drop at text) (drop (at + 1) text) c.loop-at.depth _ c.loop-at.invariant.some (drop_byte text at _ c.loop-at-test.true refl)
          (ap opens_comment (sym (rest_of at text)) ∙ sym c.begins-else-begins.ensures ∙ c.if-begins-2.false)
          (ap closes_comment (sym (rest_of at text)) ∙ sym c.begins.ensures ∙ c.if-begins.false) c.loop-at.invariant.so_far;
    }

pub returns-clause-ends : goal.returns-clause-ends
returns-clause-ends c rest h =
    let text = c.args.text.now in
    none_left text (drop c.loop-at.at text) rest c.loop-at.depth c.loop-at.invariant.some (drop_all c.loop-at.at text (omega arith)) c.loop-at.invariant.so_far h
