use Rattle.std.proofs.Common.{◌≡◌, ◌∙◌, ap, sym, subst, take_all}
use Rattle.pat_check.specs.Findings.{finding_of}
use Rattle.pat_check.specs.Rows.{row, AllFail}
use Rattle.pat_check.specs.Status.{status, sure}
use Rattle.pat_check.proofs.Rows.{all_fail_more, next_none, row_at, test_at, status_of}
use Rattle.pat_check.proofs.next.next.Goals as goal

pub returns-in-Sure : goal.returns-in-Sure
returns-in-Sure c =
    let number : c.in_ok-number-in-Sure.number ≡ c.loop-i.i = c.in_ok-number-in-Sure.ensures in
    let arm = c.index-arms-i-in-Sure.result in
    let s : status arm c.args.known.now ≡ sure = status_of c.args.arms.now c.loop-i.i c.args.known.now c.index-arms-i.result arm c.index-arms-i.is c.index-arms-i-in-Sure.is c.loop-i-test.true
    (sym c.in_ok-status.ensures ∙ ap finding_of c.in-Sure.is) in
    row_at c.loop-i.i c.args.arms.now c.args.known.now arm c.index-arms-i-in-Sure.is c.loop-i-test.true c.loop-i.invariant s ∙ ap (λ n. row n arm) (sym number)

pub returns-in-Asks : goal.returns-in-Asks
returns-in-Asks c = (
  test_at c.loop-i.i c.args.arms.now c.args.known.now c.index-arms-i.result c.in-Asks.path c.in-Asks.test c.index-arms-i.is c.loop-i-test.true c.loop-i.invariant (sym c.in_ok-status.ensures ∙ ap finding_of c.in-Asks.is),
  c.loop-i.invariant,
)

pub loop-i-preserved : goal.loop-i-preserved
loop-i-preserved c = all_fail_more c.loop-i.i c.args.arms.now c.args.known.now c.index-arms-i.result c.index-arms-i.is c.loop-i-test.true (sym c.in_ok-status.ensures ∙ ap finding_of c.in-Fails.is) c.loop-i.invariant

pub returns : goal.returns
returns c = next_none 0 c.args.arms.now c.args.known.now (subst (λ ps. AllFail ps c.args.known.now) (take_all c.loop-i.i c.args.arms.now c.loop-i-test.false) c.loop-i.invariant)
