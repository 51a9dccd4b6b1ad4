use Rattle.std.proofs.Common.{rules, ◌≡◌, ◌∙◌, ◌+◌, ap, sym, subst, drop, arith}
use Rattle.logic_term.specs.PatternView.{pats_of}
use Rattle.pat_check.specs.KnownView.{knowns_of}
use Rattle.pat_check.specs.Status.{status, statuses, also}
use Rattle.pat_check.specs.Findings.{finding_of, at_part}
use Rattle.pat_check.proofs.Parts.{from, from_statuses, from_more, other_lengths}
use Rattle.pat_check.proofs.finding.+status.Goals as goal

pub statuses-returns-then-pats-knowns : goal.statuses-returns-then-pats-knowns
statuses-returns-then-pats-knowns t c = other_lengths c.args.variant c.args.pats.now c.args.knowns.now c.if-pats-knowns.true

pub statuses-loop-i-init : goal.statuses-loop-i-init
statuses-loop-i-init t c = (search rules, from_statuses c.args.variant c.args.pats.now c.args.knowns.now)

pub statuses-loop-i-preserved : goal.statuses-loop-i-preserved
statuses-loop-i-preserved t c =
    let n = c.args.variant in
    let i = c.loop-i.i in
    let ps = c.args.pats.now in
    let ks = c.args.knowns.now in
    let next : finding_of c.in_ok-next-2.next ≡ at_part n i (status c.index-pats-i.result c.index-knowns-i.result) = c.in_ok-next-2.ensures ∙ ap (at_part n i) c.in_ok-next.ensures in (
      c.loop-i.invariant.0,
      subst (λ s. also s (from n (i + 1) (drop (i + 1) ps) (drop (i + 1) ks)) ≡ statuses n (pats_of ps) (knowns_of ks)) (sym c.combined-found.ensures)
          (from_more n i ps ks c.index-pats-i.result c.index-knowns-i.result (finding_of c.loop-i.found) (finding_of c.in_ok-next-2.next) _ c.index-pats-i.is c.index-knowns-i.is c.loop-i-test.true
          (omega (arith, c.loop-i.invariant.0)) next c.loop-i.invariant.1),
    )
