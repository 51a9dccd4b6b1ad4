use Rattle.std.proofs.Common.{◌∙◌, List, length, map, ap, sym, subst}
use Rattle.proof_kernel.specs.declared.linear.Sides.{Sides}
use Rattle.proof_kernel.specs.Linear.{AreRows}
use Rattle.proof_kernel.specs.LinearRows.{difference}
use Rattle.proof_kernel.proofs.Found.{found_says}
use Rattle.proof_kernel.proofs.LinearOutcome.{sides_length, closes_of, wide_of, fails_of}
use Rattle.proof_kernel.proofs.linear.certifies.Goals as goal

pub outcome-requires-clause-same_length : goal.outcome-requires-clause-same_length
outcome-requires-clause-same_length c =
    let found : AreRows c.args.q.now c.args.multiples.now (map difference c.in-Some.all.items) = found_says c.in_ok-all.field-0 _ _ c.in-Some.all c.in-Some.is (c.in_ok-all.ensures {u = tt}) in
    ap length c.as_slice-in-Some.ensures.value ∙ sides_length c.args.q.now c.args.multiples.now c.in-Some.all.items found

pub returns-in-Some-clause-closes : goal.returns-in-Some-clause-closes
returns-in-Some-clause-closes c =
    let found : AreRows c.args.q.now c.args.multiples.now (map difference c.in-Some.all.items) = found_says c.in_ok-all.field-0 _ _ c.in-Some.all c.in-Some.is (c.in_ok-all.ensures {u = tt}) in
    closes_of c.args.q.now c.args.multiples.now c.as_slice-in-Some.result.now (subst (λ (ss : List Sides). AreRows c.args.q.now c.args.multiples.now (map difference ss)) (sym c.as_slice-in-Some.ensures.value) found) c.outcome.result c.outcome.ensures

pub returns-in-Some-clause-wide : goal.returns-in-Some-clause-wide
returns-in-Some-clause-wide c =
    let found : AreRows c.args.q.now c.args.multiples.now (map difference c.in-Some.all.items) = found_says c.in_ok-all.field-0 _ _ c.in-Some.all c.in-Some.is (c.in_ok-all.ensures {u = tt}) in
    wide_of c.args.q.now c.args.multiples.now c.as_slice-in-Some.result.now (subst (λ (ss : List Sides). AreRows c.args.q.now c.args.multiples.now (map difference ss)) (sym c.as_slice-in-Some.ensures.value) found) c.outcome.result c.outcome.ensures

pub returns-in-Some-clause-fails : goal.returns-in-Some-clause-fails
returns-in-Some-clause-fails c =
    let found : AreRows c.args.q.now c.args.multiples.now (map difference c.in-Some.all.items) = found_says c.in_ok-all.field-0 _ _ c.in-Some.all c.in-Some.is (c.in_ok-all.ensures {u = tt}) in
    fails_of c.args.q.now c.args.multiples.now c.as_slice-in-Some.result.now (subst (λ (ss : List Sides). AreRows c.args.q.now c.args.multiples.now (map difference ss)) (sym c.as_slice-in-Some.ensures.value) found) c.outcome.result c.outcome.ensures
