use Rattle.std.proofs.Common.{◌≡◌, ◌+◌, ◌<◌, ◌≤◌, [], ◌∷◌, ◌++◌, length, get_or, take, ap, sym, ◌∙◌, arith, rules}
use Rattle.std.proofs.lemmas.List.{take_more}
use Rattle.std.proofs.lemmas.List.Elements.{All-nil, All-push}
use Rattle.mir_ir.specs.declared.body.Body.{Body}
use Rattle.type_check.specs.WellTyped.{signatures, surroundings_of}
use Rattle.mir_build.specs.Lowering.{HasMoreBlocks, no_functions}
use Rattle.mir_build.specs.Whole.{FailsFor, contract_of}
use Rattle.mir_build.proofs.Accepted.{has_contract}
use Rattle.mir_build.proofs.Scopes.{within_scope}
use Rattle.mir_build.proofs.Whole.{fits_at, good_at, clauses_good, body_good, then_lower, too_many, fails_for}
use Rattle.mir_build.proofs.program.lower.Goals as goal

pub loop-f-init : goal.loop-f-init
loop-f-init c = record { lowered = rw (c.new-bodies.ensures, c.new-contracts.ensures, c.new-gone.ensures) no_functions; few = rw c.new-bodies.ensures (All-nil _) }

pub contract_of-requires : goal.contract_of-requires
contract_of-requires c =
    let fs = c.args.program.now.functions in
    let i = c.loop-f.f-index in
    let f = c.f-item.result in
    let within : i < length fs = omega (arith, c.loop-f-test.true, ap length c.as_slice-functions.ensures) in
    let is : f ≡ get_or fs i f = cc in
    clauses_good f (good_at fs i f c.requires.good is within)

pub lower_function-requires : goal.lower_function-requires
lower_function-requires c =
    let fs = c.args.program.now.functions in
    let i = c.loop-f.f-index in
    let f = c.f-item.result in
    let within : i < length fs = omega (arith, c.loop-f-test.true, ap length c.as_slice-functions.ensures) in
    let is : f ≡ get_or fs i f = cc in
    record { scope = within_scope (surroundings_of c.args.decls (signatures fs) f.signature) f.signature.params f.body (fits_at c.args.decls (signatures fs) fs i f c.requires.fits is within).body; good = body_good f (good_at fs i f c.requires.good is within) }

pub loop-f-preserved : goal.loop-f-preserved
loop-f-preserved c =
    let fs = c.args.program.now.functions in
    let i = c.loop-f.f-index in
    let f = c.f-item.result in
    let within : i < length fs = omega (arith, c.loop-f-test.true, ap length c.as_slice-functions.ensures) in
    let is : f ≡ get_or fs i f = cc in
    let number : c.in_ok-body.body.id ≡ 0 + length c.loop-f.bodies = search rules in
    let more : take (i + 1) fs ≡ take i fs ++ f ∷ [] = take_more fs i f within ∙ ap (λ x. take i fs ++ x ∷ []) (sym is) in
    record {
      lowered =
          let fits = fits_at c.args.decls (signatures fs) fs i f c.requires.fits is within in
          let good = good_at fs i f c.requires.good is within in
          let lowers = (rw (c.as_slice-functions.ensures, c.in_ok-types.ensures, c.as_slice.ensures) at c.in_ok-body.ensures.lowered) fits in
          let step = then_lower _ c.args.decls (signatures fs) 0 _ _ _ _ f c.in_ok-body.body (contract_of f) c.in_ok-body.own _ c.loop-f.invariant.lowered c.in_ok-body.ensures.named lowers (has_contract f (clauses_good f good)) number in
          rw (more, c.in_ok-push.ensures.ok, c.in_ok-push-2.ensures.ok, c.in_ok-contract_of.ensures, c.in_ok-push-3.ensures.ok) step;
      few = rw c.in_ok-push.ensures.ok (All-push (λ (b : Body). length b.blocks ≤ 4096) c.loop-f.bodies c.in_ok-body.body c.loop-f.invariant.few c.in_ok-body.ensures.few);
    }

pub returns-in_err-body-clause-limit : goal.returns-in_err-body-clause-limit
returns-in_err-body-clause-limit c =
    let fs = c.args.program.now.functions in
    let i = c.loop-f.f-index in
    let f = c.f-item.result in
    let within : i < length fs = omega (arith, c.loop-f-test.true, ap length c.as_slice-functions.ensures) in
    let is : f ≡ get_or fs i f = cc in
    let fails : FailsFor (HasMoreBlocks c.args.program.now 4096) c.in_err-body.field-0.0 = fails_for _ _ _ (λ more. too_many c.args.decls c.args.program.now i f is within more c.requires.fits c.requires.good) c.in_err-body.ensures.limit in
    search (rules, fails)
