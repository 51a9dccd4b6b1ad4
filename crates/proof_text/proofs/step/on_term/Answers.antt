use Rattle.std.proofs.Common.{arith, ap, length}
use Rattle.std.proofs.lemmas.List.{length-map}
use Rattle.proof_text.specs.ProofTextRules.{lists_behind}
use Rattle.proof_text.proofs.ListLemmas.{read_names, on_shorter}
use Rattle.proof_text.proofs.StageLemmas.{now}
use Rattle.proof_text.proofs.step.on_term.Goals as goal

pub by_variants-requires : goal.by_variants-requires
by_variants-requires c =
    let short = on_shorter c.args.rule c.args.rest.now _ (read_names (lists_behind c.args.rule c.args.rest.now) c.in-Ok.text c.in-Ok.words c.in-Ok.ensures) in
    let same = ap length c.deref.ensures.value in
    let room = c.requires in
    omega (arith, short, same, length-map c.in-Ok.words.items now, room)

pub returns-in-Ok-clause-grown : goal.returns-in-Ok-clause-grown
returns-in-Ok-clause-grown c =
    let short = on_shorter c.args.rule c.args.rest.now _ (read_names (lists_behind c.args.rule c.args.rest.now) c.in-Ok.text c.in-Ok.words c.in-Ok.ensures) in
    let same = ap length c.deref.ensures.value in
    let grown = c.by_variants.ensures.grown in
    omega (arith, short, same, length-map c.in-Ok.words.items now, grown)
