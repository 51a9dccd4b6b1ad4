use Rattle.std.proofs.Common.{arith}
use Rattle.proof_text.proofs.ListLemmas.{few_named}
use Rattle.proof_text.proofs.lists.name_lists.Goals as goal

pub all_named-requires : goal.all_named-requires
all_named-requires c =
    let few = few_named c.deref.result.now c.in_ok-lists.lists.items c.args.words.now c.deref.ensures.value c.in_ok-lists.ensures in
    let room = c.requires in
    omega (arith, few, room)

pub returns-clause-grown : goal.returns-clause-grown
returns-clause-grown c =
    let few = few_named c.deref.result.now c.in_ok-lists.lists.items c.args.words.now c.deref.ensures.value c.in_ok-lists.ensures in
    let grown = c.all_named.ensures.grown in
    omega (arith, few, grown)
