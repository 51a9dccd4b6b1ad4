use Rattle.std.proofs.Common.{◌≡◌, ◌+◌, ◌<◌, ◌^◌, ◌++◌, Some, arith, refl, slice_get}
use Rattle.std.proofs.lemmas.Grind.{common_steps}
use Rattle.text_core.specs.Names.{words, texts}
use Rattle.text_core.proofs.NamesLemmas.{text_of-place, one_name, HaveOnePlace-unchanged, text_of-unchanged, HaveOnePlace-inserted, text_of-inserted, place-inserted}
use Rattle.text_core.proofs.names.Names.intern.Goals as goal

pub returns-in-Some-clause-one : goal.returns-in-Some-clause-one
returns-in-Some-clause-one c =
    one_name c.self.inside.given c.args.self.now c.self.view_is c.in-Some.at c.in-Some.ensures.within c.args.text.now c.in-Some.ensures.found c.self.invariant

pub invariant_of-self-in_err-at : goal.invariant_of-self-in_err-at
invariant_of-self-in_err-at c = HaveOnePlace-unchanged c.self.inside.given c.insert_full.new.self c.in_err-at.ensures.err c.self.invariant

pub returns-in_err-at-clause-kept : goal.returns-in_err-at-clause-kept
returns-in_err-at-clause-kept c = text_of-unchanged c.self.inside.given c.insert_full.new.self c.in_err-at.ensures.err c.args.self.now c.self.view_is

pub invariant_of-self-2 : goal.invariant_of-self-2
invariant_of-self-2 c =
    HaveOnePlace-inserted c.self.inside.given c.insert_full.new.self c.in_ok-to_string.field-0 c.args.text.now c.in_ok-to_string.ensures.ok c.in_default.ensures.absent c.in_ok-at.ensures.keys c.self.invariant

-- the text stands in the set after the insertion
placed : (c : goal.In_ok-at) → slice_get (words ++ texts c.insert_full.new.self) (27 + c.in_ok-at.at) ≡ Some c.args.text.now
placed c =
    let stored = c.in_ok-at.ensures.stored in
    place-inserted c.self.inside.given c.insert_full.new.self c.in_ok-to_string.field-0 c.args.text.now c.in_ok-to_string.ensures.ok c.in_default.ensures.absent c.in_ok-at.ensures.keys
    c.in_ok-at.at stored.0 stored.1 stored.2

small : (c : goal.In_ok-at) → 27 + c.in_ok-at.at < 2 ^ 63
small c = grind (arith, common_steps)

pub returns-clause-named : goal.returns-clause-named
returns-clause-named c = text_of-place c.insert_full.new.self (texts c.insert_full.new.self) refl (27 + c.in_ok-at.at) (small c) c.args.text.now (placed c)

pub returns-clause-one : goal.returns-clause-one
returns-clause-one c = one_name c.insert_full.new.self (texts c.insert_full.new.self) refl (27 + c.in_ok-at.at) (small c) c.args.text.now (placed c) (invariant_of-self-2 c)

pub returns-clause-kept : goal.returns-clause-kept
returns-clause-kept c =
    text_of-inserted c.self.inside.given c.insert_full.new.self c.in_ok-to_string.field-0 c.args.text.now c.in_ok-to_string.ensures.ok c.in_default.ensures.absent c.in_ok-at.ensures.keys c.args.self.now c.self.view_is
