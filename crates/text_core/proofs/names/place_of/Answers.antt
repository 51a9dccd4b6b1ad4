use Rattle.std.proofs.Common.{◌≢◌, ◌∙◌, ◌++◌, ◌+◌, ℕ, refl, sym, subst, arith, slice_get, Some, IfNone}
use Rattle.std.proofs.lemmas.Option.{slice_get_within}
use Rattle.std.specs.String.{string_bytes}
use Rattle.text_core.specs.Names.{words, texts}
use Rattle.text_core.proofs.NamesLemmas.{slice_get-append_left, slice_get-append_right, slice_get-position, absent-append, absent-list_any}
use Rattle.text_core.proofs.names.place_of.Goals as goal

pub returns-in-Some-clause-found : goal.returns-in-Some-clause-found
returns-in-Some-clause-found c = slice_get-append_left words (texts c.args.given.now) c.in-Some.at c.args.text.now c.in-Some.ensures.found

pub returns-in-Some-clause-within : goal.returns-in-Some-clause-within
returns-in-Some-clause-within c = omega (arith, slice_get_within words c.in-Some.at c.args.text.now c.in-Some.ensures.found)

pub returns-in_err-at-clause-absent : goal.returns-in_err-at-clause-absent
returns-in_err-at-clause-absent c =
    subst (λ r. IfNone r ((k : ℕ) → slice_get (words ++ texts c.args.given.now) k ≢ Some c.args.text.now)) (sym c.from_residual.ensures)
    (absent-append words (texts c.args.given.now) c.args.text.now c.in_default.ensures.absent
    (absent-list_any string_bytes c.args.text.now c.args.given.now.keys (sym c.in_err-at.ensures.found)))

pub returns-clause-found : goal.returns-clause-found
returns-clause-found c =
    slice_get-append_right words (texts c.args.given.now) c.in_ok-at.at (27 + c.in_ok-at.at) refl
    ∙ slice_get-position string_bytes c.args.text.now c.args.given.now.keys c.in_ok-at.at (sym c.in_ok-at.ensures.index)
