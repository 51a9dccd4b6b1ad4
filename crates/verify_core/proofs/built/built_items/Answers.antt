use Rattle.std.proofs.Common.{◌∙◌, ap, sym}
use Rattle.std.proofs.lemmas.Result.{err_from_is_err_and}
use Rattle.source_forms.specs.ItemForms.{first_unbuilt}
use Rattle.verify_core.specs.Built.{is_built}
use Rattle.verify_core.proofs.BuiltItems.{of_items, none_of_items, of_words, none_of_words, not_built, none_built}
use Rattle.verify_core.proofs.built.built_items.Goals as goal

pub returns-in_err-items-clause-refused : goal.returns-in_err-items-clause-refused
returns-in_err-items-clause-refused c =
    let p = err_from_is_err_and c.from_residual.result c.from_residual.ensures.1 in
    rw (p.1, p.2) (of_items c.args.names.now c.args.bytes.now c.in_err-items.field-0.0 c.in_err-items.ensures.refused)

pub returns-in_err-items-clause-rightly : goal.returns-in_err-items-clause-rightly
returns-in_err-items-clause-rightly c =
    let p = err_from_is_err_and c.from_residual.result c.from_residual.ensures.1 in
    rw (p.1, p.2) (none_of_items c.args.names.now c.args.bytes.now c.in_err-items.field-0.0 c.in_err-items.ensures.rightly)

pub returns-in-None-clause-ok : goal.returns-in-None-clause-ok
returns-in-None-clause-ok c = record {
  spelled = c.in_ok-items.ensures.ok;
  built = ap (first_unbuilt is_built) (sym c.as_slice.ensures) ∙ sym c.in-None.ensures;
}

pub returns-in-None-clause-alone : goal.returns-in-None-clause-alone
returns-in-None-clause-alone c = λ other s. c.in_ok-items.ensures.alone other s.spelled

pub returns-in_err-refusal_at-in-Some-clause-refused : goal.returns-in_err-refusal_at-in-Some-clause-refused
returns-in_err-refusal_at-in-Some-clause-refused c =
    let p = err_from_is_err_and c.from_residual-in_err-refusal_at-in-Some.result c.from_residual-in_err-refusal_at-in-Some.ensures.1 in
    rw (p.1, p.2) (of_words c.args.names.now c.args.bytes.now c.in_err-refusal_at-in-Some.field-0.0 c.in_err-refusal_at-in-Some.ensures.refused)

pub returns-in_err-refusal_at-in-Some-clause-rightly : goal.returns-in_err-refusal_at-in-Some-clause-rightly
returns-in_err-refusal_at-in-Some-clause-rightly c =
    let p = err_from_is_err_and c.from_residual-in_err-refusal_at-in-Some.result c.from_residual-in_err-refusal_at-in-Some.ensures.1 in
    rw (p.1, p.2) (none_of_words c.args.names.now c.args.bytes.now c.in_err-refusal_at-in-Some.field-0.0 c.in_err-refusal_at-in-Some.ensures.refused)

pub returns-in_ok-refusal_at-in-Some-clause-refused : goal.returns-in_ok-refusal_at-in-Some-clause-refused
returns-in_ok-refusal_at-in-Some-clause-refused c =
    not_built c.args.names.now c.args.bytes.now c.in_ok-items.items c.in_ok-items.ensures.ok c.in_ok-items.ensures.alone c.in_ok-items.ensures.few c.in-Some.start c.in_ok-refusal_at-in-Some.field-0
    (ap (first_unbuilt is_built) (sym c.as_slice.ensures) ∙ sym c.in-Some.ensures) c.in_ok-refusal_at-in-Some.ensures.ok

pub returns-in_ok-refusal_at-in-Some-clause-rightly : goal.returns-in_ok-refusal_at-in-Some-clause-rightly
returns-in_ok-refusal_at-in-Some-clause-rightly c =
    none_built c.args.names.now c.args.bytes.now c.in_ok-items.items c.in_ok-items.ensures.ok c.in_ok-items.ensures.alone c.in-Some.start c.in_ok-refusal_at-in-Some.field-0
    (ap (first_unbuilt is_built) (sym c.as_slice.ensures) ∙ sym c.in-Some.ensures)
