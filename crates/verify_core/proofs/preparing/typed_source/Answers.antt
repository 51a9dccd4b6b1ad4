use Rattle.std.proofs.Common.{sym, ◌∙◌}
use Rattle.std.proofs.lemmas.Result.{err_from_is_err_and}
use Rattle.verify_core.proofs.PassLaws.{items_refused, has_items, declarations_refused, types_refused, running_refused, typed_as}
use Rattle.verify_core.proofs.preparing.typed_source.Goals as goal

pub returns-in_err-items-clause-refused : goal.returns-in_err-items-clause-refused
returns-in_err-items-clause-refused c =
    let p = err_from_is_err_and c.from_residual.result c.from_residual.ensures.1 in
    rw (p.1, p.2) (items_refused c.args.source.now c.args.names.now c.in_err-items.field-0.0 c.requires.empty c.in_err-items.ensures.refused)

pub returns-in_err-declared-clause-refused : goal.returns-in_err-declared-clause-refused
returns-in_err-declared-clause-refused c =
    let p = err_from_is_err_and c.from_residual-in_err-declared.result c.from_residual-in_err-declared.ensures.1 in
    rw (p.1, p.2)
    (declarations_refused c.args.source.now c.built_items.new.names c.in_ok-items.items c.in_err-declared.field-0.0
    (has_items c.args.source.now c.args.names.now c.built_items.new.names c.in_ok-items.items c.requires.empty c.in_ok-items.ensures.ok c.in_ok-items.ensures.few c.in_ok-items.ensures.names)
    (rw c.as_slice.ensures at c.in_err-declared.ensures.refused))

pub returns-in_err-typed-clause-refused : goal.returns-in_err-typed-clause-refused
returns-in_err-typed-clause-refused c =
    let p = err_from_is_err_and c.from_residual-in_err-typed.result c.from_residual-in_err-typed.ensures.1 in
    rw (p.1, p.2)
    (types_refused c.args.source.now c.built_items.new.names c.in_ok-items.items c.in_ok-declared.declared.table c.in_err-typed.field-0.0
    (has_items c.args.source.now c.args.names.now c.built_items.new.names c.in_ok-items.items c.requires.empty c.in_ok-items.ensures.ok c.in_ok-items.ensures.few c.in_ok-items.ensures.names)
    (rw c.as_slice.ensures at c.in_ok-declared.ensures.ok) (rw c.as_slice-2.ensures at c.in_err-typed.ensures.answers))

pub returns-in-None-clause-ok : goal.returns-in-None-clause-ok
returns-in-None-clause-ok c =
    typed_as c.args.source.now c.built_items.new.names c.in_ok-items.items c.in_ok-typed.typed c.in_ok-declared.declared.table
    (has_items c.args.source.now c.args.names.now c.built_items.new.names c.in_ok-items.items c.requires.empty c.in_ok-items.ensures.ok c.in_ok-items.ensures.few c.in_ok-items.ensures.names)
    (rw c.as_slice.ensures at c.in_ok-declared.ensures.ok) (rw c.as_slice-2.ensures at c.in_ok-typed.ensures.answers)
    (sym (rw c.decls.ensures at c.in_ok-unrun.ensures) ∙ c.in-None.is)

pub returns-clause-refused : goal.returns-clause-refused
returns-clause-refused c =
    rw c.not_running.ensures
    (running_refused c.args.source.now c.built_items.new.names c.in_ok-items.items c.in_ok-typed.typed c.in_ok-declared.declared.table c.in-Some.place
    (has_items c.args.source.now c.args.names.now c.built_items.new.names c.in_ok-items.items c.requires.empty c.in_ok-items.ensures.ok c.in_ok-items.ensures.few c.in_ok-items.ensures.names)
    (rw c.as_slice.ensures at c.in_ok-declared.ensures.ok) (rw c.as_slice-2.ensures at c.in_ok-typed.ensures.answers)
    (sym (rw c.decls.ensures at c.in_ok-unrun.ensures) ∙ c.in-Some.is))
