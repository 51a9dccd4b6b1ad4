use Rattle.std.proofs.Common.{rules, ◌≡◌, length, sym, ◌∙◌, ap, subst, arith}
use Rattle.rs_types.specs.Table.{number_of, HasNumbers}
use Rattle.rs_types.proofs.Numbers.{not_there, one_more, unchanged, without_last}
use Rattle.rs_types.proofs.table.AdtTable.add.Goals as goal

pub invariant_of-self-in-Ok : goal.invariant_of-self-in-Ok
invariant_of-self-in-Ok c =
    let none = not_there c.find.result _ c.find.ensures (sym c.is_some.ensures ∙ c.if-is_some.false) in
    let is : c.in_ok-map_err.field-0 ≡ length c.self.inside.decls.items = search rules in
    subst (λ ds. HasNumbers ds c.insert.new.self) (sym (c.in_ok-push.ensures {u = tt}).items)
    (one_more c.self.inside.decls.items c.args.decl _ c.self.inside.ids c.insert.new.self c.self.invariant (ap (number_of c.args.decl.name.0) c.self.view_is ∙ none) is (c.in-Ok.ensures {u = tt}).updates.0)

pub invariant_of-self-in-Err : goal.invariant_of-self-in-Err
invariant_of-self-in-Err c =
    let front = without_last c.self.inside.decls.items c.pop.new.self.items c.args.decl c.pop.result (sym (c.in_ok-push.ensures {u = tt}).items ∙ c.pop.ensures.items) (c.pop.ensures.variant.1 (grind (arith, (c.in_ok-push.ensures {u = tt}).len))) in
    subst (λ ds. HasNumbers ds c.insert.new.self) (sym front) (unchanged _ c.self.inside.ids c.insert.new.self c.self.invariant (c.in-Err.ensures {u = tt}).err)

pub returns-in-Err-clause-kept : goal.returns-in-Err-clause-kept
returns-in-Err-clause-kept c =
    without_last c.self.inside.decls.items c.pop.new.self.items c.args.decl c.pop.result (sym (c.in_ok-push.ensures {u = tt}).items ∙ c.pop.ensures.items) (c.pop.ensures.variant.1 (grind (arith, (c.in_ok-push.ensures {u = tt}).len))) ∙ c.self.view_is
