use Rattle.std.proofs.Common.{◌≡◌, not, true, is_some, sym, ap, ◌∙◌, subst}
use Rattle.rs_types.specs.Table.{number_of}
use Rattle.rs_types.proofs.Numbers.{there, one_behind}
use Rattle.rs_types.proofs.table.AdtTable.put.Goals as goal

pub invariant_of-self-2 : goal.invariant_of-self-2
invariant_of-self-2 c =
    let known = there c.find.result _ c.find.ensures (c.is_none.ensures ∙ ap not c.if-is_none.false) in
    one_behind c.self.inside.decls.items c.push.new.self.items c.args.decl c.self.inside.ids c.self.invariant (subst (λ xs. is_some (number_of c.args.decl.name.0 xs) ≡ true) (sym c.self.view_is) known)
    (c.in_ok-push.ensures {u = tt}).items
