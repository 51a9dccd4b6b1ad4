use Rattle.std.proofs.Common.{◌≡◌, ℕ, true, false, refl, sym, ap, ◌∙◌, subst}
use Rattle.logic_term.specs.declared.declaration.AdtDecl.{AdtDecl}
use Rattle.rs_types.specs.CopyRows.{new_at, AreNeeded}
use Rattle.rs_types.proofs.Copied.{decided, fewer_unknown, first_rows, next_rows}
use Rattle.rs_types.proofs.copy_rows.copy_rows.Goals as goal

pub loop-rows-init : goal.loop-rows-init
loop-rows-init c = first_rows c.args.decls.now c.in_ok-rows.rows.items c.in_ok-rows.ensures

pub returns-in-None : goal.returns-in-None
returns-in-None c =
    decided c.args.decls.now c.loop-rows.rows.items c.loop-rows.invariant.1 c.loop-rows.invariant.2
    (subst (λ rows. (d : ℕ) → new_at c.args.decls.now rows d ≡ false) c.as_slice.ensures.value ((c.in-None.ensures {u = tt}).none refl))

pub loop-rows-smaller : goal.loop-rows-smaller
loop-rows-smaller c =
    let some = (c.in-Some.ensures {u = tt}).some in
    fewer_unknown c.args.decls.now c.loop-rows.rows.items c.in-Some.i (subst (λ rows. new_at c.args.decls.now rows c.in-Some.i ≡ true) c.as_slice.ensures.value some.1)
    c.in_ok-needed-in-Some.needed some.0 c.loop-rows.invariant.0

pub loop-rows-preserved : goal.loop-rows-preserved
loop-rows-preserved c =
    let some = (c.in-Some.ensures {u = tt}).some in
    next_rows c.args.decls.now c.loop-rows.rows.items c.in-Some.i (subst (λ rows. new_at c.args.decls.now rows c.in-Some.i ≡ true) c.as_slice.ensures.value some.1)
    c.in_ok-needed-in-Some.needed c.index-decls-i.result some.0 c.loop-rows.invariant c.index-decls-i.is
    (subst (λ rows. AreNeeded rows c.index-decls-i.result.variants c.in_ok-needed-in-Some.needed) c.as_slice-in-Some.ensures.value
    (subst (λ vs. AreNeeded c.as_slice-in-Some.result.now vs c.in_ok-needed-in-Some.needed) (c.as_slice-in-Some-2.ensures ∙ ap (λ (d : AdtDecl). d.variants) (sym c.index-decls-i.is)) (c.in_ok-needed-in-Some.ensures {u = tt})))
