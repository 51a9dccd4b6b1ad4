use Rattle.std.proofs.Common.{rules, ◌≡◌, ◌∷◌, [], ◌++◌, ◌∙◌, ap, sym, length, Some, slice_get}
use Rattle.std.proofs.lemmas.Bool.{ltb-true}
use Rattle.logic_term.specs.Sort.{instance}
use Rattle.logic_term.specs.TyView.{tys_of}
use Rattle.pat_check.proofs.Variants.{got}
use Rattle.pattern_tests.proofs.Lists.{field_more, fields_found}
use Rattle.pattern_tests.proofs.typing.fields_of.Goals as goal

pub loop-i-preserved : goal.loop-i-preserved
loop-i-preserved c =
    let pushed : c.push.new.self.items ≡ c.loop-i.made.items ++ c.in_ok-applied.field-0 ∷ [] = search rules in
    field_more
    (tys_of c.args.types.now) c.loop-i.i c.as_slice-fields.result.now c.index-fields-i.result c.in_ok-applied.field-0
    c.loop-i.made.items c.push.new.self.items c.index-fields-i.is c.loop-i-test.true (c.in_ok-applied.ensures ∙ ap (λ f. instance (tys_of c.args.types.now) f.ty) (sym c.index-fields-i.is)) c.loop-i.invariant pushed

pub returns : goal.returns
returns c =
    let decl = got c.args.decls.now c.args.adt.0 c.in-Some.decl.now (ltb-true c.args.adt.0 (length c.args.decls.now) (sym c.in-Some.ensures.lookup.0)) c.in-Some.ensures.lookup.1 in
    let variant : slice_get c.in-Some.decl.now.variants c.args.variant ≡ Some c.in-Some-get.variant.now = search rules in
    fields_found c.args.decls.now c.args.adt c.args.variant c.loop-i.i c.in-Some.decl.now c.in-Some-get.variant.now c.as_slice-fields.result.now
    (tys_of c.args.types.now) c.loop-i.made.items decl variant c.as_slice-fields.ensures c.loop-i.invariant c.loop-i-test.false
