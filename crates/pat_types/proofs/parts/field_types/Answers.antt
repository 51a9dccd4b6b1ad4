use Rattle.std.proofs.Common.{◌∙◌, sym}
use Rattle.logic_term.specs.TyView.{tys_of}
use Rattle.pat_types.proofs.TypeLists.{fields_end, next_field}
use Rattle.pat_types.proofs.parts.field_types.Goals as goal

pub loop-i-preserved : goal.loop-i-preserved
loop-i-preserved c =
    next_field (tys_of c.args.arguments.now) c.args.fields.now c.loop-i.i c.index-fields-i.result c.loop-i.types.items c.push.new.self.items c.in_ok-applied.field-0
    c.loop-i-test.true c.in_ok-applied.ensures c.in_ok-push.ensures.items
    ∙ c.loop-i.invariant

pub returns : goal.returns
returns c = sym (fields_end (tys_of c.args.arguments.now) c.args.fields.now c.loop-i.i c.loop-i.types.items c.loop-i-test.false) ∙ c.loop-i.invariant
