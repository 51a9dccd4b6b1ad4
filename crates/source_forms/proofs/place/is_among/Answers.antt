use Rattle.std.proofs.Common.{◌∙◌, sym}
use Rattle.source_forms.specs.declared.form.Form.TheVariants.{Function}
use Rattle.source_forms.proofs.Left.{found, passed, not_found}
use Rattle.source_forms.proofs.place.is_among.Goals as goal

pub returns-then-one-form : goal.returns-then-one-form
returns-then-one-form c = sym (c.loop-one.invariant ∙ found c.args.forms.now c.loop-one.one-index c.args.form Function c.loop-one-test.true c.if-one-form.true)

pub loop-one-preserved : goal.loop-one-preserved
loop-one-preserved c = c.loop-one.invariant ∙ passed c.args.forms.now c.loop-one.one-index c.args.form Function c.loop-one-test.true c.if-one-form.false

pub returns : goal.returns
returns c = sym (c.loop-one.invariant ∙ not_found c.args.forms.now c.loop-one.one-index c.args.form c.loop-one-test.false)
