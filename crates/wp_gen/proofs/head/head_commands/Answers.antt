use Rattle.std.proofs.Common.{◌≡◌, ◌∙◌, ap, sym, subst, length, arith}
use Rattle.std.proofs.lemmas.Result.{IfOk-weaker}
use Rattle.prophecy_logic.specs.Loop.{loop_writes, is_gone, touched_there, renewals}
use Rattle.wp_gen.specs.Marks.{AreMarks, touch_by}
use Rattle.wp_gen.proofs.MarkLaws.{touch_is, renewals_same}
use Rattle.wp_gen.proofs.head.head_commands.Goals as goal

pub all_renewals-requires : goal.all_renewals-requires
all_renewals-requires c = record {
  gone = ap length c.as_slice-gone_here.ensures.value ∙ c.in_ok-gone.ensures.as_many;
  written = ap length c.as_slice-written_here.ensures.value ∙ c.in_ok-written.ensures.as_many;
}

pub returns : goal.returns
returns c =
    let b = c.args.body.now in
    let n = length b.locals in
    let gone = subst (AreMarks n (is_gone c.args.init.now c.args.label)) (sym c.as_slice-gone_here.ensures.value) c.in_ok-gone.ensures in
    let written = subst (AreMarks n (loop_writes b c.args.label)) (sym c.as_slice-written_here.ensures.value) c.in_ok-written.ensures in
    let same : c.in_ok-commands.commands.items ≡ renewals b (touched_there b c.args.init.now c.args.label) 0 b.locals =
    c.in_ok-commands.ensures
    ∙ renewals_same b (touch_by c.as_slice-gone_here.result.now c.as_slice-written_here.result.now) (touched_there b c.args.init.now c.args.label) 0 b.locals
    (λ x below. touch_is b c.args.init.now c.args.label _ _ n x gone written (omega (arith, below))) in
    IfOk-weaker c.with_assumed.result _ _ (λ v e. cc) c.with_assumed.ensures
