use Rattle.std.proofs.Common.{rules, ◌≡◌, ◌≤◌, arith}
use Rattle.declared_types.proofs.Declaration.{one_param_more, no_param_more}
use Rattle.declared_types.proofs.fields.params_of.Goals as goal

pub loop-i-preserved : goal.loop-i-preserved
loop-i-preserved c =
    let number : c.in_ok-number.number ≡ c.loop-i.i = search rules in
    one_param_more c.args.count c.loop-i.i c.loop-i.made.items c.push.new.self.items _ _ c.loop-i-test.true (c.in_ok-push.ensures {u = tt}).items (search rules) c.loop-i.invariant

pub returns : goal.returns
returns c =
    let past : c.args.count ≤ c.loop-i.i = grind (arith, c.loop-i-test.false) in
    no_param_more c.args.count c.loop-i.i c.loop-i.made.items _ past c.loop-i.invariant
