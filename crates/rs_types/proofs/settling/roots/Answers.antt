use Rattle.std.proofs.Common.{rules, ◌≡◌, []}
use Rattle.rs_types.proofs.Growth.{one_root_more}
use Rattle.rs_types.proofs.settling.roots.Goals as goal

pub loop-d-preserved : goal.loop-d-preserved
loop-d-preserved c =
    let number : c.in_ok-adt.adt ≡ c.loop-d.d = search rules in
    let given : c.new.result ≡ [] = search rules in
    one_root_more c.args.decls.now c.loop-d.d c.loop-d.cases.items c.push.new.self.items _ _ c.loop-d-test.true (c.in_ok-push.ensures {u = tt}).items (search rules) c.loop-d.invariant
