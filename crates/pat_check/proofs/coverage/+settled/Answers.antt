use Rattle.std.proofs.Common.{rules, ◌≡◌, ◌∷◌, [], ◌++◌, take, sym, subst}
use Rattle.pat_check.specs.KnownView.{knowns_of}
use Rattle.pat_check.specs.PatValueView.{pat_values_of}
use Rattle.pat_check.specs.Settled.{SettleAll}
use Rattle.pat_check.proofs.Settling.{settle_more, take_one}
use Rattle.pat_check.proofs.coverage.+settled.Goals as goal

pub settled_all-loop-i-preserved : goal.settled_all-loop-i-preserved
settled_all-loop-i-preserved t c =
    let i = c.loop-i.i in
    let part = c.index-parts-i.result in
    let m = settle_more (take i c.args.parts.now) c.loop-i.all.items part c.in_ok-settled.field-0 c.loop-i.invariant c.in_ok-settled.ensures in
    let front = take_one c.args.parts.now i part c.index-parts-i.is c.loop-i-test.true in
    let pushed : c.push.new.self.items ≡ c.loop-i.all.items ++ c.in_ok-settled.field-0 ∷ [] = search rules in
    subst (λ xs. SettleAll (knowns_of xs) (pat_values_of c.push.new.self.items)) (sym front) (subst (λ ys. SettleAll (knowns_of (take i c.args.parts.now ++ part ∷ [])) (pat_values_of ys)) (sym pushed) m)
