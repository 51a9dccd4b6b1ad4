use Rattle.std.proofs.Common.{rules, ◌≡◌, ◌∷◌, [], ◌++◌, ◌∙◌, ap}
use Rattle.logic_term.specs.Matches.{bindings}
use Rattle.pat_check.specs.Tasks.{under}
use Rattle.pat_check.proofs.Binds.{part_bound}
use Rattle.pat_check.proofs.bindings.+bindings.Goals as goal

pub push_all_bindings-loop-i-preserved : goal.push_all_bindings-loop-i-preserved
push_all_bindings-loop-i-preserved t c =
    let i = c.loop-i.i in
    let part = c.index-parts-i.result in
    let path : c.in_ok-path.path ≡ c.args.path.now ++ record { variant = c.args.variant; field = i } ∷ [] = c.in_ok-path.ensures ∙ ap (λ n. c.args.path.now ++ record { variant = c.args.variant; field = n } ∷ []) c.in_ok-field.ensures in
    let made : c.push_bindings.new.out.items ≡ c.loop-i.out.items ++ under c.in_ok-path.path (bindings part) = search rules in
    part_bound c.args.path.now c.in_ok-path.path c.args.variant i c.args.parts.now part c.args.out.now.items c.loop-i.out.items c.push_bindings.new.out.items c.index-parts-i.is c.loop-i-test.true path c.loop-i.invariant made
