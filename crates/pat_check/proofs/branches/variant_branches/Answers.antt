use Rattle.std.proofs.Common.{rules, ◌≡◌, ◌∷◌, [], ◌++◌, ◌∙◌, length}
use Rattle.pat_check.proofs.Variants.{variant_more}
use Rattle.pat_check.proofs.branches.variant_branches.Goals as goal

pub loop-j-preserved : goal.loop-j-preserved
loop-j-preserved c =
    let variant = c.index-variants-j.result in
    let pushed : c.push.new.self.items ≡ c.loop-j.branches.items ++ c.in_ok-branch.branch ∷ [] = search rules in
    let count : c.len.result ≡ length variant.fields = search rules in
    pushed ∙ variant_more c.args.known.now c.args.path.now c.args.adt c.loop-j.j c.variants_in-variants.result.now variant c.len.result c.in_ok-branch.branch c.loop-j.branches.items c.index-variants-j.is c.loop-j-test.true count c.in_ok-branch.ensures c.loop-j.invariant
