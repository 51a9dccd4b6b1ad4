use Rattle.std.proofs.Common.{◌≡◌, ◌+◌, ◌-◌, ap, ◌∙◌, map, arith}
use Rattle.std.specs.List.{range_with_len}
use Rattle.std.proofs.lemmas.List.FromFn.{map-range_with_len_more}
use Rattle.mir_build.specs.Lowering.{whole}
use Rattle.mir_build.proofs.builder.places.Goals as goal

pub loop-x-preserved : goal.loop-x-preserved
loop-x-preserved c =
    let n = c.loop-x.x - c.args.first in
    let e : c.loop-x.x + 1 - c.args.first ≡ n + 1 = omega arith in
    let m = map-range_with_len_more whole c.args.first n c.loop-x.x (omega arith) in
    record { places = rw e (grind (arith, m)); within = omega arith }

pub returns : goal.returns
returns c =
    let e : c.loop-x.x - c.args.first ≡ c.args.last - c.args.first = omega (arith, c.in-Ok.ensures) in
    c.loop-x.invariant.places ∙ ap (λ n. map whole (range_with_len c.args.first n)) e
