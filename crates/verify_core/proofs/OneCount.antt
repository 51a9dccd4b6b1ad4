-- Few paths are not many.
use Rattle.std.proofs.Common.{◌+◌, [], arith}
use Rattle.wp_gen.proofs.PathLaws.{counts_agree}
use Rattle.verify_core.specs.Laws.{FewPathsAreNotMany}
use Rattle.verify_core.specs.Prepared.{most_paths}

pub few_paths_are_not_many : FewPathsAreNotMany
few_paths_are_not_many bs few many =
    let f = few many.place many.body many.is_body in
    omega (arith, f.2, counts_agree many.body [] many.body.entry f.0 (most_paths + 1) f.1 many.more)
