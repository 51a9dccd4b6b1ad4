use Rattle.std.proofs.Common.{refl}
use Rattle.wp_gen.proofs.PathLaws.{entry_counts}
use Rattle.wp_gen.proofs.paths.check_paths.Goals as goal

pub returns-in-Some-clause-ok : goal.returns-in-Some-clause-ok
returns-in-Some-clause-ok c = (entry_counts c.args.body.now _ _ c.requires c.in-Some.ensures.1, c.in-Some.ensures.0)

pub returns-in-None-clause-err : goal.returns-in-None-clause-err
returns-in-None-clause-err c = (entry_counts c.args.body.now _ _ c.requires c.in-None.ensures, refl)
