use Rattle.wp_gen.proofs.PathLaws.{counts_agree, walks_are_counted}
use Rattle.wp_gen.proofs.laws.paths_are_counted.Goals as goal

pub returns : goal.returns
returns c = record { agree = counts_agree; walks = walks_are_counted }
