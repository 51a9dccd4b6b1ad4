use Rattle.mir_build.proofs.LawsOfPrograms.{bodies_are_laid_out, locals_have_names, locals_have_built_types}
use Rattle.mir_build.proofs.laws.lowered_bodies_are_laid_out.Goals as goal

pub returns : goal.returns
returns c = record { laid_out = bodies_are_laid_out; named = locals_have_names; built = locals_have_built_types }
