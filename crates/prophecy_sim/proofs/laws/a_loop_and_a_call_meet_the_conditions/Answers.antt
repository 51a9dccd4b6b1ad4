use Rattle.prophecy_sim.proofs.SampleConditions.{sample_sound}
use Rattle.prophecy_sim.proofs.SampleLaws.{sample_true, sample_good}
use Rattle.prophecy_sim.proofs.laws.a_loop_and_a_call_meet_the_conditions.Goals as goal

pub returns : goal.returns
returns c = record { sound = sample_sound; proved = sample_true; good = sample_good }
