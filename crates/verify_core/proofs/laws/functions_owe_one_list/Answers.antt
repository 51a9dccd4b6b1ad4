use Rattle.verify_core.proofs.OwedOnce.{owed_is_one, fewer_are_front, fewer_owe_fewer, owed_is_of_bodies}
use Rattle.verify_core.proofs.laws.functions_owe_one_list.Goals as goal

pub returns : goal.returns
returns c = record { one = owed_is_one; front = fewer_are_front; fewer = fewer_owe_fewer; of_bodies = owed_is_of_bodies }
