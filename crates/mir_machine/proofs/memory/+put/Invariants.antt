use Rattle.std.proofs.Common.{◌+◌, ◌*◌, length}
use Rattle.mir_machine.proofs.memory.+put.Given as goal

abbrev pub decreases-put_in : goal.decreases-put_in
decreases-put_in l = 2 * length l.path.now

abbrev pub decreases-put_in_list : goal.decreases-put_in_list
decreases-put_in_list l = 2 * length l.path.now + 1

abbrev pub decreases-put_in_pointer : goal.decreases-put_in_pointer
decreases-put_in_pointer l = 2 * length l.path.now + 1
