use Rattle.std.proofs.Common.{◌≡◌, map, take}
use Rattle.verify_core.specs.Listing.{listed}
use Rattle.verify_core.specs.Owed.{obligations_in}
use Rattle.verify_core.proofs.listing.all_listed.Given as goal

abbrev pub invariant-loop-owed : goal.invariant-loop-owed
invariant-loop-owed l = l.items.items ≡ map (listed l.program) (obligations_in (take l.owed-index l.program.obligations))
