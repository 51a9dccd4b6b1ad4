use Rattle.std.proofs.Common.{◌≡◌, drop}
use Rattle.rs_types.specs.Meant.{place_among, place_from}
use Rattle.rs_types.proofs.meaning.place_among.Given as goal

abbrev pub invariant-loop-i : goal.invariant-loop-i
invariant-loop-i l = place_among l.name l.names ≡ place_from l.i l.name.0 (drop l.i l.names)
