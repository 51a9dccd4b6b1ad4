use Rattle.std.proofs.Common.{◌≡◌, ◌+◌, ◌≤◌, drop}
use Rattle.rs_syntax.specs.Parsed.{methods_among}
use Rattle.rs_syntax.proofs.parser.methods_among.Given as goal

abbrev pub invariant-loop-item : goal.invariant-loop-item
invariant-loop-item l = record {
  counted : l.count + methods_among (drop l.item-index l.items) ≡ methods_among l.items;
  few : l.count ≤ l.item-index;
}
