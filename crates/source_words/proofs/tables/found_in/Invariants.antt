use Rattle.std.proofs.Common.{◌≡◌, map, drop}
use Rattle.source_words.specs.Texts.{found_in, row_of}
use Rattle.source_words.proofs.tables.found_in.Given as goal

abbrev pub invariant-loop-row : goal.invariant-loop-row
invariant-loop-row g l = found_in (map row_of l.table) l.text ≡ found_in (map row_of (drop l.row-index l.table)) l.text
