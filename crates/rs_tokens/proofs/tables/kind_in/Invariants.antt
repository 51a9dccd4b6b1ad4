use Rattle.std.proofs.Common.{◌≡◌, map, drop}
use Rattle.rs_tokens.specs.Tables.{kind_in, row_of}
use Rattle.rs_tokens.proofs.tables.kind_in.Given as goal

abbrev pub invariant-loop-word : goal.invariant-loop-word
invariant-loop-word l = kind_in (map row_of l.table) l.text ≡ kind_in (map row_of (drop l.word-index l.table)) l.text
