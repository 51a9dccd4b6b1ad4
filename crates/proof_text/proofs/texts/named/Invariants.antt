use Rattle.std.proofs.Common.{◌≡◌, ◌+◌, ◌≤◌, length, map, Some, take}
use Rattle.text_core.specs.Names.{text_of}
use Rattle.name_tables.specs.NameTables.{with_names}
use Rattle.proof_text.specs.ProofTextReads.{KeepsNames}
use Rattle.proof_text.proofs.StageLemmas.{now}
use Rattle.proof_text.proofs.texts.named.Given as goal

-- the texts so far have names
abbrev pub invariant-loop-text : goal.invariant-loop-text
invariant-loop-text l = record {
  named : map (text_of l.names) l.given.items ≡ map Some (map now (take l.text-index l.texts));
  table : l.names ≡ with_names l.fn.names (map now (take l.text-index l.texts));
  kept : KeepsNames l.fn.names l.names;
  grown : length l.names ≤ length l.fn.names + l.text-index;
}
