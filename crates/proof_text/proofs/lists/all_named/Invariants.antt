use Rattle.std.proofs.Common.{◌≡◌, ◌+◌, ◌≤◌, length, map, Some, take, drop}
use Rattle.text_core.specs.Names.{text_of}
use Rattle.name_tables.specs.NameTables.{with_names}
use Rattle.proof_text.specs.ProofTextWords.{joined}
use Rattle.proof_text.specs.ProofTextReads.{KeepsNames}
use Rattle.proof_text.proofs.ListLemmas.{texts_now}
use Rattle.proof_text.proofs.lists.all_named.Given as goal

-- the lists so far have names
abbrev pub invariant-loop-texts : goal.invariant-loop-texts
invariant-loop-texts l = record {
  named : map (map (text_of l.names)) l.given.items ≡ map (map Some) (map texts_now (take l.texts-index l.lists));
  table : l.names ≡ with_names l.fn.names (joined (map texts_now (take l.texts-index l.lists)));
  kept : KeepsNames l.fn.names l.names;
  room : length l.names + length (joined (map texts_now (drop l.texts-index l.lists))) ≤ length l.fn.names + length (joined (map texts_now l.lists));
}
