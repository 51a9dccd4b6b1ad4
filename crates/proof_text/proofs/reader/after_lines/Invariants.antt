use Rattle.std.proofs.Common.{◌≡◌, ◌+◌, ◌≤◌, length, map, drop, take}
use Rattle.proof_text.specs.ProofFileForm.{LinesName}
use Rattle.proof_text.specs.ProofTextFile.{State, start, state_after_all}
use Rattle.proof_text.specs.ProofTextReads.{KeepsNames, GivesTexts, IsStageOf, total_length}
use Rattle.proof_text.proofs.StageLemmas.{now}
use Rattle.proof_text.proofs.reader.after_lines.Given as goal

-- the stage is that of a state from which the other lines go on as all do from the start; what the lines so far name has names
abbrev pub invariant-loop-at : goal.invariant-loop-at
invariant-loop-at l = record {
  said : (s : State) × IsStageOf l.names s l.stage × (state_after_all (map now (drop l.at l.lines)) s (l.at + 1) ≡ state_after_all (map now l.lines) start 1);
  table : GivesTexts (LinesName (map now (take l.at l.lines))) l.fn.names l.names;
  kept : KeepsNames l.fn.names l.names;
  room : length l.names + total_length (map now (drop l.at l.lines)) ≤ length l.fn.names + total_length (map now l.lines);
}
