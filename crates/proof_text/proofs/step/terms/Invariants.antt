use Rattle.std.proofs.Common.{◌+◌, ◌≤◌, length, map, drop, take}
use Rattle.term_texts.specs.TermTexts.{SpellsWholeTerm}
use Rattle.proof_text.specs.ProofTextWords.{Each}
use Rattle.proof_text.specs.ProofTextLines.{NamesInEach}
use Rattle.proof_text.specs.ProofTextReads.{KeepsNames, GivesTexts, total_length}
use Rattle.proof_text.proofs.StageLemmas.{now}
use Rattle.proof_text.proofs.step.terms.Given as goal

-- the terms so far are spelled, and what they name has names
abbrev pub invariant-loop-text : goal.invariant-loop-text
invariant-loop-text l = record {
  said : Each (SpellsWholeTerm l.names) (map now (take l.text-index l.texts)) l.terms.items;
  table : GivesTexts (NamesInEach (map now (take l.text-index l.texts))) l.fn.names l.names;
  kept : KeepsNames l.fn.names l.names;
  room : length l.names + total_length (map now (drop l.text-index l.texts)) ≤ length l.fn.names + total_length (map now l.texts);
}
