use Rattle.std.proofs.Common.{◌≡◌, map, drop}
use Rattle.proof_text.specs.ProofTextLines.{multiples_of}
use Rattle.proof_text.proofs.StageLemmas.{now}
use Rattle.proof_text.proofs.StepLemmas.{with_front}
use Rattle.proof_text.proofs.step.multiples.Given as goal

-- what is read so far, and what the other words spell
abbrev pub invariant-loop-word : goal.invariant-loop-word
invariant-loop-word l = with_front l.read.items (multiples_of (map now (drop l.word-index l.words))) ≡ multiples_of (map now l.words)
