use Rattle.std.proofs.Common.{◌≡◌, map, drop}
use denote.Text.{Utf8}
use denote.Shadow.{shadow}
use Rattle.proof_text.specs.ProofTextWords.{texts_from}
use Rattle.proof_text.proofs.StageLemmas.{now}
use Rattle.proof_text.proofs.StepLemmas.{with_front}
use Rattle.proof_text.proofs.step.texts_of.Given as goal

-- what is cut off so far, and what the other pieces make of the last
abbrev pub invariant-loop-piece : goal.invariant-loop-piece
invariant-loop-piece l =
    shadow (Utf8 l.last) × (with_front (map now l.texts.items) (texts_from l.last (map now (drop l.piece-index l.others))) ≡ texts_from l.initial.last (map now l.others))
