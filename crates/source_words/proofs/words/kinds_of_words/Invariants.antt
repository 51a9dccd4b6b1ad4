use Rattle.std.proofs.Common.{◌≡◌, map, take}
use Rattle.source_words.proofs.words.kinds_of_words.Given as goal

abbrev pub invariant-loop-word : goal.invariant-loop-word
invariant-loop-word l = l.kinds.items ≡ map (λ word. word.kind) (take l.word-index l.words)
