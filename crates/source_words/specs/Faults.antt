-- The errors that faults of the grammar stand for, at the places of words.
use Rattle.std.specs.Prelude.{ℕ, List, map, None, Option, Some, slice_get}
use Rattle.text_core.specs.declared.fault.PassError.{PassError}
use Rattle.text_core.specs.declared.fault.PassError.TheVariants as P
use Rattle.text_core.specs.declared.refusal.Code.{Code}
use Rattle.text_core.specs.declared.refusal.Code.TheVariants.{E03, E04, E20}
use Rattle.text_core.specs.declared.refusal.SourceError.{SourceError}
use Rattle.text_core.specs.declared.span.Span.{Span}
use Rattle.source_grammar.specs.declared.fault.SyntaxFault.{SyntaxFault}
use Rattle.source_grammar.specs.declared.fault.SyntaxFault.TheVariants as fault
use Rattle.source_words.specs.declared.word.Word.{Word}

-- the kinds of words are the tokens of the grammar
abbrev pub kinds_in : List Word → List ℕ
kinds_in words = map (λ word. word.kind) words

abbrev pub span_or : ℕ → Option Word → Span
span_or end (Some word) = word.span
span_or end None = record { start = end; end = end }

-- the span of the word at the position, or the empty one at the end of the bytes
abbrev pub span_at : List Word → ℕ → ℕ → Span
span_at words end position = span_or end (slice_get words position)

abbrev pub error_at : Code → List Word → ℕ → ℕ → SourceError
error_at code words end position = record { code = code; span = span_at words end position; other = None }

-- the error of a fault of the words, behind which the bytes end at that offset
abbrev pub error_of : List Word → ℕ → SyntaxFault → PassError
error_of words end (fault.Stray position) = P.Source (error_at E03 words end position)
error_of words end (fault.LeftOut position) = P.Source (error_at E20 words end position)
error_of words end (fault.TooDeep position) = P.Source (error_at E04 words end position)
error_of words end fault.NoMemory = P.NoMemory
