-- What a source is refused for, how parts come one after another, and how the code's answers stand for what a definition comes to.
use Rattle.std.specs.Prelude.{List, [], ◌∷◌, Option, Some, None, Result, Ok, Err}
use Rattle.text_core.specs.declared.refusal.Code.TheVariants.{E11, E22}
use Rattle.text_core.specs.declared.refusal.SourceError.{SourceError}
use Rattle.text_core.specs.declared.span.Span.{Span}
pub use Rattle.constructors.specs.Answers.{AnswersAs, double_name, or_else, with_some}
pub use Rattle.logic_elab.specs.Answers.{◌>>=◌, unknown_name, mismatch, unbuilt, wanted, pair, Refuses, Answers}

-- ---- refusals

abbrev pub not_mutable : Span → SourceError
not_mutable s = record { code = E22; span = s; other = None }

abbrev pub uncovered_match : Span → SourceError
uncovered_match s = record { code = E11; span = s; other = None }

-- ---- one part after another

-- such a part may not stand
abbrev pub absent : Option Span → Result (Unit {0}) SourceError
absent None = Ok tt
absent (Some s) = Err (unbuilt s)

-- each of a list
abbrev pub each : {A B : Type 0} → (A → Result B SourceError) → List A → Result (List B) SourceError
each f [] = Ok []
each f (x ∷ xs) = do
  y ← f x
  ys ← each f xs
  Ok (y ∷ ys)

-- each of a list that makes something
abbrev pub gather : {A B : Type 0} → (A → Result (Option B) SourceError) → List A → Result (List B) SourceError
gather f [] = Ok []
gather f (x ∷ xs) = do
  y ← f x
  ys ← gather f xs
  Ok (with_some y ys)
