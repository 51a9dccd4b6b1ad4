-- What a source is refused for, and how the code's answers stand for what a definition comes to.
use Rattle.std.specs.Prelude.{◌≡◌, List, ◌∷◌, Option, Some, None, Result, Ok, Err}
use Rattle.text_core.specs.declared.fault.PassError.{PassError}
use Rattle.text_core.specs.declared.refusal.Code.TheVariants.{E06, E20}
use Rattle.text_core.specs.declared.refusal.SourceError.{SourceError}
use Rattle.text_core.specs.declared.span.Span.{Span}
pub use Rattle.rs_types.specs.Meant.{◌>>=◌, unknown_name, mismatch, Refuses, Answers}

-- a form that is not built
abbrev pub unbuilt : Span → SourceError
unbuilt s = record { code = E20; span = s; other = None }

-- a name that is there already
abbrev pub double_name : Span → SourceError
double_name s = record { code = E06; span = s; other = None }

-- the first of two
abbrev pub or_else : Option SourceError → Option SourceError → Option SourceError
or_else (Some e) m = Some e
or_else None m = m

-- what is made, if something is, before the others
abbrev pub with_some : {B : Type 0} → Option B → List B → List B
with_some None ys = ys
with_some (Some y) ys = y ∷ ys

-- value: what the definition speaks of, from what the code answers
abbrev pub AnswersAs : {T A : Type 0} → Result T PassError → Result A SourceError → (T → A) → Type 0
AnswersAs (Ok a) m value = m ≡ Ok (value a)
AnswersAs (Err f) m value = Refuses f m
