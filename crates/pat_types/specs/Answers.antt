-- What a pattern is refused for, and how the code's answers stand for what the definition comes to.
use Rattle.std.specs.Prelude.{◌≡◌, List, Result, Ok, Err}
use Rattle.text_core.specs.declared.fault.PassError.{PassError}
use Rattle.text_core.specs.declared.refusal.SourceError.{SourceError}
use Rattle.logic_term.specs.Pattern.{Pat}
use Rattle.logic_term.specs.declared.pattern.TypedPat.{TypedPat}
use Rattle.pat_types.specs.declared.names.BoundName.{BoundName}
pub use Rattle.constructors.specs.Answers.{◌>>=◌, AnswersAs, double_name, unbuilt, unknown_name, mismatch, Refuses, Answers}

-- the code answers a tree, and has these names
abbrev pub Gives : Result TypedPat PassError → Result (Pat × List BoundName) SourceError → List BoundName → Type 0
Gives (Ok p) m xs = m ≡ Ok (p, xs)
Gives (Err f) m xs = Refuses f m

-- the same of what the code answers in another form
abbrev pub GivesAs : {T A : Type 0} → Result T PassError → Result (A × List BoundName) SourceError → (T → A) → List BoundName → Type 0
GivesAs (Ok a) m value xs = m ≡ Ok (value a, xs)
GivesAs (Err f) m value xs = Refuses f m
