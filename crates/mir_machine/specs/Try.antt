-- What a part of a step comes to: a value, a panic, or no row of the machine.
use Rattle.std.specs.Prelude.{Option, Some, None}
use Rattle.text_core.specs.declared.refusal.Cause.{Cause}
use Rattle.text_core.specs.declared.span.Span.{Span}

pub data Try (A : Type 0) : Type 0 where
  Yields : A → Try A
  Panics : Cause → Span → Try A
  Sticks : Try A

infixl 10 ◌>>=◌
abbrev pub ◌>>=◌ : {A B : Type 0} → Try A → (A → Try B) → Try B
Yields a >>= k = k a
Panics cause span >>= k = Panics cause span
Sticks >>= k = Sticks

-- the value, which has to be there
abbrev pub need : {A : Type 0} → Option A → Try A
need (Some a) = Yields a
need None = Sticks
