-- What an accepted chain of parts has come through.
use Rattle.std.proofs.Common.{◌≡◌, Bool, true, false, refl, Result, Ok, Err}
use Rattle.std.specs.Prelude.{if◌then◌else◌}
use Rattle.text_core.specs.declared.refusal.SourceError.{SourceError}
use Rattle.logic_elab.specs.Answers.{◌>>=◌}

-- the value of a part, and what comes after it
pub bound : {A B : Type 0} (m : Result A SourceError) (k : A → Result B SourceError) (b : B) → (m >>= k) ≡ Ok b → (a : A) × (m ≡ Ok a) × (k a ≡ Ok b)
bound (Ok a) k b p = (a, refl, p)
bound (Err e) k b p = absurd (cc)

-- the test of a choice whose other side refuses
pub held : {A : Type 0} (b : Bool) (m : Result A SourceError) (e : SourceError) (x : A) → (if b then m else Err e) ≡ Ok x → (b ≡ true) × (m ≡ Ok x)
held true m e x p = (refl, p)
held false m e x p = absurd (cc)

-- where the test refuses, none is
pub unless : {A : Type 0} (b : Bool) (m : Result A SourceError) (e : SourceError) (x : A) → (if b then Err e else m) ≡ Ok x → m ≡ Ok x
unless true m e x p = absurd (cc)
unless false m e x p = p

pub refused : {A : Type 0} (b : Bool) (e f : SourceError) (x : A) → (if b then Err e else Err f) ≡ Ok x → ⊥
refused true e f x p = absurd (cc)
refused false e f x p = absurd (cc)

-- a value that is accepted
abbrev pub yes : {A : Type 0} → A → Result A SourceError
yes a = Ok a

pub same_ok : {A : Type 0} (x y : A) → yes x ≡ Ok y → x ≡ y
same_ok x y p = cc
