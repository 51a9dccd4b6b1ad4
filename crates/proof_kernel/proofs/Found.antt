-- What an answer that may be none says.
use Rattle.std.proofs.Common.{◌≡◌, subst}
use Rattle.std.specs.Prelude.{Option, Some, None, SomeIff, MatchOption, Result, Ok, Err, OnOk}

pub none_says : {A : Type 0} (o : Option A) (P : Type 0) (v : A) → o ≡ None → SomeIff o P v → P → ⊥
none_says None P v e h = h
none_says (Some x) P v e h = absurd (cc)

pub some_says : {A : Type 0} (o : Option A) (P : Type 0) (v x : A) → o ≡ Some x → SomeIff o P v → P × (x ≡ v)
some_says None P v x e h = absurd (cc)
some_says (Some y) P v x e h = let same : y ≡ v = h.1 in (h.0, cc)

pub found_says : {A : Type 0} (o : Option A) (P : Type 0) (Q : A → Type 0) (x : A) → o ≡ Some x → MatchOption o P Q → Q x
found_says None P Q x e h = absurd (cc)
found_says (Some y) P Q x e h = let same : y ≡ x = cc in subst Q same h

pub on_ok : {A E : Type 0} (r : Result A E) (P Q : Type 0) → (P → Q) → OnOk r P → OnOk r Q
on_ok (Ok x) P Q f h = f h
on_ok (Err e) P Q f h = h
