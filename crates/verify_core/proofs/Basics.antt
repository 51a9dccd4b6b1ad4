-- Lemmas that many proofs of this crate use.
use Rattle.std.proofs.Common.{◌≡◌, Some}

pub some_same : {A : Type 0} {a b : A} → Some a ≡ Some b → a ≡ b
some_same e = cc
