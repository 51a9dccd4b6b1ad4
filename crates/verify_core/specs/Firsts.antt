-- A table of the first proof of each number and owner.
use Rattle.std.specs.Prelude.{◌≡◌, List}
use Rattle.std.specs.Borrow.{Bor}
use Rattle.std.specs.HashMap.{HashMap, get_by}
use Rattle.std.specs.List.{find}
use Rattle.std.specs.Option.{option_map}
use Rattle.proof_text.specs.ProofKeys.{Key, same_key, has_key}
use Rattle.proof_text.specs.declared.proof.Proof.{Proof}

-- at each key the map has the first of these proofs that is of it, and nothing where there is none
abbrev pub HasFirsts : {S : Type 0} → List Proof → HashMap Key (Bor Proof) S → Type 0
HasFirsts ps firsts = (key : Key) → option_map (λ p. p.now) (get_by (same_key key) firsts) ≡ find (has_key key) ps
