-- The keys by which proofs are found: a number and an owner.
use Rattle.std.specs.Prelude.{◌≡◌, ℕ, ◌==◌, ◌&&◌, Bool, List}
use Rattle.std.specs.Borrow.{Bor}
use Rattle.std.specs.HashSet.{HashSet, contains_by}
use Rattle.std.specs.List.{list_any}
use Rattle.std.specs.Str.{bytes_eq}
use Rattle.proof_text.specs.declared.proof.Proof.{Proof}

abbrev pub Key : Type 0
Key = ℕ × Bor (List ℕ)

abbrev pub same_key : Key → Key → Bool
same_key a b = a.0 == b.0 && bytes_eq a.1.now b.1.now

-- the proof is of the key's number and owner
abbrev pub has_key : Key → Proof → Bool
has_key key p = p.number == key.0 && bytes_eq p.owner key.1.now

-- the set has the keys of these proofs, and no others
abbrev pub HasKeysOf : {S : Type 0} → List Proof → HashSet Key S → Type 0
HasKeysOf ps keys = (key : Key) → contains_by (same_key key) keys ≡ list_any (has_key key) ps
