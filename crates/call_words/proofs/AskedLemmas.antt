-- What is asked for, by what a parse of the words gives.
use Rattle.std.proofs.Common.{◌≡◌, ap, refl, Bool, true, false, None, ℕ, List, [], ◌∷◌, ◌&&◌}
use Rattle.std.specs.Prelude.{if◌then◌else◌}
use Rattle.std.specs.List.{list_all}
use Rattle.clap.specs.Words.{IsAmong, Kinds, Row, fault_of, is_simple, is_simple_and_free, matches_of}
use Rattle.clap.specs.declared.error.kind.ErrorKind.{ErrorKind}
use Rattle.clap.proofs.OnLiterals.{clap_on_literals}
use Rattle.call_words.specs.Asked.{asked_in, asked_of, is_clean, is_word}
use Rattle.call_words.specs.Grammar.{command}

pub command_is_simple : is_simple command ≡ true
unfolding command clap_on_literals
command_is_simple = refl

pub command_is_simple_and_free : is_simple_and_free command ≡ true
unfolding command clap_on_literals
command_is_simple_and_free = refl

-- a word that is too long asks for nothing
pub asked_of-too_long : (words : List (List ℕ)) → list_all is_word words ≡ false → None ≡ asked_of words
unfolding asked_of
asked_of-too_long words h = rw h refl

-- words with no fault ask for what is found
pub asked_of-taken : (words : List (List ℕ)) → list_all is_word words ≡ true → fault_of command words ≡ []
    → (rows : List Row) → rows ≡ matches_of command words → asked_in rows ≡ asked_of words
unfolding asked_of
asked_of-taken words h none rows same = rw (h, none) (ap asked_in same)

-- words with a fault ask for nothing
pub asked_of-refused : (words : List (List ℕ)) (k : ErrorKind) → IsAmong k (fault_of command words) → None ≡ asked_of words
unfolding asked_of
asked_of-refused words k h = go (list_all is_word words) (fault_of command words) h
  where
    go : (b : Bool) (kinds : Kinds) → IsAmong k kinds → None ≡ (if b && is_clean kinds then asked_in (matches_of command words) else None)
    go b [] h = absurd h
    go true (x ∷ xs) h = refl
    go false (x ∷ xs) h = refl
