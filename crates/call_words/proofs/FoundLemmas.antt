-- What the methods of the matches give, as what the rows hold.
use Rattle.std.proofs.Common.{◌≡◌, ◌∙◌, ap, refl, sym, true, false, Option, Some, None, ℕ, List, codes}
use Rattle.std.specs.Prelude.{find, option_and_then, option_map}
use Rattle.std.specs.Str.{bytes_eq}
use Rattle.clap.specs.Words.{Row, first_value, matched_of, rows_of}
use Rattle.clap.specs.Walk.{row_of}
use Rattle.clap.specs.Facts.{Entry}
use Rattle.clap.specs.declared.parser.matches.Found.{Found}
use Rattle.clap.specs.declared.parser.matches.MatchedArg.{MatchedArg}
use Rattle.clap.specs.declared.parser.matches.ValueSource.{ValueSource}
use Rattle.clap.proofs.WalkLemmas.{find_row, first_value-rows}
use Rattle.call_words.specs.Asked.{asked_by, asked_in, has_option_to_come, is_from_words, is_given}

-- `value_source`
source-rows : (f : Found) (id : List ℕ) → option_and_then (λ a. a.source) (matched_of f id)
    ≡ option_and_then (λ r. r.source) (find (λ r. bytes_eq r.id id) (rows_of f))
source-rows f id = go (find (λ e. bytes_eq e.0.now id) f.entries.items)
    ∙ ap (option_and_then (λ (r : Row). r.source)) (sym (find_row f.entries.items id))
  where
    go : (o : Option Entry) → option_and_then (λ (a : MatchedArg). a.source) (option_map (λ e. e.1) o)
        ≡ option_and_then (λ (r : Row). r.source) (option_map row_of o)
    go None = refl
    go (Some e) = refl

-- where the source is from the words, the argument is given
pub is_from_words-source : (f : Found) (id : List ℕ) (o : Option ValueSource) → o ≡ option_and_then (λ a. a.source) (matched_of f id)
    → is_from_words o ≡ is_given (rows_of f) id
unfolding is_given
is_from_words-source f id o e = ap is_from_words (e ∙ source-rows f id)

-- an option to come asks for nothing
pub asked_in-to_come : (f : Found) → has_option_to_come (rows_of f) ≡ true → None ≡ asked_in (rows_of f)
unfolding asked_in
asked_in-to_come f h = rw h refl

-- with none, the values found are what is asked for
pub asked_in-found : (f : Found) → has_option_to_come (rows_of f) ≡ false → (verb source proofs : Option (List ℕ))
    → verb ≡ first_value f (codes "verb") → source ≡ first_value f (codes "source") → proofs ≡ first_value f (codes "proofs")
    → asked_by verb source proofs ≡ asked_in (rows_of f)
unfolding asked_in
asked_in-found f none verb source proofs v s p = rw none (same _ _ _ (v ∙ first_value-rows f (codes "verb"))
    (s ∙ first_value-rows f (codes "source")) (p ∙ first_value-rows f (codes "proofs")))
  where
    same : (a b c : Option (List ℕ)) → verb ≡ a → source ≡ b → proofs ≡ c → asked_by verb source proofs ≡ asked_by a b c
    same a b c d e g = rw (d, e, g) refl
