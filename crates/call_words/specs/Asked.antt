-- What the words of a call ask for, by what `clap` says of them.
use Rattle.std.specs.Prelude.{◌&&◌, ℕ, Bool, true, false, List, [], ◌∷◌, codes, find, length, nat_le}
use Rattle.std.specs.Prelude.{Option, None, Some, is_some, not, option_and_then, if◌then◌else◌}
use Rattle.std.specs.List.{list_all, list_any}
use Rattle.std.specs.Option.{option_copied}
use Rattle.std.specs.Str.{bytes_eq}
use Rattle.clap.specs.Words.{Kinds, Row, fault_of, first_of, matches_of}
use Rattle.clap.specs.declared.parser.matches.ValueSource.{ValueSource}
use Rattle.clap.specs.declared.parser.matches.ValueSource.TheVariants.{CommandLine, DefaultValue}
use Rattle.call_words.specs.Grammar.{command}
use Rattle.call_words.specs.declared.request.Request.{Request}
use Rattle.call_words.specs.declared.request.Verb.{Verb}
use Rattle.call_words.specs.declared.request.Verb.TheVariants as verb

-- what is to be done, with which source, and the name of the file of its proofs
pub record Asked : Type 0 where
  pub verb : Verb
  pub source : List ℕ
  pub proofs : Option (List ℕ)

abbrev pub asked : Request → Asked
asked r = record { verb = r.verb; source = r.source.now; proofs = option_copied r.proofs }

-- of no more bytes than a word may have
abbrev pub is_word : List ℕ → Bool
is_word word = nat_le (length word) 1048576

abbrev pub verb_of : List ℕ → Option Verb
verb_of word =
    if bytes_eq word (codes "verify") then Some verb.Verify
    else if bytes_eq word (codes "list") then Some verb.List
    else None

abbrev pub takes_proofs : Verb → Bool
takes_proofs verb.Verify = true
takes_proofs verb.List = false

-- the verb on a source with these proofs, where it takes proofs if there are any
abbrev pub asked_with : Verb → List ℕ → Option (List ℕ) → Option Asked
asked_with v source proofs =
    if is_some proofs && not (takes_proofs v) then None
    else Some (record { verb = v; source = source; proofs = proofs })

-- the same, of a verb and a source that are texts, or are not there
abbrev pub asked_by : Option (List ℕ) → Option (List ℕ) → Option (List ℕ) → Option Asked
asked_by (Some word) (Some source) proofs =
    option_and_then (λ v. asked_with v source proofs) (verb_of word)
asked_by (Some word) None proofs = None
asked_by None source proofs = None

abbrev pub is_from_words : Option ValueSource → Bool
is_from_words (Some CommandLine) = true
is_from_words (Some DefaultValue) = false
is_from_words None = false

-- the words give the argument of this id
unfoldable pub is_given : List Row → List ℕ → Bool
is_given rows id = is_from_words (option_and_then (λ r. r.source) (find (λ r. bytes_eq r.id id) rows))

-- the words give an option that no verb takes yet
abbrev pub has_option_to_come : List Row → Bool
has_option_to_come rows = list_any (is_given rows)
    (codes "script" ∷ codes "out" ∷ codes "fn" ∷ codes "args" ∷ codes "steps" ∷ codes "json" ∷ [])

-- what is asked for by what was found for each argument
unfoldable pub asked_in : List Row → Option Asked
asked_in rows =
    if has_option_to_come rows then None
    else asked_by (first_of (codes "verb") rows) (first_of (codes "source") rows) (first_of (codes "proofs") rows)

abbrev pub is_clean : Kinds → Bool
is_clean [] = true
is_clean (k ∷ kinds) = false

-- What the words ask for: no word is too long, `clap` finds no fault in them, and the verb takes
-- each option that they give.
unfoldable pub asked_of : List (List ℕ) → Option Asked
asked_of words =
    if list_all is_word words && is_clean (fault_of command words)
    then asked_in (matches_of command words)
    else None
