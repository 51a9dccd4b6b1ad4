-- What the definition by `clap` comes to, in the words' own terms.
use Rattle.std.specs.Prelude.{◌≡◌, ◌==◌, ℕ, Bool, true, false, List, [], ◌∷◌, codes}
use Rattle.std.specs.Prelude.{Option, None, Some, option_and_then}
use Rattle.call_words.specs.Asked.{Asked, asked_of, asked_with, is_word, verb_of}
use Rattle.call_words.specs.declared.request.Verb.{Verb}
use Rattle.call_words.specs.declared.request.Verb.TheVariants as verb

-- a verb on the source `s`, and `verify` on it with the proofs `p`
abbrev pub on_s : Verb → Option Asked
on_s v = Some (record { verb = v; source = codes "s"; proofs = None })

abbrev pub on_s_and_p : Option Asked
on_s_and_p = Some (record { verb = verb.Verify; source = codes "s"; proofs = Some (codes "p") })

abbrev pub verify_s : List (List ℕ) → List (List ℕ)
verify_s more = codes "verify" ∷ codes "s" ∷ more

pub record ReadsTheTable : Type 0 where
  pub verifies : asked_of (verify_s []) ≡ on_s verb.Verify
  pub proofs_last : asked_of (verify_s (codes "--proofs" ∷ codes "p" ∷ [])) ≡ on_s_and_p
  pub proofs_between : asked_of (codes "verify" ∷ codes "--proofs" ∷ codes "p" ∷ codes "s" ∷ [])
      ≡ on_s_and_p
  pub proofs_first : asked_of (codes "--proofs=p" ∷ codes "verify" ∷ codes "s" ∷ []) ≡ on_s_and_p
  pub lists : asked_of (codes "list" ∷ codes "s" ∷ []) ≡ on_s verb.List
  pub list_with_proofs : asked_of (codes "list" ∷ codes "s" ∷ codes "--proofs=p" ∷ []) ≡ None
  pub no_words : asked_of [] ≡ None
  pub no_source : asked_of (codes "verify" ∷ []) ≡ None
  pub no_value : asked_of (verify_s (codes "--proofs" ∷ [])) ≡ None
  pub other_verb : asked_of (codes "prove" ∷ codes "s" ∷ []) ≡ None
  pub third_word : asked_of (verify_s (codes "t" ∷ [])) ≡ None
  pub proofs_twice : asked_of (verify_s (codes "--proofs=p" ∷ codes "--proofs=q" ∷ [])) ≡ None
  pub script : asked_of (verify_s (codes "--script=x" ∷ [])) ≡ None
  pub out : asked_of (verify_s (codes "--out=x" ∷ [])) ≡ None
  pub fn_name : asked_of (verify_s (codes "--fn=x" ∷ [])) ≡ None
  pub args : asked_of (verify_s (codes "--args=x" ∷ [])) ≡ None
  pub steps : asked_of (verify_s (codes "--steps=5" ∷ [])) ≡ None
  pub json : asked_of (verify_s (codes "--json" ∷ [])) ≡ None
  pub unknown : asked_of (verify_s (codes "--wrong" ∷ [])) ≡ None
  pub help : asked_of (codes "--help" ∷ []) ≡ None

-- the first byte is a hyphen (45)
abbrev pub begins_with_hyphen : List ℕ → Bool
begins_with_hyphen [] = false
begins_with_hyphen (x ∷ xs) = x == 45

-- a word that is no option, and is not too long
pub record IsPlain (word : List ℕ) : Type 0 where
  pub short : is_word word ≡ true
  pub front : begins_with_hyphen word ≡ false

-- two plain words are a verb and a source, and one after `--proofs` is the file of the proofs
pub record ReadsPlainWords : Type 0 where
  pub two : (word source : List ℕ) → IsPlain word → IsPlain source
      → asked_of (word ∷ source ∷ []) ≡ option_and_then (λ v. asked_with v source None) (verb_of word)
  pub with_proofs : (word source proofs : List ℕ) → IsPlain word → IsPlain source → IsPlain proofs
      → asked_of (word ∷ source ∷ codes "--proofs" ∷ proofs ∷ [])
      ≡ option_and_then (λ v. asked_with v source (Some proofs)) (verb_of word)
