-- A proof file read from line to line: which lines it has its proofs from, or the number of its first bad line. `ProofFileForm` has the
-- format; no clause of `read_proofs` cites this file.
use Rattle.std.specs.Prelude.{◌≡◌, ℕ, ◌+◌, ◌-◌, List, [], ◌∷◌, ◌++◌, length, take, slice_index, slice_index_or, codes, Bool, true, false, ◌⊎◌, ◌&&◌, ◌||◌, Option, None, Some, is_some, is_none, Result, Ok, Err, ◌==◌, if◌then◌else◌}
use Rattle.std.specs.List.{list_all, list_any, slice_split}
use Rattle.std.proofs.Common.{inl, inr}
use Rattle.std.specs.Option.{option_map}
use Rattle.std.specs.Str.{bytes_eq, is_utf8}
use Rattle.rs_tokens.specs.Tokens.{is_identifier}
use Rattle.proof_text.specs.declared.proof.NumberedStep.{NumberedStep}
use Rattle.proof_text.specs.declared.proof.Proof.{Proof}
use Rattle.logic_term.specs.declared.kinds.Label2.{Label2}
use Rattle.proof_kernel.specs.declared.step.Step.{Step}
use Rattle.proof_kernel.specs.declared.step.Step.TheVariants.{OnGoal, OnHypothesis, OnTwo}
use Rattle.proof_text.specs.ProofTextWords.{◌>>=◌, Each, label_of, two_texts, name_and_names}
use Rattle.proof_text.specs.declared.rule_words.TermLine.{TermLine}
use Rattle.proof_text.specs.declared.rule_words.TermLine.TheVariants.{Rule, Division, Instance}
use Rattle.term_texts.proofs.TermChoice.{term_there}
use Rattle.proof_text.specs.ProofTextRules.{labels_in, rewriting_in, place_in, lists_behind, goal_rule_of, hypothesis_rule_of, pair_rule_of, term_line_of}
use Rattle.proof_text.specs.ProofTextLines.{head_of, rest_of, words_of, case_in, multiples_in, heading_of, terms_behind, SpellsStep}
pub use Rattle.proof_text.specs.ProofFileForm.{SpellsProofs, HasNamesOf, IsFirstBadLine}

-- ---- lines

-- the step of a rule with this word, at one label or at two
abbrev pub at_labels : List ℕ → Label2 → Option Label2 → Option Step
at_labels head label None = option_map (λ rule. OnHypothesis rule label) (hypothesis_rule_of head)
at_labels head label (Some other) = option_map (λ rule. OnTwo rule label other) (pair_rule_of head)

-- the step of a rule with this word and this rest
abbrev pub rule_step_of : List ℕ → Option (List ℕ) → Option Step
rule_step_of head None = option_map OnGoal (goal_rule_of head)
rule_step_of head (Some rest) = labels_in rest >>= (λ labels. at_labels head labels.0 labels.1)

-- some step without a term has such a line, in a table where the texts have names
unfoldable pub is_plain_step : List ℕ → Option (List ℕ) → Bool
is_plain_step head rest =
    if bytes_eq head (codes "intro") then list_all is_identifier (words_of rest)
    else if bytes_eq head (codes "hyp") then is_some (rest >>= label_of)
    else if bytes_eq head (codes "split") then is_none rest
    else if bytes_eq head (codes "lin") then is_some (rest >>= multiples_in)
    else if bytes_eq head (codes "rewrite") then is_some (rest >>= rewriting_in)
    else if bytes_eq head (codes "cond") then is_some (rest >>= place_in)
    else if bytes_eq head (codes "cases") then is_some (rest >>= case_in)
    else if bytes_eq head (codes "induct") then is_some (rest >>= name_and_names)
    else is_some (rule_step_of head rest)

abbrev pub is_left : {A B : Type 0} → A ⊎ B → Bool
is_left (inl a) = true
is_left (inr b) = false

-- the text spells a term, in a table where its texts have names: by the law of `term_texts` that each text does or does not
unfoldable pub is_term : List ℕ → Bool
is_term text = is_left (term_there text)

abbrev pub is_term_rest : Option (List ℕ) → Bool
is_term_rest None = false
is_term_rest (Some rest) = is_term rest

-- the text before lists of names is a term, or the rest is one where no such lists stand
abbrev pub is_rule_rest : Option (List ℕ × List (List ℕ)) → Option (List ℕ) → Bool
is_rule_rest None rest = is_term_rest rest
is_rule_rest (Some parts) rest = is_term parts.0

abbrev pub are_terms : Option (List ℕ × List ℕ) → Bool
are_terms None = false
are_terms (Some texts) = is_term texts.0 && is_term texts.1

abbrev pub are_all_terms : Option (List (List ℕ)) → Bool
are_all_terms None = false
are_all_terms (Some texts) = list_all is_term texts

-- some step has such a line, of this kind of lines with terms or of none
abbrev pub is_step_by : Option TermLine → List ℕ → Option (List ℕ) → Bool
is_step_by None head rest = is_plain_step head rest
is_step_by (Some (Rule rule)) head rest = is_rule_rest (rest >>= lists_behind rule) rest
is_step_by (Some Division) head rest = are_terms (rest >>= two_texts)
is_step_by (Some Instance) head rest = are_all_terms (terms_behind rest)

unfoldable pub is_step : List ℕ → Option (List ℕ) → Bool
is_step head rest = is_step_by (term_line_of head) head rest

-- a line after the first
pub data Line : Type 0 where
  passed : Line
  heading : ℕ → List ℕ → Line
  step : Line
  «end» : Line

abbrev pub line_if : Bool → Line → Option Line
line_if b line = if b then Some line else None

unfoldable pub line_by_head : List ℕ → Option (List ℕ) → Option Line
line_by_head head rest =
    if bytes_eq head (codes "proof") then option_map (λ h. heading h.0 h.1) (rest >>= heading_of)
    else if bytes_eq head (codes "end") then line_if (is_none rest) «end»
    else line_if (is_step head rest) step

-- empty lines and those that begin with `#` are passed over, whatever bytes follow, and any other line is text
abbrev pub is_passed : List ℕ → Bool
is_passed line = length line == 0 || slice_index line 0 == 35

unfoldable pub line_of : List ℕ → Option Line
line_of line =
    if is_passed line then Some passed
    else if is_utf8 line then line_by_head (head_of line) (rest_of line)
    else None

-- ---- proofs as lines

-- a step's line, with its number, and a proof with the lines of its steps
pub record StepText : Type 0 where
  pub line : ℕ
  pub text : List ℕ

pub record ProofText : Type 0 where
  pub number : ℕ
  pub owner : List ℕ
  pub steps : List StepText
  pub «end» : ℕ

-- the step is that of the line, under the table's names
abbrev pub IsStepOf : List (List ℕ) → StepText → NumberedStep → Type 0
IsStepOf table said numbered = (said.line ≡ numbered.line) × SpellsStep table said.text numbered.step

abbrev pub IsProofOf : List (List ℕ) → ProofText → Proof → Type 0
IsProofOf table said proof =
    (said.number ≡ proof.number) × (said.owner ≡ proof.owner) × (said.«end» ≡ proof.«end») × Each (IsStepOf table) said.steps proof.steps

-- ---- from line to line

-- before the first line; between two proofs, after these proofs; or within a proof, after these of its steps
pub data State : Type 0 where
  start : State
  between : List ProofText → State
  within : List ProofText → ℕ → List ℕ → List StepText → State

-- a proof of this obligation is among these
unfoldable pub is_proved : ℕ → List ℕ → List ProofText → Bool
is_proved number owner proofs = list_any (λ p. p.number == number && bytes_eq p.owner owner) proofs

-- the state after a line of this number and text, where such a line may stand there
abbrev pub state_after : State → ℕ → List ℕ → Line → Option State
state_after state n text passed = Some state
state_after (between proofs) n text (heading number owner) = if is_proved number owner proofs then None else Some (within proofs number owner [])
state_after (within proofs number owner steps) n text step = Some (within proofs number owner (steps ++ record { line = n; text = text } ∷ []))
state_after (within proofs number owner steps) n text «end» = Some (between (proofs ++ record { number = number; owner = owner; steps = steps; «end» = n } ∷ []))
state_after _ n text _ = None

-- the same of the text alone: the first line has the format's name and version
abbrev pub next_state : State → ℕ → List ℕ → Option State
next_state start n text = if bytes_eq text (codes "creusot-proofs 1") then Some (between []) else None
next_state state n text = line_of text >>= state_after state n text

abbrev pub or_bad : {A : Type 0} → ℕ → Option A → Result A ℕ
or_bad n None = Err n
or_bad n (Some x) = Ok x

abbrev pub and_then : {A B : Type 0} → Result A ℕ → (A → Result B ℕ) → Result B ℕ
and_then (Ok x) f = f x
and_then (Err n) f = Err n

-- the state after the lines, of which the first has this number; or the number of the first line that may not stand where it does
abbrev pub state_after_all : List (List ℕ) → State → ℕ → Result State ℕ
state_after_all [] state n = Ok state
state_after_all (text ∷ texts) state n = and_then (or_bad n (next_state state n text)) (λ next. state_after_all texts next (n + 1))

-- the proofs, where the file may end there: nothing stands after the last line feed, and no proof is open
abbrev pub proofs_at_end : ℕ → List ℕ → State → Result (List ProofText) ℕ
proofs_at_end n [] (between proofs) = Ok proofs
proofs_at_end n _ _ = Err n

-- the pieces between line feeds: the lines, and what stands after the last line feed
abbrev pub proofs_of_pieces : List (List ℕ) → Result (List ProofText) ℕ
proofs_of_pieces pieces =
    let count = length pieces - 1 in
    and_then (state_after_all (take count pieces) start 1) (proofs_at_end (count + 1) (slice_index_or pieces count []))

-- the proofs that the bytes have, or the number of the first bad line
unfoldable pub proofs_of : List ℕ → Result (List ProofText) ℕ
proofs_of bytes = proofs_of_pieces (slice_split (λ b. b == 10) bytes)
