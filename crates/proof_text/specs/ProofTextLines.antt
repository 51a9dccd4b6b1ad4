-- What the lines of a proof file spell.
--
-- A line is a head, its first word, and a rest: the bytes after the space behind the head, where one stands there. The head says of which
-- kind the line is, and each kind says what its rest is. A rest is split into words only where its kind wants words.
use Rattle.std.specs.Prelude.{◌≡◌, ℕ, List, [], ◌∷◌, ◌++◌, map, codes, true, Option, None, Some, if◌then◌else◌, ◌==◌}
use Rattle.std.specs.List.{list_all, slice_split, before_first}
use Rattle.std.specs.Option.{option_map}
use Rattle.std.specs.Str.{bytes_eq, is_utf8}
use Rattle.logic_term.specs.declared.kinds.Label2.{Label2}
use Rattle.proof_kernel.specs.declared.step.Multiple.{Multiple}
use Rattle.proof_kernel.specs.declared.step.Step.{Step}
use Rattle.proof_kernel.specs.declared.step.Step.TheVariants.{Intro, Hyp, Split, Lin, OnGoal, OnHypothesis, OnTwo, Rewrite, Decide, OnTerm, Divide, Instantiate, Unpack, ByVariants, Induct}
use Rattle.rs_tokens.specs.Tokens.{is_identifier}
use Rattle.text_core.specs.declared.name.Name.{Name}
use Rattle.proof_text.specs.declared.rule_words.TermLine.{TermLine}
use Rattle.proof_text.specs.declared.rule_words.TermLine.TheVariants.{Rule, Division, Instance}
use Rattle.proof_text.specs.ProofTextWords.{◌>>=◌, number_of, label_of, Each, multiple_of, cut, two_texts, label_and_texts, text_and_names, name_and_names, lists_of, joined}
use Rattle.proof_text.specs.ProofTextRules.{goal_word, hypothesis_word, pair_word, term_word, labels_in, rewriting_in, place_in, lists_behind, term_line_of}
use Rattle.term_texts.specs.TermTexts.{SpellsWholeTerm, NamesOfTerm}
pub use Rattle.term_texts.specs.TermTexts.{text_at}

-- ---- a line

-- the first word
abbrev pub head_of : List ℕ → List ℕ
head_of line = before_first (λ b. b == 32) line

-- what stands after the space behind it
abbrev pub rest_of : List ℕ → Option (List ℕ)
rest_of line = option_map (λ (parts : List ℕ × List ℕ). parts.1) (cut 32 line)

-- a rest as words, with single spaces between
abbrev pub words_of : Option (List ℕ) → List (List ℕ)
words_of None = []
words_of (Some rest) = slice_split (λ b. b == 32) rest

-- ---- the parts of steps

-- owners and names are identifiers of sources
abbrev pub identifier_of : List ℕ → Option (List ℕ)
identifier_of word = if is_identifier word then Some word else None

-- what stands behind `cases`: a label, alone or before a name
abbrev pub case_by : List ℕ → Option (List ℕ × List ℕ) → Option (Label2 × Option (List ℕ))
case_by rest None = option_map (λ label. (label, None)) (label_of rest)
case_by rest (Some parts) = do
  label ← label_of parts.0
  name ← identifier_of parts.1
  Some (label, Some name)

abbrev pub case_in : List ℕ → Option (Label2 × Option (List ℕ))
case_in rest = case_by rest (cut 32 rest)

-- what each of the words spells
abbrev pub multiples_of : List (List ℕ) → Option (List Multiple)
multiples_of [] = Some []
multiples_of (word ∷ words) = do
  multiple ← multiple_of word
  multiples ← multiples_of words
  Some (multiple ∷ multiples)

-- one multiple or more, with single spaces between
abbrev pub multiples_in : List ℕ → Option (List Multiple)
multiples_in rest = multiples_of (slice_split (λ b. b == 32) rest)

-- under the table's names the lists of names are those between the bars
abbrev pub NamesLists : List (List ℕ) → List (List ℕ) → List (List Name) → Type 0
NamesLists table words lists = map (map (text_at table)) lists ≡ map (map Some) (lists_of words)

-- ---- steps

-- the head of a step's line
abbrev pub word_of : Step → List ℕ
word_of (Intro names) = codes "intro"
word_of (Hyp label) = codes "hyp"
word_of Split = codes "split"
word_of (Lin multiples) = codes "lin"
word_of (OnGoal rule) = goal_word rule
word_of (OnHypothesis rule label) = hypothesis_word rule
word_of (OnTwo rule label other) = pair_word rule
word_of (Rewrite rewriting) = codes "rewrite"
word_of (Decide label target) = codes "cond"
word_of (OnTerm rule t) = term_word rule
word_of (Divide t u) = codes "div"
word_of (Instantiate label ts) = codes "inst"
word_of (Unpack label name) = codes "cases"
word_of (ByVariants t names) = codes "on"
word_of (Induct x names) = codes "induct"

-- the rest of its line, under the table's names
abbrev pub SpellsRest : List (List ℕ) → Option (List ℕ) → Step → Type 0
SpellsRest table rest (Intro names) = (list_all is_identifier (words_of rest) ≡ true) × (map (text_at table) names ≡ map Some (words_of rest))
SpellsRest table rest (Hyp label) = (rest >>= label_of) ≡ Some label
SpellsRest table rest Split = rest ≡ None
SpellsRest table rest (Lin multiples) = (rest >>= multiples_in) ≡ Some multiples
SpellsRest table rest (OnGoal rule) = rest ≡ None
SpellsRest table rest (OnHypothesis rule label) = (rest >>= labels_in) ≡ Some (label, None)
SpellsRest table rest (OnTwo rule label other) = (rest >>= labels_in) ≡ Some (label, Some other)
SpellsRest table rest (Rewrite rewriting) = (rest >>= rewriting_in) ≡ Some rewriting
SpellsRest table rest (Decide label target) = (rest >>= place_in) ≡ Some (label, target)
SpellsRest table rest (OnTerm rule t) = (text : List ℕ) × (rest ≡ Some text) × SpellsWholeTerm table text t × (lists_behind rule text ≡ None)
SpellsRest table rest (Divide t u) = (texts : List ℕ × List ℕ) × ((rest >>= two_texts) ≡ Some texts) × SpellsWholeTerm table texts.0 t × SpellsWholeTerm table texts.1 u
SpellsRest table rest (Instantiate label ts) = (texts : List (List ℕ)) × ((rest >>= label_and_texts) ≡ Some (label, texts)) × Each (SpellsWholeTerm table) texts ts
SpellsRest table rest (Unpack label name) = (text : List ℕ) × ((rest >>= case_in) ≡ Some (label, Some text)) × (text_at table name ≡ Some text)
SpellsRest table rest (ByVariants t names) = (parts : List ℕ × List (List ℕ)) × ((rest >>= text_and_names) ≡ Some parts) × SpellsWholeTerm table parts.0 t × NamesLists table parts.1 names
SpellsRest table rest (Induct x names) = (parts : List ℕ × List (List ℕ)) × ((rest >>= name_and_names) ≡ Some parts) × (text_at table x ≡ Some parts.0) × NamesLists table parts.1 names

-- the head and the rest spell the step
abbrev pub SpellsParts : List (List ℕ) → List ℕ → Option (List ℕ) → Step → Type 0
SpellsParts table head rest step = (head ≡ word_of step) × SpellsRest table rest step

-- the line spells the step: it is text of such a head and rest
abbrev pub SpellsStep : List (List ℕ) → List ℕ → Step → Type 0
SpellsStep table line step = (is_utf8 line ≡ true) × SpellsParts table (head_of line) (rest_of line) step

abbrev pub name_listed : Option (List ℕ) → List (List ℕ)
name_listed None = []
name_listed (Some name) = name ∷ []

-- the name behind the label of a `cases`, where there is one
abbrev pub name_in_case : Option (Label2 × Option (List ℕ)) → List (List ℕ)
name_in_case None = []
name_in_case (Some found) = name_listed found.1

-- the name of an `induct`, and those of its lists
abbrev pub names_in_induct : Option (List ℕ × List (List ℕ)) → List (List ℕ)
names_in_induct None = []
names_in_induct (Some parts) = parts.0 ∷ joined (lists_of parts.1)

-- the texts that a line of no term names, in order: those of an `intro`, that of a `cases`, and those of an `induct`
unfoldable pub texts_by : List ℕ → Option (List ℕ) → List (List ℕ)
texts_by head rest =
    if bytes_eq head (codes "intro") then words_of rest
    else if bytes_eq head (codes "cases") then name_in_case (rest >>= case_in)
    else if bytes_eq head (codes "induct") then names_in_induct (rest >>= name_and_names)
    else []

-- the texts that a line of a term names: the identifiers and lifetimes of its rest
abbrev pub NamesInTerm : Option (List ℕ) → List (List ℕ) → Type 0
NamesInTerm None texts = texts ≡ []
NamesInTerm (Some rest) texts = NamesOfTerm rest texts

-- the same, or those of the term before lists of names, and then those of the lists
abbrev pub NamesInRule : Option (List ℕ × List (List ℕ)) → Option (List ℕ) → List (List ℕ) → Type 0
NamesInRule None rest texts = NamesInTerm rest texts
NamesInRule (Some parts) rest texts = (own : List (List ℕ)) × NamesOfTerm parts.0 own × (texts ≡ own ++ joined (lists_of parts.1))

-- the terms behind a label
abbrev pub terms_behind : Option (List ℕ) → Option (List (List ℕ))
terms_behind rest = option_map (λ (parts : Label2 × List (List ℕ)). parts.1) (rest >>= label_and_texts)

-- those of each term, in order
abbrev pub NamesInEach : List (List ℕ) → List (List ℕ) → Type 0
NamesInEach [] texts = texts ≡ []
NamesInEach (term ∷ terms) texts = (own others : List (List ℕ)) × NamesOfTerm term own × NamesInEach terms others × (texts ≡ own ++ others)

abbrev pub NamesInTerms : Option (List (List ℕ)) → List (List ℕ) → Type 0
NamesInTerms None texts = texts ≡ []
NamesInTerms (Some terms) texts = NamesInEach terms texts

-- those of the first term, and then those of the second
abbrev pub NamesInTwo : Option (List ℕ × List ℕ) → List (List ℕ) → Type 0
NamesInTwo None texts = texts ≡ []
NamesInTwo (Some terms) texts = (first : List (List ℕ)) × (second : List (List ℕ)) × NamesOfTerm terms.0 first × NamesOfTerm terms.1 second × (texts ≡ first ++ second)

-- the same of a line of this kind, or of one without terms
abbrev pub NamesByLine : Option TermLine → List ℕ → Option (List ℕ) → List (List ℕ) → Type 0
NamesByLine None head rest texts = texts ≡ texts_by head rest
NamesByLine (Some (Rule rule)) head rest texts = NamesInRule (rest >>= lists_behind rule) rest texts
NamesByLine (Some Division) head rest texts = NamesInTwo (rest >>= two_texts) texts
NamesByLine (Some Instance) head rest texts = NamesInTerms (terms_behind rest) texts

unfoldable pub NamesOfParts : List ℕ → Option (List ℕ) → List (List ℕ) → Type 0
NamesOfParts head rest texts = NamesByLine (term_line_of head) head rest texts

-- the line names these texts, in order
abbrev pub NamesTexts : List ℕ → List (List ℕ) → Type 0
NamesTexts line texts = NamesOfParts (head_of line) (rest_of line) texts

-- ---- the first and the last line of a proof

-- `NUMBER OWNER`
abbrev pub heading_of : List ℕ → Option (ℕ × List ℕ)
heading_of rest = do
  parts ← cut 32 rest
  number ← number_of parts.0
  owner ← identifier_of parts.1
  Some (number, owner)

-- `proof NUMBER OWNER`
abbrev pub IsHeading : List ℕ → ℕ → List ℕ → Type 0
IsHeading line number owner = (is_utf8 line ≡ true) × (head_of line ≡ codes "proof") × ((rest_of line >>= heading_of) ≡ Some (number, owner))

abbrev pub IsEnd : List ℕ → Type 0
IsEnd line = line ≡ codes "end"
