-- The words of the rules, and what stands behind them.
use Rattle.std.specs.Prelude.{ℕ, List, [], ◌∷◌, codes, Option, None, Some, if◌then◌else◌}
use Rattle.std.specs.Option.{option_map}
use Rattle.std.specs.Str.{bytes_eq}
use Rattle.logic_term.specs.declared.kinds.Label2.{Label2}
use Rattle.proof_kernel.specs.declared.step.GoalRule.{GoalRule}
use Rattle.proof_kernel.specs.declared.step.GoalRule.TheVariants.{Refl, Truth, Left, Right, Contra, ByContradiction, Iff, Antisymmetry}
use Rattle.proof_kernel.specs.declared.step.HypothesisRule.{HypothesisRule}
use Rattle.proof_kernel.specs.declared.step.HypothesisRule.TheVariants.{Cases, Absurd, Drop, Revert, Back, Inject, Differ}
use Rattle.proof_kernel.specs.declared.step.PairRule.{PairRule}
use Rattle.proof_kernel.specs.declared.step.PairRule.TheVariants.{ModusPonens, Contradiction, Product}
use Rattle.proof_kernel.specs.declared.step.Direction.{Direction}
use Rattle.proof_kernel.specs.declared.step.Direction.TheVariants.{Forward, Backward}
use Rattle.proof_kernel.specs.declared.step.Rewriting.{Rewriting}
use Rattle.proof_kernel.specs.declared.step.Target.{Target}
use Rattle.proof_kernel.specs.declared.step.Target.TheVariants.{Goal, Hyp}
use Rattle.proof_kernel.specs.declared.step.TermRule.{TermRule}
use Rattle.proof_kernel.specs.declared.step.TermRule.TheVariants.{Cut, On, Range, Witness, Eta}
use Rattle.proof_text.specs.declared.rule_words.TermLine.{TermLine}
use Rattle.proof_text.specs.declared.rule_words.TermLine.TheVariants.{Rule, Division, Instance}
use Rattle.proof_text.specs.ProofTextWords.{◌>>=◌, label_of, cut, text_and_names}

-- ---- the words

abbrev pub goal_word : GoalRule → List ℕ
goal_word Refl = codes "refl"
goal_word Truth = codes "true"
goal_word Left = codes "left"
goal_word Right = codes "right"
goal_word Contra = codes "contra"
goal_word ByContradiction = codes "byc"
goal_word Iff = codes "iff"
goal_word Antisymmetry = codes "antisym"

abbrev pub hypothesis_word : HypothesisRule → List ℕ
hypothesis_word Cases = codes "cases"
hypothesis_word Absurd = codes "absurd"
hypothesis_word Drop = codes "drop"
hypothesis_word Revert = codes "revert"
hypothesis_word Back = codes "back"
hypothesis_word Inject = codes "inj"
hypothesis_word Differ = codes "differ"

abbrev pub pair_word : PairRule → List ℕ
pair_word ModusPonens = codes "mp"
pair_word Contradiction = codes "absurd"
pair_word Product = codes "mul"

abbrev pub term_word : TermRule → List ℕ
term_word Cut = codes "cut"
term_word On = codes "on"
term_word Range = codes "range"
term_word Witness = codes "exists"
term_word Eta = codes "eta"

-- of each kind of line that ends with terms
abbrev pub line_word : TermLine → List ℕ
line_word (Rule rule) = term_word rule
line_word Division = codes "div"
line_word Instance = codes "inst"

-- ---- the labels behind them

abbrev pub labels_by : List ℕ → Option (List ℕ × List ℕ) → Option (Label2 × Option Label2)
labels_by rest None = option_map (λ label. (label, None)) (label_of rest)
labels_by rest (Some parts) = do
  first ← label_of parts.0
  second ← label_of parts.1
  Some (first, Some second)

-- one label, or two with one space between
abbrev pub labels_in : List ℕ → Option (Label2 × Option Label2)
labels_in rest = labels_by rest (cut 32 rest)

-- ---- what stands behind `rewrite`

-- `in K`
abbrev pub target_of : List ℕ → Option Target
target_of rest = do
  parts ← cut 32 rest
  label ← label_of parts.1
  if bytes_eq parts.0 (codes "in") then Some (Hyp label) else None

-- `L`, or `L in K`
abbrev pub put_by : Direction → List ℕ → Option (List ℕ × List ℕ) → Option Rewriting
put_by direction rest None = option_map (λ label. record { direction = direction; equation = label; target = Goal }) (label_of rest)
put_by direction rest (Some parts) = do
  label ← label_of parts.0
  target ← target_of parts.1
  Some (record { direction = direction; equation = label; target = target })

abbrev pub put_in : Direction → List ℕ → Option Rewriting
put_in direction rest = put_by direction rest (cut 32 rest)

-- the same, or `<` and the same
abbrev pub rewriting_by : List ℕ → Option (List ℕ × List ℕ) → Option Rewriting
rewriting_by rest None = put_in Forward rest
rewriting_by rest (Some parts) = if bytes_eq parts.0 (codes "<") then put_in Backward parts.1 else put_in Forward rest

abbrev pub rewriting_in : List ℕ → Option Rewriting
rewriting_in rest = rewriting_by rest (cut 32 rest)

-- ---- what stands behind `cond`

-- `L`, or `L in K`
abbrev pub place_in : List ℕ → Option (Label2 × Target)
place_in rest = option_map (λ put. (put.equation, put.target)) (put_in Forward rest)

-- ---- what stands behind the word of a rule by a term

-- a text before lists of names: a line of `on` may have them, and then it is the line of the step by the variants of an enum
abbrev pub lists_behind : TermRule → List ℕ → Option (List ℕ × List (List ℕ))
lists_behind On rest = text_and_names rest
lists_behind rule rest = None

-- ---- the words the other way round

-- the first of these rules that has the word
abbrev pub rule_by : {R : Type 0} → (R → List ℕ) → List R → List ℕ → Option R
rule_by spell [] word = None
rule_by spell (rule ∷ rules) word = if bytes_eq word (spell rule) then Some rule else rule_by spell rules word

abbrev pub goal_rules : List GoalRule
goal_rules = Refl ∷ Truth ∷ Left ∷ Right ∷ Contra ∷ ByContradiction ∷ Iff ∷ Antisymmetry ∷ []

abbrev pub hypothesis_rules : List HypothesisRule
hypothesis_rules = Cases ∷ Absurd ∷ Drop ∷ Revert ∷ Back ∷ Inject ∷ Differ ∷ []

abbrev pub pair_rules : List PairRule
pair_rules = ModusPonens ∷ Contradiction ∷ Product ∷ []

abbrev pub term_lines : List TermLine
term_lines = Rule Cut ∷ Rule On ∷ Rule Range ∷ Rule Witness ∷ Rule Eta ∷ Division ∷ Instance ∷ []

unfoldable pub goal_rule_of : List ℕ → Option GoalRule
goal_rule_of word = rule_by goal_word goal_rules word

unfoldable pub hypothesis_rule_of : List ℕ → Option HypothesisRule
hypothesis_rule_of word = rule_by hypothesis_word hypothesis_rules word

unfoldable pub pair_rule_of : List ℕ → Option PairRule
pair_rule_of word = rule_by pair_word pair_rules word

unfoldable pub term_line_of : List ℕ → Option TermLine
term_line_of word = rule_by line_word term_lines word
