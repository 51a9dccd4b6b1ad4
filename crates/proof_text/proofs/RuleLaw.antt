-- The words of the rules, both ways.
use Rattle.std.proofs.Common.{◌≡◌, ℕ, Bool, true, false, cond, List, [], ◌∷◌, Option, Some, None, refl, sym, ◌∙◌, ap, subst, codes}
use Rattle.std.specs.Prelude.{is_some, Result, IfOk}
use Rattle.std.specs.Option.{option_map, ok_or}
use Rattle.std.specs.Str.{bytes_eq}
use Rattle.std.proofs.lemmas.Slice.Eq.{bytes_eq-Decides}
use Rattle.logic_term.specs.declared.kinds.Label2.{Label2}
use Rattle.proof_kernel.specs.declared.step.GoalRule.{GoalRule}
use Rattle.proof_kernel.specs.declared.step.GoalRule.TheVariants.{Refl}
use Rattle.proof_kernel.specs.declared.step.HypothesisRule.{HypothesisRule}
use Rattle.proof_kernel.specs.declared.step.HypothesisRule.TheVariants.{Cases, Absurd}
use Rattle.proof_kernel.specs.declared.step.PairRule.{PairRule}
use Rattle.proof_kernel.specs.declared.step.PairRule.TheVariants.{ModusPonens}
use Rattle.proof_text.specs.declared.rule_words.TermLine.{TermLine}
use Rattle.proof_text.specs.declared.rule_words.TermLine.TheVariants.{Rule, Division, Instance}
use Rattle.proof_kernel.specs.declared.step.TermRule.TheVariants.{Cut, On, Range, Witness, Eta}
use Rattle.proof_kernel.specs.declared.step.Step.{Step}
use Rattle.proof_kernel.specs.declared.step.Step.TheVariants.{Intro, Hyp, Split, Lin, OnGoal, OnHypothesis, OnTwo, Rewrite, Decide, OnTerm, Divide, Instantiate, Unpack, ByVariants, Induct}
use Rattle.proof_text.specs.declared.fault.Fault.{Fault}
use Rattle.proof_text.specs.declared.fault.Fault.TheVariants.{Bad}
use Rattle.proof_text.specs.ProofTextWords.{◌>>=◌, cut, label_of}
use Rattle.proof_text.specs.ProofTextRules.{goal_word, hypothesis_word, pair_word, labels_by, labels_in, rule_by, goal_rules, hypothesis_rules, pair_rules, goal_rule_of, hypothesis_rule_of, pair_rule_of, term_word, line_word, term_lines, term_line_of}
use Rattle.proof_text.specs.ProofTextLines.{identifier_of, case_by, case_in, word_of, SpellsRest, SpellsParts}
use Rattle.proof_text.specs.ProofTextFile.{is_step, is_plain_step, step, line_if, line_by_head, at_labels, rule_step_of}
use Rattle.proof_text.proofs.LineLaw.{is_plain}

-- ---- a word that is read is the rule's

spelled_by : {R : Type 0} (spell : R → List ℕ) (word : List ℕ) (one rule : R) (found : Option R) (t : Bool) → bytes_eq word (spell one) ≡ t → (found ≡ Some rule → word ≡ spell rule) →
    cond t (Some one) found ≡ Some rule → word ≡ spell rule
spelled_by spell word one rule found true is more e = let same : one ≡ rule = cc in (bytes_eq-Decides word (spell one)).0 is ∙ ap spell same
spelled_by spell word one rule found false is more e = more e

pub rule_spelled : {R : Type 0} (spell : R → List ℕ) (rules : List R) (word : List ℕ) (rule : R) → rule_by spell rules word ≡ Some rule → word ≡ spell rule
rule_spelled spell [] word rule e = absurd (cc)
rule_spelled spell (one ∷ rules) word rule e = spelled_by spell word one rule (rule_by spell rules word) (bytes_eq word (spell one)) refl (rule_spelled spell rules word rule) e

made_by : {R : Type 0} (make : R → Step) (spell : R → List ℕ) (word : List ℕ) (s : Step) (found : Option R) → ((rule : R) → found ≡ Some rule → word ≡ spell rule) → option_map make found ≡ Some s →
    (rule : R) × (word ≡ spell rule) × (make rule ≡ s)
made_by make spell word s None spelled e = absurd (cc)
made_by make spell word s (Some rule) spelled e = (rule, spelled rule refl, cc)

module _ (table : List (List ℕ)) (head : List ℕ) (s : Step) where
  on_goal : option_map OnGoal (goal_rule_of head) ≡ Some s → SpellsParts table head None s
  unfolding goal_rule_of
  on_goal e = let made = made_by OnGoal goal_word head s (goal_rule_of head) (rule_spelled goal_word goal_rules head) e in subst (SpellsParts table head None) made.2 (made.1, refl)

  on_labels : (rest : List ℕ) (label : Label2) (other : Option Label2) → labels_in rest ≡ Some (label, other) → at_labels head label other ≡ Some s → SpellsParts table head (Some rest) s
  unfolding hypothesis_rule_of pair_rule_of
  on_labels rest label None is e =
      let made = made_by (λ rule. OnHypothesis rule label) hypothesis_word head s (hypothesis_rule_of head) (rule_spelled hypothesis_word hypothesis_rules head) e in subst (SpellsParts table head (Some rest)) made.2 (made.1, is)
  on_labels rest label (Some other) is e =
      let made = made_by (λ rule. OnTwo rule label other) pair_word head s (pair_rule_of head) (rule_spelled pair_word pair_rules head) e in subst (SpellsParts table head (Some rest)) made.2 (made.1, is)

  by_labels : (rest : List ℕ) (found : Option (Label2 × Option Label2)) → labels_in rest ≡ found → (found >>= (λ labels. at_labels head labels.0 labels.1)) ≡ Some s → SpellsParts table head (Some rest) s
  by_labels rest None is e = absurd (cc)
  by_labels rest (Some labels) is e = on_labels rest labels.0 labels.1 is e

  -- the step of such a line is spelled there
  pub rule_there : (rest : Option (List ℕ)) → rule_step_of head rest ≡ Some s → SpellsParts table head rest s
  rule_there None e = on_goal e
  rule_there (Some rest) e = by_labels rest (labels_in rest) refl e

-- what is read of a line of another head is spelled there
pub rule_line : (table : List (List ℕ)) (head : List ℕ) (rest : Option (List ℕ)) (found : Option Step) (r : Result Step Fault) → found ≡ rule_step_of head rest → r ≡ ok_or found Bad →
    IfOk r (λ s. SpellsParts table head rest s)
rule_line table head rest None r is e = subst (λ r. IfOk r (λ s. SpellsParts table head rest s)) (sym e) tt
rule_line table head rest (Some s) r is e = subst (λ r. IfOk r (λ s. SpellsParts table head rest s)) (sym e) (rule_there table head s rest (sym is))

-- ---- and a rule's word is read as the rule

-- a step's line begins with the word
abbrev IsStepHead : List ℕ → Type 0
IsStepHead word = (is_plain word ≡ true) × ((rest : Option (List ℕ)) → line_by_head word rest ≡ line_if (is_step word rest) step)

-- and no other line
abbrev IsRuleHead : List ℕ → Type 0
IsRuleHead word =
    (is_plain word ≡ true) × ((rest : Option (List ℕ)) → line_by_head word rest ≡ line_if (is_step word rest) step) × ((rest : Option (List ℕ)) → is_step word rest ≡ is_some (rule_step_of word rest))

pub goal_head : (rule : GoalRule) → IsRuleHead (goal_word rule)
unfolding is_step is_plain_step term_line_of line_by_head
goal_head Refl = (refl, λ rest. refl, λ rest. refl)
goal_head _ = (refl, λ rest. refl, λ rest. refl)

pub hypothesis_head : (rule : HypothesisRule) → IsStepHead (hypothesis_word rule)
unfolding is_step is_plain_step term_line_of line_by_head
hypothesis_head Cases = (refl, λ rest. refl)
hypothesis_head _ = (refl, λ rest. refl)

pub pair_head : (rule : PairRule) → IsRuleHead (pair_word rule)
unfolding is_step is_plain_step term_line_of line_by_head
pair_head ModusPonens = (refl, λ rest. refl, λ rest. refl)
pair_head _ = (refl, λ rest. refl, λ rest. refl)

goal_found : (rule : GoalRule) → goal_rule_of (goal_word rule) ≡ Some rule
unfolding goal_rule_of
goal_found Refl = refl
goal_found _ = refl

hypothesis_found : (rule : HypothesisRule) → hypothesis_rule_of (hypothesis_word rule) ≡ Some rule
unfolding hypothesis_rule_of
hypothesis_found Cases = refl
hypothesis_found _ = refl

pair_found : (rule : PairRule) → pair_rule_of (pair_word rule) ≡ Some rule
unfolding pair_rule_of
pair_found ModusPonens = refl
pair_found _ = refl

pub term_found : (line : TermLine) → term_line_of (line_word line) ≡ Some line
unfolding term_line_of
term_found (Rule Cut) = refl
term_found (Rule On) = refl
term_found (Rule Range) = refl
term_found (Rule Witness) = refl
term_found (Rule Eta) = refl
term_found Division = refl
term_found Instance = refl

pub term_spelled : (head : List ℕ) (line : TermLine) → term_line_of head ≡ Some line → head ≡ line_word line
unfolding term_line_of
term_spelled head line e = rule_spelled line_word term_lines head line e

-- ---- a line has one step of a rule, or none

module _ (head : List ℕ) (goal : goal_rule_of head ≡ None) (hypothesis : hypothesis_rule_of head ≡ None) (pair : pair_rule_of head ≡ None) where
  none_at : (label : Label2) (other : Option Label2) → at_labels head label other ≡ None
  none_at label None = ap (option_map (λ rule. OnHypothesis rule label)) hypothesis
  none_at label (Some other) = ap (option_map (λ rule. OnTwo rule label other)) pair

  none_by : (found : Option (Label2 × Option Label2)) → (found >>= (λ labels. at_labels head labels.0 labels.1)) ≡ None
  none_by None = refl
  none_by (Some labels) = none_at labels.0 labels.1

  no_rule : (rest : Option (List ℕ)) → rule_step_of head rest ≡ None
  no_rule None = ap (option_map OnGoal) goal
  no_rule (Some rest) = none_by (labels_in rest)

-- ---- a label behind `cases`, alone or before a name

same_found : {A B : Type 0} (p q : A × B) → Some p ≡ Some q → p ≡ q
same_found p q e = cc

pub to_labels : (rest : Option (List ℕ)) (l : Label2) → (rest >>= case_in) ≡ Some (l, None) → (rest >>= labels_in) ≡ Some (l, None)
to_labels None l e = absurd (cc)
to_labels (Some text) l e = by_cut (cut 32 text) e
  where
    alone : (o : Option Label2) → option_map (λ (m : Label2). let found : Label2 × Option (List ℕ) = (m, None) in found) o ≡ Some (l, None) → option_map (λ (m : Label2). let found : Label2 × Option Label2 = (m, None) in found) o ≡ Some (l, None)
    alone None f = absurd (cc)
    alone (Some m) f = let same : m ≡ l = ap (λ (p : Label2 × Option (List ℕ)). p.0) (same_found _ _ f) in ap (λ (n : Label2). let found : Option (Label2 × Option Label2) = Some (n, None) in found) same

    named : (o : Option Label2) (p : Option (List ℕ)) → (o >>= (λ (m : Label2). p >>= (λ (name : List ℕ). let found : Option (Label2 × Option (List ℕ)) = Some (m, Some name) in found))) ≡ Some (l, None) → ⊥
    named None p f = absurd (cc)
    named (Some m) None f = absurd (cc)
    named (Some m) (Some name) f = let no : Some name ≡ None = ap (λ (q : Label2 × Option (List ℕ)). q.1) (same_found _ _ f) in absurd (cc)

    by_cut : (o : Option (List ℕ × List ℕ)) → case_by text o ≡ Some (l, None) → labels_by text o ≡ Some (l, None)
    by_cut None f = alone (label_of text) f
    by_cut (Some parts) f = absurd (named (label_of parts.0) (identifier_of parts.1) f)

pub to_case : (rest : Option (List ℕ)) (l : Label2) → (rest >>= labels_in) ≡ Some (l, None) → (rest >>= case_in) ≡ Some (l, None)
to_case None l e = absurd (cc)
to_case (Some text) l e = by_cut (cut 32 text) e
  where
    alone : (o : Option Label2) → option_map (λ (m : Label2). let found : Label2 × Option Label2 = (m, None) in found) o ≡ Some (l, None) → option_map (λ (m : Label2). let found : Label2 × Option (List ℕ) = (m, None) in found) o ≡ Some (l, None)
    alone None f = absurd (cc)
    alone (Some m) f = let same : m ≡ l = ap (λ (p : Label2 × Option Label2). p.0) (same_found _ _ f) in ap (λ (n : Label2). let found : Option (Label2 × Option (List ℕ)) = Some (n, None) in found) same

    two : (o p : Option Label2) → (o >>= (λ (m : Label2). p >>= (λ (n : Label2). let found : Option (Label2 × Option Label2) = Some (m, Some n) in found))) ≡ Some (l, None) → ⊥
    two None p f = absurd (cc)
    two (Some m) None f = absurd (cc)
    two (Some m) (Some n) f = let no : Some n ≡ None = ap (λ (q : Label2 × Option Label2). q.1) (same_found _ _ f) in absurd (cc)

    by_cut : (o : Option (List ℕ × List ℕ)) → labels_by text o ≡ Some (l, None) → case_by text o ≡ Some (l, None)
    by_cut None f = alone (label_of text) f
    by_cut (Some parts) f = absurd (two (label_of parts.0) (label_of parts.1) f)

-- a label before a name is no line of a rule
named_no_rule : (rest : Option (List ℕ)) (l : Label2) (name : List ℕ) → (rest >>= case_in) ≡ Some (l, Some name) → rule_step_of (codes "cases") rest ≡ None
unfolding pair_rule_of
named_no_rule None l name e = absurd (cc)
named_no_rule (Some text) l name e = by_cut (cut 32 text) e
  where
    alone : (o : Option Label2) → option_map (λ (m : Label2). let found : Label2 × Option (List ℕ) = (m, None) in found) o ≡ Some (l, Some name) → ⊥
    alone None f = absurd (cc)
    alone (Some m) f = let no : None ≡ Some name = ap (λ (q : Label2 × Option (List ℕ)). q.1) (same_found _ _ f) in absurd (cc)

    two : (o p : Option Label2) → ((o >>= (λ (m : Label2). p >>= (λ (n : Label2). let found : Option (Label2 × Option Label2) = Some (m, Some n) in found))) >>= (λ labels. at_labels (codes "cases") labels.0 labels.1)) ≡ None
    two None p = refl
    two (Some m) None = refl
    two (Some m) (Some n) = refl

    by_cut : (o : Option (List ℕ × List ℕ)) → case_by text o ≡ Some (l, Some name) → (labels_by text o >>= (λ labels. at_labels (codes "cases") labels.0 labels.1)) ≡ None
    by_cut None f = absurd (alone (label_of text) f)
    by_cut (Some parts) f = two (label_of parts.0) (label_of parts.1)

-- the step, where it is of a rule
abbrev pub rule_part : Step → Option Step
rule_part (Intro names) = None
rule_part (Hyp label) = None
rule_part Split = None
rule_part (Lin multiples) = None
rule_part (Rewrite rewriting) = None
rule_part (Decide label target) = None
rule_part (OnTerm rule t) = None
rule_part (Divide t u) = None
rule_part (Instantiate label ts) = None
rule_part (Unpack label name) = None
rule_part (ByVariants t names) = None
rule_part (Induct x names) = None
rule_part rule = Some rule

pub rule_read : (table : List (List ℕ)) (rest : Option (List ℕ)) (s : Step) → SpellsRest table rest s → rule_step_of (word_of s) rest ≡ rule_part s
unfolding goal_rule_of hypothesis_rule_of pair_rule_of
rule_read table rest (OnGoal rule) h = ap (rule_step_of (goal_word rule)) h ∙ ap (option_map OnGoal) (goal_found rule)
rule_read table None (OnHypothesis rule label) h = absurd (cc)
rule_read table None (OnTwo rule label other) h = absurd (cc)
rule_read table (Some rest) (OnHypothesis rule label) h =
    ap (λ found. found >>= (λ labels. at_labels (hypothesis_word rule) labels.0 labels.1)) h ∙ ap (option_map (λ r. OnHypothesis r label)) (hypothesis_found rule)
rule_read table (Some rest) (OnTwo rule label other) h = ap (λ found. found >>= (λ labels. at_labels (pair_word rule) labels.0 labels.1)) h ∙ ap (option_map (λ r. OnTwo r label other)) (pair_found rule)
rule_read table rest (OnTerm Cut t) h = no_rule (term_word Cut) refl refl refl rest
rule_read table rest (OnTerm On t) h = no_rule (term_word On) refl refl refl rest
rule_read table rest (OnTerm Range t) h = no_rule (term_word Range) refl refl refl rest
rule_read table rest (OnTerm Witness t) h = no_rule (term_word Witness) refl refl refl rest
rule_read table rest (OnTerm Eta t) h = no_rule (term_word Eta) refl refl refl rest
rule_read table rest (Unpack label name) h = named_no_rule rest label h.0 h.1
rule_read table rest s h = no_rule (word_of s) refl refl refl rest

-- the line of a rule by one hypothesis is a step's
pub hypothesis_step : (table : List (List ℕ)) (rule : HypothesisRule) (rest : Option (List ℕ)) (l : Label2) → (rest >>= labels_in) ≡ Some (l, None) → is_step (hypothesis_word rule) rest ≡ true
unfolding is_step is_plain_step term_line_of
hypothesis_step table Cases rest l h = ap is_some (to_case rest l h)
hypothesis_step table Absurd rest l h = ap is_some (rule_read table rest (OnHypothesis Absurd l) h)
hypothesis_step table rule rest l h = ap is_some (rule_read table rest (OnHypothesis rule l) h)
