-- Lines of terms, and other lines of steps, as they are read.
use Rattle.std.proofs.Common.{◌≡◌, ℕ, false, List, Option, Some, None, Result, Ok, Err, codes, refl, sym, ◌∙◌, ap, subst, Bor}
use Rattle.std.specs.Prelude.{IfOk, OnOk}
use Rattle.std.specs.Option.{ok_or, option_copied}
use Rattle.name_tables.specs.NameTables.{with_names}
use Rattle.proof_kernel.specs.declared.step.Step.{Step}
use Rattle.proof_kernel.specs.declared.step.TermRule.{TermRule}
use Rattle.proof_text.specs.declared.rule_words.TermLine.TheVariants.{Rule, Division, Instance}
use Rattle.proof_text.specs.declared.fault.Fault.{Fault}
use Rattle.proof_text.specs.declared.fault.Fault.TheVariants.{Bad}
use Rattle.proof_text.specs.ProofTextRules.{lists_behind, term_word, term_line_of}
use Rattle.proof_text.specs.ProofTextLines.{SpellsRest, SpellsParts, texts_by, terms_behind, NamesInRule, NamesInTerms, NamesInTwo, NamesOfParts}
use Rattle.proof_text.specs.ProofTextFile.{is_plain_step, is_rule_rest, are_terms, are_all_terms, is_step_by, is_step}
use Rattle.proof_text.specs.ProofTextReads.{GivesTexts}
use Rattle.proof_text.specs.ProofTextWords.{◌>>=◌, two_texts}
use Rattle.proof_text.proofs.RuleLaw.{term_spelled}
use Rattle.proof_text.proofs.NameOrder.{gives_plain, gives_rule, gives_two, gives_instance}

-- where a rest is wanted and none is there
pub none_by_ok : (own : Option (Bor (List ℕ))) (r : Result (Bor (List ℕ)) Fault) (f : Fault) → r ≡ ok_or own Bad → r ≡ Err f → option_copied own ≡ None
none_by_ok None r f e h = refl
none_by_ok (Some rest) r f e h = let both : Ok rest ≡ Err f = sym e ∙ h in absurd (cc)

module _ (head : List ℕ) (own : Option (List ℕ)) where
  -- ---- of no rule by a term

  pub plain_bad : None ≡ term_line_of head → is_plain_step head own ≡ false → is_step head own ≡ false
  unfolding is_step
  plain_bad e h = ap (λ o. is_step_by o head own) (sym e) ∙ h

  pub plain_table : (old new : List (List ℕ)) (r : Result Step Fault) → None ≡ term_line_of head → OnOk r (new ≡ with_names old (texts_by head own)) → OnOk r (GivesTexts (NamesOfParts head own) old new)
  plain_table old new (Ok s) e h = gives_plain head own old new e h
  plain_table old new (Err f) e h = tt

  -- ---- of such a rule

  module _ (rule : TermRule) (e : Some (Rule rule) ≡ term_line_of head) where
    -- no term stands there
    pub missing_bad : own ≡ None → is_step head own ≡ false
    unfolding is_step
    missing_bad none = ap (λ o. is_step_by o head own) (sym e) ∙ ap (λ (o : Option (List ℕ)). is_rule_rest (o >>= lists_behind rule) o) none

    module _ (rest : List ℕ) (is : own ≡ Some rest) where
      pub term_said : (table : List (List ℕ)) (r : Result Step Fault) → IfOk r (λ s. SpellsParts table (term_word rule) (Some rest) s) → IfOk r (λ s. SpellsParts table head own s)
      term_said table (Ok s) h = (term_spelled head (Rule rule) (sym e) ∙ h.0, subst (λ (o : Option (List ℕ)). SpellsRest table o s) (sym is) h.1)
      term_said table (Err f) h = tt

      pub term_bad : is_rule_rest (lists_behind rule rest) (Some rest) ≡ false → is_step head own ≡ false
      unfolding is_step
      term_bad h = ap (λ o. is_step_by o head own) (sym e) ∙ (ap (λ (o : Option (List ℕ)). is_rule_rest (o >>= lists_behind rule) o) is ∙ h)

      pub term_table : (old new : List (List ℕ)) (r : Result Step Fault) → OnOk r (GivesTexts (NamesInRule (lists_behind rule rest) (Some rest)) old new) → OnOk r (GivesTexts (NamesOfParts head own) old new)
      term_table old new (Ok s) h = gives_rule head rest own rule old new e is h
      term_table old new (Err f) h = tt

  -- ---- of two terms

  module _ (e : Some Division ≡ term_line_of head) where
    pub missing_two : own ≡ None → is_step head own ≡ false
    unfolding is_step
    missing_two none = ap (λ o. is_step_by o head own) (sym e) ∙ ap (λ (o : Option (List ℕ)). are_terms (o >>= two_texts)) none

    module _ (rest : List ℕ) (is : own ≡ Some rest) where
      pub two_said : (table : List (List ℕ)) (r : Result Step Fault) → IfOk r (λ s. SpellsParts table (codes "div") (Some rest) s) → IfOk r (λ s. SpellsParts table head own s)
      two_said table (Ok s) h = (term_spelled head Division (sym e) ∙ h.0, subst (λ (o : Option (List ℕ)). SpellsRest table o s) (sym is) h.1)
      two_said table (Err f) h = tt

      pub two_bad : are_terms (two_texts rest) ≡ false → is_step head own ≡ false
      unfolding is_step
      two_bad h = ap (λ o. is_step_by o head own) (sym e) ∙ (ap (λ (o : Option (List ℕ)). are_terms (o >>= two_texts)) is ∙ h)

      pub two_table : (old new : List (List ℕ)) (r : Result Step Fault) → OnOk r (GivesTexts (NamesInTwo (two_texts rest)) old new) → OnOk r (GivesTexts (NamesOfParts head own) old new)
      two_table old new (Ok s) h = gives_two head rest own old new e is h
      two_table old new (Err f) h = tt

  -- ---- of terms behind a label

  module _ (e : Some Instance ≡ term_line_of head) where
    pub missing_instance : own ≡ None → is_step head own ≡ false
    unfolding is_step
    missing_instance none = ap (λ o. is_step_by o head own) (sym e) ∙ ap (λ (o : Option (List ℕ)). are_all_terms (terms_behind o)) none

    module _ (rest : List ℕ) (is : own ≡ Some rest) where
      pub instance_said : (table : List (List ℕ)) (r : Result Step Fault) → IfOk r (λ s. SpellsParts table (codes "inst") (Some rest) s) → IfOk r (λ s. SpellsParts table head own s)
      instance_said table (Ok s) h = (term_spelled head Instance (sym e) ∙ h.0, subst (λ (o : Option (List ℕ)). SpellsRest table o s) (sym is) h.1)
      instance_said table (Err f) h = tt

      pub instance_bad : are_all_terms (terms_behind (Some rest)) ≡ false → is_step head own ≡ false
      unfolding is_step
      instance_bad h = ap (λ o. is_step_by o head own) (sym e) ∙ (ap (λ (o : Option (List ℕ)). are_all_terms (terms_behind o)) is ∙ h)

      pub instance_table : (old new : List (List ℕ)) (r : Result Step Fault) → OnOk r (GivesTexts (NamesInTerms (terms_behind (Some rest))) old new) → OnOk r (GivesTexts (NamesOfParts head own) old new)
      instance_table old new (Ok s) h = gives_instance head rest own old new e is h
      instance_table old new (Err f) h = tt
