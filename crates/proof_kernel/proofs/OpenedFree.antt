-- Free names of what is known before a formula, from the last entry back.
use Rattle.std.proofs.Common.{◌≡◌, ℕ, suc, ◌||◌, Bool, true, false, List, [], ◌∷◌, refl, sym, ◌∙◌, ap}
use Rattle.std.specs.Prelude.{if◌then◌else◌}
use Rattle.text_core.specs.declared.name.Name.{Name}
use Rattle.logic_term.specs.declared.context.Entry.{Entry}
use Rattle.logic_term.specs.declared.context.Entry.TheVariants.{Known}
use Rattle.logic_term.specs.declared.kinds.Label2.{Label2}
use Rattle.logic_term.specs.Free.{free}
use Rattle.logic_term.specs.Term.{Term}
use Rattle.proof_kernel.specs.Dropped.{is_dropped, free_but_in}
use Rattle.proof_kernel.specs.Opened.{count_known, known_under, opened_hypotheses}
use Rattle.proof_kernel.specs.Rules.{label}
use Rattle.proof_kernel.proofs.DroppedLaw.{free_but_more}
use Rattle.proof_kernel.proofs.LocalLaw.{or_false, or_true}
use Rattle.proof_kernel.proofs.OpenedLaw.{is_known, one_less}

module _ (x : Name) (dropped : List Label2) (s : ℕ) (names : List Name) (here es : List Entry) (e : Entry) (a : Term) (n : ℕ) (d b : Bool) (is : here ≡ e ∷ es) (known : e ≡ Known a) (place : n ≡ count_known here)
    (passed : d ≡ is_dropped (label s n) dropped) (found : b ≡ (if d then false else free x (known_under names es a))) where
  at_known : free_but_in x dropped (opened_hypotheses s names here) ≡ (free_but_in x dropped (opened_hypotheses s names es) || b)
  at_known =
      let t : Term = known_under names es a in
      let part : n ≡ suc (count_known es) = one_less here es e a n is known place in
      let seen : b ≡ (if is_dropped (label s (suc (count_known es))) dropped then false else free x t) =
      found ∙ ap (λ c. if c then false else free x t) (passed ∙ ap (λ k. is_dropped (label s k) dropped) part) in
      ap (λ cs. free_but_in x dropped (opened_hypotheses s names cs)) (is_known here es e a is known)
      ∙ free_but_more x dropped (opened_hypotheses s names es) ((label s (suc (count_known es)), t) ∷ [])
      ∙ ap (λ c. free_but_in x dropped (opened_hypotheses s names es) || c) (or_false (if is_dropped (label s (suc (count_known es))) dropped then false else free x t) false refl ∙ sym seen)

  pub free_at_known : (whole : Bool) → whole ≡ free_but_in x dropped (opened_hypotheses s names here) → b ≡ true → true ≡ whole
  free_at_known whole h y = sym (h ∙ at_known ∙ or_true (free_but_in x dropped (opened_hypotheses s names es)) b y)

  pub free_past_known : (whole : Bool) → whole ≡ free_but_in x dropped (opened_hypotheses s names here) → b ≡ false → whole ≡ free_but_in x dropped (opened_hypotheses s names es)
  free_past_known whole h y = h ∙ at_known ∙ or_false (free_but_in x dropped (opened_hypotheses s names es)) b y
