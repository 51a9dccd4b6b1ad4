use Rattle.std.proofs.Common.{◌≡◌, ◌+◌, ◌*◌, ◌≤◌, drop, max}
use Rattle.source_trees.specs.PtermView.{terms_of, field_terms_of, arms_of, pterm_size, terms_size, field_terms_size, arms_size}
use Rattle.source_forms.specs.Forms.{is_among, ◌or_else◌}
use Rattle.source_forms.specs.TermForms.{unbuilt_term, unbuilt_terms, unbuilt_field_terms, unbuilt_term_arms}
use Rattle.source_forms.proofs.terms.+unbuilt_term.Given as goal

abbrev pub decreases-unbuilt_term : goal.decreases-unbuilt_term
decreases-unbuilt_term l = 4 * pterm_size l.term.now + 1

abbrev pub decreases-unbuilt_before : goal.decreases-unbuilt_before
decreases-unbuilt_before l = 4 * pterm_size l.term.now

abbrev pub decreases-unbuilt_behind : goal.decreases-unbuilt_behind
decreases-unbuilt_behind l = 4 * pterm_size l.term.now

abbrev pub decreases-two : goal.decreases-two
decreases-two l = 4 * max (pterm_size l.t.now) (pterm_size l.u.now) + 2

abbrev pub decreases-several : goal.decreases-several
decreases-several l = 4 * terms_size (terms_of l.terms.now) + 1

abbrev pub decreases-call : goal.decreases-call
decreases-call l = 4 * terms_size (terms_of l.arguments.now) + 1

abbrev pub decreases-literal : goal.decreases-literal
decreases-literal l = 4 * field_terms_size (field_terms_of l.fields.now) + 1

abbrev pub decreases-choice : goal.decreases-choice
decreases-choice l = 4 * max (pterm_size l.condition.now) (max (pterm_size l.yes.now) (pterm_size l.no.now)) + 2

abbrev pub decreases-matching : goal.decreases-matching
decreases-matching l = 4 * max (pterm_size l.t.now) (arms_size (arms_of l.arms.now)) + 2

abbrev pub decreases-quantified : goal.decreases-quantified
decreases-quantified l = 4 * pterm_size l.body.now + 2

abbrev pub decreases-unbuilt_terms : goal.decreases-unbuilt_terms
decreases-unbuilt_terms l = 4 * terms_size (terms_of l.terms.now)

abbrev pub decreases-unbuilt_field_terms : goal.decreases-unbuilt_field_terms
decreases-unbuilt_field_terms l = 4 * field_terms_size (field_terms_of l.fields.now)

abbrev pub decreases-unbuilt_term_arms : goal.decreases-unbuilt_term_arms
decreases-unbuilt_term_arms l = 4 * arms_size (arms_of l.arms.now)

abbrev pub invariant-unbuilt_term-loop-left : goal.invariant-unbuilt_term-loop-left
invariant-unbuilt_term-loop-left l = record {
  first : (unbuilt_term (is_among l.built) l.term or_else l.after) ≡ unbuilt_term (is_among l.built) l.initial.term;
  within : pterm_size l.term ≤ pterm_size l.initial.term;
}

abbrev pub decreases-unbuilt_term-loop-left : goal.decreases-unbuilt_term-loop-left
decreases-unbuilt_term-loop-left l = pterm_size l.term

abbrev pub invariant-unbuilt_terms-loop-term : goal.invariant-unbuilt_terms-loop-term
invariant-unbuilt_terms-loop-term l = unbuilt_terms (is_among l.built) (terms_of l.terms) ≡ unbuilt_terms (is_among l.built) (terms_of (drop l.term-index l.terms))

abbrev pub invariant-unbuilt_field_terms-loop-field : goal.invariant-unbuilt_field_terms-loop-field
invariant-unbuilt_field_terms-loop-field l =
    unbuilt_field_terms (is_among l.built) (field_terms_of l.fields) ≡ unbuilt_field_terms (is_among l.built) (field_terms_of (drop l.field-index l.fields))

abbrev pub invariant-unbuilt_term_arms-loop-arm : goal.invariant-unbuilt_term_arms-loop-arm
invariant-unbuilt_term_arms-loop-arm l = unbuilt_term_arms (is_among l.built) (arms_of l.arms) ≡ unbuilt_term_arms (is_among l.built) (arms_of (drop l.arm-index l.arms))
