use Rattle.std.proofs.Common.{◌≡◌, ◌*◌, drop}
use Rattle.source_trees.specs.PatView.{pats_of, field_pats_of, pat_size, pats_size, field_pats_size}
use Rattle.source_forms.specs.Forms.{is_among}
use Rattle.source_forms.specs.PatternForms.{unbuilt_patterns, unbuilt_fields}
use Rattle.source_forms.proofs.patterns.+unbuilt_pattern.Given as goal

abbrev pub decreases-unbuilt_pattern : goal.decreases-unbuilt_pattern
decreases-unbuilt_pattern l = 2 * pat_size l.pattern.now

abbrev pub decreases-unbuilt_patterns : goal.decreases-unbuilt_patterns
decreases-unbuilt_patterns l = 2 * pats_size (pats_of l.patterns.now)

abbrev pub decreases-unbuilt_fields : goal.decreases-unbuilt_fields
decreases-unbuilt_fields l = 2 * field_pats_size (field_pats_of l.fields.now)

abbrev pub invariant-unbuilt_patterns-loop-pattern : goal.invariant-unbuilt_patterns-loop-pattern
invariant-unbuilt_patterns-loop-pattern l =
    unbuilt_patterns (is_among l.built) l.forms (pats_of l.patterns) ≡ unbuilt_patterns (is_among l.built) l.forms (pats_of (drop l.pattern-index l.patterns))

abbrev pub invariant-unbuilt_fields-loop-field : goal.invariant-unbuilt_fields-loop-field
invariant-unbuilt_fields-loop-field l =
    unbuilt_fields (is_among l.built) l.forms (field_pats_of l.fields) ≡ unbuilt_fields (is_among l.built) l.forms (field_pats_of (drop l.field-index l.fields))
