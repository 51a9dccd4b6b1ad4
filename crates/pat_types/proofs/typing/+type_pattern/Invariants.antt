use Rattle.std.proofs.Common.{◌≡◌, ◌+◌, ◌*◌, [], drop}
use Rattle.logic_term.specs.TyView.{tys_of}
use Rattle.source_trees.specs.PatView.{pat_size, pats_size, field_pats_size, pats_of, field_pats_of}
use Rattle.pat_types.specs.Makers.{fields_by}
use Rattle.pat_types.specs.PatternTyping.{no_fields, typed_fields, typed_parts}
use Rattle.pat_types.proofs.typing.+type_pattern.Given as goal

abbrev pub decreases-type_under : goal.decreases-type_under
decreases-type_under l = 3 * pat_size l.pattern.now

abbrev pub decreases-type_field : goal.decreases-type_field
decreases-type_field l = 3 * pat_size l.pattern.now + 1

abbrev pub decreases-type_tuple : goal.decreases-type_tuple
decreases-type_tuple l = 3 * pats_size (pats_of l.parts.now) + 1

abbrev pub decreases-type_made : goal.decreases-type_made
decreases-type_made l = 3 * pats_size (pats_of l.parts.now) + 1

abbrev pub decreases-type_parts : goal.decreases-type_parts
decreases-type_parts l = 3 * pats_size (pats_of l.parts.now)

abbrev pub decreases-type_struct : goal.decreases-type_struct
decreases-type_struct l = 3 * field_pats_size (field_pats_of l.fields.now) + 1

abbrev pub decreases-type_fields : goal.decreases-type_fields
decreases-type_fields l = 3 * field_pats_size (field_pats_of l.fields.now)

-- what comes of the parts so far and of those that are left is what comes of all
abbrev pub invariant-type_parts-loop-i : goal.invariant-type_parts-loop-i
invariant-type_parts-loop-i l = typed_parts l.types l.mode l.span [] l.fn.names.items (pats_of l.parts) (tys_of l.wanted) ≡ typed_parts l.types l.mode l.span l.made.items l.names.items (pats_of (drop l.i l.parts)) (tys_of (drop l.i l.wanted))

abbrev pub invariant-type_fields-loop-i : goal.invariant-type_fields-loop-i
invariant-type_fields-loop-i l =
    typed_fields l.types l.mode l.declared (tys_of l.wanted) (no_fields l.declared (tys_of l.wanted)) l.fn.names.items (field_pats_of l.fields)
    ≡ typed_fields l.types l.mode l.declared (tys_of l.wanted) (fields_by l.made) l.names.items (field_pats_of (drop l.i l.fields))
