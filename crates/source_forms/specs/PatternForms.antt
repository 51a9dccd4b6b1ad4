-- Patterns (Rust Reference, "Patterns"): where the first form begins that is not in the set. The forms of patterns of `let` are others
-- than those of all other patterns.
use Rattle.std.specs.Prelude.{ℕ, Bool, Option, None}
use Rattle.source_trees.specs.Pat as P
use Rattle.source_trees.specs.Pat.{Pat}
use Rattle.source_forms.specs.declared.form.Form.{Form}
use Rattle.source_forms.specs.declared.form.Patterns.{Patterns}
use Rattle.source_forms.specs.Forms.{◌or_else◌, here}
use Rattle.source_forms.specs.TypeForms.{path_form, unbuilt_path}

abbrev mutual
  pub unbuilt_pattern : (Form → Bool) → Patterns → Pat → Option ℕ
  unbuilt_pattern F forms (P.any span) = here F forms.any span
  unbuilt_pattern F forms (P.mutable span name) = here F forms.mutable span
  unbuilt_pattern F forms (P.integer span value suffix) = here F forms.integer span
  unbuilt_pattern F forms (P.truth span holds) = here F forms.truth span
  unbuilt_pattern F forms (P.tuple span parts) = here F forms.tuple span or_else unbuilt_patterns F forms parts
  unbuilt_pattern F forms (P.path span path) = here F (path_form forms.name forms.path path.node) span or_else unbuilt_path F path.node
  unbuilt_pattern F forms (P.parts span path parts) = here F forms.parts span or_else unbuilt_path F path.node or_else unbuilt_patterns F forms parts
  unbuilt_pattern F forms (P.fields span path fields more) = here F forms.fields span or_else unbuilt_path F path.node or_else unbuilt_fields F forms fields

  pub unbuilt_patterns : (Form → Bool) → Patterns → P.Pats → Option ℕ
  unbuilt_patterns F forms P.none = None
  unbuilt_patterns F forms (P.more pattern patterns) = unbuilt_pattern F forms pattern or_else unbuilt_patterns F forms patterns

  pub unbuilt_fields : (Form → Bool) → Patterns → P.FieldPats → Option ℕ
  unbuilt_fields F forms P.no_fields = None
  unbuilt_fields F forms (P.with_field span name pattern fields) = unbuilt_pattern F forms pattern or_else unbuilt_fields F forms fields
