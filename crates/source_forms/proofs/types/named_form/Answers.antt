use Rattle.std.proofs.Common.{sym, rules}
use Rattle.source_forms.proofs.Sizes.{named_with}
use Rattle.source_forms.proofs.types.named_form.Goals as goal

pub returns-else-is_empty : goal.returns-else-is_empty
returns-else-is_empty c = sym (named_with c.args.name c.args.arguments.now (search rules))
