use Rattle.std.proofs.Common.{◌∙◌, None, Some, ap, sym, arith}
use Rattle.std.specs.Option.{option_copied}
use Rattle.text_core.proofs.NamesLemmas.{text_of-word, text_of-texts}
use Rattle.text_core.proofs.names.Names.text.Goals as goal

pub returns-then-at-lt27 : goal.returns-then-at-lt27
returns-then-at-lt27 c = c.text_at.ensures ∙ sym (text_of-word c.args.self.now c.args.name c.if-at-lt27.true)

pub returns-in_err-text : goal.returns-in_err-text
returns-in_err-text c =
    ap option_copied c.from_residual.ensures
    ∙ sym (text_of-texts c.self.inside.given c.args.self.now c.self.view_is c.args.name (omega arith) (omega arith) None c.in_err-text.ensures.key)

pub returns : goal.returns
returns c =
    ap Some c.as_str.ensures.value
    ∙ sym (text_of-texts c.self.inside.given c.args.self.now c.self.view_is c.args.name (omega arith) (omega arith) (Some c.in_ok-text.text.now) c.in_ok-text.ensures.key)
