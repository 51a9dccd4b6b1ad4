use Rattle.std.proofs.Common.{◌∙◌, sym}
use Rattle.clap.specs.Words.{found_of}
use Rattle.call_words.proofs.FoundLemmas.{asked_in-found, asked_in-to_come}
use Rattle.call_words.proofs.request.request_in.Goals as goal

pub returns-then-gives_any : goal.returns-then-gives_any
returns-then-gives_any c = asked_in-to_come (found_of c.args.matches.now) (sym c.gives_any.ensures ∙ c.if-gives_any.true)

pub returns : goal.returns
returns c =
    let none = sym c.gives_any.ensures ∙ c.if-gives_any.false in
    c.request_by.ensures ∙ asked_in-found (found_of c.args.matches.now) none _ _ _ c.get_str-verb.ensures c.get_str-source.ensures
    c.get_str-proofs.ensures
