use Rattle.std.proofs.Common.{◌∙◌}
use Rattle.clap.specs.Words.{found_of}
use Rattle.call_words.proofs.FoundLemmas.{is_from_words-source}
use Rattle.call_words.proofs.request.is_given.Goals as goal

pub returns : goal.returns
returns c = c.is_from_words.ensures
    ∙ is_from_words-source (found_of c.args.matches.now) c.args.id.now c.value_source.result c.value_source.ensures
