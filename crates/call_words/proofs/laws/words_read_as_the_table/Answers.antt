use Rattle.std.proofs.Common.{refl}
use Rattle.clap.proofs.OnLiterals.{clap_on_literals}
use Rattle.call_words.specs.Asked.{asked_in, asked_of, is_given}
use Rattle.call_words.specs.Grammar.{command}
use Rattle.call_words.proofs.laws.words_read_as_the_table.Goals as goal

pub returns : goal.returns
unfolding asked_of asked_in is_given command clap_on_literals
returns c = record {
  verifies = refl;
  proofs_last = refl;
  proofs_between = refl;
  proofs_first = refl;
  lists = refl;
  list_with_proofs = refl;
  no_words = refl;
  no_source = refl;
  no_value = refl;
  other_verb = refl;
  third_word = refl;
  proofs_twice = refl;
  script = refl;
  out = refl;
  fn_name = refl;
  args = refl;
  steps = refl;
  json = refl;
  unknown = refl;
  help = refl;
}
