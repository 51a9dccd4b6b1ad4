-- The command that the words of a call are read by, as `clap` describes commands.
use Rattle.std.specs.Prelude.{ℕ, List, [], ◌∷◌, Some, true, codes, fold}
use Rattle.clap.specs.Words.{App, Rule, new_app, new_rule, with_rule}
use Rattle.clap.specs.Simple.{on_top}
use Rattle.clap.specs.declared.builder.action.ArgAction.TheVariants.{SetTrue}

-- a word that must be there
abbrev pub positional_rule : List ℕ → Rule
positional_rule id = record (new_rule id) { required = true }

-- `--id VALUE`, at most once
abbrev pub option_rule : List ℕ → Rule
option_rule id = record (new_rule id) { long = Some id }

-- `--id`, at most once
abbrev pub flag_rule : List ℕ → Rule
flag_rule id = record (option_rule id) { action = Some SetTrue }

-- a command with no arguments, whose words hold no name of a program
abbrev pub bare : App
bare = on_top (λ s. record s { no_binary_name = true }) (new_app (codes "olivestay"))

-- VERB SOURCE, with the options of all verbs
unfoldable pub command : App
command = fold with_rule bare (
    positional_rule (codes "verb")
    ∷ positional_rule (codes "source")
    ∷ option_rule (codes "proofs")
    ∷ option_rule (codes "script")
    ∷ option_rule (codes "out")
    ∷ option_rule (codes "fn")
    ∷ option_rule (codes "args")
    ∷ option_rule (codes "steps")
    ∷ flag_rule (codes "json")
    ∷ []
    )
