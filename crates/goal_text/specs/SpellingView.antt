-- A spelling as the program has it.
use Rattle.goal_text.specs.Spelling.{Spelling}
use Rattle.goal_text.specs.declared.spelling.Spelling.{Spelling as Given}

abbrev pub spelling_of : Given → Spelling
spelling_of given = record { theory = record { adts = given.adts.now }; names = given.names.now }
