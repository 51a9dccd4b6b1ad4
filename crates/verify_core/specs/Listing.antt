-- The list of the obligations of a program.
use Rattle.std.specs.Prelude.{ℕ, List, map}
use Rattle.logic_term.specs.declared.obligation.Obligation.{Obligation}
use Rattle.report_out.specs.declared.listed.ListedItem.{ListedItem}
use Rattle.report_out.specs.Report.{list_of}
use Rattle.goal_text.specs.GoalText.{text_of_goal}
use Rattle.goal_text.specs.Spelling.{Spelling}
use Rattle.verify_core.specs.declared.program.Program.{Program}
use Rattle.verify_core.specs.Declarations.{declared_of}
use Rattle.verify_core.specs.Owed.{obligations_in}

-- what the goals of the program are spelled by
abbrev pub spelled_by : Program → Spelling
spelled_by p = record { theory = declared_of p; names = p.names }

abbrev pub listed : Program → Obligation → ListedItem
listed p o = record { number = o.number; kind = o.kind; span = o.span; owner = o.owner; goal = text_of_goal (spelled_by p) o.goal }

-- the obligations of the program of the source, each with its goal
abbrev pub list_text : Program → List ℕ → List ℕ
list_text p source = list_of source (map (listed p) (obligations_in p.obligations))
