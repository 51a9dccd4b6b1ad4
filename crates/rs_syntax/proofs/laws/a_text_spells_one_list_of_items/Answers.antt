use Rattle.rs_syntax.proofs.Whole.{one_list}
use Rattle.rs_syntax.proofs.laws.a_text_spells_one_list_of_items.Goals as goal

pub returns : goal.returns
returns c old bytes one other place a b = one_list old bytes one other place a b
