use Rattle.rs_syntax.proofs.Asked as asked
use Rattle.rs_syntax.proofs.Finding as finding
use Rattle.rs_syntax.proofs.Making as making
use Rattle.rs_syntax.proofs.laws.each_part_is_there.Goals as goal

pub returns-clause-lines : goal.returns-clause-lines
returns-clause-lines c = asked.each_part_is_there

pub returns-clause-made : goal.returns-clause-made
returns-clause-made c = making.each_line_is_made

pub returns-clause-source : goal.returns-clause-source
returns-clause-source c = asked.items_are_there

pub returns-clause-found : goal.returns-clause-found
returns-clause-found c = record {
  a_first_type = finding.type_there;
  a_first_term = finding.term_there;
  expressions_there = finding.expressions_found;
  patterns_there = finding.patterns_found;
  paths_there = finding.paths_found;
  terms_there = finding.terms_found;
  each_expression = finding.expression_seen;
  each_generic = finding.generic_seen;
  each_bound = finding.bound_seen;
  each_condition = finding.condition_seen;
  each_field = finding.field_seen;
  each_method = finding.method_seen;
  each_item = finding.item_seen;
  each_operation = finding.operation_seen;
  operand = finding.operand_there;
  matched = finding.matched_there;
  node = finding.node_there;
  shapes_alone = making.shapes_there;
}
