use Rattle.std.proofs.Common.{◌≡◌, List, reverse, subst, ap, ◌∙◌, sym}
use Rattle.std.proofs.lemmas.List.{reverse-reverse}
use Rattle.grammar_tables.specs.Tables.{grammar_in}
use Rattle.source_trees.specs.declared.item.Item.{Item}
use Rattle.rs_syntax.specs.declared.part.Part.{Part}
use Rattle.rs_syntax.specs.Gathered.{all_of, item_of}
use Rattle.rs_syntax.specs.Parsed.{AreItemsOf}
use Rattle.rs_syntax.proofs.Whole.{items_made}
use Rattle.rs_syntax.proofs.parser.items_by.Goals as goal

pub returns-clause-ok : goal.returns-clause-ok
returns-clause-ok c =
    let made = items_made (grammar_in c.tables.result) c.args.words.now c.args.derivation.now c.len.result c.in_ok-parts.parts.items c.tables.ensures.grammar c.len.ensures c.requires c.in_ok-parts.ensures in
    let back : reverse c.reverse.new.self.items ≡ c.in_ok-parts.parts.items = ap reverse c.reverse.ensures.items ∙ reverse-reverse c.in_ok-parts.parts.items in
    subst (λ (items : List Item). AreItemsOf c.args.words.now items) (sym (c.in_ok-all_of.ensures ∙ ap (λ (ps : List Part). all_of item_of ps) back)) made
