-- What lines do to the text that is built so far.
use Rattle.std.specs.Prelude.{List, [], ◌∷◌, ◌++◌, ◌-◌, take, length}
use Rattle.logic_term.specs.declared.kinds.Label.{Label}
use Rattle.logic_term.specs.declared.subst.Replacement.{Replacement}
use Rattle.logic_term.specs.Subst.{with_terms}
use Rattle.logic_term.specs.Term.{Term}
use Rattle.logic_term.specs.Ty.{Ty}
use Rattle.mir_ir.specs.declared.statement.Statement.{Statement}
use Rattle.mir_ir.specs.declared.terminator.Terminator.{Terminator}
use Rattle.mir_ir.specs.declared.body.Block.{Block as BasicBlock}
use Rattle.type_check.specs.TypedExpr.{TypedStmts, done, last, leaving}
use Rattle.mir_build.specs.declared.around.Around.{Around as RustAround}
use Rattle.mir_build.specs.declared.block_end.BlockEnd.{BlockEnd}
use Rattle.mir_build.specs.declared.block_end.BlockEnd.TheVariants as block_end
use Rattle.mir_build.specs.declared.builder.BodyText.{BodyText}
use Rattle.mir_build.specs.declared.builder.Front.{Front}
use Rattle.mir_build.specs.declared.builder.Front.TheVariants.{Block, Nowhere}
use Rattle.mir_build.specs.declared.builder.OpenBlock.{OpenBlock}
use Rattle.mir_build.specs.Text.{Title, Line, Puts, Makes, Turns, Leaves, Owns}
use Rattle.mir_build.specs.Lowering.{Around, Formula, gone_at}

abbrev pub opened : Title → Front
opened b = Block (record { label = b.label; nest = b.nest; head = b.head; statements = [] })

abbrev pub grown : Front → Statement → Front
grown (Block o) s = Block (record { label = o.label; nest = o.nest; head = o.head; statements = o.statements ++ s ∷ [] })
grown Nowhere s = Nowhere

abbrev pub block_with : OpenBlock → Terminator → Label × BasicBlock
block_with o e = (o.label, record { head = o.head; nest = o.nest; statements = o.statements; end = e })

abbrev pub ended : Front → Terminator → List (Label × BasicBlock)
ended (Block o) e = block_with o e ∷ []
ended Nowhere e = []

-- the text with these lines behind it
abbrev pub written : List Line → BodyText → BodyText
written [] x = x
written (Puts s ∷ xs) x = written xs (record { blocks = x.blocks; front = grown x.front s; locals = x.locals; gone = x.gone })
written (Makes n t ∷ xs) x = written xs (record { blocks = x.blocks; front = x.front; locals = x.locals ++ t ∷ []; gone = x.gone })
written (Turns e b ∷ xs) x = written xs (record { blocks = x.blocks ++ ended x.front e; front = opened b; locals = x.locals; gone = x.gone })
written (Leaves e ∷ xs) x = written xs (record { blocks = x.blocks ++ ended x.front e; front = Nowhere; locals = x.locals; gone = x.gone })
written (Owns l ys ∷ xs) x = written xs (record { blocks = x.blocks; front = x.front; locals = x.locals; gone = x.gone ++ gone_at (l, ys) ∷ [] })

-- a block of the title, in which nothing stands yet, and these locals
abbrev pub started : Title → List Ty → BodyText
started b ts = record { blocks = []; front = opened b; locals = ts; gone = [] }

abbrev pub around : RustAround → Around
around c = record { types = c.types.now; scope = c.scope.items; loops = c.loops.items }

-- around the innermost loop
abbrev pub outside : Around → Around
outside c = record { types = c.types; scope = c.scope; loops = take (length c.loops - 1) c.loops }

-- the term of a formula, with terms for names
abbrev pub term_with : List Replacement → Formula → Term
term_with sub f = with_terms sub f.term

-- the end of a block's statements
abbrev pub end_of : BlockEnd → TypedStmts
end_of block_end.Unit = done
end_of (block_end.Value e) = last e.now
end_of (block_end.Leaves e) = leaving e.now
