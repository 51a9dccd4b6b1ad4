-- The whole grammar of sources, a line for each nonterminal. The sections are those of the Rust Reference. Made by `python3 tools/grammar.py` of tools/source.ebnf.
use Rattle.std.specs.Prelude.{ℕ, List, [], ◌∷◌, get_or}
use Rattle.grammar_tables.specs.declared.symbol.Mark.{Mark}
use Rattle.grammar_tables.specs.declared.symbol.Mark.TheVariants.{Plain}
use Rattle.grammar_tables.specs.Grammar.{Grammar}
use Rattle.grammar_tables.specs.First.{first_sets, grammar_with}
use Rattle.grammar_tables.specs.Ebnf.{Form, expanded, marked, epsilon, ◌·◌, ◌∣◌, optional, repeated, chain, level}
use Rattle.source_grammar.specs.Classes.{classes}
use Rattle.source_grammar.specs.Terminals.{Underscore, Lifetime, Integer, StringLiteral, KwAs, KwBreak, KwContinue, KwCrate, KwElse, KwEnum, KwExtern, KwFn, KwFor, KwIf, KwImpl, KwLet, KwLoop, KwMatch, KwMove, KwMut, KwPub, KwReturn}
use Rattle.source_grammar.specs.Terminals.{KwSelfValue, KwSelfType, KwStruct, KwTrait, KwType, KwUse, KwWhere, KwWhile, Implies, FatArrow, Arrow, AndAnd, OrOr, PathSep, DotDot, OpenBracket, CloseBracket, Less, Greater, Equal}
use Rattle.source_grammar.specs.Terminals.{Plus, Minus, Star, Not, Ampersand, Bar, At, Hash, Comma, Semicolon, Colon, Dot, WordCreusotContracts, WordLogic, WordLaw, WordDerive, WordPearlite, WordViewTy, WordResult, WordMutRef}
use Rattle.source_grammar.specs.Terminals.{Name, BoundName, TypeName, ExprName, TermName, LogicTermName, AssignOperator, ComparisonOperator, SumOperator, ProductOperator, TermPrefix, Truth, ContractsRoot, ClauseWord, PassedWord}
use Rattle.source_grammar.specs.Terminals.{ClosureTrait, PanicWord, AssertWord, Quantifier, ClosurePredicate, AnyToken, UseToken, list, parens, brackets, braces}
use Rattle.source_grammar.specs.Nonterminals.{Source, SourceHash, Items, Any, Item, FirstItem, PlainItem, AttributedItem, ItemAttribute, LogicItem, LogicAttribute, LawItem, LawAttribute, UnmarkedItem, OtherItem, Public, Attribute}
use Rattle.source_grammar.specs.Nonterminals.{AnyAttribute, AttributeInput, ClauseInput, DeriveInput, Use, ContractsUse, ExternCrate, Function, Params, Logic, Generics, GenericParam, LifetimeParam, TypeParam, Where, WhereBounds}
use Rattle.source_grammar.specs.Nonterminals.{WhereBound, TypeCondition, LifetimeCondition, Bounds, Bound, TraitBound, CallBound, TypesInParens, Param, NamedParam, MutParam, MutNamedParam, MutReceiver, ReceiverParam, BorrowedParam}
use Rattle.source_grammar.specs.Nonterminals.{Struct, NamedFields, TupleFields, Field, TupleField, Enum, Variant, TypedFields, TypedField, Trait, TraitItem, TraitMethod, Impl, ImplHead, ImplBody, ImplItems, ImplItem, ViewType, ImplMethod}
use Rattle.source_grammar.specs.Nonterminals.{AttributedMethod, ImplAttribute, LogicMethod, LogicImplAttribute, LawMethod, AnyType, NamedType, TypeArguments, TypeArgument, TypeList, ReferenceType, CastType, CastName, CastReference}
use Rattle.source_grammar.specs.Nonterminals.{UnnamedType, TupleType, SelfType, Pattern, PatternForm, Wildcard, MutPattern, IntegerPattern, TruthPattern, TuplePattern, PathPattern, PatternParts, PatternFields, FieldPatterns, FieldPattern}
use Rattle.source_grammar.specs.Nonterminals.{PatternPath, PatternName, PathRest, PathEnd, Qualified, Block, Statements, AttributedStatement, StatementsRest, BlocklikeStatement, LoopStatement, Let, LetValue, LetEnd, Blocklike, If}
use Rattle.source_grammar.specs.Nonterminals.{Match, Arms, AttributedArm, Loop, While, Forever, Condition, LetCondition, Expr, HeadExpr, StatementExpr, Or, HeadOr, StatementOr, And, HeadAnd, StatementAnd, Cmp, HeadCmp, StatementCmp}
use Rattle.source_grammar.specs.Nonterminals.{Sum, HeadSum, StatementSum, Prod, HeadProd, StatementProd, Cast, HeadCast, StatementCast, Unary, HeadUnary, StatementUnary, Prefix, HeadPrefix, Postfix, HeadPostfix, StatementPostfix}
use Rattle.source_grammar.specs.Nonterminals.{PostfixOperation, Member, Arguments, ClosureExpr, ClosureOperation, Prim, HeadPrim, StatementPrim, AttributedPrim, LoopOrClosure, AttributedHeadPrim, LoopOrHeadClosure, Return, HeadReturn}
use Rattle.source_grammar.specs.Nonterminals.{HeadReturnValue, Atom, IntegerExpr, TruthExpr, SelfExpr, ParenExpr, Break, Continue, PanicCall, GhostCall, PathExpr, HeadPathExpr, ExprPath, ExprPathName, StructLiteral, FieldExpr, Closure}
use Rattle.source_grammar.specs.Nonterminals.{HeadClosure, ClosureParam, ClosureBody, HeadClosureBody, WholeTerm, Term, HeadTerm, LogicTerm, TermOr, HeadTermOr, LogicTermOr, TermAnd, HeadTermAnd, LogicTermAnd, TermCmp, HeadTermCmp}
use Rattle.source_grammar.specs.Nonterminals.{LogicTermCmp, TermSum, HeadTermSum, LogicTermSum, TermProd, HeadTermProd, LogicTermProd, TermUnary, HeadTermUnary, LogicTermUnary, PrefixTerm, HeadPrefixTerm, TermPostfix, HeadTermPostfix}
use Rattle.source_grammar.specs.Nonterminals.{LogicTermPostfix, View, TermMember, TermArguments, TermPrim, HeadTermPrim, LogicTermPrim, Quantified, HeadQuantified, Binder, PathTerm, HeadPathTerm, LogicPathTerm, TermParts, TermPath}
use Rattle.source_grammar.specs.Nonterminals.{TermPathName, LogicTermPath, LogicPathName, FieldTerms, FieldTerm, TermAtom, IntegerTerm, TruthTerm, AnswerTerm, SelfTerm, ParenTerm, IfTerm, MatchTerm, TermArm, MutRefTerm, PredicateTerm}
use Rattle.source_grammar.specs.Nonterminals.{AfterTerm, AfterPattern, AfterName}

unfoldable pub lines : List Form
lines =
    -- ## Sources: the Rust Reference, "Crates and source files". An inner attribute is told from an item's by what stands behind its `#`.
    -- Source
    (Hash · SourceHash ∣ PlainItem · Items ∣ epsilon)
    -- SourceHash
    ∷ (Not · brackets Any · Source ∣ FirstItem · Items)
    -- Items
    ∷ (repeated Item)
    -- Any
    ∷ (repeated (AnyToken ∣ parens Any ∣ brackets Any ∣ braces Any))
    -- ## Items and visibility: "Items", "Visibility and privacy". The body of a function is chosen by its attributes: behind `#[logic]` a logic body, behind `#[law]` none. The `#`
    -- of a first item stands before it.
    -- Item
    ∷ (AttributedItem)
    -- FirstItem
    ∷ (OpenBracket · ItemAttribute)
    -- PlainItem
    ∷ (UnmarkedItem)
    -- AttributedItem
    ∷ (Hash · OpenBracket · ItemAttribute ∣ UnmarkedItem)
    -- ItemAttribute
    ∷ (Attribute · CloseBracket · AttributedItem ∣ WordLogic · CloseBracket · LogicItem ∣ WordLaw · CloseBracket · LawItem)
    -- LogicItem
    ∷ (Hash · OpenBracket · LogicAttribute ∣ optional Public · (Function · Logic ∣ OtherItem))
    -- LogicAttribute
    ∷ (Attribute · CloseBracket · LogicItem ∣ WordLogic · CloseBracket · LogicItem ∣ WordLaw · CloseBracket · LawItem)
    -- LawItem
    ∷ (Hash · brackets LawAttribute · LawItem ∣ optional Public · (Function · Semicolon ∣ OtherItem))
    -- LawAttribute
    ∷ (Attribute ∣ WordLogic ∣ WordLaw)
    -- UnmarkedItem
    ∷ (optional Public · (Function · Block ∣ OtherItem))
    -- OtherItem
    ∷ (Struct ∣ Enum ∣ Trait ∣ Impl ∣ Use)
    -- Public
    ∷ (KwPub · optional (parens KwCrate))
    -- ## Attributes: "Attributes". The bracket of an item's attribute is a level as others are, but stands apart from it.
    -- Attribute
    ∷ (level AttributeInput)
    -- AnyAttribute
    ∷ (brackets (AttributeInput ∣ WordLogic ∣ WordLaw))
    -- AttributeInput
    ∷ (ClauseInput ∣ DeriveInput ∣ PassedWord · Any)
    -- ClauseInput
    ∷ (ClauseWord · parens WholeTerm)
    -- DeriveInput
    ∷ (WordDerive · parens (list Name))
    -- ## Uses: "Use declarations", "Extern crate declarations".
    -- Use
    ∷ (ContractsUse ∣ ExternCrate)
    -- ContractsUse
    ∷ (KwUse · ContractsRoot · repeated (UseToken ∣ parens Any ∣ brackets Any ∣ braces Any) · Semicolon)
    -- ExternCrate
    ∷ (KwExtern · KwCrate · WordCreusotContracts · Semicolon)
    -- ## Functions and their bodies: "Functions". A logic body is Creusot's.
    -- Function
    ∷ (KwFn · Name · optional Generics · Params · optional (Arrow · AnyType) · optional Where)
    -- Params
    ∷ (parens (list Param))
    -- Logic
    ∷ (braces (LogicTerm · AfterTerm ∣ WordPearlite · Not · braces WholeTerm))
    -- ## Generics: "Generic parameters", "Trait and lifetime bounds".
    -- Generics
    ∷ (Less · list GenericParam · Greater)
    -- GenericParam
    ∷ (LifetimeParam ∣ TypeParam)
    -- LifetimeParam
    ∷ (Lifetime · optional (Colon · Lifetime))
    -- TypeParam
    ∷ (Name · optional (Colon · Bounds))
    -- Where
    ∷ (KwWhere · WhereBounds)
    -- WhereBounds
    ∷ (WhereBound · optional (Comma · WhereBounds) ∣ epsilon)
    -- WhereBound
    ∷ (TypeCondition ∣ LifetimeCondition)
    -- TypeCondition
    ∷ (Name · Colon · Bounds)
    -- LifetimeCondition
    ∷ (Lifetime · Colon · Lifetime)
    -- Bounds
    ∷ (Bound · repeated (Plus · Bound))
    -- Bound
    ∷ (TraitBound ∣ CallBound)
    -- TraitBound
    ∷ (BoundName)
    -- CallBound
    ∷ (ClosureTrait · TypesInParens · optional (Arrow · AnyType))
    -- TypesInParens
    ∷ (parens (list AnyType))
    -- Param
    ∷ (NamedParam ∣ KwMut · MutParam ∣ ReceiverParam ∣ BorrowedParam)
    -- NamedParam
    ∷ (Name · Colon · AnyType)
    -- MutParam
    ∷ (MutNamedParam ∣ MutReceiver)
    -- MutNamedParam
    ∷ (Name · Colon · AnyType)
    -- MutReceiver
    ∷ (KwSelfValue)
    -- ReceiverParam
    ∷ (KwSelfValue)
    -- BorrowedParam
    ∷ (Ampersand · optional Lifetime · optional KwMut · KwSelfValue)
    -- ## Structs, enums, traits and impls: "Structs", "Enumerations", "Traits", "Implementations".
    -- Struct
    ∷ (KwStruct · Name · optional Generics · (NamedFields ∣ TupleFields · Semicolon ∣ Semicolon))
    -- NamedFields
    ∷ (braces (list Field))
    -- TupleFields
    ∷ (parens (list TupleField))
    -- Field
    ∷ (optional KwPub · Name · Colon · AnyType)
    -- TupleField
    ∷ (optional KwPub · AnyType)
    -- Enum
    ∷ (KwEnum · Name · optional Generics · braces (list Variant))
    -- Variant
    ∷ (Name · optional (TypesInParens ∣ TypedFields))
    -- TypedFields
    ∷ (braces (list TypedField))
    -- TypedField
    ∷ (Name · Colon · AnyType)
    -- Trait
    ∷ (KwTrait · Name · braces (repeated TraitItem))
    -- TraitItem
    ∷ (TraitMethod)
    -- TraitMethod
    ∷ (Hash · AnyAttribute · TraitMethod ∣ Function · Semicolon)
    -- Impl
    ∷ (KwImpl · optional Generics · (ImplHead ∣ UnnamedType ∣ ReferenceType) · optional Where · ImplBody)
    -- ImplHead
    ∷ (TypeName · optional (KwFor · AnyType ∣ TypeArguments))
    -- ImplBody
    ∷ (braces ImplItems)
    -- ImplItems
    ∷ (ImplItem · ImplItems ∣ epsilon)
    -- ImplItem
    ∷ (ViewType ∣ ImplMethod)
    -- ViewType
    ∷ (KwType · WordViewTy · level (Equal · AnyType) · Semicolon)
    -- ImplMethod
    ∷ (AttributedMethod)
    -- AttributedMethod
    ∷ (Hash · OpenBracket · ImplAttribute ∣ optional KwPub · Function · Block)
    -- ImplAttribute
    ∷ (Attribute · CloseBracket · AttributedMethod ∣ WordLogic · CloseBracket · LogicMethod ∣ WordLaw · CloseBracket · LawMethod)
    -- LogicMethod
    ∷ (Hash · OpenBracket · LogicImplAttribute ∣ optional KwPub · Function · Logic)
    -- LogicImplAttribute
    ∷ (Attribute · CloseBracket · LogicMethod ∣ WordLogic · CloseBracket · LogicMethod ∣ WordLaw · CloseBracket · LawMethod)
    -- LawMethod
    ∷ (Hash · brackets LawAttribute · LawMethod ∣ optional KwPub · Function · Semicolon)
    -- ## Types: "Types", "Tuple types", "Pointer types". The type behind `as` has no arguments, so that a `<` behind it compares: "Type cast expressions".
    -- AnyType
    ∷ (NamedType ∣ UnnamedType ∣ ReferenceType)
    -- NamedType
    ∷ (TypeName · optional TypeArguments)
    -- TypeArguments
    ∷ (level (Less · list TypeArgument · Greater))
    -- TypeArgument
    ∷ (Lifetime ∣ AnyType)
    -- TypeList
    ∷ (level (Less · list AnyType · Greater))
    -- ReferenceType
    ∷ (level (Ampersand · optional Lifetime · optional KwMut · AnyType))
    -- CastType
    ∷ (CastName ∣ UnnamedType ∣ CastReference)
    -- CastName
    ∷ (TypeName)
    -- CastReference
    ∷ (level (Ampersand · optional Lifetime · optional KwMut · CastType))
    -- UnnamedType
    ∷ (TupleType ∣ SelfType)
    -- TupleType
    ∷ (parens (list AnyType))
    -- SelfType
    ∷ (KwSelfType · optional (PathSep · WordViewTy))
    -- ## Patterns and paths: "Patterns", "Paths". Types stand behind the first name of a path, or behind its last.
    -- Pattern
    ∷ (PatternForm · AfterPattern)
    -- PatternForm
    ∷ (Wildcard ∣ MutPattern ∣ IntegerPattern ∣ TruthPattern ∣ TuplePattern ∣ PathPattern)
    -- Wildcard
    ∷ (Underscore)
    -- MutPattern
    ∷ (KwMut · Name)
    -- IntegerPattern
    ∷ (optional Minus · Integer)
    -- TruthPattern
    ∷ (Truth)
    -- TuplePattern
    ∷ (parens (list Pattern))
    -- PathPattern
    ∷ (PatternPath · optional (PatternParts ∣ PatternFields))
    -- PatternParts
    ∷ (parens (list Pattern))
    -- PatternFields
    ∷ (braces FieldPatterns)
    -- FieldPatterns
    ∷ (FieldPattern · optional (Comma · FieldPatterns ∣ DotDot) ∣ DotDot ∣ epsilon)
    -- FieldPattern
    ∷ (Name · optional (Colon · Pattern))
    -- PatternPath
    ∷ (PatternName ∣ Qualified)
    -- PatternName
    ∷ (Name · PathRest)
    -- PathRest
    ∷ (PathSep · (Name · PathEnd ∣ TypeList · optional (PathSep · Name)) ∣ epsilon)
    -- PathEnd
    ∷ (PathSep · (Name · PathEnd ∣ TypeList) ∣ epsilon)
    -- Qualified
    ∷ (Less · AnyType · KwAs · BoundName · Greater · PathSep · Name)
    -- ## Blocks and statements: "Statements", "Block expressions". A statement that begins with a blocklike ends with it.
    -- Block
    ∷ (braces Statements)
    -- Statements
    ∷ (Let · Statements ∣ BlocklikeStatement · Statements ∣ Hash · AnyAttribute · AttributedStatement ∣ StatementExpr · StatementsRest ∣ epsilon)
    -- AttributedStatement
    ∷ (Hash · AnyAttribute · AttributedStatement ∣ LoopStatement · Statements ∣ ClosureExpr · StatementsRest)
    -- StatementsRest
    ∷ (Semicolon · Statements ∣ epsilon)
    -- BlocklikeStatement
    ∷ (Blocklike · optional Semicolon)
    -- LoopStatement
    ∷ (Loop · optional Semicolon)
    -- Let
    ∷ (KwLet · Pattern · optional (Colon · AnyType) · LetValue · LetEnd)
    -- LetValue
    ∷ (level (Equal · Expr))
    -- LetEnd
    ∷ (Semicolon)
    -- ## Branches and loops: "if expressions", "match expressions", "Loops and other breakable expressions".
    -- Blocklike
    ∷ (Block ∣ If ∣ Match ∣ Loop)
    -- If
    ∷ (level (KwIf · Condition) · Block · optional (level (KwElse · (Block ∣ If))))
    -- Match
    ∷ (level (KwMatch · HeadExpr) · braces Arms)
    -- Arms
    ∷ (Pattern · FatArrow · (Blocklike · optional Comma · Arms ∣ Hash · AnyAttribute · AttributedArm ∣ StatementExpr · optional (Comma · Arms)) ∣ epsilon)
    -- AttributedArm
    ∷ (Hash · AnyAttribute · AttributedArm ∣ Loop · optional Comma · Arms ∣ ClosureExpr · optional (Comma · Arms))
    -- Loop
    ∷ (While ∣ Forever)
    -- While
    ∷ (level (KwWhile · Condition) · Block)
    -- Forever
    ∷ (KwLoop · Block)
    -- Condition
    ∷ (HeadExpr ∣ LetCondition)
    -- LetCondition
    ∷ (KwLet · Pattern · level (Equal · HeadExpr))
    -- ## Operators, from the weakest to the strongest: "Expression precedence", "Operator expressions". An assignment groups to the right. A closure with attributes that begins a
    -- statement goes on with operators.
    -- Expr
    ∷ (Or · chain (AssignOperator · Or) · optional (level (Equal · Expr)))
    -- HeadExpr
    ∷ (HeadOr · chain (AssignOperator · HeadOr) · optional (level (Equal · HeadExpr)))
    -- StatementExpr
    ∷ (StatementOr · chain (AssignOperator · Or) · optional (level (Equal · Expr)))
    -- Or
    ∷ (And · chain (OrOr · And))
    -- HeadOr
    ∷ (HeadAnd · chain (OrOr · HeadAnd))
    -- StatementOr
    ∷ (StatementAnd · chain (OrOr · And))
    -- And
    ∷ (Cmp · chain (AndAnd · Cmp))
    -- HeadAnd
    ∷ (HeadCmp · chain (AndAnd · HeadCmp))
    -- StatementAnd
    ∷ (StatementCmp · chain (AndAnd · Cmp))
    -- Cmp
    ∷ (Sum · optional (ComparisonOperator · Sum))
    -- HeadCmp
    ∷ (HeadSum · optional (ComparisonOperator · HeadSum))
    -- StatementCmp
    ∷ (StatementSum · optional (ComparisonOperator · Sum))
    -- Sum
    ∷ (Prod · chain (SumOperator · Prod))
    -- HeadSum
    ∷ (HeadProd · chain (SumOperator · HeadProd))
    -- StatementSum
    ∷ (StatementProd · chain (SumOperator · Prod))
    -- Prod
    ∷ (Cast · chain (ProductOperator · Cast))
    -- HeadProd
    ∷ (HeadCast · chain (ProductOperator · HeadCast))
    -- StatementProd
    ∷ (StatementCast · chain (ProductOperator · Cast))
    -- Cast
    ∷ (Unary · chain (KwAs · CastType))
    -- HeadCast
    ∷ (HeadUnary · chain (KwAs · CastType))
    -- StatementCast
    ∷ (StatementUnary · chain (KwAs · CastType))
    -- Unary
    ∷ (Prefix ∣ Postfix)
    -- HeadUnary
    ∷ (HeadPrefix ∣ HeadPostfix)
    -- StatementUnary
    ∷ (Prefix ∣ StatementPostfix)
    -- Prefix
    ∷ (level ((Minus ∣ Not ∣ Star ∣ Ampersand · optional KwMut) · Unary))
    -- HeadPrefix
    ∷ (level ((Minus ∣ Not ∣ Star ∣ Ampersand · optional KwMut) · HeadUnary))
    -- Postfix
    ∷ (Prim · chain PostfixOperation)
    -- HeadPostfix
    ∷ (HeadPrim · chain PostfixOperation)
    -- StatementPostfix
    ∷ (StatementPrim · chain PostfixOperation)
    -- PostfixOperation
    ∷ (Member ∣ Arguments)
    -- Member
    ∷ (Dot · (Name · optional (PathSep · TypeList) · optional Arguments ∣ Integer))
    -- Arguments
    ∷ (parens (list Expr))
    -- ClosureExpr
    ∷ (ClosureOperation · chain (AssignOperator · Or) · optional (level (Equal · Expr)))
    -- ClosureOperation
    ∷ (Closure · chain PostfixOperation · chain (KwAs · CastType) · chain (ProductOperator · Cast) · chain (SumOperator · Prod) · optional (ComparisonOperator · Sum) · chain (AndAnd · Cmp) · chain (OrOr · And))
    -- ## Operands: "Literal expressions", "Path expressions", "Struct expressions", "return expressions", "Closure expressions".
    -- Prim
    ∷ (Atom ∣ PathExpr ∣ Blocklike ∣ AttributedPrim ∣ Closure ∣ Return)
    -- HeadPrim
    ∷ (Atom ∣ HeadPathExpr ∣ Blocklike ∣ AttributedHeadPrim ∣ HeadClosure ∣ HeadReturn)
    -- StatementPrim
    ∷ (Atom ∣ PathExpr ∣ Closure ∣ Return)
    -- AttributedPrim
    ∷ (Hash · AnyAttribute · LoopOrClosure)
    -- LoopOrClosure
    ∷ (Hash · AnyAttribute · LoopOrClosure ∣ Loop ∣ Closure)
    -- AttributedHeadPrim
    ∷ (Hash · AnyAttribute · LoopOrHeadClosure)
    -- LoopOrHeadClosure
    ∷ (Hash · AnyAttribute · LoopOrHeadClosure ∣ Loop ∣ HeadClosure)
    -- Return
    ∷ (KwReturn · optional (level Expr))
    -- HeadReturn
    ∷ (KwReturn · HeadReturnValue)
    -- HeadReturnValue
    ∷ (level HeadExpr ∣ epsilon)
    -- Atom
    ∷ (IntegerExpr ∣ TruthExpr ∣ SelfExpr ∣ ParenExpr ∣ Break ∣ Continue ∣ PanicCall ∣ GhostCall)
    -- IntegerExpr
    ∷ (Integer)
    -- TruthExpr
    ∷ (Truth)
    -- SelfExpr
    ∷ (KwSelfValue)
    -- ParenExpr
    ∷ (parens (list Expr))
    -- Break
    ∷ (KwBreak)
    -- Continue
    ∷ (KwContinue)
    -- PanicCall
    ∷ (PanicWord · Not · parens (optional StringLiteral))
    -- GhostCall
    ∷ (AssertWord · Not · parens WholeTerm)
    -- PathExpr
    ∷ (ExprPath · optional StructLiteral)
    -- HeadPathExpr
    ∷ (ExprPath)
    -- ExprPath
    ∷ (ExprPathName ∣ Qualified)
    -- ExprPathName
    ∷ (ExprName · AfterName · PathRest)
    -- StructLiteral
    ∷ (braces (list FieldExpr))
    -- FieldExpr
    ∷ (Name · optional (Colon · Expr))
    -- Closure
    ∷ (optional KwMove · (level (OrOr · ClosureBody) ∣ Bar · list ClosureParam · level (Bar · ClosureBody)))
    -- HeadClosure
    ∷ (optional KwMove · (level (OrOr · HeadClosureBody) ∣ Bar · list ClosureParam · level (Bar · HeadClosureBody)))
    -- ClosureParam
    ∷ (Name · Colon · AnyType)
    -- ClosureBody
    ∷ (Arrow · AnyType · Block ∣ Expr)
    -- HeadClosureBody
    ∷ (Arrow · AnyType · Block ∣ HeadExpr)
    -- ## Terms of contracts: Creusot's Pearlite, with the operators of Rust.
    -- WholeTerm
    ∷ (Term · AfterTerm)
    -- Term
    ∷ (TermOr · optional (level (Implies · Term)))
    -- HeadTerm
    ∷ (HeadTermOr · optional (level (Implies · HeadTerm)))
    -- LogicTerm
    ∷ (LogicTermOr · optional (level (Implies · Term)))
    -- TermOr
    ∷ (TermAnd · chain (OrOr · TermAnd))
    -- HeadTermOr
    ∷ (HeadTermAnd · chain (OrOr · HeadTermAnd))
    -- LogicTermOr
    ∷ (LogicTermAnd · chain (OrOr · TermAnd))
    -- TermAnd
    ∷ (TermCmp · chain (AndAnd · TermCmp))
    -- HeadTermAnd
    ∷ (HeadTermCmp · chain (AndAnd · HeadTermCmp))
    -- LogicTermAnd
    ∷ (LogicTermCmp · chain (AndAnd · TermCmp))
    -- TermCmp
    ∷ (TermSum · optional (ComparisonOperator · TermSum))
    -- HeadTermCmp
    ∷ (HeadTermSum · optional (ComparisonOperator · HeadTermSum))
    -- LogicTermCmp
    ∷ (LogicTermSum · optional (ComparisonOperator · TermSum))
    -- TermSum
    ∷ (TermProd · chain (SumOperator · TermProd))
    -- HeadTermSum
    ∷ (HeadTermProd · chain (SumOperator · HeadTermProd))
    -- LogicTermSum
    ∷ (LogicTermProd · chain (SumOperator · TermProd))
    -- TermProd
    ∷ (TermUnary · chain (ProductOperator · TermUnary))
    -- HeadTermProd
    ∷ (HeadTermUnary · chain (ProductOperator · HeadTermUnary))
    -- LogicTermProd
    ∷ (LogicTermUnary · chain (ProductOperator · TermUnary))
    -- TermUnary
    ∷ (PrefixTerm ∣ TermPostfix)
    -- HeadTermUnary
    ∷ (HeadPrefixTerm ∣ HeadTermPostfix)
    -- LogicTermUnary
    ∷ (PrefixTerm ∣ LogicTermPostfix)
    -- PrefixTerm
    ∷ (level (TermPrefix · TermUnary))
    -- HeadPrefixTerm
    ∷ (level (TermPrefix · HeadTermUnary))
    -- TermPostfix
    ∷ (TermPrim · chain (View ∣ TermMember))
    -- HeadTermPostfix
    ∷ (HeadTermPrim · chain (View ∣ TermMember))
    -- LogicTermPostfix
    ∷ (LogicTermPrim · chain (View ∣ TermMember))
    -- View
    ∷ (At)
    -- TermMember
    ∷ (Dot · (Name · optional TermArguments ∣ Integer))
    -- TermArguments
    ∷ (parens (list Term))
    -- TermPrim
    ∷ (TermAtom ∣ Quantified ∣ PathTerm)
    -- HeadTermPrim
    ∷ (TermAtom ∣ HeadQuantified ∣ HeadPathTerm)
    -- LogicTermPrim
    ∷ (TermAtom ∣ Quantified ∣ LogicPathTerm)
    -- Quantified
    ∷ (Quantifier · Less · list Binder · level (Greater · Term))
    -- HeadQuantified
    ∷ (Quantifier · Less · list Binder · level (Greater · HeadTerm))
    -- Binder
    ∷ (Name · Colon · AnyType)
    -- PathTerm
    ∷ (TermPath · TermParts)
    -- HeadPathTerm
    ∷ (TermPath · optional TermArguments)
    -- LogicPathTerm
    ∷ (LogicTermPath · TermParts)
    -- TermParts
    ∷ (TermArguments ∣ FieldTerms ∣ epsilon)
    -- TermPath
    ∷ (TermPathName ∣ Qualified)
    -- TermPathName
    ∷ (TermName · PathRest)
    -- LogicTermPath
    ∷ (LogicPathName ∣ Qualified)
    -- LogicPathName
    ∷ (LogicTermName · PathRest)
    -- FieldTerms
    ∷ (braces (list FieldTerm))
    -- FieldTerm
    ∷ (Name · Colon · Term)
    -- TermAtom
    ∷ (IntegerTerm ∣ TruthTerm ∣ AnswerTerm ∣ SelfTerm ∣ ParenTerm ∣ IfTerm ∣ MatchTerm ∣ MutRefTerm ∣ PredicateTerm)
    -- IntegerTerm
    ∷ (Integer)
    -- TruthTerm
    ∷ (Truth)
    -- AnswerTerm
    ∷ (WordResult)
    -- SelfTerm
    ∷ (KwSelfValue)
    -- ParenTerm
    ∷ (parens (list Term))
    -- IfTerm
    ∷ (level (KwIf · HeadTerm) · braces Term · level (KwElse · braces Term))
    -- MatchTerm
    ∷ (level (KwMatch · HeadTerm) · braces (list TermArm))
    -- TermArm
    ∷ (Pattern · FatArrow · Term)
    -- MutRefTerm
    ∷ (WordMutRef · parens (Term · Comma · Term))
    -- PredicateTerm
    ∷ (ClosurePredicate · TermArguments)
    -- ## What stands behind a form, so that a refusal tells that the form is open or has just ended.
    -- AfterTerm
    ∷ (epsilon)
    -- AfterPattern
    ∷ (epsilon)
    -- AfterName
    ∷ (epsilon)
    ∷ []

-- FIRST settles after so many steps
abbrev pub steps : ℕ
steps = 16

unfoldable pub source_grammar : Grammar
source_grammar = grammar_with classes (first_sets classes steps (expanded lines)) (expanded lines)

-- what counts towards a limit at each nonterminal
unfoldable pub source_marks : ℕ → Mark
source_marks n = get_or (marked lines) n Plain

-- a source is derived from the first line, and a term that stands alone from that of terms
abbrev pub source_goal : ℕ
source_goal = 0

abbrev pub term_goal : ℕ
term_goal = 184
