-- The classes of kinds, in the order of their terminals. Made by `python3 tools/grammar.py` of tools/source.ebnf.
use Rattle.std.specs.Prelude.{ℕ, zero, suc, Bool, false, nat_eq, ◌||◌, if◌then◌else◌, List, [], ◌∷◌, ◌++◌, map}
use Rattle.grammar_tables.specs.Ebnf.{Form, terminal, nonterminal, epsilon, optional, repeated, separated, chain, level, ◌·◌, ◌∣◌}
use Rattle.source_grammar.specs.Terminals.{Identifier, StringLiteral, KwConst, KwCrate, KwFalse, KwFor, KwMod, KwRef, KwSelfValue, KwSelfType, KwStatic, KwSuper, KwTrue, KwUnsafe, KwAsync, KwAwait, KwDyn, EqualEqual, NotEqual}
use Rattle.source_grammar.specs.Terminals.{AtMost, AtLeast, PlusEqual, MinusEqual, StarEqual, SlashEqual, PercentEqual, PathSep, DotDot, OpenParen, CloseParen, OpenBracket, CloseBracket, OpenBrace, CloseBrace, Less, Greater, Plus}
use Rattle.source_grammar.specs.Terminals.{Minus, Star, Slash, Percent, Not, Ampersand, Bar, Caret, At, Semicolon, Question, WordCreusotContracts, WordStd, WordRequires, WordEnsures, WordInvariant, WordVariant, WordLogic, WordLaw}
use Rattle.source_grammar.specs.Terminals.{WordDerive, WordAllow, WordInline, WordMustUse, WordDoc, WordPearlite, WordFn, WordFnMut, WordFnOnce, WordViewTy, WordPanic, WordUnreachable, WordProofAssert, WordSnapshot, WordResult}
use Rattle.source_grammar.specs.Terminals.{WordForall, WordExists, WordMutRef, WordPrecondition, WordPostcondition, WordPostconditionMut, WordPostconditionOnce, WordF32, WordF64, WordChar, WordStr, WordI128, WordU128, WordUnion}
use Rattle.source_grammar.specs.Terminals.{WordBox, WordYield, StaticLifetime}

-- the kind of the tokens that a terminal stands for, as a number
abbrev pub kind_of : Form → ℕ
kind_of (terminal k) = k
kind_of epsilon = 0
kind_of (nonterminal n) = 0
kind_of (a · b) = 0
kind_of (a ∣ b) = 0
kind_of (optional a) = 0
kind_of (repeated a) = 0
kind_of (separated k a) = 0
kind_of (chain a) = 0
kind_of (level a) = 0

abbrev pub kinds : List Form → List ℕ
kinds forms = map kind_of forms

abbrev pub stands_in : ℕ → List ℕ → Bool
stands_in k [] = false
stands_in k (j ∷ js) = nat_eq k j || stands_in k js

-- the kinds of the first list that are none of the second
abbrev pub without : List ℕ → List ℕ → List ℕ
without [] js = []
without (k ∷ ks) js = if stands_in k js then without ks js else k ∷ without ks js

abbrev pub below : ℕ → List ℕ
below zero = []
below (suc n) = below n ++ n ∷ []

-- a name is an identifier or a quoted word that is no keyword
abbrev pub names : List ℕ
names = kinds (
    Identifier ∷ WordCreusotContracts ∷ WordStd ∷ WordRequires ∷ WordEnsures ∷ WordInvariant ∷ WordVariant ∷ WordLogic ∷ WordLaw ∷ WordDerive ∷ WordAllow ∷ WordInline ∷ WordMustUse ∷ WordDoc ∷
    WordPearlite ∷ WordFn ∷ WordFnMut ∷ WordFnOnce ∷ WordViewTy ∷ WordPanic ∷ WordUnreachable ∷ WordProofAssert ∷ WordSnapshot ∷ WordResult ∷ WordForall ∷ WordExists ∷ WordMutRef ∷ WordPrecondition ∷
    WordPostcondition ∷ WordPostconditionMut ∷ WordPostconditionOnce ∷ WordF32 ∷ WordF64 ∷ WordChar ∷ WordStr ∷ WordI128 ∷ WordU128 ∷ WordUnion ∷ WordBox ∷ WordYield ∷ [])

abbrev pub brackets : List ℕ
brackets = kinds (OpenParen ∷ OpenBracket ∷ OpenBrace ∷ CloseParen ∷ CloseBracket ∷ CloseBrace ∷ [])

-- every token but the brackets
abbrev pub any : List ℕ
any = without (below 124) brackets

unfoldable pub classes : List (List ℕ)
classes =
    -- ## Names: "Identifiers". A quoted word that is no keyword is a name wherever a name may stand, but for these.
    -- Name
    names
    -- BoundName
    ∷ without names (kinds (WordFn ∷ WordFnMut ∷ WordFnOnce ∷ []))
    -- TypeName
    ∷ without names (kinds (WordF32 ∷ WordF64 ∷ WordChar ∷ WordStr ∷ WordI128 ∷ WordU128 ∷ []))
    -- ExprName
    ∷ without names (kinds (WordPanic ∷ WordUnreachable ∷ WordProofAssert ∷ WordSnapshot ∷ []))
    -- TermName
    ∷ without names (kinds (WordResult ∷ WordForall ∷ WordExists ∷ WordMutRef ∷ WordPrecondition ∷ WordPostcondition ∷ WordPostconditionMut ∷ WordPostconditionOnce ∷ []))
    -- LogicTermName
    ∷ without names (kinds (WordPearlite ∷ WordResult ∷ WordForall ∷ WordExists ∷ WordMutRef ∷ WordPrecondition ∷ WordPostcondition ∷ WordPostconditionMut ∷ WordPostconditionOnce ∷ []))
    -- ## Other classes of tokens: "Operator expressions", "Attributes", "Macros".
    -- AssignOperator
    ∷ kinds (PlusEqual ∷ MinusEqual ∷ StarEqual ∷ SlashEqual ∷ PercentEqual ∷ [])
    -- ComparisonOperator
    ∷ kinds (EqualEqual ∷ NotEqual ∷ Less ∷ AtMost ∷ Greater ∷ AtLeast ∷ [])
    -- SumOperator
    ∷ kinds (Plus ∷ Minus ∷ [])
    -- ProductOperator
    ∷ kinds (Star ∷ Slash ∷ Percent ∷ [])
    -- TermPrefix
    ∷ kinds (Minus ∷ Not ∷ Star ∷ Caret ∷ [])
    -- Truth
    ∷ kinds (KwTrue ∷ KwFalse ∷ [])
    -- ContractsRoot
    ∷ kinds (WordCreusotContracts ∷ WordStd ∷ [])
    -- ClauseWord
    ∷ kinds (WordRequires ∷ WordEnsures ∷ WordInvariant ∷ WordVariant ∷ [])
    -- PassedWord
    ∷ kinds (WordAllow ∷ WordInline ∷ WordMustUse ∷ WordDoc ∷ [])
    -- ClosureTrait
    ∷ kinds (WordFn ∷ WordFnMut ∷ WordFnOnce ∷ [])
    -- PanicWord
    ∷ kinds (WordPanic ∷ WordUnreachable ∷ [])
    -- AssertWord
    ∷ kinds (WordProofAssert ∷ WordSnapshot ∷ [])
    -- Quantifier
    ∷ kinds (WordForall ∷ WordExists ∷ [])
    -- ClosurePredicate
    ∷ kinds (WordPrecondition ∷ WordPostcondition ∷ WordPostconditionMut ∷ WordPostconditionOnce ∷ [])
    -- AnyToken
    ∷ any
    -- UseToken
    ∷ without any (kinds (Semicolon ∷ []))
    -- ## What a refusal is of a construct of Rust that the language leaves out by.
    -- LeftOutToken
    ∷ kinds (KwUnsafe ∷ KwAsync ∷ KwAwait ∷ KwDyn ∷ KwConst ∷ KwStatic ∷ KwMod ∷ WordUnion ∷ KwFor ∷ KwRef ∷ WordBox ∷ WordYield ∷ DotDot ∷ At ∷ Caret ∷ Ampersand ∷ Bar ∷ Question ∷ OpenBracket ∷ StringLiteral ∷
    StaticLifetime ∷ WordF32 ∷ WordF64 ∷ WordChar ∷ WordStr ∷ WordI128 ∷ WordU128 ∷ [])
    -- OtherRoot
    ∷ (without names (kinds (WordCreusotContracts ∷ WordStd ∷ [])) ++ kinds (KwCrate ∷ KwSelfValue ∷ KwSuper ∷ KwSelfType ∷ PathSep ∷ OpenBrace ∷ Star ∷ []))
    -- BoundOpening
    ∷ kinds (Less ∷ OpenParen ∷ Ampersand ∷ [])
    ∷ []
