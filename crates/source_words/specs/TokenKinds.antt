-- The kinds of tokens that have one whatever their text, by the lexer's kinds. Made by `python3 tools/grammar.py` of tools/source.ebnf.
use Rattle.std.specs.Prelude.{ℕ}
use Rattle.source_grammar.specs.Classes.{kind_of}
use Rattle.source_grammar.specs.Terminals.{Identifier, Underscore, Lifetime, Integer, StringLiteral, KwAs, KwBreak, KwConst, KwContinue, KwCrate, KwElse, KwEnum, KwExtern, KwFalse, KwFn, KwFor, KwIf, KwImpl, KwIn, KwLet, KwLoop}
use Rattle.source_grammar.specs.Terminals.{KwMatch, KwMod, KwMove, KwMut, KwPub, KwRef, KwReturn, KwSelfValue, KwSelfType, KwStatic, KwStruct, KwSuper, KwTrait, KwTrue, KwType, KwUnsafe, KwUse, KwWhere, KwWhile, KwAsync, KwAwait}
use Rattle.source_grammar.specs.Terminals.{KwDyn, Implies, EqualEqual, FatArrow, Arrow, NotEqual, AtMost, AtLeast, AndAnd, OrOr, PlusEqual, MinusEqual, StarEqual, SlashEqual, PercentEqual, PathSep, DotDot, OpenParen, CloseParen}
use Rattle.source_grammar.specs.Terminals.{OpenBracket, CloseBracket, OpenBrace, CloseBrace, Less, Greater, Equal, Plus, Minus, Star, Slash, Percent, Not, Ampersand, Bar, Caret, At, Hash, Comma, Semicolon, Colon, Dot, Question}
use Rattle.rs_tokens.specs.declared.token.TokenKind.{TokenKind}
use Rattle.rs_tokens.specs.declared.token.TokenKind.TheVariants as T

unfoldable pub plain_kind : TokenKind → ℕ
plain_kind T.Ident = kind_of Identifier
plain_kind T.Underscore = kind_of Underscore
plain_kind T.Lifetime = kind_of Lifetime
plain_kind T.Int = kind_of Integer
plain_kind T.Str = kind_of StringLiteral
plain_kind T.KwAs = kind_of KwAs
plain_kind T.KwBreak = kind_of KwBreak
plain_kind T.KwConst = kind_of KwConst
plain_kind T.KwContinue = kind_of KwContinue
plain_kind T.KwCrate = kind_of KwCrate
plain_kind T.KwElse = kind_of KwElse
plain_kind T.KwEnum = kind_of KwEnum
plain_kind T.KwExtern = kind_of KwExtern
plain_kind T.KwFalse = kind_of KwFalse
plain_kind T.KwFn = kind_of KwFn
plain_kind T.KwFor = kind_of KwFor
plain_kind T.KwIf = kind_of KwIf
plain_kind T.KwImpl = kind_of KwImpl
plain_kind T.KwIn = kind_of KwIn
plain_kind T.KwLet = kind_of KwLet
plain_kind T.KwLoop = kind_of KwLoop
plain_kind T.KwMatch = kind_of KwMatch
plain_kind T.KwMod = kind_of KwMod
plain_kind T.KwMove = kind_of KwMove
plain_kind T.KwMut = kind_of KwMut
plain_kind T.KwPub = kind_of KwPub
plain_kind T.KwRef = kind_of KwRef
plain_kind T.KwReturn = kind_of KwReturn
plain_kind T.KwSelf = kind_of KwSelfValue
plain_kind T.KwSelfType = kind_of KwSelfType
plain_kind T.KwStatic = kind_of KwStatic
plain_kind T.KwStruct = kind_of KwStruct
plain_kind T.KwSuper = kind_of KwSuper
plain_kind T.KwTrait = kind_of KwTrait
plain_kind T.KwTrue = kind_of KwTrue
plain_kind T.KwType = kind_of KwType
plain_kind T.KwUnsafe = kind_of KwUnsafe
plain_kind T.KwUse = kind_of KwUse
plain_kind T.KwWhere = kind_of KwWhere
plain_kind T.KwWhile = kind_of KwWhile
plain_kind T.KwAsync = kind_of KwAsync
plain_kind T.KwAwait = kind_of KwAwait
plain_kind T.KwDyn = kind_of KwDyn
plain_kind T.Implies = kind_of Implies
plain_kind T.EqualEqual = kind_of EqualEqual
plain_kind T.FatArrow = kind_of FatArrow
plain_kind T.Arrow = kind_of Arrow
plain_kind T.NotEqual = kind_of NotEqual
plain_kind T.AtMost = kind_of AtMost
plain_kind T.AtLeast = kind_of AtLeast
plain_kind T.AndAnd = kind_of AndAnd
plain_kind T.OrOr = kind_of OrOr
plain_kind T.PlusEqual = kind_of PlusEqual
plain_kind T.MinusEqual = kind_of MinusEqual
plain_kind T.StarEqual = kind_of StarEqual
plain_kind T.SlashEqual = kind_of SlashEqual
plain_kind T.PercentEqual = kind_of PercentEqual
plain_kind T.PathSep = kind_of PathSep
plain_kind T.DotDot = kind_of DotDot
plain_kind T.OpenParen = kind_of OpenParen
plain_kind T.CloseParen = kind_of CloseParen
plain_kind T.OpenBracket = kind_of OpenBracket
plain_kind T.CloseBracket = kind_of CloseBracket
plain_kind T.OpenBrace = kind_of OpenBrace
plain_kind T.CloseBrace = kind_of CloseBrace
plain_kind T.Less = kind_of Less
plain_kind T.Greater = kind_of Greater
plain_kind T.Equal = kind_of Equal
plain_kind T.Plus = kind_of Plus
plain_kind T.Minus = kind_of Minus
plain_kind T.Star = kind_of Star
plain_kind T.Slash = kind_of Slash
plain_kind T.Percent = kind_of Percent
plain_kind T.Not = kind_of Not
plain_kind T.And = kind_of Ampersand
plain_kind T.Or = kind_of Bar
plain_kind T.Caret = kind_of Caret
plain_kind T.At = kind_of At
plain_kind T.Pound = kind_of Hash
plain_kind T.Comma = kind_of Comma
plain_kind T.Semicolon = kind_of Semicolon
plain_kind T.Colon = kind_of Colon
plain_kind T.Dot = kind_of Dot
plain_kind T.Question = kind_of Question
