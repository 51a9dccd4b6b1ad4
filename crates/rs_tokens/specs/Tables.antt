-- The words and marks that have kinds of their own, by their texts.
-- Source: Rust Reference, "Keywords" (strict keywords, edition 2021) and "Tokens" (punctuation); `==>` is the implication of terms.
use Rattle.std.specs.Prelude.{ℕ, List, [], ◌∷◌, codes, Option, None, Some, if◌then◌else◌}
use Rattle.std.specs.Borrow.{Bor}
use Rattle.std.specs.Str.{bytes_eq}
use Rattle.rs_tokens.specs.declared.token.TokenKind.{TokenKind}
use Rattle.rs_tokens.specs.declared.token.TokenKind.TheVariants.{Underscore, KwAs, KwBreak, KwConst, KwContinue, KwCrate, KwElse, KwEnum, KwExtern, KwFalse, KwFn, KwFor, KwIf, KwImpl, KwIn, KwLet, KwLoop, KwMatch, KwMod, KwMove, KwMut}
use Rattle.rs_tokens.specs.declared.token.TokenKind.TheVariants.{KwPub, KwRef, KwReturn, KwSelf, KwSelfType, KwStatic, KwStruct, KwSuper, KwTrait, KwTrue, KwType, KwUnsafe, KwUse, KwWhere, KwWhile, KwAsync, KwAwait, KwDyn, Implies}
use Rattle.rs_tokens.specs.declared.token.TokenKind.TheVariants.{EqualEqual, FatArrow, Arrow, NotEqual, AtMost, AtLeast, AndAnd, OrOr, PlusEqual, MinusEqual, StarEqual, SlashEqual, PercentEqual, PathSep, DotDot, OpenParen, CloseParen}
use Rattle.rs_tokens.specs.declared.token.TokenKind.TheVariants.{OpenBracket, CloseBracket, OpenBrace, CloseBrace, Less, Greater, Equal, Plus, Minus, Star, Slash, Percent, Not, And, Or, Caret, At, Pound, Comma, Semicolon, Colon, Dot}
use Rattle.rs_tokens.specs.declared.token.TokenKind.TheVariants.{Question}

-- a text and the kind of the token that it is
pub record Row : Type 0 where
  pub text : List ℕ
  pub kind : TokenKind

-- `_` alone, and the strict keywords
unfoldable pub reserved : List Row
reserved =
    (record { text = codes "_"; kind = Underscore })
    ∷ (record { text = codes "as"; kind = KwAs })
    ∷ (record { text = codes "break"; kind = KwBreak })
    ∷ (record { text = codes "const"; kind = KwConst })
    ∷ (record { text = codes "continue"; kind = KwContinue })
    ∷ (record { text = codes "crate"; kind = KwCrate })
    ∷ (record { text = codes "else"; kind = KwElse })
    ∷ (record { text = codes "enum"; kind = KwEnum })
    ∷ (record { text = codes "extern"; kind = KwExtern })
    ∷ (record { text = codes "false"; kind = KwFalse })
    ∷ (record { text = codes "fn"; kind = KwFn })
    ∷ (record { text = codes "for"; kind = KwFor })
    ∷ (record { text = codes "if"; kind = KwIf })
    ∷ (record { text = codes "impl"; kind = KwImpl })
    ∷ (record { text = codes "in"; kind = KwIn })
    ∷ (record { text = codes "let"; kind = KwLet })
    ∷ (record { text = codes "loop"; kind = KwLoop })
    ∷ (record { text = codes "match"; kind = KwMatch })
    ∷ (record { text = codes "mod"; kind = KwMod })
    ∷ (record { text = codes "move"; kind = KwMove })
    ∷ (record { text = codes "mut"; kind = KwMut })
    ∷ (record { text = codes "pub"; kind = KwPub })
    ∷ (record { text = codes "ref"; kind = KwRef })
    ∷ (record { text = codes "return"; kind = KwReturn })
    ∷ (record { text = codes "self"; kind = KwSelf })
    ∷ (record { text = codes "Self"; kind = KwSelfType })
    ∷ (record { text = codes "static"; kind = KwStatic })
    ∷ (record { text = codes "struct"; kind = KwStruct })
    ∷ (record { text = codes "super"; kind = KwSuper })
    ∷ (record { text = codes "trait"; kind = KwTrait })
    ∷ (record { text = codes "true"; kind = KwTrue })
    ∷ (record { text = codes "type"; kind = KwType })
    ∷ (record { text = codes "unsafe"; kind = KwUnsafe })
    ∷ (record { text = codes "use"; kind = KwUse })
    ∷ (record { text = codes "where"; kind = KwWhere })
    ∷ (record { text = codes "while"; kind = KwWhile })
    ∷ (record { text = codes "async"; kind = KwAsync })
    ∷ (record { text = codes "await"; kind = KwAwait })
    ∷ (record { text = codes "dyn"; kind = KwDyn })
    ∷ []

-- punctuation
unfoldable pub marks : List Row
marks =
    (record { text = codes "==>"; kind = Implies })
    ∷ (record { text = codes "=="; kind = EqualEqual })
    ∷ (record { text = codes "=>"; kind = FatArrow })
    ∷ (record { text = codes "->"; kind = Arrow })
    ∷ (record { text = codes "!="; kind = NotEqual })
    ∷ (record { text = codes "<="; kind = AtMost })
    ∷ (record { text = codes ">="; kind = AtLeast })
    ∷ (record { text = codes "&&"; kind = AndAnd })
    ∷ (record { text = codes "||"; kind = OrOr })
    ∷ (record { text = codes "+="; kind = PlusEqual })
    ∷ (record { text = codes "-="; kind = MinusEqual })
    ∷ (record { text = codes "*="; kind = StarEqual })
    ∷ (record { text = codes "/="; kind = SlashEqual })
    ∷ (record { text = codes "%="; kind = PercentEqual })
    ∷ (record { text = codes "::"; kind = PathSep })
    ∷ (record { text = codes ".."; kind = DotDot })
    ∷ (record { text = codes "("; kind = OpenParen })
    ∷ (record { text = codes ")"; kind = CloseParen })
    ∷ (record { text = codes "["; kind = OpenBracket })
    ∷ (record { text = codes "]"; kind = CloseBracket })
    ∷ (record { text = codes "{"; kind = OpenBrace })
    ∷ (record { text = codes "}"; kind = CloseBrace })
    ∷ (record { text = codes "<"; kind = Less })
    ∷ (record { text = codes ">"; kind = Greater })
    ∷ (record { text = codes "="; kind = Equal })
    ∷ (record { text = codes "+"; kind = Plus })
    ∷ (record { text = codes "-"; kind = Minus })
    ∷ (record { text = codes "*"; kind = Star })
    ∷ (record { text = codes "/"; kind = Slash })
    ∷ (record { text = codes "%"; kind = Percent })
    ∷ (record { text = codes "!"; kind = Not })
    ∷ (record { text = codes "&"; kind = And })
    ∷ (record { text = codes "|"; kind = Or })
    ∷ (record { text = codes "^"; kind = Caret })
    ∷ (record { text = codes "@"; kind = At })
    ∷ (record { text = codes "#"; kind = Pound })
    ∷ (record { text = codes ","; kind = Comma })
    ∷ (record { text = codes ";"; kind = Semicolon })
    ∷ (record { text = codes ":"; kind = Colon })
    ∷ (record { text = codes "."; kind = Dot })
    ∷ (record { text = codes "?"; kind = Question })
    ∷ []

-- the kind in the first row with this text
abbrev pub kind_in : List Row → List ℕ → Option TokenKind
kind_in [] text = None
kind_in (row ∷ rows) text = if bytes_eq row.text text then Some row.kind else kind_in rows text

-- a row of the code's tables
abbrev pub row_of : Bor (List ℕ) × TokenKind → Row
row_of (text, kind) = record { text = text.now; kind = kind }
