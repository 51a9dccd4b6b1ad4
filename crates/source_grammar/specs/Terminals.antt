-- The terminals, by the kinds of tokens, and behind them those that stand for a class of kinds. Made by `python3 tools/grammar.py` of tools/source.ebnf.
use Rattle.grammar_tables.specs.Ebnf.{Form, terminal, separated, level, ◌·◌}

-- identifier
abbrev pub Identifier : Form
Identifier = terminal 0

-- `_`
abbrev pub Underscore : Form
Underscore = terminal 1

-- lifetime
abbrev pub Lifetime : Form
Lifetime = terminal 2

-- integer
abbrev pub Integer : Form
Integer = terminal 3

-- string
abbrev pub StringLiteral : Form
StringLiteral = terminal 4

-- `as`
abbrev pub KwAs : Form
KwAs = terminal 5

-- `break`
abbrev pub KwBreak : Form
KwBreak = terminal 6

-- `const`
abbrev pub KwConst : Form
KwConst = terminal 7

-- `continue`
abbrev pub KwContinue : Form
KwContinue = terminal 8

-- `crate`
abbrev pub KwCrate : Form
KwCrate = terminal 9

-- `else`
abbrev pub KwElse : Form
KwElse = terminal 10

-- `enum`
abbrev pub KwEnum : Form
KwEnum = terminal 11

-- `extern`
abbrev pub KwExtern : Form
KwExtern = terminal 12

-- `false`
abbrev pub KwFalse : Form
KwFalse = terminal 13

-- `fn`
abbrev pub KwFn : Form
KwFn = terminal 14

-- `for`
abbrev pub KwFor : Form
KwFor = terminal 15

-- `if`
abbrev pub KwIf : Form
KwIf = terminal 16

-- `impl`
abbrev pub KwImpl : Form
KwImpl = terminal 17

-- `in`
abbrev pub KwIn : Form
KwIn = terminal 18

-- `let`
abbrev pub KwLet : Form
KwLet = terminal 19

-- `loop`
abbrev pub KwLoop : Form
KwLoop = terminal 20

-- `match`
abbrev pub KwMatch : Form
KwMatch = terminal 21

-- `mod`
abbrev pub KwMod : Form
KwMod = terminal 22

-- `move`
abbrev pub KwMove : Form
KwMove = terminal 23

-- `mut`
abbrev pub KwMut : Form
KwMut = terminal 24

-- `pub`
abbrev pub KwPub : Form
KwPub = terminal 25

-- `ref`
abbrev pub KwRef : Form
KwRef = terminal 26

-- `return`
abbrev pub KwReturn : Form
KwReturn = terminal 27

-- `self`
abbrev pub KwSelfValue : Form
KwSelfValue = terminal 28

-- `Self`
abbrev pub KwSelfType : Form
KwSelfType = terminal 29

-- `static`
abbrev pub KwStatic : Form
KwStatic = terminal 30

-- `struct`
abbrev pub KwStruct : Form
KwStruct = terminal 31

-- `super`
abbrev pub KwSuper : Form
KwSuper = terminal 32

-- `trait`
abbrev pub KwTrait : Form
KwTrait = terminal 33

-- `true`
abbrev pub KwTrue : Form
KwTrue = terminal 34

-- `type`
abbrev pub KwType : Form
KwType = terminal 35

-- `unsafe`
abbrev pub KwUnsafe : Form
KwUnsafe = terminal 36

-- `use`
abbrev pub KwUse : Form
KwUse = terminal 37

-- `where`
abbrev pub KwWhere : Form
KwWhere = terminal 38

-- `while`
abbrev pub KwWhile : Form
KwWhile = terminal 39

-- `async`
abbrev pub KwAsync : Form
KwAsync = terminal 40

-- `await`
abbrev pub KwAwait : Form
KwAwait = terminal 41

-- `dyn`
abbrev pub KwDyn : Form
KwDyn = terminal 42

-- `==>`
abbrev pub Implies : Form
Implies = terminal 43

-- `==`
abbrev pub EqualEqual : Form
EqualEqual = terminal 44

-- `=>`
abbrev pub FatArrow : Form
FatArrow = terminal 45

-- `->`
abbrev pub Arrow : Form
Arrow = terminal 46

-- `!=`
abbrev pub NotEqual : Form
NotEqual = terminal 47

-- `<=`
abbrev pub AtMost : Form
AtMost = terminal 48

-- `>=`
abbrev pub AtLeast : Form
AtLeast = terminal 49

-- `&&`
abbrev pub AndAnd : Form
AndAnd = terminal 50

-- `||`
abbrev pub OrOr : Form
OrOr = terminal 51

-- `+=`
abbrev pub PlusEqual : Form
PlusEqual = terminal 52

-- `-=`
abbrev pub MinusEqual : Form
MinusEqual = terminal 53

-- `*=`
abbrev pub StarEqual : Form
StarEqual = terminal 54

-- `/=`
abbrev pub SlashEqual : Form
SlashEqual = terminal 55

-- `%=`
abbrev pub PercentEqual : Form
PercentEqual = terminal 56

-- `::`
abbrev pub PathSep : Form
PathSep = terminal 57

-- `..`
abbrev pub DotDot : Form
DotDot = terminal 58

-- `(`
abbrev pub OpenParen : Form
OpenParen = terminal 59

-- `)`
abbrev pub CloseParen : Form
CloseParen = terminal 60

-- `[`
abbrev pub OpenBracket : Form
OpenBracket = terminal 61

-- `]`
abbrev pub CloseBracket : Form
CloseBracket = terminal 62

-- `{`
abbrev pub OpenBrace : Form
OpenBrace = terminal 63

-- `}`
abbrev pub CloseBrace : Form
CloseBrace = terminal 64

-- `<`
abbrev pub Less : Form
Less = terminal 65

-- `>`
abbrev pub Greater : Form
Greater = terminal 66

-- `=`
abbrev pub Equal : Form
Equal = terminal 67

-- `+`
abbrev pub Plus : Form
Plus = terminal 68

-- `-`
abbrev pub Minus : Form
Minus = terminal 69

-- `*`
abbrev pub Star : Form
Star = terminal 70

-- `/`
abbrev pub Slash : Form
Slash = terminal 71

-- `%`
abbrev pub Percent : Form
Percent = terminal 72

-- `!`
abbrev pub Not : Form
Not = terminal 73

-- `&`
abbrev pub Ampersand : Form
Ampersand = terminal 74

-- `|`
abbrev pub Bar : Form
Bar = terminal 75

-- `^`
abbrev pub Caret : Form
Caret = terminal 76

-- `@`
abbrev pub At : Form
At = terminal 77

-- `#`
abbrev pub Hash : Form
Hash = terminal 78

-- `,`
abbrev pub Comma : Form
Comma = terminal 79

-- `;`
abbrev pub Semicolon : Form
Semicolon = terminal 80

-- `:`
abbrev pub Colon : Form
Colon = terminal 81

-- `.`
abbrev pub Dot : Form
Dot = terminal 82

-- `?`
abbrev pub Question : Form
Question = terminal 83

-- `creusot_contracts`
abbrev pub WordCreusotContracts : Form
WordCreusotContracts = terminal 84

-- `std`
abbrev pub WordStd : Form
WordStd = terminal 85

-- `requires`
abbrev pub WordRequires : Form
WordRequires = terminal 86

-- `ensures`
abbrev pub WordEnsures : Form
WordEnsures = terminal 87

-- `invariant`
abbrev pub WordInvariant : Form
WordInvariant = terminal 88

-- `variant`
abbrev pub WordVariant : Form
WordVariant = terminal 89

-- `logic`
abbrev pub WordLogic : Form
WordLogic = terminal 90

-- `law`
abbrev pub WordLaw : Form
WordLaw = terminal 91

-- `derive`
abbrev pub WordDerive : Form
WordDerive = terminal 92

-- `allow`
abbrev pub WordAllow : Form
WordAllow = terminal 93

-- `inline`
abbrev pub WordInline : Form
WordInline = terminal 94

-- `must_use`
abbrev pub WordMustUse : Form
WordMustUse = terminal 95

-- `doc`
abbrev pub WordDoc : Form
WordDoc = terminal 96

-- `pearlite`
abbrev pub WordPearlite : Form
WordPearlite = terminal 97

-- `Fn`
abbrev pub WordFn : Form
WordFn = terminal 98

-- `FnMut`
abbrev pub WordFnMut : Form
WordFnMut = terminal 99

-- `FnOnce`
abbrev pub WordFnOnce : Form
WordFnOnce = terminal 100

-- `ViewTy`
abbrev pub WordViewTy : Form
WordViewTy = terminal 101

-- `panic`
abbrev pub WordPanic : Form
WordPanic = terminal 102

-- `unreachable`
abbrev pub WordUnreachable : Form
WordUnreachable = terminal 103

-- `proof_assert`
abbrev pub WordProofAssert : Form
WordProofAssert = terminal 104

-- `snapshot`
abbrev pub WordSnapshot : Form
WordSnapshot = terminal 105

-- `result`
abbrev pub WordResult : Form
WordResult = terminal 106

-- `forall`
abbrev pub WordForall : Form
WordForall = terminal 107

-- `exists`
abbrev pub WordExists : Form
WordExists = terminal 108

-- `MutRef`
abbrev pub WordMutRef : Form
WordMutRef = terminal 109

-- `precondition`
abbrev pub WordPrecondition : Form
WordPrecondition = terminal 110

-- `postcondition`
abbrev pub WordPostcondition : Form
WordPostcondition = terminal 111

-- `postcondition_mut`
abbrev pub WordPostconditionMut : Form
WordPostconditionMut = terminal 112

-- `postcondition_once`
abbrev pub WordPostconditionOnce : Form
WordPostconditionOnce = terminal 113

-- `f32`
abbrev pub WordF32 : Form
WordF32 = terminal 114

-- `f64`
abbrev pub WordF64 : Form
WordF64 = terminal 115

-- `char`
abbrev pub WordChar : Form
WordChar = terminal 116

-- `str`
abbrev pub WordStr : Form
WordStr = terminal 117

-- `i128`
abbrev pub WordI128 : Form
WordI128 = terminal 118

-- `u128`
abbrev pub WordU128 : Form
WordU128 = terminal 119

-- `union`
abbrev pub WordUnion : Form
WordUnion = terminal 120

-- `box`
abbrev pub WordBox : Form
WordBox = terminal 121

-- `yield`
abbrev pub WordYield : Form
WordYield = terminal 122

-- static lifetime
abbrev pub StaticLifetime : Form
StaticLifetime = terminal 123

abbrev pub Name : Form
Name = terminal 128

abbrev pub BoundName : Form
BoundName = terminal 129

abbrev pub TypeName : Form
TypeName = terminal 130

abbrev pub ExprName : Form
ExprName = terminal 131

abbrev pub TermName : Form
TermName = terminal 132

abbrev pub LogicTermName : Form
LogicTermName = terminal 133

abbrev pub AssignOperator : Form
AssignOperator = terminal 134

abbrev pub ComparisonOperator : Form
ComparisonOperator = terminal 135

abbrev pub SumOperator : Form
SumOperator = terminal 136

abbrev pub ProductOperator : Form
ProductOperator = terminal 137

abbrev pub TermPrefix : Form
TermPrefix = terminal 138

abbrev pub Truth : Form
Truth = terminal 139

abbrev pub ContractsRoot : Form
ContractsRoot = terminal 140

abbrev pub ClauseWord : Form
ClauseWord = terminal 141

abbrev pub PassedWord : Form
PassedWord = terminal 142

abbrev pub ClosureTrait : Form
ClosureTrait = terminal 143

abbrev pub PanicWord : Form
PanicWord = terminal 144

abbrev pub AssertWord : Form
AssertWord = terminal 145

abbrev pub Quantifier : Form
Quantifier = terminal 146

abbrev pub ClosurePredicate : Form
ClosurePredicate = terminal 147

abbrev pub AnyToken : Form
AnyToken = terminal 148

abbrev pub UseToken : Form
UseToken = terminal 149

abbrev pub LeftOutToken : Form
LeftOutToken = terminal 150

abbrev pub OtherRoot : Form
OtherRoot = terminal 151

abbrev pub BoundOpening : Form
BoundOpening = terminal 152

-- any number, with `,` between and perhaps behind the last
abbrev pub list : Form → Form
list a = separated 79 a

-- a pair of brackets, and what stands between, one level deeper
abbrev pub parens : Form → Form
parens a = level (OpenParen · a · CloseParen)

abbrev pub brackets : Form → Form
brackets a = level (OpenBracket · a · CloseBracket)

abbrev pub braces : Form → Form
braces a = level (OpenBrace · a · CloseBrace)
