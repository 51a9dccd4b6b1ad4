-- The nonterminals, by the lines of the grammar. Made by `python3 tools/grammar.py` of tools/source.ebnf.
use Rattle.grammar_tables.specs.Ebnf.{Form, nonterminal}

abbrev pub Source : Form
Source = nonterminal 0

abbrev pub SourceHash : Form
SourceHash = nonterminal 1

abbrev pub Items : Form
Items = nonterminal 2

abbrev pub Any : Form
Any = nonterminal 3

abbrev pub Item : Form
Item = nonterminal 4

abbrev pub FirstItem : Form
FirstItem = nonterminal 5

abbrev pub PlainItem : Form
PlainItem = nonterminal 6

abbrev pub AttributedItem : Form
AttributedItem = nonterminal 7

abbrev pub ItemAttribute : Form
ItemAttribute = nonterminal 8

abbrev pub LogicItem : Form
LogicItem = nonterminal 9

abbrev pub LogicAttribute : Form
LogicAttribute = nonterminal 10

abbrev pub LawItem : Form
LawItem = nonterminal 11

abbrev pub LawAttribute : Form
LawAttribute = nonterminal 12

abbrev pub UnmarkedItem : Form
UnmarkedItem = nonterminal 13

abbrev pub OtherItem : Form
OtherItem = nonterminal 14

abbrev pub Public : Form
Public = nonterminal 15

abbrev pub Attribute : Form
Attribute = nonterminal 16

abbrev pub AnyAttribute : Form
AnyAttribute = nonterminal 17

abbrev pub AttributeInput : Form
AttributeInput = nonterminal 18

abbrev pub ClauseInput : Form
ClauseInput = nonterminal 19

abbrev pub DeriveInput : Form
DeriveInput = nonterminal 20

abbrev pub Use : Form
Use = nonterminal 21

abbrev pub ContractsUse : Form
ContractsUse = nonterminal 22

abbrev pub ExternCrate : Form
ExternCrate = nonterminal 23

abbrev pub Function : Form
Function = nonterminal 24

abbrev pub Params : Form
Params = nonterminal 25

abbrev pub Logic : Form
Logic = nonterminal 26

abbrev pub Generics : Form
Generics = nonterminal 27

abbrev pub GenericParam : Form
GenericParam = nonterminal 28

abbrev pub LifetimeParam : Form
LifetimeParam = nonterminal 29

abbrev pub TypeParam : Form
TypeParam = nonterminal 30

abbrev pub Where : Form
Where = nonterminal 31

abbrev pub WhereBounds : Form
WhereBounds = nonterminal 32

abbrev pub WhereBound : Form
WhereBound = nonterminal 33

abbrev pub TypeCondition : Form
TypeCondition = nonterminal 34

abbrev pub LifetimeCondition : Form
LifetimeCondition = nonterminal 35

abbrev pub Bounds : Form
Bounds = nonterminal 36

abbrev pub Bound : Form
Bound = nonterminal 37

abbrev pub TraitBound : Form
TraitBound = nonterminal 38

abbrev pub CallBound : Form
CallBound = nonterminal 39

abbrev pub TypesInParens : Form
TypesInParens = nonterminal 40

abbrev pub Param : Form
Param = nonterminal 41

abbrev pub NamedParam : Form
NamedParam = nonterminal 42

abbrev pub MutParam : Form
MutParam = nonterminal 43

abbrev pub MutNamedParam : Form
MutNamedParam = nonterminal 44

abbrev pub MutReceiver : Form
MutReceiver = nonterminal 45

abbrev pub ReceiverParam : Form
ReceiverParam = nonterminal 46

abbrev pub BorrowedParam : Form
BorrowedParam = nonterminal 47

abbrev pub Struct : Form
Struct = nonterminal 48

abbrev pub NamedFields : Form
NamedFields = nonterminal 49

abbrev pub TupleFields : Form
TupleFields = nonterminal 50

abbrev pub Field : Form
Field = nonterminal 51

abbrev pub TupleField : Form
TupleField = nonterminal 52

abbrev pub Enum : Form
Enum = nonterminal 53

abbrev pub Variant : Form
Variant = nonterminal 54

abbrev pub TypedFields : Form
TypedFields = nonterminal 55

abbrev pub TypedField : Form
TypedField = nonterminal 56

abbrev pub Trait : Form
Trait = nonterminal 57

abbrev pub TraitItem : Form
TraitItem = nonterminal 58

abbrev pub TraitMethod : Form
TraitMethod = nonterminal 59

abbrev pub Impl : Form
Impl = nonterminal 60

abbrev pub ImplHead : Form
ImplHead = nonterminal 61

abbrev pub ImplBody : Form
ImplBody = nonterminal 62

abbrev pub ImplItems : Form
ImplItems = nonterminal 63

abbrev pub ImplItem : Form
ImplItem = nonterminal 64

abbrev pub ViewType : Form
ViewType = nonterminal 65

abbrev pub ImplMethod : Form
ImplMethod = nonterminal 66

abbrev pub AttributedMethod : Form
AttributedMethod = nonterminal 67

abbrev pub ImplAttribute : Form
ImplAttribute = nonterminal 68

abbrev pub LogicMethod : Form
LogicMethod = nonterminal 69

abbrev pub LogicImplAttribute : Form
LogicImplAttribute = nonterminal 70

abbrev pub LawMethod : Form
LawMethod = nonterminal 71

abbrev pub AnyType : Form
AnyType = nonterminal 72

abbrev pub NamedType : Form
NamedType = nonterminal 73

abbrev pub TypeArguments : Form
TypeArguments = nonterminal 74

abbrev pub TypeArgument : Form
TypeArgument = nonterminal 75

abbrev pub TypeList : Form
TypeList = nonterminal 76

abbrev pub ReferenceType : Form
ReferenceType = nonterminal 77

abbrev pub CastType : Form
CastType = nonterminal 78

abbrev pub CastName : Form
CastName = nonterminal 79

abbrev pub CastReference : Form
CastReference = nonterminal 80

abbrev pub UnnamedType : Form
UnnamedType = nonterminal 81

abbrev pub TupleType : Form
TupleType = nonterminal 82

abbrev pub SelfType : Form
SelfType = nonterminal 83

abbrev pub Pattern : Form
Pattern = nonterminal 84

abbrev pub PatternForm : Form
PatternForm = nonterminal 85

abbrev pub Wildcard : Form
Wildcard = nonterminal 86

abbrev pub MutPattern : Form
MutPattern = nonterminal 87

abbrev pub IntegerPattern : Form
IntegerPattern = nonterminal 88

abbrev pub TruthPattern : Form
TruthPattern = nonterminal 89

abbrev pub TuplePattern : Form
TuplePattern = nonterminal 90

abbrev pub PathPattern : Form
PathPattern = nonterminal 91

abbrev pub PatternParts : Form
PatternParts = nonterminal 92

abbrev pub PatternFields : Form
PatternFields = nonterminal 93

abbrev pub FieldPatterns : Form
FieldPatterns = nonterminal 94

abbrev pub FieldPattern : Form
FieldPattern = nonterminal 95

abbrev pub PatternPath : Form
PatternPath = nonterminal 96

abbrev pub PatternName : Form
PatternName = nonterminal 97

abbrev pub PathRest : Form
PathRest = nonterminal 98

abbrev pub PathEnd : Form
PathEnd = nonterminal 99

abbrev pub Qualified : Form
Qualified = nonterminal 100

abbrev pub Block : Form
Block = nonterminal 101

abbrev pub Statements : Form
Statements = nonterminal 102

abbrev pub AttributedStatement : Form
AttributedStatement = nonterminal 103

abbrev pub StatementsRest : Form
StatementsRest = nonterminal 104

abbrev pub BlocklikeStatement : Form
BlocklikeStatement = nonterminal 105

abbrev pub LoopStatement : Form
LoopStatement = nonterminal 106

abbrev pub Let : Form
Let = nonterminal 107

abbrev pub LetValue : Form
LetValue = nonterminal 108

abbrev pub LetEnd : Form
LetEnd = nonterminal 109

abbrev pub Blocklike : Form
Blocklike = nonterminal 110

abbrev pub If : Form
If = nonterminal 111

abbrev pub Match : Form
Match = nonterminal 112

abbrev pub Arms : Form
Arms = nonterminal 113

abbrev pub AttributedArm : Form
AttributedArm = nonterminal 114

abbrev pub Loop : Form
Loop = nonterminal 115

abbrev pub While : Form
While = nonterminal 116

abbrev pub Forever : Form
Forever = nonterminal 117

abbrev pub Condition : Form
Condition = nonterminal 118

abbrev pub LetCondition : Form
LetCondition = nonterminal 119

abbrev pub Expr : Form
Expr = nonterminal 120

abbrev pub HeadExpr : Form
HeadExpr = nonterminal 121

abbrev pub StatementExpr : Form
StatementExpr = nonterminal 122

abbrev pub Or : Form
Or = nonterminal 123

abbrev pub HeadOr : Form
HeadOr = nonterminal 124

abbrev pub StatementOr : Form
StatementOr = nonterminal 125

abbrev pub And : Form
And = nonterminal 126

abbrev pub HeadAnd : Form
HeadAnd = nonterminal 127

abbrev pub StatementAnd : Form
StatementAnd = nonterminal 128

abbrev pub Cmp : Form
Cmp = nonterminal 129

abbrev pub HeadCmp : Form
HeadCmp = nonterminal 130

abbrev pub StatementCmp : Form
StatementCmp = nonterminal 131

abbrev pub Sum : Form
Sum = nonterminal 132

abbrev pub HeadSum : Form
HeadSum = nonterminal 133

abbrev pub StatementSum : Form
StatementSum = nonterminal 134

abbrev pub Prod : Form
Prod = nonterminal 135

abbrev pub HeadProd : Form
HeadProd = nonterminal 136

abbrev pub StatementProd : Form
StatementProd = nonterminal 137

abbrev pub Cast : Form
Cast = nonterminal 138

abbrev pub HeadCast : Form
HeadCast = nonterminal 139

abbrev pub StatementCast : Form
StatementCast = nonterminal 140

abbrev pub Unary : Form
Unary = nonterminal 141

abbrev pub HeadUnary : Form
HeadUnary = nonterminal 142

abbrev pub StatementUnary : Form
StatementUnary = nonterminal 143

abbrev pub Prefix : Form
Prefix = nonterminal 144

abbrev pub HeadPrefix : Form
HeadPrefix = nonterminal 145

abbrev pub Postfix : Form
Postfix = nonterminal 146

abbrev pub HeadPostfix : Form
HeadPostfix = nonterminal 147

abbrev pub StatementPostfix : Form
StatementPostfix = nonterminal 148

abbrev pub PostfixOperation : Form
PostfixOperation = nonterminal 149

abbrev pub Member : Form
Member = nonterminal 150

abbrev pub Arguments : Form
Arguments = nonterminal 151

abbrev pub ClosureExpr : Form
ClosureExpr = nonterminal 152

abbrev pub ClosureOperation : Form
ClosureOperation = nonterminal 153

abbrev pub Prim : Form
Prim = nonterminal 154

abbrev pub HeadPrim : Form
HeadPrim = nonterminal 155

abbrev pub StatementPrim : Form
StatementPrim = nonterminal 156

abbrev pub AttributedPrim : Form
AttributedPrim = nonterminal 157

abbrev pub LoopOrClosure : Form
LoopOrClosure = nonterminal 158

abbrev pub AttributedHeadPrim : Form
AttributedHeadPrim = nonterminal 159

abbrev pub LoopOrHeadClosure : Form
LoopOrHeadClosure = nonterminal 160

abbrev pub Return : Form
Return = nonterminal 161

abbrev pub HeadReturn : Form
HeadReturn = nonterminal 162

abbrev pub HeadReturnValue : Form
HeadReturnValue = nonterminal 163

abbrev pub Atom : Form
Atom = nonterminal 164

abbrev pub IntegerExpr : Form
IntegerExpr = nonterminal 165

abbrev pub TruthExpr : Form
TruthExpr = nonterminal 166

abbrev pub SelfExpr : Form
SelfExpr = nonterminal 167

abbrev pub ParenExpr : Form
ParenExpr = nonterminal 168

abbrev pub Break : Form
Break = nonterminal 169

abbrev pub Continue : Form
Continue = nonterminal 170

abbrev pub PanicCall : Form
PanicCall = nonterminal 171

abbrev pub GhostCall : Form
GhostCall = nonterminal 172

abbrev pub PathExpr : Form
PathExpr = nonterminal 173

abbrev pub HeadPathExpr : Form
HeadPathExpr = nonterminal 174

abbrev pub ExprPath : Form
ExprPath = nonterminal 175

abbrev pub ExprPathName : Form
ExprPathName = nonterminal 176

abbrev pub StructLiteral : Form
StructLiteral = nonterminal 177

abbrev pub FieldExpr : Form
FieldExpr = nonterminal 178

abbrev pub Closure : Form
Closure = nonterminal 179

abbrev pub HeadClosure : Form
HeadClosure = nonterminal 180

abbrev pub ClosureParam : Form
ClosureParam = nonterminal 181

abbrev pub ClosureBody : Form
ClosureBody = nonterminal 182

abbrev pub HeadClosureBody : Form
HeadClosureBody = nonterminal 183

abbrev pub WholeTerm : Form
WholeTerm = nonterminal 184

abbrev pub Term : Form
Term = nonterminal 185

abbrev pub HeadTerm : Form
HeadTerm = nonterminal 186

abbrev pub LogicTerm : Form
LogicTerm = nonterminal 187

abbrev pub TermOr : Form
TermOr = nonterminal 188

abbrev pub HeadTermOr : Form
HeadTermOr = nonterminal 189

abbrev pub LogicTermOr : Form
LogicTermOr = nonterminal 190

abbrev pub TermAnd : Form
TermAnd = nonterminal 191

abbrev pub HeadTermAnd : Form
HeadTermAnd = nonterminal 192

abbrev pub LogicTermAnd : Form
LogicTermAnd = nonterminal 193

abbrev pub TermCmp : Form
TermCmp = nonterminal 194

abbrev pub HeadTermCmp : Form
HeadTermCmp = nonterminal 195

abbrev pub LogicTermCmp : Form
LogicTermCmp = nonterminal 196

abbrev pub TermSum : Form
TermSum = nonterminal 197

abbrev pub HeadTermSum : Form
HeadTermSum = nonterminal 198

abbrev pub LogicTermSum : Form
LogicTermSum = nonterminal 199

abbrev pub TermProd : Form
TermProd = nonterminal 200

abbrev pub HeadTermProd : Form
HeadTermProd = nonterminal 201

abbrev pub LogicTermProd : Form
LogicTermProd = nonterminal 202

abbrev pub TermUnary : Form
TermUnary = nonterminal 203

abbrev pub HeadTermUnary : Form
HeadTermUnary = nonterminal 204

abbrev pub LogicTermUnary : Form
LogicTermUnary = nonterminal 205

abbrev pub PrefixTerm : Form
PrefixTerm = nonterminal 206

abbrev pub HeadPrefixTerm : Form
HeadPrefixTerm = nonterminal 207

abbrev pub TermPostfix : Form
TermPostfix = nonterminal 208

abbrev pub HeadTermPostfix : Form
HeadTermPostfix = nonterminal 209

abbrev pub LogicTermPostfix : Form
LogicTermPostfix = nonterminal 210

abbrev pub View : Form
View = nonterminal 211

abbrev pub TermMember : Form
TermMember = nonterminal 212

abbrev pub TermArguments : Form
TermArguments = nonterminal 213

abbrev pub TermPrim : Form
TermPrim = nonterminal 214

abbrev pub HeadTermPrim : Form
HeadTermPrim = nonterminal 215

abbrev pub LogicTermPrim : Form
LogicTermPrim = nonterminal 216

abbrev pub Quantified : Form
Quantified = nonterminal 217

abbrev pub HeadQuantified : Form
HeadQuantified = nonterminal 218

abbrev pub Binder : Form
Binder = nonterminal 219

abbrev pub PathTerm : Form
PathTerm = nonterminal 220

abbrev pub HeadPathTerm : Form
HeadPathTerm = nonterminal 221

abbrev pub LogicPathTerm : Form
LogicPathTerm = nonterminal 222

abbrev pub TermParts : Form
TermParts = nonterminal 223

abbrev pub TermPath : Form
TermPath = nonterminal 224

abbrev pub TermPathName : Form
TermPathName = nonterminal 225

abbrev pub LogicTermPath : Form
LogicTermPath = nonterminal 226

abbrev pub LogicPathName : Form
LogicPathName = nonterminal 227

abbrev pub FieldTerms : Form
FieldTerms = nonterminal 228

abbrev pub FieldTerm : Form
FieldTerm = nonterminal 229

abbrev pub TermAtom : Form
TermAtom = nonterminal 230

abbrev pub IntegerTerm : Form
IntegerTerm = nonterminal 231

abbrev pub TruthTerm : Form
TruthTerm = nonterminal 232

abbrev pub AnswerTerm : Form
AnswerTerm = nonterminal 233

abbrev pub SelfTerm : Form
SelfTerm = nonterminal 234

abbrev pub ParenTerm : Form
ParenTerm = nonterminal 235

abbrev pub IfTerm : Form
IfTerm = nonterminal 236

abbrev pub MatchTerm : Form
MatchTerm = nonterminal 237

abbrev pub TermArm : Form
TermArm = nonterminal 238

abbrev pub MutRefTerm : Form
MutRefTerm = nonterminal 239

abbrev pub PredicateTerm : Form
PredicateTerm = nonterminal 240

abbrev pub AfterTerm : Form
AfterTerm = nonterminal 241

abbrev pub AfterPattern : Form
AfterPattern = nonterminal 242

abbrev pub AfterName : Form
AfterName = nonterminal 243
