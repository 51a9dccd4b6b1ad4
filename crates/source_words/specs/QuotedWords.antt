-- The quoted words that are no keywords, with their kinds. Made by `python3 tools/grammar.py` of tools/source.ebnf.
use Rattle.std.specs.Prelude.{ℕ, List, [], ◌∷◌, codes}
use Rattle.source_grammar.specs.Classes.{kind_of}
use Rattle.source_grammar.specs.Terminals.{WordCreusotContracts, WordStd, WordRequires, WordEnsures, WordInvariant, WordVariant, WordLogic, WordLaw, WordDerive, WordAllow, WordInline, WordMustUse, WordDoc, WordPearlite, WordFn}
use Rattle.source_grammar.specs.Terminals.{WordFnMut, WordFnOnce, WordViewTy, WordPanic, WordUnreachable, WordProofAssert, WordSnapshot, WordResult, WordForall, WordExists, WordMutRef, WordPrecondition, WordPostcondition, WordPostconditionMut}
use Rattle.source_grammar.specs.Terminals.{WordPostconditionOnce, WordF32, WordF64, WordChar, WordStr, WordI128, WordU128, WordUnion, WordBox, WordYield}

unfoldable pub quoted : List (List ℕ × ℕ)
quoted =
    (codes "creusot_contracts", kind_of WordCreusotContracts)
    ∷ (codes "std", kind_of WordStd)
    ∷ (codes "requires", kind_of WordRequires)
    ∷ (codes "ensures", kind_of WordEnsures)
    ∷ (codes "invariant", kind_of WordInvariant)
    ∷ (codes "variant", kind_of WordVariant)
    ∷ (codes "logic", kind_of WordLogic)
    ∷ (codes "law", kind_of WordLaw)
    ∷ (codes "derive", kind_of WordDerive)
    ∷ (codes "allow", kind_of WordAllow)
    ∷ (codes "inline", kind_of WordInline)
    ∷ (codes "must_use", kind_of WordMustUse)
    ∷ (codes "doc", kind_of WordDoc)
    ∷ (codes "pearlite", kind_of WordPearlite)
    ∷ (codes "Fn", kind_of WordFn)
    ∷ (codes "FnMut", kind_of WordFnMut)
    ∷ (codes "FnOnce", kind_of WordFnOnce)
    ∷ (codes "ViewTy", kind_of WordViewTy)
    ∷ (codes "panic", kind_of WordPanic)
    ∷ (codes "unreachable", kind_of WordUnreachable)
    ∷ (codes "proof_assert", kind_of WordProofAssert)
    ∷ (codes "snapshot", kind_of WordSnapshot)
    ∷ (codes "result", kind_of WordResult)
    ∷ (codes "forall", kind_of WordForall)
    ∷ (codes "exists", kind_of WordExists)
    ∷ (codes "MutRef", kind_of WordMutRef)
    ∷ (codes "precondition", kind_of WordPrecondition)
    ∷ (codes "postcondition", kind_of WordPostcondition)
    ∷ (codes "postcondition_mut", kind_of WordPostconditionMut)
    ∷ (codes "postcondition_once", kind_of WordPostconditionOnce)
    ∷ (codes "f32", kind_of WordF32)
    ∷ (codes "f64", kind_of WordF64)
    ∷ (codes "char", kind_of WordChar)
    ∷ (codes "str", kind_of WordStr)
    ∷ (codes "i128", kind_of WordI128)
    ∷ (codes "u128", kind_of WordU128)
    ∷ (codes "union", kind_of WordUnion)
    ∷ (codes "box", kind_of WordBox)
    ∷ (codes "yield", kind_of WordYield)
    ∷ []
