-- What quantifiers bind in terms (Pearlite, Creusot), and what a name means under them. What stands around a term is listed with the innermost first, the
-- binders of one quantifier as they are written. Formulas speak of what is bound by its name in the source.
use Rattle.std.specs.Prelude.{◌==◌, cond, Bool, true, false, List, [], ◌∷◌, ◌++◌, Option, Some, None, Result, Ok, Err, if◌then◌else◌}
use Rattle.text_core.specs.declared.name.Name.{Name}
use Rattle.text_core.specs.declared.refusal.Code.TheVariants.{E06}
use Rattle.text_core.specs.declared.refusal.SourceError.{SourceError}
use Rattle.text_core.specs.declared.span.Span.{Span}
use Rattle.logic_term.specs.Term.{Quantifier, Term, bind}
use Rattle.logic_term.specs.declared.declaration.AdtDecl.{AdtDecl}
use Rattle.source_trees.specs.declared.binder.Binder.{Binder}
use Rattle.logic_elab.specs.declared.scope.Symbol.{Symbol}
use Rattle.logic_elab.specs.Answers.{◌>>=◌}
use Rattle.logic_elab.specs.WrittenSorts.{written_sort}

-- ---- names under binders

-- what formulas speak of by another name: none that the binder would catch
abbrev pub apart : Name → Option Symbol → Option Symbol
apart x None = None
apart x (Some a) = cond (a.name.0 == x.0) None (Some a)

-- what the name means under the binder, by what it means around it
abbrev pub under_one : Name → Symbol → Option Symbol → Option Symbol
under_one x b o = cond (x.0 == b.name.0) (Some b) (apart b.name o)

-- by what it means outside of all binders
abbrev pub meant_under : Name → List Symbol → Option Symbol → Option Symbol
meant_under x [] o = o
meant_under x (b ∷ bs) o = under_one x b (meant_under x bs o)

-- under the binders xs of a quantifier, too
abbrev pub inside : List Symbol → List Symbol → List Symbol
inside bs [] = bs
inside bs (x ∷ xs) = inside (x ∷ bs) xs

-- ---- binders

abbrev pub is_bound : Name → List Symbol → Bool
is_bound x [] = false
is_bound x (b ∷ bs) = if x.0 == b.name.0 then true else is_bound x bs

-- a name twice among the binders of a quantifier
abbrev pub double_name : Span → SourceError
double_name s = record { code = E06; span = s; other = None }

-- the binder, after others of its quantifier, where these types are declared
abbrev pub symbol_after : List AdtDecl → List Symbol → Binder → Result Symbol SourceError
symbol_after ds xs b =
    if is_bound b.name.name xs then Err (double_name b.name.span) else (do
      t ← written_sort ds b.ty
      Ok (record { name = b.name.name; sort = t }))

abbrev pub symbols_after : List AdtDecl → List Symbol → List Binder → Result (List Symbol) SourceError
symbols_after ds xs [] = Ok xs
symbols_after ds xs (b ∷ bs) = do
  x ← symbol_after ds xs b
  symbols_after ds (xs ++ x ∷ []) bs

-- the binders of a quantifier, from the left
abbrev pub symbols_of : List AdtDecl → List Binder → Result (List Symbol) SourceError
symbols_of ds bs = symbols_after ds [] bs

-- the formula over values of these: for all of them, or for some
abbrev pub bound_all : Quantifier → List Symbol → Term → Term
bound_all q [] p = p
bound_all q (x ∷ xs) p = bind q x.name x.sort (bound_all q xs p)
