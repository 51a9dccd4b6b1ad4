-- Substitution. It is simultaneous and gives every bound name a new number, so that it never captures.
use Rattle.std.specs.Prelude.{ℕ, suc, ◌==◌, max, true, false, List, [], ◌∷◌, cond}
use Rattle.text_core.specs.declared.name.Name.{Name}
use Rattle.logic_term.specs.declared.subst.Renaming.{Renaming}
use Rattle.logic_term.specs.declared.subst.Replacement.{Replacement}
use Rattle.logic_term.specs.Placed.{Placing, placed, all_placed}
use Rattle.logic_term.specs.Term.{Term, Terms, var, lit, truth, apply, bind, no_terms, and_term}

-- one past the largest name in the term, bound names included
abbrev mutual
  pub above : Term → ℕ
  above (var x) = suc x.0
  above (lit z s) = 0
  above (truth b) = 0
  above (apply op ts) = all_above ts
  above (bind q x s t) = max (suc x.0) (above t)

  pub all_above : Terms → ℕ
  all_above no_terms = 0
  all_above (and_term t ts) = max (above t) (all_above ts)

-- a renaming as an entry
abbrev pub renaming : Renaming → Replacement
renaming r = record { name = r.from; by = var r.to }

-- the first entry of a name counts
abbrev pub look : List Replacement → Name → Term
look [] x = var x
look (e ∷ σ) x = cond (x.0 == e.name.0) e.by (look σ x)

-- the entries' terms, the same at each depth
abbrev pub placing : List Replacement → Placing
placing σ x depth = look σ x

-- the term with σ's terms for its free names, the bound names being numbered from n on
abbrev pub subst : ℕ → List Replacement → Term → Term
subst n σ t = placed false n (placing σ) t

abbrev pub substs : ℕ → List Replacement → Terms → Terms
substs n σ ts = all_placed false n (placing σ) ts

-- the same, reduced: for entries in normal form it is in normal form
abbrev pub put_reduced : ℕ → List Replacement → Term → Term
put_reduced n σ t = placed true n (placing σ) t

-- the numbers of bound names, of which the last was bound innermost, before other entries
abbrev pub numbers_before : List Renaming → List Replacement → List Replacement
numbers_before [] σ = σ
numbers_before (r ∷ rs) σ = numbers_before rs (renaming r ∷ σ)

-- one past the largest name in the entries' terms
abbrev pub above_entries : List Replacement → ℕ
above_entries [] = 0
above_entries (e ∷ σ) = max (above e.by) (above_entries σ)

-- the term with σ's terms for its free names, all at once
abbrev pub with_terms : List Replacement → Term → Term
with_terms σ t = subst (max (above t) (above_entries σ)) σ t

-- the term with names for its free names, all at once, the last of a name counting
abbrev pub renamed : List Renaming → Term → Term
renamed rs t = with_terms (numbers_before rs []) t

-- t with u for x
abbrev pub replaced : Name → Term → Term → Term
replaced x u t = subst (max (above t) (above u)) (record { name = x; by = u } ∷ []) t
