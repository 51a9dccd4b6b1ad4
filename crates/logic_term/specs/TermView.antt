-- The terms that nodes and forms stand for, and how deep terms are.
use Rattle.std.specs.Prelude.{ℕ, suc, max, List, [], ◌∷◌}
use Rattle.logic_term.specs.Term.{made, Term, Terms, var, lit, truth, apply, bind, no_terms, and_term, one, two, if_else}
use Rattle.logic_term.specs.TermOperator.{unary_operator, binary_operator, quantifier}
use Rattle.logic_term.specs.declared.term.TermForm.{TermForm}
use Rattle.logic_term.specs.declared.term.TermForm.TheVariants as form
use Rattle.logic_term.specs.declared.term.TermNode.{TermNode}
use Rattle.logic_term.specs.declared.term.TermNode.TheVariants as node

abbrev pub terms_of : List Term → Terms
terms_of [] = no_terms
terms_of (t ∷ ts) = and_term t (terms_of ts)

abbrev pub term_of : TermNode → Term
term_of (node.Var x) = var x
term_of (node.Lit z s) = lit z s
term_of (node.Truth b) = truth b
term_of (node.Make c ts) = apply (made c) (terms_of ts.items)
term_of (node.Unary op a) = one (unary_operator op) a
term_of (node.Binary op a b) = two (binary_operator op) a b
term_of (node.Choice c a b) = if_else c a b
term_of (node.Quantified q x s a) = bind (quantifier q) x s a

-- the same of parts that are lent
abbrev pub term_of_form : TermForm → Term
term_of_form (form.Var x) = var x
term_of_form (form.Lit z s) = lit z s.now
term_of_form (form.Truth b) = truth b
term_of_form (form.Make c ts) = apply (made c) (terms_of ts.now)
term_of_form (form.Unary op a) = one (unary_operator op) a.now
term_of_form (form.Binary op a b) = two (binary_operator op) a.now b.now
term_of_form (form.Choice c a b) = if_else c.now a.now b.now
term_of_form (form.Quantified q x s a) = bind (quantifier q) x s.now a.now

abbrev mutual
  pub term_size : Term → ℕ
  term_size (var x) = 1
  term_size (lit z s) = 1
  term_size (truth b) = 1
  term_size (apply op ts) = suc (terms_size ts)
  term_size (bind q x s t) = suc (term_size t)

  pub terms_size : Terms → ℕ
  terms_size no_terms = 0
  terms_size (and_term t ts) = max (suc (term_size t)) (terms_size ts)
