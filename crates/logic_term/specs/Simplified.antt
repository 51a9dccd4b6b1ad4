-- The operators of normal forms: `@` of a literal is the unbounded integer, a part of what is made of parts is that part, and an `if` of
-- `true` or `false` is one of its sides.
use Rattle.std.specs.Prelude.{ℕ, zero, suc, Bool, true, false}
use Rattle.logic_term.specs.Ty.{int, math_int}
use Rattle.logic_term.specs.Term.{Operator, modeled, field, choice, made, Term, Terms, lit, truth, apply, no_terms, and_term}

-- the term of this number, from 0; past the end what stands for a part that is missing
abbrev pub nth_term : Terms → ℕ → Term
nth_term no_terms n = truth false
nth_term (and_term t ts) zero = t
nth_term (and_term t ts) (suc n) = nth_term ts n

-- the operator at terms in normal form, in normal form
abbrev pub simplified : Operator → Terms → Term
simplified modeled (and_term (lit z (int k)) no_terms) = lit z math_int
simplified (field n) (and_term (apply (made c) ts) no_terms) = nth_term ts n
simplified choice (and_term (truth true) (and_term a (and_term b no_terms))) = a
simplified choice (and_term (truth false) (and_term a (and_term b no_terms))) = b
simplified op ts = apply op ts

-- the operator at terms, reduced where that is asked
abbrev pub formed : (reduces : Bool) → Operator → Terms → Term
formed true op ts = simplified op ts
formed false op ts = apply op ts
