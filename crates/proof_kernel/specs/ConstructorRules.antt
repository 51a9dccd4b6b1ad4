-- What an equation of values that constructors made says: of one constructor, that the parts are equal; different ones make no value in common
-- (Comon, Dauchet et al. 2008, Tree Automata, on free constructors).
use Rattle.std.specs.Prelude.{◌&&◌, ◌==◌, not, Bool, false, List, [], ◌∷◌, Option, Some, None, if◌then◌else◌}
use Rattle.logic_term.specs.declared.kinds.Ctor.{Ctor}
use Rattle.logic_term.specs.Matches.{same_ctor}
use Rattle.logic_term.specs.Term.{equal, made, Term, Terms, apply, no_terms, and_term, count, is_equal}

-- the constructor that makes the value, and its parts
abbrev pub constructed : Term → Option (Ctor × Terms)
constructed (apply (made c) ts) = Some (c, ts)
constructed t = None

-- the equations of the terms at the same places
abbrev pub equations : Terms → Terms → List Term
equations (and_term a ts) (and_term b us) = is_equal a b ∷ equations ts us
equations ts us = []

abbrev pub alike_parts : (Ctor × Terms) → (Ctor × Terms) → Bool
alike_parts p q = same_ctor p.0 q.0 && (count p.1 == count q.1)

-- of one constructor, with equally many parts
abbrev pub injected_by : Option (Ctor × Terms) → Option (Ctor × Terms) → Option (List Term)
injected_by (Some p) (Some q) = if alike_parts p q then Some (equations p.1 q.1) else None
injected_by o p = None

-- the equations of the parts, if the formula equates two values of one constructor
abbrev pub injected : Term → Option (List Term)
injected (apply equal (and_term a (and_term b no_terms))) = injected_by (constructed a) (constructed b)
injected t = None

abbrev pub apart_by : Option (Ctor × Terms) → Option (Ctor × Terms) → Bool
apart_by (Some p) (Some q) = not (same_ctor p.0 q.0)
apart_by o p = false

-- the formula equates values of two constructors
abbrev pub equates_apart : Term → Bool
equates_apart (apply equal (and_term a (and_term b no_terms))) = apart_by (constructed a) (constructed b)
equates_apart t = false
