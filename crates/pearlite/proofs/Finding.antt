-- What is asked among the parts of a line is found there.
use Rattle.std.proofs.Common.{◌≡◌, ℕ, List, [], ◌∷◌, map, Some, None, ◌⊎◌, inl, inr, refl, arith}
use Rattle.std.specs.Prelude.{Option, IsSome}
use Rattle.pearlite.specs.declared.part.Value.{Value}
use Rattle.pearlite.specs.declared.part.Value.TheVariants as V
use Rattle.pearlite.specs.Parts.{as_type, as_pattern, as_path, as_term, this_or, first_of, behind_by, behind}
use Rattle.pearlite.specs.Served.{Among, this, further}
use Rattle.pearlite.proofs.Serving.{is_itself_in}
use Rattle.pearlite.specs.Asked.{a_type, a_pattern, a_path, a_term, family_of, family_in, IsFound}

among_others : {place : List ℕ} {places : List (List ℕ)} {fs : List ℕ} → Among (place ∷ places) fs → Among places fs
among_others (this i a) = further a
among_others (further a) = further (among_others a)

pub first_or_later : {f g : ℕ} {places : List (List ℕ)} {fs : List ℕ} → Among ((f ∷ []) ∷ places) (g ∷ fs) → (g ≡ f) ⊎ Among ((f ∷ []) ∷ places) fs
first_or_later {f} {g} (this i a) = inl (is_itself_in f g i)
first_or_later (further a) = inr a

others_later : {g : ℕ} {place : List ℕ} {places : List (List ℕ)} {fs : List ℕ} → Among (place ∷ places) (g ∷ fs) → Among places fs
others_later (this i a) = a
others_later (further a) = among_others a

found : {A : Type 0} (seen : Value → Option A) (f : ℕ) → ((v : Value) → family_of v ≡ f → seen v ≡ None → ⊥) → IsFound seen f
unfolding first_of behind
found seen f knows places [] h = elim h [ ]
found {A} seen f knows places (p ∷ ps) h = by (seen p.value) refl (found seen f knows places ps)
  where
    by : (o : Option A) → seen p.value ≡ o → (Among ((f ∷ []) ∷ places) (map family_in ps) → IsSome (first_of seen ps) × Among places (map family_in (behind seen ps)))
        → IsSome (this_or o (first_of seen ps)) × Among places (map family_in (behind_by o ps (behind seen ps)))
    by (Some x) e others = (refl, others_later h)
    by None e others = elim (first_or_later h) [ inl s ↦ absurd (knows p.value s e) | inr a ↦ others a ]

pub type_found : IsFound as_type a_type
unfolding as_type
type_found = found as_type a_type knows
  where
    knows : (v : Value) → family_of v ≡ a_type → as_type v ≡ None → ⊥
    knows (V.Type ty) s e = cc
    knows v s e = omega arith

pub pattern_found : IsFound as_pattern a_pattern
unfolding as_pattern
pattern_found = found as_pattern a_pattern knows
  where
    knows : (v : Value) → family_of v ≡ a_pattern → as_pattern v ≡ None → ⊥
    knows (V.Pattern pattern) s e = cc
    knows v s e = omega arith

pub path_found : IsFound as_path a_path
unfolding as_path
path_found = found as_path a_path knows
  where
    knows : (v : Value) → family_of v ≡ a_path → as_path v ≡ None → ⊥
    knows (V.Path path) s e = cc
    knows v s e = omega arith

pub term_found : IsFound as_term a_term
unfolding as_term
term_found = found as_term a_term knows
  where
    knows : (v : Value) → family_of v ≡ a_term → as_term v ≡ None → ⊥
    knows (V.Term term) s e = cc
    knows v s e = omega arith
