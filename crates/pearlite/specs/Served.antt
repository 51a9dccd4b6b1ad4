-- What the lines of a grammar ask of their parts, by the families that these are of, and that it is there. Families are numbers.
use Rattle.std.specs.Prelude.{◌≡◌, ℕ, ◌+◌, true, false, List, [], ◌∷◌, length, map, Option, None, Some}
use Rattle.grammar_tables.specs.First.{is_in, first_some}
use Rattle.grammar_tables.specs.Trees.{Tree, Trees, leaf, node, none, both, SemanticActions, all_values, size}

-- Parts of these families stand among the others, in this order. Each place lists the families of which one may stand there.
pub data Among : List (List ℕ) → List ℕ → Type 0 where
  nothing : {fs : List ℕ} → Among [] fs
  this : {f : ℕ} {place : List ℕ} {places : List (List ℕ)} {fs : List ℕ} → is_in (Some f) place ≡ true → Among places fs → Among (place ∷ places) (f ∷ fs)
  further : {g : ℕ} {places : List (List ℕ)} {fs : List ℕ} → Among places fs → Among places (g ∷ fs)

-- and as the first ones, one behind the other
abbrev pub StartWith : List (List ℕ) → List ℕ → Type 0
StartWith [] fs = Unit {0}
StartWith (place ∷ places) [] = ⊥
StartWith (place ∷ places) (f ∷ fs) = (is_in (Some f) place ≡ true) × StartWith places fs

-- each is one of these
abbrev pub AreAll : List ℕ → List ℕ → Type 0
AreAll these [] = Unit {0}
AreAll these (f ∷ fs) = (is_in (Some f) these ≡ true) × AreAll these fs

abbrev pub last_of : List ℕ → Option ℕ
last_of [] = None
last_of (f ∷ fs) = first_some (last_of fs) (Some f)

-- What a line asks of its parts.
pub record Asks : Type 0 where
  -- that parts of these families stand there, in this order
  pub parts : List (List ℕ)
  -- and these as the first ones
  pub first : List (List ℕ)
  -- that each part is of one of these
  pub families : List ℕ
  -- that the last one is
  pub last : List ℕ
  -- that the second one is, where there are three
  pub alone : List ℕ

-- what the line asks is there
pub record AreThere (asks : Asks) (fs : List ℕ) : Type 0 where
  pub parts : Among asks.parts fs
  pub first : StartWith asks.first fs
  pub families : AreAll asks.families fs
  pub last : (f : ℕ) → last_of fs ≡ Some f → is_in (Some f) asks.last ≡ true
  pub alone : (f g h : ℕ) → fs ≡ f ∷ g ∷ h ∷ [] → is_in (Some g) asks.alone ≡ true

-- each line in the tree that is made into something has what it asks for
abbrev mutual
  pub IsServed : {V : Type 0} → SemanticActions V → (V → ℕ) → (ℕ → Asks) → ℕ → Tree → Type 0
  IsServed m family asks at (leaf k) = Unit {0}
  IsServed m family asks at (node n r ts) = (m.keeps n r (length (all_values m at ts)) ≡ false → AreThere (asks n) (map family (all_values m at ts))) × AllServed m family asks at ts

  pub AllServed : {V : Type 0} → SemanticActions V → (V → ℕ) → (ℕ → Asks) → ℕ → Trees → Type 0
  AllServed m family asks at none = Unit {0}
  AllServed m family asks at (both t ts) = IsServed m family asks at t × AllServed m family asks (at + size t) ts
