-- The rows of the translation, reduced to three commands (RustHorn, Matsushita, Tsukada and Kobayashi 2020; Creusot, Denis, Jourdan
-- and Marché 2022). A formula after a command is seen from before it, as in Dijkstra's weakest preconditions.
use Rattle.std.specs.Prelude.{List, [], ◌∷◌, map}
use Rattle.text_core.specs.declared.name.Name.{Name}
use Rattle.logic_term.specs.Meaning.{Structure, Env, with_value, Holds}
use Rattle.logic_term.specs.Laws.{HasExactly}
use Rattle.logic_term.specs.Sort.{HasSort, instance}
use Rattle.logic_term.specs.Theory.{declared}
use Rattle.logic_term.specs.Subst.{replaced}
use Rattle.logic_term.specs.Term.{Term, implies, forall}
use Rattle.logic_term.specs.Ty.{Ty}
use Rattle.logic_term.specs.Value.{Value}
use Rattle.prophecy_logic.specs.declared.command.Command.{Command}
use Rattle.prophecy_logic.specs.declared.command.Command.TheVariants.{Set, Fresh, Assume}

-- a formula after the command, seen from before it
abbrev pub before : Command → Term → Term
before (Set x t) φ = replaced x t φ
before (Fresh x s) φ = forall x s φ
before (Assume a) φ = implies a φ

abbrev pub before_all : List Command → Term → Term
before_all [] φ = φ
before_all (c ∷ cs) φ = before c (before_all cs φ)

-- each of these is known
abbrev pub assumed : List Term → List Command
assumed ts = map Assume ts

-- ---- what a command does to the values of names

pub data Moves (S : Structure) : Command → Env → Env → Type 0 where
  by_set : {x : Name} {t : Term} {ρ : Env} (w : Value) → HasExactly S t ρ w → Moves S (Set x t) ρ (with_value ρ x w)
  by_fresh : {x : Name} {s : Ty} {ρ : Env} (w : Value) → HasSort (declared S.theory) w (instance S.types s) → Moves S (Fresh x s) ρ (with_value ρ x w)
  by_assume : {a : Term} {ρ : Env} → Holds S a ρ → Moves S (Assume a) ρ ρ

pub data MovesAll (S : Structure) : List Command → Env → Env → Type 0 where
  none : {ρ : Env} → MovesAll S [] ρ ρ
  more : {c : Command} {cs : List Command} {ρ σ τ : Env} → Moves S c ρ σ → MovesAll S cs σ τ → MovesAll S (c ∷ cs) ρ τ
