-- Laws of declared types.
use Rattle.std.specs.Prelude.{◌≡◌, ℕ, Bool, true, List}
use Rattle.logic_term.specs.Sort.{Declarations}
use Rattle.logic_term.specs.Ty.{Tys, adt}
use Rattle.text_core.specs.declared.refusal.SourceError.{SourceError}
use Rattle.logic_term.specs.declared.declaration.AdtDecl.{AdtDecl}
use Rattle.logic_term.specs.declared.kinds.AdtId.{AdtId}
use Rattle.logic_term.specs.declared.kinds.Region.{Region}
use Rattle.rs_types.specs.Bounded.{AreRanked, Bounded, params_from}
use Rattle.rs_types.specs.Checked.{AllPass, IsFirst}
use Rattle.rs_types.specs.declared.checks.Check.{Check}
use Rattle.rs_types.specs.Standing.{Endless}

-- each declared type is bounded at its own type parameters
abbrev pub RankedTypesAreBounded : Type 0
RankedTypesAreBounded = (Δ : Declarations) (rank : AdtId → ℕ) (held : AdtId → ℕ → Bool) → AreRanked Δ rank held → (d : AdtId) (rs : List Region) (m : ℕ) → Bounded Δ (adt d rs (params_from m 0))

-- no declared type of an endless set is bounded
abbrev pub CyclesAreEndless : Type 0
CyclesAreEndless = (Δ : Declarations) (set : AdtId → Bool) → Endless Δ (λ d. set d ≡ true) → (d : AdtId) → set d ≡ true → (rs : List Region) (ts : Tys) → Bounded Δ (adt d rs ts) → ⊥

-- where all checks hold none is refused
abbrev pub WhatHoldsIsNotRefused : Type 0
WhatHoldsIsNotRefused = (ds : List AdtDecl) (cs : List Check) (e : SourceError) → AllPass ds cs → IsFirst ds cs e → ⊥

-- what comes first is refused for one thing
abbrev pub FirstRefusalsAreOne : Type 0
FirstRefusalsAreOne = (ds : List AdtDecl) (cs : List Check) (one other : SourceError) → IsFirst ds cs one → IsFirst ds cs other → one ≡ other
