-- What stands around the body of a function.
use Rattle.std.specs.Prelude.{Bool, true, false, List}
use Rattle.logic_term.specs.declared.declaration.AdtDecl.{AdtDecl}
use Rattle.logic_term.specs.Ty.{Ty}
use Rattle.type_check.specs.declared.heading.Heading.{Heading}
use Rattle.type_check.specs.declared.setting.Setting.{Setting as RustSetting}

pub record Setting : Type 0 where
  -- the declared types
  pub types : List AdtDecl
  -- the functions that it may call
  pub headings : List Heading
  -- the type of its answer
  pub answer : Ty
  -- whether a loop is around, which `break` and `continue` are for
  pub in_loop : Bool

abbrev pub setting_of : RustSetting → Setting
setting_of s = record { types = s.types.now; headings = s.headings.now; answer = s.answer.now; in_loop = s.in_loop }

abbrev pub within_loop : Bool → Setting → Setting
within_loop b σ = record { types = σ.types; headings = σ.headings; answer = σ.answer; in_loop = b }

-- in the body of a loop, and in the condition of a `while`, which is in no loop (Rust Reference, "break expressions")
abbrev pub looping : Setting → Setting
looping = within_loop true

abbrev pub outside : Setting → Setting
outside = within_loop false
