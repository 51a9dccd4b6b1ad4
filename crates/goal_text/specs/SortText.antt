-- How a sort is printed.
use Rattle.std.specs.Prelude.{ℕ, ◌==◌, List, [], ◌∷◌, ◌++◌, codes, length, if◌then◌else◌}
use Rattle.std.specs.Fmt.{decimal}
use Rattle.std.specs.List.{join_by}
use Rattle.source_kinds.specs.declared.kinds.IntKind.{IntKind}
use Rattle.source_kinds.specs.declared.kinds.IntKind.TheVariants.{I8, I16, I32, I64, Isize, U8, U16, U32, U64, Usize}
use Rattle.logic_term.specs.Ty.{Ty, Tys, int, bool, math_int, tuple, adt, boxed, shared, unique, param, closure, viewed, snapshot, no_tys, and_ty}
use Rattle.goal_text.specs.Spelling.{Spelling, adt_text}

-- A, B
abbrev pub commas : List (List ℕ) → List ℕ
commas parts = join_by (λ part. part) (codes ", ") parts

-- the end of a tuple of so many parts: a lone part has a comma after it
abbrev pub tuple_end : ℕ → List ℕ
tuple_end parts = if parts == 1 then codes ",)" else codes ")"

-- (), (A,) or (A, B)
abbrev pub tuple_text : List (List ℕ) → List ℕ
tuple_text parts = codes "(" ++ commas parts ++ tuple_end (length parts)

-- a word with a number right after it
abbrev pub numbered : List ℕ → ℕ → List ℕ
numbered word number = word ++ decimal number

abbrev pub kind_text : IntKind → List ℕ
kind_text I8 = codes "i8"
kind_text I16 = codes "i16"
kind_text I32 = codes "i32"
kind_text I64 = codes "i64"
kind_text Isize = codes "isize"
kind_text U8 = codes "u8"
kind_text U16 = codes "u16"
kind_text U32 = codes "u32"
kind_text U64 = codes "u64"
kind_text Usize = codes "usize"

-- <A, B>, where there is any
abbrev pub arguments_text : List (List ℕ) → List ℕ
arguments_text [] = []
arguments_text (t ∷ ts) = codes "<" ++ commas (t ∷ ts) ++ codes ">"

-- the sort, regions and signatures left out
abbrev mutual
  pub sort_text : Spelling → Ty → List ℕ
  sort_text w (int kind) = kind_text kind
  sort_text w bool = codes "bool"
  sort_text w math_int = codes "Int"
  sort_text w (tuple parts) = tuple_text (sort_texts w parts)
  sort_text w (adt declared regions types) = adt_text w declared.0 ++ arguments_text (sort_texts w types)
  sort_text w (boxed t) = codes "Box<" ++ sort_text w t ++ codes ">"
  sort_text w (shared region t) = codes "&" ++ sort_text w t
  sort_text w (unique region t) = codes "&mut " ++ sort_text w t
  sort_text w (param number) = numbered (codes "param") number
  sort_text w (closure number types captures kind params result) =
      numbered (codes "closure") number ++ codes "<" ++ commas (sort_texts w types) ++ codes ">(" ++ commas (sort_texts w captures) ++ codes ")"
  sort_text w (viewed t) = codes "View<" ++ sort_text w t ++ codes ">"
  sort_text w (snapshot t) = codes "Snapshot<" ++ sort_text w t ++ codes ">"

  pub sort_texts : Spelling → Tys → List (List ℕ)
  sort_texts w no_tys = []
  sort_texts w (and_ty t ts) = sort_text w t ∷ sort_texts w ts

-- what follows the digits of a literal of the sort
abbrev pub suffix : Ty → List ℕ
suffix (int kind) = kind_text kind
suffix _ = []
