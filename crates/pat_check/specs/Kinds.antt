-- Types of integers, compared.
use Rattle.std.specs.Prelude.{Bool, true, false, Option, Some, None}
use Rattle.source_kinds.specs.declared.kinds.IntKind.{IntKind}
use Rattle.source_kinds.specs.declared.kinds.IntKind.TheVariants.{I8, I16, I32, I64, Isize, U8, U16, U32, U64, Usize}

abbrev pub same_int : IntKind → IntKind → Bool
same_int I8 I8 = true
same_int I16 I16 = true
same_int I32 I32 = true
same_int I64 I64 = true
same_int Isize Isize = true
same_int U8 U8 = true
same_int U16 U16 = true
same_int U32 U32 = true
same_int U64 U64 = true
same_int Usize Usize = true
same_int _ _ = false

-- the unbounded integers are none of the machine's
abbrev pub is_kind : IntKind → Option IntKind → Bool
is_kind k None = false
is_kind k (Some j) = same_int k j
