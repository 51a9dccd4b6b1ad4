-- What is printed.
use Rattle.std.specs.Prelude.{ℕ, ◌+◌, ◌==◌, List, [], ◌∷◌, ◌++◌, codes, count_by, filter, flat_map, length, take, if◌then◌else◌, Option, None, Some}
use Rattle.std.specs.Fmt.{decimal}
use Rattle.text_core.specs.declared.refusal.Kind.{Kind}
use Rattle.text_core.specs.declared.refusal.Kind.TheVariants.{Requires, Assert, Overflow, Division, Unreachable, InvEntry, InvKept, Ensures, RefineRequires, RefineEnsures, Law, Lemma}
use Rattle.text_core.specs.declared.refusal.Code.{Code}
use Rattle.text_core.specs.declared.refusal.Code.TheVariants.{E01, E02, E03, E04, E05, E06, E07, E08, E09, E10, E11, E12, E13, E14, E15, E16, E17, E18, E19, E20, E21, E22}
use Rattle.text_core.specs.declared.refusal.LimitKind.{LimitKind}
use Rattle.text_core.specs.declared.refusal.LimitKind.TheVariants.{SourceBytes, Functions, Blocks, Paths, Obligations, ProofBytes, ProofLines, Frames, Width, Rows, Terms}
use Rattle.text_core.specs.declared.refusal.Limit.{Limit}
use Rattle.text_core.specs.declared.refusal.SourceError.{SourceError}
use Rattle.text_core.specs.declared.span.Span.{Span}
use Rattle.report_out.specs.declared.verdict.Reason.{Reason}
use Rattle.report_out.specs.declared.verdict.Reason.TheVariants.{Missing, Proof}
use Rattle.report_out.specs.declared.verdict.FnLine.{FnLine}
use Rattle.report_out.specs.declared.verdict.LeftItem.{LeftItem}
use Rattle.report_out.specs.declared.verdict.Verdict.{Verdict}
use Rattle.report_out.specs.declared.listed.ListedItem.{ListedItem}

abbrev pub line_feed : List ℕ
line_feed = 10 ∷ []

abbrev pub space : List ℕ
space = codes " "

abbrev pub kind_text : Kind → List ℕ
kind_text Requires = codes "requires"
kind_text Assert = codes "assert"
kind_text Overflow = codes "overflow"
kind_text Division = codes "division"
kind_text Unreachable = codes "unreachable"
kind_text InvEntry = codes "inv-entry"
kind_text InvKept = codes "inv-kept"
kind_text Ensures = codes "ensures"
kind_text RefineRequires = codes "refine-requires"
kind_text RefineEnsures = codes "refine-ensures"
kind_text Law = codes "law"
kind_text Lemma = codes "lemma"

abbrev pub reason_text : Reason → List ℕ
reason_text Missing = codes "missing"
reason_text (Proof line) = codes "proof:" ++ decimal line

-- A..B
abbrev pub span_text : Span → List ℕ
span_text s = decimal s.start ++ codes ".." ++ decimal s.end

-- one more than the line feeds before the offset
abbrev pub line_number : List ℕ → ℕ → ℕ
line_number source offset = 1 + count_by (λ b. b == 10) (take offset source)

abbrev pub verified_line : List ℕ → List ℕ
verified_line name = codes "verified " ++ name ++ line_feed

abbrev pub function_line : FnLine → List ℕ
function_line f = if f.verified then verified_line f.name else []

-- open NUMBER KIND A..B line L REASON OWNER
abbrev pub open_line : List ℕ → LeftItem → List ℕ
open_line source o =
    codes "open " ++ decimal o.number ++ space ++ kind_text o.kind ++ space ++ span_text o.span
    ++ codes " line " ++ decimal (line_number source o.span.start) ++ space ++ reason_text o.reason ++ space ++ o.owner ++ line_feed

abbrev pub verified_count : Verdict → ℕ
verified_count v = length (filter (λ f. f.verified) v.functions)

abbrev pub summary_line : Verdict → List ℕ
summary_line v =
    codes "summary functions " ++ decimal (length v.functions) ++ codes " verified " ++ decimal (verified_count v)
    ++ codes " obligations " ++ decimal v.obligations ++ codes " proved " ++ decimal v.proved ++ line_feed

-- the report of a verdict on a source
abbrev pub report_of : List ℕ → Verdict → List ℕ
report_of source v = flat_map function_line v.functions ++ flat_map (open_line source) v.left ++ summary_line v

-- ---- refusals

abbrev pub code_text : Code → List ℕ
code_text E01 = codes "E01"
code_text E02 = codes "E02"
code_text E03 = codes "E03"
code_text E04 = codes "E04"
code_text E05 = codes "E05"
code_text E06 = codes "E06"
code_text E07 = codes "E07"
code_text E08 = codes "E08"
code_text E09 = codes "E09"
code_text E10 = codes "E10"
code_text E11 = codes "E11"
code_text E12 = codes "E12"
code_text E13 = codes "E13"
code_text E14 = codes "E14"
code_text E15 = codes "E15"
code_text E16 = codes "E16"
code_text E17 = codes "E17"
code_text E18 = codes "E18"
code_text E19 = codes "E19"
code_text E20 = codes "E20"
code_text E21 = codes "E21"
code_text E22 = codes "E22"

abbrev pub limit_text : LimitKind → List ℕ
limit_text SourceBytes = codes "source-bytes"
limit_text Functions = codes "functions"
limit_text Blocks = codes "blocks"
limit_text Paths = codes "paths"
limit_text Obligations = codes "obligations"
limit_text ProofBytes = codes "proof-bytes"
limit_text ProofLines = codes "proof-lines"
limit_text Frames = codes "frames"
limit_text Width = codes "width"
limit_text Rows = codes "rows"
limit_text Terms = codes "terms"

-- the second place of a refusal, where it has one
abbrev pub other_text : Option Span → List ℕ
other_text None = []
other_text (Some s) = space ++ span_text s

-- error E17 A..B C..D line L
abbrev pub source_error_line : List ℕ → SourceError → List ℕ
source_error_line source e =
    codes "error " ++ code_text e.code ++ space ++ span_text e.span ++ other_text e.other ++ codes " line " ++ decimal (line_number source e.span.start) ++ line_feed

abbrev pub proof_error_line : ℕ → List ℕ
proof_error_line line = codes "error proof " ++ decimal line ++ line_feed

abbrev pub words_error_line : List ℕ
words_error_line = codes "error words" ++ line_feed

-- limit KIND COUNTED BOUND
abbrev pub limit_line : Limit → List ℕ
limit_line l = codes "limit " ++ limit_text l.kind ++ space ++ decimal l.counted ++ space ++ decimal l.bound ++ line_feed

-- ---- the list

-- obligation NUMBER KIND A..B line L OWNER, and the goal on a line of its own
unfoldable pub listed_line : List ℕ → ListedItem → List ℕ
listed_line source o =
    codes "obligation " ++ decimal o.number ++ space ++ kind_text o.kind ++ space ++ span_text o.span
    ++ codes " line " ++ decimal (line_number source o.span.start) ++ space ++ o.owner ++ line_feed ++ o.goal ++ line_feed

abbrev pub list_of : List ℕ → List ListedItem → List ℕ
list_of source items = flat_map (listed_line source) items
