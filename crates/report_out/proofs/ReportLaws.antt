-- Joining the pieces of a line.
use Rattle.std.specs.Prelude.{◌≡◌, ℕ, List, ◌++◌, codes}
use Rattle.std.specs.Fmt.{decimal}
use Rattle.report_out.specs.declared.listed.ListedItem.{ListedItem}
use Rattle.report_out.specs.Report.{line_feed, space, kind_text, span_text, line_number, listed_line}
use Rattle.std.proofs.lemmas.List.{append_assoc}

pub three_joined : (start one two a b c d e f : List ℕ) → one ≡ start ++ a → two ≡ one ++ (b ++ c ++ d ++ e) → two ++ f ≡ start ++ (a ++ b ++ c ++ d ++ e ++ f)
three_joined start one two a b c d e f one_is two_is = rw (two_is, one_is) (simp append_assoc)

pub four_pieces : (start one two three four a b c d : List ℕ) → one ≡ start ++ a → two ≡ one ++ b → three ≡ two ++ c → four ≡ three ++ d → four ≡ start ++ (a ++ b ++ c ++ d)
four_pieces start one two three four a b c d one_is two_is three_is four_is = rw (four_is, three_is, two_is, one_is) (simp append_assoc)

five_joined : (start one two three four five a b c d e f g h s l : List ℕ) → one ≡ start ++ (a ++ b ++ s ++ c) → two ≡ one ++ s → three ≡ two ++ (d ++ e ++ f) → four ≡ three ++ s → five ≡ four ++ (g ++ l ++ h ++ l)
    → five ≡ start ++ (a ++ b ++ s ++ c ++ s ++ d ++ e ++ f ++ s ++ g ++ l ++ h ++ l)
five_joined start one two three four five a b c d e f g h s l one_is two_is three_is four_is five_is = rw (five_is, four_is, three_is, two_is, one_is) (simp append_assoc)

pub listed_joined : (source : List ℕ) (o : ListedItem) (start one two three four five : List ℕ) → one ≡ start ++ (codes "obligation " ++ decimal o.number ++ space ++ kind_text o.kind) → two ≡ one ++ space
    → three ≡ two ++ (span_text o.span ++ codes " line " ++ decimal (line_number source o.span.start)) → four ≡ three ++ space → five ≡ four ++ (o.owner ++ line_feed ++ o.goal ++ line_feed) → five ≡ start ++ listed_line source o
unfolding listed_line
listed_joined source o start one two three four five one_is two_is three_is four_is five_is =
    five_joined start one two three four five (codes "obligation ") (decimal o.number) (kind_text o.kind) (span_text o.span) (codes " line ") (decimal (line_number source o.span.start)) o.owner o.goal space line_feed
    one_is two_is three_is four_is five_is
