-- Where the line feeds of a text stand.
use Rattle.std.specs.Prelude.{◌≡◌, ℕ, suc, ◌+◌, ◌<◌, ◌^◌, ◌==◌, List, [], ◌∷◌, length, if◌then◌else◌}
use Rattle.report_out.specs.declared.line_feeds.Lines.{Lines}

-- the offsets of the line feeds, in order, the first byte being at n
abbrev pub feeds_from : ℕ → List ℕ → List ℕ
feeds_from n [] = []
feeds_from n (b ∷ bytes) = if b == 10 then n ∷ feeds_from (suc n) bytes else feeds_from (suc n) bytes

abbrev pub line_feeds : List ℕ → List ℕ
line_feeds bytes = feeds_from 0 bytes

-- the offsets are those of the source's line feeds, and its lines can be counted in 32 bits
pub record AreNumbered (l : Lines) : Type 0 where
  pub feeds : l.feeds ≡ line_feeds l.source.now
  pub short : length l.source.now + 1 < 2 ^ 32
