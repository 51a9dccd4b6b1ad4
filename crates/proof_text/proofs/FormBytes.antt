-- The format and the first bad line of a text, read line by line.
use Rattle.std.proofs.Common.{◌≡◌, ℕ, suc, ◌+◌, ◌==◌, ◌||◌, Bool, true, false, cond, List, [], ◌∷◌, ◌++◌, length, Option, Some, None, Result, Ok, Err, refl, sym, ◌∙◌, ap, subst, arith, add_comm, append_assoc, true≢false}
use Rattle.std.specs.List.{list_any, slice_split, onto_first}
use Rattle.std.proofs.lemmas.List.{append-nil}
use Rattle.std.proofs.lemmas.Bool.Decides.{nat_tests}
use Rattle.name_tables.specs.NameTables.{with_names}
use Rattle.proof_text.specs.declared.proof.Proof.{Proof}
use Rattle.proof_text.specs.declared.proof.ProofFile.{ProofFile}
use Rattle.proof_text.specs.ProofTextWords.{Each}
use Rattle.proof_text.specs.ProofFileForm.{LinesName, BytesName, HasNoFeed, AreLines, ended, IsFileOf, SpellsProofs, BeginsFile, IsFirstBadLine}
use Rattle.proof_text.specs.ProofTextFile.{ProofText, IsProofOf, State, start, between, within, next_state, or_bad, and_then, state_after_all, proofs_at_end, proofs_of_pieces, proofs_of}
use Rattle.proof_text.proofs.EndLemmas.{last_apart}
use Rattle.proof_text.proofs.FormRuns.{run_append, form_run}
use Rattle.proof_text.proofs.FormRead.{proofs_there, run_names, form_of, begins, begun}
use Rattle.proof_text.proofs.KeptNames.{each_named}
use Rattle.proof_text.proofs.NameOrder.{names_with_none}

-- ---- the text and its lines

abbrev is_feed : ℕ → Bool
is_feed b = b == 10

or_parts : (a b : Bool) → (a || b) ≡ false → (a ≡ false) × (b ≡ false)
or_parts false b e = (refl, e)
or_parts true b e = absurd (true≢false e)

split_line : (text more : List ℕ) → HasNoFeed text → slice_split is_feed (text ++ 10 ∷ more) ≡ text ∷ slice_split is_feed more
split_line [] more h = refl
split_line (b ∷ text) more h =
    let parts = or_parts (b == 10) (list_any is_feed text) h in
    ap (λ t. cond t ([] ∷ slice_split is_feed (text ++ 10 ∷ more)) (onto_first b (slice_split is_feed (text ++ 10 ∷ more)))) parts.0
    ∙ ap (onto_first b) (split_line text more parts.1)

split_rest : (rest : List ℕ) → HasNoFeed rest → slice_split is_feed rest ≡ rest ∷ []
split_rest [] h = refl
split_rest (b ∷ rest) h =
    let parts = or_parts (b == 10) (list_any is_feed rest) h in
    ap (λ t. cond t ([] ∷ slice_split is_feed rest) (onto_first b (slice_split is_feed rest))) parts.0
    ∙ ap (onto_first b) (split_rest rest parts.1)

split_lines : (lines : List (List ℕ)) (rest : List ℕ) → AreLines lines → HasNoFeed rest → slice_split is_feed (ended lines ++ rest) ≡ lines ++ rest ∷ []
split_lines [] rest a h = split_rest rest h
split_lines (text ∷ lines) rest a h =
    ap (slice_split is_feed) (append_assoc text (10 ∷ ended lines) rest)
    ∙ (split_line text (ended lines ++ rest) a.0 ∙ ap (λ l. text ∷ l) (split_lines lines rest a.1 h))

-- the lines of a text, and what stands after its last line feed
record Cut (bytes : List ℕ) : Type 0 where
  lines : List (List ℕ)
  rest : List ℕ
  are_lines : AreLines lines
  no_feed : HasNoFeed rest
  whole : bytes ≡ ended lines ++ rest

is_ten : (b : ℕ) → (b == 10) ≡ true → b ≡ 10
is_ten b e = grind (arith, nat_tests)

no_feed_more : (b : ℕ) (text : List ℕ) → (b == 10) ≡ false → HasNoFeed text → HasNoFeed (b ∷ text)
no_feed_more b text e h = rw (e, h)

onto : (b : ℕ) (bytes : List ℕ) (lines : List (List ℕ)) (rest : List ℕ) → (b == 10) ≡ false → AreLines lines → HasNoFeed rest → bytes ≡ ended lines ++ rest → Cut (b ∷ bytes)
onto b bytes [] rest e a h w = record { lines = []; rest = b ∷ rest; are_lines = tt; no_feed = no_feed_more b rest e h; whole = ap (λ l. b ∷ l) w }
onto b bytes (text ∷ lines) rest e a h w = record { lines = (b ∷ text) ∷ lines; rest = rest; are_lines = (no_feed_more b text e a.0, a.1); no_feed = h; whole = ap (λ l. b ∷ l) w }

cut_by : (b : ℕ) (bytes : List ℕ) (t : Bool) → (b == 10) ≡ t → Cut bytes → Cut (b ∷ bytes)
cut_by b bytes true e c =
    let ten : b ≡ 10 = is_ten b e in
    record {
      lines = [] ∷ c.lines;
      rest = c.rest;
      are_lines = (refl, c.are_lines);
      no_feed = c.no_feed;
      whole = ap (λ x. x ∷ bytes) ten ∙ ap (λ l. 10 ∷ l) c.whole;
    }
cut_by b bytes false e c = onto b bytes c.lines c.rest e c.are_lines c.no_feed c.whole

cut : (bytes : List ℕ) → Cut bytes
cut [] = record { lines = []; rest = []; are_lines = tt; no_feed = refl; whole = refl }
cut (b ∷ bytes) = cut_by b bytes (b == 10) refl (cut bytes)

-- what the lines and the rest lead to, the text does
proofs_by : (lines : List (List ℕ)) (rest : List ℕ) → AreLines lines → HasNoFeed rest → proofs_of (ended lines ++ rest) ≡ and_then (state_after_all lines start 1) (proofs_at_end (length lines + 1) rest)
unfolding proofs_of
proofs_by lines rest a h = ap proofs_of_pieces (split_lines lines rest a h) ∙ last_apart lines rest

-- ---- a file

pub file_read : (table : List (List ℕ)) (bytes : List ℕ) (proofs : List Proof) → IsFileOf table bytes proofs → (said : List ProofText) × (proofs_of bytes ≡ Ok said) × Each (IsProofOf table) said proofs
file_read table bytes proofs f =
    let run = form_run table f.lines proofs f.form in (
      run.0,
      ap proofs_of (f.whole ∙ sym (append-nil (ended f.lines)))
          ∙ (proofs_by f.lines [] f.are_lines refl ∙ ap (λ r. and_then r (proofs_at_end (length f.lines + 1) [])) run.1),
      run.2,
    )

-- where the lines may end
pub record Ends (state : Result State ℕ) (rest : List ℕ) (said : List ProofText) : Type 0 where
  pub none : rest ≡ []
  pub last : state ≡ Ok (between said)

ends_at : (s : State) (n : ℕ) (rest : List ℕ) (said : List ProofText) → proofs_at_end n rest s ≡ Ok said → Ends (Ok s) rest said
ends_at (between ps) n [] said e = let same : ps ≡ said = cc in record { none = refl; last = ap (λ l. Ok (between l)) same }
ends_at start n [] said e = absurd (cc)
ends_at (within ps k o done) n [] said e = absurd (cc)
ends_at start n (b ∷ bs) said e = absurd (cc)
ends_at (between ps) n (b ∷ bs) said e = absurd (cc)
ends_at (within ps k o done) n (b ∷ bs) said e = absurd (cc)

pub ends_by : (r : Result State ℕ) (n : ℕ) (rest : List ℕ) (said : List ProofText) → and_then r (proofs_at_end n rest) ≡ Ok said → Ends r rest said
ends_by (Ok s) n rest said e = ends_at s n rest said e
ends_by (Err m) n rest said e = absurd (cc)

-- the lines of a text that has these proofs
record Whole (bytes : List ℕ) (said : List ProofText) : Type 0 where
  lines : List (List ℕ)
  are_lines : AreLines lines
  whole : bytes ≡ ended lines
  leads : state_after_all lines start 1 ≡ Ok (between said)
  texts : (texts : List (List ℕ)) → LinesName lines texts → BytesName bytes texts

cut_texts : (bytes : List ℕ) (c : Cut bytes) → c.rest ≡ [] → (texts : List (List ℕ)) → LinesName c.lines texts → BytesName bytes texts
cut_texts bytes c none texts names =
    let pieces : slice_split is_feed bytes ≡ c.lines ++ c.rest ∷ [] = ap (slice_split is_feed) c.whole ∙ split_lines c.lines c.rest c.are_lines c.no_feed in
    subst (λ (ls : List (List ℕ)). LinesName ls texts) (sym (pieces ∙ ap (λ (r : List ℕ). c.lines ++ r ∷ []) none)) (names_with_none c.lines texts names)

whole_of : (bytes : List ℕ) (said : List ProofText) → proofs_of bytes ≡ Ok said → Whole bytes said
whole_of bytes said e =
    let c = cut bytes in
    let n : ℕ = length c.lines + 1 in
    let reads : and_then (state_after_all c.lines start 1) (proofs_at_end n c.rest) ≡ Ok said = sym (proofs_by c.lines c.rest c.are_lines c.no_feed) ∙ (ap proofs_of (sym c.whole) ∙ e) in
    let ends = ends_by (state_after_all c.lines start 1) n c.rest said reads in
    record {
      lines = c.lines;
      are_lines = c.are_lines;
      whole = c.whole ∙ (ap (λ r. ended c.lines ++ r) ends.none ∙ append-nil (ended c.lines));
      leads = ends.last;
      texts = λ texts names. cut_texts bytes c ends.none texts names;
    }

pub read_file : (table : List (List ℕ)) (bytes : List ℕ) (said : List ProofText) (proofs : List Proof) → proofs_of bytes ≡ Ok said → Each (IsProofOf table) said proofs → IsFileOf table bytes proofs
read_file table bytes said proofs e each =
    let w = whole_of bytes said e in
    record { lines = w.lines; are_lines = w.are_lines; whole = w.whole; form = form_of table w.lines said proofs w.leads each }

-- from each table
pub file_there : (old : List (List ℕ)) (bytes : List ℕ) (said : List ProofText) → proofs_of bytes ≡ Ok said → (file : ProofFile) × SpellsProofs old bytes file
file_there old bytes said e =
    let w = whole_of bytes said e in
    let names = run_names w.lines start (between said) 1 w.leads in
    let table : List (List ℕ) = with_names old names.0 in
    let proofs = proofs_there table w.lines names.0 said names.1 (each_named old names.0) w.leads in
    (record { proofs = proofs.0 }, (names.0, w.texts names.0 names.1, read_file table bytes said proofs.0 e proofs.1))

-- ---- the first bad line

-- the lines up to the one that leads nowhere
record Breaks (lines : List (List ℕ)) (s : State) (n m : ℕ) : Type 0 where
  before : List (List ℕ)
  text : List ℕ
  after : List (List ℕ)
  whole : lines ≡ before ++ text ∷ after
  state : State
  leads : state_after_all before s n ≡ Ok state
  stops : next_state state (n + length before) text ≡ None
  number : m ≡ n + length before

breaks_by : (text : List ℕ) (texts : List (List ℕ)) (s : State) (n m : ℕ) (o : Option State) → ((t : State) → state_after_all texts t (n + 1) ≡ Err m → Breaks texts t (n + 1) m) →
    next_state s n text ≡ o → and_then (or_bad n o) (λ t. state_after_all texts t (n + 1)) ≡ Err m → Breaks (text ∷ texts) s n m
breaks_by text texts s n m None rec is e =
    let same : n ≡ m = cc in
    let here : n + 0 ≡ n = omega arith in
    record { before = []; text = text; after = texts; whole = refl; state = s; leads = refl; stops = ap (λ k. next_state s k text) here ∙ is; number = sym same ∙ sym here }
breaks_by text texts s n m (Some t) rec is e =
    let r = rec t e in
    let number : n + 1 + length r.before ≡ n + suc (length r.before) = omega arith in
    record {
      before = text ∷ r.before;
      text = r.text;
      after = r.after;
      whole = ap (λ l. text ∷ l) r.whole;
      state = r.state;
      leads = ap (λ o. and_then (or_bad n o) (λ t. state_after_all r.before t (n + 1))) is ∙ r.leads;
      stops = ap (λ k. next_state r.state k r.text) (sym number) ∙ r.stops;
      number = r.number ∙ number;
    }

breaks : (lines : List (List ℕ)) (s : State) (n m : ℕ) → state_after_all lines s n ≡ Err m → Breaks lines s n m
breaks [] s n m e = absurd (cc)
breaks (text ∷ texts) s n m e = breaks_by text texts s n m (next_state s n text) (λ t h. breaks texts t (n + 1) m h) refl e

stopped : (before : List (List ℕ)) (text : List ℕ) (s state : State) (n : ℕ) → state_after_all before s n ≡ Ok state → next_state state (n + length before) text ≡ None → state_after_all (before ++ text ∷ []) s n ≡ Err (n + length before)
stopped before text s state n leads stops =
    run_append before (text ∷ []) s n
    ∙ (ap (λ r. and_then r (λ t. state_after_all (text ∷ []) t (n + length before))) leads
    ∙ ap (λ o. and_then (or_bad (n + length before) o) (λ t. state_after_all [] t (n + length before + 1))) stops)

lines_and : (xs ys : List (List ℕ)) → AreLines (xs ++ ys) → AreLines xs × AreLines ys
lines_and [] ys a = (tt, a)
lines_and (x ∷ xs) ys a = let r = lines_and xs ys a.1 in ((a.0, r.0), r.1)

lines_join : (xs ys : List (List ℕ)) → AreLines xs → AreLines ys → AreLines (xs ++ ys)
lines_join [] ys a b = b
lines_join (x ∷ xs) ys a b = (a.0, lines_join xs ys a.1 b)

ended_append : (xs ys : List (List ℕ)) → ended (xs ++ ys) ≡ ended xs ++ ended ys
ended_append [] ys = refl
ended_append (x ∷ xs) ys = ap (λ l. x ++ 10 ∷ l) (ended_append xs ys) ∙ sym (append_assoc x (10 ∷ ended xs) (ended ys))

at_line : (bytes : List ℕ) (lines : List (List ℕ)) (rest : List ℕ) (m : ℕ) → AreLines lines → bytes ≡ ended lines ++ rest → Breaks lines start 1 m → IsFirstBadLine bytes m
at_line bytes lines rest m a w b =
    let upto : List (List ℕ) = b.before ++ b.text ∷ [] in
    let all : lines ≡ upto ++ b.after = b.whole ∙ sym (append_assoc b.before (b.text ∷ []) b.after) in
    let text : bytes ≡ ended upto ++ (ended b.after ++ rest) =
    w ∙ (ap (λ l. ended l ++ rest) all ∙ (ap (λ l. l ++ rest) (ended_append upto b.after) ∙ append_assoc (ended upto) (ended b.after) rest)) in
    let parts = lines_and upto b.after (subst AreLines all a) in
    let stopped_there : state_after_all upto start 1 ≡ Err (1 + length b.before) = stopped b.before b.text start b.state 1 b.leads b.stops in
    let never : BeginsFile upto → ⊥ = λ (f : BeginsFile upto). let there : state_after_all upto start 1 ≡ Ok (begun upto f).0 = (begun upto f).1 in absurd (cc) in
    let number : length b.before + 1 ≡ m = add_comm (length b.before) 1 ∙ sym b.number in
    subst (IsFirstBadLine bytes) number (IsFirstBadLine.at_line b.before b.text (ended b.after ++ rest) text parts.0 (begins b.before b.state b.leads) never)

bad_end : (s : State) (n m : ℕ) (rest : List ℕ) → proofs_at_end n rest s ≡ Err m → n ≡ m
bad_end (between ps) n m [] e = absurd (cc)
bad_end start n m [] e = cc
bad_end (within ps k o done) n m [] e = cc
bad_end start n m (b ∷ bs) e = cc
bad_end (between ps) n m (b ∷ bs) e = cc
bad_end (within ps k o done) n m (b ∷ bs) e = cc

first_by : (bytes : List ℕ) (m : ℕ) (c : Cut bytes) (r : Result State ℕ) → state_after_all c.lines start 1 ≡ r → and_then r (proofs_at_end (length c.lines + 1) c.rest) ≡ Err m → proofs_of bytes ≡ Err m → IsFirstBadLine bytes m
first_by bytes m c (Err n) is e whole = let same : n ≡ m = cc in at_line bytes c.lines c.rest m c.are_lines c.whole (breaks c.lines start 1 m (is ∙ ap Err same))
first_by bytes m c (Ok s) is e whole =
    let none : (table : List (List ℕ)) (proofs : List Proof) → IsFileOf table bytes proofs → ⊥ = λ table proofs f. let read : proofs_of bytes ≡ Ok (file_read table bytes proofs f).0 = (file_read table bytes proofs f).1 in absurd (cc) in
    subst (IsFirstBadLine bytes) (bad_end s (length c.lines + 1) m c.rest e) (IsFirstBadLine.at_end c.lines c.rest c.whole c.are_lines c.no_feed (begins c.lines s is) none)

pub bad_read : (bytes : List ℕ) (m : ℕ) → proofs_of bytes ≡ Err m → IsFirstBadLine bytes m
bad_read bytes m e =
    let c = cut bytes in
    first_by bytes m c (state_after_all c.lines start 1) refl (sym (proofs_by c.lines c.rest c.are_lines c.no_feed) ∙ (ap proofs_of (sym c.whole) ∙ e)) e

-- ---- and the other way round

line_by : (before : List (List ℕ)) (text : List ℕ) (s : State) (r : Result State ℕ) → state_after_all before start 1 ≡ Ok s → state_after_all (before ++ text ∷ []) start 1 ≡ r → (BeginsFile (before ++ text ∷ []) → ⊥) → r ≡ Err (length before + 1)
line_by before text s (Ok t) leads is never = absurd (never (begins (before ++ text ∷ []) t is))
line_by before text s (Err m) leads is never =
    let there : and_then (or_bad (1 + length before) (next_state s (1 + length before) text)) (λ t. Ok t) ≡ Err m =
    sym (run_append before (text ∷ []) start 1 ∙ ap (λ r. and_then r (λ t. state_after_all (text ∷ []) t (1 + length before))) leads) ∙ is in
    ap Err (sym (one_bad (1 + length before) m (next_state s (1 + length before) text) there) ∙ add_comm 1 (length before))
  where
    one_bad : (n m : ℕ) (o : Option State) → and_then (or_bad n o) (λ t. Ok t) ≡ Err m → n ≡ m
    one_bad n m None e = cc
    one_bad n m (Some t) e = absurd (cc)

stays_bad : (xs ys : List (List ℕ)) (m : ℕ) → state_after_all xs start 1 ≡ Err m → state_after_all (xs ++ ys) start 1 ≡ Err m
stays_bad xs ys m e = run_append xs ys start 1 ∙ ap (λ r. and_then r (λ t. state_after_all ys t (1 + length xs))) e

end_by : (bytes : List ℕ) (lines : List (List ℕ)) (rest : List ℕ) (s : State) (r : Result (List ProofText) ℕ) → proofs_of bytes ≡ r → proofs_at_end (length lines + 1) rest s ≡ r → ((table : List (List ℕ)) (proofs : List Proof) → IsFileOf table bytes proofs → ⊥) →
    r ≡ Err (length lines + 1)
end_by bytes lines rest s (Ok said) is e none = let file = file_there [] bytes said is in absurd (none (with_names [] file.1.0) file.0.proofs file.1.2)
end_by bytes lines rest s (Err m) is e none = ap Err (sym (bad_end s (length lines + 1) m rest e))

pub read_bad : (bytes : List ℕ) (m : ℕ) → IsFirstBadLine bytes m → proofs_of bytes ≡ Err m
read_bad bytes _ (IsFirstBadLine.at_line before text after w a f never) =
    let c = cut after in
    let upto : List (List ℕ) = before ++ text ∷ [] in
    let all : List (List ℕ) = upto ++ c.lines in
    let whole : bytes ≡ ended all ++ c.rest =
    w ∙ (ap (λ l. ended upto ++ l) c.whole ∙ (sym (append_assoc (ended upto) (ended c.lines) c.rest) ∙ ap (λ l. l ++ c.rest) (sym (ended_append upto c.lines)))) in
    let s = begun before f in
    let stops : state_after_all upto start 1 ≡ Err (length before + 1) = line_by before text s.0 (state_after_all upto start 1) s.1 refl never in
    ap proofs_of whole
    ∙ (proofs_by all c.rest (lines_join upto c.lines a c.are_lines) c.no_feed
    ∙ ap (λ r. and_then r (proofs_at_end (length all + 1) c.rest)) (stays_bad upto c.lines (length before + 1) stops))
read_bad bytes _ (IsFirstBadLine.at_end lines rest w a h f none) =
    let s = begun lines f in
    let reads : proofs_of bytes ≡ proofs_at_end (length lines + 1) rest s.0 =
    ap proofs_of w ∙ (proofs_by lines rest a h ∙ ap (λ r. and_then r (proofs_at_end (length lines + 1) rest)) s.1) in
    reads ∙ end_by bytes lines rest s.0 (proofs_at_end (length lines + 1) rest s.0) reads refl none
