-- What a call answers, and that what it lists is good.
use Rattle.std.proofs.Common.{◌≡◌, ◌≢◌, ◌∙◌, ◌⊎◌, ◌↔◌, inl, inr, refl, sym, ap, subst, ℕ, zero, suc, ◌<◌, ◌≤◌, ◌==◌, Bool, false, List, [], ◌∷◌, length, Option, None, Some, Result, Ok, Err, arith}
use Rattle.std.specs.Prelude.{if◌then◌else◌, IfOk}
use Rattle.std.specs.Io.KnownBytes.{Appends}
use Rattle.text_core.specs.Counts.{Rose}
use Rattle.text_core.specs.declared.refusal.Limit.{Limit}
use Rattle.text_core.specs.declared.refusal.SourceError.{SourceError}
use Rattle.io_edge.specs.Faults.{NoneFalls}
use Rattle.io_edge.specs.Shelf.{Files}
use Rattle.mir_machine.specs.Good.{Each}
use Rattle.proof_text.specs.declared.proof.Proof.{Proof}
use Rattle.proof_text.specs.declared.proof.ProofFile.{ProofFile}
use Rattle.proof_text.specs.ProofTextFile.{SpellsProofs}
use Rattle.report_out.specs.declared.verdict.LeftItem.{LeftItem}
use Rattle.report_out.specs.declared.verdict.Verdict.{Verdict}
use Rattle.report_out.specs.Report.{report_of, source_error_line, limit_line}
use Rattle.call_words.specs.Asked.{Asked}
use Rattle.call_words.specs.declared.request.Verb.{Verb}
use Rattle.call_words.specs.declared.request.Verb.TheVariants.{Verify, List as Listing}
use Rattle.verify_core.specs.declared.fault.Refusal.{Refusal}
use Rattle.verify_core.specs.declared.fault.Refusal.TheVariants as refusals
use Rattle.verify_core.specs.declared.program.Program.{Program}
use Rattle.verify_core.specs.Listing.{list_text}
use Rattle.verify_core.specs.OnSource.{RefusesProofs, most_proof_bytes}
use Rattle.verify_core.specs.Prepared.{IsPrepared, IsRefused, IsPastLimit, most_bytes}
use Rattle.verify_core.specs.Owed.{obligations_in}
use Rattle.verify_core.specs.Verdict.{HasDerivation, IsVerdict}
use Rattle.verify_core.proofs.SettledLaws.{left_exactly}
use Rattle.verify_core.proofs.Verified.{verified_is_good}
use Rattle.creusot_cli.specs.declared.verify.files.ReadFile.{ReadFile}
use Rattle.creusot_cli.specs.declared.verify.files.Stop.{Stop}
use Rattle.creusot_cli.specs.declared.verify.files.Stop.TheVariants.{ShelfFailed}
use Rattle.creusot_cli.specs.declared.verify.answer.Plan.{Plan}
use Rattle.creusot_cli.specs.Answer.{Fetched, whole, longer, source_limit, proofs_limit, IsProgramOf, RefusesFetched, AreProofs, AnswersVerify, AnswersList, DoesVerb, status_of}
use Rattle.creusot_cli.specs.Call.{fetched, HeldAs, IsFetched, IsRead, AreFetched, AreFetchedFor, AreRead, IsProofsWithin, HasProgram, Answers, AnswersWords, ReportsWords, Reports, ListsAll, ReportsVerb, CannotRead, Decides, PlansRefusedProofs}

-- ---- what the source decides

-- what holds of what is answered, by what does
pub if_ok : {A E : Type 0} (P Q : A → Type 0) (r : Result A E) → ((a : A) → P a → Q a) → IfOk r P → IfOk r Q
if_ok P Q (Ok a) f h = f a h
if_ok P Q (Err e) f h = tt

pub refused_source : (source : List ℕ) (error : SourceError) (bytes : List ℕ) → length source ≤ most_bytes → IsRefused source error → bytes ≡ source_error_line source error → RefusesFetched (whole source) 3 bytes
refused_source source error bytes short refused b = subst (λ (bs : List ℕ). RefusesFetched (whole source) 3 bs) (sym b) (RefusesFetched.source_refused refl short refused)

pub past_limit : (source : List ℕ) (limit : Limit) → length source ≤ most_bytes → IsPastLimit source limit → (plan : Plan) → (plan.status ≡ 7) × (plan.bytes.items ≡ limit_line limit) →
    RefusesFetched (whole source) plan.status plan.bytes.items
past_limit source limit short past plan (status, printed) = rw (status, printed) (RefusesFetched.limit_passed refl short past)

pub is_program : (source : List ℕ) (p : Program) → length source ≤ most_bytes → IsPrepared source p → IsProgramOf (whole source) source p
is_program source p short prepared = record { is_whole = refl; short = short; prepared = prepared }

pub listed_answers : (verb : Verb) (source : List ℕ) (p : Program) (plan : Plan) → verb ≡ Listing → length source ≤ most_bytes → IsPrepared source p → (plan.status ≡ 0) × (plan.bytes.items ≡ list_text p source) →
    Decides verb (whole source) plan.status plan.bytes.items
listed_answers verb source p plan v short prepared (status, printed) = rw (status, printed) (Decides.listed source p v (is_program source p short prepared) AnswersList.listed)

-- ---- what the proofs decide

pub reported_answers : (source : List ℕ) (p : Program) (o : Option Fetched) (proofs : List Proof) → AreProofs p.names o proofs → (plan : Plan) →
    (v : Verdict) × IsVerdict proofs p v × (plan.status ≡ status_of v) × (plan.bytes.items ≡ report_of source v) → AnswersVerify source p o plan.status plan.bytes.items
reported_answers source p o proofs are plan (v, is, status, printed) = rw (status, printed) (AnswersVerify.reported proofs are is)

pub given_proofs : (table : List (List ℕ)) (bytes : List ℕ) (file : ProofFile) (proofs : List Proof) → length bytes ≤ most_proof_bytes → SpellsProofs table bytes file → proofs ≡ file.proofs → AreProofs table (Some (whole bytes)) proofs
given_proofs table bytes file proofs short spelled e = rw e (AreProofs.given bytes short spelled)

pub absent_proofs : (table : List (List ℕ)) (o : Option Fetched) (proofs : List Proof) → o ≡ None → proofs ≡ [] → AreProofs table o proofs
absent_proofs table o proofs e p = rw (e, p) AreProofs.absent

-- a file of proofs that was read whole is refused for a bad line alone
pub refused_proofs : (source : List ℕ) (p : Program) (bytes : List ℕ) (r : Refusal) → length bytes ≤ most_proof_bytes → RefusesProofs bytes r → (plan : Plan) → PlansRefusedProofs r plan →
    AnswersVerify source p (Some (whole bytes)) plan.status plan.bytes.items
refused_proofs source p bytes (refusals.Source error) short refuses plan plans = absurd refuses
refused_proofs source p bytes (refusals.Proof line) short refuses plan (status, printed) = rw (status, printed) (AnswersVerify.proofs_refused bytes refl short refuses)
refused_proofs source p bytes (refusals.Limit limit) short (long, is) plan plans = absurd (omega (arith, short, long))
refused_proofs source p bytes refusals.NoMemory short refuses plan plans = absurd plans

pub long_proofs : (source : List ℕ) (p : Program) (o : Option Fetched) (n : ℕ) → o ≡ Some (longer n) → most_proof_bytes < n → (plan : Plan) → (plan.status ≡ 7) × (plan.bytes.items ≡ limit_line (proofs_limit n)) →
    AnswersVerify source p o plan.status plan.bytes.items
long_proofs source p o n e far plan (status, printed) = rw (status, printed) (AnswersVerify.proofs_long e far)

-- ---- what was read

pub are_within : (shelf : Option Files) (name : Option (List ℕ)) (r : Option ReadFile) → AreRead shelf name r → IsProofsWithin r
are_within shelf name None read = tt
are_within shelf None (Some r) read = absurd read
are_within shelf (Some name) (Some r) read = read.within

pub whole_read : (shelf : Option Files) (name : List ℕ) (most : ℕ) (r : ReadFile) (f : Fetched) → IsRead shelf name most r → fetched r ≡ f → IsFetched shelf name most f
whole_read shelf name most r f read e = subst (λ (x : Fetched). IsFetched shelf name most x) e read

pub program_has : (shelf : Option Files) (a : Asked) (source : List ℕ) (p : Program) → HeldAs shelf a.source (whole source) → IsProgramOf (whole source) source p → HasProgram shelf a source p
program_has shelf a source p held is = record { held = held; short = is.short; prepared = is.prepared }

-- the source is whole, and what it decides is answered
pub source_answers : (shelf : Option Files) (a : Asked) (source : List ℕ) (plan : Plan) → length source ≤ most_bytes → HeldAs shelf a.source (whole source) → Decides a.verb (whole source) plan.status plan.bytes.items →
    Answers shelf a plan.status plan.bytes.items
source_answers shelf a source plan short held (Decides.refused refuses) = Answers.by_source (whole source) (record { held = held; within = short }) refuses
source_answers shelf a source plan short held (Decides.listed bytes p verb is lists) =
    Answers.by_verb bytes p None
    (record { held = subst (λ (f : Fetched). HeldAs shelf a.source f) is.is_whole held; short = is.short; prepared = is.prepared })
    (subst (λ (v : Verb). AreFetchedFor v shelf a.proofs None) (sym verb) refl)
    (subst (λ (v : Verb). DoesVerb v bytes p None plan.status plan.bytes.items) (sym verb) lists)

-- and so is what the proofs decide
pub proofs_answer : (shelf : Option Files) (a : Asked) (source : List ℕ) (p : Program) (proofs : Option Fetched) (plan : Plan) → a.verb ≡ Verify → HasProgram shelf a source p → AreFetched shelf a.proofs proofs →
    AnswersVerify source p proofs plan.status plan.bytes.items → Answers shelf a plan.status plan.bytes.items
proofs_answer shelf a source p proofs plan verb has read answers =
    Answers.by_verb source p proofs has (subst (λ (v : Verb). AreFetchedFor v shelf a.proofs proofs) (sym verb) read) (subst (λ (v : Verb). DoesVerb v source p proofs plan.status plan.bytes.items) (sym verb) answers)

pub long_source : (shelf : Option Files) (a : Asked) (n : ℕ) (plan : Plan) → IsFetched shelf a.source most_bytes (longer n) → (plan.status ≡ 7) × (plan.bytes.items ≡ limit_line (source_limit n)) → Answers shelf a plan.status plan.bytes.items
long_source shelf a n plan at (status, printed) = rw (status, printed) (Answers.by_source (longer n) at (RefusesFetched.source_long refl at.within))

-- ---- faults

-- a failure that is handed on is that of the shelf, where what is answered is
pub stop_is : {T : Type 0} (r : Result T Stop) (s t : Stop) → r ≡ Err s → s ≡ t → r ≡ Err ShelfFailed → t ≡ ShelfFailed
stop_is r s t is same e = cc

pub cannot_read_proofs : (shelf : Option Files) (before after : List ℕ → ℕ) (a : Asked) (source : List ℕ) (p : Program) → a.verb ≡ Verify → HasProgram shelf a source p
    → ((n : List ℕ) × (a.proofs ≡ Some n) × Rose (before n) (after n)) → CannotRead shelf before after (Some a)
cannot_read_proofs shelf before after a source p verb has (name, named, rose) = CannotRead.of_proofs source p name verb has named rose

rose_before : (b m a : ℕ) → b ≤ m → Rose m a → Rose b a
rose_before b m a below rose = omega arith

-- what rose after a read has risen since before it
pub later_fault : (shelf later : Option Files) (before mid after : List ℕ → ℕ) (a : Option Asked) → later ≡ shelf → NoneFalls before mid → CannotRead later mid after a → CannotRead shelf before after a
later_fault shelf later before mid after _ same none (CannotRead.of_source {a} rose) = CannotRead.of_source (rose_before (before a.source) (mid a.source) (after a.source) (none a.source) rose)
later_fault shelf later before mid after _ same none (CannotRead.of_proofs {a} source p name verb has named rose) =
    CannotRead.of_proofs source p name verb (subst (λ (x : Option Files). HasProgram x a source p) same has) named (rose_before (before name) (mid name) (after name) (none name) rose)

-- ---- what is listed is good

differs : (r s : ℕ) → (r ≡ 0) ⊎ (r ≡ 1) → 1 < s → r ≡ s → ⊥
differs r s (inl z) l e = omega arith
differs r s (inr o) l e = omega arith

not_zero : (n : ℕ) → 0 < n → (n == 0) ≡ false
not_zero n l = grind arith

some_left : (x : LeftItem) (xs : List LeftItem) → (length (x ∷ xs) == 0) ≡ false
some_left x xs = not_zero (length (x ∷ xs)) (omega arith)

none_left : (left : List LeftItem) (s : ℕ) → s ≡ (if length left == 0 then 0 else 1) → s ≡ 0 → left ≡ []
none_left [] s e z = refl
none_left (x ∷ xs) s e z =
    let one : s ≡ 1 = e ∙ ap (λ (b : Bool). if b then 0 else 1) (some_left x xs) in
    absurd (omega arith)

zero_at : (left : List LeftItem) → left ≡ [] → ◌≡◌ {A = ℕ} (if length left == 0 then 0 else 1) 0
zero_at [] e = refl
zero_at (x ∷ xs) e = absurd cc

-- what an answer about a source without a program says
report_source : (f : Fetched) (result : ℕ) {Q : Type 0} {status : ℕ} {bytes : List ℕ} → RefusesFetched f status bytes → result ≡ status → (result ≡ 0) ⊎ (result ≡ 1) → Q
report_source f result (RefusesFetched.source_long is far) e small = absurd (differs result 7 small (omega arith) e)
report_source f result (RefusesFetched.source_refused is short refused) e small = absurd (differs result 3 small (omega arith) e)
report_source f result (RefusesFetched.limit_passed is short past) e small = absurd (differs result 7 small (omega arith) e)

-- what an answer about the proofs says
report_proofs : (shelf : Option Files) (a : Asked) (source : List ℕ) (p : Program) (o : Option Fetched) (result : ℕ) (before after : Option (List ℕ)) {status : ℕ} {bytes : List ℕ} →
    HasProgram shelf a source p → AreFetched shelf a.proofs o → AnswersVerify source p o status bytes → result ≡ status → Appends before after bytes → (result ≡ 0) ⊎ (result ≡ 1) → Reports shelf a result before after
report_proofs shelf a source p o result before after has read (AnswersVerify.proofs_long is far) e added small = absurd (differs result 7 small (omega arith) e)
report_proofs shelf a source p o result before after has read (AnswersVerify.proofs_refused bytes is short bad) e added small = absurd (differs result 4 small (omega arith) e)
report_proofs shelf a source p o result before after has read (AnswersVerify.reported {v = v} proofs are verdict) e added small = record {
  source = source;
  program = p;
  has = has;
  read = o;
  are_read = read;
  proofs = proofs;
  are_proofs = are;
  verdict = v;
  is_verdict = verdict;
  printed = added;
  complete = complete;
  good = verified_is_good source p has.prepared proofs v verdict;
}
  where
    exactly : (v.left ≡ []) ↔ Each (HasDerivation p.tables proofs) (obligations_in p.obligations)
    exactly = left_exactly p.tables proofs (obligations_in p.obligations) v.left v.proved verdict.judged

    complete : (result ≡ 0) ↔ Each (HasDerivation p.tables proofs) (obligations_in p.obligations)
    complete = (λ zero_is. exactly.0 (none_left v.left result e zero_is), λ each. e ∙ zero_at v.left (exactly.1 each))

-- what a list says
report_list : (shelf : Option Files) (a : Asked) (source : List ℕ) (p : Program) (result : ℕ) (before after : Option (List ℕ)) {status : ℕ} {bytes : List ℕ} →
    HasProgram shelf a source p → AnswersList source p status bytes → result ≡ status → Appends before after bytes → ListsAll shelf a result before after
report_list shelf a source p result before after has AnswersList.listed e added = record { source = source; program = p; has = has; zero = e; printed = added }

-- by verb
report_verb : (v : Verb) (shelf : Option Files) (a : Asked) (source : List ℕ) (p : Program) (o : Option Fetched) (result : ℕ) (before after : Option (List ℕ)) (status : ℕ) (bytes : List ℕ) →
    HasProgram shelf a source p → AreFetchedFor v shelf a.proofs o → DoesVerb v source p o status bytes → result ≡ status → Appends before after bytes → (result ≡ 0) ⊎ (result ≡ 1) → ReportsVerb v shelf a result before after
report_verb Verify shelf a source p o result before after status bytes has read does e added small = report_proofs shelf a source p o result before after has read does e added small
report_verb Listing shelf a source p o result before after status bytes has read does e added small = report_list shelf a source p result before after has does e added

report : (shelf : Option Files) (a : Asked) (result : ℕ) (before after : Option (List ℕ)) {status : ℕ} {bytes : List ℕ} →
    Answers shelf a status bytes → result ≡ status → Appends before after bytes → (result ≡ 0) ⊎ (result ≡ 1) → ReportsVerb a.verb shelf a result before after
report shelf a result before after (Answers.by_source f at refuses) e added small = report_source f result refuses e small
report shelf a result before after {status} {bytes} (Answers.by_verb source p proofs has read does) e added small = report_verb a.verb shelf a source p proofs result before after status bytes has read does e added small

pub reports : (shelf : Option Files) (a : Option Asked) (status result : ℕ) (bytes : List ℕ) (before after : Option (List ℕ)) → AnswersWords shelf a status bytes →
    (result ≢ 6 → result ≢ 8 → (result ≡ status) × Appends before after bytes) → (result ≡ 0) ⊎ (result ≡ 1) → ReportsWords shelf a result before after
reports shelf None status result bytes before after answers printed small =
    let told = printed (differs result 6 small (omega arith)) (differs result 8 small (omega arith)) in
    absurd (differs result 2 small (omega arith) (told.0 ∙ answers.0))
reports shelf (Some a) status result bytes before after answers printed small =
    let told = printed (differs result 6 small (omega arith)) (differs result 8 small (omega arith)) in
    report shelf a result before after answers told.0 told.1 small

-- ---- no answer is a fault

zero_or_one : (left : List LeftItem) (s : ℕ) → s ≡ (if length left == 0 then 0 else 1) → s ≤ 1
zero_or_one [] s e = omega arith
zero_or_one (x ∷ xs) s e =
    let one : s ≡ 1 = e ∙ ap (λ (b : Bool). if b then 0 else 1) (some_left x xs) in
    omega arith

-- the statuses that answers have
abbrev IsAnswered : ℕ → Type 0
IsAnswered s = (s ≤ 4) ⊎ (s ≡ 7)

source_status : (f : Fetched) {s : ℕ} {bytes : List ℕ} → RefusesFetched f s bytes → IsAnswered s
source_status f (RefusesFetched.source_long is far) = inr refl
source_status f (RefusesFetched.source_refused is short refused) = inl (omega arith)
source_status f (RefusesFetched.limit_passed is short past) = inr refl

proofs_status : (source : List ℕ) (p : Program) (o : Option Fetched) {s : ℕ} {bytes : List ℕ} → AnswersVerify source p o s bytes → IsAnswered s
proofs_status source p o (AnswersVerify.proofs_long is far) = inr refl
proofs_status source p o (AnswersVerify.proofs_refused bytes is short bad) = inl (omega arith)
proofs_status source p o (AnswersVerify.reported {v} proofs are verdict) = inl (omega (arith, zero_or_one v.left (status_of v) refl))

list_status : (source : List ℕ) (p : Program) {s : ℕ} {bytes : List ℕ} → AnswersList source p s bytes → IsAnswered s
list_status source p AnswersList.listed = inl (omega arith)

verb_status : (v : Verb) (source : List ℕ) (p : Program) (o : Option Fetched) (s : ℕ) (bytes : List ℕ) → DoesVerb v source p o s bytes → IsAnswered s
verb_status Verify source p o s bytes does = proofs_status source p o does
verb_status Listing source p o s bytes does = list_status source p does

answered_status : (shelf : Option Files) (a : Option Asked) (s : ℕ) (bytes : List ℕ) → AnswersWords shelf a s bytes → IsAnswered s
answered_status shelf None s bytes answers = inl (omega (arith, answers.0))
answered_status shelf (Some a) s bytes (Answers.by_source f at refuses) = source_status f refuses
answered_status shelf (Some a) s bytes (Answers.by_verb source p proofs has read does) = verb_status a.verb source p proofs s bytes does

no_fault : (s n : ℕ) → IsAnswered s → 4 < n → n < 7 → s ≡ n → ⊥
no_fault s n (inl small) l m e = omega arith
no_fault s n (inr seven) l m e = omega arith

-- no answer says that the output failed
pub never_planned_six : (shelf : Option Files) (a : Option Asked) (planned : ℕ) (told : List ℕ) → AnswersWords shelf a planned told → planned ≢ 6
never_planned_six shelf a planned told answers = λ e. no_fault planned 6 (answered_status shelf a planned told answers) (omega arith) (omega arith) e

pub never_five : (shelf : Option Files) (a : Option Asked) (planned result : ℕ) (told : List ℕ) (before after : Option (List ℕ)) → AnswersWords shelf a planned told →
    (result ≢ 6 → result ≢ 8 → (result ≡ planned) × Appends before after told) → result ≡ 5 → ⊥
never_five shelf a planned result told before after answers printed e =
    let is = printed (λ six. omega arith) (λ eight. omega arith) in
    no_fault planned 5 (answered_status shelf a planned told answers) (omega arith) (omega arith) (sym is.0 ∙ e)

at_most_or : (n m : ℕ) → (n ≤ m) ⊎ (m < n)
at_most_or zero m = inl (omega arith)
at_most_or (suc n) zero = inr (omega arith)
at_most_or (suc n) (suc m) = elim (at_most_or n m) [
  | inl small ↦ inl (omega (arith, small))
  | inr large ↦ inr (omega (arith, large))
]

small_status : (s : ℕ) → IsAnswered s → s ≤ 8
small_status s (inl small) = omega (arith, small)
small_status s (inr seven) = omega (arith, seven)

-- each status is one of the table
pub at_most_eight : (shelf : Option Files) (a : Option Asked) (planned result : ℕ) (told : List ℕ) (before after : Option (List ℕ)) → AnswersWords shelf a planned told →
    (result ≢ 6 → result ≢ 8 → (result ≡ planned) × Appends before after told) → result ≤ 8
at_most_eight shelf a planned result told before after answers printed = by_size (at_most_or result 8)
  where
    by_size : (result ≤ 8) ⊎ (8 < result) → result ≤ 8
    by_size (inl small) = small
    by_size (inr large) =
        let is = printed (λ six. omega (arith, large, six)) (λ eight. omega (arith, large, eight)) in
        omega (arith, is.0, small_status planned (answered_status shelf a planned told answers))
