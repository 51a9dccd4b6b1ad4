-- What the errors of the parser mean for the grammar of sources.
use Rattle.std.specs.Prelude.{◌≡◌, ℕ, suc, ◌-◌, ◌<◌, List, reverse}
use Rattle.std.proofs.Common.{refl, subst, inl, inr, arith}
use Rattle.std.proofs.Math.Path.{fun_ext}
use Rattle.grammar_tables.specs.declared.symbol.Mark.{Mark}
use Rattle.grammar_tables.specs.declared.tables.Tables.{Tables}
use Rattle.grammar_tables.specs.declared.parsing.Front.{Front}
use Rattle.grammar_tables.specs.declared.parsing.ParseError.{ParseError}
use Rattle.grammar_tables.specs.declared.parsing.ParseError.TheVariants as error
use Rattle.grammar_tables.specs.declared.parsing.Refusal.{Refusal}
use Rattle.grammar_tables.specs.Grammar.{Grammar}
use Rattle.grammar_tables.specs.LL1.{HasPlan}
use Rattle.grammar_tables.specs.PlanTest.{plan_of}
use Rattle.grammar_tables.specs.Tables.{grammar_in, mark_in}
use Rattle.grammar_tables.specs.Answers.{symbols_of, StopsAt, StopsBefore, IsParsed, IsRefused, IsParseError, IsFrontError}
use Rattle.grammar_tables.proofs.FrontAnswers.{whole_stop}
use Rattle.source_grammar.specs.declared.offence.Offence.{Offence}
use Rattle.source_grammar.specs.declared.offence.Offence.TheVariants as offence
use Rattle.source_grammar.specs.SourceGrammar.{source_grammar, source_marks, source_goal, term_goal}
use Rattle.source_grammar.specs.Faults.{IsSourceFront, IsRefusedAs, IsFrontRefusedAs, IsFault, IsFrontFault, HasTokenBefore, offence_of, fault_at, fault_of}
use Rattle.source_grammar.proofs.Plans.{plan}
use Rattle.source_grammar.proofs.Conditions.{source_is_planned, source_has_plan, term_has_plan}
use Rattle.source_grammar.proofs.FirstToken.{before_in_source, before_in_term}

module _ (goal levels : ℕ) (planned : HasPlan source_grammar (plan_of plan) goal) (kinds : List ℕ) where
  refused_as : (r : Refusal) → IsRefused source_grammar source_marks goal levels kinds r.position → StopsBefore source_grammar goal kinds (error.Refused r) → IsRefusedAs goal levels kinds r.position (offence_of kinds r)
  refused_as r f q = record {
    inside = f.inside;
    refusal = f.refusal (plan_of plan) source_is_planned planned;
    within = f.within;
    ended = reverse r.ended.items;
    expected = reverse (symbols_of r.expected.items);
    stops = q.1;
    offence = refl;
  }

  one_behind : (position : ℕ) → 0 < position → position ≡ suc (position - 1)
  one_behind position l = omega (arith, l)

  meant_at : (position : ℕ) (what : Offence) → (what ≡ offence.LeftOutBefore → 0 < position) → IsRefusedAs goal levels kinds position what → IsFault goal levels kinds (fault_at position what)
  meant_at position offence.Stray f R = R
  meant_at position offence.LeftOut f R = inl R
  meant_at position offence.LeftOutBefore f R = inr (subst (λ (n : ℕ). IsRefusedAs goal levels kinds n offence.LeftOutBefore) (one_behind position (f refl)) R)

  front_meant_at : (position : ℕ) (what : Offence) → (what ≡ offence.LeftOutBefore → 0 < position) → IsFrontRefusedAs goal levels kinds position what → IsFrontFault goal levels kinds (fault_at position what)
  front_meant_at position offence.Stray f R = R
  front_meant_at position offence.LeftOut f R = inl R
  front_meant_at position offence.LeftOutBefore f R = inr (subst (λ (n : ℕ). IsFrontRefusedAs goal levels kinds n offence.LeftOutBefore) (one_behind position (f refl)) R)

  meant : (e : ParseError) → HasTokenBefore kinds e → IsParseError source_grammar source_marks goal levels kinds e → StopsBefore source_grammar goal kinds e → IsFault goal levels kinds (fault_of kinds e)
  meant (error.Refused r) h f q = meant_at r.position (offence_of kinds r) h (refused_as r f q)
  meant (error.PastLimit position) h f q = f (plan_of plan) source_is_planned planned
  meant error.NoMemory h f q = tt

  front_meant : (e : ParseError) → HasTokenBefore kinds e → IsFrontError source_grammar source_marks goal levels kinds e → StopsBefore source_grammar goal kinds e → IsFrontFault goal levels kinds (fault_of kinds e)
  front_meant (error.Refused r) h f q = front_meant_at r.position (offence_of kinds r) h (refused_as r f.0 q, f.1)
  front_meant (error.PastLimit position) h f q = f (plan_of plan) source_is_planned planned
  front_meant error.NoMemory h f q = tt

-- the tables state the grammar of sources and its marks
module _ (t : Tables) (stated : grammar_in t ≡ source_grammar) (marked : (n : ℕ) → mark_in t n ≡ source_marks n) where
  same_marks : mark_in t ≡ source_marks
  same_marks = fun_ext marked

  -- what is said of them is said of it
  of_source : (P : Grammar → (ℕ → Mark) → Type 0) → P (grammar_in t) (mark_in t) → P source_grammar source_marks
  of_source P f = subst (λ (m : ℕ → Mark). P source_grammar m) same_marks (subst (λ (G : Grammar). P G (mark_in t)) stated f)

  module _ (kinds : List ℕ) where
    source_stop : (e : ParseError) → StopsBefore (grammar_in t) source_goal kinds e → StopsBefore source_grammar source_goal kinds e
    source_stop e f = of_source (λ G m. StopsBefore G source_goal kinds e) f

    pub source_token_before : (e : ParseError) → StopsBefore (grammar_in t) source_goal kinds e → HasTokenBefore kinds e
    source_token_before e f = before_in_source kinds e (source_stop e f)

    pub source_fault : (e : ParseError) → IsParseError (grammar_in t) (mark_in t) source_goal 0 kinds e → StopsBefore (grammar_in t) source_goal kinds e → IsFault source_goal 0 kinds (fault_of kinds e)
    source_fault e f q = meant source_goal 0 source_has_plan kinds e (source_token_before e q) (of_source (λ G m. IsParseError G m source_goal 0 kinds e) f) (source_stop e q)

    term_stop : (e : ParseError) → StopsAt (grammar_in t) term_goal kinds e → StopsBefore source_grammar term_goal kinds e
    term_stop e f = whole_stop source_grammar source_marks term_goal kinds e (of_source (λ G m. StopsAt G term_goal kinds e) f)

    pub term_token_before : (e : ParseError) → StopsAt (grammar_in t) term_goal kinds e → HasTokenBefore kinds e
    term_token_before e f = before_in_term kinds e (term_stop e f)

    pub term_fault : (levels : ℕ) (e : ParseError) → IsFrontError (grammar_in t) (mark_in t) term_goal levels kinds e → StopsAt (grammar_in t) term_goal kinds e → IsFrontFault term_goal levels kinds (fault_of kinds e)
    term_fault levels e f q = front_meant term_goal levels term_has_plan kinds e (term_token_before e q) (of_source (λ G m. IsFrontError G m term_goal levels kinds e) f) (term_stop e q)

    pub term_front : (levels : ℕ) (front : Front) → IsParsed (grammar_in t) (mark_in t) term_goal levels kinds front → IsSourceFront term_goal levels kinds front
    term_front levels front f = by (of_source (λ G m. IsParsed G m term_goal levels kinds front) f)
      where
        by : IsParsed source_grammar source_marks term_goal levels kinds front → IsSourceFront term_goal levels kinds front
        by g = record { inside = g.inside; derived = g.derived; within = g.within; longest = g.longest }
