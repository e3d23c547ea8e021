-- The template of texts has a row.
use Rattle.std.proofs.Common.{◌≡◌, ◌++◌, ◌<◌, ℕ, zero, suc, Bool, true, false, List, [], ◌∷◌, length, sym, subst, arith, length-append}
use Rattle.std.specs.Prelude.{ℤ, Result, Ok, Err, nat_le, if◌then◌else◌}
use Rattle.std.proofs.lemmas.List.{length-map}
use Rattle.flow_templates.specs.Domains.{intervals_of, octagons_of, ready, zones_of}
use Rattle.flow_packs.specs.Packs.{packs_of}
use Rattle.flow_templates.specs.RowFaults.{count_faults}
use Rattle.flow_templates.specs.RowFiles.{Answers, a_count, a_fault, a_template}
use Rattle.flow_templates.specs.declared.fault.RowFault.{RowFault}
use Rattle.flow_templates.specs.declared.fault.RowFault.TheVariants.{Large}
use Rattle.flow_templates.specs.declared.limits.TheConstants.{MOST_ROWS}
use Rattle.flow_transitions.specs.AutoContents.{AutoAnswer, Content}
use Rattle.flow_transitions.specs.AutoGrammar.{Names, Spot}
use Rattle.flow_transitions.specs.AutoTexts.{IsAuto, by_tokens, no_tokens}
use Rattle.flow_transitions.specs.AutoTrees.{all_spots, names_in}
use Rattle.ask_words.specs.declared.request.Domain.{Domain}
use Rattle.ask_words.specs.declared.request.Domain.TheVariants.{Intervals, Zones, Octagons, Packs, Rows}
use Rattle.top_texts.specs.Texts.{IsTemplate}

-- ---- over at least one variable

some_intervals : (n : ℕ) → 0 < n → 0 < length (intervals_of n)
some_intervals zero h = absurd (omega (arith, h))
some_intervals (suc n) h = omega arith

more_rows : (rows others : List (List ℤ)) → 0 < length rows → 0 < length (rows ++ others)
more_rows rows others h = omega (arith, h, length-append rows others)

counted_rows : (rows : List (List ℤ)) → count_faults (length rows) ≡ [] → 0 < length rows
counted_rows [] e = absurd cc
counted_rows (row ∷ rows) e = omega arith

-- what a file of rows is, named so that equations between answers have their type
abbrev rows_answer : Result (List (List ℤ)) RowFault → Result (List (List ℤ)) RowFault
rows_answer answer = answer

same_rows : (template rows : List (List ℤ)) → rows_answer (Ok template) ≡ rows_answer (Ok rows) → rows ≡ template
same_rows template rows e = cc

no_fault : (template : List (List ℤ)) (fault : RowFault) → rows_answer (Ok template) ≡ rows_answer (Err fault) → ⊥
no_fault template fault e = cc

-- a ready-made template has its rows
ready_rows : (template rows : List (List ℤ)) → rows_answer (Ok template) ≡ ready rows → rows ≡ template
ready_rows template rows e = on (nat_le (length rows) MOST_ROWS) e
  where
    on : (b : Bool) → rows_answer (Ok template) ≡ (if b then Ok rows else Err (Large (length rows))) → rows ≡ template
    on true h = cc
    on false h = cc

file_row : (names : List (List ℕ)) (text : List ℕ) (template : List (List ℤ)) → Answers names text (Ok template) → 0 < length template
file_row names text template (a_template rows e h) =
    subst (λ (t : List (List ℤ)). 0 < length t) (same_rows template rows e) (counted_rows rows h.right)
file_row names text template (a_count count e h) = absurd (no_fault template _ e)
file_row names text template (a_fault fault e h) = absurd (no_fault template fault e)

-- a template over at least one variable has a row
pub some_row : (HasGroups : List (List ℕ) → Type 0) (rows : Domain (List ℕ)) (names : List (List ℕ)) (template : List (List ℤ))
    → 0 < length names → IsTemplate HasGroups rows names (Ok template) → 0 < length template
some_row HasGroups Intervals names template some e =
    subst (λ (t : List (List ℤ)). 0 < length t) (same_rows template (intervals_of (length names)) e) (some_intervals (length names) some)
some_row HasGroups Zones names template some e =
    subst (λ (t : List (List ℤ)). 0 < length t) (ready_rows template (zones_of (length names)) e)
    (more_rows (intervals_of (length names)) _ (some_intervals (length names) some))
some_row HasGroups Octagons names template some e =
    subst (λ (t : List (List ℤ)). 0 < length t) (ready_rows template (octagons_of (length names)) e)
    (more_rows (intervals_of (length names)) _ (some_intervals (length names) some))
some_row HasGroups Packs names template some (groups, given, e) =
    subst (λ (t : List (List ℤ)). 0 < length t) (ready_rows template (packs_of (length names) groups) e)
    (more_rows (intervals_of (length names)) _ (some_intervals (length names) some))
some_row HasGroups (Rows text) names template some h = file_row names text template h

-- ---- transition systems have at least one variable

spots_some : (names : Names) → 0 < length (names_in names)
spots_some names = omega (arith, length-append names.first_ones (names.last ∷ []), length-map (all_spots names) (λ (s : Spot). s.name))

-- what the text of a transition system is, named so that equations between answers have their type
abbrev auto_answered : AutoAnswer → AutoAnswer
auto_answered answer = answer

-- a transition system has a variable
pub auto_names : (text : List ℕ) (content : Content) → IsAuto text (Ok content) → 0 < length content.names
auto_names text content (no_tokens f h e) = absurd cc
auto_names text content (by_tokens tokens reads (system, is, (outer, e))) =
    subst (λ (c : Content). 0 < length c.names) (sym e) (spots_some system.heads.variables)
