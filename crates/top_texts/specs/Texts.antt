-- What texts are: a system to be solved, or refused by a cause. Tokens come first, then the function that is asked about, its points and
-- edges, the template, and the unknowns.
use Rattle.std.specs.Prelude.{◌≡◌, ◌*◌, ◌++◌, ◌≤◌, ◌<◌, ℕ, ℤ, List, [], ◌∷◌, Result, Ok, Err, Some, None, length}
use Rattle.lang_tokens.specs.declared.lexicon.Lexicon.TheVariants.{C}
use Rattle.lang_tokens.specs.declared.token.Token.{Token}
use Rattle.lang_tokens.specs.Reading.{Reads, end_at}
use Rattle.lang_tokens.specs.Faults.{HasFault}
use Rattle.lang_tree.specs.Tree.{Statements}
use Rattle.flow_edges.specs.Faults.{fault_of_program}
use Rattle.flow_edges.specs.Points.{points_of_program}
use Rattle.flow_templates.specs.Domains.{intervals_of, zones_of, octagons_of, ready}
use Rattle.flow_templates.specs.RowFiles.{Answers}
use Rattle.flow_templates.specs.declared.fault.RowFault.{RowFault}
use Rattle.flow_packs.specs.Packs.{packs_of}
use Rattle.flow_systems.specs.declared.system.System.{System}
use Rattle.source_tree.specs.Statements as c
use Rattle.source_core.specs.Core.{core_in}
use Rattle.source_file.specs.Meaning.{Answer, Means}
use Rattle.source_groups.specs.Grouping.{AreGroups}
use Rattle.ask_words.specs.declared.request.Source.{Source}
use Rattle.ask_words.specs.declared.request.Domain.{Domain}
use Rattle.ask_words.specs.declared.request.Policy.{Policy}
use Rattle.ask_words.specs.declared.request.Domain.TheVariants as domain
use Rattle.top_status.specs.declared.status.TextCause.{TextCause}
use Rattle.top_status.specs.declared.status.TextCause.TheVariants.{Lex, Source as InSource, Flow, Rows, Unknowns}
use Rattle.top_texts.specs.Rounds.{EndsWithin, IsSystemFor}
use Rattle.flow_systems.specs.declared.limits.TheConstants.{MOST_UNKNOWNS}

-- a function of a C file: the text of the file, the name of the function, if one is named, and the integers by which it computes
abbrev pub Program : Type 0
Program = Source (List ℕ)

-- the tokens of the file mean this: the names and the statements of the function that is asked about, or a fault
abbrev pub Reading : Program → Answer → Type 0
Reading program answer = (front : List Token) × Reads C program.text (front ++ end_at (length program.text) ∷ [])
    × Means program.integers program.text program.function front answer

-- a function with these names has this core: its statements of C as those of a program
pub record HasCore (program : Program) (names : List (List ℕ)) (body : Statements) : Type 0 where
  pub statements : c.Statements
  pub reading : Reading program (Ok (names, statements))
  pub core : body ≡ core_in program.integers (length names) statements

-- and the points and edges of its core are within the limits
pub record IsAnalysed (program : Program) (names : List (List ℕ)) (body : Statements) : Type 0 where
  pub has_core : HasCore program names body
  pub within : fault_of_program body ≡ None

-- the template over these variables: the list of a domain, unless it is too long, or what the text of the rows is; packs are those of some
-- groups that the variables have
abbrev pub IsTemplate : (List (List ℕ) → Type 0) → Domain (List ℕ) → List (List ℕ) → Result (List (List ℤ)) RowFault → Type 0
IsTemplate HasGroups domain.Intervals names answer = answer ≡ Ok (intervals_of (length names))
IsTemplate HasGroups domain.Zones names answer = answer ≡ ready (zones_of (length names))
IsTemplate HasGroups domain.Octagons names answer = answer ≡ ready (octagons_of (length names))
IsTemplate HasGroups domain.Packs names answer =
    (groups : List (List ℕ)) × HasGroups groups × (answer ≡ ready (packs_of (length names) groups))
IsTemplate HasGroups (domain.Rows text) names answer = Answers names text answer

-- groups serve a domain: for packs they have to be such groups, and other domains need none
abbrev pub Serve : (List (List ℕ) → Type 0) → Domain (List ℕ) → List (List ℕ) → Type 0
Serve HasGroups domain.Packs groups = HasGroups groups
Serve HasGroups _ groups = Unit {0}

-- the template over these variables, which are in these groups
abbrev pub HasTemplateBy : List (List ℕ) → Domain (List ℕ) → List (List ℕ) → Result (List (List ℤ)) RowFault → Type 0
HasTemplateBy groups rows names answer = IsTemplate (λ given. given ≡ groups) rows names answer

-- by these groups the variables of the function that is asked about are together that its text has together
abbrev pub HasGroups : Program → List (List ℕ) → List (List ℕ) → Type 0
HasGroups program names groups = (front : List Token) × Reads C program.text (front ++ end_at (length program.text) ∷ [])
    × AreGroups program.integers program.text program.function front names groups

-- the template of a program with these variables
abbrev pub HasTemplate : Program → Domain (List ℕ) → List (List ℕ) → Result (List (List ℤ)) RowFault → Type 0
HasTemplate program rows names answer = IsTemplate (HasGroups program names) rows names answer

-- a program and a template of these texts
pub record IsSystemOf (program : Program) (rows : Domain (List ℕ)) (names : List (List ℕ)) (body : Statements) (template : List (List ℤ)) :
    Type 0 where
  pub analysed : IsAnalysed program names body
  pub template_is : HasTemplate program rows names (Ok template)

-- the number of unknowns: points times rows
abbrev pub unknowns : Statements → List (List ℤ) → ℕ
unknowns body template = length (points_of_program body) * length template

-- a program and a template of these texts that are solved
pub record IsReady (program : Program) (rows : Domain (List ℕ)) (names : List (List ℕ)) (body : Statements) (template : List (List ℤ)) :
    Type 0 where
  pub system : IsSystemOf program rows names body template
  pub within : unknowns body template ≤ MOST_UNKNOWNS

-- the system of these texts, which is solved
pub record IsSolvedSystem (program : Program) (rows : Domain (List ℕ)) (system : System) : Type 0 where
  pub names : List (List ℕ)
  pub body : Statements
  pub template : List (List ℤ)
  pub ready : IsReady program rows names body template
  pub system_for : IsSystemFor names body template system

-- the program is refused by this cause, whatever template it is for
abbrev pub IsRefusedProgram : Program → TextCause → Type 0
IsRefusedProgram program (Lex fault) = HasFault C program.text fault
IsRefusedProgram program (InSource fault) = Reading program (Err fault)
IsRefusedProgram program (Flow fault) =
    (names : List (List ℕ)) × (body : Statements) × HasCore program names body × (fault_of_program body ≡ Some fault)
IsRefusedProgram program _ = ⊥

-- the texts are refused by this cause
abbrev pub IsRefused : Program → Domain (List ℕ) → TextCause → Type 0
IsRefused program rows (Lex fault) = IsRefusedProgram program (Lex fault)
IsRefused program rows (InSource fault) = IsRefusedProgram program (InSource fault)
IsRefused program rows (Flow fault) = IsRefusedProgram program (Flow fault)
IsRefused program rows (Rows fault) =
    (names : List (List ℕ)) × (body : Statements) × IsAnalysed program names body × HasTemplate program rows names (Err fault)
IsRefused program rows (Unknowns count) =
    (names : List (List ℕ)) × (body : Statements) × (template : List (List ℤ)) × IsSystemOf program rows names body template
    × (MOST_UNKNOWNS < unknowns body template) × (count ≡ unknowns body template)
IsRefused program rows _ = ⊥

-- the texts are a system whose rounds end within the limit
abbrev pub IsSolvable : Program → Domain (List ℕ) → Policy → ℕ → Type 0
IsSolvable program rows policy limit = (system : System) × IsSolvedSystem program rows system × EndsWithin system policy limit
