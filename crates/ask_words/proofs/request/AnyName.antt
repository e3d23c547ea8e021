-- `solve` and one word that is no option.
use Rattle.std.proofs.Common.{◌≡◌, ◌∙◌, ℕ, List, [], ◌∷◌, Some, None, false, refl, codes, eqb, ap, ap₂, option_and_then}
use Rattle.clap.specs.Walk.{Row, stop_after}
use Rattle.clap.specs.Simple.{argument_words, built, entered, names_of}
use Rattle.clap.specs.Words.{Text, fault_of, first_of, subcommand_of}
use Rattle.clap.specs.Lexer.{short_of}
use Rattle.clap.proofs.OnLiterals.{clap_on_literals}
use Rattle.ask_words.specs.Request.{command_in, plain_analysis, request_of, solve_in, tmpl_app, unless_fault}
use Rattle.ask_words.specs.declared.format.Format.TheVariants as format
use Rattle.ask_words.specs.declared.request.Domain.TheVariants.{Intervals}
use Rattle.ask_words.specs.declared.request.Purpose.TheVariants.{Report}
use Rattle.ask_words.specs.declared.request.Request.TheVariants.{Analyse}

no_short : (x : ℕ) (rest : Text) → eqb x 45 ≡ false → short_of (x ∷ rest) ≡ None
no_short x rest e = rw e refl

no_fault : (x : ℕ) (rest : Text) → eqb x 45 ≡ false → fault_of tmpl_app (codes "solve" ∷ (x ∷ rest) ∷ []) ≡ []
unfolding clap_on_literals
no_fault x rest e = rw (e, no_short x rest e) refl

-- the word stands behind `solve`
met : (word : Text) → stop_after (built tmpl_app).top.rules (names_of (built tmpl_app))
    (argument_words tmpl_app (codes "solve" ∷ word ∷ [])) ≡ Some (codes "solve", word ∷ [])
unfolding clap_on_literals
met word = refl

-- what is found is a program alone
record FindsAlone (word : Text) (rows : List Row) : Type 0 where
  program : first_of (codes "program") rows ≡ Some word
  function : first_of (codes "function") rows ≡ None
  integers : first_of (codes "int") rows ≡ None
  domain : first_of (codes "domain") rows ≡ None
  file : first_of (codes "rows") rows ≡ None
  improvements : first_of (codes "improvements") rows ≡ None
  policy : first_of (codes "policy") rows ≡ None
  written : first_of (codes "format") rows ≡ None

-- and it is so of the word
found : (x : ℕ) (rest : Text) → eqb x 45 ≡ false → (rows : List Row)
    × (entered (built tmpl_app) (Some (codes "solve", (x ∷ rest) ∷ [])) ≡ Some (codes "solve", rows)) × FindsAlone (x ∷ rest) rows
unfolding clap_on_literals
found x rest e = rw (e, no_short x rest e) (
  _,
  refl,
  record {
    program = refl;
    function = refl;
    integers = refl;
    domain = refl;
    file = refl;
    improvements = refl;
    policy = refl;
    written = refl;
  },
)

-- a program alone is analysed over intervals, and its report is a text
analysed : (word : Text) (rows : List Row) → FindsAlone word rows
    → solve_in rows ≡ Some (Analyse Report (plain_analysis word Intervals) format.Text)
analysed word rows f = rw (f.program, f.function, f.integers, f.domain, f.file, f.improvements, f.policy, f.written) refl

named : (x : ℕ) (rest : Text) → eqb x 45 ≡ false
    → option_and_then command_in (subcommand_of tmpl_app (codes "solve" ∷ (x ∷ rest) ∷ []))
    ≡ Some (Analyse Report (plain_analysis (x ∷ rest) Intervals) format.Text)
named x rest e =
    let (rows, enters, alone) = found x rest e in
    ap (option_and_then command_in) (ap (entered (built tmpl_app)) (met (x ∷ rest)) ∙ enters) ∙ analysed (x ∷ rest) rows alone

-- a word that doesn't begin with a hyphen names the program
pub any_name : (x : ℕ) (rest : Text) → eqb x 45 ≡ false
    → request_of (codes "solve" ∷ (x ∷ rest) ∷ []) ≡ Some (Analyse Report (plain_analysis (x ∷ rest) Intervals) format.Text)
unfolding request_of
any_name x rest e = ap₂ unless_fault (no_fault x rest e) (named x rest e)
