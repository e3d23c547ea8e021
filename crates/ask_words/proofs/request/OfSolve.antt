-- The words behind `solve` go to `solve`.
use Rattle.std.proofs.Common.{◌≡◌, ◌∙◌, ◌++◌, List, [], ◌∷◌, Some, None, refl, sym, ap, subst, codes, fold, option_and_then, option_map}
use Rattle.std.specs.Prelude.{Option}
use Rattle.clap.specs.Walk.{Names, Row, Rule, Text, Walk, stop_after, walked, walked_from}
use Rattle.clap.specs.Simple.{argument_words, built, entered, names_of, subcommand_of}
use Rattle.clap.specs.Kinds.{Kinds}
use Rattle.clap.specs.Faults.{fault_of}
use Rattle.clap.proofs.OnLiterals.{clap_on_literals}
use Rattle.ask_words.specs.Request.{tmpl_app}
use Rattle.ask_words.specs.Request.{analysis_in, command_in, format_in, request_of, solve_in, unless_fault}
use Rattle.ask_words.specs.Values.{formats}
use Rattle.ask_words.specs.declared.format.Format.{Format}
use Rattle.ask_words.specs.declared.request.Analysis.{Analysis}
use Rattle.ask_words.specs.declared.request.Purpose.TheVariants.{Report}
use Rattle.ask_words.specs.declared.request.Request.{Request}
use Rattle.ask_words.specs.declared.request.Request.TheVariants.{Analyse}

-- a walk that has met a subcommand stays with it
step : (c : List Rule) (names : Names) (w : Walk) (p : Text × List Text) (word : Text) → w.stopped ≡ Some p
    → (walked c names w word).stopped ≡ Some (p.0, p.1 ++ word ∷ [])
unfolding walked
step c names w p word e = subst (λ s. (walked_from c names s w word).stopped ≡ Some (p.0, p.1 ++ word ∷ [])) (sym e) refl

stays : (c : List Rule) (names : Names) (words : List Text) (w : Walk) (p : Text × List Text) → w.stopped ≡ Some p
    → (q : List Text) × ((fold (walked c names) w words).stopped ≡ Some (p.0, q))
stays c names [] w p e = (p.1, e)
stays c names (word ∷ words) w p e = stays c names words (walked c names w word) (p.0, p.1 ++ word ∷ []) (step c names w p word e)

-- behind `solve` it is there
met : (rest : List Text) → (q : List Text)
    × (stop_after (built tmpl_app).top.rules (names_of (built tmpl_app)) (argument_words tmpl_app (codes "solve" ∷ rest))
    ≡ Some (codes "solve", q))
unfolding clap_on_literals
met rest = stays (built tmpl_app).top.rules (names_of (built tmpl_app)) rest _ (codes "solve", []) refl

found : (q : List Text) → (rows : List Row) × (entered (built tmpl_app) (Some (codes "solve", q)) ≡ Some (codes "solve", rows))
unfolding clap_on_literals
found q = (_, refl)

-- and what is asked is an analysis
asked : (rest : List Text) → (rows : List Row) × (option_and_then command_in (subcommand_of tmpl_app (codes "solve" ∷ rest))
    ≡ solve_in rows)
asked rest =
    let (q, e) = met rest in
    let (rows, f) = found q in
    (rows, ap (option_and_then command_in) (ap (entered (built tmpl_app)) e ∙ f))

analysed : (kinds : Kinds) (f : Option Format) (o : Option (Analysis Text)) (request : Request Text)
    → unless_fault kinds (option_and_then (λ a. option_map (λ format. Analyse Report a format) f) o) ≡ Some request
    → (a : Analysis Text) × (format : Format) × (request ≡ Analyse Report a format)
analysed [] f None request e = cc
analysed [] None (Some a) request e = cc
analysed [] (Some format) (Some a) request e = (a, format, cc)
analysed (kind ∷ kinds) f o request e = cc

-- words that begin with `solve` ask for the report of an analysis, if for anything
pub reports : (rest : List Text) (request : Request Text) → request_of (codes "solve" ∷ rest) ≡ Some request
    → (a : Analysis Text) × (format : Format) × (request ≡ Analyse Report a format)
unfolding request_of
reports rest request e =
    let (rows, f) = asked rest in
    analysed (fault_of tmpl_app (codes "solve" ∷ rest)) (format_in formats rows) (analysis_in rows) request
    (sym (ap (unless_fault (fault_of tmpl_app (codes "solve" ∷ rest))) f) ∙ e)
