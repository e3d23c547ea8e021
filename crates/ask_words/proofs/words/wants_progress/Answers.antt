use Rattle.std.proofs.Common.{◌≡◌, List, map, ap, subst, sym, ◌∙◌, string_bytes, ⊎_elim, refl}
use Rattle.clap.specs.Words.{App, IsAmong, Text, app_of, fault_of, is_simple, is_simple_and_free, kind_of, subcommand_of}
use Rattle.clap.specs.Words.{subcommand_rows_of}
use Rattle.ask_words.specs.Request.{progress_in, tmpl_app}
use Rattle.ask_words.proofs.words.Parsed.{free, simple, told, untold}
use Rattle.ask_words.proofs.words.wants_progress.Goals as goal

pub returns-in-Ok : goal.returns-in-Ok
returns-in-Ok c =
    let words : List Text = map string_bytes c.args.words.now in
    let app : app_of c.in_ok-parser.parser ≡ tmpl_app = c.in_ok-parser.ensures in
    let none = ap (λ (a : App). fault_of a words) (sym app) ∙ c.in-Ok.ensures.kinds (ap is_simple_and_free app ∙ free) in
    let rows : subcommand_rows_of c.in-Ok.matches ≡ subcommand_of tmpl_app words =
    (c.in-Ok.ensures.matches (ap is_simple app ∙ simple)).1 ∙ ap (λ (a : App). subcommand_of a words) app in
    c.progress_in.ensures ∙ ap progress_in rows ∙ sym (told words none)

pub returns : goal.returns
returns c =
    let words : List Text = map string_bytes c.args.words.now in
    let app : app_of c.in_ok-parser.parser ≡ tmpl_app = c.in_ok-parser.ensures in
    sym (⊎_elim (λ memory. absurd (c.in_default.not-OutOfMemory (c.kind.ensures ∙ memory)))
    (λ among. untold words (kind_of c.in-Err.error) (fault_of tmpl_app words) refl
    (subst (λ (a : App). IsAmong (kind_of c.in-Err.error) (fault_of a words)) app among))
    (c.in-Err.ensures.kinds (ap is_simple_and_free app ∙ free)))
