use Rattle.std.proofs.Common.{◌≡◌, List, map, ap, subst, sym, ◌∙◌, option_and_then, string_bytes, ⊎_elim, refl}
use Rattle.clap.specs.Words.{App, IsAmong, Text, app_of, fault_of, is_simple, is_simple_and_free, kind_of, subcommand_of}
use Rattle.clap.specs.Words.{subcommand_rows_of}
use Rattle.ask_words.specs.Request.{tmpl_app}
use Rattle.ask_words.specs.Request.{command_in, request_of}
use Rattle.ask_words.proofs.words.Parsed.{absent, free, given, refused, simple, taken}
use Rattle.ask_words.proofs.words.read_words.Goals as goal

pub returns-in-Ok-clause-ok : goal.returns-in-Ok-clause-ok
returns-in-Ok-clause-ok c =
    let words : List Text = map string_bytes c.args.words.now in
    let app : app_of c.in_ok-command.command ≡ tmpl_app = c.in_ok-command.ensures in
    let none = ap (λ (a : App). fault_of a words) (sym app) ∙ c.in-Ok.ensures.kinds (ap is_simple_and_free app ∙ free) in
    let rows : subcommand_rows_of c.in-Ok.matches ≡ subcommand_of tmpl_app words =
    (c.in-Ok.ensures.matches (ap is_simple app ∙ simple)).1 ∙ ap (λ (a : App). subcommand_of a words) app in
    given c.request_in.result c.ok_or.result (request_of words) c.ok_or.ensures.value
    (c.request_in.ensures ∙ ap (option_and_then command_in) rows ∙ sym (taken words none))

pub returns-in-Ok-clause-usage : goal.returns-in-Ok-clause-usage
returns-in-Ok-clause-usage c =
    let words : List Text = map string_bytes c.args.words.now in
    let app : app_of c.in_ok-command.command ≡ tmpl_app = c.in_ok-command.ensures in
    let none = ap (λ (a : App). fault_of a words) (sym app) ∙ c.in-Ok.ensures.kinds (ap is_simple_and_free app ∙ free) in
    let rows : subcommand_rows_of c.in-Ok.matches ≡ subcommand_of tmpl_app words =
    (c.in-Ok.ensures.matches (ap is_simple app ∙ simple)).1 ∙ ap (λ (a : App). subcommand_of a words) app in
    absent c.request_in.result c.ok_or.result (request_of words) c.ok_or.ensures.value
    (c.request_in.ensures ∙ ap (option_and_then command_in) rows ∙ sym (taken words none))

pub returns : goal.returns
returns c =
    let words : List Text = map string_bytes c.args.words.now in
    let app : app_of c.in_ok-command.command ≡ tmpl_app = c.in_ok-command.ensures in
    record {
      ok = tt;
      usage = λ _. ⊎_elim (λ memory. absurd (c.in_default.not-OutOfMemory (c.kind.ensures ∙ memory)))
          (λ among. refused words (kind_of c.in-Err.error) (fault_of tmpl_app words) refl
          (subst (λ (a : App). IsAmong (kind_of c.in-Err.error) (fault_of a words)) app among))
          (c.in-Err.ensures.kinds (ap is_simple_and_free app ∙ free));
    }
