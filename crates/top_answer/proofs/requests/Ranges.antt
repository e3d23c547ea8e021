-- The numbers of what words ask for are within their limits.
use Rattle.std.proofs.Common.{◌≡◌, List, [], ◌∷◌}
use Rattle.std.specs.Prelude.{Option, Some, option_and_then}
use Rattle.clap.specs.Words.{Kinds, Text, fault_of, subcommand_of}
use Rattle.ask_files.specs.Files.{Request}
use Rattle.ask_words.specs.Request.{command_in, request_of, tmpl_app, unless_fault}
use Rattle.top_answer.proofs.commands.Lawful.{IsInRange}
use Rattle.top_answer.proofs.commands.Table.{named_range}
use Rattle.top_answer.proofs.requests.Numbers.{and_then_some, none_some}

unfaulted : (kinds : Kinds) (o : Option Request) (r : Request) → unless_fault kinds o ≡ Some r → o ≡ Some r
unfaulted [] o r e = e
unfaulted (kind ∷ kinds) o r e = absurd (none_some r e)

-- the numbers of a request are within their limits
pub request_range : (words : List Text) (r : Request) → request_of words ≡ Some r → IsInRange r
unfolding request_of
request_range words r e =
    let p = and_then_some command_in (subcommand_of tmpl_app words) r (unfaulted (fault_of tmpl_app words)
    (option_and_then command_in (subcommand_of tmpl_app words)) r e) in
    named_range p.0 r p.2
