-- What a parse by `clap` says of the request.
use Rattle.std.proofs.Common.{◌≡◌, true, false, List, [], ◌∷◌, Option, Some, None, Result, refl, sym, ap, option_and_then, option_map, IfOk}
use Rattle.std.specs.Prelude.{IsErrOf, ok_or}
use Rattle.std.specs.Borrow.{Bor}
use Rattle.ask_words.specs.declared.request.Request.{Request}
use Rattle.ask_words.specs.declared.words.WordsFault.{WordsFault}
use Rattle.ask_words.specs.declared.words.WordsFault.TheVariants.{Usage}
use Rattle.clap.specs.Words.{IsAmong, Text, fault_of, is_simple, is_simple_and_free, subcommand_of}
use Rattle.clap.specs.declared.error.ErrorKind.{ErrorKind}
use Rattle.clap.proofs.OnLiterals.{clap_on_literals}
use Rattle.ask_words.specs.Request.{tmpl_app}
use Rattle.ask_words.specs.Request.{command_in, progress_in, request_of, request_text, told_unless_fault, unless_fault, wants_progress}

-- the command line is simple: the words alone give its matches
pub simple : is_simple tmpl_app ≡ true
unfolding clap_on_literals
simple = refl

-- the command line is simple, and no argument of it has a rule on another
pub free : is_simple_and_free tmpl_app ≡ true
unfolding clap_on_literals
free = refl

-- where no step fails, the request is that of the subcommand
pub taken : (words : List Text) → fault_of tmpl_app words ≡ [] → request_of words
    ≡ option_and_then command_in (subcommand_of tmpl_app words)
unfolding request_of
taken words e = ap (λ kinds. unless_fault kinds (option_and_then command_in (subcommand_of tmpl_app words))) e

-- where some step fails, there is none
pub refused : (words : List Text) (kind : ErrorKind) (kinds : List ErrorKind) → fault_of tmpl_app words ≡ kinds → IsAmong kind kinds
    → request_of words ≡ None
unfolding request_of
refused words kind [] e among = absurd among
refused words kind (k ∷ ks) e among = ap (λ kinds. unless_fault kinds (option_and_then command_in (subcommand_of tmpl_app words))) e

-- the answer, from what the matches name
pub given : (o : Option (Request (Bor Text))) (r : Result (Request (Bor Text)) WordsFault) (asked : Option (Request Text))
    → r ≡ ok_or o Usage → option_map request_text o ≡ asked → IfOk r (λ x. asked ≡ Some (request_text x))
given None r asked e s = rw e tt
given (Some x) r asked e s = rw e (sym s)

-- where the matches name no request, the words ask for nothing
pub absent : (o : Option (Request (Bor Text))) (r : Result (Request (Bor Text)) WordsFault) (asked : Option (Request Text))
    → r ≡ ok_or o Usage → option_map request_text o ≡ asked → IsErrOf r Usage → asked ≡ None
absent None r asked e s is = sym s
absent (Some x) r asked e s is = let bad : IsErrOf (ok_or (Some x) Usage) Usage = rw e at is in cc

-- where no step fails, progress is asked for by the option
pub told : (words : List Text) → fault_of tmpl_app words ≡ [] → wants_progress words ≡ progress_in (subcommand_of tmpl_app words)
unfolding wants_progress
told words e = ap (λ kinds. told_unless_fault kinds (progress_in (subcommand_of tmpl_app words))) e

-- where some step fails, it isn't
pub untold : (words : List Text) (kind : ErrorKind) (kinds : List ErrorKind) → fault_of tmpl_app words ≡ kinds → IsAmong kind kinds
    → wants_progress words ≡ false
unfolding wants_progress
untold words kind [] e among = absurd among
untold words kind (k ∷ ks) e among =
    ap (λ kinds. told_unless_fault kinds (progress_in (subcommand_of tmpl_app words))) e
