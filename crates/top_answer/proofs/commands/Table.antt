-- All commands, and all words that ask for one.
use Rattle.std.proofs.Common.{◌≡◌, ℕ, Bool, true, false, List, if◌then◌else◌}
use Rattle.std.specs.Prelude.{Option, Some, None, codes}
use Rattle.std.specs.Str.{bytes_eq}
use Rattle.clap.specs.Words.{Row, Text}
use Rattle.ask_files.specs.Files.{Request, files_of, unread, with_texts}
use Rattle.ask_words.specs.Request.{bench_in, certify_in, check_in, command_in, equations_in, functions_in, help_in, points_in, prove_in}
use Rattle.ask_words.specs.Request.{solve_in, transitions_in, upgrade_in, verify_in}
use Rattle.ask_words.specs.declared.request.Request.TheVariants.{Analyse, Check, Bench, Upgrade, Prove, Transitions, Equations, Points}
use Rattle.ask_words.specs.declared.request.Request.TheVariants.{Functions, Verify, Help}
use Rattle.top_answer.specs.Commands.{command_of}
use Rattle.top_texts.specs.Exact.{exact}
use Rattle.top_answer.proofs.commands.Analyses.{analyses, certify_range, solve_range}
use Rattle.top_answer.proofs.commands.Checks.{check_range, checks}
use Rattle.top_answer.proofs.commands.Claims.{claims, claims_range}
use Rattle.top_answer.proofs.commands.Equations.{equations, equations_range}
use Rattle.top_answer.proofs.commands.Generated.{bench_range, benches}
use Rattle.top_answer.proofs.commands.Lawful.{IsCommand, IsInRange, IsLawful}
use Rattle.top_answer.proofs.commands.Named.{functions, functions_range}
use Rattle.top_answer.proofs.commands.Pages.{help_range, pages}
use Rattle.top_answer.proofs.commands.Plain.{points, points_range, upgrade_range, upgrades}
use Rattle.top_answer.proofs.commands.Transitions.{transitions, transitions_range}
use Rattle.top_answer.proofs.commands.Verified.{verifies, verify_range}
use Rattle.top_answer.proofs.requests.Numbers.{none_some}

-- each request is for a command of the program
pub table : (request : Request) → IsCommand request
table (Analyse purpose a format) = analyses purpose a format
table (Check program given format) = checks program given format
table (Bench seed loops) = benches seed loops
table (Upgrade given) = upgrades given
table (Prove given a format) = claims given a format
table (Transitions a format) = transitions a format
table (Equations text limit policy format) = equations text limit policy format
table (Points text) = points text
table (Functions text) = functions text
table (Verify name a format) = verifies name a format
table (Help topic) = pages topic

-- the commands of the program are lawful
pub lawful : IsLawful (command_of exact)
lawful asked = (table asked).lawful

-- where the files of a request are read, its texts are within their limits
pub in_limits : (request : Request) (contents : List (List ℕ)) → IsInRange request → unread (files_of request) contents ≡ None
    → (command_of exact (with_texts request contents)).in_limits
in_limits request contents range e = (table request).limits contents range e

-- ---- by their words

if_range : (b : Bool) (x y : Option Request) (r : Request) → (x ≡ Some r → IsInRange r) → (y ≡ Some r → IsInRange r)
    → (if b then x else y) ≡ Some r → IsInRange r
if_range true x y r h k e = h e
if_range false x y r h k e = k e

-- the numbers of a command that is named are within their limits
pub named_range : (p : Text × List Row) (r : Request) → command_in p ≡ Some r → IsInRange r
named_range (name, given) r e =
    if_range (bytes_eq name (codes "solve")) (solve_in given) _ r (solve_range given r)
    (if_range (bytes_eq name (codes "certify")) (certify_in given) _ r (certify_range given r)
    (if_range (bytes_eq name (codes "check")) (check_in given) _ r (check_range given r)
    (if_range (bytes_eq name (codes "bench")) (bench_in given) _ r (bench_range given r)
    (if_range (bytes_eq name (codes "upgrade")) (upgrade_in given) _ r (upgrade_range given r)
    (if_range (bytes_eq name (codes "prove")) (prove_in given) _ r (claims_range given r)
    (if_range (bytes_eq name (codes "transitions")) (transitions_in given) _ r (transitions_range given r)
    (if_range (bytes_eq name (codes "equations")) (equations_in given) _ r (equations_range given r)
    (if_range (bytes_eq name (codes "points")) (points_in given) _ r (points_range given r)
    (if_range (bytes_eq name (codes "verify")) (verify_in given) _ r (verify_range given r)
    (if_range (bytes_eq name (codes "functions")) (functions_in given) _ r (functions_range given r)
    (if_range (bytes_eq name (codes "help")) (help_in given) None r (help_range given r) (λ h. absurd (none_some r h)))))))))))))
    e
