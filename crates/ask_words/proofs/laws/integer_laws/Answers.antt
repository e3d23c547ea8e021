use Rattle.std.proofs.Common.{◌≡◌, Option, Some, None, refl, codes, option_and_then, option_map}
use Rattle.base_integers.specs.declared.integers.Integers.{Integers}
use Rattle.base_integers.specs.declared.integers.Integers.TheVariants.{Mathematical}
use Rattle.clap.specs.Words.{Text, first_of}
use Rattle.clap.proofs.OnLiterals.{clap_on_literals}
use Rattle.ask_words.specs.Request.{request_of}
use Rattle.ask_words.specs.Values.{integers_in}
use Rattle.ask_words.specs.declared.request.Source.{Source}
use Rattle.ask_words.proofs.laws.integer_laws.Goals as goal

-- without a number of bits a program computes by mathematical integers
without : (bits name program : Option Text) (source : Source Text) → bits ≡ None
    → option_and_then (λ text. option_map (λ (integers : Integers). record { text = text; function = name; integers = integers })
    (integers_in bits)) program ≡ Some source → source.integers ≡ Mathematical
without None name None source none e = cc
without None name (Some text) source none e = cc
without (Some word) name program source none e = cc

pub returns-clause-given : goal.returns-clause-given
unfolding clap_on_literals request_of
returns-clause-given c = refl

pub returns-clause-absent : goal.returns-clause-absent
returns-clause-absent c = λ given source. without (first_of (codes "int") given) (first_of (codes "function") given)
    (first_of (codes "program") given) source

pub returns-clause-commands : goal.returns-clause-commands
returns-clause-commands c = refl

pub returns-clause-refused : goal.returns-clause-refused
unfolding clap_on_literals request_of
returns-clause-refused c = refl
