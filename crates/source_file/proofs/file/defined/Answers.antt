use Rattle.std.specs.Option.{option_copied}
use Rattle.source_file.proofs.file.Fronts.{taken_in}
use Rattle.source_file.proofs.file.Found.{found_chosen, found_code, found_fault, found_means, found_order, found_within}
use Rattle.source_file.proofs.file.defined.Goals as goal

pub chosen_in-requires-clause-tokens : goal.chosen_in-requires-clause-tokens
chosen_in-requires-clause-tokens c = taken_in c.args.text.now c.args.tokens.now c.requires.tokens

pub returns-clause-order : goal.returns-clause-order
returns-clause-order c = found_order c.args.integers c.args.text.now (option_copied c.args.asked) c.args.tokens.now c.chosen_in.result
    c.chosen_in.ensures.found

pub returns-clause-within : goal.returns-clause-within
returns-clause-within c = found_within c.args.integers c.args.text.now (option_copied c.args.asked) c.args.tokens.now c.chosen_in.result
    c.chosen_in.ensures.code c.chosen_in.ensures.found

pub returns-clause-code : goal.returns-clause-code
returns-clause-code c = found_code c.args.integers c.args.text.now (option_copied c.args.asked) c.args.tokens.now c.chosen_in.result
    c.chosen_in.ensures.code

pub returns-clause-found : goal.returns-clause-found
returns-clause-found c = found_chosen c.args.integers c.args.text.now (option_copied c.args.asked) c.args.tokens.now c.chosen_in.result
    c.chosen_in.ensures.found

pub returns-clause-means : goal.returns-clause-means
returns-clause-means c = found_means c.args.integers c.args.text.now (option_copied c.args.asked) c.args.tokens.now c.chosen_in.result
    c.chosen_in.ensures.code c.chosen_in.ensures.found

pub returns-clause-fault : goal.returns-clause-fault
returns-clause-fault c = found_fault c.args.integers c.args.text.now (option_copied c.args.asked) c.args.tokens.now c.chosen_in.result
    c.chosen_in.ensures.fault
