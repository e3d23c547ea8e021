use Rattle.source_file.proofs.meaning.Every.{each_means}
use Rattle.source_file.proofs.meaning.Once.{means_once, names_once}
use Rattle.source_file.proofs.laws.one_meaning.Goals as goal

pub returns-clause-some : goal.returns-clause-some
returns-clause-some c = λ integers text asked ts. each_means integers text asked ts

pub returns-clause-one : goal.returns-clause-one
returns-clause-one c = λ integers text asked ts one other a b. means_once integers text asked ts one other a b

pub returns-clause-list : goal.returns-clause-list
returns-clause-list c = λ text ts one other a b. names_once text ts one other a b
