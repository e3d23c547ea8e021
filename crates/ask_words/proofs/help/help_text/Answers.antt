use Rattle.std.proofs.Common.{ap, sym}
use Rattle.ask_words.specs.Help.{help_text}
use Rattle.ask_words.proofs.help.help_text.Goals as goal

pub returns-in-Overview : goal.returns-in-Overview
returns-in-Overview c = sym (ap help_text c.in-Overview.is)

pub returns-in-Solve : goal.returns-in-Solve
returns-in-Solve c = sym (ap help_text c.in-Solve.is)

pub returns-in-Certify : goal.returns-in-Certify
returns-in-Certify c = sym (ap help_text c.in-Certify.is)

pub returns-in-Check : goal.returns-in-Check
returns-in-Check c = sym (ap help_text c.in-Check.is)

pub returns-in-Prove : goal.returns-in-Prove
returns-in-Prove c = sym (ap help_text c.in-Prove.is)

pub returns-in-Transitions : goal.returns-in-Transitions
returns-in-Transitions c = sym (ap help_text c.in-Transitions.is)

pub returns-in-Equations : goal.returns-in-Equations
returns-in-Equations c = sym (ap help_text c.in-Equations.is)

pub returns-in-Points : goal.returns-in-Points
returns-in-Points c = sym (ap help_text c.in-Points.is)

pub returns-in-Verify : goal.returns-in-Verify
returns-in-Verify c = sym (ap help_text c.in-Verify.is)

pub returns-in-Functions : goal.returns-in-Functions
returns-in-Functions c = sym (ap help_text c.in-Functions.is)
