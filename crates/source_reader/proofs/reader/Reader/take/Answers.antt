-- What is no mark that is found isn't the one that is wanted.
use Rattle.std.proofs.Common.{◌≡◌, ◌∙◌, Some, refl, sym, ap}
use denote.Enum.Bare.{same_false}
use Rattle.source_reader.specs.contracts.mark.Mark.{the_type}
use Rattle.source_reader.specs.Marks.{mark_in}
use Rattle.source_reader.specs.Reading.{first_kind}
use Rattle.source_reader.proofs.Firsts.{plain_mark}
use Rattle.source_reader.proofs.reader.Reader.take.Goals as goal

pub returns-in_default : goal.returns-in_default
returns-in_default c = (
  λ e. let s : Some c.in-Some.found ≡ Some c.args.mark = sym c.in-Some.is ∙ c.mark_in.ensures ∙ ap mark_in c.symbol.ensures
      ∙ plain_mark (first_kind c.args.self.now.ahead) ∙ e in
      let f : c.in-Some.found ≡ c.args.mark = cc in
      same_false the_type c.in-Some.found c.args.mark (sym c.eq.ensures ∙ c.if-eq.false) f,
  refl,
  refl,
)
