use Rattle.std.proofs.Common.{◌≡◌, refl, inl, ◌∙◌}
use Rattle.lang_tokens.proofs.signs.Longest.{second_of, second_read, sign_stands, nothing_stands}
use Rattle.lang_tokens.proofs.signs.sign.Goals as goal

pub returns-in-Some : goal.returns-in-Some
returns-in-Some c =
    let second : c.copied.result ≡ second_of c.args.rest.now = c.copied.ensures
    ∙ second_read c.args.rest.now c.get.result c.get.ensures.lookup.0 c.get.ensures.lookup.1 in
    λ before out no_blank. sign_stands before c.args.rest.now c.in-Some.sign c.width.result out c.requires.some c.requires.no_comment
    c.requires.no_letter c.requires.no_digit (rw second at c.in-Some.ensures) c.width.ensures

pub returns-in-None : goal.returns-in-None
returns-in-None c =
    let second : c.copied.result ≡ second_of c.args.rest.now = c.copied.ensures
    ∙ second_read c.args.rest.now c.get.result c.get.ensures.lookup.0 c.get.ensures.lookup.1 in
    λ before out no_blank. inl (
      refl,
      nothing_stands before c.args.rest.now c.requires.some no_blank c.requires.no_comment c.requires.no_letter
          c.requires.no_digit (rw second at c.in-None.ensures),
    )
