use Rattle.std.proofs.Common.{◌≡◌, refl, ◌∙◌, Some, None}
use Rattle.lang_tokens.proofs.signs.Longest.{second_of, second_read}
use Rattle.lang_tokens.proofs.signs.Marks.{third_of, third_read, chosen_here}
use Rattle.lang_tokens.proofs.signs.sign_lexeme.Goals as goal

pub returns-in-None-None : goal.returns-in-None-None
returns-in-None-None c =
    let second : c.copied-second.result ≡ second_of c.args.rest.now = c.copied-second.ensures
    ∙ second_read c.args.rest.now c.get.result c.get.ensures.lookup.0 c.get.ensures.lookup.1 in
    let third : c.copied.result ≡ third_of c.args.rest.now = c.copied.ensures
    ∙ third_read c.args.rest.now c.get-2.result c.get-2.ensures.lookup.0 c.get-2.ensures.lookup.1 in
    chosen_here c.args.rest.now None None _ c.requires.some c.requires.no_blank c.requires.no_letter
    c.requires.no_quote c.requires.no_number (rw (c.in-None-None.is-0, second) at c.longest_sign-own.ensures)
    (rw (c.in-None-None.is-1, second, third) at c.longest_foreign_sign-foreign.ensures) refl

pub returns-in-None-Some : goal.returns-in-None-Some
returns-in-None-Some c =
    let second : c.copied-second.result ≡ second_of c.args.rest.now = c.copied-second.ensures
    ∙ second_read c.args.rest.now c.get.result c.get.ensures.lookup.0 c.get.ensures.lookup.1 in
    let third : c.copied.result ≡ third_of c.args.rest.now = c.copied.ensures
    ∙ third_read c.args.rest.now c.get-2.result c.get-2.ensures.lookup.0 c.get-2.ensures.lookup.1 in
    chosen_here c.args.rest.now None (Some c.in-None-Some.foreign) _ c.requires.some c.requires.no_blank c.requires.no_letter
    c.requires.no_quote c.requires.no_number (rw (c.in-None-Some.is-0, second) at c.longest_sign-own.ensures)
    (rw (c.in-None-Some.is-1, second, third) at c.longest_foreign_sign-foreign.ensures) c.foreign_lexeme.ensures

pub returns-in-Some-None : goal.returns-in-Some-None
returns-in-Some-None c =
    let second : c.copied-second.result ≡ second_of c.args.rest.now = c.copied-second.ensures
    ∙ second_read c.args.rest.now c.get.result c.get.ensures.lookup.0 c.get.ensures.lookup.1 in
    let third : c.copied.result ≡ third_of c.args.rest.now = c.copied.ensures
    ∙ third_read c.args.rest.now c.get-2.result c.get-2.ensures.lookup.0 c.get-2.ensures.lookup.1 in
    chosen_here c.args.rest.now (Some c.in-Some-None.own) None _ c.requires.some c.requires.no_blank c.requires.no_letter
    c.requires.no_quote c.requires.no_number (rw (c.in-Some-None.is-0, second) at c.longest_sign-own.ensures)
    (rw (c.in-Some-None.is-1, second, third) at c.longest_foreign_sign-foreign.ensures) c.own_lexeme.ensures

pub returns-in-Some-Some : goal.returns-in-Some-Some
returns-in-Some-Some c =
    let second : c.copied-second.result ≡ second_of c.args.rest.now = c.copied-second.ensures
    ∙ second_read c.args.rest.now c.get.result c.get.ensures.lookup.0 c.get.ensures.lookup.1 in
    let third : c.copied.result ≡ third_of c.args.rest.now = c.copied.ensures
    ∙ third_read c.args.rest.now c.get-2.result c.get-2.ensures.lookup.0 c.get-2.ensures.lookup.1 in
    chosen_here c.args.rest.now (Some c.in-Some-Some.own)
    (Some c.in-Some-Some.foreign) _ c.requires.some c.requires.no_blank c.requires.no_letter
    c.requires.no_quote c.requires.no_number (rw (c.in-Some-Some.is-0, second) at c.longest_sign-own.ensures)
    (rw (c.in-Some-Some.is-1, second, third) at c.longest_foreign_sign-foreign.ensures) c.longer_lexeme.ensures
