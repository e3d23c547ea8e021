use Rattle.std.proofs.Common.{pos, Some, refl, ap, sym, ◌∙◌}
use Rattle.base_fractions.proofs.texts.Slashes.{cut, uncut}
use Rattle.base_fractions.proofs.digits.read_parts.Goals as goal

pub returns-in-Some : goal.returns-in-Some
returns-in-Some c = λ n d hn hd e.
    let k = cut c.args.text.now n d hn e c.in-Some.at (sym c.slash.ensures ∙ c.in-Some.is) in
    c.pair.ensures n (pos d) (c.read_number.ensures n hn k.0) (c.read_number-in-Some.ensures (pos d) hd k.1)

pub returns-in-None : goal.returns-in-None
returns-in-None c = λ n d hn hd e.
    let k = uncut c.args.text.now n d hn e (sym c.slash.ensures ∙ c.in-None.is) in
    c.pair-in-None.ensures n (pos 1) (c.read_number-in-None.ensures n hn k.1) refl ∙ ap (λ m. Some (n, pos m)) (sym k.0)
