use Rattle.std.proofs.Common.{◌≡◌, ◌∷◌, [], length, sym, ap, ◌∙◌, arith, rules}
use Rattle.json.specs.Token.{Token}
use Rattle.json.specs.Json.{value}
use Rattle.json.specs.Reads.{token_of}
use Rattle.serde_json.specs.Data.{null, number}
use Rattle.serde_json.specs.Read.{converted, of_json}
use Rattle.serde_json.specs.View.{number_view, view}
use Rattle.serde_json.specs.declared.value.Value.{Null, Number, the_lemmas}
use Rattle.base_values.proofs.Tokens.{flat_of, no_number, nothing_read, number_read}
use Rattle.base_values.proofs.outline.read_flat.Goals as goal

pub returns-in_err-token-clause-err : goal.returns-in_err-token-clause-err
returns-in_err-token-clause-err c refused =
    let empty : c.args.reader.now ≡ [] = grind arith in
    ap (λ ts. converted of_json (value c.args.depth ts)) empty ∙ nothing_read c.args.depth

pub returns-in-Some-clause-ok : goal.returns-in-Some-clause-ok
returns-in-Some-clause-ok c =
    let first : c.args.reader.now ≡ token_of c.in_ok-token.token ∷ c.next.new.self = grind arith in
    let is : c.args.reader.now ≡ Token.number c.in-Number.text.now ∷ c.next.new.self =
    first ∙ ap (λ k. token_of k ∷ c.next.new.self) c.in-Number.is in
    let seen : view (Number c.in-Some.number) ≡ number (number_view c.in-Some.number) = search (rules, the_lemmas) in (
      number (number_view c.in-Some.number),
      ap (λ ts. converted of_json (value c.args.depth ts)) is
          ∙ number_read c.args.depth c.next.new.self c.in-Number.text.now (number_view c.in-Some.number) (sym c.in-Some.ensures),
      seen,
    )

pub returns-in-None-clause-err : goal.returns-in-None-clause-err
returns-in-None-clause-err c refused =
    let first : c.args.reader.now ≡ token_of c.in_ok-token.token ∷ c.next.new.self = grind arith in
    let is : c.args.reader.now ≡ Token.number c.in-Number.text.now ∷ c.next.new.self =
    first ∙ ap (λ k. token_of k ∷ c.next.new.self) c.in-Number.is in
    ap (λ ts. converted of_json (value c.args.depth ts)) is
    ∙ no_number c.args.depth c.next.new.self c.in-Number.text.now (sym c.in-None.ensures)

pub returns-in_ok-check_token-in_default : goal.returns-in_ok-check_token-in_default
returns-in_ok-check_token-in_default c =
    let first : c.args.reader.now ≡ token_of c.in_ok-token.token ∷ c.next.new.self = grind arith in
    let done = c.in_ok-check_token-in_default.ensures in
    let seen : view Null ≡ null = search (rules, the_lemmas) in
    let kept = flat_of c.args.depth c.next.new.self c.check_token.new.reader done.ok.0 c.in_ok-token.token
    c.in_default.not-Number done.ok.1 in
    record {
      ok = (done.ok.0, ap (λ ts. converted of_json (value c.args.depth ts)) first ∙ done.ok.1, seen ∙ kept);
      shorter = omega (arith, ap length first, done.shorter);
      err = λ never. absurd cc;
    }
