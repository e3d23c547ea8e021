use Rattle.std.proofs.Common.{◌≡◌, ◌∷◌, [], ap, ◌∙◌, arith, rules}
use Rattle.json.specs.Json.{parse_map, value}
use Rattle.json.specs.Reads.{token_of}
use Rattle.serde_json.proofs.Views.{view-Object}
use Rattle.serde_json.specs.Data.{null, object}
use Rattle.serde_json.specs.Read.{converted, of_json}
use Rattle.serde_json.specs.View.{view}
use Rattle.serde_json.specs.declared.value.Value.{Null, the_lemmas}
use Rattle.base_values.proofs.Tokens.{nothing_read, object_is, outline_is}
use Rattle.base_values.proofs.outline.read_outline.Goals as goal

pub returns-in_err-token-clause-err : goal.returns-in_err-token-clause-err
returns-in_err-token-clause-err c refused =
    let empty : c.args.reader.now ≡ [] = grind arith in
    ap (λ ts. converted of_json (value c.args.depth ts)) empty ∙ nothing_read c.args.depth

pub returns-in_err-read_flat_members-in-BeginObject-clause-err : goal.returns-in_err-read_flat_members-in-BeginObject-clause-err
returns-in_err-read_flat_members-in-BeginObject-clause-err c refused =
    let first : c.args.reader.now ≡ token_of c.in_ok-token.token ∷ c.next.new.self = grind arith in
    ap (λ ts. converted of_json (value c.args.depth ts)) (first ∙ ap (λ k. token_of k ∷ c.next.new.self) c.in-BeginObject.is)
    ∙ object_is c.args.depth c.next.new.self c.requires ∙ ap (parse_map object) (c.read_flat_members.ensures.err (grind arith))

pub returns-in_ok-read_flat_members-in-BeginObject-clause-ok : goal.returns-in_ok-read_flat_members-in-BeginObject-clause-ok
returns-in_ok-read_flat_members-in-BeginObject-clause-ok c =
    let first : c.args.reader.now ≡ token_of c.in_ok-token.token ∷ c.next.new.self = grind arith in
    let found = c.in_ok-read_flat_members-in-BeginObject in
    let ok = found.ensures.ok in (
      object ok.0,
      ap (λ ts. converted of_json (value c.args.depth ts)) (first ∙ ap (λ k. token_of k ∷ c.next.new.self) c.in-BeginObject.is)
          ∙ object_is c.args.depth c.next.new.self c.requires ∙ ap (parse_map object) ok.1,
      view-Object found.field-0 ∙ ap object ok.2,
    )

pub returns-in_ok-check_token-in_default : goal.returns-in_ok-check_token-in_default
returns-in_ok-check_token-in_default c =
    let first : c.args.reader.now ≡ token_of c.in_ok-token.token ∷ c.next.new.self = grind arith in
    let done = c.in_ok-check_token-in_default.ensures in
    let seen : view Null ≡ null = search (rules, the_lemmas) in
    let kept = outline_is c.args.depth c.next.new.self c.check_token.new.reader done.ok.0 c.in_ok-token.token
    c.in_default.not-BeginObject done.ok.1 in
    record {
      ok = (done.ok.0, ap (λ ts. converted of_json (value c.args.depth ts)) first ∙ done.ok.1, seen ∙ kept);
      err = λ never. absurd cc;
    }
