use Rattle.std.proofs.Common.{◌≡◌, ◌-◌, ◌<◌, [], ◌∷◌, length, Some, None, refl, sym, ap, ◌∙◌, arith}
use Rattle.json.specs.Json.{parse_map, after_end_array, read_key, items, value}
use Rattle.json.specs.Reads.{token_of}
use Rattle.json.proofs.Grammar.{value_is, read_key-shorter}
use Rattle.serde_json.specs.Data.{array, item, no_items, object, no_members, put}
use Rattle.serde_json.specs.Read.{of_json, of_items, converted}
use Rattle.base_values.proofs.Tokens.{array_is, deep_array_refused, deep_object_refused, map_none, no_more, nothing_read, number_passes}
use Rattle.base_values.proofs.Tokens.{number_refused}
use Rattle.base_values.proofs.Tokens.{err_any, object_is, on_err, on_ok, one_more, one_refused, plain, plain_read}
use Rattle.base_values.proofs.Turns.{member_read, member_refused, key_refused, members_over}
use Rattle.base_values.proofs.check.+check.Goals as goal

pub check_token-returns-in-String-clause-ok : goal.check_token-returns-in-String-clause-ok
check_token-returns-in-String-clause-ok t c = plain_read c.args.token c.args.depth c.args.reader.now (ap plain c.in-String.is)

pub check_token-returns-in-Bool-clause-ok : goal.check_token-returns-in-Bool-clause-ok
check_token-returns-in-Bool-clause-ok t c = plain_read c.args.token c.args.depth c.args.reader.now (ap plain c.in-Bool.is)

pub check_token-returns-in-Null-clause-ok : goal.check_token-returns-in-Null-clause-ok
check_token-returns-in-Null-clause-ok t c = plain_read c.args.token c.args.depth c.args.reader.now (ap plain c.in-Null.is)

pub check_token-returns-then-is_number-clause-ok : goal.check_token-returns-then-is_number-clause-ok
check_token-returns-then-is_number-clause-ok t c =
    let found = number_passes c.args.depth c.args.reader.now c.in-Number.text.now (sym c.if-is_number.ensures) in
    (found.0, ap (λ k. converted of_json (value c.args.depth (token_of k ∷ c.args.reader.now))) c.in-Number.is ∙ found.1)

pub check_token-returns-else-is_number-clause-err : goal.check_token-returns-else-is_number-clause-err
check_token-returns-else-is_number-clause-err t c =
    ap (λ k. converted of_json (value c.args.depth (token_of k ∷ c.args.reader.now))) c.in-Number.is
    ∙ number_refused c.args.depth c.args.reader.now c.in-Number.text.now (sym c.if-is_number.ensures)

pub check_token-returns-in-EndObject-clause-err : goal.check_token-returns-in-EndObject-clause-err
check_token-returns-in-EndObject-clause-err t c =
    let none : value c.args.depth (token_of c.args.token ∷ c.args.reader.now) ≡ None =
    rw (value_is c.args.depth (token_of c.args.token ∷ c.args.reader.now)) (grind arith) in
    ap (converted of_json) none

pub check_token-returns-then-depth-eq0-clause-err : goal.check_token-returns-then-depth-eq0-clause-err
check_token-returns-then-depth-eq0-clause-err t c =
    ap (λ k. converted of_json (value c.args.depth (token_of k ∷ c.args.reader.now))) c.in-BeginArray.is
    ∙ deep_array_refused c.args.depth c.args.reader.now (omega arith)

pub check_token-returns-then-depth-eq0-2-clause-err : goal.check_token-returns-then-depth-eq0-2-clause-err
check_token-returns-then-depth-eq0-2-clause-err t c =
    ap (λ k. converted of_json (value c.args.depth (token_of k ∷ c.args.reader.now))) c.in-BeginObject.is
    ∙ deep_object_refused c.args.depth c.args.reader.now (omega arith)

pub check_token-returns-else-depth-eq0-clause-ok : goal.check_token-returns-else-depth-eq0-clause-ok
check_token-returns-else-depth-eq0-clause-ok t c =
    let opened = ap (λ k. converted of_json (value c.args.depth (token_of k ∷ c.args.reader.now))) c.in-BeginArray.is
    ∙ array_is c.args.depth c.args.reader.now (omega arith) in
    on_ok c.check_items.result (λ f. (array f.0, opened ∙ ap (parse_map array) f.1)) c.check_items.ensures.ok

pub check_token-returns-else-depth-eq0-clause-err : goal.check_token-returns-else-depth-eq0-clause-err
check_token-returns-else-depth-eq0-clause-err t c =
    let opened = ap (λ k. converted of_json (value c.args.depth (token_of k ∷ c.args.reader.now))) c.in-BeginArray.is
    ∙ array_is c.args.depth c.args.reader.now (omega arith) in
    on_err c.check_items.result (λ f. opened ∙ ap (parse_map array) f) c.check_items.ensures.err

pub check_token-returns-else-depth-eq0-2-clause-ok : goal.check_token-returns-else-depth-eq0-2-clause-ok
check_token-returns-else-depth-eq0-2-clause-ok t c =
    let opened = ap (λ k. converted of_json (value c.args.depth (token_of k ∷ c.args.reader.now))) c.in-BeginObject.is
    ∙ object_is c.args.depth c.args.reader.now (omega arith) in
    on_ok c.check_members.result (λ f. (object f.0, opened ∙ ap (parse_map object) f.1)) c.check_members.ensures.ok

pub check_token-returns-else-depth-eq0-2-clause-err : goal.check_token-returns-else-depth-eq0-2-clause-err
check_token-returns-else-depth-eq0-2-clause-err t c =
    let opened = ap (λ k. converted of_json (value c.args.depth (token_of k ∷ c.args.reader.now))) c.in-BeginObject.is
    ∙ object_is c.args.depth c.args.reader.now (omega arith) in
    on_err c.check_members.result (λ f. opened ∙ ap (parse_map object) f) c.check_members.ensures.err

pub check_value-returns-in-Some-clause-ok : goal.check_value-returns-in-Some-clause-ok
check_value-returns-in-Some-clause-ok t c =
    let first : c.args.reader.now ≡ token_of c.in-Some.token ∷ c.next.new.self = grind arith in
    on_ok c.check_token.result (λ f. (f.0, ap (λ ts. converted of_json (value c.args.depth ts)) first ∙ f.1)) c.check_token.ensures.ok

pub check_value-returns-in-Some-clause-err : goal.check_value-returns-in-Some-clause-err
check_value-returns-in-Some-clause-err t c =
    let first : c.args.reader.now ≡ token_of c.in-Some.token ∷ c.next.new.self = grind arith in
    on_err c.check_token.result (λ f. ap (λ ts. converted of_json (value c.args.depth ts)) first ∙ f) c.check_token.ensures.err

pub check_value-returns-in-None-clause-err : goal.check_value-returns-in-None-clause-err
check_value-returns-in-None-clause-err t c =
    let empty : c.args.reader.now ≡ [] = grind arith in
    ap (λ ts. converted of_json (value c.args.depth ts)) empty ∙ nothing_read c.args.depth

pub check_items-items-init : goal.check_items-items-init
check_items-items-init t c =
    let all = converted of_items (items (value c.args.depth) (length c.args.reader.now) c.args.reader.now) in
    (length c.args.reader.now, omega arith, (λ ds. ds), map_none all, omega arith)

pub check_items-items-preserved : goal.check_items-items-preserved
check_items-items-preserved t c =
    let p = value c.args.depth in
    let l = c.items in
    let n = l.invariant.0 in
    let going : (after_end_array l.reader ≡ None) × (c.take_end_array.new.self ≡ l.reader) = grind arith in
    let done = c.in_ok-check_value.ensures.ok in
    let r = c.check_value.new.reader in
    let less : length r < length l.reader = rw (← going.1) c.in_ok-check_value.ensures.shorter in (
      n - 1,
      omega (arith, l.invariant.1),
      (λ ds. l.invariant.2 (item done.0 ds)),
      one_more p n l.reader l.invariant.2 _ l.invariant.3 r done.0 (omega (arith, l.invariant.1)) going.0 (rw (← going.1) done.1),
      omega (arith, l.invariant.4),
    )

pub check_items-returns-in_err-check_value-clause-err : goal.check_items-returns-in_err-check_value-clause-err
check_items-returns-in_err-check_value-clause-err t c =
    let p = value c.args.depth in
    let l = c.items in
    let going : (after_end_array l.reader ≡ None) × (c.take_end_array.new.self ≡ l.reader) = grind arith in
    err_any c.from_residual.result
    (one_refused p l.invariant.0 l.reader l.invariant.2 _ l.invariant.3 going.0 (rw (← going.1) c.in_err-check_value.ensures.err))

pub check_items-returns-clause-ok : goal.check_items-returns-clause-ok
check_items-returns-clause-ok t c =
    let p = value c.args.depth in
    let l = c.items in (
      l.invariant.2 no_items,
      no_more p l.invariant.0 l.reader l.invariant.2 _ l.invariant.3 c.take_end_array.new.self l.invariant.1
          (grind arith),
    )

pub check_members-members-init : goal.check_members-members-init
check_members-members-init t c = (length c.args.reader.now, omega arith, no_members, refl, omega arith)

pub check_members-returns-in_err-next_key-clause-err : goal.check_members-returns-in_err-next_key-clause-err
check_members-returns-in_err-next_key-clause-err t c =
    let p = value c.args.depth in
    let l = c.members in
    err_any c.from_residual.result (l.invariant.3 ∙ key_refused p l.invariant.2 l.invariant.0 l.reader c.in_err-next_key.ensures.value)

pub check_members-members-preserved : goal.check_members-members-preserved
check_members-members-preserved t c =
    let p = value c.args.depth in
    let l = c.members in
    let n = l.invariant.0 in
    let k = c.in-Some.field-0.now in
    let s = c.next_key.new.self in
    let named : read_key l.reader ≡ Some (Some k, s) = grind arith in
    let done = c.in_ok-check_value.ensures.ok in
    let r = c.check_value.new.reader in
    let less = read_key-shorter l.reader (Some k) s named in
    let lesser = c.in_ok-check_value.ensures.shorter in (
      n - 1,
      omega (arith, l.invariant.1),
      put k done.0 l.invariant.2,
      l.invariant.3 ∙ member_read p l.invariant.2 n k l.reader s r done.0 (omega (arith, l.invariant.1)) named done.1,
      omega (arith, l.invariant.4),
    )

pub check_members-returns-in_err-check_value-clause-err : goal.check_members-returns-in_err-check_value-clause-err
check_members-returns-in_err-check_value-clause-err t c =
    let p = value c.args.depth in
    let l = c.members in
    let k = c.in-Some.field-0.now in
    let s = c.next_key.new.self in
    let named : read_key l.reader ≡ Some (Some k, s) = grind arith in
    err_any c.from_residual-in_err-check_value.result (l.invariant.3
    ∙ member_refused p l.invariant.2 l.invariant.0 k l.reader s named c.in_err-check_value.ensures.err)

pub check_members-returns-clause-ok : goal.check_members-returns-clause-ok
check_members-returns-clause-ok t c =
    let p = value c.args.depth in
    let l = c.members in
    (l.invariant.2, l.invariant.3 ∙ members_over p l.invariant.2 l.invariant.0 l.reader c.next_key.new.self l.invariant.1 (grind arith))
