use Rattle.std.proofs.Common.{◌≡◌, ◌-◌, length, Some, string_bytes, refl, ap, ◌∙◌, arith, rules}
use Rattle.json.specs.Json.{read_key, value}
use Rattle.json.proofs.Grammar.{read_key-shorter}
use Rattle.serde_json.proofs.Views.{members_view-insert_entry}
use Rattle.serde_json.specs.Data.{no_members, put}
use Rattle.serde_json.specs.View.{members_view, view}
use Rattle.base_values.specs.Outline.{flat_members}
use Rattle.base_values.proofs.Tokens.{flat_put}
use Rattle.base_values.proofs.Turns.{key_refused, member_read, member_refused, members_over}
use Rattle.base_values.proofs.outline.read_flat_members.Goals as goal

pub members-init : goal.members-init
members-init c = (length c.args.reader.now, omega arith, no_members, ap members_view c.new-found.ensures.empty, refl)

pub returns-in_err-name-clause-err : goal.returns-in_err-name-clause-err
returns-in_err-name-clause-err c refused =
    let p = value c.args.depth in
    let l = c.members in
    l.invariant.4 ∙ key_refused p l.invariant.2 l.invariant.0 l.reader c.in_err-name.ensures.value

pub returns-in_err-member-clause-err : goal.returns-in_err-member-clause-err
returns-in_err-member-clause-err c refused =
    let p = value c.args.depth in
    let l = c.members in
    let k = c.in-Some.name.now in
    let s = c.next_key.new.self in
    let named : read_key l.reader ≡ Some (Some k, s) = grind arith in
    l.invariant.4 ∙ member_refused p l.invariant.2 l.invariant.0 k l.reader s named (c.read_flat.ensures.err (grind arith))

pub members-preserved : goal.members-preserved
members-preserved c =
    let p = value c.args.depth in
    let l = c.members in
    let n = l.invariant.0 in
    let old = l.invariant.2 in
    let k = c.in-Some.name.now in
    let s = c.next_key.new.self in
    let named : read_key l.reader ≡ Some (Some k, s) = grind arith in
    let done = c.in_ok-member.ensures.ok in
    let v = c.in_ok-member.member in
    let r = c.read_flat.new.reader in
    let less = read_key-shorter l.reader (Some k) s named in
    let lesser = c.in_ok-member.ensures.shorter in
    let copied : string_bytes c.in_ok-key.key ≡ k = search rules in
    let inserted : members_view c.insert.new.self.entries ≡ put k (view v) (members_view l.found.entries) =
    ap members_view c.in_ok-insert.ensures.entries ∙ members_view-insert_entry l.found.entries c.in_ok-key.key v
    ∙ ap (λ name. put name (view v) (members_view l.found.entries)) copied in (
      n - 1,
      omega (arith, l.invariant.1),
      put k done.0 old,
      inserted ∙ ap (λ ms. put k (view v) ms) l.invariant.3 ∙ ap (λ d. put k d (flat_members old)) done.2 ∙ flat_put k done.0 old,
      l.invariant.4 ∙ member_read p old n k l.reader s r done.0 (omega (arith, l.invariant.1)) named done.1,
    )

pub returns-clause-ok : goal.returns-clause-ok
returns-clause-ok c =
    let p = value c.args.depth in
    let l = c.members in (
      l.invariant.2,
      l.invariant.4 ∙ members_over p l.invariant.2 l.invariant.0 l.reader c.next_key.new.self l.invariant.1 (grind arith),
      l.invariant.3,
    )
