use Rattle.std.proofs.Common.{◌∙◌, ◌<◌, [], sym, subst, arith}
use Rattle.std.proofs.lemmas.List.{get_or_default}
use Rattle.base_facts.specs.Elements.{In}
use Rattle.base_facts.proofs.Lists.{empty_from_length}
use Rattle.solve_joint.specs.Searches.{AreFound}
use Rattle.solve_joint.proofs.group.Members.{true_within}
use Rattle.solve_joint.proofs.closure.Finding.{next_found, search_begins, search_goes, search_ends}
use Rattle.solve_joint.proofs.closure.reached.Goals as goal

pub going-init : goal.going-init
going-init c = search_begins c.args.points c.args.steps.now c.args.point c.in_ok-found.found c.new-open.result.items
    c.find.new.self.found c.find.new.self.open.items c.in_ok-found.ensures c.new-open.ensures.items c.in_ok-find.ensures

pub bounds-steps-next : goal.bounds-steps-next
bounds-steps-next c =
    let l = true_within c.going.search.found c.in-Some.next
    (next_found c.args.points c.args.steps.now c.args.point c.going.search.found c.going.search.open.items c.pop.new.self.items
    c.in-Some.next c.going.invariant c.in-Some.ensures.items) in
    let size = c.going.invariant.size in
    let all = c.requires.size in
    omega (arith, l, size, all)

pub find_all-requires : goal.find_all-requires
find_all-requires c = λ q m.
    let next = c.in-Some.next in
    let l = true_within c.going.search.found next
    (next_found c.args.points c.args.steps.now c.args.point c.going.search.found c.going.search.open.items c.pop.new.self.items
    c.in-Some.next c.going.invariant c.in-Some.ensures.items) in
    let size = c.going.invariant.size in
    let all = c.requires.size in
    let list = c.as_slice.ensures ∙ c.index-steps-next.is
    ∙ get_or_default c.args.steps.now next c.index-steps-next.result [] (omega (arith, l, size, all)) in
    subst (λ n. q < n) (sym size) (c.requires.within next q (subst (λ xs. In xs q) list m))

pub going-preserved : goal.going-preserved
going-preserved c =
    let next = c.in-Some.next in
    let l = true_within c.going.search.found next
    (next_found c.args.points c.args.steps.now c.args.point c.going.search.found c.going.search.open.items c.pop.new.self.items
    c.in-Some.next c.going.invariant c.in-Some.ensures.items) in
    let size = c.going.invariant.size in
    let all = c.requires.size in
    let list = c.as_slice.ensures ∙ c.index-steps-next.is
    ∙ get_or_default c.args.steps.now next c.index-steps-next.result [] (omega (arith, l, size, all)) in
    search_goes c.args.points c.args.steps.now c.args.point c.going.search.found c.going.search.open.items c.pop.new.self.items next
    c.find_all.new.self.found c.find_all.new.self.open.items c.going.invariant c.in-Some.ensures.items
    (subst (λ ps. AreFound ps c.going.search.found c.pop.new.self.items c.find_all.new.self.found c.find_all.new.self.open.items) list
    c.in_ok-find_all.ensures)

pub returns : goal.returns
returns c = search_ends c.args.points c.args.steps.now c.args.point c.going.search.found c.going.search.open.items c.going.invariant
    (empty_from_length c.going.search.open.items
    (omega (arith, c.in_default.ensures.cases.0, c.going.search.open.ok.0)))
