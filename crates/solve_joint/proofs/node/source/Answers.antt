use Rattle.std.proofs.Common.{◌≡◌, ◌∙◌, ℕ, ◌<◌, Option, Some, None, [], length, get_or, ap, sym, subst}
use Rattle.std.proofs.lemmas.List.{get_or_default}
use Rattle.flow_edges.specs.declared.edge.Edge.{Edge}
use Rattle.theory_transformers.specs.JointProblems.{picked}
use Rattle.solve_joint.specs.Numbers.{edge_of}
use Rattle.solve_joint.proofs.node.source.Goals as goal

same_edge : (o : Option ℕ) (e f : ℕ) → Some e ≡ o → o ≡ Some f → (edge_of o ≡ e) × (e ≡ f)
same_edge None e f h k = cc
same_edge (Some g) e f h k = let a : g ≡ e = cc in let b : e ≡ f = cc in (a, b)

pub returns-in-Some : goal.returns-in-Some
unfolding picked
returns-in-Some c =
    let x = c.index-edges-edge.result in
    let edges = c.args.system.now.flow.edges in
    let empty : Edge = record { from = 0; to = 0; actions = [] } in
    let s = same_edge (get_or c.args.pick.now c.args.unknown None) c.in-Some.edge c.requires.picked.edge c.in-Some.ensures
    c.requires.picked.picks in
    let l : c.in-Some.edge < length edges = subst (λ j. j < length edges) (sym s.1) c.requires.picked.is_edge in
    ap (λ (e : Edge). e.from)
    (ap (λ es. get_or es c.in-Some.edge x) c.as_slice-edges.ensures ∙ get_or_default edges c.in-Some.edge x empty l
    ∙ ap (λ j. get_or edges j empty) (sym s.0))
