-- A run comes to a check along an edge that has it.
use Rattle.std.proofs.Common.{◌≡◌, ◌⊎◌, ◌+◌, ◌∙◌, inl, ℕ, false, List, [], ◌∷◌, ◌++◌, refl, sym, subst, ap, arith, take}
use Rattle.lang_tree.specs.declared.check.Check.{Check}
use Rattle.std.proofs.lemmas.List.{take_all}
use Rattle.lang_tree.specs.declared.limits.TheConstants.{MOST_HIDDEN}
use Rattle.lang_tree.specs.Tree.{Condition, Statements, check}
use Rattle.lang_tree.specs.PointNumbers.{exit_of}
use Rattle.lang_tree.specs.Runs.{Item, node, start_work, left_at, Configuration, IsAtCheck}
use Rattle.flow_edges.specs.declared.edge.Action.TheVariants as action
use Rattle.flow_edges.specs.Steps.{labelled}
use Rattle.flow_edges.specs.Paths.{Arrives, by_step, Path}
use Rattle.flow_edges.specs.CheckLaws.{CameAlong, ChecksAreOnEdges}
use Rattle.flow_edges.proofs.steps.ElementLemmas.{in_contains, contains_in}
use Rattle.flow_edges.proofs.paths.PathLaw.{edges_law}
use Rattle.flow_edges.proofs.faults.FlowLaws.{limits}
use Rattle.flow_edges.proofs.at_checks.Lasting.{Lasting, statements_stand, start_lasts}
use Rattle.flow_edges.proofs.at_checks.Onward.{work_comes}
use Rattle.flow_edges.proofs.at_checks.SinceMark.{part_arrives, Known, Since, known_all, since_mark}

module _ (variables : ℕ) (body : Statements) (run : List Configuration) where
  -- at a check, the edge goes on to any mark that labelled steps lead to
  came_along : (now : Configuration) (about : Check) (c : Condition) (line n : ℕ) (rest : List Item)
      → Lasting (node (check about c line) n ∷ rest) → Since variables body run (node (check about c line) n ∷ rest) now.state
      → CameAlong body run about now
  came_along now about c line n rest l s =
      let item = node (check about c line) n in
      let h = work_comes (exit_of body) rest l.2 l.1 in
      let later = action.Check about ∷ h.0 in
      let ahead : Arrives (exit_of body) (item ∷ rest) later h.1 h.2 =
      by_step item rest (labelled (action.Check about ∷ []) rest) h.0 h.1 h.2 (inl refl) h.3 in
      let path : Path body s.from (s.actions ++ later) h.1 = record {
        before = s.earlier;
        behind = s.behind;
        reached = s.reached;
        after = h.2;
        arrives = part_arrives (exit_of body) s.behind s.actions (item ∷ rest) later h.1 h.2 s.part ahead;
      } in
      record {
        edge = record { from = s.from; to = h.1; actions = s.actions ++ later };
        listed = (edges_law body).complete s.from h.1 (s.actions ++ later) path;
        before = s.actions;
        place = record { later = h.0; parted = refl };
        source = s.source;
        passed = in_contains run s.source s.passed;
        at_source = (s.behind, s.first);
        acts = s.acts;
      }

  at_check : (now : Configuration) (about : Check) (c : Condition) → Known variables body run now → IsAtCheck now about c
      → CameAlong body run about now
  at_check now about c k a =
      let item = node (check about c a.0) a.1 in
      let l = subst Lasting a.3 k.lasts in
      let same : now.state ≡ k.reached = k.left ∙ ap (λ w. left_at variables w k.reached) a.3 in
      let h = subst (λ w. (w ≡ start_work body) ⊎ Since variables body run w k.reached) a.3 k.past_work in
      let s = since_mark variables body run item a.2 k.reached (λ t. t) h in
      came_along now about c a.0 a.1 a.2 l (subst (Since variables body run (item ∷ a.2)) (sym same) s)

-- a run of a program comes to each check along an edge that has it
pub check_law : ChecksAreOnEdges
check_law variables body [] now about c p r m a = absurd r
check_law variables body (b ∷ cs) now about c p r m a =
    let run = b ∷ cs in
    let stands = statements_stand (variables + MOST_HIDDEN) false body (limits variables body p).statements in
    let whole : take variables b.state ≡ b.state = take_all variables b.state (omega (arith, r.1)) in
    let start : Known variables body run b = record {
      lasts = subst Lasting (sym r.0) (start_lasts body stands);
      reached = b.state;
      left = sym (ap (λ w. left_at variables w b.state) r.0 ∙ whole);
      past_work = inl r.0;
    } in
    at_check variables body run now about c (known_all variables body run b cs (λ d i. i) r.2 start now (contains_in run now m)) a
