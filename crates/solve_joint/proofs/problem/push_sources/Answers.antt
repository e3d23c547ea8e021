use Rattle.std.proofs.Common.{◌≡◌, ◌∙◌, ℕ, ◌+◌, ◌*◌, ◌<◌, ◌≤◌, [], ◌++◌, length, map, get_or, ap, subst, arith}
use Rattle.std.proofs.lemmas.List.{get_or_default}
use Rattle.base_numbers.specs.Extended.{neg_inf}
use Rattle.base_fractions.specs.Extended.{extended}
use Rattle.theory_transformers.specs.EdgeProblems.{source_limit}
use Rattle.solve_joint.proofs.joint_rows.Picking.{over}
use Rattle.base_numbers.specs.Rational.{one_ℚ, neg_ℚ}
use Rattle.flow_systems.specs.View.{vector_of}
use Rattle.solve_joint.specs.Rows.{AllStand, embedded}
use Rattle.solve_joint.proofs.problem.Sources.{sources_none, sources_more, sources_all, row_size}
use Rattle.solve_joint.proofs.problem.push_sources.Goals as goal

pub loop-i-init : goal.loop-i-init
loop-i-init c =
    sources_none c.args.span.now.cols (λ r. embedded (neg_ℚ one_ℚ) (c.args.point * length c.args.at.now.system.now.template + r)
    c.args.span.now.list.now
    c.args.span.now.offset) (length c.args.at.now.system.now.flow.names) (vector_of (length c.args.at.now.system.now.template)
    c.args.at.now.base.now c.args.point)
    c.args.at.now.system.now.template _ _

pub loop-i-preserved : goal.loop-i-preserved
loop-i-preserved c =
    let system = c.args.at.now.system.now in
    let template = system.template in
    let i = c.loop-i.i in
    let same = c.as_slice-template.ensures.rows in
    let n = length system.flow.names in
    let row = c.as_slice.result.now in
    let bound = extended c.at-bound.result in
    let embed = λ (r : ℕ). embedded (neg_ℚ one_ℚ) (c.args.point * length template + r) c.args.span.now.list.now c.args.span.now.offset in
    let l : i < length template = subst (λ rs. i < length rs) same c.loop-i-test.true in
    let e : row ≡ get_or template i [] = c.as_slice.ensures.list ∙ c.index-template-i.is
    ∙ ap (λ rs. get_or rs i c.index-template-i.result) same ∙ get_or_default template i c.index-template-i.result [] l in
    let f : bound ≡ vector_of (length template) c.args.at.now.base.now c.args.point i =
    c.at-bound.ensures ∙ ap (λ rs. get_or c.args.at.now.base.now (c.args.point * length rs + i) neg_inf) same in
    let size = row_size n template i (over system) l in
    let short : length row ≤ n = omega (arith, size, ap (λ xs. length xs) e) in
    sources_more c.args.span.now.cols embed n (vector_of (length template) c.args.at.now.base.now c.args.point) template _ _ _ _ _ _ i
    row bound
    c.loop-i.invariant l e f
    (λ ls s. subst
    (λ rs. AllStand c.args.span.now.cols (map (λ r. r.coeffs) c.push_source.new.rows.items) (map (λ r. r.side)
    c.push_source.new.rows.items)
    (ls ++ source_limit (embedded (neg_ℚ one_ℚ) (c.args.point * length rs + i) c.args.span.now.list.now c.args.span.now.offset) n bound
    row []))
    same (c.in_ok-push_source.ensures n ls short s))

pub returns : goal.returns
returns c =
    let template = c.args.at.now.system.now.template in
    let l : length template ≤ c.loop-i.i = subst (λ rs. length rs ≤ c.loop-i.i) c.as_slice-template.ensures.rows c.loop-i-test.false in
    sources_all c.args.span.now.cols (λ r. embedded (neg_ℚ one_ℚ) (c.args.point * length template + r) c.args.span.now.list.now
    c.args.span.now.offset)
    (length c.args.at.now.system.now.flow.names) (vector_of (length template) c.args.at.now.base.now c.args.point) template _ _ _ _
    c.loop-i.i
    c.loop-i.invariant l
