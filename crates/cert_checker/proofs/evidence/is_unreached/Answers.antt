use Rattle.std.proofs.Common.{◌≡◌, ◌∙◌, ℕ, ◌+◌, ◌*◌, ◌<◌, List, length, get_or, true≢false, refl, sym, ap, subst}
use Rattle.std.specs.Prelude.{Some, slice_get}
use Rattle.std.proofs.lemmas.Option.{get_or_from_slice_get}
use Rattle.base_numbers.specs.Extended.{Ext as Extended, neg_inf}
use Rattle.flow_edges.specs.declared.edge.Edge.{Edge}
use Rattle.base_fractions.specs.Extended.{extended}
use Rattle.base_fractions.specs.declared.ext.Ext.{Ext}
use Rattle.base_fractions.specs.declared.ext.Ext.TheVariants.{NegInf, Fin, PosInf}
use Rattle.flow_systems.specs.declared.system.System.{System}
use Rattle.flow_systems.specs.Equations.{Vector}
use Rattle.flow_systems.specs.View.{equations_of}
use Rattle.cert_checker.specs.Stands.{Stands}
use Rattle.cert_checker.proofs.following.Edges.{edge_from}
use Rattle.cert_checker.proofs.combination.Entries.{bound_at_row}
use Rattle.cert_checker.proofs.evidence.is_unreached.Goals as goal

-- only this bound stands for -∞
lost : (b : Ext) → extended b ≡ neg_inf → b ≡ NegInf
lost NegInf e = refl
lost (Fin q) e = cc
lost PosInf e = cc

-- the row is there, and the bound that is read is the vector's at the edge's source
source_bound : (system : System) (bounds : List Extended) (z : Vector) → Stands (equations_of system) bounds z → (edge row : ℕ)
    (e found : Edge) (edges : List Edge) (n : ℕ) (b : Extended) → edges ≡ system.flow.edges → slice_get system.flow.edges edge ≡ Some e
    → n ≡ length system.template → row < n → b ≡ get_or bounds ((get_or edges edge found).from * n + row) neg_inf
    → (row < length system.template) × (b ≡ z e.from row)
source_bound system bounds z h edge row e found edges n b same f count l read =
    let here = get_or edges edge found in
    let q : here ≡ e = ap (λ es. get_or es edge found) same ∙ get_or_from_slice_get system.flow.edges edge e found f in
    let m : e.from < length system.flow.points = edge_from system.flow edge e f in
    let k : row < length system.template = subst (λ m. row < m) count l in (
      k,
      subst (λ (x : Edge). b ≡ z x.from row) q
          (bound_at_row (equations_of system) bounds z h here.from row n b
          (subst (λ (x : Edge). x.from < length system.flow.points) (sym q) m) k count read),
    )

pub returns-in-NegInf : goal.returns-in-NegInf
returns-in-NegInf c = λ z e h f.
    let b = source_bound c.args.system.now c.args.bounds.now z h c.args.edge c.args.row e c.index-as_slice-edge.result
    c.as_slice.result.now (length c.as_slice-count.result.now) (extended c.at.result) c.as_slice.ensures f
    (ap (λ rs. length rs) c.as_slice-count.ensures.rows) c.if-row-count.false c.at.ensures in
    ((λ t. (b.0, sym b.1 ∙ ap extended c.in-NegInf.is)), (λ p. refl))

pub returns-in_default : goal.returns-in_default
returns-in_default c = λ z e h f.
    let b = source_bound c.args.system.now c.args.bounds.now z h c.args.edge c.args.row e c.index-as_slice-edge.result
    c.as_slice.result.now (length c.as_slice-count.result.now) (extended c.at.result) c.as_slice.ensures f
    (ap (λ rs. length rs) c.as_slice-count.ensures.rows) c.if-row-count.false c.at.ensures in
    ((λ t. absurd (true≢false (sym t))), (λ p. absurd (c.in_default.not-NegInf (lost c.at.result (b.1 ∙ p.1)))))
