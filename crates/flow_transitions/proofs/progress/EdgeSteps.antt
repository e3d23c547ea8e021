-- Steps of the reading along edges.
use Rattle.std.proofs.Common.{◌≡◌, ◌∙◌, ℕ, ◌+◌, List, Ok, Err, refl, sym, ap}
use Rattle.std.specs.Prelude.{codes}
use Rattle.lang_tokens.specs.declared.token.Token.{Token}
use Rattle.flow_transitions.specs.declared.auto_edge.AutoEdge.{AutoEdge}
use Rattle.flow_transitions.specs.declared.fault.AutoFault.{AutoFault}
use Rattle.flow_transitions.specs.declared.reading.point_name.PointName.{PointName}
use Rattle.flow_transitions.specs.declared.reading.symbol.Symbol.{Symbol}
use Rattle.flow_transitions.specs.declared.reading.symbol.Symbol.TheVariants as symbol
use Rattle.flow_transitions.specs.AutoSymbols.{Seen, seen_at}
use Rattle.flow_transitions.specs.AutoReading.{progress, Progress, Stand, at_edge, at_source, at_target, at_opening, at_act, at_end}
use Rattle.flow_transitions.specs.AutoReading.{edge_to}
use Rattle.flow_transitions.specs.AutoReading.{unexpected_fault, going, word_then, edge_or_end, point_at, target_at, from_then, to_then}
use Rattle.flow_transitions.proofs.progress.Steps.{Goes, Fails, token_goes, token_fails, sign_goes, sign_fails}
use Rattle.flow_transitions.proofs.progress.Signs.{no_brace}

module _ (text : List ℕ) (tokens : List Token) (names : List (List ℕ)) (points : List PointName) (edges : List AutoEdge) where
  abbrev at : Stand → Progress
  at stand = progress names points edges stand

  abbrev there : ℕ → Seen
  there i = seen_at text tokens i

  no_end : (s : Symbol) (y : Seen) → (s ≡ symbol.End → ⊥) → edge_or_end s (at at_edge) y
      ≡ word_then (codes "edge") (at_source y.line) (at at_edge) y
  no_end symbol.End y h = absurd (h refl)
  no_end s y h = refl

  -- the word `edge` leads on to the first point, and keeps the line
  pub edge_goes : (i line : ℕ) → ((there i).symbol ≡ symbol.End → ⊥) →
      word_then (codes "edge") (at_source line) (at at_edge) (there i) ≡ going (at at_edge) (at_source line) → line ≡ (there i).line →
      Goes text tokens (at at_edge) i (at (at_source line)) (i + 1)
  edge_goes i line n w l =
      token_goes text tokens (at at_edge) (at (at_source line)) i refl
      (no_end (there i).symbol (there i) n ∙ ap (λ k. word_then (codes "edge") (at_source k) (at at_edge) (there i)) (sym l) ∙ w)

  -- where an edge may begin, a token that is neither the word nor the end is refused
  pub edge_fails : (i : ℕ) (f : AutoFault) → ((there i).symbol ≡ symbol.End → ⊥)
      → word_then (codes "edge") (at_source (there i).line) (at at_edge) (there i) ≡ Err f → Fails text tokens (at at_edge) i f
  edge_fails i f n w = token_fails text tokens (at at_edge) i f refl (no_end (there i).symbol (there i) n ∙ w)

  -- the end of the text ends the reading
  pub ends : (i : ℕ) → (there i).symbol ≡ symbol.End → Goes text tokens (at at_edge) i (at at_end) (i + 1)
  ends i w = token_goes text tokens (at at_edge) (at at_end) i refl (ap (λ y. edge_or_end y (at at_edge) (there i)) w)

  -- a name of a point leads on to the second point, with its number and place
  pub source_goes : (i line from place : ℕ) → point_at (there i) points ≡ Ok from → place ≡ (there i).at
      → Goes text tokens (at (at_source line)) i (at (at_target line from place)) (i + 1)
  source_goes i line from place p e =
      token_goes text tokens (at (at_source line)) (at (at_target line from place)) i refl
      (ap (λ x. from_then x line (there i).at (at (at_source line))) p
      ∙ ap (λ n. going (at (at_source line)) (at_target line from n)) (sym e))

  -- a first name that is no point is refused with its fault
  pub source_fails : (i line : ℕ) (f : AutoFault) → point_at (there i) points ≡ Err f → Fails text tokens (at (at_source line)) i f
  source_fails i line f p = token_fails text tokens (at (at_source line)) i f refl
      (ap (λ x. from_then x line (there i).at (at (at_source line))) p)

  -- a second name that is a later point leads on to the `{`, with an edge that has no acts
  pub target_goes : (i line from place to : ℕ) → target_at (there i) points ≡ Ok to
      → Goes text tokens (at (at_target line from place)) i (at (at_opening (edge_to line from place to))) (i + 1)
  target_goes i line from place to p =
      token_goes text tokens (at (at_target line from place)) (at (at_opening (edge_to line from place to))) i refl
      (ap (λ x. to_then x line from place (at (at_target line from place))) p)

  -- a second name that is no later point is refused with its fault
  pub target_fails : (i line from place : ℕ) (f : AutoFault) → target_at (there i) points ≡ Err f
      → Fails text tokens (at (at_target line from place)) i f
  target_fails i line from place f p = token_fails text tokens (at (at_target line from place)) i f refl
      (ap (λ x. to_then x line from place (at (at_target line from place))) p)

  -- a `{` leads on to the acts
  pub opening_goes : (i : ℕ) (e : AutoEdge) → (there i).symbol ≡ symbol.LeftBrace
      → Goes text tokens (at (at_opening e)) i (at (at_act e)) (i + 1)
  opening_goes i e w = sign_goes text tokens (at (at_opening e)) i symbol.LeftBrace (at_act e) refl (λ y. refl) w refl

  -- behind the points of an edge any other token is unexpected
  pub opening_fails : (i : ℕ) (e : AutoEdge) (f : AutoFault) → f ≡ unexpected_fault (there i) → ((there i).symbol ≡ symbol.LeftBrace → ⊥)
      → Fails text tokens (at (at_opening e)) i f
  opening_fails i e f h n = sign_fails text tokens (at (at_opening e)) i f refl (λ y. refl) h (no_brace (there i).at e (there i).symbol n)

  -- what stands behind the point of an edge, from its word on: the word, with the line, and the point
  pub source_reached : (i line from : ℕ) → ((there i).symbol ≡ symbol.End → ⊥)
      → word_then (codes "edge") (at_source line) (at at_edge) (there i) ≡ going (at at_edge) (at_source line) → line ≡ (there i).line
      → point_at (there (i + 1)) points ≡ Ok from
      → Goes text tokens (at at_edge) i (at (at_target line from (there (i + 1)).at)) (i + 1 + 1)
  source_reached i line from n w l p = λ answer h.
      edge_goes i line n w l answer (source_goes (i + 1) line from (there (i + 1)).at p refl answer h)

  -- the second point, too
  pub target_reached : (i line from to : ℕ) → ((there i).symbol ≡ symbol.End → ⊥)
      → word_then (codes "edge") (at_source line) (at at_edge) (there i) ≡ going (at at_edge) (at_source line) → line ≡ (there i).line
      → point_at (there (i + 1)) points ≡ Ok from → target_at (there (i + 1 + 1)) points ≡ Ok to
      → Goes text tokens (at at_edge) i (at (at_opening (edge_to line from (there (i + 1)).at to))) (i + 1 + 1 + 1)
  target_reached i line from to n w l p q = λ answer h.
      source_reached i line from n w l p answer (target_goes (i + 1 + 1) line from (there (i + 1)).at to q answer h)
