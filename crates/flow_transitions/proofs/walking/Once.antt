-- The groups of a text are those that are met in its tokens.
use Rattle.std.proofs.Common.{◌≡◌, ◌∙◌, ◌+◌, ℕ, zero, suc, List, [], ◌∷◌, map, drop, Result, Ok, Err, refl, sym, ap, ap₂, arith}
use Rattle.std.specs.Prelude.{◌≢◌, IfErr, Some, slice_get, slice_range}
use Rattle.lang_tokens.specs.declared.lexicon.Lexicon.TheVariants.{Own}
use Rattle.lang_tokens.specs.declared.token.Token.{Token}
use Rattle.lang_tokens.specs.Reading.{Reads}
use Rattle.lang_tokens.proofs.reading.Once.{one_token_list}
use Rattle.lang_groups.specs.Groups.{SameTogether}
use Rattle.lang_groups.proofs.together.Same.{same_refl, same_equal, same_sym, same_trans}
use Rattle.flow_transitions.specs.declared.fault.AutoFault.{AutoFault}
use Rattle.flow_transitions.specs.declared.fault.AutoFault.TheVariants.{NoMemory}
use Rattle.flow_transitions.specs.declared.grouping.Walk.{Walk}
use Rattle.flow_transitions.specs.declared.grouping.turn.Turn.{Turn}
use Rattle.flow_transitions.specs.AutoReading.{IsRead}
use Rattle.flow_transitions.specs.AutoContents.{Content, AutoAnswer}
use Rattle.flow_transitions.specs.AutoContents.{points_of}
use Rattle.flow_transitions.specs.AutoGrammar.{kind_here, tokens_here}
use Rattle.flow_transitions.specs.AutoTrees.{all_spots, names_in, point_here}
use Rattle.flow_transitions.specs.AutoTexts.{IsAuto, no_tokens, by_tokens}
use Rattle.flow_transitions.specs.AutoGroups.{groups_in_edges, HasGroups}
use Rattle.flow_transitions.specs.AutoWalk.{at_start, turn_of, turned, walked}
use Rattle.flow_transitions.proofs.progress.Once.{one_answer}
use Rattle.flow_transitions.proofs.trees.Means.{read_is}
use Rattle.flow_transitions.proofs.walking.Whole.{system_groups}

-- the groups that are met in these tokens
abbrev met : List ℕ → List (List ℕ) → List Token → List (List ℕ)
met text names tokens = (walked names (tokens_here text tokens) (at_start [])).collector.groups

-- those that are met in a text's tokens are its groups
pub met_are : (text : List ℕ) (names : List (List ℕ)) (tokens : List Token) (c : Content) → Reads Own text tokens → names ≡ c.names
    → IsAuto text (Ok c) → HasGroups text (met text names tokens)
met_are text names tokens c reads e (no_tokens f h d) = absurd cc
met_are text names tokens c reads e (by_tokens others r m) =
    let said = m.2.1 in
    let same : tokens ≡ others = one_token_list Own text tokens others reads r in
    let named : names ≡ names_in m.0.heads.variables = e ∙ ap (λ (k : Content). k.names) said in
    record {
      tokens = others;
      reads = r;
      system = m.0;
      spelled = m.1;
      outer = m.2.0;
      same = same_trans (same_equal (ap₂ (λ ns ts. met text ns ts) named same))
          (system_groups (names_in m.0.heads.variables) m.0 (tokens_here text others) m.1);
    }

-- the token at this place is the next one
drop_here : (ts : List Token) (i j : ℕ) (t : Token) → slice_get ts i ≡ Some t → j ≡ suc i → drop i ts ≡ t ∷ drop j ts
drop_here [] i j t e s = absurd cc
drop_here (u ∷ ts) zero j t e s = let same : u ≡ t = cc in ap (λ v. v ∷ ts) same ∙ ap (λ k. t ∷ drop k (u ∷ ts)) (sym s)
drop_here (u ∷ ts) (suc i) j t e s = drop_here ts i (suc i) t e refl ∙ ap (λ k. t ∷ drop k (u ∷ ts)) (sym s)

-- one token more
pub met_more : (text : List ℕ) (names : List (List ℕ)) (tokens : List Token) (i : ℕ) (t : Token) (turn : Turn) (w v : Walk)
    → slice_get tokens i ≡ Some t → turn ≡ turn_of names (kind_here (slice_range text t.at (t.at + t.len)) t.kind) → v ≡ turned turn w
    → walked names (tokens_here text (drop (i + 1) tokens)) v ≡ walked names (tokens_here text (drop i tokens)) w
met_more text names tokens i t turn w v e d f =
    ap (walked names (tokens_here text (drop (i + 1) tokens))) (f ∙ ap (λ u. turned u w) d)
    ∙ ap (λ ts. walked names (tokens_here text ts) w) (sym (drop_here tokens i (i + 1) t e (omega arith)))

-- a fault that is read is what the text is
pub refused_is : {X : Type 0} (text : List ℕ) (result : Result X AutoFault)
    → IfErr result (λ f. f ≢ NoMemory → IsRead text (Err f)) → IfErr result (λ f. f ≢ NoMemory → IsAuto text (Err f))
refused_is text (Ok x) h = tt
refused_is text (Err f) h = λ n. read_is text (Err f) (h n)

-- a text that is a transition system has groups
pub some_groups : (text : List ℕ) (c : Content) → IsAuto text (Ok c) → (groups : List (List ℕ)) × HasGroups text groups
some_groups text c (no_tokens f h d) = absurd cc
some_groups text c (by_tokens tokens r m) = (
  groups_in_edges (names_in m.0.heads.variables) m.0.edges,
  record {
    tokens = tokens;
    reads = r;
    system = m.0;
    spelled = m.1;
    outer = m.2.0;
    same = same_refl (groups_in_edges
        (names_in m.0.heads.variables) m.0.edges);
  },
)

-- what the text is of which these are the groups
abbrev names_of : AutoAnswer → List (List ℕ)
names_of (Ok c) = c.names
names_of (Err f) = []

abbrev content_in : (text : List ℕ) (gs : List (List ℕ)) → HasGroups text gs → Content
content_in text gs h = record {
  names = names_in h.system.heads.variables;
  points = points_of (map (point_here text) (all_spots h.system.heads.points));
  edges = h.outer.edges;
}

is_content : (text : List ℕ) (gs : List (List ℕ)) (h : HasGroups text gs) → IsAuto text (Ok (content_in text gs h))
is_content text gs h = by_tokens h.tokens h.reads (h.system, h.spelled, (h.outer, refl))

-- those that are met are as any
met_same : (text : List ℕ) (gs : List (List ℕ)) (h : HasGroups text gs)
    → SameTogether (met text (names_in h.system.heads.variables) h.tokens) gs
met_same text gs h =
    same_trans (system_groups (names_in h.system.heads.variables) h.system (tokens_here text h.tokens) h.spelled) (same_sym h.same)

-- by any two answers the same variables are together
pub one_grouping : (text : List ℕ) (groups others : List (List ℕ)) → HasGroups text groups → HasGroups text others
    → SameTogether groups others
one_grouping text gs hs h k =
    let named = ap names_of (one_answer text (Ok (content_in text gs h)) (Ok (content_in text hs k)) (is_content text gs h)
    (is_content text hs k)) in
    let same : h.tokens ≡ k.tokens = one_token_list Own text h.tokens k.tokens h.reads k.reads in
    same_trans (same_sym (met_same text gs h)) (same_trans (same_equal (ap₂ (λ ns ts. met text ns ts) named same)) (met_same text hs k))
