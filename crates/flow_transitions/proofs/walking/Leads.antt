-- Acts and edges lead from where nothing has begun to where nothing has, with their groups more.
use Rattle.std.proofs.Common.{◌≡◌, ◌∙◌, ◌++◌, ℕ, false, List, [], ◌∷◌, Option, Some, None, refl, sym, ap, append_assoc, append-nil}
use Rattle.lang_grammar.specs.Grammar.{right_paren, semicolon, Token, token, Expr, spell_expr, Groups}
use Rattle.lang_meaning.specs.Names.{place_of}
use Rattle.lang_groups.specs.declared.mark.Mark.TheVariants.{Opens, Closes, Parts}
use Rattle.lang_groups.specs.Groups.{SameTogether}
use Rattle.lang_groups.specs.Shapes.{enclosed, marks_of}
use Rattle.lang_groups.specs.Machine.{State, at_rest, taken, taken_all, ended, ended_together}
use Rattle.lang_groups.specs.Laws.{Adds}
use Rattle.lang_groups.proofs.together.Same.{same_refl, same_append}
use Rattle.lang_groups.proofs.runs.Takes.{taken_append}
use Rattle.lang_groups.proofs.runs.Groups.{marks_give, marks_give_more}
use Rattle.flow_transitions.specs.declared.grouping.Walk.{Walk}
use Rattle.flow_transitions.specs.declared.grouping.turn.Turn.TheVariants.{Takes, Assigns}
use Rattle.flow_transitions.specs.AutoGrammar.{Act, sets, assumes, act_then, acts_then, GoodAct, GoodActs}
use Rattle.flow_transitions.specs.AutoGroups.{at_place, shape_of, assigned_shape, groups_in, groups_in_acts}
use Rattle.flow_transitions.specs.AutoWalk.{named, at_start, turned, walked}
use Rattle.flow_transitions.proofs.walking.Levels.{place_fits, whole_fits}
use Rattle.flow_transitions.proofs.walking.Spelled.{walked_append, spells}

-- From these groups tokens lead on to more, by which the same variables are together as by those.
pub record Leads (names : List (List ℕ)) (front : List Token → List Token) (gs wanted : List (List ℕ)) : Type 0 where
  -- the groups more
  pub more : List (List ℕ)
  -- by them the same variables are together
  pub same : SameTogether more wanted
  -- the tokens lead to where nothing has begun behind these
  pub leads : (rest : List Token) → walked names (front rest) (at_start gs) ≡ walked names rest (at_start (gs ++ more))

-- no tokens
pub leads_nowhere : (names gs : List (List ℕ)) → Leads names (λ rest. rest) gs []
leads_nowhere names gs = record {
  more = [];
  same = same_refl [];
  leads = λ rest. ap (λ ks. walked names rest (at_start ks)) (sym (append-nil gs));
}

-- tokens behind others
pub leads_on : (names : List (List ℕ)) (f g : List Token → List Token) (gs wanted others : List (List ℕ)) → Leads names f gs wanted
    → ((ks : List (List ℕ)) → Leads names g ks others) → Leads names (λ rest. f (g rest)) gs (wanted ++ others)
leads_on names f g gs wanted others h k =
    let next = k (gs ++ h.more) in
    record {
      more = h.more ++ next.more;
      same = same_append h.same next.same;
      leads = λ rest. h.leads (g rest) ∙ next.leads rest
          ∙ ap (λ ks. walked names rest (at_start ks)) (append_assoc gs h.more next.more);
    }

-- an assignment
first_marks : (o : Option ℕ) (gs : List (List ℕ))
    → (turned (named o) (at_start gs)).collector ≡ taken_all (marks_of (at_place o)) (at_rest gs)
first_marks (Some x) gs = refl
first_marks None gs = refl

sets_leads : (names : List (List ℕ)) (x : List ℕ) (a b : ℕ) (e : Expr) (c : ℕ) → Groups 0 e → (gs : List (List ℕ))
    → Leads names (act_then (sets x a b e c)) gs (groups_in names (sets x a b e c))
sets_leads names x a b e c good gs = record { more = adds.more; same = adds.same; leads = on }
  where
    adds : Adds gs (groups_in names (sets x a b e c)) (ended_together (taken_all (marks_of (assigned_shape names x e)) (at_rest gs)))
    adds = marks_give_more (assigned_shape names x e) (refl, place_fits (place_of x names) 0, whole_fits names e good) gs

    begun : Walk
    begun = turned Assigns (turned (named (place_of x names)) (at_start gs))

    ends : ended_together (taken_all (marks_of (shape_of names e)) begun.collector) ≡ at_rest (gs ++ adds.more)
    ends = ap ended_together (ap (λ (s : State). taken_all (marks_of (shape_of names e)) (taken Parts s))
        (first_marks (place_of x names) gs)
        ∙ sym (taken_append (marks_of (at_place (place_of x names))) (Parts ∷ marks_of (shape_of names e)) (at_rest gs))) ∙ adds.kept

    on : (rest : List Token) → walked names (act_then (sets x a b e c) rest) (at_start gs) ≡ walked names rest (at_start (gs ++ adds.more))
    on rest = walked_append names (spell_expr e) (token semicolon c ∷ rest) begun
        ∙ ap (walked names (token semicolon c ∷ rest)) (spells names e begun)
        ∙ ap (λ (s : State). walked names rest (record { collector = s; assigned = false })) ends

-- an assumption
assumes_leads : (names : List (List ℕ)) (a b : ℕ) (e : Expr) (c d : ℕ) → Groups 0 e → (gs : List (List ℕ))
    → Leads names (act_then (assumes a b e c d)) gs (groups_in names (assumes a b e c d))
assumes_leads names a b e c d good gs = record { more = adds.more; same = adds.same; leads = on }
  where
    adds : Adds gs (groups_in names (assumes a b e c d)) (ended (taken_all (marks_of (enclosed (shape_of names e))) (at_rest gs)))
    adds = marks_give (enclosed (shape_of names e)) (whole_fits names e good) gs

    begun : Walk
    begun = turned (Takes Opens) (at_start gs)

    ends : ended (taken Closes (taken_all (marks_of (shape_of names e)) begun.collector)) ≡ at_rest (gs ++ adds.more)
    ends = ap ended (sym (taken_append (marks_of (shape_of names e)) (Closes ∷ []) begun.collector)) ∙ adds.kept

    on : (rest : List Token) → walked names (act_then (assumes a b e c d) rest) (at_start gs)
        ≡ walked names rest (at_start (gs ++ adds.more))
    on rest = walked_append names (spell_expr e) (token right_paren c ∷ token semicolon d ∷ rest) begun
        ∙ ap (walked names (token right_paren c ∷ token semicolon d ∷ rest)) (spells names e begun)
        ∙ ap (λ (s : State). walked names rest (record { collector = s; assigned = false })) ends

-- acts
act_leads : (names : List (List ℕ)) (a : Act) → GoodAct a → (gs : List (List ℕ)) → Leads names (act_then a) gs (groups_in names a)
act_leads names (sets x a b e c) good gs = sets_leads names x a b e c good gs
act_leads names (assumes a b e c d) good gs = assumes_leads names a b e c d good gs

-- each act leads on, and all do
pub acts_lead : (names : List (List ℕ)) (hs : List Act) → GoodActs hs → (gs : List (List ℕ))
    → Leads names (acts_then hs) gs (groups_in_acts names hs)
acts_lead names [] good gs = leads_nowhere names gs
acts_lead names (a ∷ hs) good gs =
    leads_on names (act_then a) (acts_then hs) gs (groups_in names a) (groups_in_acts names hs) (act_leads names a good.0 gs)
    (acts_lead names hs good.1)
