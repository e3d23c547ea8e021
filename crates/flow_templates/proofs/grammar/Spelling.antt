-- A row's symbols spell one list of terms, and its terms are found one after another.
use Rattle.std.proofs.Common.{◌≡◌, ℕ, ℤ, Bool, true, false, List, [], ◌∷◌, ◌++◌, Option, None, Some, refl, ap, sym, subst, ◌∙◌, inl, inr}
use Rattle.std.proofs.Common.{append_assoc}
use Rattle.flow_templates.specs.Grammar.{Symbol, named, end, sign_symbol, factor_symbols, Written, unsigned_symbols, tail_symbols, Spells}
use Rattle.flow_templates.specs.Kept.{NoSign}
use Rattle.flow_templates.specs.Pending.{Continues, Pending}

-- two terms that start the same symbols are the same, but for their signs
pub record SameTerm (f g : Option ℤ) (a b : List ℕ) (more others : List Symbol) : Type 0 where
  -- the factors are the same
  pub factor : f ≡ g
  -- the names are the same
  pub name : a ≡ b
  -- what follows the terms is the same
  pub rest : more ≡ others

one_term : (f g : Option ℤ) (a b : List ℕ) (more others : List Symbol)
    → (factor_symbols f ++ named a ∷ []) ++ more ≡ (factor_symbols g ++ named b ∷ []) ++ others → SameTerm f g a b more others
one_term None None a b more others e = record { factor = refl; name = cc; rest = cc }
one_term None (Some z) a b more others e = cc
one_term (Some y) None a b more others e = cc
one_term (Some y) (Some z) a b more others e = record { factor = cc; name = cc; rest = cc }

same_sign : (a b : Bool) → sign_symbol a ≡ sign_symbol b → a ≡ b
same_sign true true e = refl
same_sign true false e = cc
same_sign false true e = cc
same_sign false false e = refl

abbrev written : Bool → Option ℤ → List ℕ → Written
written negative factor name = record { negative = negative; factor = factor; name = name }

same_written : (t u : Written) → t.negative ≡ u.negative → t.factor ≡ u.factor → t.name ≡ u.name → t ≡ u
same_written t u n f a =
    ap (λ b. written b t.factor t.name) n ∙ (ap (λ o. written u.negative o t.name) f ∙ ap (written u.negative u.factor) a)

-- no term starts with a sign, and no sign is the end
no_sign : (f : Option ℤ) (a : List ℕ) (more ss : List Symbol) (negative : Bool)
    → sign_symbol negative ∷ ss ≡ (factor_symbols f ++ named a ∷ []) ++ more → ⊥
no_sign None a more ss true e = cc
no_sign None a more ss false e = cc
no_sign (Some z) a more ss true e = cc
no_sign (Some z) a more ss false e = cc

no_end : (negative : Bool) (ss : List Symbol) → end ∷ [] ≡ sign_symbol negative ∷ ss → ⊥
no_end true ss e = cc
no_end false ss e = cc

same_tail : (ts us : List Written) → tail_symbols ts ≡ tail_symbols us → ts ≡ us
same_tail [] [] e = refl
same_tail [] (u ∷ us) e = absurd (no_end u.negative (unsigned_symbols u ++ tail_symbols us) e)
same_tail (t ∷ ts) [] e = absurd (no_end t.negative (unsigned_symbols t ++ tail_symbols ts) (sym e))
same_tail (t ∷ ts) (u ∷ us) e =
    let s : sign_symbol t.negative ≡ sign_symbol u.negative = cc in
    let r : unsigned_symbols t ++ tail_symbols ts ≡ unsigned_symbols u ++ tail_symbols us = cc in
    let one = one_term t.factor u.factor t.name u.name (tail_symbols ts) (tail_symbols us) r in
    let first : t ≡ u = same_written t u (same_sign _ _ s) one.factor one.name in
    let others : ts ≡ us = same_tail ts us one.rest in
    cc

-- symbols spell one list of terms at most
pub one_spelling : (ss : List Symbol) (ts us : List Written) → Spells ss ts → Spells ss us → ts ≡ us
one_spelling ss [] us h k = absurd h
one_spelling ss (t ∷ ts) [] h k = absurd k
one_spelling ss (t ∷ ts) (u ∷ us) (inl e) (inl d) = same_tail (t ∷ ts) (u ∷ us) (sym e ∙ d)
one_spelling ss (t ∷ ts) (u ∷ us) (inl e) (inr d) = absurd (no_sign u.factor u.name (tail_symbols us)
    (unsigned_symbols t ++ tail_symbols ts) t.negative (sym e ∙ d.1))
one_spelling ss (t ∷ ts) (u ∷ us) (inr e) (inl d) = absurd (no_sign t.factor t.name (tail_symbols ts)
    (unsigned_symbols u ++ tail_symbols us) u.negative (sym d ∙ e.1))
one_spelling ss (t ∷ ts) (u ∷ us) (inr e) (inr d) =
    let one = one_term t.factor u.factor t.name u.name (tail_symbols ts) (tail_symbols us) (sym e.1 ∙ d.1) in
    let first : t ≡ u = same_written t u (e.0 ∙ sym d.0) one.factor one.name in
    let others : ts ≡ us = same_tail ts us one.rest in
    cc

signed_only : (all rest : List Symbol) (negative : Bool) → all ≡ sign_symbol negative ∷ rest → (whole : List Written) → Spells all whole
    → Continues whole [] negative rest
signed_only all rest negative a [] h = absurd h
signed_only all rest negative a (t ∷ ts) (inl e) =
    let s : sign_symbol t.negative ≡ sign_symbol negative = cc in
    record { term = t; others = ts; whole_is = refl; sign = same_sign _ _ s; spelled = cc }
signed_only all rest negative a (t ∷ ts) (inr e) = absurd (no_sign t.factor t.name (tail_symbols ts) rest negative (sym a ∙ e.1))

plain_only : (all : List Symbol) → NoSign all → (whole : List Written) → Spells all whole → Continues whole [] false all
plain_only all n [] h = absurd h
plain_only all n (t ∷ ts) (inl e) = absurd (n t.negative (unsigned_symbols t ++ tail_symbols ts) e)
plain_only all n (t ∷ ts) (inr e) = record { term = t; others = ts; whole_is = refl; sign = e.0; spelled = e.1 }

-- a term was found, and a sign after it
more_only : (whole done : List Written) (negative next : Bool) (rest after others : List Symbol) (t : Written) (us : List Written)
    (c : Continues whole done negative rest) → c.others ≡ us → t.negative ≡ negative → rest ≡ unsigned_symbols t ++ after
    → after ≡ sign_symbol next ∷ others → Continues whole (done ++ t ∷ []) next others
more_only whole done negative next rest after others t [] c u s e a =
    let one = one_term t.factor c.term.factor t.name c.term.name after (tail_symbols c.others) (sym e ∙ c.spelled) in
    absurd (no_end next others (sym (one.rest ∙ ap tail_symbols u) ∙ a))
more_only whole done negative next rest after others t (v ∷ vs) c u s e a =
    let one = one_term t.factor c.term.factor t.name c.term.name after (tail_symbols c.others) (sym e ∙ c.spelled) in
    let first : t ≡ c.term = same_written t c.term (s ∙ sym c.sign) one.factor one.name in
    let tail : sign_symbol next ∷ others ≡ sign_symbol v.negative ∷ (unsigned_symbols v ++ tail_symbols vs) =
    sym a ∙ (one.rest ∙ ap tail_symbols u) in
    let sign : sign_symbol v.negative ≡ sign_symbol next = cc in
    record {
      term = v;
      others = vs;
      whole_is = c.whole_is ∙ (ap (λ x. done ++ c.term ∷ x) u ∙ (ap (λ x. done ++ x ∷ v ∷ vs) (sym first)
          ∙ sym (append_assoc done (t ∷ []) (v ∷ vs))));
      sign = same_sign _ _ sign;
      spelled = cc;
    }

-- after one more term and a sign, the terms with that one are pending
pub pending_more : (all : List Symbol) (done : List Written) (negative next : Bool) (rest after others : List Symbol) (t : Written)
    → Pending all done negative rest → t.negative ≡ negative → rest ≡ unsigned_symbols t ++ after → after ≡ sign_symbol next ∷ others
    → Pending all (done ++ t ∷ []) next others
pending_more all done negative next rest after others t p s e a = record {
  goes_on = λ v vs n d.
      let tail : after ≡ tail_symbols (v ∷ vs) = a ∙ (ap (λ b. sign_symbol b ∷ others) (sym n) ∙ ap (λ r. sign_symbol v.negative ∷ r) d) in
      subst (Spells all) (sym (append_assoc done (t ∷ []) (v ∷ vs)))
      (p.goes_on t (v ∷ vs) s (e ∙ ap (λ r. unsigned_symbols t ++ r) tail));
  only = λ whole h. more_only whole done negative next rest after others t (p.only whole h).others (p.only whole h) refl s e a;
}

-- a term was found, and the end after it
pub pending_end : (all : List Symbol) (done : List Written) (negative : Bool) (rest after : List Symbol) (t : Written)
    → Pending all done negative rest → t.negative ≡ negative → rest ≡ unsigned_symbols t ++ after → after ≡ end ∷ []
    → Spells all (done ++ t ∷ [])
pending_end all done negative rest after t p s e a = p.goes_on t [] s (e ∙ ap (λ r. unsigned_symbols t ++ r) a)

tail_starts : (us : List Written) (after : List Symbol) → after ≡ tail_symbols us → NoSign after → (after ≡ end ∷ [] → ⊥) → ⊥
tail_starts [] after e n m = m e
tail_starts (u ∷ us) after e n m = n u.negative (unsigned_symbols u ++ tail_symbols us) e

-- a term was found, and neither a sign nor the end after it
pub pending_stuck : (all : List Symbol) (done : List Written) (negative : Bool) (rest after : List Symbol) (t : Written)
    → Pending all done negative rest → rest ≡ unsigned_symbols t ++ after → NoSign after → (after ≡ end ∷ [] → ⊥) → (whole : List Written)
    → Spells all whole → ⊥
pending_stuck all done negative rest after t p e n m whole h =
    let c = p.only whole h in
    let one = one_term t.factor c.term.factor t.name c.term.name after (tail_symbols c.others) (sym e ∙ c.spelled) in
    tail_starts c.others after one.rest n m
