-- The machine and the grammar.
use Rattle.std.proofs.Common.{◌≡◌, ◌∙◌, ◌++◌, ◌↔◌, List, [], ◌∷◌, Option, Some, None, refl, sym, ap}
use Rattle.source_grammar.specs.Tokens.{Token}
use Rattle.source_grammar.specs.Grammar.{Function, Reads, Begins, IsUnexpected}
use Rattle.source_grammar.specs.Machine.{Goal, run, start}
use Rattle.source_grammar.proofs.grammar.Taken.{accepted}
use Rattle.source_grammar.proofs.machine.Goes.{run_front, none_front}
use Rattle.source_grammar.proofs.machine.Finish.{finish, finishes, start_based}
use Rattle.source_grammar.proofs.machine.Back.{accepted_reads}

-- what reads as a function is accepted
pub reads_accepted : (w : List Token) (f : Function) → Reads w f → run start w ≡ Some []
reads_accepted w f r = ap (λ x. run start x) (sym r.spelled) ∙ accepted f r.good

-- Acceptance is reading as a function.
pub accepts_law : (w : List Token) → (run start w ≡ Some []) ↔ ((f : Function) × Reads w f)
accepts_law w = ((λ h. accepted_reads w h), (λ h. reads_accepted w h.0 h.1))

-- a front that the machine has taken begins a function
pub alive_begins : (front : List Token) (gs : List Goal) → run start front ≡ Some gs → Begins front
alive_begins front gs h = let r = accepted_reads (front ++ finish gs) (run_front start gs front (finish gs) h
    ∙ finishes gs (start_based front gs h)) in
    (r.0, finish gs, r.1)

none_clash : (front : List Token) → run start front ≡ None → Begins front → ⊥
none_clash front h (f, rest, r) = let e = reads_accepted (front ++ rest) f r in let i = none_front start front rest h in cc

alive_of : (front : List Token) (o : Option (List Goal)) → run start front ≡ o → Begins front
    → (gs : List Goal) × (run start front ≡ Some gs)
alive_of front None h b = absurd (none_clash front h b)
alive_of front (Some gs) h b = (gs, h)

-- The machine has a stack exactly where the tokens so far begin a function.
pub begins_law : (front : List Token) → ((gs : List Goal) × (run start front ≡ Some gs)) ↔ Begins front
begins_law front = ((λ h. alive_begins front h.0 h.1), (λ b. alive_of front (run start front) refl b))

-- The machine stops exactly at the first token that is unexpected.
pub unexpected_law : (front : List Token) (gs : List Goal) (t : Token) → run start front ≡ Some gs → run start (front ++ t ∷ []) ≡ None
    → IsUnexpected front t
unexpected_law front gs t h i = (alive_begins front gs h, λ b. none_clash (front ++ t ∷ []) i b)

-- at a token that is unexpected the machine has a stack before it, and stops at it
pub unexpected_back : (front : List Token) (t : Token) → IsUnexpected front t
    → ((gs : List Goal) × (run start front ≡ Some gs)) × (run start (front ++ t ∷ []) ≡ None)
unexpected_back front t (b, n) = (alive_of front (run start front) refl b, gone (run start (front ++ t ∷ [])) refl) where
  gone : (o : Option (List Goal)) → run start (front ++ t ∷ []) ≡ o → run start (front ++ t ∷ []) ≡ None
  gone None h = h
  gone (Some gs) h = absurd (n (alive_begins (front ++ t ∷ []) gs h))
