-- The sizes that are still to come while those of an array are read.
use Rattle.std.proofs.Common.{◌≡◌, ◌∙◌, ◌++◌, ◌∷◌, [], ℕ, true, false, List, Option, Some, None, Ok, refl, sym, ap, subst}
use Rattle.std.proofs.Common.{append_assoc}
use Rattle.std.proofs.lemmas.List.{append-nil}
use Rattle.source_grammar.specs.Tokens.{Kind, Token, token, left_bracket, right_bracket}
use Rattle.source_grammar.specs.Grammar.{Size, Sizes, last_size, next_size}
use Rattle.source_grammar.proofs.grammar.Follow.{NoBracket}
use Rattle.source_tree.specs.Expressions.{Extent}
use Rattle.source_tree.specs.Extents.{extent_of}
use Rattle.source_tree.specs.declared.extent.Extent as code_extent
use Rattle.source_meaning.specs.Results.{◌>>=◌}
use Rattle.source_meaning.specs.Names.{State}
use Rattle.source_meaning.specs.Arrays.{read_size, read_sizes}
use Rattle.source_reader.specs.Reading.{Reading, at_tokens, first_kind, passed}
use Rattle.source_reader.specs.Answers.{Answers}
use Rattle.source_change.specs.Onto.{onto_size, onto_sizes}
use Rattle.source_change.specs.Arrays.{onto_some_sizes, read_some_sizes, extents_of, WereSized}
use Rattle.source_change.specs.Nexts.{is_bracket}
use Rattle.source_change.proofs.results.Binds.{bind_assoc, bind_same, bind_ok}

-- the first size
abbrev pub head : Sizes → Size
head (last_size a s b) = s
head (next_size a s b ss) = s

-- the places of its brackets
abbrev pub opens : Sizes → ℕ
opens (last_size a s b) = a
opens (next_size a s b ss) = a

abbrev pub closes : Sizes → ℕ
closes (last_size a s b) = b
closes (next_size a s b ss) = b

-- the sizes behind it
abbrev pub tail : Sizes → Option Sizes
tail (last_size a s b) = None
tail (next_size a s b ss) = Some ss

-- the first one stands in its brackets before the others
spelled : (ss : Sizes) (w : List Token) → onto_sizes ss w
    ≡ token left_bracket (opens ss) ∷ onto_size (head ss) (token right_bracket (closes ss) ∷ onto_some_sizes (tail ss) w)
spelled (last_size a s b) w = refl
spelled (next_size a s b ss) w = refl

-- the first one is read before the others
in_turn : (st : State) (ss : Sizes)
    → read_sizes st ss ≡ (read_size st (head ss) >>= λ e. read_some_sizes st (tail ss) >>= λ es. Ok (e ∷ es))
in_turn st (last_size a s b) = refl
in_turn st (next_size a s b ss) = refl

-- what is no bracket
not_bracket : (k : Kind) → NoBracket k → is_bracket k ≡ false
not_bracket left_bracket h = absurd h
not_bracket _ h = refl

extents_append : (a b : List code_extent.Extent) → extents_of (a ++ b) ≡ extents_of a ++ extents_of b
extents_append [] b = refl
extents_append (e ∷ a) b = ap (λ es. extent_of e ∷ es) (extents_append a b)

module _ (st : State) where
  -- what is still to come of some sizes, where others were read
  pub record Left (ss : Option Sizes) (rest : List Token) (first now : Reading) (e₀ e : List code_extent.Extent) : Type 0 where
    -- what is still to come
    pub ys : Option Sizes
    -- the reader stands before it
    pub reader : now ≡ at_tokens first (onto_some_sizes ys rest)
    -- the extents of what was read
    pub done : List Extent
    -- the list has them behind what it had
    pub out : extents_of e ≡ extents_of e₀ ++ done
    -- the walk goes on with what is still to come
    pub goes : read_some_sizes st ss ≡ (read_some_sizes st ys >>= λ es. Ok (done ++ es))

  -- all are at first
  pub all_left : (ss : Option Sizes) (rest : List Token) (first : Reading) (e : List code_extent.Extent)
      → first.ahead ≡ onto_some_sizes ss rest → Left ss rest first first e e
  all_left ss rest first e f = record {
    ys = ss;
    reader = let P : List Token → Type 0 = λ ts. first ≡ at_tokens first ts in subst P f refl;
    done = [];
    out = sym (append-nil (extents_of e));
    goes = bind_ok (read_some_sizes st ss) (λ es. es) (λ es. refl);
  }

  -- the next one
  pub record Next (ss : Option Sizes) (rest : List Token) (first now : Reading) (e₀ e : List code_extent.Extent) : Type 0 where
    -- the next one
    pub s : Size
    -- the place of the bracket behind it
    pub close : ℕ
    -- those behind it
    pub zs : Option Sizes
    -- the reader has passed the bracket before it
    pub reader : passed now ≡ at_tokens first (onto_size s (token right_bracket close ∷ onto_some_sizes zs rest))
    -- the extents of what was read
    pub done : List Extent
    -- the list has them behind what it had
    pub out : extents_of e ≡ extents_of e₀ ++ done
    -- the walk goes on with what is still to come
    pub goes : read_some_sizes st ss ≡ (read_size st s >>= λ x. read_some_sizes st zs >>= λ es. Ok (done ++ (x ∷ es)))

  -- it is there where a bracket is
  pub next_left : (ss : Option Sizes) (rest : List Token) (first now : Reading) (e₀ e : List code_extent.Extent)
      → Left ss rest first now e₀ e → NoBracket (first_kind rest) → is_bracket (first_kind now.ahead) ≡ true
      → Next ss rest first now e₀ e
  next_left ss rest first now e₀ e l h c = on l.ys l.reader l.goes where
    on : (ys : Option Sizes) → now ≡ at_tokens first (onto_some_sizes ys rest)
        → read_some_sizes st ss ≡ (read_some_sizes st ys >>= λ es. Ok (l.done ++ es)) → Next ss rest first now e₀ e
    on None r g =
        let i : is_bracket (first_kind now.ahead) ≡ false = ap (λ (r : Reading). is_bracket (first_kind r.ahead)) r ∙ not_bracket
        (first_kind rest) h in
        absurd cc
    on (Some ys) r g = record {
      s = head ys;
      close = closes ys;
      zs = tail ys;
      reader = ap passed (r ∙ ap (at_tokens first) (spelled ys rest));
      done = l.done;
      out = l.out;
      goes = g ∙ ap (λ w. w >>= λ es. Ok (l.done ++ es)) (in_turn st ys)
          ∙ bind_assoc (read_size st (head ys)) (λ x. read_some_sizes st (tail ys) >>= λ es. Ok (x ∷ es)) (λ es. Ok (l.done ++ es))
          ∙ bind_same (read_size st (head ys)) (λ x. (read_some_sizes st (tail ys) >>= λ es. Ok (x ∷ es)) >>= λ es. Ok (l.done ++ es))
          (λ x. read_some_sizes st (tail ys) >>= λ es. Ok (l.done ++ (x ∷ es)))
          (λ x. bind_assoc (read_some_sizes st (tail ys)) (λ es. Ok (x ∷ es)) (λ es. Ok (l.done ++ es)));
    }

  -- where it was read the others are left
  pub less_left : (ss : Option Sizes) (rest : List Token) (first now new : Reading) (e₀ e e' : List code_extent.Extent)
      (x : code_extent.Extent) (n : Next ss rest first now e₀ e) (y : Extent) → read_size st n.s ≡ Ok y → extent_of x ≡ y
      → new ≡ at_tokens first (onto_some_sizes n.zs rest) → e' ≡ e ++ x ∷ [] → Left ss rest first new e₀ e'
  less_left ss rest first now new e₀ e e' x n y a v r p = record {
    ys = n.zs;
    reader = r;
    done = n.done ++ y ∷ [];
    out = ap extents_of p ∙ extents_append e (x ∷ []) ∙ ap (λ es. es ++ extent_of x ∷ []) n.out
        ∙ append_assoc (extents_of e₀) n.done (extent_of x ∷ []) ∙ ap (λ z. extents_of e₀ ++ (n.done ++ z ∷ [])) v;
    goes = n.goes ∙ ap (λ w. w >>= λ x. read_some_sizes st n.zs >>= λ es. Ok (n.done ++ (x ∷ es))) a
        ∙ bind_same (read_some_sizes st n.zs) (λ es. Ok (n.done ++ (y ∷ es))) (λ es. Ok ((n.done ++ y ∷ []) ++ es))
        (λ es. ap Ok (sym (append_assoc n.done (y ∷ []) es)));
  }

  -- where no bracket is all were read
  pub none_left : (ss : Option Sizes) (rest : List Token) (first now : Reading) (e₀ e : List code_extent.Extent) (u : Unit {0})
      → Left ss rest first now e₀ e → is_bracket (first_kind now.ahead) ≡ false
      → Answers (λ _ es. WereSized rest first now e₀ e es) (Ok u) (read_some_sizes st ss)
  none_left ss rest first now e₀ e u l c = on l.ys l.reader l.goes where
    on : (ys : Option Sizes) → now ≡ at_tokens first (onto_some_sizes ys rest)
        → read_some_sizes st ss ≡ (read_some_sizes st ys >>= λ es. Ok (l.done ++ es))
        → Answers (λ _ es. WereSized rest first now e₀ e es) (Ok u) (read_some_sizes st ss)
    on None r g = (l.done, g ∙ ap Ok (append-nil l.done), record { extents = l.out; reader = r })
    on (Some ys) r g =
        let i : is_bracket (first_kind now.ahead) ≡ true = ap (λ (r : Reading). is_bracket (first_kind r.ahead))
        (r ∙ ap (at_tokens first) (spelled ys rest)) in absurd cc
