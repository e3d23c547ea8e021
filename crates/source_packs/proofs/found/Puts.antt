-- Which groups and targets a book has more behind tokens.
use Rattle.std.proofs.Common.{◌≡◌, ◌∙◌, ◌++◌, ◌∷◌, ℕ, true, false, List, [], length, refl, sym, ap, ap₂, append_assoc}
use Rattle.std.proofs.lemmas.List.{append-nil, take_at, drop_at}
use Rattle.lang_groups.specs.Groups.{SameTogether}
use Rattle.lang_groups.specs.Kept.{kept_group}
use Rattle.lang_groups.specs.Laws.{Adds, MarksGiveGroups, MarksGiveOneMore}
use Rattle.lang_groups.specs.Machine as lang
use Rattle.lang_groups.specs.Machine.{at_rest, ended, ended_together, taken_all}
use Rattle.lang_groups.specs.Shapes.{Shape, nothing, Fits, occurring, groups_of, marks_of}
use Rattle.lang_groups.proofs.together.Members.{members_refl, members_swap}
use Rattle.lang_groups.proofs.together.Same.{same_refl, same_trans, same_append, same_cons, same_last, same_swap}
use Rattle.lang_groups.proofs.together.Kept.{kept_same}
use Rattle.source_packs.specs.Machine.{Book, book, told}
use Rattle.source_packs.specs.declared.goal.Effect.TheVariants as effect
use Rattle.source_packs.proofs.machine.Books.{seen, behind_none}

-- a book between statements
abbrev pub rest : List (List ℕ) → (members starts : List ℕ) → Book
rest gs ms starts = book (at_rest gs) ms starts false

-- The book `after` has these targets more than one between statements, and groups by which the same stand together as by those wanted.
pub record Put (wanted : List (List ℕ)) (targets : List ℕ) (gs : List (List ℕ)) (ms starts : List ℕ) (after : Book) : Type 0 where
  -- the groups
  pub more : List (List ℕ)
  -- they are put behind those before
  pub kept : after ≡ rest (gs ++ more) (ms ++ targets) starts
  -- and hold the same variables together
  pub same : SameTogether more wanted

-- So it is behind each book between statements.
abbrev pub Puts : List (List ℕ) → List ℕ → (Book → Book) → Type 0
Puts wanted targets f = (gs : List (List ℕ)) (ms starts : List ℕ) → Put wanted targets gs ms starts (f (rest gs ms starts))

-- ---- one after another
pub puts_none : Puts [] [] (λ (b : Book). b)
puts_none gs ms starts = record {
  more = [];
  kept = ap₂ (λ (g : List (List ℕ)) (m : List ℕ). rest g m starts) (sym (append-nil gs)) (sym (append-nil ms));
  same = same_refl [];
}

-- a book and what is put into it
pub put_then : {v w : List (List ℕ)} {t u : List ℕ} (gs : List (List ℕ)) (ms starts : List ℕ) (b : Book) (f : Book → Book)
    → Put v t gs ms starts b → Puts w u f → Put (v ++ w) (t ++ u) gs ms starts (f b)
put_then {v = v} {w = w} {t = t} {u = u} gs ms starts b f p q =
    let next : Put w u (gs ++ p.more) (ms ++ t) starts (f (rest (gs ++ p.more) (ms ++ t) starts)) = q (gs ++ p.more) (ms ++ t) starts in
    record {
      more = p.more ++ next.more;
      kept = ap f p.kept ∙ next.kept ∙ ap₂ (λ (g : List (List ℕ)) (m : List ℕ). rest g m starts) (append_assoc gs p.more next.more)
          (append_assoc ms t u);
      same = same_append p.same next.same;
    }

-- two things that are put into one
pub puts_then : {v w : List (List ℕ)} {t u : List ℕ} (f g : Book → Book) → Puts v t f → Puts w u g
    → Puts (v ++ w) (t ++ u) (λ (b : Book). g (f b))
puts_then f g p q gs ms starts = put_then gs ms starts (f (rest gs ms starts)) g (p gs ms starts) q

-- the same groups and targets otherwise
pub put_same : {v w : List (List ℕ)} {t u : List ℕ} {gs : List (List ℕ)} {ms starts : List ℕ} {b : Book} → SameTogether v w → t ≡ u
    → Put v t gs ms starts b → Put w u gs ms starts b
put_same {gs = gs} {ms = ms} {starts = starts} h e p = record {
  more = p.more;
  kept = p.kept ∙ ap (λ (l : List ℕ). rest (gs ++ p.more) (ms ++ l) starts) e;
  same = same_trans p.same h;
}

-- the book otherwise
pub put_by : {w : List (List ℕ)} {t : List ℕ} {gs : List (List ℕ)} {ms starts : List ℕ} {a b : Book} → a ≡ b
    → Put w t gs ms starts b → Put w t gs ms starts a
put_by e p = record { more = p.more; kept = e ∙ p.kept; same = p.same }

-- ---- expressions
-- one that ends
pub puts_expression : MarksGiveGroups → (s : Shape) → Fits 0 s → (ys : List ℕ)
    → Puts (groups_of s) ys (λ (b : Book). told effect.Ends (seen s ys b))
puts_expression law s h ys gs ms starts =
    let adds : Adds gs (groups_of s) (ended (taken_all (marks_of s) (at_rest gs))) = law s h gs in
    record { more = adds.more; kept = ap (λ (c : lang.State). book c (ms ++ ys) starts false) adds.kept; same = adds.same }

-- the condition of a loop
test_put : MarksGiveGroups → (s : Shape) → Fits 0 s → (ys : List ℕ) (gs : List (List ℕ)) (ms starts : List ℕ)
    → Put (groups_of s) (occurring s) gs ms starts (told effect.Ends (seen s ys (book (at_rest gs) ms starts true)))
test_put law s h ys gs ms starts =
    let adds : Adds gs (groups_of s) (ended (taken_all (marks_of s) (at_rest gs))) = law s h gs in
    record { more = adds.more; kept = ap (λ (c : lang.State). book c (ms ++ occurring s) starts false) adds.kept; same = adds.same }

-- nothing that ends
pub puts_end : MarksGiveGroups → Puts [] [] (λ (b : Book). told effect.Ends b)
puts_end law gs ms starts = put_by (ap (λ (b : Book). told effect.Ends b) (behind_none (rest gs ms starts)))
    (puts_expression law nothing tt [] gs ms starts)

-- a change that ends
pub puts_change : MarksGiveOneMore → (s : Shape) → Fits 0 s → (ys : List ℕ)
    → Puts (occurring s ∷ groups_of s) ys (λ (b : Book). told effect.EndsTogether (seen s ys b))
puts_change law s h ys gs ms starts =
    let adds : Adds gs (occurring s ∷ groups_of s) (ended_together (taken_all (marks_of s) (at_rest gs))) = law s h gs in
    record { more = adds.more; kept = ap (λ (c : lang.State). book c (ms ++ ys) starts false) adds.kept; same = adds.same }

-- ---- loops
-- behind one its group is added
loop_put : {w : List (List ℕ)} {t : List ℕ} (gs : List (List ℕ)) (ms starts : List ℕ) (b : Book)
    → Put w t gs ms (length ms ∷ starts) b → Put (t ∷ w) [] gs ms starts (told effect.LoopEnds b)
loop_put {w = w} {t = t} gs ms starts b p = record {
  more = p.more ++ kept_group t;
  kept = ap (λ (x : Book). told effect.LoopEnds x) p.kept
      ∙ ap₂ (λ (d m : List ℕ). rest ((gs ++ p.more) ++ kept_group d) m starts)
      (drop_at ms t (length ms) refl) (take_at ms t (length ms) refl)
      ∙ ap₂ (λ (g : List (List ℕ)) (m : List ℕ). rest g m starts) (append_assoc gs p.more (kept_group t)) (sym (append-nil ms));
  same = same_trans (same_append p.same (kept_same t)) (same_last t w);
}

-- with its condition first
pub puts_loop : {w : List (List ℕ)} {t : List ℕ} → MarksGiveGroups → (s : Shape) → Fits 0 s → (ys : List ℕ) (f : Book → Book) → Puts w t f
    → Puts ((occurring s ++ t) ∷ (groups_of s ++ w)) []
    (λ (b : Book). told effect.LoopEnds (f (told effect.Ends (seen s ys (told effect.Tests b)))))
puts_loop law s h ys f p gs ms starts =
    loop_put gs ms starts (f (told effect.Ends (seen s ys (told effect.Tests (rest gs ms starts)))))
    (put_then gs ms (length ms ∷ starts) (told effect.Ends (seen s ys (told effect.Tests (rest gs ms starts)))) f
    (test_put law s h ys gs ms (length ms ∷ starts)) p)

-- the condition behind a body
tail_put : {w : List (List ℕ)} {t : List ℕ} → MarksGiveGroups → (s : Shape) → Fits 0 s → (ys : List ℕ) (gs : List (List ℕ))
    (ms starts : List ℕ) (b : Book) → Put w t gs ms starts b
    → Put (w ++ groups_of s) (t ++ occurring s) gs ms starts (told effect.Ends (seen s ys (told effect.TestsBehind b)))
tail_put {w = w} {t = t} law s h ys gs ms starts b p =
    let test : Put (groups_of s) (occurring s) (gs ++ p.more) (ms ++ t) starts
    (told effect.Ends (seen s ys (book (at_rest (gs ++ p.more)) (ms ++ t) starts true))) =
    test_put law s h ys (gs ++ p.more) (ms ++ t) starts in
    record {
      more = p.more ++ test.more;
      kept = ap (λ (x : Book). told effect.Ends (seen s ys (told effect.TestsBehind x))) p.kept ∙ test.kept
          ∙ ap₂ (λ (g : List (List ℕ)) (m : List ℕ). rest g m starts) (append_assoc gs p.more test.more)
          (append_assoc ms t (occurring s));
      same = same_append p.same test.same;
    }

-- with its condition last
pub puts_do : {w : List (List ℕ)} {t : List ℕ} → MarksGiveGroups → (s : Shape) → Fits 0 s → (ys : List ℕ) (f : Book → Book) → Puts w t f
    → Puts ((occurring s ++ t) ∷ (w ++ groups_of s)) []
    (λ (b : Book). told effect.LoopEnds (told effect.Ends (seen s ys (told effect.TestsBehind (f (told effect.Repeats b))))))
puts_do {w = w} {t = t} law s h ys f p gs ms starts =
    put_same (same_cons (members_swap t (occurring s)) (same_refl (w ++ groups_of s))) refl
    (loop_put gs ms starts (told effect.Ends (seen s ys (told effect.TestsBehind (f (rest gs ms (length ms ∷ starts))))))
    (tail_put law s h ys gs ms (length ms ∷ starts) (f (rest gs ms (length ms ∷ starts))) (p gs ms (length ms ∷ starts))))

-- A group may stand first.
pub same_front : (g : List ℕ) (fs gs : List (List ℕ)) → SameTogether (fs ++ (g ∷ gs)) (g ∷ (fs ++ gs))
same_front g fs gs = same_trans (same_swap fs (g ∷ gs)) (same_cons (members_refl g) (same_swap gs fs))
