-- The text of a file has one list of functions, or is refused by one cause.
use Rattle.std.proofs.Common.{◌≡◌, ◌++◌, ◌∙◌, ℕ, List, [], ◌∷◌, length, refl, sym, ap, subst}
use Rattle.std.proofs.lemmas.List.{append_cancel_right}
use Rattle.std.specs.Prelude.{Result, Ok, Err}
use Rattle.lang_tokens.specs.declared.lexicon.Lexicon.TheVariants.{C}
use Rattle.lang_tokens.specs.declared.fault.LexFault.{LexFault}
use Rattle.lang_tokens.specs.Faults.{HasFault}
use Rattle.lang_tokens.specs.Reading.{end_at}
use Rattle.lang_tokens.proofs.reading.Once.{no_fault, one_text_fault, one_token_list}
use Rattle.source_file.specs.Meaning.{NamesAre}
use Rattle.source_file.specs.declared.fault.SourceFault.{SourceFault}
use Rattle.source_file.proofs.meaning.Once.{names_once}
use Rattle.top_texts.specs.FunctionTexts.{AreFunctionsOf, AreNoFunctions, Lists, name_lines}
use Rattle.top_status.specs.declared.status.TextCause.{TextCause}
use Rattle.top_status.specs.declared.status.TextCause.TheVariants.{Lex, Source, Flow, Rows, Unknowns, Claims, Equ, Auto}

abbrev answered : Result (List (List ℕ)) SourceFault → Result (List (List ℕ)) SourceFault
answered a = a

-- a text has one answer
lists_once : (text : List ℕ) (a b : Result (List (List ℕ)) SourceFault) → Lists text a → Lists text b → a ≡ b
lists_once text a b (ts, r, m) (us, s, n) =
    let last = end_at (length text) ∷ [] in
    let same : us ≡ ts = append_cancel_right us ts last (one_token_list C text (us ++ last) (ts ++ last) s r) in
    names_once text ts a b m (subst (λ ws. NamesAre text ws b) same n)

same_names : (x y : List (List ℕ)) → answered (Ok x) ≡ answered (Ok y) → x ≡ y
same_names x y e = cc

same_fault : (f g : SourceFault) → answered (Err f) ≡ answered (Err g) → f ≡ g
same_fault f g e = cc

fault_or_names : (f : SourceFault) (x : List (List ℕ)) → answered (Err f) ≡ answered (Ok x) → ⊥
fault_or_names f x e = cc

-- a text has one list of names in lines
pub functions_once : (text one other : List ℕ) → AreFunctionsOf text one → AreFunctionsOf text other → one ≡ other
functions_once text one other a b =
    a.lines ∙ ap name_lines (same_names a.names b.names (lists_once text (Ok a.names) (Ok b.names) a.lists b.lists)) ∙ sym b.lines

-- a cause is a fault of the tokens, or one of the functions
data Stage (text : List ℕ) (c : TextCause) : Type 0 where
  unlexed : (f : LexFault) → c ≡ Lex f → HasFault C text f → Stage text c
  unlisted : (f : SourceFault) → c ≡ Source f → Lists text (Err f) → Stage text c

stage : (text : List ℕ) (c : TextCause) → AreNoFunctions text c → Stage text c
stage text (Lex f) h = unlexed f refl h
stage text (Source f) h = unlisted f refl h
stage text (Flow f) h = absurd h
stage text (Rows f) h = absurd h
stage text (Unknowns n) h = absurd h
stage text (Claims f) h = absurd h
stage text (Equ f) h = absurd h
stage text (Auto f) h = absurd h

staged_once : (text : List ℕ) (c d : TextCause) → Stage text c → Stage text d → c ≡ d
staged_once text c d (unlexed f e h) (unlexed g i k) = e ∙ ap (λ x. Lex x) (one_text_fault C text f g h k) ∙ sym i
staged_once text c d (unlexed f e h) (unlisted g i (ts, r, m)) = absurd (no_fault C text _ f r h)
staged_once text c d (unlisted f e (ts, r, m)) (unlexed g i k) = absurd (no_fault C text _ g r k)
staged_once text c d (unlisted f e h) (unlisted g i k) =
    e ∙ ap (λ x. Source x) (same_fault f g (lists_once text (Err f) (Err g) h k)) ∙ sym i

-- a text is refused by one cause
pub functions_refused_once : (text : List ℕ) (c d : TextCause) → AreNoFunctions text c → AreNoFunctions text d → c ≡ d
functions_refused_once text c d h k = staged_once text c d (stage text c h) (stage text d k)

staged_apart : (text : List ℕ) (names : List (List ℕ)) (c : TextCause) → Stage text c → Lists text (Ok names) → ⊥
staged_apart text names c (unlexed f e h) (ts, r, m) = no_fault C text _ f r h
staged_apart text names c (unlisted f e h) k = fault_or_names f names (lists_once text (Err f) (Ok names) h k)

-- or has functions
pub listed_unrefused : (text : List ℕ) (names : List (List ℕ)) (c : TextCause) → AreNoFunctions text c → Lists text (Ok names) → ⊥
listed_unrefused text names c h k = staged_apart text names c (stage text c h) k
