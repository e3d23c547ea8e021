-- The texts of a program, of its rows and of claims are refused by one cause, or mean a system.
use Rattle.std.proofs.Common.{◌≡◌, ◌∙◌, ℕ, List, refl, sym, ap, subst}
use Rattle.std.specs.Prelude.{ℤ, Ok, Err}
use Rattle.lang_tree.specs.Tree.{Statements}
use Rattle.flow_edges.specs.Points.{points_of_program}
use Rattle.flow_systems.specs.declared.system.System.{System}
use Rattle.ask_claims.specs.Claims.{FileMeans, Stated, StatedClaims}
use Rattle.ask_claims.specs.declared.fault.ClaimFault.{ClaimFault}
use Rattle.ask_claims.proofs.claims.Means.{file_once}
use Rattle.ask_words.specs.declared.request.Domain.{Domain}
use Rattle.top_texts.specs.ClaimTexts.{AreNoClaims, IsClaimedSystem}
use Rattle.top_texts.specs.Texts.{IsReady, IsRefused, Program}
use Rattle.top_status.specs.declared.status.TextCause.{TextCause}
use Rattle.top_status.specs.declared.status.TextCause.TheVariants.{Lex, Source as InSource, Flow, Rows, Unknowns, Claims, Equ, Auto}
use Rattle.top_texts.proofs.texts.Once.{ready_unrefused, refused_once}
use Rattle.top_texts.proofs.texts.Readings.{program_once}

abbrev stated : StatedClaims → StatedClaims
stated a = a

same_fault : (f g : ClaimFault) → stated (Err f) ≡ stated (Err g) → f ≡ g
same_fault f g e = cc

-- two answers that state the same claims have the same claims
pub same_stated : (x y : List Stated) → stated (Ok x) ≡ stated (Ok y) → x ≡ y
same_stated x y e = cc

fault_or_claims : (f : ClaimFault) (x : List Stated) → stated (Err f) ≡ stated (Ok x) → ⊥
fault_or_claims f x e = cc

module _ (program : Program) (rows : Domain (List ℕ)) (given : List ℕ) where
  -- a text says one thing about the program
  pub said_once : (names others : List (List ℕ)) (body other : Statements) (template rest : List (List ℤ)) (r s : StatedClaims)
      → IsReady program rows names body template → IsReady program rows others other rest
      → FileMeans given names (points_of_program body) r → FileMeans given others (points_of_program other) s → r ≡ s
  said_once names others body other template rest r s h k m n =
      let same = program_once program (names, body) (others, other) h.system.analysed.has_core k.system.analysed.has_core in
      file_once given others (points_of_program other) r s (subst (λ (p : List (List ℕ) × Statements). FileMeans given p.0
      (points_of_program p.1) r) same m) n

  -- a cause is one of the program and its rows, or a fault of the claims about a program that has a system
  data Stage (c : TextCause) : Type 0 where
    refused : IsRefused program rows c → Stage c
    faulty : (f : ClaimFault) (names : List (List ℕ)) (body : Statements) (template : List (List ℤ)) → c ≡ Claims f
        → IsReady program rows names body template
        → FileMeans given names (points_of_program body) (Err f) → Stage c

  stage : (c : TextCause) → AreNoClaims program rows given c → Stage c
  stage (Lex f) h = refused h
  stage (InSource f) h = refused h
  stage (Flow f) h = refused h
  stage (Rows f) h = refused h
  stage (Unknowns n) h = refused h
  stage (Claims f) (names, body, template, r, m) = faulty f names body template refl r m
  stage (Equ f) h = absurd h
  stage (Auto f) h = absurd h

  staged_once : (c d : TextCause) → Stage c → Stage d → c ≡ d
  staged_once c d (refused h) (refused k) = refused_once program rows c d h k
  staged_once c d (refused h) (faulty f names body template e r m) = absurd (ready_unrefused program rows names body template c h r)
  staged_once c d (faulty f names body template e r m) (refused k) = absurd (ready_unrefused program rows names body template d k r)
  staged_once c d (faulty f names body template e r m) (faulty g others other rest i s n) =
      e ∙ ap (λ x. Claims x) (same_fault f g (said_once names others body other template rest (Err f) (Err g) r s m n)) ∙ sym i

  -- the texts are refused by one cause
  pub causes_once : (c d : TextCause) → AreNoClaims program rows given c → AreNoClaims program rows given d → c ≡ d
  causes_once c d h k = staged_once c d (stage c h) (stage d k)

  staged_apart : (c : TextCause) (s : System) → Stage c → IsClaimedSystem program rows given s → ⊥
  staged_apart c s (refused h) is = ready_unrefused program rows is.solved.names is.solved.body is.solved.template c h is.solved.ready
  staged_apart c s (faulty f names body template e r m) is =
      fault_or_claims f is.stated (said_once names is.solved.names body is.solved.body template is.solved.template (Err f) (Ok is.stated) r
      is.solved.ready m is.reading)

  -- or mean a system
  pub apart : (c : TextCause) (s : System) → AreNoClaims program rows given c → IsClaimedSystem program rows given s → ⊥
  apart c s h is = staged_apart c s (stage c h) is
