-- Words and contents have one ending.
use Rattle.std.proofs.Common.{◌≡◌, ◌∙◌, ℕ, List, ap, subst, sym}
use Rattle.std.specs.Prelude.{Some, None}
use Rattle.ask_files.specs.Files.{with_texts}
use Rattle.ask_files.specs.Files.{Request, files_of, unread}
use Rattle.ask_files.specs.declared.which.ReadCause.{ReadCause}
use Rattle.ask_words.specs.Request.{request_of}
use Rattle.top_answer.specs.Answers.{Asks, Ends, decided, not_read, unasked}
use Rattle.top_answer.specs.Commands.{Commands}
use Rattle.top_answer.proofs.answers.Answered.{no_cause, no_request, one_cause, same_request}
use Rattle.top_answer.proofs.commands.Lawful.{IsLawful}
use Rattle.top_status.specs.declared.status.Status.{Status}
use Rattle.top_status.specs.declared.status.Status.TheVariants.{Read}

module _ (words contents : List (List ℕ)) where
  -- words ask about one command over contents
  pub one_asked : (a b : Request) → Asks words contents a → Asks words contents b → a ≡ b
  one_asked a b x y = x.asked_is ∙ ap (λ r. with_texts r contents) (same_request (request_of words) y.request x.request y.request_is
      x.request_is) ∙ sym y.asked_is

  -- a file of their request isn't read by one cause
  one_read : (r q : Request) (c d : ReadCause) → request_of words ≡ Some r → request_of words ≡ Some q
      → unread (files_of r) contents ≡ Some c → unread (files_of q) contents ≡ Some d → c ≡ d
  one_read r q c d i j h k = one_cause (unread (files_of r) contents) c d h
      (subst (λ x. unread (files_of x) contents ≡ Some d) (same_request (request_of words) r q i j) k)

  -- or all are read
  not_both : (r a : Request) (c : ReadCause) → request_of words ≡ Some r → unread (files_of r) contents ≡ Some c → Asks words contents a → ⊥
  not_both r a c i h asks = no_cause (unread (files_of r) contents) c
      (subst (λ x. unread (files_of x) contents ≡ None) (same_request (request_of words) r asks.request i asks.request_is) asks.all_read) h

  module _ (commands : Commands) (law : IsLawful commands) where
    once : (s t : Status) → Ends commands words contents s → Ends commands words contents t → s ≡ t
    once s t (unasked n u) (unasked m v) = u ∙ sym v
    once s t (unasked n u) (not_read r c i h v) = absurd (no_request (request_of words) r n i)
    once s t (unasked n u) (decided b y k) = absurd (no_request (request_of words) y.request n y.request_is)
    once s t (not_read r c i h u) (unasked m v) = absurd (no_request (request_of words) r m i)
    once s t (not_read r c i h u) (not_read q d j k v) = u ∙ ap (λ x. Read x) (one_read r q c d i j h k) ∙ sym v
    once s t (not_read r c i h u) (decided b y k) = absurd (not_both r b c i h y)
    once s t (decided a x h) (unasked m v) = absurd (no_request (request_of words) x.request m x.request_is)
    once s t (decided a x h) (not_read q d j k v) = absurd (not_both q a d j k x)
    once s t (decided a x h) (decided b y k) = (law a).ends_once s t h (subst (λ r. (commands r).ends t) (one_asked b a y x) k)

-- words and contents have one ending
pub one_ending : (commands : Commands) → IsLawful commands → (words contents : List (List ℕ)) (one other : Status)
    → Ends commands words contents one → Ends commands words contents other → one ≡ other
one_ending commands law words contents one other h k = once words contents commands law one other h k
