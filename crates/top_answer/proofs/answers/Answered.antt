-- From what the parts of an answer say to its public clauses.
use Rattle.std.proofs.Common.{◌≡◌, ◌∙◌, ⊎_elim, ℕ, List, [], refl, sym, ap, subst}
use Rattle.std.specs.Prelude.{Option, Some, None}
use Rattle.ask_words.specs.Request.{request_of}
use Rattle.top_answer.specs.Answers as public
use Rattle.top_answer.specs.Answers.{IsAnsweredBy, Asks, Ends, Holds, IsAnswer, IsMessage, IsOutput}
use Rattle.ask_files.specs.Files.{with_texts}
use Rattle.top_answer.specs.Commands.{Commands, command_of}
use Rattle.ask_files.specs.Files.{Request, files_of, unread}
use Rattle.top_answer.specs.Outcomes as parted
use Rattle.top_answer.specs.Outcomes.{AnswersRequest, AnswersWords, NamesPlace, Says}
use Rattle.top_status.specs.CheckMessages.{rows_of}
use Rattle.top_status.specs.Messages.{line_in, message_of}
use Rattle.ask_files.specs.declared.which.ReadCause.{ReadCause}
use Rattle.top_status.specs.declared.status.Status.{Status}
use Rattle.top_status.specs.declared.status.Status.TheVariants.{Done, Open, Certificate, Usage, Read, Text, Exceeded, Spent, Memory, Write}
use Rattle.top_texts.specs.Exact.{exact}
use Rattle.top_texts.proofs.analyses.Found.{no_output}
use Rattle.top_answer.proofs.commands.Lawful.{IsLawful}

-- words ask for one request
pub same_request : (o : Option Request) (a b : Request) → o ≡ Some a → o ≡ Some b → b ≡ a
same_request o a b h k = cc

-- words that ask for nothing ask for no request
pub no_request : (o : Option Request) (a : Request) → o ≡ None → o ≡ Some a → ⊥
no_request o a h k = cc

-- a file has one cause for which it is not read
pub one_cause : (o : Option ReadCause) (a b : ReadCause) → o ≡ Some a → o ≡ Some b → a ≡ b
one_cause o a b h k = cc

-- or none
pub no_cause : (o : Option ReadCause) (a : ReadCause) → o ≡ None → o ≡ Some a → ⊥
no_cause o a h k = cc

module _ (commands : Commands) (law : IsLawful commands) (words contents : List (List ℕ)) (request : Request)
    (is : request_of words ≡ Some request) where
  -- words ask for one command over contents
  same_asked : (asked : Request) → Asks words contents asked → asked ≡ with_texts request contents
  same_asked asked a = a.asked_is ∙ ap (λ r. with_texts r contents) (same_request (request_of words) request a.request is a.request_is)

  -- and its files are read
  reads_all : (asked : Request) → Asks words contents asked → unread (files_of request) contents ≡ None
  reads_all asked a = subst (λ r. unread (files_of r) contents ≡ None)
      (same_request (request_of words) request a.request is a.request_is) a.all_read

  -- ---- a file that isn't read

  module _ (cause : ReadCause) (is_unread : unread (files_of request) contents ≡ Some cause) (status : Status) (bytes message : List ℕ)
      (e : status ≡ Read cause) (empty : bytes ≡ []) (plain : message ≡ message_of 0 0 status) where
    unread_answer : IsAnswer commands words contents status
    unread_answer = public.is_ending (public.not_read request cause is is_unread e)

    unread_holds : Holds (IsOutput commands words contents) status bytes
    unread_holds = public.nothing (no_output status (Read cause) e refl) empty

    unread_complete : (ending : Status) → Ends commands words contents ending → IsAnsweredBy commands words contents ending status
    unread_complete ending (public.unasked n u) = absurd (no_request (request_of words) request n is)
    unread_complete ending (public.not_read r c i k u) =
        public.given (e ∙ ap (λ x. Read x) (one_cause (unread (files_of request) contents) cause c is_unread
        (subst (λ x. unread (files_of x) contents ≡ Some c) (same_request (request_of words) request r is i) k)) ∙ sym u)
    unread_complete ending (public.decided asked a h) =
        absurd (no_cause (unread (files_of request) contents) cause (reads_all asked a) is_unread)

    unread_message : IsMessage exact words contents status message
    unread_message = record {
      line = 0;
      rows = 0;
      is_message = plain;
      line_is = λ asked a. absurd (no_cause (unread (files_of request) contents) cause (reads_all asked a) is_unread);
      rows_are = λ asked count a has. absurd (no_cause (unread (files_of request) contents) cause (reads_all asked a) is_unread);
    }

  -- ---- texts that are read

  module _ (all : unread (files_of request) contents ≡ None) where
    asks : Asks words contents (with_texts request contents)
    asks = record { request = request; request_is = is; all_read = all; asked_is = refl }

    texts_answer : (status : Status) (bytes : List ℕ) → Says (commands (with_texts request contents)) status bytes
        → IsAnswer commands words contents status
    texts_answer Done bytes h =
        public.is_ending (public.decided (with_texts request contents) asks ((law (with_texts request contents)).written_ends Done bytes h))
    texts_answer Open bytes h =
        public.is_ending (public.decided (with_texts request contents) asks ((law (with_texts request contents)).written_ends Open bytes h))
    texts_answer (Certificate c) bytes h = public.is_ending (public.decided (with_texts request contents) asks h.0)
    texts_answer Usage bytes h = public.is_ending (public.decided (with_texts request contents) asks h.0)
    texts_answer (Read c) bytes h = public.is_ending (public.decided (with_texts request contents) asks h.0)
    texts_answer (Text c) bytes h = public.is_ending (public.decided (with_texts request contents) asks h.0)
    texts_answer (Exceeded excess) bytes h =
        ⊎_elim (λ k. public.is_ending (public.decided (with_texts request contents) asks k))
        (λ w. public.is_exceeded excess refl (record { asked = with_texts request contents; asks = asks; exceeds = w })) h.0
    texts_answer (Spent n) bytes h = public.is_ending (public.decided (with_texts request contents) asks h.0)
    texts_answer Memory bytes h = public.is_memory refl
    texts_answer Write bytes h = public.is_ending (public.decided (with_texts request contents) asks h.0)

    texts_hold : (status : Status) (bytes : List ℕ) → Says (commands (with_texts request contents)) status bytes
        → Holds (IsOutput commands words contents) status bytes
    texts_hold Done bytes h = public.whole refl (record { asked = with_texts request contents; asks = asks; written = h })
    texts_hold Open bytes h = public.whole refl (record { asked = with_texts request contents; asks = asks; written = h })
    texts_hold (Certificate c) bytes h = public.nothing (λ e. cc) h.1
    texts_hold Usage bytes h = public.nothing (λ e. cc) h.1
    texts_hold (Read c) bytes h = public.nothing (λ e. cc) h.1
    texts_hold (Text c) bytes h = public.nothing (λ e. cc) h.1
    texts_hold (Exceeded excess) bytes h = public.nothing (λ e. cc) h.1
    texts_hold (Spent n) bytes h = public.nothing (λ e. cc) h.1
    texts_hold Memory bytes h = public.nothing (λ e. cc) h
    texts_hold Write bytes h = public.nothing (λ e. cc) h.1

    decided_once : (status : Status) (bytes : List ℕ) (ending : Status) → Says (commands (with_texts request contents)) status bytes
        → (commands (with_texts request contents)).ends ending → IsAnsweredBy commands words contents ending status
    decided_once Done bytes ending h k =
        public.given ((law (with_texts request contents)).ends_once Done ending
        ((law (with_texts request contents)).written_ends Done bytes h) k)
    decided_once Open bytes ending h k =
        public.given ((law (with_texts request contents)).ends_once Open ending
        ((law (with_texts request contents)).written_ends Open bytes h) k)
    decided_once (Certificate c) bytes ending h k =
        public.given ((law (with_texts request contents)).ends_once (Certificate c) ending h.0 k)
    decided_once Usage bytes ending h k = public.given ((law (with_texts request contents)).ends_once Usage ending h.0 k)
    decided_once (Read c) bytes ending h k = public.given ((law (with_texts request contents)).ends_once (Read c) ending h.0 k)
    decided_once (Text c) bytes ending h k = public.given ((law (with_texts request contents)).ends_once (Text c) ending h.0 k)
    decided_once (Exceeded excess) bytes ending h k =
        ⊎_elim (λ e. public.given ((law (with_texts request contents)).ends_once (Exceeded excess) ending e k))
        (λ w. public.exceeded excess refl (record { asked = with_texts request contents; asks = asks; exceeds = w })
        ((law (with_texts request contents)).exceeded_ends excess ending w k)) h.0
    decided_once (Spent n) bytes ending h k = public.given ((law (with_texts request contents)).ends_once (Spent n) ending h.0 k)
    decided_once Memory bytes ending h k = public.no_memory refl
    decided_once Write bytes ending h k = public.given ((law (with_texts request contents)).ends_once Write ending h.0 k)

    texts_complete : (status : Status) (bytes : List ℕ) → Says (commands (with_texts request contents)) status bytes
        → (ending : Status) → Ends commands words contents ending → IsAnsweredBy commands words contents ending status
    texts_complete status bytes h ending (public.unasked n u) = absurd (no_request (request_of words) request n is)
    texts_complete status bytes h ending (public.not_read r c i k u) =
        absurd (no_cause (unread (files_of request) contents) c all
        (subst (λ x. unread (files_of x) contents ≡ Some c) (same_request (request_of words) request r is i) k))
    texts_complete status bytes h ending (public.decided asked a k) =
        decided_once status bytes ending h (subst (λ x. (commands x).ends ending) (same_asked asked a) k)

    texts_message : (status : Status) (message : List ℕ) → NamesPlace (with_texts request contents) status message
        → IsMessage exact words contents status message
    texts_message status message n = record {
      line = n.line;
      rows = n.rows;
      is_message = n.is_message;
      line_is = λ asked a. n.line_is ∙ ap (λ x. line_in ((command_of exact x).named status) status) (sym (same_asked asked a));
      rows_are = λ asked count a has. n.rows_are count (subst (λ x. (command_of exact x).has_rows count) (same_asked asked a) has);
    }

-- ---- want of memory

module _ (commands : Commands) (words contents : List (List ℕ)) (status : Status) (bytes message : List ℕ) (e : status ≡ Memory)
    (empty : bytes ≡ [])
    (plain : message ≡ message_of 0 0 status) where
  memory_holds : Holds (IsOutput commands words contents) status bytes
  memory_holds = public.nothing (no_output status Memory e refl) empty

  memory_message : IsMessage exact words contents status message
  memory_message = record {
    line = 0;
    rows = 0;
    is_message = plain;
    line_is = λ asked a. subst (λ s. 0 ≡ line_in ((command_of exact asked).named s) s) (sym e) refl;
    rows_are = λ asked count a has. subst (λ s. 0 ≡ rows_of count s) (sym e) refl;
  }

-- ---- the clauses

module _ (commands : Commands) (law : IsLawful commands) where
  -- what the parts say is an answer to the words
  pub is_answer : (words contents : List (List ℕ)) (status : Status) (bytes message : List ℕ)
      → AnswersWords commands words contents status bytes message → IsAnswer commands words contents status
  is_answer words contents status bytes message (parted.asked r is (parted.not_read c u e b m)) =
      unread_answer commands law words contents r is c u status bytes message e b m
  is_answer words contents status bytes message (parted.asked r is (parted.answers_texts all h n)) =
      texts_answer commands law words contents r is all status bytes h
  is_answer words contents status bytes message (parted.asked r is (parted.wants_memory e b m)) = public.is_memory e
  is_answer words contents status bytes message (parted.unasked n e b m) = public.is_ending (public.unasked n e)
  is_answer words contents status bytes message (parted.no_memory e b m) = public.is_memory e

  -- its bytes are what is written
  pub holds : (words contents : List (List ℕ)) (status : Status) (bytes message : List ℕ)
      → AnswersWords commands words contents status bytes message → Holds (IsOutput commands words contents) status bytes
  holds words contents status bytes message (parted.asked r is (parted.not_read c u e b m)) =
      unread_holds commands law words contents r is c u status bytes message e b m
  holds words contents status bytes message (parted.asked r is (parted.answers_texts all h n)) =
      texts_hold commands law words contents r is all status bytes h
  holds words contents status bytes message (parted.asked r is (parted.wants_memory e b m)) =
      memory_holds commands words contents status bytes message e b m
  holds words contents status bytes message (parted.unasked n e b m) = public.nothing (no_output status Usage e refl) b
  holds words contents status bytes message (parted.no_memory e b m) = memory_holds commands words contents status bytes message e b m

  -- the ending that stands is answered
  pub complete : (words contents : List (List ℕ)) (status : Status) (bytes message : List ℕ)
      → AnswersWords commands words contents status bytes message → (ending : Status) → Ends commands words contents ending
      → IsAnsweredBy commands words contents ending status
  complete words contents status bytes message (parted.asked r is (parted.not_read c u e b m)) ending k =
      unread_complete commands law words contents r is c u status bytes message e b m ending k
  complete words contents status bytes message (parted.asked r is (parted.answers_texts all h n)) ending k =
      texts_complete commands law words contents r is all status bytes h ending k
  complete words contents status bytes message (parted.asked r is (parted.wants_memory e b m)) ending k = public.no_memory e
  complete words contents status bytes message (parted.unasked n e b m) ending (public.unasked i u) = public.given (e ∙ sym u)
  complete words contents status bytes message (parted.unasked n e b m) ending (public.not_read r c i k u) =
      absurd (no_request (request_of words) r n i)
  complete words contents status bytes message (parted.unasked n e b m) ending (public.decided asked a k) =
      absurd (no_request (request_of words) a.request n a.request_is)
  complete words contents status bytes message (parted.no_memory e b m) ending k = public.no_memory e

  -- and the message is that of the ending
  pub message_is : (words contents : List (List ℕ)) (status : Status) (bytes message : List ℕ)
      → AnswersWords commands words contents status bytes message → IsMessage exact words contents status message
  message_is words contents status bytes message (parted.asked r is (parted.not_read c u e b m)) =
      unread_message commands law words contents r is c u status bytes message e b m
  message_is words contents status bytes message (parted.asked r is (parted.answers_texts all h n)) =
      texts_message commands law words contents r is all status message n
  message_is words contents status bytes message (parted.asked r is (parted.wants_memory e b m)) =
      memory_message commands words contents status bytes message e b m
  message_is words contents status bytes message (parted.unasked n e b m) = record {
    line = 0;
    rows = 0;
    is_message = m;
    line_is = λ asked a. absurd (no_request (request_of words) a.request n a.request_is);
    rows_are = λ asked count a has. absurd (no_request (request_of words) a.request n a.request_is);
  }
  message_is words contents status bytes message (parted.no_memory e b m) =
      memory_message commands words contents status bytes message e b m
