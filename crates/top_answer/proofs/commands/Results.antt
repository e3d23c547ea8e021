-- What results of texts say of a command.
use Rattle.std.proofs.Common.{inr, ℕ, List, [], refl, sym, subst₂}
use Rattle.std.specs.Prelude.{IfOk, IfErr, Result, Ok, Err, Vec}
use Rattle.std.specs.declared.alloc.Global.{Global}
use Rattle.top_answer.specs.Commands.{Command, asking}
use Rattle.top_answer.specs.Outcomes.{HasOutcome, Says}
use Rattle.top_status.specs.declared.status.Status.{Status}
use Rattle.top_status.specs.declared.status.Status.TheVariants.{Done}
use Rattle.top_texts.specs.Outcomes.{IsUnanswered, refused}
use Rattle.top_texts.specs.Questions.{Question, is_refused}
use Rattle.top_texts.specs.declared.refusal.Refusal.{Refusal}
use Rattle.top_texts.specs.declared.refusal.Refusal.TheVariants as refusal

-- bytes that are written, and a refusal that says why there are none, say it of the command
pub outcome_says : (c : Command) (r : Result (Vec ℕ Global) Refusal) (s : Status) (bytes : List ℕ)
    → IfOk r (λ made. c.writes Done made.items) → IfErr r (λ x. Says c (refused x) []) → HasOutcome r s bytes → Says c s bytes
outcome_says c (Ok made) s bytes ok err (e, i) = subst₂ (λ x b. Says c x b) (sym e) (sym i) ok
outcome_says c (Err x) s bytes ok err (e, i) = subst₂ (λ x b. Says c x b) (sym e) (sym i) err

-- what is so of a refusal, by what follows of it
pub err_map : {A : Type 0} (P Q : Refusal → Type 0) (f : (x : Refusal) → P x → Q x) (r : Result A Refusal) → IfErr r P → IfErr r Q
err_map P Q f (Ok made) h = tt
err_map P Q f (Err x) h = f x h

-- what is so of bytes, by what follows of it
pub ok_map : (P Q : List ℕ → Type 0) (f : (bytes : List ℕ) → P bytes → Q bytes) (r : Result (Vec ℕ Global) Refusal)
    → IfOk r (λ made. P made.items) → IfOk r (λ made. Q made.items)
ok_map P Q f (Ok made) h = f made.items h
ok_map P Q f (Err x) h = tt

-- ---- questions

-- a refusal of a question says its cause of the command that asks it
pub question_says : (q : Question) (writes : List ℕ → Type 0) (x : Refusal) → IsUnanswered q x → Says (asking q writes) (refused x) []
question_says q writes (refusal.Text cause) h = (is_refused cause refl h, refl)
question_says q writes (refusal.Certificate cause) h = absurd h
question_says q writes (refusal.Exceeded excess) h = (inr h, refl)
question_says q writes (refusal.Spent n) h = (h, refl)
question_says q writes refusal.NoMemory h = refl

-- the result of a question says it of the command that asks it
pub answered : (q : Question) (writes : List ℕ → Type 0) (r : Result (Vec ℕ Global) Refusal) (s : Status) (bytes : List ℕ)
    → IfOk r (λ made. writes made.items) → IfErr r (λ x. IsUnanswered q x) → HasOutcome r s bytes → Says (asking q writes) s bytes
answered q writes r s bytes ok err h = outcome_says (asking q writes) r s bytes ok
    (err_map (λ x. IsUnanswered q x) (λ x. Says (asking q writes) (refused x) []) (question_says q writes) r err) h
