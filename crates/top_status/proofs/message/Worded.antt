-- Endings whose message is made of words and a number.
use Rattle.std.proofs.Common.{◌≡◌, ℕ, refl}
use Rattle.top_status.specs.Messages.{line_text, message_of, words_of}
use Rattle.top_status.specs.declared.status.CertCause.{CertCause}
use Rattle.top_status.specs.declared.status.Excess.{Excess}
use Rattle.top_status.specs.declared.status.Status.{Status}
use Rattle.top_status.specs.declared.status.Status.TheVariants.{Done, Open, Certificate, Usage, Read, Text, Exceeded, Spent, Memory, Write}

-- all but those of refused certificates and of what exceeds exact work
pub plain_one : (line rows : ℕ) (s : Status) → ((x : CertCause) → s ≡ Certificate x → ⊥) → ((x : Excess) → s ≡ Exceeded x → ⊥)
    → line_text (words_of line s) ≡ message_of line rows s
plain_one line rows Done c e = refl
plain_one line rows Open c e = refl
plain_one line rows (Certificate cause) c e = absurd (c cause refl)
plain_one line rows Usage c e = refl
plain_one line rows (Read cause) c e = refl
plain_one line rows (Text cause) c e = refl
plain_one line rows (Exceeded excess) c e = absurd (e excess refl)
plain_one line rows (Spent n) c e = refl
plain_one line rows Memory c e = refl
plain_one line rows Write c e = refl
