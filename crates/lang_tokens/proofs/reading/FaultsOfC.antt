-- What the faults of C files are.
use Rattle.std.proofs.Common.{◌≡◌, ℕ, List, true, refl}
use Rattle.lang_tokens.specs.declared.lexicon.Lexicon.TheVariants.{C}
use Rattle.lang_tokens.specs.declared.before.Before.{Before}
use Rattle.lang_tokens.specs.declared.before.Before.TheVariants.{Blanks}
use Rattle.lang_tokens.specs.declared.fault.LexFault.{LexFault}
use Rattle.lang_tokens.specs.declared.fault.LexFault.TheVariants.{BadByte, OpenComment, LongNumber, LongName, BadNumber, NoMemory}
use Rattle.lang_tokens.specs.Reading.{behind_all}
use Rattle.lang_tokens.specs.Faults.{Stands, HasFault, is_byte_or_comment}
use Rattle.lang_tokens.proofs.lexemes.Openings.{lenient}

standing_fault : (fault : LexFault) (before : Before) (place : ℕ) (rest : List ℕ) → Stands C fault before place rest
    → is_byte_or_comment fault ≡ true
standing_fault (BadByte at) before place rest s = refl
standing_fault (OpenComment at) before place rest s = refl
standing_fault (LongNumber at) before place rest s = absurd (lenient before s.1)
standing_fault (LongName at) before place rest s = absurd (lenient before s.1)
standing_fault (BadNumber at) before place rest s = absurd (lenient before s.1)
standing_fault NoMemory before place rest s = absurd s

-- they are bad bytes and open comments
pub fault_of_c : (text : List ℕ) (fault : LexFault) → HasFault C text fault → is_byte_or_comment fault ≡ true
fault_of_c text fault h = standing_fault fault (behind_all Blanks h.reads.pieces) h.place h.rest h.stands
