-- Which file isn't read, by the loads that were made.
use Rattle.std.proofs.Common.{◌≡◌, ◌∙◌, ◌<◌, ◌≤◌, ◌++◌, ◌∷◌, ℕ, List, [], Option, false, true, sym, ap, length, append-nil, arith}
use Rattle.std.proofs.Common.{if◌then◌else◌}
use Rattle.std.specs.Prelude.{Some, None, nat_lt}
use Rattle.base_files.specs.Files.{Contents}
use Rattle.base_files.specs.Loads.{LoadedFile}
use Rattle.ask_files.specs.Files.{NamedFile, most_bytes, unread}
use Rattle.ask_files.specs.Loads.{AreRead, IsLong, contents_of}
use Rattle.ask_files.specs.declared.which.ReadCause.TheVariants.{Failed, TooLong}

not_over : (most n : ℕ) → n ≤ most → nat_lt most n ≡ false
not_over most n h = grind arith

over : (most n : ℕ) → most < n → nat_lt most n ≡ true
over most n h = grind arith

-- files that were read change nothing of which isn't
after_read : (told : Option Contents) (files : List NamedFile) (made : List LoadedFile) (left : List NamedFile) (more : List LoadedFile)
    → AreRead told files made left → unread files (contents_of (made ++ more)) ≡ unread left (contents_of more)
after_read told files [] left more h = ap (λ fs. unread fs (contents_of more)) h
after_read told [] (load ∷ made) left more h = absurd h
after_read told (file ∷ files) (load ∷ made) left more h =
    ap (λ b. if b then Some (TooLong file.0) else unread files (contents_of (made ++ more)))
    (not_over (most_bytes file.0) (length load.1) h.0.within)
    ∙ after_read told files made left more h.1

behind_read : (told : Option Contents) (files : List NamedFile) (made : List LoadedFile) (left : List NamedFile)
    → AreRead told files made left → unread files (contents_of made) ≡ unread left []
behind_read told files made left h =
    ap (λ loads. unread files (contents_of loads)) (sym (append-nil made)) ∙ after_read told files made left [] h

-- where all files were read, none isn't
pub unread_none : (told : Option Contents) (files : List NamedFile) (made : List LoadedFile) → AreRead told files made []
    → unread files (contents_of made) ≡ None
unread_none told files made h = behind_read told files made [] h

-- where those before a file were read, and no load was made of it, its load failed
pub unread_failed : (told : Option Contents) (files : List NamedFile) (made : List LoadedFile) (file : NamedFile) (left : List NamedFile)
    → AreRead told files made (file ∷ left) → unread files (contents_of made) ≡ Some (Failed file.0)
unread_failed told files made file left h = behind_read told files made (file ∷ left) h

-- where those before a file were read, and it is too long, it is so
pub unread_long : (told : Option Contents) (files : List NamedFile) (before : List LoadedFile) (long : LoadedFile) (file : NamedFile)
    (left : List NamedFile) → AreRead told files before (file ∷ left) → IsLong told file long
    → unread files (contents_of (before ++ long ∷ [])) ≡ Some (TooLong file.0)
unread_long told files before long file left h is =
    after_read told files before (file ∷ left) (long ∷ []) h
    ∙ ap (λ b. if b then Some (TooLong file.0) else unread left []) (over (most_bytes file.0) (length long.1) is.over)
