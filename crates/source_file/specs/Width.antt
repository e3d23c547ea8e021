-- Which variables a function declares, told by its tokens one by one, and how many these are.
use Rattle.std.specs.Prelude.{ℕ, zero, suc, ◌++◌, ◌&&◌, not, Bool, true, false, List, [], ◌∷◌, if◌then◌else◌}
use Rattle.source_grammar.specs.Tokens.{times_op, Kind, a_name, infix_sign, comma, semicolon, int_word, const_word, left_paren, right_paren}
use Rattle.source_grammar.specs.Tokens.{left_brace, right_brace, left_bracket, right_bracket, Token, token}
use Rattle.source_file.specs.declared.width.Place.{Place}
use Rattle.source_file.specs.declared.width.Place.TheVariants.{Heading, Elsewhere, Declaring, Behind}

-- behind a bracket that closes in so many others
abbrev pub closed : ℕ → Place
closed zero = Elsewhere
closed (suc d) = Behind d

-- behind a comma in so many brackets
abbrev pub parted : ℕ → Place
parted zero = Declaring
parted (suc d) = Behind (suc d)

-- behind a token that stands behind a declared name, in so many brackets
abbrev pub behind : Kind → ℕ → Place
behind left_paren d = Behind (suc d)
behind left_bracket d = Behind (suc d)
behind left_brace d = Behind (suc d)
behind right_paren d = closed d
behind right_bracket d = closed d
behind right_brace d = closed d
behind comma d = parted d
behind semicolon d = Elsewhere
behind k d = Behind d

-- behind a token that stands before the parameters
abbrev pub in_heading : Kind → Place
in_heading left_paren = Elsewhere
in_heading k = Heading

-- behind a token that stands in no declaration
abbrev pub elsewhere : Kind → Place
elsewhere int_word = Declaring
elsewhere k = Elsewhere

-- behind a token that stands before a declared name, which a `*` makes an array
abbrev pub declaring : Kind → Place
declaring int_word = Declaring
declaring const_word = Declaring
declaring (a_name x) = Behind 0
declaring (infix_sign times_op) = Behind 0
declaring k = Elsewhere

-- behind a token at a place
abbrev pub next : Place → Kind → Place
next Heading k = in_heading k
next Elsewhere k = elsewhere k
next Declaring k = declaring k
next (Behind d) k = behind k d

-- a token is a name
abbrev pub is_name : Kind → Bool
is_name (a_name x) = true
is_name k = false

-- the text of a name
abbrev pub text_of : Kind → List ℕ
text_of (a_name x) = x.text
text_of k = []

-- a token is a `[`
abbrev pub is_bracket : Kind → Bool
is_bracket left_bracket = true
is_bracket k = false

-- the first of these tokens is
abbrev pub begins_bracket : List Token → Bool
begins_bracket [] = false
begins_bracket (token k a ∷ ts) = is_bracket k

-- the token is a name that is declared there
abbrev pub names : Place → Kind → Bool
names Heading k = false
names Elsewhere k = false
names Declaring k = is_name k
names (Behind d) k = false

-- the variable that a token with these behind it declares: a declared name is one where no `[` stands behind it
abbrev pub declared_by : Place → Kind → List Token → List (List ℕ)
declared_by p k ts = if names p k && not (begins_bracket ts) then text_of k ∷ [] else []

-- the variables that these tokens declare, the first of which stands at a place
abbrev pub declared_from : Place → List Token → List (List ℕ)
declared_from p [] = []
declared_from p (token k a ∷ ts) = declared_by p k ts ++ declared_from (next p k) ts

-- in how many brackets a place is
abbrev pub depth_of : Place → ℕ
depth_of Heading = 0
depth_of Elsewhere = 0
depth_of Declaring = 0
depth_of (Behind d) = d
