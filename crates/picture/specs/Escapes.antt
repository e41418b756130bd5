-- Texts as XML has them.
use Rattle.std.specs.Prelude.{ℕ, ◌+◌, Bool, ◌&&◌, ◌||◌, ◌==◌, nat_le, if◌then◌else◌, List, codes, encode_utf8}
use Rattle.std.specs.List.{flat_map}

-- whether a character is one of those from the first to the last
abbrev pub is_from : ℕ → ℕ → ℕ → Bool
is_from first last character = nat_le first character && nat_le character last

-- whether it is a control character, ends a line, turns the direction of the text, or is none that XML has
abbrev pub is_hidden : ℕ → Bool
is_hidden character =
    is_from 0x0 0x1f character || is_from 0x7f 0x9f character || is_from 0xfffe 0xffff character
    || (character == 0x61c) || is_from 0x200e 0x200f character || is_from 0x2028 0x202e character || is_from 0x2066 0x2069 character

-- whether it is a tab or ends a line
abbrev pub is_blank : ℕ → Bool
is_blank character = character == 0x9 || (character == 0xa) || (character == 0xd)

-- what is shown of a character: a sign for a tab and for the end of a line, U+FFFD for what is hidden, and else itself
abbrev pub shown : ℕ → ℕ
shown character = if is_blank character then 0x2400 + character else (if is_hidden character then 0xfffd else character)

-- how a character stands between tags or in an attribute
abbrev pub escape : ℕ → List ℕ
escape character =
    if character == 38 then codes "&amp;" else
    (if character == 60 then codes "&lt;" else
    (if character == 62 then codes "&gt;" else
    (if character == 34 then codes "&quot;" else
    (if character == 39 then codes "&apos;" else encode_utf8 character))))

-- how the characters of a text stand there
abbrev pub escaped : List ℕ → List ℕ
escaped text = flat_map (λ character. escape (shown character)) text
