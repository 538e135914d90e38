-- Random words, and the texts of cookies.
use Rattle.std.specs.Prelude.{◌<◌, ◌^◌, ◌-◌, ◌+◌, ◌*◌, ◌==◌, ℕ, length, List, [], ◌∷◌, Option, Some, None, option_and_then, if◌then◌else◌}
use Rattle.pk_types.specs.Decimals.{decimal_up_to}
use Rattle.authority_model.specs.Cookies.{hex, cookie_text}
use Rattle.authority_model.specs.declared.verdict.Cookie.{Cookie}
use Rattle.audit_words.specs.declared.digits.Letters.TheVariants.{Lower}
use Rattle.audit_words.specs.declared.fault.Kind.TheVariants.{Value}
use Rattle.audit_words.specs.Codecs.{Plain, Codec, one}
use Rattle.audit_words.specs.Digits.{value_in}
use Rattle.audit_words.specs.Lines.{cut_at}

-- the value of a lower-case hexadecimal digit
abbrev pub hex_value : ℕ → Option ℕ
hex_value c = value_in Lower c

-- the number of some digits that stand behind those of a number
abbrev pub hex_after : ℕ → List ℕ → Option ℕ
hex_after n [] = Some n
hex_after n (c ∷ cs) = option_and_then (λ v. hex_after (n * 16 + v) cs) (hex_value c)

-- the number of 32 digits
abbrev pub salt_value : List ℕ → Option ℕ
salt_value w = if length w == 32 then hex_after 0 w else None

-- a random word: a number of 128 bits in 32 lower-case hexadecimal digits
abbrev pub salt : Codec ℕ
salt = one (λ n. Plain (hex 32 n)) Value salt_value (λ n. n < 2 ^ 128)

abbrev pub cookie_of : Option ℕ → Option ℕ → Option Cookie
cookie_of (Some n) (Some s) = Some (record { serial = n; salt = s })
cookie_of (Some n) None = None
cookie_of None s = None

abbrev pub cookie_of_parts : List ℕ × List ℕ → Option Cookie
cookie_of_parts x = cookie_of (decimal_up_to (2 ^ 64 - 1) x.0) (salt_value x.1)

abbrev pub cookie_value : List ℕ → Option Cookie
cookie_value w = option_and_then cookie_of_parts (cut_at 45 w)

-- a cookie, by its text
abbrev pub cookie : Codec Cookie
cookie = one (λ c. Plain (cookie_text c)) Value cookie_value (λ c. (c.serial < 2 ^ 64) × (c.salt < 2 ^ 128))
