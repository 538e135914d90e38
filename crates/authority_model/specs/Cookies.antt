-- The texts of cookies and of grants.
use Rattle.std.specs.Prelude.{ℕ, ◌+◌, ◌/◌, ◌%◌, zero, suc, if◌then◌else◌, [], ◌∷◌, ◌++◌, decimal, codes, nat_lt}
use Rattle.authority_model.specs.declared.verdict.Cookie.{Cookie}
use Rattle.authority_model.specs.Words.{Bytes}

-- the lower-case hexadecimal digit of a number below 16
abbrev pub hex_digit : ℕ → ℕ
hex_digit n = if nat_lt n 10 then 48 + n else 87 + n

-- the last hexadecimal digits of a number, as many as are asked for
unfoldable pub hex : ℕ → ℕ → Bytes
hex zero n = []
hex (suc k) n = hex k (n / 16) ++ hex_digit (n % 16) ∷ []

-- the text of a cookie: its serial, a dash, and its salt in 32 hexadecimal digits
abbrev pub cookie_text : Cookie → Bytes
cookie_text cookie = decimal cookie.serial ++ codes "-" ++ hex 32 cookie.salt

-- the text of a grant's number
abbrev pub grant_text : ℕ → Bytes
grant_text n = codes "tmpauthz" ++ decimal n
