-- The text that a locale chooses.
use Rattle.std.specs.List.{before_first}
use Rattle.std.specs.Prelude.{◌==◌, ◌||◌, List, [], Option, option_map, bytes_eq, find}
use Rattle.authority_model.specs.declared.policy.Localized.{Localized}
use Rattle.authority_model.specs.Lists.{or_else}
use Rattle.authority_model.specs.Words.{Bytes}

-- a locale without its encoding and its modifier: what stands before its first `.` or `@`
abbrev pub language_of : Bytes → Bytes
language_of locale = before_first (λ b. (b == 46) || (b == 64)) locale

-- a language without its territory: what stands before its first `_`
abbrev pub without_territory : Bytes → Bytes
without_territory language = before_first (λ b. b == 95) language

-- the first text in a language
abbrev pub in_language : List Localized → Bytes → Option Bytes
in_language texts lang = option_map (λ l. l.text) (find (λ l. bytes_eq l.lang lang) texts)

-- the text for a language: in it, or else in it without its territory, or else the one without a language
abbrev pub for_language : List Localized → Bytes → Option Bytes
for_language texts language = or_else (in_language texts language) (or_else (in_language texts (without_territory language)) (in_language texts []))

-- the text for a locale
abbrev pub localized_text : List Localized → Bytes → Option Bytes
localized_text texts locale = for_language texts (language_of locale)
