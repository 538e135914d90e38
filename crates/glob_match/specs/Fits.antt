-- How far a pattern fits a text, on lists of Unicode scalars.
use Rattle.std.specs.Prelude.{◌≡◌, ◌≢◌, ℕ, ◌<◌, true, false, List, [], ◌∷◌, ◌++◌, length}
use Rattle.std.specs.Str.{chars}
use Rattle.glob_match.specs.Glob.{glob, some_suffix}
use Rattle.glob_match.specs.declared.walk.Outcome.{Outcome}
use Rattle.glob_match.specs.declared.walk.Outcome.TheVariants.{Whole, Star, Differs}

-- no scalar is a star (42)
abbrev pub NoStar : List ℕ → Type 0
NoStar [] = Unit {0}
NoStar (c ∷ s) = (c ≢ 42) × NoStar s

-- The pattern is a word without stars and then behind; the text is a part as long as the word and then rest; and the text is in the pattern exactly where rest is in behind.
pub record Fitted (pattern text behind rest : List ℕ) : Type 0 where
  pub word : List ℕ
  pub part : List ℕ
  pub pattern_is : pattern ≡ word ++ behind
  pub text_is : text ≡ part ++ rest
  pub as_long : length word ≡ length part
  pub no_star : NoStar word
  pub same : glob pattern text ≡ glob behind rest

-- what a pattern comes to, laid against the front of a text
abbrev pub FitIs : List ℕ → List ℕ → Outcome → Type 0
FitIs pattern text Whole = glob pattern text ≡ true
FitIs pattern text (Star behind rest) = Fitted pattern text (42 ∷ chars behind.now) (chars rest.now)
FitIs pattern text Differs = glob pattern text ≡ false

-- what a pattern comes to, laid against the suffixes of a text: the star that is reached decides in its place
abbrev pub FirstFitIs : List ℕ → List ℕ → Outcome → Type 0
FirstFitIs pattern text Whole = some_suffix (glob pattern) text ≡ true
FirstFitIs pattern text (Star behind rest) = some_suffix (glob pattern) text ≡ some_suffix (glob (chars behind.now)) (chars rest.now)
FirstFitIs pattern text Differs = some_suffix (glob pattern) text ≡ false

-- what stands behind the star is shorter than the pattern
abbrev pub ShorterPattern : List ℕ → Outcome → Type 0
ShorterPattern pattern (Star behind rest) = length behind.now < length pattern
ShorterPattern pattern Whole = Unit {0}
ShorterPattern pattern Differs = Unit {0}
