-- White space and comments between elements, apart from any reading.
use Rattle.std.specs.Prelude.{◌≡◌, ℕ, true, List, [], ◌∷◌, ◌++◌, codes}
use Rattle.xml_pieces.specs.Bytes.{is_space}
use Rattle.xml_pieces.specs.Children.{Next, Child, End}
use Rattle.action_xml.specs.TextForm.{IsWhite, IsName, NoDashes, comment_bytes}

-- between elements: a byte of white space, or a comment
pub data Gap : Type 0 where
  Space : (b : ℕ) → Gap
  Comment : (inside : List ℕ) → Gap

abbrev pub gap_bytes : Gap → List ℕ
gap_bytes (Space b) = b ∷ []
gap_bytes (Comment inside) = comment_bytes inside

abbrev pub IsGap : Gap → Type 0
IsGap (Space b) = is_space b ≡ true
IsGap (Comment inside) = NoDashes inside

abbrev pub gaps_bytes : List Gap → List ℕ
gaps_bytes [] = []
gaps_bytes (g ∷ gaps) = gap_bytes g ++ gaps_bytes gaps

abbrev pub AreGaps : List Gap → Type 0
AreGaps [] = Unit {0}
AreGaps (g ∷ gaps) = IsGap g × AreGaps gaps

-- what stands behind them: the element that begins there, by its name, or the end tag of the parent
abbrev pub IsNext : List ℕ → Next → List ℕ → Type 0
IsNext parent (Child n place rest) here = (place ≡ here) × IsName n × (here ≡ 60 ∷ (n ++ rest))
IsNext parent (End rest) here = (white : List ℕ) × IsWhite white × (here ≡ codes "</" ++ (parent ++ (white ++ 62 ∷ rest)))
