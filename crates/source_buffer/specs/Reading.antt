-- What a reader of lines gives.
use Rattle.std.specs.Prelude.{◌≡◌, ◌≢◌, ℕ, ◌+◌, ◌≤◌, Bool, IsTrue, List, [], ◌∷◌, ◌++◌, length}
use Rattle.pk_types.specs.Pieces.{Lacks}
use Rattle.source_buffer.specs.declared.lines.LineRead.{LineRead}
use Rattle.source_buffer.specs.declared.lines.LineRead.TheVariants as got
use Rattle.source_buffer.specs.declared.lines.Piece.{Piece}
use Rattle.source_buffer.specs.declared.lines.Piece.TheVariants as of_piece

-- The line stands before the first LF, and behind that LF stands what is kept.
pub record TakesLine (max : ℕ) (bytes kept line : List ℕ) : Type 0 where
  pub whole : bytes ≡ line ++ 10 ∷ kept
  pub lacks : Lacks 10 line
  pub short : length line ≤ max

-- The line is all of the bytes, up to the end of the source.
pub record TakesLast (max : ℕ) (ended : Bool) (bytes kept line : List ℕ) : Type 0 where
  pub whole : bytes ≡ line
  pub lacks : Lacks 10 line
  pub short : length line ≤ max
  pub some : line ≢ []
  pub none_kept : kept ≡ []
  pub at_end : IsTrue ended

-- There were no bytes, up to the end of the source.
pub record TakesNone (ended : Bool) (bytes kept line : List ℕ) : Type 0 where
  pub whole : bytes ≡ []
  pub empty : line ≡ []
  pub none_kept : kept ≡ []
  pub at_end : IsTrue ended

-- The line is the front of one that is longer than the maximum: one byte more than that.
pub record TakesTooMany (max : ℕ) (bytes kept line : List ℕ) : Type 0 where
  pub whole : bytes ≡ line ++ kept
  pub lacks : Lacks 10 line
  pub long : length line ≡ max + 1

-- The line is a front of one, which may go on.
pub record TakesFront (max : ℕ) (bytes kept line : List ℕ) : Type 0 where
  pub whole : bytes ≡ line ++ kept
  pub lacks : Lacks 10 line
  pub short : length line ≤ max

-- From the bytes that were kept before and those that were read this line was taken, and these are
-- kept now. Where the source failed nothing is kept: the line is all that stands before the fault.
abbrev pub Takes : ℕ → Bool → List ℕ → List ℕ → List ℕ → LineRead → Type 0
Takes max ended bytes kept line got.Line = TakesLine max bytes kept line
Takes max ended bytes kept line got.Last = TakesLast max ended bytes kept line
Takes max ended bytes kept line got.End = TakesNone ended bytes kept line
Takes max ended bytes kept line got.TooLong = TakesTooMany max bytes kept line
Takes max ended bytes kept line got.ReadFault = TakesFront max bytes kept line × (kept ≡ [])
Takes max ended bytes kept line got.NoMemory = TakesFront max bytes kept line

-- The bytes begin with a piece without LF, by which the line grew.
pub record Grows (bytes behind line longer : List ℕ) : Type 0 where
  pub piece : List ℕ
  pub whole : bytes ≡ piece ++ behind
  pub grown : longer ≡ line ++ piece
  pub lacks : Lacks 10 piece

-- What stands before the next LF was put behind the line, up to one byte above the maximum.
abbrev pub TakesPiece : ℕ → List ℕ → List ℕ → List ℕ → List ℕ → Piece → Type 0
TakesPiece max bytes kept line longer of_piece.Ended = Grows bytes (10 ∷ kept) line longer × (length longer ≤ max)
TakesPiece max bytes kept line longer of_piece.TooLong = Grows bytes kept line longer × (length longer ≡ max + 1)
TakesPiece max bytes kept line longer of_piece.Open = Grows bytes kept line longer × (length longer ≤ max) × (kept ≡ [])
