-- Where the words of a line stop spelling a value, and the laws of a codec.
use Rattle.std.specs.Prelude.{◌≡◌, ℕ, List, ◌∷◌, ◌++◌, Ok, Err}
use Rattle.std.proofs.Common.{◌⊎◌}
use Rattle.audit_words.specs.declared.fault.Kind.{Kind}
use Rattle.audit_words.specs.declared.fault.Kind.TheVariants.{Count}
use Rattle.audit_words.specs.Codecs.{Piece, Codec, texts, kind_of}
use Rattle.audit_words.specs.Lines.{AreClean}

-- some value's words begin so, and this word comes next
pub record GoesOn {V : Type 0} (c : Codec V) (front : List Piece) (next : Piece) : Type 0 where
  pub value : V
  pub fits : c.fits value
  pub more : List Piece
  pub spelled : c.spell value ≡ front ++ next ∷ more

-- the words end where one is due, or one is there with which nothing goes on
abbrev pub StopsAt : {V : Type 0} → Codec V → List (List ℕ) → Kind → List Piece → Piece → Type 0
StopsAt c ws k front next = ((ws ≡ texts front) × (k ≡ Count))
    ⊎ ((w : List ℕ) × (rest : List (List ℕ)) × (ws ≡ texts front ++ w ∷ rest) × (k ≡ kind_of next)
    × ((after : List (List ℕ)) → c.take (texts front ++ w ∷ after) ≡ Err k))

-- the first fault of the words, which are read from left to right
pub record Stops {V : Type 0} (c : Codec V) (ws : List (List ℕ)) (k : Kind) : Type 0 where
  pub front : List Piece
  pub next : Piece
  pub goes_on : GoesOn c front next
  pub at : StopsAt c ws k front next

-- The words begin with those of this value, which fits, and of which none has a space or LF.
pub record Found {V : Type 0} (c : Codec V) (ws : List (List ℕ)) (x : V × List (List ℕ)) : Type 0 where
  pub whole : ws ≡ texts (c.spell x.0) ++ x.1
  pub fits : c.fits x.0
  pub clean : AreClean (c.spell x.0)

-- What is spelled is read, whatever follows; what is read is spelled so; and a fault is where the words stop.
pub record Lawful {V : Type 0} (c : Codec V) : Type 0 where
  pub some : V
  pub some_fits : c.fits some
  pub again : (v : V) (rest : List (List ℕ)) → c.fits v → c.take (texts (c.spell v) ++ rest) ≡ Ok (v, rest)
  pub found : (ws : List (List ℕ)) (x : V × List (List ℕ)) → c.take ws ≡ Ok x → Found c ws x
  pub stops : (ws : List (List ℕ)) (k : Kind) → c.take ws ≡ Err k → Stops c ws k
