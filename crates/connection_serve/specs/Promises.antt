-- What a connection may be sent from its first byte on, at each moment and whatever comes later.
use Rattle.std.specs.Prelude.{ℕ, List, ◌++◌, Option}
use Rattle.authority_model.specs.declared.journal.Item.{Item}
use Rattle.authority_model.specs.Licensed.{AllLicensed}
use Rattle.connection_laws.specs.Doings.{Did}
use Rattle.connection_serve.specs.Headline.{greeting}
use Rattle.connection_writer.specs.Writing.{collects_of, taken_texts}
use Rattle.pk_outside.specs.Allowing.{MayFronts}
use Rattle.pk_outside.specs.Streams.{IsUsedUp}
use Rattle.shared_authority.specs.Journals.{IsJournal, past_of}

-- Where this is held, each prefix of a talk with the connection n of this user may be written: the replies to some handshake, and then the messages to n that b has taken of some journal, in which each yes is licensed and b did nothing but collect for n.
abbrev pub MaySend : (List ℕ → Type 0) → Option (List ℕ) → ℕ → ℕ → ℕ → Type 0
MaySend Allowed held uid b n = (guid : ℕ) (read : List ℕ) (h : List Item) (collects : ℕ) → IsJournal h → AllLicensed (past_of h) → Did b (past_of h) (collects_of b n collects)
    → MayFronts Allowed held (greeting uid guid read ++ taken_texts (past_of h) b n)

-- Any connection may be served at a link to whose other side nothing was written yet.
abbrev pub MayServe : (List ℕ → Type 0) → Type 0
MayServe Allowed = (held : Option (List ℕ)) (uid b n : ℕ) → IsUsedUp held → MaySend Allowed held uid b n
