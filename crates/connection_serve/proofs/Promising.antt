-- Why a connection may be greeted, and then answered.
use Rattle.std.proofs.Common.{◌≡◌, ℕ, List, [], ◌++◌, Option, refl, ap, sym, ◌∙◌, subst, append-nil}
use Rattle.connection_serve.specs.Headline.{greeting}
use Rattle.connection_serve.specs.Promises.{MaySend, MayServe}
use Rattle.connection_writer.specs.Promises.{MayAnswer}
use Rattle.connection_writer.specs.Writing.{taken_texts}
use Rattle.link_handshake.specs.Replies.{reply_lines}
use Rattle.link_handshake.specs.Shakes.{Begun, Shaken, shake}
use Rattle.link_opening.specs.Opens.{Settles}
use Rattle.link_opening.specs.Replying.{MayReply}
use Rattle.pk_outside.proofs.Going.{fronts_begin, fronts_more, may_go_free}
use Rattle.pk_outside.specs.Allowing.{IsFree, MayFronts}
use Rattle.shared_authority.specs.Journals.{past_of}
use Rattle.shared_authority.specs.Lasting.{empty_journal}

-- the handshake may be replied to
pub greeting_may : (Allowed : List ℕ → Type 0) (held : Option (List ℕ)) (uid guid b n : ℕ) → MaySend Allowed held uid b n → MayReply Allowed held uid guid []
greeting_may Allowed held uid guid b n may = λ more. fronts_begin Allowed held (greeting uid guid more) (taken_texts [] b n) (may guid more [] 0 empty_journal tt refl)

-- after the replies to a handshake the messages may be written
pub answers_may : (Allowed : List ℕ → Type 0) (a c : Option (List ℕ)) (uid guid b n : ℕ) (read rest : List ℕ) → MaySend Allowed a uid b n → Settles uid guid read a c (λ more. Begun (rest ++ more)) → MayAnswer Allowed c b n
answers_may Allowed a c uid guid b n read rest may s = λ h collects journal licensed did.
    fronts_more Allowed a c (reply_lines guid s.replies) (taken_texts (past_of h) b n)
    (subst (λ (l : List ℕ). MayFronts Allowed a (l ++ taken_texts (past_of h) b n)) greeting_is (may guid read h collects journal licensed did)) s.wrote
  where
    greeting_is : greeting uid guid read ≡ reply_lines guid s.replies
    greeting_is = ap (λ (x : Shaken). reply_lines guid x.replies) (ap (shake uid) (sym (append-nil read)) ∙ s.answered [])

-- where any text is allowed any connection may be served
pub send_free : (Allowed : List ℕ → Type 0) (held : Option (List ℕ)) (uid b n : ℕ) → IsFree Allowed → MaySend Allowed held uid b n
send_free Allowed held uid b n free = λ guid read h collects journal licensed did front is. may_go_free Allowed held front free

pub serve_free : (Allowed : List ℕ → Type 0) → IsFree Allowed → MayServe Allowed
serve_free Allowed free = λ held uid b n none. send_free Allowed held uid b n free
