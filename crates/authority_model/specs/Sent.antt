-- What was sent to a connection, and what of it another connection has collected. (Collecting is to be said by this; no contract cites it yet.)
use Rattle.std.specs.Prelude.{ℕ, ◌==◌, Bool, false, ◌&&◌, ◌||◌, if◌then◌else◌, List, [], ◌∷◌, ◌++◌, drop, filter, nat_lt}
use Rattle.authority_model.specs.declared.event.Event.{Event}
use Rattle.authority_model.specs.declared.event.Event.TheVariants.{Collect}
use Rattle.authority_model.specs.declared.message.Output.{Output}
use Rattle.authority_model.specs.Items.{Item, sent}
use Rattle.authority_model.specs.Peers.{departed, is_by}

-- the outputs to a connection in the order of the journal; the k-th of them, counted from 1, has the serial k
abbrev pub sent_to : List Item → ℕ → List Output
sent_to [] c = []
sent_to (i ∷ past) c = sent_to past c ++ filter (λ o. o.to == c) i.entry.outputs

-- whether an event takes the outputs to a connection
abbrev pub is_collect_of : ℕ → Event → Bool
is_collect_of c (Collect of) = of == c
is_collect_of c _ = false

-- how many of the outputs to a connection another one has collected: as many as there were at its last Collect of it
abbrev pub collected : List Item → ℕ → ℕ → ℕ
collected [] by c = 0
collected (i ∷ past) by c = if is_by by i && is_collect_of c i.entry.event then sent past c else collected past by c

-- the outputs to a connection that another one has not collected
abbrev pub batch : List Item → ℕ → ℕ → List Output
batch past by c = drop (collected past by c) (sent_to past c)

-- whether there is something to collect, or the connection has ended
abbrev pub is_ready : List Item → ℕ → ℕ → Bool
is_ready past by c = nat_lt (collected past by c) (sent past c) || departed past c
