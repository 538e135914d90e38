-- A pass that goes on knows no less.
use Rattle.std.proofs.Common.{◌≡◌, List, [], ◌∷◌, ◌++◌, refl, ◌∙◌, arith}
use Rattle.std.proofs.lemmas.List.{reverse-append}
use Rattle.history_lock.specs.Known.{Known}
use Rattle.history_lock.specs.Calls.{Learned}
use Rattle.history_lock.proofs.Prefixes.{prefix_self, prefix_trans}
use Rattle.history_lock.proofs.Growth.{grown_begin, others_begin}
use Rattle.authority_model.specs.declared.journal.Item.{Item}
use Rattle.authority_model.specs.Given.{Given}
use Rattle.shared_authority.specs.Journals.{IsJournal, caller_of, past_of}
use Rattle.shared_authority.specs.Passes.{Entered}
use Rattle.connection_laws.specs.Knowing.{KnowsMore}

-- the history of a list with one item more
pub past_snoc : (h : List Item) (i : Item) → past_of (h ++ i ∷ []) ≡ i ∷ past_of h
past_snoc h i = reverse-append h (i ∷ [])

-- a pass that stands as it stood
pub knows_self : (v : Known Item) → IsJournal v.history → KnowsMore v v
knows_self v journal = record { number = refl; begins = prefix_self v.history; made = omega arith; journal = journal }

pub knows_trans : (u v w : Known Item) → KnowsMore u v → KnowsMore v w → KnowsMore u w
knows_trans u v w a b = record {
  number = b.number ∙ a.number;
  begins = prefix_trans u.history v.history w.history a.begins b.begins;
  made = (let x = a.made in let y = b.made in omega (arith, x, y));
  journal = b.journal;
}

-- others' items came
pub knows_learned : (v w : Known Item) → Learned caller_of IsJournal v w → KnowsMore v w
knows_learned v w l = record {
  number = l.number;
  begins = others_begin caller_of v.number v.history w.history l.others;
  made = l.made;
  journal = l.legal;
}

-- and then the pass's own
pub knows_entered : (v : Known Item) (g : Given) (w : Known Item) → Entered v g w → KnowsMore v w
knows_entered v g w e = record {
  number = e.learned.number;
  begins = grown_begin caller_of v.history w.history v.number e.item e.learned.grown;
  made = e.learned.made;
  journal = e.learned.legal;
}
