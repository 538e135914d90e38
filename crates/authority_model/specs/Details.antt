-- The details that a verdict is sent with, as keys and values.
use Rattle.std.specs.Prelude.{ℕ, Bool, if◌then◌else◌, List, [], ◌∷◌, ◌++◌, Option, codes}
use Rattle.std.specs.Option.{option_map_or}
use Rattle.pk_types.specs.declared.values.Pair.{Pair}
use Rattle.authority_model.specs.declared.verdict.Reason.{Reason}
use Rattle.authority_model.specs.declared.verdict.Verdict.{Verdict}
use Rattle.authority_model.specs.Words.{Bytes}
use Rattle.authority_model.specs.Cookies.{grant_text}
use Rattle.authority_model.specs.Reasons.{reason_text}

-- one detail
abbrev pub detail : Bytes → Bytes → List Pair
detail key value = record { key = key; value = value } ∷ []

-- why the verdict is what it is
abbrev pub decided_by : Reason → List Pair
decided_by reason = detail (codes "polkit.decided-by") (reason_text reason)

-- that the user dismissed the dialogue
abbrev pub dismissed_detail : Reason → List Pair
dismissed_detail Reason.Dismissed = detail (codes "polkit.dismissed") (codes "true")
dismissed_detail _ = []

-- that a challenge would make a grant
abbrev pub keep_detail : Bool → List Pair
keep_detail keep = if keep then detail (codes "polkit.retains_authorization_after_challenge") (codes "1") else []

-- the grant that was made
abbrev pub grant_detail : Option ℕ → List Pair
grant_detail grant = option_map_or (λ n. detail (codes "polkit.temporary_authorization_id") (grant_text n)) grant []

-- All details of a verdict, in their order; the pairs of the rule that decided come last. (Messages are to be written by this; no contract cites it yet.)
abbrev pub details_of : Verdict → List Pair
details_of v = decided_by v.reason ++ dismissed_detail v.reason ++ keep_detail v.keep ++ grant_detail v.grant ++ v.pairs
