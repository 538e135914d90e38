-- The administrators' files that count have no faulty item.
use Rattle.std.proofs.Common.{◌≡◌, ℕ, ◌+◌, Bool, true, false, List, [], ◌∷◌, ◌++◌, map, Option, Some, None, Result, Ok, Err, refl, ap, ◌∙◌}
use Rattle.std.specs.Prelude.{if◌then◌else◌, option_map, option_and_then}
use Rattle.pk_outside.specs.declared.tree.FileBytes.{FileBytes}
use Rattle.pk_outside.specs.declared.tree.FileBytes.TheVariants as file
use Rattle.authority_model.specs.Lists.{or_else}
use Rattle.authority_model.specs.Words.{Bytes}
use Rattle.authority_model.specs.declared.policy.Action.{Action}
use Rattle.keyfile_text.specs.KeyFiles.{groups_of}
use Rattle.keyfile_text.specs.declared.fault.KeyFault.{KeyFault}
use Rattle.keyfile_text.specs.declared.groups.KeyGroup.{KeyGroup}
use Rattle.action_xml.specs.Files.{actions_of}
use Rattle.action_xml.specs.declared.fault.XmlFault.{XmlFault}
use Rattle.pkla_files.specs.Faults.{first_fault as first_pkla_fault}
use Rattle.pkla_files.specs.declared.fault.PklaFault.{PklaFault}
use Rattle.admin_identities.specs.Configured.{configured, faulty_place, file_fault, fault_from, first_fault}
use Rattle.admin_identities.specs.declared.fault.AdminFault.{AdminFault}
use Rattle.admin_identities.specs.declared.fault.AdminFault.TheVariants as admin
use Rattle.policy_load.specs.Findings.{actions_found, admins_found, admins_found_in, entries_found, entries_found_in, found_in}
use Rattle.policy_load.specs.Joins.{has_id, with_action, with_actions, with_finding, with_findings, nothing_joined, again, with_fault}
use Rattle.policy_load.specs.Kept.{found_with}
use Rattle.policy_load.specs.declared.files.finding.Finding.{Finding}
use Rattle.policy_load.specs.declared.files.finding.Finding.TheVariants as finding
use Rattle.policy_load.specs.declared.files.joined.Joined.{Joined}
use Rattle.policy_load.specs.declared.files.reading.TurnFile.{TurnFile}
use Rattle.policy_load.specs.declared.order.turn.FileKind.{FileKind}
use Rattle.policy_load.specs.declared.order.turn.FileKind.TheVariants as kind
use Rattle.policy_load.specs.declared.order.turn.Turn.{Turn}
use Rattle.policy_load.specs.declared.order.turn.Turn.TheVariants as turn
use Rattle.policy_load.specs.Loads.{joined}

map_none : {A B : Type 0} (f : A → B) (o : Option A) → option_map f o ≡ None → o ≡ None
map_none f None e = refl
map_none f (Some a) e = absurd (cc)

both_none : {A : Type 0} (o other : Option A) → or_else o other ≡ None → (o ≡ None) × (other ≡ None)
both_none None other e = (refl, e)
both_none (Some a) other e = absurd (cc)

-- a file without a fault has none at any place
at_any_place : (n : ℕ) (items : Option (List Bytes)) → file_fault 0 items ≡ None → file_fault n items ≡ None
at_any_place n items e = ap (option_map (λ item. admin.BadIdentity n item)) (map_none (λ item. admin.BadIdentity 0 item) (option_and_then faulty_place items) e)

one_more : (n : ℕ) (confs : List (List KeyGroup)) (groups : List KeyGroup) → fault_from n confs ≡ None → first_fault (groups ∷ []) ≡ None → fault_from n (confs ++ groups ∷ []) ≡ None
one_more n [] groups none good = ap (λ o. or_else o None) (at_any_place n (configured groups) (both_none (file_fault 0 (configured groups)) None good).0)
one_more n (conf ∷ confs) groups none good =
    let both = both_none (file_fault n (configured conf)) (fault_from (n + 1) confs) none in
    ap (λ o. or_else o (fault_from (n + 1) (confs ++ groups ∷ []))) both.0 ∙ one_more (n + 1) confs groups both.1 good

-- a finding of administrators has no fault
abbrev IsGood : Finding → Type 0
IsGood finding.Nothing = Unit {0}
IsGood (finding.Skipped fault) = Unit {0}
IsGood (finding.Actions path actions) = Unit {0}
IsGood (finding.Admins groups) = first_fault (groups ∷ []) ≡ None
IsGood (finding.Entries entries) = Unit {0}

good_actions : (path : Bytes) (r : Result (List Action) XmlFault) → IsGood (actions_found path r)
good_actions path (Ok actions) = tt
good_actions path (Err fault) = tt

good_entries_in : (path : Bytes) (groups : List KeyGroup) (o : Option PklaFault) → IsGood (entries_found_in path groups o)
good_entries_in path groups None = tt
good_entries_in path groups (Some fault) = tt

good_entries : (path : Bytes) (r : Result (List KeyGroup) KeyFault) → IsGood (entries_found path r)
good_entries path (Ok groups) = good_entries_in path groups (first_pkla_fault groups)
good_entries path (Err fault) = tt

good_admins_in : (path : Bytes) (groups : List KeyGroup) (o : Option AdminFault) → first_fault (groups ∷ []) ≡ o → IsGood (admins_found_in path groups o)
good_admins_in path groups None e = e
good_admins_in path groups (Some (admin.BadIdentity file item)) e = tt
good_admins_in path groups (Some admin.NoMemory) e = tt

good_admins : (path : Bytes) (r : Result (List KeyGroup) KeyFault) → IsGood (admins_found path r)
good_admins path (Ok groups) = good_admins_in path groups (first_fault (groups ∷ [])) refl
good_admins path (Err fault) = tt

good_in : (k : FileKind) (path : Bytes) (bytes : FileBytes) → IsGood (found_in k path bytes)
good_in k path file.Absent = tt
good_in k path file.TooLong = tt
good_in kind.Actions path (file.Bytes bytes) = good_actions path (actions_of bytes)
good_in kind.Admins path (file.Bytes bytes) = good_admins path (groups_of bytes)
good_in kind.Entries path (file.Bytes bytes) = good_entries path (groups_of bytes)

good_found : (t : Turn) (bytes : FileBytes) → IsGood (found_with (record { turn = t; bytes = bytes }))
good_found (turn.Unnamed path count) bytes = tt
good_found (turn.PolicyFile k None) bytes = tt
good_found (turn.PolicyFile k (Some path)) bytes = good_in k path bytes

keeps_admins : (path : Bytes) (at : ℕ) (actions : List Action) (j : Joined) → (with_actions path at actions j).admins ≡ j.admins
keeps_admins path at [] j = refl
keeps_admins path at (a ∷ actions) j = keeps_admins path (at + 1) actions (with_action path at a j) ∙ of (has_id a.id j.actions)
  where
    of : (t : Bool) → (if t then with_fault (again path at) j else record j { actions = j.actions ++ a ∷ [] }).admins ≡ j.admins
    of true = refl
    of false = refl

good_step : (f : Finding) (j : Joined) → IsGood f → first_fault j.admins ≡ None → first_fault (with_finding f j).admins ≡ None
good_step finding.Nothing j good none = none
good_step (finding.Skipped fault) j good none = none
good_step (finding.Actions path actions) j good none = ap first_fault (keeps_admins path 0 actions j) ∙ none
good_step (finding.Admins groups) j good none = one_more 0 j.admins groups none good
good_step (finding.Entries entries) j good none = none

good_files : (files : List TurnFile) (j : Joined) → first_fault j.admins ≡ None → first_fault (with_findings (map found_with files) j).admins ≡ None
good_files [] j none = none
good_files (f ∷ files) j none = good_files files (with_finding (found_with f) j) (good_step (found_with f) j (good_found f.turn f.bytes) none)

-- what files come to has no faulty administrators
pub no_admin_fault : (files : List TurnFile) (findings : List Finding) → findings ≡ map found_with files → first_fault (joined findings).admins ≡ None
no_admin_fault files findings e = ap (λ fs. first_fault (joined fs).admins) e ∙ good_files files nothing_joined refl
