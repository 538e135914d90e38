-- Checks that nobody is asked about.
use Rattle.std.proofs.Common.{◌≡◌, List, [], ◌∷◌, ◌++◌, refl, Option, Some, None}
use Rattle.std.specs.Prelude.{codes}
use Rattle.std.specs.Str.{chars}
use Rattle.std.specs.Fmt.{digits}
use Rattle.pk_types.specs.declared.values.Subject.{Subject}
use Rattle.pk_types.specs.declared.values.Implicit.{Implicit}
use Rattle.pk_types.specs.declared.values.Category.{Category}
use Rattle.authority_model.specs.declared.event.Call.{Call}
use Rattle.authority_model.specs.declared.event.Event.{Event}
use Rattle.authority_model.specs.declared.message.ErrorCause.{ErrorCause}
use Rattle.authority_model.specs.declared.message.Answer.{Answer}
use Rattle.authority_model.specs.declared.verdict.Reason.{Reason}
use Rattle.authority_model.specs.declared.policy.Localized.{Localized}
use Rattle.authority_model.specs.declared.policy.RuleEntry.{RuleEntry}
use Rattle.authority_model.specs.declared.load.Loaded.{Loaded}
use Rattle.authority_model.specs.Words.{Bytes}
use Rattle.authority_model.specs.Cookies.{hex}
use Rattle.authority_model.specs.Locales.{localized_text}
use Rattle.authority_model.proofs.Setup.{Shown, peers_of, setup, load_of, bare, other_processes, in_s1, a_self, action, annotated, event, call, load, check_of, refused, to, challenge, yes, no, changed_1_to_4}

-- the default for the category of the process's session
default_by_category : Shown (peers_of setup
    ++ check_of 0 1 1 50 7 (codes "a.yes") (yes 1 1 (Reason.Default Category.Active))
    ∷ check_of 0 1 2 51 8 (codes "a.yes") (yes 1 2 (Reason.Default Category.Any)) ∷ [])
unfolding hex digits
default_by_category = refl

-- a process of uid 0 is allowed everything
root_is_yes : Shown (peers_of setup ++ check_of 0 2 1 1 1 (codes "a.no") (yes 2 1 Reason.Root) ∷ [])
unfolding hex digits
root_is_yes = refl

-- an unknown action is told before an unknown subject
unknown_action_comes_first : Shown (peers_of setup
    ++ check_of 0 1 1 99 9 (codes "a.none") (refused 1 1 ErrorCause.UnknownAction)
    ∷ check_of 0 1 2 99 9 (codes "a.yes") (refused 1 2 ErrorCause.UnknownSubject) ∷ [])
unfolding hex digits
unknown_action_comes_first = refl

-- all answers of checks by root and by defaults
checks_by_root_and_defaults : Shown (load 0 (bare (action (codes "a.yes") Implicit.Yes Implicit.Yes Implicit.Yes ∷ action (codes "a.no") Implicit.No Implicit.No Implicit.No ∷ action (codes "a.self") Implicit.No Implicit.No Implicit.AuthSelf ∷ action (codes "a.admin") Implicit.AuthAdmin Implicit.AuthAdmin Implicit.AuthAdmin ∷ []) other_processes) []
    ∷ event 0 1 (Event.Connect 1000) []
    ∷ event 0 2 (Event.Connect 0) []
    ∷ check_of 0 1 1 51 8 (codes "a.yes") (yes 1 1 (Reason.Default Category.Any))
    ∷ check_of 0 1 2 51 8 (codes "a.no") (no 1 2 (Reason.Default Category.Any))
    ∷ check_of 0 1 3 51 8 (codes "a.admin") (challenge 1 3 Category.Any)
    ∷ check_of 0 2 1 1 1 (codes "a.no") (yes 2 1 Reason.Root)
    ∷ check_of 0 1 4 60 9 (codes "a.yes") (refused 1 4 ErrorCause.NotTrusted)
    ∷ check_of 0 2 2 60 9 (codes "a.self") (no 2 2 (Reason.Default Category.Any))
    ∷ check_of 0 1 5 9 9 (codes "a.none") (refused 1 5 ErrorCause.UnknownAction)
    ∷ check_of 0 1 6 9 9 (codes "a.yes") (refused 1 6 ErrorCause.UnknownSubject) ∷ [])
unfolding hex digits
checks_by_root_and_defaults = refl

-- the setup where a.no is owned by these identities
abbrev owned : Bytes → Loaded
owned owners = load_of (a_self ∷ action (codes "a.yes") Implicit.Yes Implicit.Yes Implicit.Yes ∷ annotated (codes "a.no") Implicit.No Implicit.No Implicit.No (record { key = codes "org.freedesktop.policykit.owner"; value = owners } ∷ []) ∷ []) [] (in_s1 ∷ other_processes)

-- another user's process: refused, and answered once the caller owns the action, by name, by number or by group
owner_is_trusted : Shown (peers_of setup
    ++ check_of 0 1 1 60 9 (codes "a.no") (refused 1 1 ErrorCause.NotTrusted)
    ∷ load 0 (owned (codes "unix-user:alice")) changed_1_to_4
    ∷ check_of 0 1 2 60 9 (codes "a.no") (no 1 2 (Reason.Default Category.Any))
    ∷ load 0 (owned (codes "unix-user:1000")) changed_1_to_4
    ∷ check_of 0 1 3 60 9 (codes "a.no") (no 1 3 (Reason.Default Category.Any))
    ∷ load 0 (owned (codes "nobody unix-group:10")) changed_1_to_4
    ∷ check_of 0 1 4 60 9 (codes "a.no") (no 1 4 (Reason.Default Category.Any)) ∷ [])
unfolding hex digits
owner_is_trusted = refl

-- a number with a zero in front, or over 32 bits, is no uid
owner_by_a_bad_number : Shown (peers_of (owned (codes "unix-user:01000"))
    ++ check_of 0 1 1 60 9 (codes "a.no") (refused 1 1 ErrorCause.NotTrusted)
    ∷ load 0 (owned (codes "unix-user:4294968296")) changed_1_to_4
    ∷ check_of 0 1 2 60 9 (codes "a.no") (refused 1 2 ErrorCause.NotTrusted) ∷ [])
unfolding hex digits
owner_by_a_bad_number = refl

-- a rule
abbrev rule : Bytes → Bytes → Option Implicit → Option Implicit → RuleEntry
rule who what any active = record { identities = who ∷ []; actions = what ∷ []; any = any; inactive = None; active = active; pairs = [] }

-- the setup with these rules
abbrev ruled : List RuleEntry → Loaded
ruled entries = record { policy = record setup.policy { entries = entries }; world = setup.world; faults = [] }

-- The user's own place comes after those of its groups, so its rule decides, though it stands first.
user_comes_after_groups : Shown (peers_of (ruled (rule (codes "unix-user:alice") (codes "a.no") (Some Implicit.Yes) None ∷ rule (codes "unix-group:wheel") (codes "a.*") (Some Implicit.AuthAdmin) None ∷ rule (codes "unix-group:users") (codes "a.no") (Some Implicit.No) None ∷ []))
    ++ check_of 0 1 1 51 8 (codes "a.no") (yes 1 1 (Reason.Entry 0)) ∷ [])
unfolding hex digits chars
user_comes_after_groups = refl

-- a rule without a value for the category does not match
absent_result_does_not_match : Shown (peers_of (ruled (rule (codes "unix-user:alice") (codes "a.no") None (Some Implicit.Yes) ∷ []))
    ++ check_of 0 1 1 51 8 (codes "a.no") (no 1 1 (Reason.Default Category.Any))
    ∷ check_of 0 1 2 50 7 (codes "a.no") (yes 1 2 (Reason.Entry 0)) ∷ [])
unfolding hex digits chars
absent_result_does_not_match = refl

-- A bus name has the facts of the process that its live connection announced; a process of another user is not accepted.
bus_name_by_announced_process : Shown (peers_of setup
    ++ call 0 1 1 (Call.Announce 51 8) (to 1 1 (Answer.Name (codes ":1.1")) ∷ [])
    ∷ call 0 1 2 (Call.Check (Subject.BusName (codes ":1.1")) (codes "a.yes") [] 0 []) (yes 1 2 (Reason.Default Category.Any))
    ∷ call 0 1 3 (Call.Announce 60 9) (refused 1 3 ErrorCause.BadAnnounce)
    ∷ event 0 1 Event.Depart []
    ∷ call 0 2 1 (Call.Check (Subject.BusName (codes ":1.1")) (codes "a.yes") [] 0 []) (refused 2 1 ErrorCause.UnknownSubject) ∷ [])
unfolding hex digits
bus_name_by_announced_process = refl

-- the actions of the last load, by its number
actions_of_last_load : Shown (peers_of setup ++ call 0 1 1 (Call.EnumerateActions (codes "de")) (to 1 1 (Answer.Actions 1 (codes "de")) ∷ []) ∷ [])
unfolding hex digits
actions_of_last_load = refl

-- descriptions in three languages
abbrev texts : List Localized
texts = record { lang = []; text = codes "Set the clock" } ∷ record { lang = codes "de"; text = codes "Uhr stellen" } ∷ record { lang = codes "da"; text = codes "Indstil uret" } ∷ []

-- a locale chooses by its language, with or without a territory, and else the text without a language
german_is_chosen : localized_text texts (codes "de_DE.UTF-8") ≡ Some (codes "Uhr stellen")
german_is_chosen = refl

danish_is_chosen : localized_text texts (codes "da") ≡ Some (codes "Indstil uret")
danish_is_chosen = refl

no_language_is_chosen : localized_text texts (codes "C") ≡ Some (codes "Set the clock")
no_language_is_chosen = refl
