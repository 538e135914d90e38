-- The actions that a file says.
use Rattle.std.specs.Prelude.{ℕ, List, [], map, Option, Some, None}
use Rattle.std.specs.Option.{unwrap_or}
use Rattle.pk_types.specs.declared.values.Pair.{Pair}
use Rattle.pk_types.specs.declared.values.Implicit.{Implicit}
use Rattle.pk_types.specs.declared.values.Implicit.TheVariants as implicit
use Rattle.action_drafts.specs.declared.draft.Origin.{Origin}
use Rattle.action_drafts.specs.declared.draft.Defaults.{Defaults}
use Rattle.action_drafts.specs.declared.draft.ActionDraft.{ActionDraft}
use Rattle.action_drafts.specs.declared.draft.FileDraft.{FileDraft}
use Rattle.authority_model.specs.declared.policy.Action.{Action}
use Rattle.authority_model.specs.declared.policy.Localized.{Localized}
use Rattle.action_drafts.specs.Defaults.{no_defaults}

-- texts under their languages
abbrev pub by_language : List Pair → List Localized
by_language texts = map (λ p. record { lang = p.key; text = p.value }) texts

abbrev pub own_or : Option (List ℕ) → Option (List ℕ) → List ℕ
own_or (Some own) file = own
own_or None file = unwrap_or file []

abbrev pub default_or_no : Option Implicit → Implicit
default_or_no v = unwrap_or v implicit.No

abbrev pub defaults_or_none : Option Defaults → Defaults
defaults_or_none d = unwrap_or d no_defaults

-- The action's own vendor, URL and icon replace the file's. A default that is missing is `no`.
abbrev pub finished : Origin → ActionDraft → Action
finished o a = record {
  id = a.id;
  descriptions = by_language a.descriptions;
  messages = by_language a.messages;
  vendor = own_or a.origin.vendor o.vendor;
  vendor_url = own_or a.origin.vendor_url o.vendor_url;
  icon = own_or a.origin.icon o.icon;
  any = default_or_no (defaults_or_none a.defaults).any;
  inactive = default_or_no (defaults_or_none a.defaults).inactive;
  active = default_or_no (defaults_or_none a.defaults).active;
  annotations = a.annotations;
}

abbrev pub all_finished : FileDraft → List Action
all_finished f = map (finished f.origin) f.actions
