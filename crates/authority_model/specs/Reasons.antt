-- The texts of reasons, which are told as `polkit.decided-by`.
use Rattle.std.specs.Prelude.{◌++◌, codes, decimal}
use Rattle.pk_types.specs.declared.values.Category.{Category}
use Rattle.authority_model.specs.declared.verdict.Reason.{Reason}
use Rattle.authority_model.specs.Words.{Bytes}
use Rattle.authority_model.specs.Cookies.{grant_text}

-- the word of a category
abbrev pub category_text : Category → Bytes
category_text Category.Any = codes "any"
category_text Category.Inactive = codes "inactive"
category_text Category.Active = codes "active"

-- the text of a reason
abbrev pub reason_text : Reason → Bytes
reason_text Reason.Root = codes "root"
reason_text (Reason.Default category) = codes "default:" ++ category_text category
reason_text (Reason.Entry place) = codes "entry:" ++ decimal place
reason_text (Reason.Grant number) = codes "grant:" ++ grant_text number
reason_text (Reason.Imply id) = codes "imply:" ++ id
reason_text Reason.Challenge = codes "challenge"
reason_text Reason.Dismissed = codes "dismissed"
reason_text Reason.AgentGone = codes "agent-gone"
reason_text Reason.SubjectGone = codes "subject-gone"
reason_text Reason.ActionGone = codes "action-gone"
reason_text Reason.IdentityGone = codes "identity-gone"
