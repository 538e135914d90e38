-- The entry that a group of a `.pkla` file is.
use Rattle.std.specs.Prelude.{Bool, not, ◌&&◌, ◌||◌, List, [], Option, is_some, is_none, option_and_then, codes, nat_eq, length, ◌==◌}
use Rattle.std.specs.Option.{option_map_or}
use Rattle.std.specs.List.{starts_with}
use Rattle.pk_types.specs.declared.values.Implicit.{Implicit}
use Rattle.pk_types.specs.Values.{implicit_of_word}
use Rattle.keyfile_text.specs.Items.{items_of}
use Rattle.keyfile_text.specs.Keys.{value_of}
use Rattle.keyfile_text.specs.declared.groups.KeyGroup.{KeyGroup}
use Rattle.authority_model.specs.Words.{Bytes}
use Rattle.authority_model.specs.declared.policy.RuleEntry.{RuleEntry}
use Rattle.pkla_files.specs.Returned.{pairs_of}

-- the items of a key; none where the key is absent
abbrev pub list_in : Bytes → KeyGroup → List Bytes
list_in key group = option_map_or items_of (value_of key group) []

-- whether one of the three results is given
abbrev pub has_result : KeyGroup → Bool
has_result group = is_some (value_of (codes "ResultAny") group) || is_some (value_of (codes "ResultInactive") group) || is_some (value_of (codes "ResultActive") group)

-- whether a list has no item
abbrev pub has_no_item : List Bytes → Bool
has_no_item items = length items == 0

-- whether a key is missing that an entry needs
abbrev pub lacks_key : KeyGroup → Bool
lacks_key group = has_no_item (list_in (codes "Identity") group) || has_no_item (list_in (codes "Action") group) || not (has_result group)

-- the implicit authorization that a key gives, if the key is there
abbrev pub result_in : Bytes → KeyGroup → Option Implicit
result_in key group = option_and_then implicit_of_word (value_of key group)

-- whether a key is there whose value is none of the six words
abbrev pub is_other_word : Bytes → KeyGroup → Bool
is_other_word key group = is_some (value_of key group) && is_none (result_in key group)

-- whether a result is given that is none of the six words
abbrev pub has_other_word : KeyGroup → Bool
has_other_word group = is_other_word (codes "ResultAny") group || is_other_word (codes "ResultInactive") group || is_other_word (codes "ResultActive") group

-- whether an identity is a netgroup
abbrev pub is_netgroup : Bytes → Bool
is_netgroup identity = starts_with nat_eq identity (codes "unix-netgroup:")

-- the entry of a group
abbrev pub entry_of : KeyGroup → RuleEntry
entry_of group = record {
  identities = list_in (codes "Identity") group;
  actions = list_in (codes "Action") group;
  any = result_in (codes "ResultAny") group;
  inactive = result_in (codes "ResultInactive") group;
  active = result_in (codes "ResultActive") group;
  pairs = option_map_or pairs_of (value_of (codes "ReturnValue") group) [];
}
