-- The words and codes of an action's values.
use Rattle.std.specs.Prelude.{ℕ, ◌==◌, List, Option, None, Some, if◌then◌else◌, codes}
use Rattle.std.specs.Str.{bytes_eq}
use Rattle.pk_types.specs.declared.values.Implicit.{Implicit}
use Rattle.pk_types.specs.declared.values.Implicit.TheVariants.{No, AuthSelf, AuthAdmin, AuthSelfKeep, AuthAdminKeep, Yes}

-- the value that a word names
abbrev pub implicit_of_word : List ℕ → Option Implicit
implicit_of_word word =
    if bytes_eq word (codes "no") then Some No
    else if bytes_eq word (codes "auth_self") then Some AuthSelf
    else if bytes_eq word (codes "auth_admin") then Some AuthAdmin
    else if bytes_eq word (codes "auth_self_keep") then Some AuthSelfKeep
    else if bytes_eq word (codes "auth_admin_keep") then Some AuthAdminKeep
    else if bytes_eq word (codes "yes") then Some Yes
    else None

-- the code of a value, which is its place in the enum
abbrev pub code_of_implicit : Implicit → ℕ
code_of_implicit No = 0
code_of_implicit AuthSelf = 1
code_of_implicit AuthAdmin = 2
code_of_implicit AuthSelfKeep = 3
code_of_implicit AuthAdminKeep = 4
code_of_implicit Yes = 5

-- the value of a code
abbrev pub implicit_of_code : ℕ → Option Implicit
implicit_of_code n =
    if n == 0 then Some No
    else if n == 1 then Some AuthSelf
    else if n == 2 then Some AuthAdmin
    else if n == 3 then Some AuthSelfKeep
    else if n == 4 then Some AuthAdminKeep
    else if n == 5 then Some Yes
    else None

-- the word of a value
abbrev pub word_of_implicit : Implicit → List ℕ
word_of_implicit No = codes "no"
word_of_implicit AuthSelf = codes "auth_self"
word_of_implicit AuthAdmin = codes "auth_admin"
word_of_implicit AuthSelfKeep = codes "auth_self_keep"
word_of_implicit AuthAdminKeep = codes "auth_admin_keep"
word_of_implicit Yes = codes "yes"
