-- Whether a check allows that a user is asked (CheckAuthorizationFlags in the reference manual).
use Rattle.std.specs.Prelude.{ℕ, ◌%◌, ◌*◌, ◌==◌, Bool}
use Rattle.authority_model.specs.declared.interaction.TheConstants.{ALLOW_USER_INTERACTION}

-- whether bit 0 of the flags is set
abbrev pub allows_interaction : ℕ → Bool
allows_interaction flags = flags % (2 * ALLOW_USER_INTERACTION) == ALLOW_USER_INTERACTION
