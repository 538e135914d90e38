-- How the mechanism EXTERNAL spells a uid.
use Rattle.std.specs.Prelude.{ℕ, List}
use Rattle.std.specs.Fmt.{decimal}
use Rattle.hex.specs.Hex.{encode_lower}

-- the decimal digits of the uid, each as two hexadecimal digits
unfoldable pub uid_digits : ℕ → List ℕ
uid_digits uid = encode_lower (decimal uid)
