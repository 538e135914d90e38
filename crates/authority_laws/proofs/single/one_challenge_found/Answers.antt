use Rattle.authority_laws.proofs.OnePending.{one_serial, one_cookie, one_cancel}
use Rattle.authority_laws.proofs.CookieTexts.{one_cookie_text}
use Rattle.authority_laws.proofs.single.one_challenge_found.Goals as goal

pub returns : goal.returns
returns c = record { by_serial = one_serial; by_number = one_cookie; by_cookie = one_cookie_text; by_cancellation = one_cancel }
