-- More bytes are read until a message is there.
use Rattle.std.proofs.Common.{◌≡◌, ◌<◌, ℕ, List, ◌++◌, length, append_assoc, ap, sym, subst, ◌∙◌}
use Rattle.dbus_values.specs.Awaiting.{awaited}
use Rattle.dbus_values.specs.Next.{Partial, next_of}
use Rattle.dbus_values.proofs.Fewer.{below_awaited}

-- fewer bytes than are awaited are less than a message
pub still_partial : (first read got bytes pending now : List ℕ) (wanted : ℕ) → bytes ≡ pending → Partial ≡ next_of bytes → wanted ≡ awaited bytes → pending ≡ first ++ read → now ≡ pending ++ got → length now < wanted
    → next_of (first ++ (read ++ got)) ≡ Partial
still_partial first read got bytes pending now wanted same partial is taken more fewer =
    let all : first ++ (read ++ got) ≡ bytes ++ got = sym (append_assoc first read got) ∙ ap (λ (b : List ℕ). b ++ got) (sym taken ∙ sym same) in
    let now_is : now ≡ bytes ++ got = more ∙ ap (λ (b : List ℕ). b ++ got) (sym same) in
    ap next_of all ∙ below_awaited bytes got (sym partial) (subst (λ (n : ℕ). length (bytes ++ got) < n) is (subst (λ (b : List ℕ). length b < wanted) now_is fewer))
