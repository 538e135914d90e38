-- What may be printed at each step of a service.
use Rattle.std.proofs.Common.{◌≡◌, List, ℕ, Option, subst}
use Rattle.std.specs.List.{flat_map}
use Rattle.pk_outside.specs.Allowing.{MayGo}
use Rattle.pk_outside.specs.Streams.{Got}
use Rattle.pk_outside.proofs.Going.{fronts_more, may_go_whole}
use Rattle.authority_laws.proofs.Tracing.{access}
use Rattle.authority_model.specs.declared.journal.History.{History}
use Rattle.authority_model.specs.declared.load.Loaded.{Loaded}
use Rattle.authority_model.specs.Items.{items_of}
use Rattle.history_lock.specs.declared.machine.EndCause.{EndCause}
use Rattle.serve_words.specs.declared.plan.ServePlan.{ServePlan}
use Rattle.service_slots.specs.declared.opening.ShutSlot.{ShutSlot}
use Rattle.authority_service.specs.Begun.{HasRun, Objects}
use Rattle.authority_service.specs.Lines.{closing_text, opening_text}
use Rattle.authority_service.specs.Promises.{MayClose, MayPrintFrom}

-- the opening text may be written
pub may_open : (Allowed : List ℕ → Type 0) (held : Option (List ℕ)) (plan : ServePlan) (first : Loaded) (text : List ℕ) → text ≡ opening_text plan.audit first → MayPrintFrom Allowed held plan first → MayGo Allowed held text
may_open Allowed held plan first text is may = may_go_whole Allowed held text (rw is may.opening)

-- once it was written the closing text of what was left may be
pub may_close : (Allowed : List ℕ → Type 0) (held held_after : Option (List ℕ)) (plan : ServePlan) (first : Loaded) (text : List ℕ) (out : Objects) (history : History) (slots : List ShutSlot) (kept : Option EndCause)
    → text ≡ opening_text plan.audit first → Got held held_after text → HasRun plan first out history slots kept → MayPrintFrom Allowed held plan first
    → MayClose Allowed held_after plan history (flat_map (λ s. s.lines.items) slots)
may_close Allowed held held_after plan first text out history slots kept is got run may orderly looks unlisted =
    fronts_more Allowed held held_after (opening_text plan.audit first) (closing_text plan.audit history (flat_map (λ (s : ShutSlot). s.lines.items) slots))
    (may.all (record { journal = history; lines = flat_map (λ (s : ShutSlot). s.lines.items) slots; doors = 0 }) (record {
      legal = run.legal;
      within = run.within;
      licensed = access (items_of history) run.legal.history;
      begins = run.begins;
      orderly = orderly;
      looks = looks;
      unlisted = unlisted;
    }))
    (subst (λ (b : List ℕ). Got held held_after b) is got)
