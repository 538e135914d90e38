-- The sections of a load, one after the other.
use Rattle.std.proofs.Common.{ℕ, List, codes, Ok, Err}
use Rattle.authority_model.specs.declared.policy.Action.{Action}
use Rattle.authority_model.specs.declared.policy.RuleEntry.{RuleEntry}
use Rattle.authority_model.specs.declared.load.FileFault.{FileFault}
use Rattle.authority_model.specs.declared.world.User.{User}
use Rattle.authority_model.specs.declared.world.Group.{Group}
use Rattle.authority_model.specs.declared.world.Session.{Session}
use Rattle.authority_model.specs.declared.world.Process.{Process}
use Rattle.audit_words.specs.Escapes.{text}
use Rattle.audit_values.specs.Policies.{action, rule_entry, file_fault}
use Rattle.audit_values.specs.Worlds.{user, group, session, process}
use Rattle.audit_text.specs.declared.fault.Stop.{Stop}
use Rattle.audit_text.specs.declared.heads.LoadHead.{LoadHead}
use Rattle.audit_text.specs.Lines.{LineCodec, line, items, ◌↵◌}
use Rattle.audit_text.specs.Takes.{Stand, Takes}
use Rattle.audit_text.proofs.Taking.{both_takes, second_stops, first_stops}

-- what stands from a section on
abbrev pub from_faults : LoadHead → LineCodec (List FileFault)
from_faults h = items (line (codes "fault") file_fault) h.faults

abbrev pub from_processes : LoadHead → LineCodec (List Process × List FileFault)
from_processes h = items (line (codes "process") process) h.processes ↵ from_faults h

abbrev pub from_sessions : LoadHead → LineCodec (List Session × (List Process × List FileFault))
from_sessions h = items (line (codes "session") session) h.sessions ↵ from_processes h

abbrev pub from_groups : LoadHead → LineCodec (List Group × (List Session × (List Process × List FileFault)))
from_groups h = items (line (codes "group") group) h.groups ↵ from_sessions h

abbrev pub from_users : LoadHead → LineCodec (List User × (List Group × (List Session × (List Process × List FileFault))))
from_users h = items (line (codes "user") user) h.users ↵ from_groups h

abbrev pub from_admins : LoadHead → LineCodec (List (List ℕ) × (List User × (List Group × (List Session × (List Process × List FileFault)))))
from_admins h = items (line (codes "admin") text) h.admins ↵ from_users h

abbrev pub from_rules : LoadHead → LineCodec (List RuleEntry × (List (List ℕ) × (List User × (List Group × (List Session × (List Process × List FileFault))))))
from_rules h = items (line (codes "rule") rule_entry) h.rules ↵ from_admins h

abbrev pub from_actions : LoadHead → LineCodec (List Action × (List RuleEntry × (List (List ℕ) × (List User × (List Group × (List Session × (List Process × List FileFault)))))))
from_actions h = items (line (codes "action") action) h.actions ↵ from_rules h

-- ---- actions

pub with_actions : (h : LoadHead) {x : List Action} {y : List RuleEntry × (List (List ℕ) × (List User × (List Group × (List Session × (List Process × List FileFault)))))} {s t u : Stand} → Takes s t (Ok x) (items (line (codes "action") action) h.actions).take → Takes t u (Ok y) (from_rules h).take → Takes s u (Ok (x, y)) (from_actions h).take
with_actions h {x} {y} {s} {t} {u} p q = both_takes (items (line (codes "action") action) h.actions) (from_rules h) x y s t u p q

pub after_actions : (h : LoadHead) {x : List Action} {e : Stop} {s t u : Stand} → Takes s t (Ok x) (items (line (codes "action") action) h.actions).take → Takes t u (Err e) (from_rules h).take → Takes s u (Err e) (from_actions h).take
after_actions h {x} {e} {s} {t} {u} p q = second_stops (items (line (codes "action") action) h.actions) (from_rules h) x e s t u p q

pub at_actions : (h : LoadHead) {e : Stop} {s t : Stand} → Takes s t (Err e) (items (line (codes "action") action) h.actions).take → Takes s t (Err e) (from_actions h).take
at_actions h {e} {s} {t} p = first_stops (items (line (codes "action") action) h.actions) (from_rules h) e s t p

-- ---- rules

pub with_rules : (h : LoadHead) {x : List RuleEntry} {y : List (List ℕ) × (List User × (List Group × (List Session × (List Process × List FileFault))))} {s t u : Stand} → Takes s t (Ok x) (items (line (codes "rule") rule_entry) h.rules).take → Takes t u (Ok y) (from_admins h).take → Takes s u (Ok (x, y)) (from_rules h).take
with_rules h {x} {y} {s} {t} {u} p q = both_takes (items (line (codes "rule") rule_entry) h.rules) (from_admins h) x y s t u p q

pub after_rules : (h : LoadHead) {x : List RuleEntry} {e : Stop} {s t u : Stand} → Takes s t (Ok x) (items (line (codes "rule") rule_entry) h.rules).take → Takes t u (Err e) (from_admins h).take → Takes s u (Err e) (from_rules h).take
after_rules h {x} {e} {s} {t} {u} p q = second_stops (items (line (codes "rule") rule_entry) h.rules) (from_admins h) x e s t u p q

pub at_rules : (h : LoadHead) {e : Stop} {s t : Stand} → Takes s t (Err e) (items (line (codes "rule") rule_entry) h.rules).take → Takes s t (Err e) (from_rules h).take
at_rules h {e} {s} {t} p = first_stops (items (line (codes "rule") rule_entry) h.rules) (from_admins h) e s t p

-- ---- admins

pub with_admins : (h : LoadHead) {x : List (List ℕ)} {y : List User × (List Group × (List Session × (List Process × List FileFault)))} {s t u : Stand} → Takes s t (Ok x) (items (line (codes "admin") text) h.admins).take → Takes t u (Ok y) (from_users h).take → Takes s u (Ok (x, y)) (from_admins h).take
with_admins h {x} {y} {s} {t} {u} p q = both_takes (items (line (codes "admin") text) h.admins) (from_users h) x y s t u p q

pub after_admins : (h : LoadHead) {x : List (List ℕ)} {e : Stop} {s t u : Stand} → Takes s t (Ok x) (items (line (codes "admin") text) h.admins).take → Takes t u (Err e) (from_users h).take → Takes s u (Err e) (from_admins h).take
after_admins h {x} {e} {s} {t} {u} p q = second_stops (items (line (codes "admin") text) h.admins) (from_users h) x e s t u p q

pub at_admins : (h : LoadHead) {e : Stop} {s t : Stand} → Takes s t (Err e) (items (line (codes "admin") text) h.admins).take → Takes s t (Err e) (from_admins h).take
at_admins h {e} {s} {t} p = first_stops (items (line (codes "admin") text) h.admins) (from_users h) e s t p

-- ---- users

pub with_users : (h : LoadHead) {x : List User} {y : List Group × (List Session × (List Process × List FileFault))} {s t u : Stand} → Takes s t (Ok x) (items (line (codes "user") user) h.users).take → Takes t u (Ok y) (from_groups h).take → Takes s u (Ok (x, y)) (from_users h).take
with_users h {x} {y} {s} {t} {u} p q = both_takes (items (line (codes "user") user) h.users) (from_groups h) x y s t u p q

pub after_users : (h : LoadHead) {x : List User} {e : Stop} {s t u : Stand} → Takes s t (Ok x) (items (line (codes "user") user) h.users).take → Takes t u (Err e) (from_groups h).take → Takes s u (Err e) (from_users h).take
after_users h {x} {e} {s} {t} {u} p q = second_stops (items (line (codes "user") user) h.users) (from_groups h) x e s t u p q

pub at_users : (h : LoadHead) {e : Stop} {s t : Stand} → Takes s t (Err e) (items (line (codes "user") user) h.users).take → Takes s t (Err e) (from_users h).take
at_users h {e} {s} {t} p = first_stops (items (line (codes "user") user) h.users) (from_groups h) e s t p

-- ---- groups

pub with_groups : (h : LoadHead) {x : List Group} {y : List Session × (List Process × List FileFault)} {s t u : Stand} → Takes s t (Ok x) (items (line (codes "group") group) h.groups).take → Takes t u (Ok y) (from_sessions h).take → Takes s u (Ok (x, y)) (from_groups h).take
with_groups h {x} {y} {s} {t} {u} p q = both_takes (items (line (codes "group") group) h.groups) (from_sessions h) x y s t u p q

pub after_groups : (h : LoadHead) {x : List Group} {e : Stop} {s t u : Stand} → Takes s t (Ok x) (items (line (codes "group") group) h.groups).take → Takes t u (Err e) (from_sessions h).take → Takes s u (Err e) (from_groups h).take
after_groups h {x} {e} {s} {t} {u} p q = second_stops (items (line (codes "group") group) h.groups) (from_sessions h) x e s t u p q

pub at_groups : (h : LoadHead) {e : Stop} {s t : Stand} → Takes s t (Err e) (items (line (codes "group") group) h.groups).take → Takes s t (Err e) (from_groups h).take
at_groups h {e} {s} {t} p = first_stops (items (line (codes "group") group) h.groups) (from_sessions h) e s t p

-- ---- sessions

pub with_sessions : (h : LoadHead) {x : List Session} {y : List Process × List FileFault} {s t u : Stand} → Takes s t (Ok x) (items (line (codes "session") session) h.sessions).take → Takes t u (Ok y) (from_processes h).take → Takes s u (Ok (x, y)) (from_sessions h).take
with_sessions h {x} {y} {s} {t} {u} p q = both_takes (items (line (codes "session") session) h.sessions) (from_processes h) x y s t u p q

pub after_sessions : (h : LoadHead) {x : List Session} {e : Stop} {s t u : Stand} → Takes s t (Ok x) (items (line (codes "session") session) h.sessions).take → Takes t u (Err e) (from_processes h).take → Takes s u (Err e) (from_sessions h).take
after_sessions h {x} {e} {s} {t} {u} p q = second_stops (items (line (codes "session") session) h.sessions) (from_processes h) x e s t u p q

pub at_sessions : (h : LoadHead) {e : Stop} {s t : Stand} → Takes s t (Err e) (items (line (codes "session") session) h.sessions).take → Takes s t (Err e) (from_sessions h).take
at_sessions h {e} {s} {t} p = first_stops (items (line (codes "session") session) h.sessions) (from_processes h) e s t p

-- ---- processes

pub with_processes : (h : LoadHead) {x : List Process} {y : List FileFault} {s t u : Stand} → Takes s t (Ok x) (items (line (codes "process") process) h.processes).take → Takes t u (Ok y) (from_faults h).take → Takes s u (Ok (x, y)) (from_processes h).take
with_processes h {x} {y} {s} {t} {u} p q = both_takes (items (line (codes "process") process) h.processes) (from_faults h) x y s t u p q

pub after_processes : (h : LoadHead) {x : List Process} {e : Stop} {s t u : Stand} → Takes s t (Ok x) (items (line (codes "process") process) h.processes).take → Takes t u (Err e) (from_faults h).take → Takes s u (Err e) (from_processes h).take
after_processes h {x} {e} {s} {t} {u} p q = second_stops (items (line (codes "process") process) h.processes) (from_faults h) x e s t u p q

pub at_processes : (h : LoadHead) {e : Stop} {s t : Stand} → Takes s t (Err e) (items (line (codes "process") process) h.processes).take → Takes s t (Err e) (from_processes h).take
at_processes h {e} {s} {t} p = first_stops (items (line (codes "process") process) h.processes) (from_faults h) e s t p
