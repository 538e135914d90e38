use Rattle.audit_text.specs.Audit.{load_headed}
use Rattle.audit_text.proofs.Sections.{with_actions, after_actions, at_actions, with_rules, after_rules, at_rules, with_admins, after_admins, at_admins, with_users, after_users, at_users, with_groups, after_groups, at_groups, with_sessions, after_sessions, at_sessions, with_processes, after_processes, at_processes}
use Rattle.audit_text.proofs.Taking.{passed_on, headed_take, headed_stop, head_stop}
use Rattle.audit_text.proofs.loads.next_load.Goals as goal

pub returns-in_err-head : goal.returns-in_err-head
returns-in_err-head g c = record { taken = passed_on _ _ _ c.from_residual.result _ c.from_residual.ensures.1 (head_stop load_headed _ _ _ c.in_err-head.ensures.taken) }

pub returns-in_err-actions : goal.returns-in_err-actions
returns-in_err-actions g c = record { taken = passed_on _ _ _ c.from_residual-in_err-actions.result _ c.from_residual-in_err-actions.ensures.1 (headed_stop load_headed c.in_ok-head.head _ _ _ _ c.in_ok-head.ensures.taken (at_actions c.in_ok-head.head c.in_err-actions.ensures.taken)) }

pub returns-in_err-entries : goal.returns-in_err-entries
returns-in_err-entries g c = record { taken = passed_on _ _ _ c.from_residual-in_err-entries.result _ c.from_residual-in_err-entries.ensures.1 (headed_stop load_headed c.in_ok-head.head _ _ _ _ c.in_ok-head.ensures.taken (after_actions c.in_ok-head.head c.in_ok-actions.ensures.taken (at_rules c.in_ok-head.head c.in_err-entries.ensures.taken))) }

pub returns-in_err-admins : goal.returns-in_err-admins
returns-in_err-admins g c = record { taken = passed_on _ _ _ c.from_residual-in_err-admins.result _ c.from_residual-in_err-admins.ensures.1 (headed_stop load_headed c.in_ok-head.head _ _ _ _ c.in_ok-head.ensures.taken (after_actions c.in_ok-head.head c.in_ok-actions.ensures.taken (after_rules c.in_ok-head.head c.in_ok-entries.ensures.taken (at_admins c.in_ok-head.head c.in_err-admins.ensures.taken)))) }

pub returns-in_err-users : goal.returns-in_err-users
returns-in_err-users g c = record { taken = passed_on _ _ _ c.from_residual-in_err-users.result _ c.from_residual-in_err-users.ensures.1 (headed_stop load_headed c.in_ok-head.head _ _ _ _ c.in_ok-head.ensures.taken (after_actions c.in_ok-head.head c.in_ok-actions.ensures.taken (after_rules c.in_ok-head.head c.in_ok-entries.ensures.taken (after_admins c.in_ok-head.head c.in_ok-admins.ensures.taken (at_users c.in_ok-head.head c.in_err-users.ensures.taken))))) }

pub returns-in_err-groups : goal.returns-in_err-groups
returns-in_err-groups g c = record { taken = passed_on _ _ _ c.from_residual-in_err-groups.result _ c.from_residual-in_err-groups.ensures.1 (headed_stop load_headed c.in_ok-head.head _ _ _ _ c.in_ok-head.ensures.taken (after_actions c.in_ok-head.head c.in_ok-actions.ensures.taken (after_rules c.in_ok-head.head c.in_ok-entries.ensures.taken (after_admins c.in_ok-head.head c.in_ok-admins.ensures.taken (after_users c.in_ok-head.head c.in_ok-users.ensures.taken (at_groups c.in_ok-head.head c.in_err-groups.ensures.taken)))))) }

pub returns-in_err-sessions : goal.returns-in_err-sessions
returns-in_err-sessions g c = record { taken = passed_on _ _ _ c.from_residual-in_err-sessions.result _ c.from_residual-in_err-sessions.ensures.1 (headed_stop load_headed c.in_ok-head.head _ _ _ _ c.in_ok-head.ensures.taken (after_actions c.in_ok-head.head c.in_ok-actions.ensures.taken (after_rules c.in_ok-head.head c.in_ok-entries.ensures.taken (after_admins c.in_ok-head.head c.in_ok-admins.ensures.taken (after_users c.in_ok-head.head c.in_ok-users.ensures.taken (after_groups c.in_ok-head.head c.in_ok-groups.ensures.taken (at_sessions c.in_ok-head.head c.in_err-sessions.ensures.taken))))))) }

pub returns-in_err-processes : goal.returns-in_err-processes
returns-in_err-processes g c = record { taken = passed_on _ _ _ c.from_residual-in_err-processes.result _ c.from_residual-in_err-processes.ensures.1 (headed_stop load_headed c.in_ok-head.head _ _ _ _ c.in_ok-head.ensures.taken (after_actions c.in_ok-head.head c.in_ok-actions.ensures.taken (after_rules c.in_ok-head.head c.in_ok-entries.ensures.taken (after_admins c.in_ok-head.head c.in_ok-admins.ensures.taken (after_users c.in_ok-head.head c.in_ok-users.ensures.taken (after_groups c.in_ok-head.head c.in_ok-groups.ensures.taken (after_sessions c.in_ok-head.head c.in_ok-sessions.ensures.taken (at_processes c.in_ok-head.head c.in_err-processes.ensures.taken)))))))) }

pub returns-in_err-faults : goal.returns-in_err-faults
returns-in_err-faults g c = record { taken = passed_on _ _ _ c.from_residual-in_err-faults.result _ c.from_residual-in_err-faults.ensures.1 (headed_stop load_headed c.in_ok-head.head _ _ _ _ c.in_ok-head.ensures.taken (after_actions c.in_ok-head.head c.in_ok-actions.ensures.taken (after_rules c.in_ok-head.head c.in_ok-entries.ensures.taken (after_admins c.in_ok-head.head c.in_ok-admins.ensures.taken (after_users c.in_ok-head.head c.in_ok-users.ensures.taken (after_groups c.in_ok-head.head c.in_ok-groups.ensures.taken (after_sessions c.in_ok-head.head c.in_ok-sessions.ensures.taken (after_processes c.in_ok-head.head c.in_ok-processes.ensures.taken c.in_err-faults.ensures.taken)))))))) }

pub returns : goal.returns
returns g c = record { taken = headed_take load_headed c.in_ok-head.head _ _ _ _ c.in_ok-head.ensures.taken (with_actions c.in_ok-head.head c.in_ok-actions.ensures.taken (with_rules c.in_ok-head.head c.in_ok-entries.ensures.taken (with_admins c.in_ok-head.head c.in_ok-admins.ensures.taken (with_users c.in_ok-head.head c.in_ok-users.ensures.taken (with_groups c.in_ok-head.head c.in_ok-groups.ensures.taken (with_sessions c.in_ok-head.head c.in_ok-sessions.ensures.taken (with_processes c.in_ok-head.head c.in_ok-processes.ensures.taken c.in_ok-faults.ensures.taken))))))) }
