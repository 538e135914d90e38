use Rattle.std.proofs.Common.{ℕ, List, [], ◌∷◌, ◌++◌, codes, arith, subst}
use Rattle.audit_words.specs.Escapes.{text}
use Rattle.audit_values.specs.Policies.{action, rule_entry, file_fault}
use Rattle.audit_values.specs.Worlds.{user, group, session, process}
use Rattle.audit_text.specs.declared.heads.LoadHead.{LoadHead}
use Rattle.audit_text.specs.Audit.{load_head, load_head_of}
use Rattle.audit_text.specs.Lines.{line}
use Rattle.audit_text.specs.Writes.{IsWithin, item_lines}
use Rattle.audit_text.proofs.Measures.{then_within, one_line}
use Rattle.audit_text.proofs.measuring.longest_of_load.Goals as goal

pub returns : goal.returns
returns c =
    let l = c.args.load.now in
    let head : List (List ℕ) = (line (codes "load") load_head).spell (load_head_of l) ∷ [] in
    let lines_1 : List (List ℕ) = item_lines (line (codes "action") action) l.policy.actions in
    let lines_2 : List (List ℕ) = item_lines (line (codes "rule") rule_entry) l.policy.entries in
    let lines_3 : List (List ℕ) = item_lines (line (codes "admin") text) l.policy.admins in
    let lines_4 : List (List ℕ) = item_lines (line (codes "user") user) l.world.users in
    let lines_5 : List (List ℕ) = item_lines (line (codes "group") group) l.world.groups in
    let lines_6 : List (List ℕ) = item_lines (line (codes "session") session) l.world.sessions in
    let lines_7 : List (List ℕ) = item_lines (line (codes "process") process) l.world.processes in
    let lines_8 : List (List ℕ) = item_lines (line (codes "fault") file_fault) l.faults in
    let rest_8 : List (List ℕ) = lines_8 in
    let rest_7 : List (List ℕ) = lines_7 ++ rest_8 in
    let rest_6 : List (List ℕ) = lines_6 ++ rest_7 in
    let rest_5 : List (List ℕ) = lines_5 ++ rest_6 in
    let rest_4 : List (List ℕ) = lines_4 ++ rest_5 in
    let rest_3 : List (List ℕ) = lines_3 ++ rest_4 in
    let rest_2 : List (List ℕ) = lines_2 ++ rest_3 in
    let rest_1 : List (List ℕ) = lines_1 ++ rest_2 in
    let most = c.longest.result in
    record {
      within = then_within c.longer-head.result most head rest_1 (omega arith)
          (one_line (IsWithin c.longer-head.result) ((line (codes "load") load_head).spell (load_head_of l))
          (subst (λ (h : LoadHead). IsWithin c.longer-head.result ((line (codes "load") load_head).spell h)) c.of.ensures.head c.longer-head.ensures.within))
          (then_within c.longest-actions.result most lines_1 rest_2 (omega arith) c.longest-actions.ensures.within
          (then_within c.longest-rules.result most lines_2 rest_3 (omega arith) c.longest-rules.ensures.within
          (then_within c.longest-admins.result most lines_3 rest_4 (omega arith) c.longest-admins.ensures.within
          (then_within c.longest-users.result most lines_4 rest_5 (omega arith) c.longest-users.ensures.within
          (then_within c.longest-groups.result most lines_5 rest_6 (omega arith) c.longest-groups.ensures.within
          (then_within c.longest-sessions.result most lines_6 rest_7 (omega arith) c.longest-sessions.ensures.within
          (then_within c.longest-processes.result most lines_7 rest_8 (omega arith) c.longest-processes.ensures.within
          c.longest.ensures.within)))))));
      more = omega arith;
    }
