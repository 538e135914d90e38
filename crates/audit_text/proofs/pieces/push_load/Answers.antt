use Rattle.std.proofs.Common.{ℕ, List, ◌++◌, codes, ap, ◌∙◌}
use Rattle.audit_words.specs.Escapes.{text}
use Rattle.audit_values.specs.Policies.{action, rule_entry, file_fault}
use Rattle.audit_values.specs.Worlds.{user, group, session, process}
use Rattle.audit_text.specs.declared.heads.LoadHead.{LoadHead}
use Rattle.audit_text.specs.Audit.{load_head, load_head_of}
use Rattle.audit_text.specs.Lines.{line, spell_items}
use Rattle.audit_text.proofs.Loops.{onto, of_slice}
use Rattle.audit_text.proofs.pieces.push_load.Goals as goal

pub returns : goal.returns
returns c =
    let load = c.args.loaded.now in
    let old = c.args.text.now.items in
    let head : List ℕ = (line (codes "load") load_head).spell (load_head_of load) in
    let lines_1 : List ℕ = spell_items (line (codes "action") action) load.policy.actions in
    let lines_2 : List ℕ = spell_items (line (codes "rule") rule_entry) load.policy.entries in
    let lines_3 : List ℕ = spell_items (line (codes "admin") text) load.policy.admins in
    let lines_4 : List ℕ = spell_items (line (codes "user") user) load.world.users in
    let lines_5 : List ℕ = spell_items (line (codes "group") group) load.world.groups in
    let lines_6 : List ℕ = spell_items (line (codes "session") session) load.world.sessions in
    let lines_7 : List ℕ = spell_items (line (codes "process") process) load.world.processes in
    let lines_8 : List ℕ = spell_items (line (codes "fault") file_fault) load.faults in
    let rest_8 : List ℕ = lines_8 in
    let rest_7 : List ℕ = lines_7 ++ rest_8 in
    let rest_6 : List ℕ = lines_6 ++ rest_7 in
    let rest_5 : List ℕ = lines_5 ++ rest_6 in
    let rest_4 : List ℕ = lines_4 ++ rest_5 in
    let rest_3 : List ℕ = lines_3 ++ rest_4 in
    let rest_2 : List ℕ = lines_2 ++ rest_3 in
    let rest_1 : List ℕ = lines_1 ++ rest_2 in
    record { load = (onto old c.push_line.new.text.items c.push_lines-8.new.text.items head rest_1 (c.in_ok-push_line.ensures.line ∙ ap (λ (h : LoadHead). old ++ (line (codes "load") load_head).spell h) c.of.ensures.head) (onto c.push_line.new.text.items c.push_lines.new.text.items c.push_lines-8.new.text.items lines_1 rest_2 (of_slice _ (line (codes "action") action) c.push_line.new.text.items c.push_lines.new.text.items c.as_slice.result.now load.policy.actions c.as_slice.ensures.items c.in_ok-push_lines.ensures.lines) (onto c.push_lines.new.text.items c.push_lines-2.new.text.items c.push_lines-8.new.text.items lines_2 rest_3 (of_slice _ (line (codes "rule") rule_entry) c.push_lines.new.text.items c.push_lines-2.new.text.items c.as_slice-2.result.now load.policy.entries c.as_slice-2.ensures.items c.in_ok-push_lines-2.ensures.lines) (onto c.push_lines-2.new.text.items c.push_lines-3.new.text.items c.push_lines-8.new.text.items lines_3 rest_4 (of_slice _ (line (codes "admin") text) c.push_lines-2.new.text.items c.push_lines-3.new.text.items c.as_slice-3.result.now load.policy.admins c.as_slice-3.ensures.items c.in_ok-push_lines-3.ensures.lines) (onto c.push_lines-3.new.text.items c.push_lines-4.new.text.items c.push_lines-8.new.text.items lines_4 rest_5 (of_slice _ (line (codes "user") user) c.push_lines-3.new.text.items c.push_lines-4.new.text.items c.as_slice-4.result.now load.world.users c.as_slice-4.ensures.items c.in_ok-push_lines-4.ensures.lines) (onto c.push_lines-4.new.text.items c.push_lines-5.new.text.items c.push_lines-8.new.text.items lines_5 rest_6 (of_slice _ (line (codes "group") group) c.push_lines-4.new.text.items c.push_lines-5.new.text.items c.as_slice-5.result.now load.world.groups c.as_slice-5.ensures.items c.in_ok-push_lines-5.ensures.lines) (onto c.push_lines-5.new.text.items c.push_lines-6.new.text.items c.push_lines-8.new.text.items lines_6 rest_7 (of_slice _ (line (codes "session") session) c.push_lines-5.new.text.items c.push_lines-6.new.text.items c.as_slice-6.result.now load.world.sessions c.as_slice-6.ensures.items c.in_ok-push_lines-6.ensures.lines) (onto c.push_lines-6.new.text.items c.push_lines-7.new.text.items c.push_lines-8.new.text.items lines_7 rest_8 (of_slice _ (line (codes "process") process) c.push_lines-6.new.text.items c.push_lines-7.new.text.items c.as_slice-7.result.now load.world.processes c.as_slice-7.ensures.items c.in_ok-push_lines-7.ensures.lines) (of_slice _ (line (codes "fault") file_fault) c.push_lines-7.new.text.items c.push_lines-8.new.text.items c.as_slice-8.result.now load.faults c.as_slice-8.ensures.items c.in_ok-push_lines-8.ensures.lines))))))))) }
