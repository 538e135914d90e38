use Rattle.std.proofs.Common.{ℕ, List, [], ◌∷◌, ◌++◌, codes, arith, subst}
use Rattle.std.specs.List.{flat_map}
use Rattle.audit_values.specs.Entries.{entry}
use Rattle.audit_text.specs.declared.heads.TextHead.{TextHead}
use Rattle.audit_text.specs.Audit.{first_line, history_headed}
use Rattle.audit_text.specs.Lines.{line}
use Rattle.audit_text.specs.Writes.{IsWithin, item_lines, load_lines}
use Rattle.audit_text.proofs.Measures.{then_within, one_line}
use Rattle.audit_text.proofs.measuring.longest_line.Goals as goal

pub returns : goal.returns
returns c =
    let h = c.args.history.now in
    let most = c.longest.result in
    let loads : List (List ℕ) = flat_map load_lines h.loads in
    let entries : List (List ℕ) = item_lines (line (codes "entry") entry) h.entries in
    record {
      within = then_within c.longer-head.result most (first_line.spell (history_headed.head_of h) ∷ []) (loads ++ entries) (omega arith)
          (one_line (IsWithin c.longer-head.result) (first_line.spell (history_headed.head_of h))
          (subst (λ (t : TextHead). IsWithin c.longer-head.result (first_line.spell t)) c.of.ensures.head c.longer-head.ensures.within))
          (then_within c.longest_of_loads-loads.result most loads entries (omega arith) c.longest_of_loads-loads.ensures.within c.longest.ensures.within);
    }
