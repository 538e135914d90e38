-- The line of a connection stands behind what stood there.
use Rattle.std.proofs.Common.{rules, ◌≡◌, ◌<◌, ◌++◌, ◌∷◌, [], List, codes, length, slice_index_or, string_bytes, ℕ, ap, ◌∙◌, arith}
use Rattle.std.specs.Fmt.{decimal}
use Rattle.journal_scan.specs.declared.counts.Tally.{Tally}
use Rattle.authority_service.specs.Lines.{connection_line, end_word}
use Rattle.authority_service.proofs.Joining.{joined, row_of}
use Rattle.authority_service.proofs.lines.push_line.Goals as goal

pub returns : goal.returns
returns c = record {
  ok = λ past are.
      let line = c.args.line.now in
      let rows = c.args.counts.now.tallies.items in
      let tally = c.in-Some.tally.now in
      let within : line.number < length rows = search (rules, arith) in
      let found : tally ≡ slice_index_or rows line.number tally = search (rules, arith) in
      let counted = row_of past c.args.counts.now line.number tally are within found in
      let first : string_bytes c.write.new.self ≡ string_bytes c.args.text.now ++ (codes "connection " ++ (decimal line.number ++ (codes " " ++ (decimal line.uid ++ codes " ")))) = c.in_ok-write.ensures.bytes in
      let second : string_bytes c.push_str.new.self ≡ string_bytes c.write.new.self ++ end_word line.end = c.in_ok-push_str.ensures.bytes ∙ ap (λ (word : List ℕ). string_bytes c.write.new.self ++ word) c.end_word.ensures.word in
      let third : string_bytes c.write-2.new.self ≡ string_bytes c.push_str.new.self ++ (codes " " ++ (decimal tally.messages ++ (codes " " ++ (decimal tally.answers ++ 10 ∷ [])))) = c.in_ok-write-2.ensures.bytes in
      let all = joined (string_bytes c.args.text.now) (string_bytes c.write.new.self) (string_bytes c.push_str.new.self) (string_bytes c.write-2.new.self) (codes "connection ") (decimal line.number) (codes " ") (decimal line.uid) (end_word line.end) _ first second third in
      all ∙ ap (λ (t : Tally). string_bytes c.args.text.now ++ connection_line line t) counted;
}
