-- The files of all turns were read and kept.
use Rattle.std.proofs.Common.{◌≡◌, ◌≤◌, ap, ◌∙◌, arith}
use Rattle.policy_load.specs.Joins.{file_count}
use Rattle.policy_load.proofs.Steps.{gathered}
use Rattle.policy_load.proofs.loading.gather.Goals as goal

pub returns-clause-gathers : goal.returns-clause-gathers
returns-clause-gathers g c =
    λ told e.
    let listed = c.in-Ok.ensures.same ∙ e in
    let same : file_count c.as_slice.result.now ≡ file_count c.in-Ok.turns.items = ap file_count c.as_slice.ensures.value in
    let few : file_count c.in-Ok.turns.items ≤ 4096 = omega (arith, same, c.file_count-count.ensures.count, c.if-count-gt-MAX_FILES.false) in
    gathered told c.args.root.now c.in-Ok.turns.items c.in-Ok-read_files.read.bytes c.in-Ok-read_files.read.files.items
    (c.in-Ok.ensures.turns told e) few (c.in-Ok-read_files.ensures.bytes told listed) c.if-read-gt-MAX_POLICY_BYTES.false
    (c.in-Ok-read_files.ensures.files told listed c.if-read-gt-MAX_POLICY_BYTES.false)
