-- What a refusal of a journal comes to.
use Rattle.authority_core.specs.declared.halt.Halt.{Halt}
use Rattle.authority_core.specs.declared.halt.Halt.TheVariants as halt
use Rattle.journal_segments.specs.declared.segmented.SegmentRefused.{SegmentRefused}
use Rattle.journal_segments.specs.declared.segmented.SegmentRefused.TheVariants as segment_refused
use Rattle.scenario_run.specs.declared.journal.Refused.{Refused}
use Rattle.scenario_run.specs.declared.journal.Refused.TheVariants as refused
use Rattle.scenario_run.specs.declared.segmented.Standing.{Standing}
use Rattle.scenario_run.specs.declared.segmented.Standing.TheVariants as standing

-- why nothing was entered into a journal that is kept whole
abbrev pub refused_by : Halt → Refused
refused_by (halt.Full full) = refused.Full full
refused_by halt.NoMemory = refused.NoMemory

-- how a journal in segments stands after a refusal
abbrev pub standing_after : Standing → SegmentRefused → Standing
standing_after before (segment_refused.Full entries) = before
standing_after before segment_refused.SegmentFault = standing.Failed
standing_after before segment_refused.NoMemory = standing.Ended

-- why nothing was entered into it; no bytes are counted
abbrev pub refused_of : SegmentRefused → Refused
refused_of (segment_refused.Full entries) = refused.Full (record { entries = entries; bytes = 0 })
refused_of segment_refused.SegmentFault = refused.SegmentFault
refused_of segment_refused.NoMemory = refused.NoMemory
