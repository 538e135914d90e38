-- How an agent begins and ends.
use Rattle.std.proofs.Common.{◌≡◌, ℕ, ◌+◌, ◌≤◌, ◌⊎◌, Bool, true, List, [], ◌∷◌, length, Option, Some, None, Result, Ok, Err, refl, sym, ap, subst, ◌∙◌, inl, inr, arith}
use Rattle.pk_outside.specs.Causes.{Rose, RoseWhere}
use Rattle.pk_outside.specs.Links.{Origin, EndsTell}
use Rattle.pk_outside.specs.Stations.{StationTold, Dials, Hangs, has_fault}
use Rattle.pk_outside.specs.Streams.{Got}
use Rattle.authority_model.specs.Words.{Bytes}
use Rattle.script_agent.specs.declared.status.AgentStatus.{AgentStatus}
use Rattle.script_agent.specs.declared.status.AgentStatus.TheVariants as status
use Rattle.script_agent.specs.declared.task.Task.{Task}
use Rattle.script_agent.specs.Lines.{LineNow, IsGivenBack}
use Rattle.script_agent.specs.Runs.{Attends, DidNothing, EndsAt, NotDialled, Ran, links_of}
use Rattle.script_agent.specs.Stations.{AreUsedUp, CountsLinks, HangsLine, HangsUp}
use Rattle.script_agent.specs.Steps.{Arriving, DialsNew, Opens, OpenedBy, Outside, Standing, Stopped, link_fails}
use Rattle.script_agent.specs.Stories.{Story, StopsAt}
use Rattle.script_agent.proofs.Hanging.{counts_rose, hung_up}

-- it was registered, with no helper
pub opened_with : (t : Task) (start now : Outside) (before desk : LineNow) (helper : Option LineNow) → helper ≡ None → Opens t before desk (Ok tt) → Arriving t start now before helper → Standing t start now desk helper
opened_with t start now before desk helper e o a =
    subst (λ (h : Option LineNow). Standing t start now desk h) (sym e) (o start now (subst (λ (h : Option LineNow). Arriving t start now before h) e a)).0

-- or stopped
pub stopped_with : (t : Task) (start now : Outside) (before desk : LineNow) (helper : Option LineNow) (why : AgentStatus) → helper ≡ None → Opens t before desk (Err why) → Arriving t start now before helper → Stopped t start now desk helper why
stopped_with t start now before desk helper why e o a =
    subst (λ (h : Option LineNow). Stopped t start now desk h why) (sym e) (o start now (subst (λ (h : Option LineNow). Arriving t start now before h) e a))

-- it was dialled
pub arriving : (t : Task) (start now : Outside) (desk : LineNow) → DialsNew t.path start.station now.station start.station_faults now.station_faults (Ok desk) → start.station_faults ≤ now.station_faults → now.output ≡ start.output → start.output_faults ≤ now.output_faults → Arriving t start now desk None
arriving t start now desk d later output output_later = record { dialled = d.1; alone = refl; by_station = d.0; output = output; station_later = later; output_later = output_later }

-- or not
pub not_dialled : (t : Task) (start now : Outside) (why : AgentStatus) → DialsNew t.path start.station now.station start.station_faults now.station_faults (Err why) → now.output ≡ start.output → Attends t start now why
not_dialled t start now status.Done d output = elim d [ ]
not_dialled t start now status.Refused d output = elim d [ ]
not_dialled t start now status.Usage d output = elim d [ ]
not_dialled t start now status.TreeFault d output = elim d [ ]
not_dialled t start now status.RuleFile d output = elim d [ ]
not_dialled t start now status.WriteFault d output = elim d [ ]
not_dialled t start now (status.BadShake fault) d output = elim d [ ]
not_dialled t start now (status.BadBytes kind at) d output = elim d [ ]
not_dialled t start now status.Cut d output = elim d [ ]
not_dialled t start now status.StationFault d output = record { ran = inl (record { station = d.0; output = output }); causes = d.1 }
not_dialled t start now status.NoMemory d output = record { ran = inl (record { station = d; output = output }); causes = tt }

-- # Hanging up

pub hangs_line : (a b : Option StationTold) (now : LineNow) (o : Option Origin) (l h : Option Bytes) (r w : ℕ) → IsGivenBack now o l h r w → Hangs a b (EndsTell o l h r w) → HangsLine a b now
hangs_line a b now o l h r w g x =
    subst (λ (y : Option Origin). Hangs a b (EndsTell y now.left now.held now.read_faults now.write_faults)) g.origin_is
    (subst (λ (y : Option Bytes). Hangs a b (EndsTell o y now.held now.read_faults now.write_faults)) g.left_is
    (subst (λ (y : Option Bytes). Hangs a b (EndsTell o l y now.read_faults now.write_faults)) g.held_is
    (subst (λ (y : ℕ). Hangs a b (EndsTell o l h y now.write_faults)) g.reads
    (subst (λ (y : ℕ). Hangs a b (EndsTell o l h r y)) g.writes x))))

pub counts_line : (before after : ℕ) (now : LineNow) (o : Option Origin) (l h : Option Bytes) (r w : ℕ) → IsGivenBack now o l h r w → RoseWhere (has_fault r w) before after → RoseWhere (link_fails now) before after
counts_line before after now o l h r w g x =
    subst (λ (y : ℕ). RoseWhere (has_fault y now.write_faults) before after) g.reads (subst (λ (y : ℕ). RoseWhere (has_fault r y) before after) g.writes x)

-- # The end

ends_stopped : (t : Task) (s : Story) (why : AgentStatus) → StopsAt t s why → EndsAt t s why
ends_stopped t s status.Done x = elim x [ ]
ends_stopped t s status.Refused x = x
ends_stopped t s status.Usage x = x
ends_stopped t s status.TreeFault x = x
ends_stopped t s status.RuleFile x = x
ends_stopped t s status.StationFault x = x
ends_stopped t s status.WriteFault x = x
ends_stopped t s (status.BadShake fault) x = x
ends_stopped t s (status.BadBytes kind at) x = x
ends_stopped t s status.Cut x = x
ends_stopped t s status.NoMemory x = x

pub attended : (t : Task) (start now after : Outside) (desk : LineNow) (helper : Option LineNow) → Standing t start now desk helper → desk.sent ≡ t.count + 1 → HangsUp now.station after.station desk helper → AreUsedUp desk helper → after.output ≡ now.output → Attends t start after status.Done
attended t start now after desk helper st sent hangs used output = record {
  ran = inr (record {
    story = st.story;
    hung = hung_up t start now after.station desk helper st.story st.of hangs used;
    printed = subst (λ (o : Option Bytes). Got start.output o st.story.printed) (sym output) st.of.printed;
    ends = (st.ready, omega (arith, sent, st.sent));
  });
  causes = tt;
}

pub attended_stopped : (t : Task) (start now after : Outside) (desk : LineNow) (helper : Option LineNow) (why : AgentStatus) → Stopped t start now desk helper why → HangsUp now.station after.station desk helper → AreUsedUp desk helper → CountsLinks now.station_faults after.station_faults desk helper → after.output ≡ now.output → after.output_faults ≡ now.output_faults
    → Attends t start after why
attended_stopped t start now after desk helper why st hangs used counts output faults = record {
  ran = inr (record {
    story = st.story;
    hung = hung_up t start now after.station desk helper st.story st.of hangs used;
    printed = subst (λ (o : Option Bytes). Got start.output o st.story.printed) (sym output) st.of.printed;
    ends = ends_stopped t st.story why st.stops;
  });
  causes = counts_rose start now after desk helper why st.cause st.of.station_later counts faults;
}
