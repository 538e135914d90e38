-- How a run over a journal in segments ends.
use Rattle.std.proofs.Common.{◌≡◌, ℕ, ◌<◌, ◌≤◌, Bool, true, false, List, [], ◌∷◌, ◌++◌, Option, Some, None, IfSome, refl, ap, sym, subst, ◌∙◌, arith, append-nil, inl, inr}
use Rattle.std.specs.Prelude.{nat_lt}
use Rattle.std.proofs.lemmas.Bool.Decides.{nat_tests}
use Rattle.pk_outside.specs.Causes.{Rose, RoseWhere}
use Rattle.pk_outside.specs.Files.{FileTells}
use Rattle.pk_outside.specs.Stations.{MakesFile, StationTold, TakesFile}
use Rattle.authority_model.specs.declared.journal.Item.{Item}
use Rattle.scenario_run.specs.Room.{IsInSegments}
use Rattle.scenario_run.specs.Scene.{Scene}
use Rattle.replay_run.specs.declared.ends.ReplayEnd.{ReplayEnd}
use Rattle.replay_run.specs.declared.ends.ReplayEnd.TheVariants as end
use Rattle.replay_run.specs.Replay.{Plays, Played}
use Rattle.replay_segments.specs.Ends.{HasEnded, HasFiled, IsBack, StationFaults}

-- the run of the lines, by how the whole run ended
played_so : (begin : Scene) (ended : Bool) (read : List ℕ) (past : List Item) (written : List ℕ) (e now : ReplayEnd) → IsInSegments begin.keeping → HasEnded e now → Played true [] begin ended read past written e
    → Played true [] begin ended read past written now
played_so begin ended read past written end.Done now kept (inl same) r = subst (Played true [] begin ended read past written) (sym same) r
played_so begin ended read past written end.Done now kept (inr (inl same)) r = subst (Played true [] begin ended read past written) (sym same) (kept, inl (r.0, ([], r.2)), r.3)
played_so begin ended read past written end.Done now kept (inr (inr same)) r = subst (Played true [] begin ended read past written) (sym same) (inl (r.0, ([], r.2)), ([], sym (append-nil written ∙ r.3)))
played_so begin ended read past written end.SegmentFault now kept (inl same) r = subst (Played true [] begin ended read past written) (sym same) r
played_so begin ended read past written end.SegmentFault now kept (inr same) r = subst (Played true [] begin ended read past written) (sym same) (r.1, ([], sym (append-nil written ∙ r.2)))
played_so begin ended read past written (end.TreeFault count) now kept same r = absurd r
played_so begin ended read past written (end.LoadRefused why) now kept same r = absurd r
played_so begin ended read past written end.ReadFault now kept same r = subst (Played true [] begin ended read past written) (sym same) r
played_so begin ended read past written end.WriteFault now kept same r = subst (Played true [] begin ended read past written) (sym same) r
played_so begin ended read past written (end.Full full) now kept same r = subst (Played true [] begin ended read past written) (sym same) r
played_so begin ended read past written (end.BadLine line kind) now kept same r = subst (Played true [] begin ended read past written) (sym same) r
played_so begin ended read past written end.NoMemory now kept same r = subst (Played true [] begin ended read past written) (sym same) r

pub plays_so : (begin : Scene) (l0 l : Option (List ℕ)) (ended : Bool) (before held : Option (List ℕ)) (e now : ReplayEnd) → IsInSegments begin.keeping → HasEnded e now → Plays true [] begin l0 l ended before held e
    → Plays true [] begin l0 l ended before held now
plays_so begin l0 l ended before held e now kept so p = record {
  read = p.read;
  written = p.written;
  past = p.past;
  gave = p.gave;
  got = p.got;
  legal = p.legal;
  licensed = p.licensed;
  run = played_so begin ended p.read p.past p.written e now kept so p.run;
}

-- what was done was done before
pub done_before : (e now : ReplayEnd) → HasEnded e now → now ≡ end.Done → e ≡ end.Done
done_before end.Done now so is = refl
done_before end.SegmentFault now (inl same) is = absurd (cc)
done_before end.SegmentFault now (inr same) is = absurd (cc)
done_before (end.TreeFault count) now same is = sym same ∙ is
done_before (end.LoadRefused why) now same is = sym same ∙ is
done_before end.ReadFault now same is = sym same ∙ is
done_before end.WriteFault now same is = sym same ∙ is
done_before (end.Full full) now same is = sym same ∙ is
done_before (end.BadLine line kind) now same is = sym same ∙ is
done_before end.NoMemory now same is = sym same ∙ is

-- a file that came back holds what it told
pub back_is : (before now : Option StationTold) (at held : Option (List ℕ)) (faults : ℕ) (text : List ℕ) → TakesFile before now (FileTells at held faults) → IfSome held (λ bytes. bytes ≡ text) → faults ≡ 0 → IsBack before now at text
back_is None None at held faults text takes is sound = tt
back_is None (Some b) at held faults text takes is sound = absurd takes
back_is (Some a) None at held faults text takes is sound = absurd takes
back_is (Some a) (Some b) at held faults text takes is sound =
    (takes.0, (takes.1.path, subst (λ (h : Option (List ℕ)). IfSome h (λ bytes. bytes ≡ text)) takes.1.written is, sym takes.1.count ∙ sound), takes.2)

-- it was made at the path
pub filed_is : (before made now : Option StationTold) (path bytes : List ℕ) (at held : Option (List ℕ)) → MakesFile path before made at held → IsBack made now at bytes → HasFiled path bytes before now
filed_is None None None path bytes at held makes back = tt
filed_is None None (Some c) path bytes at held makes back = absurd back
filed_is None (Some b) now path bytes at held makes back = absurd makes
filed_is (Some a) None now path bytes at held makes back = absurd makes
filed_is (Some a) (Some b) None path bytes at held makes back = absurd back
filed_is (Some a) (Some b) (Some c) path bytes at held makes back =
    let p : back.0.path ≡ path = (let e = sym back.1.0 ∙ makes.0 in cc) in
    back.2 ∙ ap (λ (t : StationTold). record t { filed = t.filed ++ back.0 ∷ [] }) makes.2
    ∙ ap (λ x. record a { made = a.made ++ path ∷ []; filed = a.filed ++ record { path = x; written = back.0.written; faults = back.0.faults } ∷ [] }) p
    ∙ ap (λ x. record a { made = a.made ++ path ∷ []; filed = a.filed ++ record { path = path; written = x; faults = back.0.faults } ∷ [] }) back.1.1
    ∙ ap (λ x. record a { made = a.made ++ path ∷ []; filed = a.filed ++ record { path = path; written = bytes; faults = x } ∷ [] }) back.1.2

rose_later : (b : Bool) (before now : ℕ) → RoseWhere b before now → before ≤ now
rose_later true before now r = r.0
rose_later false before now r = omega (arith, r)

rose_where : (faults before now : ℕ) → 0 < faults → RoseWhere (nat_lt 0 faults) before now → Rose before now
rose_where faults before now some r = let e : nat_lt 0 faults ≡ true = grind (arith, nat_tests) in (subst (λ b. RoseWhere b before now) e r).1

-- the station's count rose where the file had failed
pub station_so : (e : ReplayEnd) (faults before now : ℕ) → (e ≡ end.SegmentFault → 0 < faults) → RoseWhere (nat_lt 0 faults) before now → StationFaults before now e
station_so end.SegmentFault faults before now some r = rose_where faults before now (some refl) r
station_so end.Done faults before now some r = rose_later (nat_lt 0 faults) before now r
station_so (end.TreeFault count) faults before now some r = rose_later (nat_lt 0 faults) before now r
station_so (end.LoadRefused why) faults before now some r = rose_later (nat_lt 0 faults) before now r
station_so end.ReadFault faults before now some r = rose_later (nat_lt 0 faults) before now r
station_so end.WriteFault faults before now some r = rose_later (nat_lt 0 faults) before now r
station_so (end.Full full) faults before now some r = rose_later (nat_lt 0 faults) before now r
station_so (end.BadLine line kind) faults before now some r = rose_later (nat_lt 0 faults) before now r
station_so end.NoMemory faults before now some r = rose_later (nat_lt 0 faults) before now r
