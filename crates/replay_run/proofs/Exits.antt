-- What a replay knows at each turn, and at each of its exits.
use Rattle.std.proofs.Common.{◌≡◌, ◌++◌, [], ◌∷◌, ◌+◌, List, ℕ, Bool, true, false, Option, None, Result, Err, refl, sym, ◌∙◌, ap, subst, length, arith, append_assoc, append-nil, length-append, inl, inr}
use Rattle.pk_outside.specs.Streams.{Gave, Got}
use Rattle.pk_outside.proofs.Written.{Gave-none, Gave-more, Got-none, Got-more}
use Rattle.pk_types.specs.Pieces.{lines_of}
use Rattle.pk_types.proofs.Cuts.{lines_of-cut, lines_of-last}
use Rattle.source_buffer.specs.Reading.{Takes}
use Rattle.source_buffer.specs.declared.lines.LineRead.TheVariants as line_read
use Rattle.authority_model.specs.declared.journal.Item.{Item}
use Rattle.authority_model.specs.Legal.{Legal}
use Rattle.authority_laws.proofs.Tracing.{access}
use Rattle.scenario_text.specs.declared.fault.LineKind.TheVariants as kind
use Rattle.scenario_run.specs.Room.{IsInSegments}
use Rattle.scenario_run.specs.Scene.{Scene}
use Rattle.scenario_run.specs.Text.{text_of}
use Rattle.replay_run.specs.declared.ends.Stopped.{Stopped}
use Rattle.replay_run.specs.declared.ends.Stopped.TheVariants as stopped
use Rattle.replay_run.specs.declared.ends.ReplayEnd.{ReplayEnd}
use Rattle.replay_run.specs.declared.ends.ReplayEnd.TheVariants as end
use Rattle.replay_run.specs.Lines.{IsLineCutOff, IsLineAnswered, LineDone, end_of}
use Rattle.replay_run.specs.Telling.{told, OnlyTold}
use Rattle.replay_run.specs.Replay.{Ran, run, replayed, Whatever, IsBegun, IsFront, IsRun, Halt, Halts, Played, Plays}
use Rattle.replay_run.proofs.Grows.{run_keeping}
use Rattle.replay_run.proofs.Runs.{Clean, joined, ran_to, run-append, run-one, lines_of-joined, joined-one, clean_one, history_at, halt_at, extends_at, next_extends, has_fault, is_filled, Begins, whatever_map, too_long_at}

-- nothing was told of no text
told_none : (tells : Bool) (held : Option (List ℕ)) → Got held held (told tells [])
told_none true held = Got-none held
told_none false held = Got-none held

told_append : (tells : Bool) (a b : List ℕ) → told tells (a ++ b) ≡ told tells a ++ told tells b
told_append true a b = refl
told_append false a b = refl

-- one text was told, and then what makes the next one of it
told_more : (tells : Bool) (a b c : Option (List ℕ)) (text added next : List ℕ) → next ≡ text ++ added → Got a b (told tells text) → Got b c (told tells added) → Got a c (told tells next)
told_more tells a b c text added next e p q =
    subst (λ (t : List ℕ). Got a c t) (sym (ap (told tells) e ∙ told_append tells text added)) (Got-more a b c (told tells text) (told tells added) p q)

only_told : (tells : Bool) (P Q : Type 0) → (tells ≡ true → P → Q) → OnlyTold tells P → OnlyTold tells Q
only_told true P Q f p = f refl p
only_told false P Q f p = absurd p

-- At each turn these bytes were read, and of them the lines so far ran without a fault and were answered.
pub record SoFar (tells : Bool) (begin : Scene) (left_before left : Option (List ℕ)) (pending : List ℕ) (scene : Scene) (n : ℕ) (before held : Option (List ℕ)) : Type 0 where
  pub read : List ℕ
  pub lines : List (List ℕ)
  pub gave : Gave left_before left read
  pub whole : read ≡ joined lines ++ pending
  pub clean : Clean lines
  pub ran : run lines 1 begin ≡ ran_to scene None
  pub number : n ≡ 1 + length lines
  pub legal : Legal scene.past
  pub written : Got before held (told tells (text_of scene.past))

-- the run of the bytes, and of any that follow, goes on after the lines so far
replayed_is : {tells : Bool} {begin : Scene} {l0 l before held : Option (List ℕ)} {pending : List ℕ} {s : Scene} {n : ℕ} (so : SoFar tells begin l0 l pending s n before held) (more : List ℕ)
    → replayed begin (so.read ++ more) ≡ run (lines_of (pending ++ more)) n s
replayed_is {tells = tells} {begin = begin} {pending = pending} {s = s} {n = n} so more =
    ap (λ b. run (lines_of b) 1 begin) (ap (λ r. r ++ more) so.whole ∙ append_assoc (joined so.lines) pending more)
    ∙ ap (λ ls. run ls 1 begin) (lines_of-joined so.lines (pending ++ more) so.clean)
    ∙ run-append so.lines (lines_of (pending ++ more)) 1 begin s so.ran
    ∙ ap (λ k. run (lines_of (pending ++ more)) k s) (sym so.number)

replayed_on : {tells : Bool} {begin : Scene} {l0 l before held : Option (List ℕ)} {pending : List ℕ} {s : Scene} {n : ℕ} (so : SoFar tells begin l0 l pending s n before held) (got more : List ℕ)
    → replayed begin ((so.read ++ got) ++ more) ≡ run (lines_of ((pending ++ got) ++ more)) n s
replayed_on {tells = tells} {begin = begin} {pending = pending} {s = s} {n = n} so got more =
    ap (replayed begin) (append_assoc so.read got more) ∙ replayed_is so (got ++ more) ∙ ap (λ b. run (lines_of b) n s) (sym (append_assoc pending got more))

pub begins_line : {tells : Bool} {begin : Scene} {l0 l before held : Option (List ℕ)} {pending : List ℕ} {s : Scene} {n : ℕ} (so : SoFar tells begin l0 l pending s n before held) (ended : Bool) (got new line : List ℕ)
    → Takes 4096 ended (pending ++ got) new line line_read.Line → Whatever ended (Begins begin line n s) (so.read ++ got)
begins_line {tells = tells} {begin = begin} {s = s} {n = n} so ended got new line t = inr (λ more. (
  lines_of (new ++ more),
  replayed_on so got more
      ∙ ap (λ ls. run ls n s) (ap (λ b. lines_of (b ++ more)) t.whole ∙ ap lines_of (append_assoc line (10 ∷ new) more) ∙ lines_of-cut line (new ++ more) t.lacks),
))

pub begins_last : {tells : Bool} {begin : Scene} {l0 l before held : Option (List ℕ)} {pending : List ℕ} {s : Scene} {n : ℕ} (so : SoFar tells begin l0 l pending s n before held) (ended : Bool) (got new line : List ℕ)
    → Takes 4096 ended (pending ++ got) new line line_read.Last → Whatever ended (Begins begin line n s) (so.read ++ got)
begins_last {tells = tells} {begin = begin} {s = s} {n = n} so ended got new line t =
    inl (t.at_end, ([], replayed_is so got ∙ ap (λ ls. run ls n s) (ap lines_of t.whole ∙ lines_of-last line t.lacks t.some)))

-- before the first line
pub at_first : (tells : Bool) (begin : Scene) (left held : Option (List ℕ)) (pending : List ℕ) → pending ≡ [] → begin.past ≡ [] → SoFar tells begin left left pending begin 1 held held
at_first tells begin left held pending none empty = record {
  read = [];
  lines = [];
  gave = Gave-none left;
  whole = sym none;
  clean = tt;
  ran = refl;
  number = refl;
  legal = subst Legal (sym empty) tt;
  written = subst (λ past. Got held held (told tells (text_of past))) (sym empty) (told_none tells held);
}

-- one more line
pub go_on : {tells : Bool} {begin : Scene} {l0 l before held : Option (List ℕ)} {pending : List ℕ} {s : Scene} {n : ℕ} (so : SoFar tells begin l0 l pending s n before held) (ended : Bool) (l' held' : Option (List ℕ))
    (got pending' line : List ℕ) (s' : Scene) → Gave l l' got → Takes 4096 ended (pending ++ got) pending' line line_read.Line → IsLineAnswered tells s line s' held held'
    → SoFar tells begin l0 l' pending' s' (n + 1) before held'
go_on {tells = tells} {begin = begin} {l0 = l0} {l = l} {before = before} {held = held} {pending = pending} {s = s} {n = n} so ended l' held' got pending' line s' g t a = record {
  read = so.read ++ got;
  lines = so.lines ++ line ∷ [];
  gave = Gave-more l0 l l' so.read got so.gave g;
  whole = ap (λ r. r ++ got) so.whole ∙ append_assoc (joined so.lines) pending got
      ∙ ap (λ r. joined so.lines ++ r) (t.whole ∙ sym (append_assoc line (10 ∷ []) pending'))
      ∙ sym (append_assoc (joined so.lines) (line ++ 10 ∷ []) pending') ∙ ap (λ b. b ++ pending') (sym (joined-one so.lines line));
  clean = clean_one so.lines line so.clean t.lacks;
  ran = run-append so.lines (line ∷ []) 1 begin s so.ran ∙ run-one s s' line (1 + length so.lines) a.ran;
  number = omega (arith, so.number, length-append so.lines (line ∷ []));
  legal = a.legal;
  written = told_more tells before held held' (text_of s.past) a.added (text_of s'.past) a.text so.written a.written;
}

-- memory was refused between two lines, or in a line before it was answered
pub no_memory : {tells : Bool} {begin : Scene} {l0 l before held : Option (List ℕ)} {pending : List ℕ} {s : Scene} {n : ℕ} (so : SoFar tells begin l0 l pending s n before held) (ended : Bool) (l' held' : Option (List ℕ))
    (got : List ℕ) → Gave l l' got → held' ≡ held → Plays tells [] begin l0 l' ended before held' end.NoMemory
no_memory {tells = tells} {begin = begin} {l0 = l0} {l = l} {before = before} {pending = pending} {s = s} {n = n} so ended l' held' got g same = record {
  read = so.read ++ got;
  written = told tells (text_of s.past);
  past = s.past;
  gave = Gave-more l0 l l' so.read got so.gave g;
  got = subst (λ (h : Option (List ℕ)). Got before h (told tells (text_of s.past))) (sym same) so.written;
  legal = so.legal;
  licensed = access s.past so.legal;
  run = (inr (λ more. extends_at begin ((so.read ++ got) ++ more) (lines_of ((pending ++ got) ++ more)) n s (replayed_on so got more)), ([], sym (append-nil (told tells (text_of s.past)))));
}

-- where the text is told: the history reached so far, and a prefix of its text
cut_gives : {begin : Scene} {l0 l before held : Option (List ℕ)} {pending : List ℕ} {s : Scene} {n : ℕ} (so : SoFar true begin l0 l pending s n before held) (ended : Bool) (l' held' : Option (List ℕ))
    (got line : List ℕ) (st : ReplayEnd)
    → ((read : List ℕ) (past : List Item) (written : List ℕ) → Whatever ended (IsBegun begin past) read × IsFront written (text_of past) → Played true [] begin ended read past written st)
    → Gave l l' got → Whatever ended (Begins begin line n s) (so.read ++ got) → IsLineCutOff s line held held' → Plays true [] begin l0 l' ended before held' st
cut_gives {begin = begin} {l0 = l0} {l = l} {before = before} {held = held} {s = s} {n = n} so ended l' held' got line st is g a cut = record {
  read = so.read ++ got;
  written = text_of s.past ++ cut.front.1.0;
  past = cut.next.past;
  gave = Gave-more l0 l l' so.read got so.gave g;
  got = Got-more before held held' (text_of s.past) cut.front.1.0 so.written cut.front.1.2;
  legal = cut.legal;
  licensed = access cut.next.past cut.legal;
  run = is (so.read ++ got) cut.next.past (text_of s.past ++ cut.front.1.0) (
    whatever_map (Begins begin line n s) (IsBegun begin cut.next.past) ended (so.read ++ got)
        (λ bytes b. next_extends begin bytes line b.0 n s cut.next b.1 cut.ran) a,
    (cut.front.0, cut.text ∙ ap (λ t. text_of s.past ++ t) cut.front.1.1 ∙ sym (append_assoc (text_of s.past) cut.front.1.0 cut.front.0)),
  );
}

-- the output failed, or memory was refused, in a line that was told in part
write_fault : (tells : Bool) {begin : Scene} {l0 l before held : Option (List ℕ)} {pending : List ℕ} {s : Scene} {n : ℕ} (so : SoFar tells begin l0 l pending s n before held) (ended : Bool) (l' held' : Option (List ℕ))
    (got line : List ℕ) → Gave l l' got → Whatever ended (Begins begin line n s) (so.read ++ got) → OnlyTold tells (IsLineCutOff s line held held') → Plays tells [] begin l0 l' ended before held' end.WriteFault
write_fault true so ended l' held' got line g a cut = cut_gives so ended l' held' got line end.WriteFault (λ read past written p. p) g a cut
write_fault false so ended l' held' got line g a cut = absurd cut

memory_cut : (tells : Bool) {begin : Scene} {l0 l before held : Option (List ℕ)} {pending : List ℕ} {s : Scene} {n : ℕ} (so : SoFar tells begin l0 l pending s n before held) (ended : Bool) (l' held' : Option (List ℕ))
    (got line : List ℕ) → Gave l l' got → Whatever ended (Begins begin line n s) (so.read ++ got) → OnlyTold tells (IsLineCutOff s line held held') → Plays tells [] begin l0 l' ended before held' end.NoMemory
memory_cut true so ended l' held' got line g a cut = cut_gives so ended l' held' got line end.NoMemory (λ read past written p. p) g a cut
memory_cut false so ended l' held' got line g a cut = absurd cut

-- the file of the segments failed in a line
segment_fault : {tells : Bool} {begin : Scene} {l0 l before held : Option (List ℕ)} {pending : List ℕ} {s : Scene} {n : ℕ} (so : SoFar tells begin l0 l pending s n before held) (ended : Bool) (l' held' : Option (List ℕ))
    (got : List ℕ) → Gave l l' got → IsInSegments s.keeping → held' ≡ held → Plays tells [] begin l0 l' ended before held' end.SegmentFault
segment_fault {tells = tells} {begin = begin} {l0 = l0} {l = l} {before = before} {pending = pending} {s = s} {n = n} so ended l' held' got g none same = record {
  read = so.read ++ got;
  written = told tells (text_of s.past);
  past = s.past;
  gave = Gave-more l0 l l' so.read got so.gave g;
  got = subst (λ (h : Option (List ℕ)). Got before h (told tells (text_of s.past))) (sym same) so.written;
  legal = so.legal;
  licensed = access s.past so.legal;
  run = (subst IsInSegments (sym (sym (run_keeping so.lines 1 begin) ∙ ap (λ (r : Ran). r.scene.keeping) so.ran)) none, inr (λ more. extends_at begin ((so.read ++ got) ++ more) (lines_of ((pending ++ got) ++ more)) n s (replayed_on so got more)), refl);
}

-- a line that stopped the run
pub stopped_gives : (e : Stopped) {tells : Bool} {begin : Scene} {l0 l before held : Option (List ℕ)} {pending : List ℕ} {s : Scene} {n : ℕ} (so : SoFar tells begin l0 l pending s n before held) (ended : Bool) (l' held' : Option (List ℕ))
    (got line : List ℕ) (s' : Scene) → Gave l l' got → Whatever ended (Begins begin line n s) (so.read ++ got) → LineDone tells s line s' held held' (Err e)
    → Plays tells [] begin l0 l' ended before held' (end_of e n)
stopped_gives (stopped.Fault k) {tells = tells} {begin = begin} {l0 = l0} {l = l} {before = before} {held = held} {s = s} {n = n} so ended l' held' got line s' g a done = record {
  read = so.read ++ got;
  written = told tells (text_of s.past);
  past = s.past;
  gave = Gave-more l0 l l' so.read got so.gave g;
  got = subst (λ (h : Option (List ℕ)). Got before h (told tells (text_of s.past))) (sym done.1) so.written;
  legal = so.legal;
  licensed = access s.past so.legal;
  run = (
    whatever_map (Begins begin line n s) (Halts begin s.past (Halt.Fault n k)) ended (so.read ++ got) (λ bytes b. has_fault begin bytes line b.0 n s k b.1 done.0) a,
    refl,
  );
}
stopped_gives (stopped.Full full) {tells = tells} {begin = begin} {l0 = l0} {l = l} {before = before} {held = held} {s = s} {n = n} so ended l' held' got line s' g a done = record {
  read = so.read ++ got;
  written = told tells (text_of s.past);
  past = s'.past;
  gave = Gave-more l0 l l' so.read got so.gave g;
  got = subst (λ (h : Option (List ℕ)). Got before h (told tells (text_of s.past))) (sym done.1) so.written;
  legal = done.0.legal;
  licensed = access s'.past done.0.legal;
  run = (
    whatever_map (Begins begin line n s) (Halts begin s'.past (Halt.Full (record { entries = full.entries; bytes = full.bytes }))) ended (so.read ++ got)
        (λ bytes' b. is_filled begin bytes' line b.0 n s s' (record { entries = full.entries; bytes = full.bytes }) b.1 done.0.ran) a,
    ap (told tells) (sym done.0.text),
  );
}
stopped_gives stopped.SegmentFault so ended l' held' got line s' g a done = segment_fault so ended l' held' got g done.0 done.1
stopped_gives stopped.WriteFault {tells = tells} so ended l' held' got line s' g a done = write_fault tells so ended l' held' got line g a done
stopped_gives stopped.NoMemory so ended l' held' got line s' g a (inl same) = no_memory so ended l' held' got g same
stopped_gives stopped.NoMemory {tells = tells} so ended l' held' got line s' g a (inr cut) = memory_cut tells so ended l' held' got line g a cut

-- the run ended where the bytes ended
pub done_end : {tells : Bool} {begin : Scene} {l0 l before held : Option (List ℕ)} {pending : List ℕ} {s : Scene} {n : ℕ} (so : SoFar tells begin l0 l pending s n before held) (ended : Bool) (l' : Option (List ℕ))
    (got pending' line : List ℕ) → Gave l l' got → Takes 4096 ended (pending ++ got) pending' line line_read.End → Plays tells [] begin l0 l' ended before held end.Done
done_end {tells = tells} {begin = begin} {l0 = l0} {l = l} {s = s} {n = n} so ended l' got pending' line g t =
    let ran : replayed begin (so.read ++ got) ≡ ran_to s None = replayed_is so got ∙ ap (λ b. run (lines_of b) n s) t.whole in
    record {
      read = so.read ++ got;
      written = told tells (text_of s.past);
      past = s.past;
      gave = Gave-more l0 l l' so.read got so.gave g;
      got = so.written;
      legal = so.legal;
      licensed = access s.past so.legal;
      run = (t.at_end, halt_at begin (so.read ++ got) _ ran, history_at begin (so.read ++ got) _ ran, refl);
    }

-- the run ended after a last line
pub done_last : {tells : Bool} {begin : Scene} {l0 l before held : Option (List ℕ)} {pending : List ℕ} {s : Scene} {n : ℕ} (so : SoFar tells begin l0 l pending s n before held) (ended : Bool) (l' held' : Option (List ℕ))
    (got pending' line : List ℕ) (s' : Scene) → Gave l l' got → Takes 4096 ended (pending ++ got) pending' line line_read.Last → IsLineAnswered tells s line s' held held'
    → Plays tells [] begin l0 l' ended before held' end.Done
done_last {tells = tells} {begin = begin} {l0 = l0} {l = l} {before = before} {held = held} {s = s} {n = n} so ended l' held' got pending' line s' g t a =
    let one : lines_of line ≡ line ∷ [] = lines_of-last line t.lacks t.some in
    let ran : replayed begin (so.read ++ got) ≡ ran_to s' None =
    replayed_is so got ∙ ap (λ b. run (lines_of b) n s) t.whole ∙ ap (λ x. run x n s) one ∙ run-one s s' line n a.ran in
    record {
      read = so.read ++ got;
      written = told tells (text_of s'.past);
      past = s'.past;
      gave = Gave-more l0 l l' so.read got so.gave g;
      got = told_more tells before held held' (text_of s.past) a.added (text_of s'.past) a.text so.written a.written;
      legal = a.legal;
      licensed = access s'.past a.legal;
      run = (t.at_end, halt_at begin (so.read ++ got) _ ran, history_at begin (so.read ++ got) _ ran, refl);
    }

-- the source failed after whole lines
pub cut_off : {tells : Bool} {begin : Scene} {l0 l before held : Option (List ℕ)} {pending : List ℕ} {s : Scene} {n : ℕ} (so : SoFar tells begin l0 l pending s n before held) (ended : Bool) (l' : Option (List ℕ))
    (got pending' line : List ℕ) → Gave l l' got → Takes 4096 ended (pending ++ got) pending' line line_read.ReadFault → Plays tells [] begin l0 l' ended before held end.ReadFault
cut_off {tells = tells} {begin = begin} {l0 = l0} {l = l} {pending = pending} {s = s} so ended l' got pending' line g t =
    let ran : replayed begin (joined so.lines) ≡ ran_to s None =
    ap (λ b. run (lines_of b) 1 begin) (sym (append-nil (joined so.lines))) ∙ ap (λ ls. run ls 1 begin) (lines_of-joined so.lines [] so.clean ∙ append-nil so.lines) ∙ so.ran in
    record {
      read = so.read ++ got;
      written = told tells (text_of s.past);
      past = s.past;
      gave = Gave-more l0 l l' so.read got so.gave g;
      got = so.written;
      legal = so.legal;
      licensed = access s.past so.legal;
      run = (
        record {
          whole = joined so.lines;
          part = line;
          read_is = ap (λ r. r ++ got) so.whole ∙ append_assoc (joined so.lines) pending got
              ∙ ap (λ r. joined so.lines ++ r) (t.0.whole ∙ ap (λ p. line ++ p) t.1 ∙ append-nil line);
          ends = record { lines = so.lines; joined = refl };
          no_line = t.0.lacks;
          no_halt = halt_at begin (joined so.lines) _ ran;
          history_is = history_at begin (joined so.lines) _ ran;
        },
        refl,
      );
    }

-- a line over the greatest length came
pub too_long : {tells : Bool} {begin : Scene} {l0 l before held : Option (List ℕ)} {pending : List ℕ} {s : Scene} {n : ℕ} (so : SoFar tells begin l0 l pending s n before held) (ended : Bool) (l' : Option (List ℕ))
    (got pending' line : List ℕ) → Gave l l' got → Takes 4096 ended (pending ++ got) pending' line line_read.TooLong
    → Plays tells [] begin l0 l' ended before held (end_of (stopped.Fault kind.TooLong) n)
too_long {tells = tells} {begin = begin} {l0 = l0} {l = l} {s = s} {n = n} so ended l' got pending' line g t = record {
  read = so.read ++ got;
  written = told tells (text_of s.past);
  past = s.past;
  gave = Gave-more l0 l l' so.read got so.gave g;
  got = so.written;
  legal = so.legal;
  licensed = access s.past so.legal;
  run = (
    inr (λ more. too_long_at begin ((so.read ++ got) ++ more) line (pending' ++ more) s n
        (replayed_on so got more ∙ ap (λ b. run (lines_of b) n s) (ap (λ b. b ++ more) t.whole ∙ append_assoc line pending' more)) t.lacks (omega (arith, t.long))),
    refl,
  );
}

-- the same line under another name, and what is told by another name
pub done_line : (tells tells' : Bool) (s s' : Scene) (line other : List ℕ) (before held : Option (List ℕ)) (r : Result (Unit {0}) Stopped) → tells ≡ tells' → line ≡ other
    → LineDone tells s line s' before held r → LineDone tells' s other s' before held r
done_line tells tells' s s' line other before held r same e done =
    subst (λ (b : Bool). LineDone b s other s' before held r) same (subst (λ (l : List ℕ). LineDone tells s l s' before held r) e done)

-- the whole input was run where the bytes ended
pub whole_end : {tells : Bool} {begin : Scene} {l0 l before held : Option (List ℕ)} {pending : List ℕ} {s : Scene} {n : ℕ} (so : SoFar tells begin l0 l pending s n before held) (ended : Bool) (l' : Option (List ℕ))
    (got pending' line : List ℕ) → Gave l l' got → Takes 4096 ended (pending ++ got) pending' line line_read.End → IsRun begin l0 l' ended s.past
whole_end {begin = begin} {l0 = l0} {l = l} {s = s} {n = n} so ended l' got pending' line g t =
    let ran : replayed begin (so.read ++ got) ≡ ran_to s None = replayed_is so got ∙ ap (λ b. run (lines_of b) n s) t.whole in
    record {
      read = so.read ++ got;
      gave = Gave-more l0 l l' so.read got so.gave g;
      all = t.at_end;
      no_halt = halt_at begin (so.read ++ got) _ ran;
      history_is = history_at begin (so.read ++ got) _ ran;
    }

-- and where it ended after a last line
pub whole_last : {tells : Bool} {begin : Scene} {l0 l before held : Option (List ℕ)} {pending : List ℕ} {s : Scene} {n : ℕ} (so : SoFar tells begin l0 l pending s n before held) (ended : Bool) (l' held' : Option (List ℕ))
    (got pending' line : List ℕ) (s' : Scene) → Gave l l' got → Takes 4096 ended (pending ++ got) pending' line line_read.Last → IsLineAnswered tells s line s' held held'
    → IsRun begin l0 l' ended s'.past
whole_last {begin = begin} {l0 = l0} {l = l} {s = s} {n = n} so ended l' held' got pending' line s' g t a =
    let one : lines_of line ≡ line ∷ [] = lines_of-last line t.lacks t.some in
    let ran : replayed begin (so.read ++ got) ≡ ran_to s' None =
    replayed_is so got ∙ ap (λ b. run (lines_of b) n s) t.whole ∙ ap (λ x. run x n s) one ∙ run-one s s' line n a.ran in
    record {
      read = so.read ++ got;
      gave = Gave-more l0 l l' so.read got so.gave g;
      all = t.at_end;
      no_halt = halt_at begin (so.read ++ got) _ ran;
      history_is = history_at begin (so.read ++ got) _ ran;
    }
