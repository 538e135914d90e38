-- What a sighter did, as the history grows.
use Rattle.std.proofs.Common.{◌≡◌, ◌≢◌, ℕ, Bool, true, false, cond, List, Some, [], ◌∷◌, ◌++◌, refl, ap, sym, ◌∙◌, subst, append_assoc}
use Rattle.std.specs.Prelude.{is_some, not}
use Rattle.std.specs.List.{filter, find}
use Rattle.std.proofs.lemmas.List.{append-nil}
use Rattle.std.proofs.lemmas.List.Elements.{All-head, All-tail}
use Rattle.history_lock.specs.Known.{Known}
use Rattle.history_lock.specs.Entries.{NoneBy, GrownByOthers}
use Rattle.history_lock.specs.Calls.{Learned}
use Rattle.history_lock.proofs.Prefixes.{prefix_self}
use Rattle.authority_core.specs.Unlisting.{is_process, lists_process, unlisted}
use Rattle.authority_model.specs.declared.journal.Item.{Item}
use Rattle.authority_model.specs.declared.journal.Limits.{Limits}
use Rattle.authority_model.specs.declared.load.Loaded.{Loaded}
use Rattle.authority_model.specs.Given.{load_given, next}
use Rattle.authority_model.specs.Items.{loaded_of}
use Rattle.shared_authority.specs.Journals.{IsJournal, caller_of, past_of}
use Rattle.shared_authority.specs.declared.refused.SubmitUnlistRefused.{SubmitUnlistRefused}
use Rattle.shared_authority.specs.declared.refused.SubmitUnlistRefused.TheVariants as submit_unlist
use Rattle.shared_authority.specs.Passes.{IsNotListed, SubmitUnlistIsRefused, Unlisted}
use Rattle.connection_lookout.specs.Unlistings.{DidUnlist, IsUnlisting, UnlistedLast}
use Rattle.connection_lookout.specs.Watching.{LacksProcess}
use Rattle.connection_laws.proofs.Doing.{not_by, own_by}
use Rattle.connection_laws.proofs.Growing.{knows_entered, knows_learned, past_snoc}

-- another's item changes nothing
unlist_other : (n : ℕ) (past : List Item) (i : Item) (ps : List (ℕ × ℕ)) → caller_of i ≢ n → DidUnlist n past ps → DidUnlist n (i ∷ past) ps
unlist_other n past i ps other did = subst (λ (b : Bool). UnlistedLast n b past i ps (DidUnlist n past)) (sym (not_by i n other)) did

-- the sighter's own is one more
unlist_own : (n : ℕ) (past : List Item) (p : ℕ × ℕ) (ps : List (ℕ × ℕ)) (i : Item) → caller_of i ≡ n → IsUnlisting n past i p → DidUnlist n past ps → DidUnlist n (i ∷ past) (ps ++ p ∷ [])
unlist_own n past p ps i own is did = subst (λ (b : Bool). UnlistedLast n b past i (ps ++ p ∷ []) (DidUnlist n past)) (sym (own_by i n own)) (p, ps, refl, is, did)

-- nor do some of others
unlist_between : (n : ℕ) (between h : List Item) (ps : List (ℕ × ℕ)) → NoneBy caller_of n between → DidUnlist n (past_of h) ps → DidUnlist n (past_of (h ++ between)) ps
unlist_between n [] h ps none did = subst (λ (l : List Item). DidUnlist n (past_of l) ps) (sym (append-nil h)) did
unlist_between n (x ∷ xs) h ps none did =
    let one : DidUnlist n (past_of (h ++ x ∷ [])) ps = subst (λ (l : List Item). DidUnlist n l ps) (sym (past_snoc h x)) (unlist_other n (past_of h) x ps (All-head (λ e. caller_of e ≢ n) x xs none) did) in
    subst (λ (l : List Item). DidUnlist n (past_of l) ps) (append_assoc h (x ∷ []) xs) (unlist_between n xs (h ++ x ∷ []) ps (All-tail (λ e. caller_of e ≢ n) x xs none) one)

unlist_others : (n : ℕ) (h more : List Item) (ps : List (ℕ × ℕ)) → GrownByOthers caller_of n h more → DidUnlist n (past_of h) ps → DidUnlist n (past_of more) ps
unlist_others n h more ps g did = subst (λ (l : List Item). DidUnlist n (past_of l) ps) (sym g.grown) (unlist_between n g.between h ps g.others did)

-- the pass learned of others' items
pub unlist_learned : (n : ℕ) (v w : Known Item) (ps : List (ℕ × ℕ)) → v.number ≡ n → Learned caller_of IsJournal v w → DidUnlist n (past_of v.history) ps → DidUnlist n (past_of w.history) ps
unlist_learned n v w ps is l did = unlist_others n v.history w.history ps (subst (λ (k : ℕ). GrownByOthers caller_of k v.history w.history) is l.others) did

-- and then of its own
pub unlist_entered : (n : ℕ) (v : Known Item) (pid start place : ℕ) (w : Known Item) (ps : List (ℕ × ℕ)) → v.number ≡ n → Unlisted v 0 pid start place w → DidUnlist n (past_of v.history) ps → DidUnlist n (past_of w.history) (ps ++ (pid, start) ∷ [])
unlist_entered n v pid start place w ps is u did =
    let e = u.submitted.entered in
    let before = e.learned.grown.before in
    let d = unlist_others n v.history before ps (subst (λ (k : ℕ). GrownByOthers caller_of k v.history before) is e.learned.grown.others) did in
    let out : IsUnlisting v.number (past_of before) e.item (pid, start) = record {
      listed = subst (λ (l : Loaded). lists_process l pid start ≡ true) u.loaded_is u.listed;
      is_next = subst (λ (l : Loaded). e.item ≡ next (past_of before) (load_given v.number 0 (unlisted l pid start))) u.loaded_is e.is_next;
    } in
    subst (λ (l : List Item). DidUnlist n l (ps ++ (pid, start) ∷ [])) (sym (ap past_of e.learned.grown.grown ∙ past_snoc before e.item))
    (unlist_own n (past_of before) (pid, start) ps e.item (e.learned.grown.by ∙ is) (subst (λ (k : ℕ). IsUnlisting k (past_of before) e.item (pid, start)) is out) d)

-- a sighter that has no item took out nothing
pub unlist_none : (n : ℕ) (h : List Item) → NoneBy caller_of n h → DidUnlist n (past_of h) []
unlist_none n h none = unlist_between n h [] [] none refl

-- where no process was taken out the pass learned of others' items alone
pub refused_learned : (limits : Limits) (v : Known Item) (pid start : ℕ) (r : SubmitUnlistRefused) (w : Known Item) → SubmitUnlistIsRefused limits v pid start r w → Learned caller_of IsJournal v w
refused_learned limits v pid start (submit_unlist.Ended cause) w refused = refused.learned
refused_learned limits v pid start submit_unlist.NotListed w refused = refused.learned
refused_learned limits v pid start (submit_unlist.JournalFull entries bytes) w refused = refused.0.learned
refused_learned limits v pid start submit_unlist.NoMemory w refused = refused.0.learned

-- what a filter took out is found no more
find_filtered : {X : Type 0} (test : X → Bool) (xs : List X) → is_some (find test (filter (λ (x : X). not (test x)) xs)) ≡ false
find_filtered test [] = refl
find_filtered {X = X} test (x ∷ xs) = go (test x) refl (find_filtered test xs)
  where
    others : List X
    others = filter (λ (y : X). not (test y)) xs

    go : (b : Bool) → test x ≡ b → is_some (find test others) ≡ false → is_some (find test (cond (not b) (x ∷ others) others)) ≡ false
    go true is none = none
    go false is none = ap (λ (b : Bool). is_some (cond b (Some x) (find test others))) is ∙ none

-- a load without a process does not list it
unlisted_lacks : (l : Loaded) (pid start : ℕ) → lists_process (unlisted l pid start) pid start ≡ false
unlisted_lacks l pid start = find_filtered (is_process pid start) l.world.processes

-- a process that was taken out is out
pub unlisted_out : (v : Known Item) (pid start place : ℕ) (w : Known Item) → Unlisted v 0 pid start place w → LacksProcess v.history w.history pid start
unlisted_out v pid start place w u =
    let e = u.submitted.entered in
    let before = e.learned.grown.before in
    let past : past_of w.history ≡ next (past_of before) (load_given v.number 0 (unlisted u.loaded pid start)) ∷ past_of before = ap past_of e.learned.grown.grown ∙ past_snoc before e.item ∙ ap (λ (i : Item). i ∷ past_of before) e.is_next in
    record {
      known = w.history;
      after = (knows_entered v (load_given v.number 0 (unlisted u.loaded pid start)) w e).begins;
      within = prefix_self w.history;
      lacks = ap (λ (l : List Item). lists_process (loaded_of l) pid start) past ∙ unlisted_lacks u.loaded pid start;
    }

-- so is one that was not listed
pub not_listed_out : (limits : Limits) (v : Known Item) (pid start : ℕ) (r : SubmitUnlistRefused) (w : Known Item) → r ≡ submit_unlist.NotListed → SubmitUnlistIsRefused limits v pid start r w → LacksProcess v.history w.history pid start
not_listed_out limits v pid start r w is refused =
    let x : IsNotListed v pid start w = subst (λ (r : SubmitUnlistRefused). SubmitUnlistIsRefused limits v pid start r w) is refused in
    record { known = w.history; after = (knows_learned v w x.learned).begins; within = prefix_self w.history; lacks = x.absent }
