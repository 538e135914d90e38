-- How far the loader came, as the history grows.
use Rattle.std.proofs.Common.{◌≡◌, ◌≢◌, ℕ, zero, suc, ◌≤◌, Bool, true, false, ◌&&◌, ◌||◌, List, [], ◌∷◌, ◌++◌, Option, Some, None, is_some, Result, refl, ap, sym, ◌∙◌, subst, append_assoc, length, arith}
use Rattle.std.specs.Prelude.{if◌then◌else◌, nat_le}
use Rattle.std.proofs.lemmas.List.{append-nil}
use Rattle.std.proofs.lemmas.List.Elements.{All-head, All-tail}
use Rattle.std.proofs.lemmas.Bool.Decides.{nat_tests}
use Rattle.history_lock.specs.Entries.{NoneBy, GrownByOthers}
use Rattle.authority_model.specs.declared.journal.Item.{Item}
use Rattle.authority_model.specs.declared.load.Loaded.{Loaded}
use Rattle.authority_model.specs.Lists.{or_else}
use Rattle.authority_model.specs.Peers.{connects, departed, departs, is_by, uid_given, uid_of}
use Rattle.policy_load.specs.declared.refused.LoadRefused.{LoadRefused}
use Rattle.shared_authority.specs.Journals.{caller_of, past_of}
use Rattle.connection_laws.proofs.Doing.{not_by, own_by}
use Rattle.connection_laws.proofs.Growing.{past_snoc}
use Rattle.serve_loader.specs.Turns.{Loading, Standing, Turns, TurnsLast, idle}

-- The loader came so far, and connection 0 has not connected.
pub record Far (P : Result Loaded LoadRefused → Type 0) (start : ℕ) (past : List Item) (s : Standing) : Type 0 where
  pub loading : Loading P start past s
  pub unconnected : uid_of past 0 ≡ None

-- at the start nothing is left to do
pub far_start : (P : Result Loaded LoadRefused → Type 0) (start : ℕ) (past : List Item) → length past ≤ start → Loading P start past idle
far_start P start [] le = refl
far_start P start (i ∷ past) le =
    subst (λ (b : Bool). TurnsLast P b past i (Loading P start past) idle) (sym (none (is_by 0 i) (nat_le start (length past)) (let early : nat_le start (length past) ≡ false = grind (arith, nat_tests) in early))) (far_start P start past (omega arith))
  where
    none : (a b : Bool) → b ≡ false → (a && b) ≡ false
    none true b is = is
    none false b is = refl

-- another's item changes nothing
far_other : (P : Result Loaded LoadRefused → Type 0) (start : ℕ) (past : List Item) (i : Item) (s : Standing) → caller_of i ≢ 0 → Far P start past s → Far P start (i ∷ past) s
far_other P start past i s other far = record {
  loading = subst (λ (b : Bool). TurnsLast P (b && nat_le start (length past)) past i (Loading P start past) s) (sym (not_by i 0 other)) far.loading;
  unconnected = ap (λ (o : Option ℕ). or_else o (connects 0 i)) far.unconnected ∙ ap (λ (b : Bool). if b then uid_given i.entry.event else None) (not_by i 0 other);
}

-- nor do some of others
far_between : (P : Result Loaded LoadRefused → Type 0) (start : ℕ) (between h : List Item) (s : Standing) → NoneBy caller_of 0 between → Far P start (past_of h) s → Far P start (past_of (h ++ between)) s
far_between P start [] h s none far = subst (λ (l : List Item). Far P start (past_of l) s) (sym (append-nil h)) far
far_between P start (x ∷ xs) h s none far =
    let one : Far P start (past_of (h ++ x ∷ [])) s = subst (λ (l : List Item). Far P start l s) (sym (past_snoc h x)) (far_other P start (past_of h) x s (All-head (λ e. caller_of e ≢ 0) x xs none) far) in
    subst (λ (l : List Item). Far P start (past_of l) s) (append_assoc h (x ∷ []) xs) (far_between P start xs (h ++ x ∷ []) s (All-tail (λ e. caller_of e ≢ 0) x xs none) one)

pub far_others : (P : Result Loaded LoadRefused → Type 0) (start : ℕ) (h more : List Item) (s : Standing) → GrownByOthers caller_of 0 h more → Far P start (past_of h) s → Far P start (past_of more) s
far_others P start h more s g far = subst (λ (l : List Item). Far P start (past_of l) s) (sym g.grown) (far_between P start g.between h s g.others far)

-- an item of its own that connects nobody
pub unconnected_own : (past : List Item) (i : Item) → uid_given i.entry.event ≡ None → uid_of past 0 ≡ None → uid_of (i ∷ past) 0 ≡ None
unconnected_own past i none unconnected = ap (λ (o : Option ℕ). or_else o (connects 0 i)) unconnected ∙ neither (is_by 0 i) (uid_given i.entry.event) none
  where
    neither : (b : Bool) (o : Option ℕ) → o ≡ None → (if b then o else None) ≡ None
    neither true o is = is
    neither false o is = refl

-- who never connected has not departed
pub never_departed : (past : List Item) (c : ℕ) → uid_of past c ≡ None → departed past c ≡ false
never_departed [] c none = refl
never_departed (i ∷ past) c none = of (uid_of past c) none (never_departed past c)
  where
    of : (o : Option ℕ) → or_else o (connects c i) ≡ None → (o ≡ None → departed past c ≡ false) → (departed past c || (is_some o && departs c i)) ≡ false
    of None none rest = ap (λ (b : Bool). b || false) (rest refl)
    of (Some uid) none rest = absurd (cc (none))

-- the loader's next item
pub far_own : (P : Result Loaded LoadRefused → Type 0) (start : ℕ) (past : List Item) (i : Item) (t s : Standing) → caller_of i ≡ 0 → start ≤ length past → Turns P t.owed t.stop past i s → uid_given i.entry.event ≡ None → Far P start past t → Far P start (i ∷ past) s
far_own P start past i t s own later turn none far = record {
  loading = subst (λ (b : Bool). TurnsLast P b past i (Loading P start past) s) (sym (both (is_by 0 i) (nat_le start (length past)) (own_by i 0 own) (let late : nat_le start (length past) ≡ true = grind (arith, nat_tests) in late))) (t, far.loading, turn);
  unconnected = unconnected_own past i none far.unconnected;
}
  where
    both : (a b : Bool) → a ≡ true → b ≡ true → (a && b) ≡ true
    both true b p q = q
    both false b p q = absurd (cc (p))

-- another fact of what the loads gave
turns_to : (P Q : Result Loaded LoadRefused → Type 0) → ((gave : Result Loaded LoadRefused) → P gave → Q gave) → (owed : ℕ) (stop : Bool) (past : List Item) (i : Item) (s : Standing) → Turns P owed stop past i s → Turns Q owed stop past i s
turns_to P Q to zero stop past i s turn = turn
turns_to P Q to (suc owed) stop past i s turn = (turn.0, to turn.0 turn.1, turn.2, turn.3)

pub loading_to : (P Q : Result Loaded LoadRefused → Type 0) → ((gave : Result Loaded LoadRefused) → P gave → Q gave) → (start : ℕ) (past : List Item) (s : Standing) → Loading P start past s → Loading Q start past s
loading_to P Q to start [] s loading = loading
loading_to P Q to start (i ∷ past) s loading = last (is_by 0 i && nat_le start (length past)) loading (loading_to P Q to start past)
  where
    last : (b : Bool) → TurnsLast P b past i (Loading P start past) s → ((t : Standing) → Loading P start past t → Loading Q start past t) → TurnsLast Q b past i (Loading Q start past) s
    last true turned rest = (turned.0, rest turned.0 turned.1, turns_to P Q to turned.0.owed turned.0.stop past i s turned.2)
    last false turned rest = rest s turned
