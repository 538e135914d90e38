-- The definitions of the run, a step at a time.
use Rattle.std.proofs.Common.{◌≡◌, ℕ, ◌+◌, List, [], ◌∷◌, ◌++◌, refl, ap, sym, add-one, length, get_or, drop, arith}
use Rattle.std.specs.Prelude.{◌≤◌}
use Rattle.authority_model.specs.declared.journal.Item.{Item}
use Rattle.authority_model.specs.Given.{Given, next, load_given}
use Rattle.generated_run.specs.Setup.{each_below, setup}
use Rattle.generated_run.specs.Run.{entered, each_entered, connects, root_connects, registers, set_up, checked, generated}

pub each_below_none : {A : Type 0} (f : ℕ → A) → each_below f 0 ≡ []
unfolding each_below
each_below_none f = refl

pub each_below_more : {A : Type 0} (f : ℕ → A) (n : ℕ) → each_below f (n + 1) ≡ each_below f n ++ f n ∷ []
unfolding each_below
each_below_more f n = rw add-one refl

pub entered_is : (past : List Item) (g : Given) → entered past g ≡ next past g ∷ past
unfolding entered
entered_is past g = refl

pub each_entered_none : (given : ℕ → Given) (past : List Item) → each_entered given 0 past ≡ past
unfolding each_entered
each_entered_none given past = refl

pub each_entered_more : (given : ℕ → Given) (n : ℕ) (past : List Item) → each_entered given (n + 1) past ≡ entered (each_entered given n past) (given n)
unfolding each_entered
each_entered_more given n past = rw add-one refl

pub set_up_is : set_up ≡ each_entered registers 8 (entered (each_entered connects 8 (entered [] (load_given 0 0 setup))) root_connects)
unfolding set_up
set_up_is = refl

pub generated_none : generated 0 ≡ set_up
unfolding generated
generated_none = refl

pub generated_more : (k : ℕ) → generated (k + 1) ≡ checked k (generated k)
unfolding generated
generated_more k = rw add-one refl

-- a list begins with its first item
pub first_is : {A : Type 0} (xs : List A) (x : A) → 1 ≤ length xs → x ≡ get_or xs 0 x → xs ≡ x ∷ drop 1 xs
first_is [] x some is = absurd (omega arith)
first_is (y ∷ ys) x some is = ap (λ z. z ∷ ys) (sym is)
