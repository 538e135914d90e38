-- What the clocks and the random words in memory hold.
use Rattle.std.specs.Prelude.{ℕ, ◌++◌, List, drop, take, replicate}
use Rattle.memory_outside.specs.Tally.{count_in}
use Rattle.memory_outside.specs.declared.clock.ListClock.{ListClock}
use Rattle.memory_outside.specs.declared.clock.ListSalt.{ListSalt}

-- The readings that a clock will give.
abbrev pub clock_left : ListClock → List ℕ
clock_left clock = drop clock.at clock.readings

-- The readings that it gave.
abbrev pub clock_given : ListClock → List ℕ
clock_given clock = take clock.at clock.readings

-- All that it gave: its readings, and 0 behind them.
abbrev pub clock_gave : ListClock → List ℕ
clock_gave clock = clock_given clock ++ replicate (count_in clock.zeros) 0

-- The words that a giver of random words will give.
abbrev pub salt_left : ListSalt → List ℕ
salt_left salt = drop salt.at salt.words

-- The words that it gave.
abbrev pub salt_given : ListSalt → List ℕ
salt_given salt = take salt.at salt.words

-- All that it gave: its words, and 0 behind them.
abbrev pub salt_gave : ListSalt → List ℕ
salt_gave salt = salt_given salt ++ replicate (count_in salt.zeros) 0
