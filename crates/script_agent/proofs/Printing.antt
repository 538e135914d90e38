-- The line of a challenge is printed in two pieces.
use Rattle.std.proofs.Common.{◌≡◌, ℕ, ◌≤◌, List, [], ◌++◌, Option, Result, Ok, Err, OnOk, OnErr, refl, sym, ap, subst, ◌∙◌, arith}
use Rattle.pk_outside.specs.Causes.{HasCause, one_more}
use Rattle.pk_outside.specs.Streams.{Got, GotFront}
use Rattle.pk_outside.specs.declared.stream.Failed.{Failed}
use Rattle.pk_outside.proofs.Written.{Got-more}
use Rattle.authority_model.specs.Words.{Bytes}
use Rattle.client_messages.specs.declared.agent.AgentReply.{AgentReply}
use Rattle.script_agent.specs.Challenges.{word_of}
use Rattle.script_agent.specs.Steps.{Prints}
use Rattle.script_agent.proofs.Fronts.{front_more}
use Rattle.script_agent.proofs.Shaking.{front_longer}

pub print_part : (action : Bytes) (reply : AgentReply) (a b : Option Bytes) (failed : Failed) → GotFront a b action → Prints action reply a b (Err failed)
print_part action reply a b failed g = record { written = g.1.0; got = g.1.2; printed = front_longer g.1.0 action (word_of reply) (g.0, g.1.1) }

pub print_rest : (action : Bytes) (reply : AgentReply) (a b d : Option Bytes) (word : Bytes) (result : Result (Unit {0}) Failed) → word ≡ word_of reply → Got a b action → OnOk result (Got b d word) → OnErr result (GotFront b d word) → Prints action reply a d result
print_rest action reply a b d word (Ok done) e got ok err = record { written = action ++ word; got = Got-more a b d action word got ok; printed = ap (λ x. action ++ x) e }
print_rest action reply a b d word (Err failed) e got ok err = record {
  written = action ++ err.1.0;
  got = Got-more a b d action err.1.0 got err.1.2;
  printed = front_more action err.1.0 (word_of reply) (err.0, sym e ∙ err.1.1);
}

pub cause_err : (before now : ℕ) (failed : Failed) → HasCause {T = Unit {0}} before now (Err failed) → HasCause {T = Unit {0}} before now (Err failed)
cause_err before now failed h = h

pub cause_rest : (before mid now : ℕ) (result : Result (Unit {0}) Failed) → mid ≡ before → HasCause mid now result → HasCause before now result
cause_rest before mid now result e h = subst (λ (n : ℕ). HasCause n now result) e h
