-- The bytes that were read are fed, until the line ends.
use Rattle.std.proofs.Common.{◌≡◌, ◌∙◌, sym, ap, refl, subst, drop, List, ℕ, [], ◌++◌}
use Rattle.pk_outside.proofs.Written.{Gave-more}
use Rattle.link_handshake.specs.Clients.{client_to_come}
use Rattle.link_handshake.specs.Shakes.{Begun, Failed}
use Rattle.client_link.proofs.Shaken.{fed_first, fed_more, fed_shows_more, open_first}
use Rattle.client_link.proofs.Taken.{all_taken}
use Rattle.client_link.proofs.shaking.await_acceptance.Goals as goal

pub pieces-init : goal.pieces-init
pieces-init g c = record {
  empty = c.requires;
  over = c.new-shake.ensures.over;
  open_yet = c.new-shake.ensures.all [] ∙ open_first;
  fed = fed_first _ c.new-shake.result c.new-shake.ensures.all;
  same = refl;
  quiet = refl;
}

pub returns-in-NoMemory-clause-accepts : goal.returns-in-NoMemory-clause-accepts
returns-in-NoMemory-clause-accepts g c =
    let f = c.pieces.invariant.fed in
    let got = c.in-NoMemory.ensures.fills in
    (f.read ++ got.0, Gave-more _ _ _ f.read got.0 f.gave got.1, tt)

pub pieces-preserved : goal.pieces-preserved
pieces-preserved g c =
    let got = c.in-There.ensures.fills in
    let fed : c.bytes.result.now ≡ got.0 = c.bytes.ensures.bytes ∙ got.2.0 ∙ ap (λ (b : List ℕ). b ++ got.0) c.pieces.invariant.empty in
    record {
      empty = all_taken c.fill.new.self c.bytes-all.result.now c.take.new.self c.bytes-all.ensures.bytes c.take.ensures.taken;
      over = c.in-More.ensures.feeds.0;
      open_yet = c.in-More.ensures.feeds.1;
      fed = fed_more _ _ _ c.pieces.shake c.feed_each.new.shake got.0 c.pieces.invariant.fed got.1
          (subst (λ (b : List ℕ). (more : List ℕ) → client_to_come c.pieces.shake (b ++ more) ≡ client_to_come c.feed_each.new.shake more) fed c.in-More.ensures.feeds.2);
      same = c.in-There.ensures.same ∙ c.pieces.invariant.same;
      quiet = c.in-There.ensures.faults ∙ c.pieces.invariant.quiet;
    }

pub returns-in-Begun-clause-accepts : goal.returns-in-Begun-clause-accepts
returns-in-Begun-clause-accepts g c =
    let got = c.in-There.ensures.fills in
    let fed : c.bytes.result.now ≡ got.0 = c.bytes.ensures.bytes ∙ got.2.0 ∙ ap (λ (b : List ℕ). b ++ got.0) c.pieces.invariant.empty in
    let left : drop c.in-Begun.count c.bytes.result.now ≡ c.take-in-Begun.new.self = ap (drop c.in-Begun.count) c.bytes.ensures.bytes ∙ sym c.take-in-Begun.ensures.taken in
    fed_shows_more _ _ _ c.pieces.shake got.0 (λ (more : List ℕ). Begun (c.take-in-Begun.new.self ++ more)) c.pieces.invariant.fed got.1
    (λ more. ap (λ (b : List ℕ). client_to_come c.pieces.shake (b ++ more)) (sym fed) ∙ c.in-Begun.ensures.feeds.1 more ∙ ap (λ (b : List ℕ). Begun (b ++ more)) left)

pub returns-in-Fault-clause-accepts : goal.returns-in-Fault-clause-accepts
returns-in-Fault-clause-accepts g c =
    let got = c.in-There.ensures.fills in
    let fed : c.bytes.result.now ≡ got.0 = c.bytes.ensures.bytes ∙ got.2.0 ∙ ap (λ (b : List ℕ). b ++ got.0) c.pieces.invariant.empty in
    fed_shows_more _ _ _ c.pieces.shake got.0 (λ (more : List ℕ). Failed c.in-Fault.fault) c.pieces.invariant.fed got.1
    (λ more. ap (λ (b : List ℕ). client_to_come c.pieces.shake (b ++ more)) (sym fed) ∙ c.in-Fault.ensures.feeds more)
