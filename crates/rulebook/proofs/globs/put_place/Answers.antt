use Rattle.std.proofs.Common.{◌∙◌, ap, bytes_eq, position}
use Rattle.std.specs.Map.{keys_of}
use Rattle.authority_model.specs.Words.{Bytes}
use Rattle.std.proofs.lemmas.Result.{on_ok_weaker}
use Rattle.rulebook.proofs.Keys.{place-added}
use Rattle.rulebook.proofs.globs.put_place.Goals as goal

pub returns-in-Some : goal.returns-in-Some
returns-in-Some c =
    record {
      put = on_ok_weaker c.add_place.result (λ new q. place-added c.args.glob.now c.args.exact.now.entries c.in-Some.at _ _ _ c.args.place q (c.in-Some.ensures.index ∙ ap (λ (x : Bytes). position (λ k. bytes_eq x k.items) (keys_of c.args.exact.now.entries)) c.bytes.ensures.bytes) c.pair_mut-places.ensures.value new) c.add_place.ensures.added;
    }
