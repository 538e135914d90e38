-- What the end of challenges tells and closes: nothing is told of one that stays.
use Rattle.std.proofs.Common.{◌≡◌, ◌==◌, ◌&&◌, ◌||◌, Bool, true, false, not, List, [], ◌∷◌, ◌++◌, refl, ap, ◌∙◌}
use Rattle.std.specs.Prelude.{if◌then◌else◌, filter, flat_map, map}
use Rattle.authority_model.specs.declared.message.Output.{Output}
use Rattle.authority_model.specs.declared.pending.Pending.{Pending}
use Rattle.entry_changes.specs.Changes.{close_all}
use Rattle.authority_model.specs.Keys.{same_key, key_seen}
use Rattle.authority_model.specs.Worlds.{lists_key}
use Rattle.event_answers.specs.Endings.{is_ended, told_of, place_if, closing}
use Rattle.event_answers.specs.declared.ending.Ending.{Ending}

of_departed : (a b : Bool) (begun gone : List Output) → (a || b) ≡ false → (if a then (if b then [] else begun) else (if b then gone else [])) ≡ []
of_departed true b begun gone e = absurd (cc)
of_departed false true begun gone e = absurd (cc)
of_departed false false begun gone e = refl

of_unregistered : (a : Bool) (gone : List Output) → a ≡ false → (if a then gone else []) ≡ []
of_unregistered true gone e = absurd (cc)
of_unregistered false gone e = refl

of_loaded : (a b : Bool) (gone ended : List Output) → not (a && b) ≡ false → (if a then (if b then [] else gone) else ended) ≡ []
of_loaded true true gone ended e = refl
of_loaded true false gone ended e = absurd (cc)
of_loaded false b gone ended e = absurd (cc)

-- nothing is told of a challenge that stays
pub silent : (e : Ending) (ch : Pending) → is_ended e ch ≡ false → told_of e ch ≡ []
silent (Ending.Departed c) ch stays = of_departed (ch.asker == c) (ch.agent == c) _ _ stays
silent (Ending.Unregistered c key) ch stays = of_unregistered ((ch.agent == c) && same_key ch.agent_key (key_seen key)) _ stays
silent (Ending.Loaded world) ch stays = of_loaded (lists_key world.now ch.key) (lists_key world.now ch.agent_key) _ _ stays

-- the places of those that end
places_of : (e : Ending) (xs : List Pending) → flat_map (place_if e) xs ≡ map (λ ch. ch.entry) (filter (is_ended e) xs)
places_of e [] = refl
places_of e (x ∷ xs) = go (is_ended e x) (places_of e xs)
  where
    go : (b : Bool) → flat_map (place_if e) xs ≡ map (λ ch. ch.entry) (filter (is_ended e) xs) → (if b then x.entry ∷ [] else []) ++ flat_map (place_if e) xs ≡ map (λ ch. ch.entry) (if b then (x ∷ filter (is_ended e) xs) else filter (is_ended e) xs)
    go true ih = ap (λ ys. x.entry ∷ ys) ih
    go false ih = ih

closing_all : (xs : List Pending) → closing (map (λ ch. ch.entry) xs) ≡ close_all xs
closing_all [] = refl
closing_all (x ∷ xs) = refl

-- those that end are closed
pub closed_all : (e : Ending) (xs : List Pending) → closing (flat_map (place_if e) xs) ≡ close_all (filter (is_ended e) xs)
closed_all e xs = ap closing (places_of e xs) ∙ closing_all (filter (is_ended e) xs)
