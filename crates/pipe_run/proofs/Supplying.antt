-- Numbers that are taken one after another.
use Rattle.std.proofs.Common.{ℕ, List, [], ◌∷◌, ◌++◌, Option, refl, subst}
use Rattle.pk_outside.specs.Readings.{GivesNext}
use Rattle.pk_outside.specs.Streams.{Got}
use Rattle.pk_outside.proofs.Written.{Got-more, Got-none}
use Rattle.pipe_run.specs.Supplies.{GivesEach, Supply, Took, supply}

each_more : (a b c : Option (List ℕ)) (xs ys : List ℕ) → GivesEach a b xs → GivesEach b c ys → GivesEach a c (xs ++ ys)
each_more a b c [] ys is more = subst (λ (o : Option (List ℕ)). GivesEach o c ys) is more
each_more a b c (x ∷ xs) ys gives more = (gives.0, gives.1, each_more gives.0 b c xs ys gives.2 more)

pub took_more : (a b c : Supply) (xs ys : List ℕ) → Took a b xs → Took b c ys → Took a c (xs ++ ys)
took_more a b c xs ys p q = record { gives = each_more a.left b.left c.left xs ys p.gives q.gives; got = Got-more a.gave b.gave c.gave xs ys p.got q.got }

pub took_none : (a : Supply) → Took a a []
took_none a = record { gives = refl; got = Got-none a.gave }

pub took_one : (left left' gave gave' : Option (List ℕ)) (x : ℕ) → GivesNext left left' x → Got gave gave' (x ∷ []) → Took (supply left gave) (supply left' gave') (x ∷ [])
took_one left left' gave gave' x next got = record { gives = (left', next, refl); got = got }
