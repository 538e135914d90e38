-- Which looks at processes were taken in memory.
use Rattle.std.specs.Prelude.{◌++◌, [], ◌∷◌, List}
use Rattle.pk_outside.specs.Sightings.{Look}
use Rattle.pk_outside.specs.declared.sights.Sighted.{Sighted}
use Rattle.memory_outside.specs.declared.sights.Looks.{Looks, Looks', Held-Looks-before, None', Some'}

-- The looks, the first one first: the last one stands after those before it.
abbrev mutual
  pub looks_in : Looks → List Look
  looks_in (Looks' pid sighted before) = looks_up_to before (record { pid = pid; sighted = sighted })

  pub looks_up_to : Held-Looks-before → Look → List Look
  looks_up_to None' look = []
  looks_up_to (Some' p looks) look = looks_in looks ++ look ∷ []
