-- How a refused first load ends a service.
use Rattle.policy_load.specs.declared.refused.LoadRefused.{LoadRefused}
use Rattle.policy_load.specs.declared.refused.LoadRefused.TheVariants as refused
use Rattle.authority_service.specs.declared.ends.ServiceEnd.{ServiceEnd}
use Rattle.authority_service.specs.declared.ends.ServiceEnd.TheVariants as end

-- the end by a first load that is refused
abbrev pub end_of_refused : LoadRefused → ServiceEnd
end_of_refused (refused.TreeFault count) = end.TreeFault count
end_of_refused refused.NoMemory = end.NoMemory
end_of_refused (refused.Limit which count) = end.LoadRefused (refused.Limit which count)
end_of_refused (refused.BadTable file why) = end.LoadRefused (refused.BadTable file why)
