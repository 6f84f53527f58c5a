-- Where a fault is answered again, one stands.
use Rattle.std.proofs.Common.{◌≡◌, Option, Some, None, Err, IsOk, MatchOption}
use Rattle.collection.specs.declared.fault.EngineFault.{EngineFault}
use Rattle.collection.proofs.Costs.{err_as}

pub standing_none : (fault : Option EngineFault) (e : EngineFault) → MatchOption fault (IsOk (err_as (Unit {0}) e)) (λ f. err_as (Unit {0}) e ≡ Err f) → fault ≡ None → ⊥
standing_none None e is none = (let never : ⊥ = cc in never)
standing_none (Some f) e is none = (let never : ⊥ = cc in never)
