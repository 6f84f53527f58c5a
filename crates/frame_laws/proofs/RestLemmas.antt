-- What a disk says of a rest, by the fields of its definition.
use Rattle.std.proofs.Common.{◌≡◌, Bool, None, Some, Result, subst}
use Rattle.nbd_stream.specs.declared.fault.DiskFault.{DiskFault}
use Rattle.nbd_stream.specs.Disk.{Contents}
use Rattle.frame_laws.specs.RestWords.{RestWordLaw}

pub rest_word : {D : Type 0} (contents : D → Contents) (honest calm : D → Bool) (rests : D → Result (Unit {0}) DiskFault → D → Type 0) → RestWordLaw contents honest calm rests
rest_word contents honest calm rests asked old new None is = (λ result told. (let never : ⊥ = cc in absurd never), λ none. is)
rest_word contents honest calm rests asked old new (Some answer) is =
    (λ result told. (let same : answer ≡ result = cc in (subst (λ r. rests old r new) same is.2, is.0)), λ none. (let never : ⊥ = cc in absurd never))
