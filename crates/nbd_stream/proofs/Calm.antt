-- A session of a disk that holds what it is given and does what it is asked.
use Rattle.std.proofs.Common.{◌≡◌, inl, inr, ℕ, Bool, true, List, Option, Result, ap, ◌∙◌, subst}
use Rattle.request_stream.specs.declared.reply.ServeFault.{ServeFault}
use Rattle.nbd_stream.specs.declared.export.Export.{Export}
use Rattle.nbd_stream.specs.declared.fault.DiskFault.{DiskFault}
use Rattle.nbd_stream.specs.declared.request.StreamEnd.{StreamEnd}
use Rattle.nbd_stream.specs.declared.task.Task.{Task}
use Rattle.nbd_stream.specs.Disk.{Contents}
use Rattle.nbd_stream.specs.Exchanges.{NbdExchange, exchanges_in, requests_in}
use Rattle.nbd_stream.specs.Transmission.{Carries, Serves}
use Rattle.nbd_stream.proofs.RunLemmas.{done_law}
use Rattle.nbd_stream.proofs.UntilLemmas.{stays_law}
use Rattle.nbd_stream.specs.Memory.{ServesBytes}

pub of_calm : {D : Type 0} (contents : D → Contents) (honest calm : D → Bool) (does : D → Task → Result (Unit {0}) DiskFault → D → Type 0)
    (rests : D → Result (Unit {0}) DiskFault → D → Type 0) (e : Export) (limit : ℕ) (old new : D) (u v b a : Option (List ℕ))
    (result : Result StreamEnd ServeFault)
    → Serves contents honest calm does rests e limit old new u v b a result → honest old ≡ true → calm old ≡ true → ServesBytes e limit (contents old).bytes (contents new).bytes u v b a result
of_calm contents honest calm does rests e limit old new u v b a result (inl (same, negotiated)) holds calmly = inl (ap (λ d. (contents d).bytes) same, negotiated)
of_calm contents honest calm does rests e limit old new u v b a result (inr begun) holds calmly =
    let its = begun.transmits in
    let done = its.done calmly in
    let stays : honest new ≡ true = stays_law contents honest calm does rests e old new its.rounds its.each done.0 done.1 ∙ holds in
    let law = done_law e (contents old) (contents new) (exchanges_in its.rounds) (its.run stays) done.0 in
    inr (record {
      unread' = begun.unread';
      before' = begun.before';
      negotiated = begun.negotiated;
      requests = requests_in (exchanges_in its.rounds);
      stream = subst (λ (xs : List NbdExchange). Carries begun.unread' v begun.before' a xs result) law.0 its.stream;
      left_is = law.1;
    })
