-- THE HEADLINE, and what else serving a checked die comes to.
use Rattle.std.specs.Prelude.{◌≡◌, ◌≢◌, ◌⊎◌, ℕ, ◌≤◌, Bool, true, List, map, Option, Result, Err, is_some}
use Rattle.std.specs.Io.KnownBytes.{Keeps}
use Rattle.page_layout.specs.View.{View}
use Rattle.page_layout.specs.declared.geometry.Geometry.{Geometry}
use Rattle.page_layout.specs.Array.{HasOneArray}
use Rattle.page_layout.specs.Counter.{HasRisen}
use Rattle.page_layout.specs.Flash.{Flash}
use Rattle.promises.specs.Stream.{Request, command_of}
use Rattle.promises.specs.Run.{log_of}
use Rattle.promises.specs.Legal.{IsLegal}
use Rattle.certificate.specs.Claim.{Claim}
use Rattle.image_check.specs.Agrees.{Agrees}
use Rattle.image_check.specs.Refused.{IsRefusal}
use Rattle.image_check.specs.Stale.{stale_sectors}
use Rattle.image_check.specs.declared.refusal.Refusal.{Refusal}
use Rattle.image_check.specs.declared.refusal.Refusal.TheVariants as refusal
use Rattle.request_stream.specs.declared.reply.ServeFault.{ServeFault}
use Rattle.request_stream.specs.declared.reply.ServeFault.TheVariants.{OutOfMemory}
use Rattle.collection.specs.Safe.{ram}
use Rattle.ftl_device.specs.declared.device.Device.{Device}
use Rattle.ftl_device.specs.Device.{IsDevice}
use Rattle.ftl_device.specs.Begin.{begun_ram, is_bad_in}
use Rattle.command_queue.specs.Exchanges.{Exchange, commands_in, replies_in, AreKnown, StaysStopped}
use Rattle.command_queue.specs.Tells.{Tells, ToldEach}
use Rattle.command_queue.specs.Run.{HasRun, HappensEach, accepted_first, accepted_device}
use Rattle.command_queue.specs.Told.{Until}
use Rattle.block_server.specs.declared.server.Served.{Served}
use Rattle.block_server.specs.declared.checked.RunFault.{RunFault}
use Rattle.block_server.specs.declared.checked.RunFault.TheVariants.{Refused, Start, Serve}
use Rattle.block_server.specs.Session.{ServesRequests}

-- THE HEADLINE, of a die that held the image of `s` and holds that of `t` after these exchanges.
--
-- The certificate agrees with the image, and the image holds just one array of sectors. The exchanges are a run that begins with it: each
-- answer is the array's, and after each the die's image holds the array. The log of it all is legal for the image and the certificate's bad
-- blocks: pages are programmed in their order, once between erases, and no block is programmed or erased that is bad or has failed. And
-- each refusal shows what it says by the image and the log (`fair` in the run): `ReadOnly` comes only in a shortage. Where the die tells a
-- record, what was answered stays, wherever the power goes in a call (`stopped` of each event there).
pub record Headline (g : Geometry) (share capacity : ℕ) (c : Claim) (s t : Flash) (xs : List Exchange) : Type 0 where
  pub agrees : Agrees g capacity s.image c
  pub one : HasOneArray g s.image
  pub ro : Bool
  pub pinned : Bool
  pub run : HasRun (accepted_first g share c) (accepted_device s c) (record { flash = t; ro = ro; pinned = pinned }) xs
  pub legal : IsLegal g s.image (is_bad_in c) (log_of run.events)

-- the headline holds of these exchanges, and its events are the calls that lead from the one device to the other
pub record HeadlineHolds {N : Type 0} (view : View N) (g : Geometry)
    (share capacity : ℕ) (c : Claim) (s : Flash) (old : Device N) (xs : List Exchange) (new : Device N) : Type 0 where
  pub headline : Headline g share capacity c s (view.flash new.engine.nand) xs
  pub each : HappensEach view old headline.run.events xs new
  pub ro_is : headline.ro ≡ new.read_only
  pub pinned_is : headline.pinned ≡ is_some new.engine.pinned

abbrev pub HoldsTo : {N : Type 0} → (view : View N) → N → Geometry → (share capacity : ℕ) → Claim → Device N → List Exchange → Device N → Type 0
HoldsTo view nand g share capacity c old xs new = view.honest nand ≡ true → HeadlineHolds view g share capacity c (view.flash nand) old xs new

-- the bus failed in this call: the die's count of failures rose in it, or stands at its top
pub record HasBusFailed {N : Type 0} (view : View N) (old : Device N) (x : Exchange) (new : Device N) : Type 0 where
  pub tells : Tells view old x new
  pub rose : HasRisen (view.failed old.engine.nand) (view.failed new.engine.nand)

-- a device that `start_at` begins at this share from the certificate that was accepted, over a die that is as honest as it was and tells the same record: nothing is
-- pinned, and no fault stands
pub record IsBegunFromClaim {N : Type 0} (view : View N) (nand : N) (g : Geometry) (share : ℕ) (c : Claim) (first : Device N) : Type 0 where
  pub device : IsDevice view.flash first
  pub stale : List ℕ
  pub begun : ram first.engine ≡ begun_ram g share c stale
  pub stale_is : view.honest nand ≡ true → stale ≡ stale_sectors g (view.flash nand).image
  pub same : view.honest nand ≡ true → view.flash first.engine.nand ≡ view.flash nand
  pub told : view.honest nand ≡ true → view.recorded first.engine.nand ≡ view.recorded nand
  pub honest_is : view.honest first.engine.nand ≡ view.honest nand
  pub failed_is : view.failed nand ≤ view.failed first.engine.nand

-- the die that is handed back: as honest and as calm as it was, of its geometry, and its count of failures no lower
pub record IsHandedBack {N : Type 0} (view : View N) (nand : N) (g : Geometry) (given : N) : Type 0 where
  pub honest_is : view.honest given ≡ view.honest nand
  pub calm_is : view.calm given ≡ view.calm nand
  pub sized : (view.flash given).geometry ≡ g
  pub failed_is : view.failed nand ≤ view.failed given

-- Requests were served: what was read and written, and what the device answered, that `start_at` began over the die. It was told one after another, and
-- each call did what it promises. Where the die is honest, the headline holds of the exchanges before the first fault of the bus: of all of them where there
-- is none. From it on each is answered that fault.
pub record IsServed {N : Type 0} (view : View N) (nand : N)
    (g : Geometry) (share capacity : ℕ) (c : Claim) (unread left before after : Option (List ℕ)) (result : Result Served ServeFault)
    (given : N) : Type 0 where
  pub requests : List Request
  pub exchanges : List Exchange
  pub commands : commands_in exchanges ≡ map command_of requests
  pub stream : ServesRequests g.data_bytes unread left before after requests (replies_in exchanges) result
  pub stays : StaysStopped exchanges
  pub back : IsHandedBack view nand g given
  pub rose : AreKnown exchanges ⊎ HasRisen (view.failed nand) (view.failed given)
  pub first : Device N
  pub last : Device N
  pub begun : IsBegunFromClaim view nand g share c first
  pub each : ToldEach view first exchanges last
  pub given_is : given ≡ last.engine.nand
  pub headline : Until (HoldsTo view nand g share capacity c first) (HasBusFailed view) exchanges last

-- nothing was read or written
pub record AreStreamsUntouched (unread left before after : Option (List ℕ)) : Type 0 where
  pub read : Keeps unread left
  pub written : Keeps before after

-- the checker refused the certificate, and the die's pages are as they were
pub record IsUnaccepted {N : Type 0} (view : View N) (nand : N) (g : Geometry) (capacity : ℕ) (c : Claim) (why : Refusal) (given : N) : Type 0 where
  pub refused : view.honest nand ≡ true → IsRefusal g capacity (view.flash nand).image c why
  pub same : why ≢ refusal.Source → view.honest nand ≡ true → view.flash given ≡ view.flash nand
  pub rose : why ≡ refusal.Source → HasRisen (view.failed nand) (view.failed given)
  pub back : IsHandedBack view nand g given

-- no memory was left to start a device, and the die's pages are as they were
pub record IsRunUnstarted {N : Type 0} (view : View N) (nand : N) (g : Geometry) (capacity : ℕ) (c : Claim) (given : N) : Type 0 where
  pub same : view.honest nand ≡ true → view.flash given ≡ view.flash nand
  pub agrees : view.honest nand ≡ true → Agrees g capacity (view.flash nand).image c
  pub back : IsHandedBack view nand g given

-- why requests were not served to their end
abbrev pub FailsToServe : {N : Type 0} → (view : View N) → N → Geometry → (share capacity : ℕ)
    → Claim → (unread left before after : Option (List ℕ)) → RunFault N → Type 0
FailsToServe view nand g share capacity c unread left before after (Refused why given) = AreStreamsUntouched unread left before after × IsUnaccepted view nand g capacity c why given
FailsToServe view nand g share capacity c unread left before after (Start given) = AreStreamsUntouched unread left before after × IsRunUnstarted view nand g capacity c given
FailsToServe view nand g share capacity c unread left before after (Serve stop given) = IsServed view nand g share capacity c unread left before after (Err stop) given

-- and where the server stopped, it was for this, unless memory was refused
abbrev pub StopsServer : {N : Type 0} → (stops : ServeFault → Type 0) → RunFault N → Type 0
StopsServer stops (Refused why given) = Unit {0}
StopsServer stops (Start given) = Unit {0}
StopsServer stops (Serve stop given) = stop ≢ OutOfMemory → stops stop
