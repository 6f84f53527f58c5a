-- A link that refused Reset.
use Rattle.std.proofs.Common.{◌≡◌, [], subst}
use Rattle.onfi_cycles.specs.declared.nand.BusFault.{BusFault}
use Rattle.onfi_cycles.specs.Cycles.{Command, IsCounted}
use Rattle.onfi_cycles.specs.Spelling.{refused}
use Rattle.stream_bus.specs.Behind.{Behind}
use Rattle.stream_bus.specs.Carried.{SentAsFrame}
use Rattle.ftl_disk.specs.Either.{AskedOfLink, IsLinkLost}

-- by a bus over it that had counted nothing
pub lost : {L : Type 0} (called : AskedOfLink L) (link : L) (bus after : Behind L) (fault : BusFault) → bus ≡ record { link = link; failures = 0 }
    → SentAsFrame called bus.link (Command 0xFF) (refused fault) [] after.link → IsCounted bus.failures after.failures fault → IsLinkLost called link
lost {L} called link bus after fault is sent rose = record {
  fault = fault;
  after = after;
  reset = subst (λ (b : Behind L). SentAsFrame called b.link (Command 0xFF) (refused fault) [] after.link) is sent;
  counted = subst (λ (b : Behind L). IsCounted b.failures after.failures fault) is rose;
}
