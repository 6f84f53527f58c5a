-- What the device did for a request.
use Rattle.page_layout.specs.View.{View}
use Rattle.collection.specs.Safe.{ram}
use Rattle.ftl_device.specs.declared.device.Device.{Device}
use Rattle.ftl_device.specs.FlushSteps.{HasFlushed}
use Rattle.ftl_device.specs.Turn.{HasTurned}
use Rattle.firmware.specs.declared.request.Request.{Request}
use Rattle.firmware.specs.declared.request.Request.TheVariants as request

-- A FLUSH THAT WAS ASKED FOR IS DONE, and a moment without a request is a turn, whatever the die does. What the others do is printed.
abbrev pub HasAnsweredRequest : {N : Type 0} → View N → Request → Device N → Device N → Type 0
HasAnsweredRequest view request.Flush old new = HasFlushed view old.engine new.engine
HasAnsweredRequest view request.Idle old new = HasTurned (ram old.engine) (ram new.engine)
HasAnsweredRequest view _ old new = Unit {0}
