-- Why there is no disk over a store, in words.
use Rattle.std.specs.Prelude.{List, ℕ, ◌++◌, codes}
use Rattle.std.specs.Fmt.{decimal}
use Rattle.image_check.specs.Names.{name_of}
use Rattle.mount.specs.declared.format_fault.FormatFault.{FormatFault}
use Rattle.mount.specs.declared.format_fault.FormatFault.TheVariants as format
use Rattle.disk_server.specs.declared.opened.OpenStoreFault.{OpenStoreFault}
use Rattle.disk_server.specs.declared.opened.OpenStoreFault.TheVariants as open_store
use Rattle.disk_server.specs.declared.format.CreateFault.{CreateFault}
use Rattle.disk_server.specs.declared.format.CreateFault.TheVariants as create

abbrev pub format_words : FormatFault → List ℕ
format_words (format.TooFewGood good need) = codes "TooFewGood good " ++ (decimal good ++ (codes " need " ++ decimal need))
format_words format.Bus = codes "Bus"
format_words format.OutOfMemory = codes "OutOfMemory"
format_words format.WriteFailed = codes "WriteFailed"
format_words (format.NotFresh row) = codes "NotFresh row " ++ decimal row

abbrev pub open_words : OpenStoreFault → List ℕ
open_words open_store.OutOfMemory = codes "OutOfMemory"
open_words open_store.Device = codes "Device"
open_words open_store.Reset = codes "Reset"
open_words open_store.Flush = codes "Flush"
open_words open_store.Share = codes "Share"
open_words (open_store.Mount refusal) = codes "Mount " ++ name_of refusal

abbrev pub create_words : CreateFault → List ℕ
create_words (create.Open why) = open_words why
create_words (create.Format why) = codes "Format " ++ format_words why
create_words create.Sync = codes "Sync"
