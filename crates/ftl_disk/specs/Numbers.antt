-- THE NUMBERS that calls from C are answered with.
use Rattle.std.specs.Prelude.{ℕ, Result, Ok, Err}
use Rattle.page_layout.specs.declared.geometry.GeometryFault.{GeometryFault}
use Rattle.page_layout.specs.declared.geometry.GeometryFault.TheVariants as geometry
use Rattle.certificate.specs.declared.fault.CertFault.{CertFault}
use Rattle.certificate.specs.declared.fault.CertFault.TheVariants as certificate
use Rattle.image_check.specs.declared.refusal.Refusal.{Refusal}
use Rattle.image_check.specs.declared.refusal.Refusal.TheVariants as refusal
use Rattle.mount.specs.declared.format_fault.FormatFault.{FormatFault}
use Rattle.mount.specs.declared.format_fault.FormatFault.TheVariants as format
use Rattle.ftl_device.specs.Calls.{device_fault_number}
use Rattle.device_slot.specs.declared.power.PowerFault.{PowerFault}
use Rattle.device_slot.specs.declared.power.PowerFault.TheVariants as power
use Rattle.device_slot.specs.declared.slot.CallFault.{CallFault}
use Rattle.device_slot.specs.declared.slot.CallFault.TheVariants as call

abbrev pub of_call : Result (Unit {0}) CallFault → ℕ
of_call (Ok done) = 0
of_call (Err call.NotStarted) = 16
of_call (Err call.WrongSize) = 18
of_call (Err (call.Device fault)) = device_fault_number fault

abbrev pub of_geometry : GeometryFault → ℕ
of_geometry geometry.DataSize = 32
of_geometry geometry.SpareSize = 33
of_geometry geometry.PagesPerBlock = 34
of_geometry geometry.Blocks = 35
of_geometry geometry.Sectors = 36

abbrev pub of_format : FormatFault → ℕ
of_format (format.TooFewGood good asked) = 48
of_format format.Bus = 6
of_format format.OutOfMemory = 4
of_format format.WriteFailed = 49
of_format (format.NotFresh row) = 50

abbrev pub of_formatting : Result ℕ FormatFault → ℕ
of_formatting (Ok good) = 0
of_formatting (Err fault) = of_format fault

abbrev pub of_refusal : Refusal → ℕ
of_refusal refusal.Source = 6
of_refusal refusal.OutOfMemory = 4
of_refusal (refusal.SequenceRepeated first second) = 64
of_refusal (refusal.NumberRange row) = 65
of_refusal refusal.NotFormatted = 66
of_refusal (refusal.TableDamaged page) = 67
of_refusal (refusal.TooStale stale capacity) = 68
of_refusal refusal.NextSequence = 69
of_refusal refusal.GeometryDiffers = 70
of_refusal (refusal.NotNewest sector row) = 71
of_refusal (refusal.NoSuchRecord sector row) = 72
of_refusal (refusal.DirectoryWrong page) = 73
of_refusal (refusal.BlockState block) = 74
of_refusal (refusal.BadSetWrong block) = 75
of_refusal (refusal.LiveWrong block) = 76
of_refusal (refusal.WearWrong block) = 77
of_refusal refusal.WrongLength = 78

abbrev pub of_power : {N : Type 0} → PowerFault N → ℕ
of_power (power.Refused why nand) = of_refusal why
of_power (power.Start nand) = 4
of_power (power.Flush fault nand) = device_fault_number fault

abbrev pub of_certificate : CertFault → ℕ
of_certificate certificate.Magic = 80
of_certificate certificate.Short = 81
of_certificate certificate.Long = 82
of_certificate certificate.Limit = 83
of_certificate certificate.RowRange = 84
of_certificate certificate.ClassRange = 85
of_certificate certificate.OutOfMemory = 4
