-- What the program says of a command that ended before it was done.
use Rattle.page_layout.specs.Faults.{broken_limit_words}
use Rattle.certificate.specs.Faults.{certificate_words}
use Rattle.std.specs.Prelude.{◌≡◌, ◌⊎◌, ℕ, List, [], ◌∷◌, ◌++◌, codes, Option}
use Rattle.std.specs.Io.KnownBytes.{Appends}
use Rattle.std.specs.Fmt.{decimal}
use Rattle.request_stream.specs.Frames.{AppendsPart}
use Rattle.image_check.specs.declared.scan.SectorFault.{SectorFault}
use Rattle.image_check.specs.declared.scan.SectorFault.TheVariants as sector
use Rattle.image_check.specs.declared.refusal.Refusal.{Refusal}
use Rattle.image_check.specs.declared.refusal.Refusal.TheVariants as refusal
use Rattle.mount.specs.declared.format_fault.FormatFault.{FormatFault}
use Rattle.mount.specs.declared.format_fault.FormatFault.TheVariants as format
use Rattle.nand_die.specs.declared.fault.DieFault.{DieFault}
use Rattle.nand_die.specs.declared.fault.DieFault.TheVariants as die
use Rattle.request_stream.specs.declared.reply.ServeFault.TheVariants as server
use Rattle.ftl_device.specs.declared.fault.DeviceFault.{DeviceFault}
use Rattle.ftl_device.specs.declared.fault.DeviceFault.TheVariants as device
use Rattle.commands.specs.declared.text.ServeStop.{ServeStop}
use Rattle.commands.specs.declared.text.ServeStop.TheVariants as stop
use Rattle.commands.specs.declared.text.CommandFault.{CommandFault}
use Rattle.commands.specs.declared.text.CommandFault.TheVariants.{NoSuchCommand, BadNumber, Geometry, Capacity, WrongLength, RowRange, OutOfMemory}
use Rattle.commands.specs.declared.text.CommandFault.TheVariants.{Sector, Die, Format, Certificate, Check, Mount, Start, Serve, ServeUnstored, SpareSize, Migrate, MigrateUnstored, Read}
use Rattle.commands.specs.declared.text.CommandFault.TheVariants.{Write}

-- the number and the name of a sector's fault, and the rows that it names
abbrev pub sector_words : SectorFault → List ℕ
sector_words sector.OutOfRange = codes "1 OutOfRange"
sector_words (sector.SequenceRepeated first second) = codes "2 SequenceRepeated row " ++ (decimal first ++ (codes " row " ++ decimal second))
sector_words sector.Source = codes "3 Source"

-- the number and the name of why no die was made, and the block that it names
abbrev pub die_words : DieFault → List ℕ
die_words die.WrongLength = codes "1 WrongLength"
die_words (die.BadMark block) = codes "2 BadMark block " ++ decimal block
die_words die.OutOfMemory = codes "3 OutOfMemory"
die_words die.SoundFaultPage = codes "4 SoundFaultPage"

-- the number and the name of why a die was not formatted, and its fields
abbrev pub numbered_format_words : FormatFault → List ℕ
numbered_format_words (format.TooFewGood good need) = codes "1 TooFewGood good " ++ (decimal good ++ (codes " need " ++ decimal need))
numbered_format_words format.Bus = codes "2 Bus"
numbered_format_words format.OutOfMemory = codes "3 OutOfMemory"
numbered_format_words format.WriteFailed = codes "4 WriteFailed"
numbered_format_words (format.NotFresh row) = codes "5 NotFresh row " ++ decimal row

-- the number and the name of a refusal by the checker or by mount, then each field by its name and its value
abbrev pub refusal_words : Refusal → List ℕ
refusal_words refusal.GeometryDiffers = codes "1 GeometryDiffers"
refusal_words (refusal.SequenceRepeated first second) = codes "2 SequenceRepeated row " ++ (decimal first ++ (codes " row " ++ decimal second))
refusal_words (refusal.NotNewest sector row) = codes "3 NotNewest sector " ++ (decimal sector ++ (codes " row " ++ decimal row))
refusal_words (refusal.NoSuchRecord sector row) = codes "4 NoSuchRecord sector " ++ (decimal sector ++ (codes " row " ++ decimal row))
refusal_words (refusal.DirectoryWrong page) = codes "5 DirectoryWrong page " ++ decimal page
refusal_words (refusal.NumberRange row) = codes "6 NumberRange row " ++ decimal row
refusal_words (refusal.BlockState block) = codes "7 BlockState block " ++ decimal block
refusal_words (refusal.BadSetWrong block) = codes "8 BadSetWrong block " ++ decimal block
refusal_words (refusal.LiveWrong block) = codes "9 LiveWrong block " ++ decimal block
refusal_words (refusal.WearWrong block) = codes "10 WearWrong block " ++ decimal block
refusal_words refusal.NextSequence = codes "11 NextSequence"
refusal_words (refusal.TooStale stale capacity) = codes "12 TooStale stale " ++ (decimal stale ++ (codes " capacity " ++ decimal capacity))
refusal_words refusal.NotFormatted = codes "13 NotFormatted"
refusal_words (refusal.TableDamaged page) = codes "14 TableDamaged page " ++ decimal page
refusal_words refusal.Source = codes "15 Source"
refusal_words refusal.OutOfMemory = codes "16 OutOfMemory"
refusal_words refusal.WrongLength = codes "17 WrongLength"

-- the number and the name of a device's refusal, or of the one with counts its beginning
abbrev pub device_start : DeviceFault → List ℕ
device_start device.OutOfRange = codes "1 OutOfRange"
device_start (device.ReadOnly good wanted failed) = codes "2 ReadOnly good "
device_start device.SequenceSpent = codes "3 SequenceSpent"
device_start device.OutOfMemory = codes "4 OutOfMemory"
device_start device.Damaged = codes "5 Damaged"
device_start device.BusFault = codes "6 BusFault"

-- the same, and its counts
abbrev pub device_words : DeviceFault → List ℕ
device_words (device.ReadOnly good wanted failed) = device_start (device.ReadOnly good wanted failed) ++ (decimal good ++ (codes " need " ++ (decimal wanted ++ (codes " failed " ++ decimal failed))))
device_words refused = device_start refused

-- the line of what stopped a server
abbrev pub stop_words : ServeStop → List ℕ
stop_words stop.BadFrame = codes "refused serve 7 BadFrame"
stop_words (stop.Fault server.Read) = codes "fault read -"
stop_words (stop.Fault server.Write) = codes "fault write -"
stop_words (stop.Fault server.OutOfMemory) = codes "refused serve 3 OutOfMemory"

abbrev pub stop_status : ServeStop → ℕ
stop_status stop.BadFrame = 1
stop_status (stop.Fault server.Read) = 3
stop_status (stop.Fault server.Write) = 3
stop_status (stop.Fault server.OutOfMemory) = 1

-- what the line begins with
abbrev pub area_of : CommandFault → List ℕ
area_of NoSuchCommand = codes "usage: "
area_of (BadNumber word) = codes "usage: bad number "
area_of (Geometry fault) = codes "refused geometry "
area_of Capacity = codes "refused geometry "
area_of WrongLength = codes "refused image "
area_of RowRange = codes "refused image "
area_of OutOfMemory = codes "refused image "
area_of (Sector fault) = codes "refused sector "
area_of (Die fault) = codes "refused die "
area_of (Format fault) = codes "refused format "
area_of (Certificate fault) = codes "refused certificate "
area_of (Check refused) = codes "refused check "
area_of (Mount refused) = codes "refused mount "
area_of Start = codes "refused start "
area_of (Serve stopped) = stop_words stopped
area_of (ServeUnstored stopped path) = stop_words stopped
area_of SpareSize = codes "refused migrate "
area_of (Migrate refused) = codes "refused migrate "
area_of (MigrateUnstored refused path) = codes "refused migrate "
area_of (Read path) = codes "fault read "
area_of (Write path) = codes "fault write "

-- what is said behind that
abbrev pub words_behind_area : CommandFault → List ℕ
words_behind_area NoSuchCommand = codes "no such command"
words_behind_area (BadNumber word) = word.now
words_behind_area (Geometry fault) = broken_limit_words fault
words_behind_area Capacity = codes "6 Capacity"
words_behind_area WrongLength = codes "1 WrongLength"
words_behind_area RowRange = codes "2 RowRange"
words_behind_area OutOfMemory = codes "3 OutOfMemory"
words_behind_area (Sector fault) = sector_words fault
words_behind_area (Die fault) = die_words fault
words_behind_area (Format fault) = numbered_format_words fault
words_behind_area (Certificate fault) = certificate_words fault
words_behind_area (Check refused) = refusal_words refused
words_behind_area (Mount refused) = refusal_words refused
words_behind_area Start = codes "1 OutOfMemory"
words_behind_area (Serve stopped) = []
words_behind_area (ServeUnstored stopped path) = 10 ∷ (codes "fault write " ++ path.now)
words_behind_area SpareSize = codes "8 SpareSize"
words_behind_area (Migrate refused) = device_words refused
words_behind_area (MigrateUnstored refused path) = device_words refused ++ (10 ∷ (codes "fault write " ++ path.now))
words_behind_area (Read path) = path.now
words_behind_area (Write path) = path.now

-- the line, without its line feed; of two things that failed two lines
abbrev pub command_fault_line : CommandFault → List ℕ
command_fault_line fault = area_of fault ++ words_behind_area fault

-- the exit status: 1 refused, 2 usage, 3 input or output
abbrev pub command_exit_status : CommandFault → ℕ
command_exit_status NoSuchCommand = 2
command_exit_status (BadNumber word) = 2
command_exit_status (Geometry fault) = 1
command_exit_status Capacity = 1
command_exit_status WrongLength = 1
command_exit_status RowRange = 1
command_exit_status OutOfMemory = 1
command_exit_status (Sector fault) = 1
command_exit_status (Die fault) = 1
command_exit_status (Format fault) = 1
command_exit_status (Certificate fault) = 1
command_exit_status (Check refused) = 1
command_exit_status (Mount refused) = 1
command_exit_status Start = 1
command_exit_status (Serve stopped) = stop_status stopped
command_exit_status (ServeUnstored stopped path) = 3
command_exit_status SpareSize = 1
command_exit_status (Migrate refused) = 1
command_exit_status (MigrateUnstored refused path) = 3
command_exit_status (Read path) = 3
command_exit_status (Write path) = 3

-- the line as it is written
abbrev pub told_line : CommandFault → List ℕ
told_line fault = command_fault_line fault ++ (10 ∷ [])

-- The fault's line was written, and the status is the fault's. Or it could not be written: the status is 3, and a beginning of the line
-- stands there, or nothing, and never all of it.
abbrev pub IsCommandFaultTold : CommandFault → Option (List ℕ) → Option (List ℕ) → ℕ → Type 0
IsCommandFaultTold fault before after status =
    ((status ≡ command_exit_status fault) × Appends before after (told_line fault))
    ⊎ ((status ≡ 3) × AppendsPart before after (told_line fault))
