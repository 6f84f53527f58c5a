-- What the program says of a command that ended before it was done.
use Rattle.std.specs.Prelude.{◌≡◌, ◌⊎◌, ℕ, List, [], ◌∷◌, ◌++◌, codes, Option}
use Rattle.std.specs.Io.KnownBytes.{Appends}
use Rattle.std.specs.Fmt.{decimal}
use Rattle.request_stream.specs.Frames.{AppendsPart}
use Rattle.page_layout.specs.declared.geometry.GeometryFault.{GeometryFault}
use Rattle.page_layout.specs.declared.geometry.GeometryFault.TheVariants as limit
use Rattle.disk_commands.specs.declared.shapes.SizeFault.{SizeFault}
use Rattle.disk_commands.specs.declared.shapes.SizeFault.TheVariants as size
use Rattle.disk_commands.specs.declared.shape_text.ShapeFault.{ShapeFault}
use Rattle.disk_commands.specs.declared.shape_text.ShapeFault.TheVariants as shape
use Rattle.disk_commands.specs.ShapeText.{member_words}
use Rattle.disk_damage.specs.ListText.{list_words}
use Rattle.disk_server.specs.Words.{create_words, open_words}
use Rattle.disk_commands.specs.declared.text.DiskCommandFault.{DiskCommandFault}
use Rattle.disk_commands.specs.declared.text.DiskCommandFault.TheVariants as fault

-- ---- why

abbrev pub limit_words : GeometryFault → List ℕ
limit_words limit.DataSize = codes "DataSize"
limit_words limit.SpareSize = codes "SpareSize"
limit_words limit.PagesPerBlock = codes "PagesPerBlock"
limit_words limit.Blocks = codes "Blocks"
limit_words limit.Sectors = codes "Sectors"

abbrev pub size_words : SizeFault → List ℕ
size_words size.Zero = codes "a disk has at least one byte"
size_words size.TooLarge = codes "no die has room for so many bytes with this share"

abbrev pub shape_words : ShapeFault → List ℕ
shape_words shape.NotJson = codes "not JSON"
shape_words shape.NotObject = codes "no object"
shape_words (shape.Missing member) = codes "no member " ++ member_words member
shape_words (shape.WrongType member) = codes "member " ++ (member_words member ++ codes " of another type")
shape_words shape.Unknown = codes "a member with another name"
shape_words shape.Version = codes "another version"
shape_words shape.BadGeometry = codes "the geometry is no five numbers"
shape_words (shape.Geometry broken) = codes "the geometry breaks a limit: " ++ limit_words broken
shape_words shape.CacheRange = codes "the cache has not from 1 to 65536 entries"
shape_words shape.Code = codes "the code is neither none nor hamming"
shape_words (shape.Share share) = codes "the share is " ++ (decimal share ++ codes ", and no cache has room for all that may be stale")
shape_words shape.OutOfMemory = codes "out of memory"

-- ---- the line, without its line feed

unfoldable pub disk_fault_line : DiskCommandFault → List ℕ
disk_fault_line fault.NoSuchCommand = codes "usage: no such command, see nanddisk --help"
disk_fault_line (fault.BadSize word) = codes "usage: bad size " ++ word.now
disk_fault_line (fault.PartOfByte word) = codes "usage: part of a byte " ++ word.now
disk_fault_line (fault.BadNumber word) = codes "usage: bad number " ++ word.now
disk_fault_line (fault.Size why) = codes "refused size: " ++ size_words why
disk_fault_line (fault.Geometry why) = codes "refused geometry " ++ limit_words why
disk_fault_line (fault.Share share) = codes "refused share " ++ (decimal share ++ codes ": no cache has room for all that may be stale")
disk_fault_line (fault.BadBlock block) = codes "refused: block " ++ (decimal block ++ codes " is past the die, or named twice")
disk_fault_line (fault.Exists path) = codes "refused: " ++ (path.now ++ codes " exists")
disk_fault_line (fault.InUse path) = codes "refused: " ++ (path.now ++ codes " is in use")
disk_fault_line (fault.Shape path why) = codes "refused: " ++ (path.now ++ (codes ".json: " ++ shape_words why))
disk_fault_line (fault.Length path found wanted) = codes "refused: " ++ (path.now ++ (codes " has " ++ (decimal found ++ (codes " bytes, and its shape " ++ decimal wanted))))
disk_fault_line (fault.Open path why) = codes "refused: " ++ (path.now ++ (codes " is no disk: " ++ open_words why))
disk_fault_line (fault.Create path why) = codes "refused: " ++ (path.now ++ (codes " was not formatted: " ++ create_words why))
disk_fault_line (fault.List path why) = codes "refused: " ++ (path.now ++ (codes ".lost: " ++ list_words why))
disk_fault_line (fault.Lost path count) = codes "refused: " ++ (path.now ++ (codes " has " ++ (decimal count ++ codes " lost sectors")))
disk_fault_line fault.OutOfMemory = codes "refused: no memory"
disk_fault_line (fault.Read path) = codes "fault read " ++ path.now
disk_fault_line (fault.Write path) = codes "fault write " ++ path.now
disk_fault_line (fault.ReadList path) = codes "fault read " ++ (path.now ++ codes ".lost")
disk_fault_line (fault.WriteList path) = codes "fault write " ++ (path.now ++ codes ".lost")
disk_fault_line fault.BadFrame = codes "fault serve: the client's bytes are no requests"
disk_fault_line fault.Stream = codes "fault serve: standard input or output failed"
disk_fault_line (fault.Device path) = codes "fault serve: " ++ (path.now ++ codes " failed")

-- the exit status: 1 refused, 2 usage, 3 input or output
abbrev pub disk_exit_status : DiskCommandFault → ℕ
disk_exit_status fault.NoSuchCommand = 2
disk_exit_status (fault.BadSize word) = 2
disk_exit_status (fault.PartOfByte word) = 2
disk_exit_status (fault.BadNumber word) = 2
disk_exit_status (fault.Size why) = 1
disk_exit_status (fault.Geometry why) = 1
disk_exit_status (fault.Share share) = 1
disk_exit_status (fault.BadBlock block) = 1
disk_exit_status (fault.Exists path) = 1
disk_exit_status (fault.InUse path) = 1
disk_exit_status (fault.Shape path why) = 1
disk_exit_status (fault.Length path found wanted) = 1
disk_exit_status (fault.Open path why) = 1
disk_exit_status (fault.Create path why) = 1
disk_exit_status (fault.List path why) = 1
disk_exit_status (fault.Lost path count) = 1
disk_exit_status fault.OutOfMemory = 1
disk_exit_status (fault.Read path) = 3
disk_exit_status (fault.Write path) = 3
disk_exit_status (fault.ReadList path) = 3
disk_exit_status (fault.WriteList path) = 3
disk_exit_status fault.BadFrame = 3
disk_exit_status fault.Stream = 3
disk_exit_status (fault.Device path) = 3

-- the line, with its line feed
abbrev pub told_disk_line : DiskCommandFault → List ℕ
told_disk_line fault = disk_fault_line fault ++ (10 ∷ [])

-- The fault's line was written, and the status is the fault's. Or it could not be written: the status is 3, and a beginning of the line
-- stands there, or nothing, and never all of it.
abbrev pub IsDiskFaultTold : DiskCommandFault → Option (List ℕ) → Option (List ℕ) → ℕ → Type 0
IsDiskFaultTold fault before after status =
    ((status ≡ disk_exit_status fault) × Appends before after (told_disk_line fault))
    ⊎ ((status ≡ 3) × AppendsPart before after (told_disk_line fault))
