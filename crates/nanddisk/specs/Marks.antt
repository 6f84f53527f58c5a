-- THE FILE OF A MARK THAT IS KEPT.
use Rattle.std.specs.Prelude.{◌≡◌, Bool, true, not, Option, Some, None}
use Rattle.disk_commands.specs.declared.mark_file.MarkFile.{MarkFile}

-- none is kept; or the slot that is written next is not the one in which the mark was found, and no mark was made to last yet
abbrev pub BeginsBeside : {F : Type 0} → (in_second : Bool) → Option (MarkFile F) → Type 0
BeginsBeside in_second None = Unit {0}
BeginsBeside in_second (Some file) = (file.second ≡ not in_second) × (file.fresh ≡ true)
