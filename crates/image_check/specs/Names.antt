-- How a refusal is called.
use Rattle.std.specs.Prelude.{ℕ, List, codes}
use Rattle.image_check.specs.declared.refusal.Refusal.{Refusal}
use Rattle.image_check.specs.declared.refusal.Refusal.TheVariants.{GeometryDiffers, SequenceRepeated, NotNewest, NoSuchRecord, DirectoryWrong}
use Rattle.image_check.specs.declared.refusal.Refusal.TheVariants.{NumberRange, BlockState, BadSetWrong, LiveWrong, WearWrong, NextSequence}
use Rattle.image_check.specs.declared.refusal.Refusal.TheVariants.{TooStale, NotFormatted, TableDamaged, Source, OutOfMemory, WrongLength}

-- the refusal's name, without what it names
abbrev pub name_of : Refusal → List ℕ
name_of GeometryDiffers = codes "GeometryDiffers"
name_of (SequenceRepeated first second) = codes "SequenceRepeated"
name_of (NotNewest sector row) = codes "NotNewest"
name_of (NoSuchRecord sector row) = codes "NoSuchRecord"
name_of (DirectoryWrong page) = codes "DirectoryWrong"
name_of (NumberRange row) = codes "NumberRange"
name_of (BlockState block) = codes "BlockState"
name_of (BadSetWrong block) = codes "BadSetWrong"
name_of (LiveWrong block) = codes "LiveWrong"
name_of (WearWrong block) = codes "WearWrong"
name_of NextSequence = codes "NextSequence"
name_of (TooStale stale capacity) = codes "TooStale"
name_of NotFormatted = codes "NotFormatted"
name_of (TableDamaged page) = codes "TableDamaged"
name_of Source = codes "Source"
name_of OutOfMemory = codes "OutOfMemory"
name_of WrongLength = codes "WrongLength"
