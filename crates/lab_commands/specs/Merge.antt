-- What the command `merge` comes to.
use Rattle.std.specs.Prelude.{◌≡◌, ◌⊎◌, ℕ, ◌<◌, Bool, true, false, List, [], length, get_or, Option, None}
use Rattle.std.specs.Io.KnownBytes.{Appends}
use Rattle.page_layout.specs.declared.geometry.Geometry.{Geometry}
use Rattle.lab_dump.specs.Scan.{Tell}
use Rattle.lab_mend.specs.declared.merge.MergeFault.{MergeFault}
use Rattle.lab_mend.specs.declared.merge.MergeFault.TheVariants as merge
use Rattle.lab_mend.specs.declared.merging.RowTally.{RowTally}
use Rattle.lab_mend.specs.declared.merging.TriedRow.{TriedRow}
use Rattle.lab_mend.specs.Merged.{IsMerged, IsOddFirst, IsOwnMerge}
use Rattle.lab_commands.specs.Reports.{merge_text}
use Rattle.lab_commands.specs.declared.words.MergeWords.{MergeWords}
use Rattle.lab_commands.specs.declared.files.Standing.TheVariants as standing
use Rattle.program_words.specs.Met.{texts}
use Rattle.lab_commands.specs.declared.text.LabFault.{LabFault}
use Rattle.lab_commands.specs.declared.text.LabFault.TheVariants as fault
use Rattle.lab_commands.specs.Files.{IsFileOpened, OpensSome, StandsAtPath, Store, StoreAnswers, after_opens, with_kept}
use Rattle.lab_commands.specs.Undone.{IsGeometryAt, IsHalfPrinted, IsNoGeometry, IsUnplaced, IsUnread, IsUnroomed, IsUnwritten, LeavesAll, form_of_showing}

-- ---- the dumps

-- the paths of the dumps
abbrev pub dumps_of : MergeWords → List (List ℕ)
dumps_of words = texts words.dumps.items

-- readers of the first files of these paths, of which so much is known
pub record AreOpenedBelow (a : StoreAnswers) (paths : List (List ℕ)) (known : List (Option (List ℕ))) (n : ℕ) : Type 0 where
  pub count : length known ≡ n
  pub each : (i : ℕ) → i < n → IsFileOpened a (get_or paths i []) (get_or known i None)

-- of all of them
abbrev pub AreOpened : StoreAnswers → List (List ℕ) → List (Option (List ℕ)) → Type 0
AreOpened a paths known = AreOpenedBelow a paths known (length paths)

-- a call that names one of them failed
abbrev pub IsSomeUnread : StoreAnswers → List (List ℕ) → LabFault → Type 0
IsSomeUnread a paths told = (i : ℕ) × (i < length paths) × IsUnread a (get_or paths i []) told

-- ---- whether OUT may be written

-- by what the files answered, none of the first paths is this one, or one is
abbrev pub AreOthersBelow : StoreAnswers → List (List ℕ) → List ℕ → ℕ → Type 0
AreOthersBelow a paths out n = (i : ℕ) → i < n → a.says_same (get_or paths i []) out false

abbrev pub HasSame : StoreAnswers → List (List ℕ) → List ℕ → Bool → Type 0
HasSame a paths out true = (i : ℕ) × (i < length paths) × a.says_same (get_or paths i []) out true
HasSame a paths out false = AreOthersBelow a paths out (length paths)

-- nothing stands at OUT, or a file that is none of the dumps and may be replaced
abbrev pub MayMerge : StoreAnswers → MergeWords → Type 0
MayMerge a words =
    a.says words.out.now standing.Nothing ⊎ (a.says words.out.now standing.File × HasSame a (dumps_of words) words.out.now false × (words.force ≡ true))

-- something stands there: it is one of the dumps, or is not to be replaced, or is no file; or they could not be asked
abbrev pub MayNotMerge : StoreAnswers → MergeWords → LabFault → Type 0
MayNotMerge a words fault.IsDump = StandsAtPath a words.out.now × HasSame a (dumps_of words) words.out.now true
MayNotMerge a words fault.Exists = StandsAtPath a words.out.now × HasSame a (dumps_of words) words.out.now false × (words.force ≡ false)
MayNotMerge a words fault.NoFile = a.says words.out.now standing.Other × HasSame a (dumps_of words) words.out.now false × (words.force ≡ true)
MayNotMerge a words told = IsUnwritten a words.out.now told ⊎ (StandsAtPath a words.out.now × IsSomeUnread a (dumps_of words) told)

-- ---- done

-- The pieces are made of dumps that read so: where the bytes of all are known, the pieces, the rows that differ, those that are unsound, those of
-- which pages were tried and the counts are those of the images that they are. Whatever the dumps gave, the rows are named once each, by rising row, and 00h bytes stand for those
-- that differ.
pub record IsJoined (a : StoreAnswers) (paths : List (List ℕ)) (g : Geometry) (pieces : Option (List (List ℕ))) (conflicts unsound : List ℕ) (tried : List TriedRow) (tally : RowTally) : Type 0 where
  pub known : List (Option (List ℕ))
  pub opened : AreOpened a paths known
  pub merged : (files : List (List ℕ)) → Tell known files → IsMerged g files conflicts unsound tried tally pieces
  pub own : IsOwnMerge g conflicts unsound tried pieces

-- the one dump of this geometry was made and put in the place of OUT
pub record HasPutJoined (a : StoreAnswers) (words : MergeWords) (before after : Option Store) (g : Geometry) (conflicts unsound : List ℕ) (tried : List TriedRow) (tally : RowTally) : Type 0 where
  pub pieces : Option (List (List ℕ))
  pub made : IsJoined a (dumps_of words) g pieces conflicts unsound tried tally
  pub put : after ≡ with_kept before words.out.now pieces words.force

-- the one dump was put in the place of OUT
pub record PutMerge (a : StoreAnswers) (words : MergeWords) (before after : Option Store) (conflicts unsound : List ℕ) (tried : List TriedRow) (tally : RowTally) : Type 0 where
  pub g : Geometry
  pub pieces : Option (List (List ℕ))
  pub geometry_is : IsGeometryAt words.geometry.now g
  pub allowed : MayMerge a words
  pub made : IsJoined a (dumps_of words) g pieces conflicts unsound tried tally
  pub put : after ≡ with_kept before words.out.now pieces words.force

-- and the rows that differ or are unsound, those of which pages were tried and the counts were printed
pub record WroteMerge (a : StoreAnswers) (words : MergeWords) (before after : Option Store) (out printed : Option (List ℕ)) : Type 0 where
  pub conflicts : List ℕ
  pub unsound : List ℕ
  pub tried : List TriedRow
  pub tally : RowTally
  pub put : PutMerge a words before after conflicts unsound tried tally
  pub told : Appends out printed (merge_text (form_of_showing words.showing) conflicts unsound tried tally)

-- ---- not done

-- all dumps were opened
abbrev pub OpensEach : StoreAnswers → List (List ℕ) → Type 0
OpensEach a paths = (known : List (Option (List ℕ))) × AreOpened a paths known

-- one of them is of this path
abbrev pub IsOneOf : List (List ℕ) → List ℕ → Type 0
IsOneOf paths path = (i : ℕ) × (i < length paths) × (get_or paths i [] ≡ path)

-- all were opened, and where their bytes are known the one of this path is the first that is seen to have another length than an image
pub record HasOddLength (a : StoreAnswers) (paths : List (List ℕ)) (g : Geometry) (path : List ℕ) : Type 0 where
  pub known : List (Option (List ℕ))
  pub opened : AreOpened a paths known
  pub place : ℕ
  pub within : place < length paths
  pub named : get_or paths place [] ≡ path
  pub first : (files : List (List ℕ)) → Tell known files → IsOddFirst g files place

-- why dumps that were opened were not merged: one has another length, or a read or a write failed
abbrev pub IsUnmergedTo : StoreAnswers → List (List ℕ) → Geometry → List ℕ → LabFault → Type 0
IsUnmergedTo a paths g out (fault.DumpLength told) = HasOddLength a paths g told.now
IsUnmergedTo a paths g out (fault.Read told) = IsOneOf paths told.now × OpensEach a paths × a.reads_fail
IsUnmergedTo a paths g out (fault.Write told) = (told.now ≡ out) × OpensEach a paths × a.writes_fail
IsUnmergedTo a paths g out _ = ⊥

-- Whose fault is told where the dumps were opened: a failed read is that of a reader that has failed.
abbrev pub IsOfFailed : (failed : List Bool) → List (List ℕ) → LabFault → Type 0
IsOfFailed failed paths (fault.DumpLength told) = Unit {0}
IsOfFailed failed paths (fault.Read told) = (i : ℕ) × (get_or paths i [] ≡ told.now) × (get_or failed i false ≡ true)
IsOfFailed failed paths (fault.Write told) = Unit {0}
IsOfFailed failed paths _ = ⊥

-- or a dump was not opened, or no file made
abbrev pub TellsOwnPath : StoreAnswers → (failed : List Bool) → List (List ℕ) → List ℕ → LabFault → Type 0
TellsOwnPath a failed paths out told = IsSomeUnread a paths told ⊎ IsUnwritten a out told ⊎ IsOfFailed failed paths told

-- the fault of the merge is told so: that of a reading with its path
abbrev pub TellsFault : MergeFault → List (List ℕ) → List ℕ → LabFault → Type 0
TellsFault (merge.WrongLength i) paths out (fault.DumpLength told) = told.now ≡ get_or paths i []
TellsFault (merge.Source i) paths out (fault.Read told) = told.now ≡ get_or paths i []
TellsFault merge.Target paths out (fault.Write told) = told.now ≡ out
TellsFault _ paths out _ = ⊥

-- the dumps were not opened or not merged, or the file beside OUT was not made or not put in its place
abbrev pub IsUnjoined : StoreAnswers → List (List ℕ) → Geometry → List ℕ → LabFault → Type 0
IsUnjoined a paths g out told = IsSomeUnread a paths told ⊎ IsUnwritten a out told ⊎ IsUnmergedTo a paths g out told

-- memory was refused; or at most as many files were opened as there are dumps, and no dump was made, or it did not get its name
abbrev pub IsMergeUnput : StoreAnswers → MergeWords → Geometry → (opens opened : Option ℕ) → LabFault → Type 0
IsMergeUnput a words g opens opened told =
    IsUnroomed opens opened told
    ⊎ (OpensSome (length words.dumps.items) opens opened × (IsUnjoined a (dumps_of words) g words.out.now told ⊎ IsUnplaced a words.out.now words.force told))

-- The first of this order: the geometry; whether OUT may be written; memory; the dumps and OUT. Of the first three no file was opened.
abbrev pub IsUnmergedBy : StoreAnswers → MergeWords → (opens opened : Option ℕ) → LabFault → Type 0
IsUnmergedBy a words opens opened told =
    (IsNoGeometry words.geometry.now told × (opened ≡ opens))
    ⊎ ((g : Geometry) × IsGeometryAt words.geometry.now g × ((MayNotMerge a words told × (opened ≡ opens)) ⊎ (MayMerge a words × IsMergeUnput a words g opens opened told)))

-- No dump was put in place and nothing printed, for one of these reasons; or it was put in place, and a beginning of the list printed.
abbrev pub IsMergeFault : StoreAnswers → MergeWords → Option Store → Option Store → (opens opened : Option ℕ) → (broke : Bool) → Option (List ℕ) → Option (List ℕ) → LabFault → Type 0
IsMergeFault a words before after opens opened broke out printed told =
    (LeavesAll before after out printed × IsUnmergedBy a words opens opened told)
    ⊎ ((conflicts : List ℕ) × (unsound : List ℕ) × (tried : List TriedRow) × (tally : RowTally) × PutMerge a words before after conflicts unsound tried tally
    × (opened ≡ after_opens (length words.dumps.items) opens) × IsHalfPrinted broke out printed (merge_text (form_of_showing words.showing) conflicts unsound tried tally) told)
