-- What the command `origin` comes to.
use Rattle.std.specs.Prelude.{◌≡◌, ◌⊎◌, ℕ, ◌<◌, Bool, true, false, List, [], ◌∷◌, length, get_or, Option, Some}
use Rattle.std.specs.Io.KnownBytes.{Appends}
use Rattle.page_layout.specs.declared.geometry.Geometry.{Geometry}
use Rattle.lab_dump.specs.Map.{map_text}
use Rattle.lab_dump.specs.Scan.{Tell}
use Rattle.lab_dump.specs.declared.map_head.Remark.TheVariants as remark
use Rattle.lab_dump.specs.declared.mark.MapMark.{MapMark}
use Rattle.lab_origin.specs.declared.readings.ReadingFault.{ReadingFault}
use Rattle.lab_origin.specs.declared.readings.ReadingFault.TheVariants as reading
use Rattle.lab_origin.specs.declared.trace.OriginFault.{OriginFault}
use Rattle.lab_origin.specs.declared.trace.OriginFault.TheVariants as origin
use Rattle.lab_origin.specs.Traced.{IsFirstOdd, IsOfRightLength, IsTraced}
use Rattle.program_words.specs.Met.{texts}
use Rattle.lab_commands.specs.Reports.{origin_text}
use Rattle.lab_commands.specs.declared.origin_words.OriginWords.{OriginWords}
use Rattle.lab_commands.specs.declared.files.Standing.TheVariants as standing
use Rattle.lab_commands.specs.declared.text.LabFault.{LabFault}
use Rattle.lab_commands.specs.declared.text.LabFault.TheVariants as fault
use Rattle.lab_commands.specs.Files.{IsFileOpened, StandsAtPath, Store, StoreAnswers, with_kept}
use Rattle.lab_commands.specs.Merge.{AreOpened, HasSame, IsOneOf, IsSomeUnread, OpensEach}
use Rattle.lab_commands.specs.Numbers.{IsLastAt, IsNoLast}
use Rattle.lab_commands.specs.Undone.{IsGeometryAt, IsHalfPrinted, IsNoGeometry, IsUnplaced, IsUnread, IsUnroomed, IsUnwritten, LeavesAll, OpensForReading, OpensOther, form_of_showing}

-- the paths of the readings
abbrev pub readings_of : OriginWords → List (List ℕ)
readings_of words = texts words.readings.items

-- ---- whether OUT may be written

-- by what the files answered nothing stands at OUT, or a file that is neither the dump nor a reading and may be replaced
abbrev pub MayMap : StoreAnswers → OriginWords → Type 0
MayMap a words =
    a.says words.out.now standing.Nothing
    ⊎ (a.says words.out.now standing.File × a.says_same words.dump.now words.out.now false × HasSame a (readings_of words) words.out.now false × (words.force ≡ true))

-- something stands there: it is the dump or a reading, or is not to be replaced, or is no file; or they could not be asked
abbrev pub MayNotMap : StoreAnswers → OriginWords → LabFault → Type 0
MayNotMap a words fault.IsDump = StandsAtPath a words.out.now × (a.says_same words.dump.now words.out.now true ⊎ HasSame a (readings_of words) words.out.now true)
MayNotMap a words fault.Exists = StandsAtPath a words.out.now × a.says_same words.dump.now words.out.now false × HasSame a (readings_of words) words.out.now false × (words.force ≡ false)
MayNotMap a words fault.NoFile = a.says words.out.now standing.Other × a.says_same words.dump.now words.out.now false × HasSame a (readings_of words) words.out.now false × (words.force ≡ true)
MayNotMap a words told = IsUnwritten a words.out.now told ⊎ (StandsAtPath a words.out.now × (IsUnread a words.dump.now told ⊎ IsSomeUnread a (readings_of words) told))

-- ---- done

-- the marks are made of a dump and readings that read so: where the bytes of all are known, they are those of the sectors of the dump that they are, as of a
-- sequence where one is said
pub record HasTracedMarks (a : StoreAnswers) (words : OriginWords) (g : Geometry) (last : Option ℕ) (marks : List MapMark) : Type 0 where
  pub known : Option (List ℕ)
  pub readings : List (Option (List ℕ))
  pub opened : IsFileOpened a words.dump.now known
  pub each_opened : AreOpened a (readings_of words) readings
  pub traced : (all : List ℕ) (files : List (List ℕ)) → known ≡ Some all → Tell readings files → IsTraced g last all files marks

-- the marks were followed, and their map was put in the place of OUT
pub record HasPutMarks (a : StoreAnswers) (words : OriginWords) (before after : Option Store) (g : Geometry) (last : Option ℕ) (marks : List MapMark) : Type 0 where
  pub followed : HasTracedMarks a words g last marks
  pub put : after ≡ with_kept before words.out.now (Some (map_text remark.Readings g marks ∷ [])) words.force

-- the map of these marks was put in the place of OUT
pub record PutOrigin (a : StoreAnswers) (words : OriginWords) (before after : Option Store) (g : Geometry) (last : Option ℕ) (marks : List MapMark) : Type 0 where
  pub geometry_is : IsGeometryAt words.geometry.now g
  pub last_is : IsLastAt words.until last
  pub allowed : MayMap a words
  pub followed : HasTracedMarks a words g last marks
  pub put : after ≡ with_kept before words.out.now (Some (map_text remark.Readings g marks ∷ [])) words.force

-- of some geometry, and as of some sequence or all
pub record HasPutOrigin (a : StoreAnswers) (words : OriginWords) (before after : Option Store) (marks : List MapMark) : Type 0 where
  pub g : Geometry
  pub last : Option ℕ
  pub put : PutOrigin a words before after g last marks

-- and it was printed how many sectors no reading has the page of
pub record WroteOrigin (a : StoreAnswers) (words : OriginWords) (before after : Option Store) (out printed : Option (List ℕ)) : Type 0 where
  pub g : Geometry
  pub last : Option ℕ
  pub marks : List MapMark
  pub put : PutOrigin a words before after g last marks
  pub told : Appends out printed (origin_text (form_of_showing words.showing) marks)

-- ---- not done

-- the dump and all readings were opened, and where their bytes are known the dump has as many as an image, and the one of this path is the first reading that has not
pub record HasOddReading (a : StoreAnswers) (dump : List ℕ) (paths : List (List ℕ)) (g : Geometry) (path : List ℕ) : Type 0 where
  pub known : Option (List ℕ)
  pub readings : List (Option (List ℕ))
  pub dump_opened : IsFileOpened a dump known
  pub opened : AreOpened a paths readings
  pub whole : IsOfRightLength g known
  pub place : ℕ
  pub within : place < length paths
  pub named : get_or paths place [] ≡ path
  pub first : IsFirstOdd g readings place

-- why a dump and readings that were opened were not held side by side: one has another length, or a read failed
abbrev pub IsUntracedTo : StoreAnswers → OriginWords → Geometry → LabFault → Type 0
IsUntracedTo a words g fault.WrongLength = OpensOther a g words.dump.now × OpensEach a (readings_of words)
IsUntracedTo a words g (fault.ReadingLength told) = HasOddReading a words.dump.now (readings_of words) g told.now
IsUntracedTo a words g (fault.Read told) = ((told.now ≡ words.dump.now) ⊎ IsOneOf (readings_of words) told.now) × OpensForReading a words.dump.now × OpensEach a (readings_of words) × a.reads_fail
IsUntracedTo a words g _ = ⊥

-- Whose fault is told where all were opened: a failed read is the dump's, which has failed, or that of a reading that has.
abbrev pub IsOfFailedReading : (failed : List Bool) → OriginWords → LabFault → Type 0
IsOfFailedReading failed words fault.WrongLength = Unit {0}
IsOfFailedReading failed words (fault.ReadingLength told) = Unit {0}
IsOfFailedReading failed words (fault.Read told) = (told.now ≡ words.dump.now) ⊎ ((i : ℕ) × (get_or (readings_of words) i [] ≡ told.now) × (get_or failed i false ≡ true))
IsOfFailedReading failed words _ = ⊥

-- or one was not opened
abbrev pub TellsItsPath : StoreAnswers → (failed : List Bool) → OriginWords → LabFault → Type 0
TellsItsPath a failed words told = IsUnread a words.dump.now told ⊎ IsSomeUnread a (readings_of words) told ⊎ IsOfFailedReading failed words told

-- how it is told
abbrev pub TellsReading : ReadingFault → List (List ℕ) → LabFault → Type 0
TellsReading (reading.WrongLength i) paths (fault.ReadingLength told) = told.now ≡ get_or paths i []
TellsReading (reading.Source i) paths (fault.Read told) = told.now ≡ get_or paths i []
TellsReading _ paths _ = ⊥

abbrev pub TellsOrigin : OriginFault → OriginWords → LabFault → Type 0
TellsOrigin origin.WrongLength words told = told ≡ fault.WrongLength
TellsOrigin origin.Source words told = told ≡ fault.Read words.dump
TellsOrigin (origin.Reading why) words told = TellsReading why (readings_of words) told

-- the dump or a reading was not opened, or they were not held side by side
abbrev pub IsUnfollowed : StoreAnswers → OriginWords → Geometry → LabFault → Type 0
IsUnfollowed a words g told = IsUnread a words.dump.now told ⊎ IsSomeUnread a (readings_of words) told ⊎ IsUntracedTo a words g told

-- memory was refused, or the pages were not followed, or the map did not get its name
abbrev pub IsTracedMapUnput : StoreAnswers → OriginWords → Geometry → (opens opened : Option ℕ) → LabFault → Type 0
IsTracedMapUnput a words g opens opened told = IsUnroomed opens opened told ⊎ IsUnfollowed a words g told ⊎ IsUnplaced a words.out.now words.force told

-- The first of this order: the geometry; the sequence; whether OUT may be written; memory; the dump and the readings; OUT.
abbrev pub IsOriginUndone : StoreAnswers → OriginWords → (opens opened : Option ℕ) → LabFault → Type 0
IsOriginUndone a words opens opened told =
    IsNoGeometry words.geometry.now told
    ⊎ ((g : Geometry) × IsGeometryAt words.geometry.now g × (IsNoLast words.until told
    ⊎ ((last : Option ℕ) × IsLastAt words.until last × (MayNotMap a words told ⊎ (MayMap a words × IsTracedMapUnput a words g opens opened told)))))

-- No map was put in place and nothing printed, for one of these reasons; or it was, and a beginning of the report printed.
abbrev pub IsOriginFault : StoreAnswers → OriginWords → Option Store → Option Store → (opens opened : Option ℕ) → (broke : Bool) → Option (List ℕ) → Option (List ℕ) → LabFault → Type 0
IsOriginFault a words before after opens opened broke out printed told =
    (LeavesAll before after out printed × IsOriginUndone a words opens opened told)
    ⊎ ((g : Geometry) × (last : Option ℕ) × (marks : List MapMark) × PutOrigin a words before after g last marks × IsHalfPrinted broke out printed (origin_text (form_of_showing words.showing) marks) told)
