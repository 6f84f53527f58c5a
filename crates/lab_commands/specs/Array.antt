-- What the command `array` comes to.
use Rattle.std.specs.Prelude.{◌≡◌, ◌⊎◌, ℕ, true, false, List, [], ◌∷◌, map, Option, Some, IfSome, IsSomeAnd, Bool}
use Rattle.std.specs.Option.{option_map_or}
use Rattle.std.specs.Io.KnownBytes.{Appends, Keeps}
use Rattle.page_layout.specs.declared.geometry.Geometry.{Geometry}
use Rattle.lab_dump.specs.declared.doubts.Unsettled.{Unsettled}
use Rattle.lab_dump.specs.declared.held.Held.{Held}
use Rattle.lab_dump.specs.declared.map_head.Remark.TheVariants as remark
use Rattle.lab_dump.specs.Held.{mark_in, shown_in}
use Rattle.lab_dump.specs.Written.{IsArrayWritten}
use Rattle.lab_dump.specs.Map.{map_text}
use Rattle.lab_commands.specs.Reports.{array_text}
use Rattle.lab_commands.specs.declared.words.ArrayWords.{ArrayWords}
use Rattle.lab_commands.specs.declared.words.UntilWords.{UntilWords}
use Rattle.lab_commands.specs.declared.text.LabFault.{LabFault}
use Rattle.lab_commands.specs.declared.text.LabFault.TheVariants as fault
use Rattle.lab_commands.specs.Files.{IsFileOpened, StandsAtPath, Store, StoreAnswers, with_kept}
use Rattle.lab_commands.specs.Numbers.{IsLastAt, IsNoLast}
use Rattle.lab_commands.specs.Undone.{IsGeometryAt, IsHalfPrinted, IsNoGeometry, IsMapUnplaced, IsFileUnmade, IsUnplaced, IsUnread, IsUnroomed, IsUnwritten, LeavesAll, MayNotWrite, MayWrite, form_of_showing}

-- ---- done

-- OUT may be written, by what the files answered
abbrev pub IsAllowed : StoreAnswers → ArrayWords → Type 0
IsAllowed a words = MayWrite a words.dump.now words.out.now words.force

-- and FILE, where a map is wanted: it is not OUT
abbrev pub AllowsMap : StoreAnswers → ArrayWords → Type 0
AllowsMap a words = IfSome words.map (λ file. a.says_same words.out.now file.now false × MayWrite a words.dump.now file.now words.force)

abbrev pub AreAllowed : StoreAnswers → ArrayWords → Type 0
AreAllowed a words = IsAllowed a words × AllowsMap a words

-- the pieces are made of a dump that reads so: where its bytes are known the pieces and the states are those of the image that they are, as of a
-- sequence where one is said, with pages shown that are not sound where that is asked for, and what is left open is that image's
pub record IsArrayMade (a : StoreAnswers) (path : List ℕ) (g : Geometry) (last : Option ℕ) (damaged : Bool) (pieces : Option (List (List ℕ))) (held : List Held) (left : Unsettled) : Type 0 where
  pub known : Option (List ℕ)
  pub opened : IsFileOpened a path known
  pub made : IfSome known (IsArrayWritten g last damaged pieces held left)

-- the array was made beside OUT, with these states and what is left open
pub record MadeArray (a : StoreAnswers) (words : UntilWords) (g : Geometry) (last : Option ℕ) (pieces : Option (List (List ℕ))) (held : List Held) (left : Unsettled) : Type 0 where
  pub geometry_is : IsGeometryAt words.array.geometry.now g
  pub last_is : IsLastAt words.until last
  pub allowed : AreAllowed a words.array
  pub made : IsArrayMade a words.array.dump.now g last words.damaged pieces held left

-- of this geometry and as of this sequence it was made and put in the place of OUT
pub record HasPutSectors (a : StoreAnswers) (words : ArrayWords) (before after : Option Store) (g : Geometry) (last : Option ℕ) (damaged : Bool) (held : List Held) (left : Unsettled) : Type 0 where
  pub pieces : Option (List (List ℕ))
  pub made : IsArrayMade a words.dump.now g last damaged pieces held left
  pub put : after ≡ with_kept before words.out.now pieces words.force

-- the files once a map was put in the place of FILE, where one is wanted
abbrev pub with_map : Option Store → ArrayWords → List ℕ → Option Store
with_map kept words text = option_map_or (λ file. with_kept kept file.now (Some (text ∷ [])) words.force) words.map kept

-- it was put in the place of OUT
pub record PlacedArray (a : StoreAnswers) (words : UntilWords) (before after : Option Store) (g : Geometry) (last : Option ℕ) (held : List Held) (left : Unsettled) : Type 0 where
  pub pieces : Option (List (List ℕ))
  pub made : MadeArray a words g last pieces held left
  pub put : after ≡ with_kept before words.array.out.now pieces words.array.force

-- it was put in the place of OUT, and its map in that of FILE, where one is wanted
pub record PutArray (a : StoreAnswers) (words : UntilWords) (before after : Option Store) (g : Geometry) (last : Option ℕ) (held : List Held) (left : Unsettled) : Type 0 where
  pub pieces : Option (List (List ℕ))
  pub made : MadeArray a words g last pieces held left
  pub put : after ≡ with_map (with_kept before words.array.out.now pieces words.array.force) words.array (map_text remark.Array g (map mark_in held))

-- and the report printed
pub record WroteArray (a : StoreAnswers) (words : UntilWords) (before after : Option Store) (out printed : Option (List ℕ)) : Type 0 where
  pub g : Geometry
  pub last : Option ℕ
  pub held : List Held
  pub left : Unsettled
  pub put : PutArray a words before after g last held left
  pub told : Appends out printed (array_text (form_of_showing words.array.showing) g last (map shown_in held) left)

-- ---- not done

-- how it is told that FILE may not be written
abbrev pub as_map : LabFault → LabFault
as_map fault.IsDump = fault.MapIsDump
as_map fault.Exists = fault.MapExists
as_map fault.NoFile = fault.MapNoFile
as_map told = told

-- OUT may not be written
abbrev pub IsNotAllowed : StoreAnswers → ArrayWords → LabFault → Type 0
IsNotAllowed a words told = MayNotWrite a words.dump.now words.out.now words.force told

-- FILE is OUT; or it is not, and is the dump, or may not be replaced; or they could not be asked
abbrev pub IsMapNotAllowed : StoreAnswers → ArrayWords → List ℕ → LabFault → Type 0
IsMapNotAllowed a words file fault.MapIsOut = a.says_same words.out.now file true
IsMapNotAllowed a words file fault.MapIsDump = a.says_same words.out.now file false × MayNotWrite a words.dump.now file words.force fault.IsDump
IsMapNotAllowed a words file fault.MapExists = a.says_same words.out.now file false × MayNotWrite a words.dump.now file words.force fault.Exists
IsMapNotAllowed a words file fault.MapNoFile = a.says_same words.out.now file false × MayNotWrite a words.dump.now file words.force fault.NoFile
IsMapNotAllowed a words file told = IsUnwritten a words.out.now told ⊎ (a.says_same words.out.now file false × (IsUnwritten a file told ⊎ (StandsAtPath a file × IsUnread a words.dump.now told)))

-- a map is wanted, and FILE may not be written
abbrev pub HasMapFault : StoreAnswers → ArrayWords → LabFault → Type 0
HasMapFault a words told = IsSomeAnd words.map (λ file. IsMapNotAllowed a words file.now told)

-- OUT may not be written, or FILE
abbrev pub AreNotAllowed : StoreAnswers → ArrayWords → LabFault → Type 0
AreNotAllowed a words told = IsNotAllowed a words told ⊎ (IsAllowed a words × HasMapFault a words told)

-- a map is wanted, and FILE was not written or not put in its place, or another file has its name meanwhile
abbrev pub IsUnmapped : StoreAnswers → ArrayWords → LabFault → Type 0
IsUnmapped a words told = IsSomeAnd words.map (λ file. IsMapUnplaced a file.now words.force told)

-- memory was refused, or no array was made, or it did not get its name
abbrev pub IsArrayUnput : StoreAnswers → Geometry → ArrayWords → (opens opened : Option ℕ) → LabFault → Type 0
IsArrayUnput a g words opens opened told = IsUnroomed opens opened told ⊎ IsFileUnmade a g words.dump.now words.out.now told ⊎ IsUnplaced a words.out.now words.force told

-- The first of this order: the geometry; the sequence; whether OUT may be written, and FILE; memory; the dump and OUT.
abbrev pub IsArrayUndone : StoreAnswers → UntilWords → (opens opened : Option ℕ) → LabFault → Type 0
IsArrayUndone a words opens opened told =
    IsNoGeometry words.array.geometry.now told
    ⊎ ((g : Geometry) × IsGeometryAt words.array.geometry.now g × (IsNoLast words.until told
    ⊎ ((last : Option ℕ) × IsLastAt words.until last × (AreNotAllowed a words.array told ⊎ (AreAllowed a words.array × IsArrayUnput a g words.array opens opened told)))))

-- The array was put in place and nothing printed, but its map was not put in its.
pub record PutUnmapped (a : StoreAnswers) (words : UntilWords) (before after : Option Store) (out printed : Option (List ℕ)) (told : LabFault) : Type 0 where
  pub g : Geometry
  pub last : Option ℕ
  pub pieces : Option (List (List ℕ))
  pub held : List Held
  pub left : Unsettled
  pub made : MadeArray a words g last pieces held left
  pub put : after ≡ with_kept before words.array.out.now pieces words.array.force
  pub silent : Keeps out printed
  pub unmapped : IsUnmapped a words.array told

-- No array was put in place and nothing printed, for one of these reasons; or it was, and no map; or both were, and a
-- beginning of the report printed.
abbrev pub IsArrayFault : StoreAnswers → UntilWords → Option Store → Option Store → (opens opened : Option ℕ) → (broke : Bool) → Option (List ℕ) → Option (List ℕ) → LabFault → Type 0
IsArrayFault a words before after opens opened broke out printed told =
    (LeavesAll before after out printed × IsArrayUndone a words opens opened told)
    ⊎ PutUnmapped a words before after out printed told
    ⊎ ((g : Geometry) × (last : Option ℕ) × (held : List Held) × (left : Unsettled) × PutArray a words before after g last held left
    × IsHalfPrinted broke out printed (array_text (form_of_showing words.array.showing) g last (map shown_in held) left) told)
