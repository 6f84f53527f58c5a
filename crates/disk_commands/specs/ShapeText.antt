-- The file beside a disk: one JSON object with the members of its version, and a line feed.
use Rattle.std.specs.Prelude.{◌≡◌, ◌≢◌, ◌⊎◌, ℕ, ◌≤◌, Bool, true, false, List, [], ◌∷◌, ◌++◌, codes, Option, Some, None, option_map, IsUtf8, decimal}
use Rattle.std.specs.Option.{option_and_then}
use Rattle.serde_json.specs.Data.{Data, boolean, no_members, member, number, object, string, unsigned}
use Rattle.serde_json.specs.Events.{members_len}
use Rattle.serde_json.specs.Find.{as_bool, as_number, as_object, as_str, as_u64, get}
use Rattle.serde_json.specs.Read.{read}
use Rattle.serde_json.specs.Written.{compact_text}
use Rattle.page_layout.specs.declared.geometry.Geometry.{Geometry}
use Rattle.disk_commands.specs.declared.shapes.Code.{Code}
use Rattle.disk_commands.specs.declared.shapes.Code.TheVariants.{Plain, Hamming}
use Rattle.disk_commands.specs.declared.shapes.DiskShape.{DiskShape}
use Rattle.disk_commands.specs.declared.shape_text.DiskText.{DiskText}
use Rattle.disk_commands.specs.declared.shape_text.Member as declared
use Rattle.disk_commands.specs.declared.shape_text.Member.TheVariants as name
use Rattle.disk_commands.specs.declared.shape_text.ShapeFault.{ShapeFault}
use Rattle.disk_commands.specs.declared.shape_text.ShapeFault.TheVariants as fault
use Rattle.disk_commands.specs.declared.shape_words.GeometryWordFault.{GeometryWordFault}
use Rattle.disk_commands.specs.declared.shape_words.GeometryWordFault.TheVariants as word
use Rattle.disk_commands.specs.Shapes.{IsShareFor}
use Rattle.disk_commands.specs.ShapeWords.{SaysGeometry, SaysNone}

-- ---- what is written

-- the five numbers of a geometry, as the words of a command write them
abbrev pub geometry_words : Geometry → List ℕ
geometry_words g =
    decimal g.data_bytes ++ (codes "," ++ (decimal g.spare_bytes ++ (codes "," ++ (decimal g.pages ++ (codes "," ++ (decimal g.blocks ++ (codes "," ++ decimal g.sectors)))))))

-- the word of a code
abbrev pub code_words : Code → List ℕ
code_words Plain = codes "none"
code_words Hamming = codes "hamming"

-- version 2: the code, the share, and whether a list of lost sectors stands beside the disk
abbrev pub shape_data : DiskShape → (lost : Bool) → Data
shape_data s lost =
    object (member (codes "cache") (number (unsigned s.cache)) (member (codes "code") (string (code_words s.code)) (member (codes "geometry") (string (geometry_words s.geometry))
    (member (codes "lost") (boolean lost) (member (codes "share") (number (unsigned s.share)) (member (codes "version") (number (unsigned 2)) no_members))))))

-- the object with no space, and a line feed
abbrev pub shape_text : DiskShape → List ℕ
shape_text s = compact_text (shape_data s false) ++ (10 ∷ [])

-- where a list of lost sectors stands beside the disk
abbrev pub listed_text : DiskShape → List ℕ
listed_text s = compact_text (shape_data s true) ++ (10 ∷ [])

-- ---- what is read

abbrev pub member_words : declared.Member → List ℕ
member_words name.Cache = codes "cache"
member_words name.Code = codes "code"
member_words name.Geometry = codes "geometry"
member_words name.Lost = codes "lost"
member_words name.Share = codes "share"
member_words name.Version = codes "version"

-- a member's number of 64 bits, a member's string, and a member that is true or false
abbrev pub number_at : declared.Member → Data → Option ℕ
number_at m d = option_and_then as_u64 (option_and_then as_number (get (member_words m) d))

abbrev pub text_at : declared.Member → Data → Option (List ℕ)
text_at m d = option_and_then as_str (get (member_words m) d)

abbrev pub flag_at : declared.Member → Data → Option Bool
flag_at m d = option_and_then as_bool (get (member_words m) d)

-- the members that are strings
abbrev pub IsTextMember : declared.Member → Type 0
IsTextMember m = (m ≡ name.Geometry) ⊎ (m ≡ name.Code)

-- how many members an object has
abbrev pub member_count : Data → Option ℕ
member_count d = option_map members_len (as_object d)

-- the word of the member `geometry` says this geometry
abbrev pub IsGeometryTold : Data → Geometry → Type 0
IsGeometryTold d g = (word : List ℕ) × (text_at name.Geometry d ≡ Some word) × SaysGeometry word g

-- it says none, for this reason
abbrev pub HasBadGeometry : Data → GeometryWordFault → Type 0
HasBadGeometry d why = (word : List ℕ) × (text_at name.Geometry d ≡ Some word) × SaysNone word why

abbrev pub IsCacheSize : ℕ → Type 0
IsCacheSize cache = (1 ≤ cache) × (cache ≤ 65536)

-- its members say this geometry and this cache
pub record TellsShape (d : Data) (g : Geometry) (cache : ℕ) : Type 0 where
  pub cache_is : number_at name.Cache d ≡ Some cache
  pub within : IsCacheSize cache
  pub geometry_is : IsGeometryTold d g

-- those that version 1 lacks say which code there is, whether a list of lost sectors stands beside the disk, and how many moved sectors may wait
pub record TellsLater (code : Code) (lost : Bool) (share : ℕ) (d : Data) : Type 0 where
  pub code_is : text_at name.Code d ≡ Some (code_words code)
  pub lost_is : flag_at name.Lost d ≡ Some lost
  pub share_is : number_at name.Share d ≡ Some share

-- by whether it is of version 2: its number, and how many members it has
abbrev pub shape_version_of : (second : Bool) → ℕ
shape_version_of false = 1
shape_version_of true = 2

abbrev pub members_of : (second : Bool) → ℕ
members_of false = 3
members_of true = 6

-- version 1 may say nothing of them, and has no code, no list, and none that waits
abbrev pub TellsLaterBy : (second : Bool) → Code → (lost : Bool) → (share : ℕ) → Data → Type 0
TellsLaterBy false code lost share d = (code ≡ Plain) × (lost ≡ false) × (share ≡ 0)
TellsLaterBy true code lost share d = TellsLater code lost share d

-- AN OBJECT WITH THE MEMBERS OF ITS VERSION AND NO OTHER, which say this; such a disk may have the share. A mark counts from version 2 on
pub record TellsText (d : Data) (t : DiskText) : Type 0 where
  pub version : number_at name.Version d ≡ Some (shape_version_of t.marked)
  pub shape : TellsShape d t.shape.geometry t.shape.cache
  pub later : TellsLaterBy t.marked t.shape.code t.lost t.shape.share d
  pub may_wait : IsShareFor t.shape.geometry t.shape.cache t.shape.share
  pub alone : member_count d ≡ Some (members_of t.marked)

-- the text is such an object
pub record IsShapeText (text : List ℕ) (t : DiskText) : Type 0 where
  pub body : Data
  pub reads : read text ≡ Some body
  pub tells : TellsText body t

-- WHAT IS WRITTEN OF A SHAPE TELLS IT, and whether a list of lost sectors stands beside the disk; a mark counts there
abbrev pub ShapeToldLaw : Type 0
ShapeToldLaw = (s : DiskShape) (lost : Bool) → IsCacheSize s.cache → IsShareFor s.geometry s.cache s.share → TellsText (shape_data s lost) (record { shape = s; marked = true; lost = lost })

-- ---- why it is none

-- what the value says of its members
abbrev pub LacksMember : Data → declared.Member → Type 0
LacksMember d m = get (member_words m) d ≡ None

abbrev pub HasOther : Data → declared.Member → Type 0
HasOther d name.Cache = number_at name.Cache d ≡ None
HasOther d name.Code = text_at name.Code d ≡ None
HasOther d name.Geometry = text_at name.Geometry d ≡ None
HasOther d name.Lost = flag_at name.Lost d ≡ None
HasOther d name.Share = number_at name.Share d ≡ None
HasOther d name.Version = number_at name.Version d ≡ None

-- it tells a disk that may not have this share
abbrev pub TellsUnfitShare : Data → (share : ℕ) → Type 0
TellsUnfitShare d share = (number_at name.Share d ≡ Some share) × ((g : Geometry) × (cache : ℕ) × TellsShape d g cache × (¬ IsShareFor g cache share))

-- what is wrong with the value
abbrev pub TellsNone : Data → ShapeFault → Type 0
TellsNone d fault.NotJson = ⊥
TellsNone d fault.NotObject = as_object d ≡ None
TellsNone d (fault.Missing m) = LacksMember d m
TellsNone d (fault.WrongType m) = HasOther d m
TellsNone d fault.Unknown = (second : Bool) × (number_at name.Version d ≡ Some (shape_version_of second)) × ((size : ℕ) × (member_count d ≡ Some size) × (size ≢ members_of second))
TellsNone d fault.Version = (version : ℕ) × (number_at name.Version d ≡ Some version) × (version ≢ 1) × (version ≢ 2)
TellsNone d fault.BadGeometry = HasBadGeometry d word.NoNumbers
TellsNone d (fault.Geometry limit) = HasBadGeometry d (word.Limit limit)
TellsNone d fault.CacheRange = (cache : ℕ) × (number_at name.Cache d ≡ Some cache) × (¬ IsCacheSize cache)
TellsNone d fault.Code = (code : List ℕ) × (text_at name.Code d ≡ Some code) × (code ≢ codes "none") × (code ≢ codes "hamming")
TellsNone d (fault.Share share) = TellsUnfitShare d share
TellsNone d fault.OutOfMemory = ⊥

-- what is wrong with the text; a growth may have been refused whatever it says
abbrev pub IsNoShape : List ℕ → ShapeFault → Type 0
IsNoShape text fault.NotJson = IsUtf8 text → read text ≡ None
IsNoShape text fault.OutOfMemory = Unit {0}
IsNoShape text f = (d : Data) × (read text ≡ Some d) × TellsNone d f
