-- The shape that the words of `create` ask for.
use Rattle.std.specs.Prelude.{◌≡◌, ◌⊎◌, ℕ, List, Option, Some, None}
use Rattle.std.specs.Borrow.{Bor}
use Rattle.std.specs.Int.{div_ceil}
use Rattle.page_layout.specs.declared.geometry.Geometry.{Geometry}
use Rattle.program_words.specs.Numbers.{number_of}
use Rattle.disk_commands.specs.declared.shapes.Code.TheVariants.{Plain}
use Rattle.disk_commands.specs.declared.shapes.DiskShape.{DiskShape}
use Rattle.disk_commands.specs.declared.shape_words.GeometryWordFault.TheVariants as word
use Rattle.disk_commands.specs.Shapes.{IsNewShare, IsNoSize, IsShapeFor, IsShareFor, cache_of}
use Rattle.disk_commands.specs.Sizes.{SpellsPart, SpellsSize}
use Rattle.disk_commands.specs.ShapeText.{IsCacheSize}
use Rattle.disk_commands.specs.ShapeWords.{SaysGeometry, SaysNone}
use Rattle.disk_commands.specs.declared.words.CreateWords.{CreateWords}
use Rattle.disk_commands.specs.declared.words.MakeWords.{MakeWords}
use Rattle.disk_commands.specs.declared.words.MakeWords.TheVariants as make
use Rattle.disk_commands.specs.declared.text.DiskCommandFault.{DiskCommandFault}
use Rattle.disk_commands.specs.declared.text.DiskCommandFault.TheVariants as fault

-- ---- what is asked for

-- the share of a new disk of the size that a word says; 15 where it says none
abbrev pub IsShareFrom : List ℕ → (share : ℕ) → Type 0
IsShareFrom word share =
    ((bytes : ℕ) × SpellsSize word bytes × IsNewShare (div_ceil bytes 4096) share)
    ⊎ (((bytes : ℕ) → ¬ SpellsSize word bytes) × (share ≡ 15))

-- the share that is named; where none is, the one for the size, or 15
abbrev pub IsShareAsked : (named : Option (Bor (List ℕ))) → MakeWords → (share : ℕ) → Type 0
IsShareAsked (Some word) make share = number_of word.now ≡ Some share
IsShareAsked None (make.Size word) share = IsShareFrom word.now share
IsShareAsked None (make.Geometry word) share = share ≡ 15
IsShareAsked None (make.Dump word from) share = share ≡ 15

-- the geometry of the shape for the size that a word says
abbrev pub IsGeometryFor : List ℕ → (share : ℕ) → Geometry → Type 0
IsGeometryFor word share g = (bytes : ℕ) × SpellsSize word bytes × IsShapeFor bytes share (record { geometry = g; cache = cache_of g share; share = share; code = Plain })

-- the geometry that is named, or the one for the size
abbrev pub IsGeometryAsked : MakeWords → (share : ℕ) → Geometry → Type 0
IsGeometryAsked (make.Size word) share g = IsGeometryFor word.now share g
IsGeometryAsked (make.Geometry word) share g = SaysGeometry word.now g
IsGeometryAsked (make.Dump word from) share g = SaysGeometry word.now g

-- a word that is a number from 1 to 65,536
abbrev pub IsCacheAt : List ℕ → ℕ → Type 0
IsCacheAt word cache = (number_of word ≡ Some cache) × IsCacheSize cache

-- the cache that is named, or the one for the geometry
abbrev pub IsCacheAsked : Option (Bor (List ℕ)) → Geometry → (share cache : ℕ) → Type 0
IsCacheAsked None g share cache = cache ≡ cache_of g share
IsCacheAsked (Some word) g share cache = IsCacheAt word.now cache

-- THE SHAPE, of which the share is one that such a disk may have
pub record IsShapeAsked (words : CreateWords) (s : DiskShape) : Type 0 where
  pub share : IsShareAsked words.share words.make s.share
  pub geometry : IsGeometryAsked words.make s.share s.geometry
  pub cache : IsCacheAsked words.cache s.geometry s.share s.cache
  pub may_wait : IsShareFor s.geometry s.cache s.share
  pub code : s.code ≡ words.code

-- ---- why there is none

-- a word that writes no five numbers is told, or else the first limit that they break
abbrev pub IsNoGeometryAt : List ℕ → DiskCommandFault → Type 0
IsNoGeometryAt said (fault.BadNumber told) = (told.now ≡ said) × SaysNone said word.NoNumbers
IsNoGeometryAt said (fault.Geometry broken) = SaysNone said (word.Limit broken)
IsNoGeometryAt said _ = ⊥

abbrev pub IsNoGeometryFor : List ℕ → (share : ℕ) → DiskCommandFault → Type 0
IsNoGeometryFor said share (fault.BadSize told) = (told.now ≡ said) × ((bytes : ℕ) → ¬ SpellsSize said bytes) × (¬ SpellsPart said)
IsNoGeometryFor said share (fault.PartOfByte told) = (told.now ≡ said) × SpellsPart said
IsNoGeometryFor said share (fault.Size why) = (bytes : ℕ) × SpellsSize said bytes × IsNoSize bytes share why
IsNoGeometryFor said share _ = ⊥

abbrev pub IsNoGeometryAsked : MakeWords → (share : ℕ) → DiskCommandFault → Type 0
IsNoGeometryAsked (make.Size word) share told = IsNoGeometryFor word.now share told
IsNoGeometryAsked (make.Geometry word) share told = IsNoGeometryAt word.now told
IsNoGeometryAsked (make.Dump word from) share told = IsNoGeometryAt word.now told

abbrev pub IsNoCacheAsked : Option (Bor (List ℕ)) → DiskCommandFault → Type 0
IsNoCacheAsked (Some word) (fault.BadNumber told) = (told.now ≡ word.now) × ((cache : ℕ) → ¬ IsCacheAt word.now cache)
IsNoCacheAsked _ _ = ⊥

abbrev pub IsNoShareAsked : Option (Bor (List ℕ)) → DiskCommandFault → Type 0
IsNoShareAsked (Some word) (fault.BadNumber told) = (told.now ≡ word.now) × (number_of word.now ≡ None)
IsNoShareAsked _ _ = ⊥

-- the disk may not have this share
abbrev pub IsNoShareOf : Geometry → (cache share : ℕ) → DiskCommandFault → Type 0
IsNoShareOf g cache share (fault.Share told) = (told ≡ share) × (¬ IsShareFor g cache share)
IsNoShareOf g cache share _ = ⊥

-- once the share's word was read the first of this order: the geometry, the cache, the share
abbrev pub IsNoShapeAt : CreateWords → (share : ℕ) → DiskCommandFault → Type 0
IsNoShapeAt words share told =
    IsNoGeometryAsked words.make share told
    ⊎ ((g : Geometry) × IsGeometryAsked words.make share g × (IsNoCacheAsked words.cache told
    ⊎ ((cache : ℕ) × IsCacheAsked words.cache g share cache × IsNoShareOf g cache share told)))

abbrev pub IsNoShapeAsked : CreateWords → DiskCommandFault → Type 0
IsNoShapeAsked words told =
    IsNoShareAsked words.share told
    ⊎ ((share : ℕ) × IsShareAsked words.share words.make share × IsNoShapeAt words share told)
