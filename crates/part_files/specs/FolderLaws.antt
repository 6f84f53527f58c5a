-- WHAT BECOMES OF NAMES by what making, naming and taking back ask of them.
use Rattle.std.specs.Prelude.{◌≡◌, ◌≢◌, ◌⊎◌, ℕ, List, Option, None}
use Rattle.part_files.specs.declared.names.PartFault.{PartFault}
use Rattle.part_files.specs.declared.pair.Pair.{Pair}
use Rattle.part_files.specs.Names.{AskedOfNames}
use Rattle.part_files.specs.Parts.{MakesPart, MakesNone, Publishes, PublishesNot, Replaces}
use Rattle.part_files.specs.Pairs.{PublishesNoPair, PublishesPair, TakesBack, TakesNotBack}
use Rattle.part_files.specs.Folder.{Folder, KeepsNames, HaveOne, HasFileAlone, LeadsNames}

-- of what was asked, and the names before and after
abbrev pub MeansOfNames : (Asks : (before after : Option (List AskedOfNames)) → Type 0) (Means : (start finish : Folder) → Type 0) → Type 0
MeansOfNames Asks Means = (before after : Option (List AskedOfNames)) (start finish : Folder) → Asks before after → LeadsNames before after start finish → Means start finish

-- the part is a file that has no other name, and each other name has the file that it had
pub record IsPartMade (part : List ℕ) (start finish : Folder) : Type 0 where
  pub only : HasFileAlone part finish
  pub others : KeepsNames part start finish

-- the path has the part's file; the part has lost it, or the system did not remove its name
pub record IsMoved (part path : List ℕ) (start finish : Folder) : Type 0 where
  pub has : finish path ≡ start part
  pub part_is : (finish part ≡ None) ⊎ (finish part ≡ start part)
  pub others : (name : List ℕ) → name ≢ part → name ≢ path → finish name ≡ start name

-- the same, and no file had the path
pub record IsPublished (part path : List ℕ) (start finish : Folder) : Type 0 where
  pub free : start path ≡ None
  pub moved : IsMoved part path start finish

-- each other name has the file that it had, the part too; and the path, or no file had it: a new one may then, which the system did not remove
pub record IsUnpublished (part path : List ℕ) (start finish : Folder) : Type 0 where
  pub part_is : finish part ≡ start part
  pub path_is : (finish path ≡ start path) ⊎ (start path ≡ None)
  pub others : KeepsNames path start finish

-- nothing has the path, the file beside has the name of its part too, and the part of the file has no other name
pub record IsHalfNamed (p : Pair) (names : Folder) : Type 0 where
  pub free : names p.path.now ≡ None
  pub linked : HaveOne p.beside.now p.beside_part.now names
  pub unnamed : HasFileAlone p.part.now names

-- each other name has the file that it had; and the name beside, but where a run that was killed has given it
pub record IsTakenBack (p : Pair) (start finish : Folder) : Type 0 where
  pub beside_is : (finish p.beside.now ≡ start p.beside.now) ⊎ IsHalfNamed p start
  pub others : KeepsNames p.beside.now start finish

-- both parts are there, and the names of a pair are different ones
pub record IsPairReady (p : Pair) (names : Folder) : Type 0 where
  pub part_there : names p.part.now ≢ None
  pub beside_part_there : names p.beside_part.now ≢ None
  pub parts_apart : p.part.now ≢ p.beside_part.now
  pub part_apart : p.part.now ≢ p.beside.now
  pub path_apart : p.path.now ≢ p.beside.now
  pub path_parts_apart : p.path.now ≢ p.beside_part.now

-- a name that is none of a pair
pub record IsNoneOfPair (p : Pair) (name : List ℕ) : Type 0 where
  pub no_part : name ≢ p.part.now
  pub no_path : name ≢ p.path.now
  pub no_beside_part : name ≢ p.beside_part.now
  pub no_beside : name ≢ p.beside.now

-- both names, which no files had, have the files of the parts
pub record IsPairPublished (p : Pair) (start finish : Folder) : Type 0 where
  pub path_free : start p.path.now ≡ None
  pub beside_free : start p.beside.now ≡ None
  pub path_is : finish p.path.now ≡ start p.part.now
  pub beside_is : finish p.beside.now ≡ start p.beside_part.now
  pub others : (name : List ℕ) → IsNoneOfPair p name → finish name ≡ start name

-- the part has its own name, and no file that was there is replaced
pub record IsPairUnpublished (p : Pair) (start finish : Folder) : Type 0 where
  pub part_is : finish p.part.now ≡ start p.part.now
  pub path_is : (finish p.path.now ≡ start p.path.now) ⊎ (start p.path.now ≡ None)
  pub beside_is : (finish p.beside.now ≡ start p.beside.now) ⊎ (start p.beside.now ≡ None)
  pub others : (name : List ℕ) → IsNoneOfPair p name → finish name ≡ start name

abbrev pub MakesPartLaw : Type 0
MakesPartLaw = (part : List ℕ) → MeansOfNames (MakesPart part) (IsPartMade part)

abbrev pub MakesNoneLaw : Type 0
MakesNoneLaw = (part : List ℕ) (fault : PartFault) → MeansOfNames (MakesNone part fault) (KeepsNames part)

-- of a part that is there
abbrev pub PublishesLaw : Type 0
PublishesLaw = (part path : List ℕ) → MeansOfNames (Publishes part path) (λ start finish. start part ≢ None → IsPublished part path start finish)

abbrev pub PublishesNotLaw : Type 0
PublishesNotLaw = (part path : List ℕ) (fault : PartFault) → MeansOfNames (PublishesNot part path fault) (λ start finish. start part ≢ None → IsUnpublished part path start finish)

abbrev pub ReplacesLaw : Type 0
ReplacesLaw = (part path : List ℕ) → MeansOfNames (Replaces part path) (IsMoved part path)

abbrev pub TakesBackLaw : Type 0
TakesBackLaw = (p : Pair) → MeansOfNames (TakesBack p) (IsTakenBack p)

abbrev pub TakesNotBackLaw : Type 0
TakesNotBackLaw = (p : Pair) (fault : PartFault) → MeansOfNames (TakesNotBack p fault) (λ start finish. finish ≡ start)

abbrev pub PublishesPairLaw : Type 0
PublishesPairLaw = (p : Pair) → MeansOfNames (PublishesPair p) (λ start finish. IsPairReady p start → IsPairPublished p start finish)

abbrev pub PublishesNoPairLaw : Type 0
PublishesNoPairLaw = (p : Pair) (fault : PartFault) → MeansOfNames (PublishesNoPair p fault) (λ start finish. IsPairReady p start → IsPairUnpublished p start finish)
