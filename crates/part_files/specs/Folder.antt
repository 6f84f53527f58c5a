-- WHICH FILE EACH NAME HAS, and what calls do to that. It is believed of a system as long as nobody else changes these names: no clause says it
-- of one.
use Rattle.std.specs.Prelude.{◌≡◌, ◌≢◌, ◌⊎◌, ℕ, true, false, List, [], ◌∷◌, Option, Some, None}
use Rattle.part_files.specs.declared.names.PartFault.TheVariants.{InUse, Exists, OutOfMemory, Failed}
use Rattle.part_files.specs.Names.{AskedOfNames, NameCall, Came, and_then}
use Rattle.part_files.specs.Names.NameCall.{Make, Claim, Remove, Link, Rename, SyncFolder, LetGo, IsThere, IsOneFile, HasOneName}
use Rattle.part_files.specs.Names.Came.{Done, Told, Refused}

-- files are told apart by numbers
abbrev pub Folder : Type 0
Folder = List ℕ → Option ℕ

abbrev pub KeepsNames : (changed : List ℕ) → (before after : Folder) → Type 0
KeepsNames changed before after = (name : List ℕ) → name ≢ changed → after name ≡ before name

-- a name that no file had has a new file, which has no other name
pub record PutsNew (name : List ℕ) (before after : Folder) : Type 0 where
  pub file : ℕ
  pub free : before name ≡ None
  pub unnamed : (other : List ℕ) → before other ≢ Some file
  pub has : after name ≡ Some file
  pub others : KeepsNames name before after

-- a name that no file had has the file of another name too
pub record PutsLink (from to : List ℕ) (before after : Folder) : Type 0 where
  pub there : before from ≢ None
  pub free : before to ≡ None
  pub has : after to ≡ before from
  pub others : KeepsNames to before after

-- a name has the file of another name, which loses it; nothing is done where both have the same file
pub record MovesFile (from to : List ℕ) (before after : Folder) : Type 0 where
  pub there : before from ≢ None
  pub other : before from ≢ before to
  pub has : after to ≡ before from
  pub gone : after from ≡ None
  pub others : (name : List ℕ) → name ≢ from → name ≢ to → after name ≡ before name

-- a file has a name, and no other one
pub record HasFileAlone (name : List ℕ) (names : Folder) : Type 0 where
  pub file : ℕ
  pub has : names name ≡ Some file
  pub alone : (other : List ℕ) → other ≢ name → names other ≢ Some file

-- two names have one file
pub record HaveOne (first second : List ℕ) (names : Folder) : Type 0 where
  pub file : ℕ
  pub one : names first ≡ Some file
  pub two : names second ≡ Some file

-- what a call does that came to this. One that is not done changes nothing, but that `make` may leave its new file; a look is right
abbrev pub Effect : NameCall → Came → (before after : Folder) → Type 0
Effect (Make name) Done before after = PutsNew name before after
Effect (Make name) (Refused Exists) before after = (before name ≢ None) × (after ≡ before)
Effect (Make name) (Refused InUse) before after = (after ≡ before) ⊎ PutsNew name before after
Effect (Make name) (Refused OutOfMemory) before after = (after ≡ before) ⊎ PutsNew name before after
Effect (Make name) (Refused Failed) before after = (after ≡ before) ⊎ PutsNew name before after
Effect (Make name) (Told answer) before after = after ≡ before
Effect (Claim name) Done before after = (before name ≢ None) × (after ≡ before)
Effect (Claim name) (Refused fault) before after = after ≡ before
Effect (Claim name) (Told answer) before after = after ≡ before
Effect (Remove name) Done before after = (after name ≡ None) × KeepsNames name before after
Effect (Remove name) (Refused fault) before after = after ≡ before
Effect (Remove name) (Told answer) before after = after ≡ before
Effect (Link from to) Done before after = PutsLink from to before after
Effect (Link from to) (Refused fault) before after = after ≡ before
Effect (Link from to) (Told answer) before after = after ≡ before
Effect (Rename from to) Done before after = ((before from ≡ before to) × (after ≡ before)) ⊎ MovesFile from to before after
Effect (Rename from to) (Refused fault) before after = after ≡ before
Effect (Rename from to) (Told answer) before after = after ≡ before
Effect (SyncFolder name) came before after = after ≡ before
Effect LetGo came before after = after ≡ before
Effect (IsThere name) (Told true) before after = (before name ≢ None) × (after ≡ before)
Effect (IsThere name) (Told false) before after = (before name ≡ None) × (after ≡ before)
Effect (IsThere name) Done before after = after ≡ before
Effect (IsThere name) (Refused fault) before after = after ≡ before
Effect (IsOneFile first second) (Told true) before after = HaveOne first second before × (after ≡ before)
Effect (IsOneFile first second) (Told false) before after = after ≡ before
Effect (IsOneFile first second) Done before after = after ≡ before
Effect (IsOneFile first second) (Refused fault) before after = after ≡ before
Effect (HasOneName name) (Told true) before after = HasFileAlone name before × (after ≡ before)
Effect (HasOneName name) (Told false) before after = after ≡ before
Effect (HasOneName name) Done before after = after ≡ before
Effect (HasOneName name) (Refused fault) before after = after ≡ before

-- what calls do, one after another
abbrev pub Effects : List AskedOfNames → (before after : Folder) → Type 0
Effects [] before after = after ≡ before
Effects (one ∷ more) before after = (between : Folder) × Effect one.call one.came before between × Effects more between after

-- THE CALLS THAT WERE ASKED SINCE lead from these names to those
pub record LeadsNames (before after : Option (List AskedOfNames)) (start finish : Folder) : Type 0 where
  pub known : List AskedOfNames
  pub more : List AskedOfNames
  pub known_is : before ≡ Some known
  pub more_is : after ≡ and_then before more
  pub effects : Effects more start finish
