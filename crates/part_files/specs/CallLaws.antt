-- WHAT EACH CALL MAKES OF NAMES, worked out: of given names it leaves just these, and such a call there is.
use Rattle.std.specs.Prelude.{◌≡◌, ◌≢◌, ℕ, true, false, List, ◌++◌, Option, Some, None, if◌then◌else◌}
use Rattle.std.specs.Str.{bytes_eq}
use Rattle.part_files.specs.declared.names.PartFault.{PartFault}
use Rattle.part_files.specs.declared.names.PartFault.TheVariants.{Exists}
use Rattle.part_files.specs.Names.{AskedOfNames, NameCall, Came}
use Rattle.part_files.specs.Names.NameCall.{Make, Claim, Remove, Link, Rename, IsThere, IsOneFile, HasOneName}
use Rattle.part_files.specs.Names.Came.{Done, Told, Refused}
use Rattle.part_files.specs.Folder.{Folder, Effect, Effects, LeadsNames}

-- a name has this file, or none; each other name has what it had
abbrev pub with_name : (name : List ℕ) → Option ℕ → Folder → Folder
with_name name file names other = if bytes_eq other name then file else names other

-- no name has it
abbrev pub HasNoName : ℕ → Folder → Type 0
HasNoName file names = (other : List ℕ) → names other ≢ Some file

-- a call that came to this may leave these names, and no others
pub record LeavesNames (call : NameCall) (came : Came) (before after : Folder) : Type 0 where
  pub does : Effect call came before after
  pub only : (finish : Folder) → Effect call came before finish → (name : List ℕ) → finish name ≡ after name

-- a new file has the name, whichever it is
pub record MakesFile (name : List ℕ) (before : Folder) : Type 0 where
  pub does : (file : ℕ) → HasNoName file before → Effect (Make name) Done before (with_name name (Some file) before)
  pub only : (finish : Folder) → Effect (Make name) Done before finish → (file : ℕ) × HasNoName file before × ((other : List ℕ) → finish other ≡ with_name name (Some file) before other)

abbrev pub MakesFileLaw : Type 0
MakesFileLaw = (name : List ℕ) (before : Folder) → before name ≡ None → MakesFile name before

-- where something has the name, nothing is made
abbrev pub ExistsLaw : Type 0
ExistsLaw = (name : List ℕ) (before : Folder) → before name ≢ None → LeavesNames (Make name) (Refused Exists) before before

abbrev pub ClaimsLaw : Type 0
ClaimsLaw = (name : List ℕ) (before : Folder) → before name ≢ None → LeavesNames (Claim name) Done before before

abbrev pub RemovesLaw : Type 0
RemovesLaw = (name : List ℕ) (before : Folder) → LeavesNames (Remove name) Done before (with_name name None before)

abbrev pub LinksLaw : Type 0
LinksLaw = (from to : List ℕ) (before : Folder) → before from ≢ None → before to ≡ None → LeavesNames (Link from to) Done before (with_name to (before from) before)

-- the file has its new name, and not the old one
abbrev pub RenamesLaw : Type 0
RenamesLaw = (from to : List ℕ) (before : Folder) → before from ≢ None → before from ≢ before to → LeavesNames (Rename from to) Done before (with_name to (before from) (with_name from None before))

-- where both names have one file, nothing is done
abbrev pub RenamesNoneLaw : Type 0
RenamesNoneLaw = (from to : List ℕ) (before : Folder) → before from ≡ before to → LeavesNames (Rename from to) Done before before

-- a call that is refused changes nothing
abbrev pub RefusedCallLaw : Type 0
RefusedCallLaw = (call : NameCall) (fault : PartFault) (before : Folder) → ((name : List ℕ) → call ≢ Make name) → LeavesNames call (Refused fault) before before

-- but that `make` may leave its new file
abbrev pub RefusedMakeLaw : Type 0
RefusedMakeLaw = (name : List ℕ) (fault : PartFault) (before finish : Folder) → fault ≢ Exists → Effect (Make name) Done before finish → Effect (Make name) (Refused fault) before finish × Effect (Make name) (Refused fault) before before

-- a look is right, and changes nothing
abbrev pub ThereLaw : Type 0
ThereLaw = (name : List ℕ) (before : Folder) → (before name ≢ None → LeavesNames (IsThere name) (Told true) before before) × (before name ≡ None → LeavesNames (IsThere name) (Told false) before before)

abbrev pub OneFileLaw : Type 0
OneFileLaw = (first second : List ℕ) (file : ℕ) (before : Folder) → before first ≡ Some file → before second ≡ Some file → LeavesNames (IsOneFile first second) (Told true) before before

abbrev pub OneNameLaw : Type 0
OneNameLaw = (name : List ℕ) (file : ℕ) (before : Folder) → before name ≡ Some file → ((other : List ℕ) → other ≢ name → before other ≢ Some file) → LeavesNames (HasOneName name) (Told true) before before

-- calls that had effects one after another lead there, whatever was asked before
abbrev pub LeadsThereLaw : Type 0
LeadsThereLaw = (known calls : List AskedOfNames) (start finish : Folder) → Effects calls start finish → LeadsNames (Some known) (Some (known ++ calls)) start finish
