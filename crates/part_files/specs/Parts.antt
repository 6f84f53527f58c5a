-- WHAT MAKING A PART ASKS OF THE NAMES, AND WHAT GIVING IT ITS NAME DOES. Nothing that was found is opened to be cut, or gets another file's
-- bytes: a part that was found loses its name, and is made anew. A name that a file had is not replaced, but where that is what is asked.
-- The fault that is told is that of the call that ended it.
use Rattle.std.specs.Prelude.{◌≡◌, ◌≢◌, ◌⊎◌, ℕ, List, [], ◌∷◌, Option}
use Rattle.part_files.specs.declared.names.PartFault.{PartFault}
use Rattle.part_files.specs.declared.names.PartFault.TheVariants.{InUse, Exists, OutOfMemory, Failed}
use Rattle.part_files.specs.Names.{AskedOfNames, Came, WhileHeld, asked, and_one, and_then}
use Rattle.part_files.specs.Names.NameCall.{Make, Claim, Remove, Link, Rename, SyncFolder}
use Rattle.part_files.specs.Names.Came.{Done, Refused}

-- ---- a part

-- a part that was found loses its name, and is made after that
abbrev pub Remade : (part : List ℕ) → (before after : Option (List AskedOfNames)) → Type 0
Remade part before after = after ≡ and_then before (asked (Remove part) Done ∷ asked (Make part) Done ∷ [])

-- the first call that was not done ended it
abbrev pub RemadeNot : (part : List ℕ) (fault : PartFault) → (before after : Option (List AskedOfNames)) → Type 0
RemadeNot part fault before after =
    (after ≡ and_one before (Remove part) (Refused fault))
    ⊎ (after ≡ and_then before (asked (Remove part) Done ∷ asked (Make part) (Refused fault) ∷ []))

-- what was found was locked until the part was made anew
abbrev pub Remakes : (part : List ℕ) → (before after : Option (List AskedOfNames)) → Type 0
Remakes part before after = WhileHeld (Claim part) (Remade part) before after

abbrev pub RemakesNot : (part : List ℕ) (fault : PartFault) → (before after : Option (List AskedOfNames)) → Type 0
RemakesNot part fault before after = (after ≡ and_one before (Claim part) (Refused fault)) ⊎ WhileHeld (Claim part) (RemadeNot part fault) before after

-- what is told of a part that was found: one that another run has made meanwhile is in use
abbrev pub taken_fault : PartFault → PartFault
taken_fault Exists = InUse
taken_fault InUse = InUse
taken_fault OutOfMemory = OutOfMemory
taken_fault Failed = Failed

-- THE PART WAS MADE where nothing was; or anew, where one was found
abbrev pub MakesPart : (part : List ℕ) → (before after : Option (List AskedOfNames)) → Type 0
MakesPart part before after = (after ≡ and_one before (Make part) Done) ⊎ Remakes part (and_one before (Make part) (Refused Exists)) after

-- one was found, and not made anew
pub record FindsPart (part : List ℕ) (fault : PartFault) (before after : Option (List AskedOfNames)) : Type 0 where
  pub found : PartFault
  pub told : fault ≡ taken_fault found
  pub calls : RemakesNot part found (and_one before (Make part) (Refused Exists)) after

-- no part was made
abbrev pub MakesNone : (part : List ℕ) (fault : PartFault) → (before after : Option (List AskedOfNames)) → Type 0
MakesNone part fault before after = ((fault ≢ Exists) × (after ≡ and_one before (Make part) (Refused fault))) ⊎ FindsPart part fault before after

-- ---- its name

-- the folder is synced, the part loses its own name, and the folder is synced again
pub record Settles (part path : List ℕ) (before after : Option (List AskedOfNames)) : Type 0 where
  pub first : Came
  pub removed : Came
  pub second : Came
  pub calls : after ≡ and_then before (asked (SyncFolder path) first ∷ asked (Remove part) removed ∷ asked (SyncFolder path) second ∷ [])

-- the part has the name, whatever file had it before
pub record Replaces (part path : List ℕ) (before after : Option (List AskedOfNames)) : Type 0 where
  pub synced : Came
  pub calls : after ≡ and_then before (asked (Rename part path) Done ∷ asked (SyncFolder path) synced ∷ [])

-- it was not to be had, and what had the name was removed
pub record GivesBack (part path : List ℕ) (fault : PartFault) (before after : Option (List AskedOfNames)) : Type 0 where
  pub removed : Came
  pub calls : after ≡ and_then before (asked (Rename part path) (Refused fault) ∷ asked (Remove path) removed ∷ [])

-- a new file took the name, which no file had, and the part replaced that one while it was locked
abbrev pub TakesName : (part path : List ℕ) → (before after : Option (List AskedOfNames)) → Type 0
TakesName part path before after = WhileHeld (Make path) (Replaces part path) before after

-- no name was taken; or the new file was removed again
abbrev pub TakesNot : (part path : List ℕ) (fault : PartFault) → (before after : Option (List AskedOfNames)) → Type 0
TakesNot part path fault before after = (after ≡ and_one before (Make path) (Refused fault)) ⊎ WhileHeld (Make path) (GivesBack part path fault) before after

-- the fault of a link that ends it: something has the name, or there is no memory
abbrev pub EndsLinking : PartFault → Type 0
EndsLinking fault = (fault ≡ Exists) ⊎ (fault ≡ OutOfMemory)

-- any other: files may have one name each
abbrev pub AllowsTaking : PartFault → Type 0
AllowsTaking fault = (fault ≢ Exists) × (fault ≢ OutOfMemory)

-- no link was to be had, and this came after
pub record Unlinked (part path : List ℕ) (After : (before after : Option (List AskedOfNames)) → Type 0) (before after : Option (List AskedOfNames)) : Type 0 where
  pub refused : PartFault
  pub allows : AllowsTaking refused
  pub calls : After (and_one before (Link part path) (Refused refused)) after

-- THE PART HAS THE NAME, WHICH NO FILE HAD: by a link; or, where none could be had, by taking it
abbrev pub Publishes : (part path : List ℕ) → (before after : Option (List AskedOfNames)) → Type 0
Publishes part path before after = Settles part path (and_one before (Link part path) Done) after ⊎ Unlinked part path (TakesName part path) before after

-- nothing was replaced, and the part has its own name still
abbrev pub PublishesNot : (part path : List ℕ) (fault : PartFault) → (before after : Option (List AskedOfNames)) → Type 0
PublishesNot part path fault before after =
    (EndsLinking fault × (after ≡ and_one before (Link part path) (Refused fault)))
    ⊎ Unlinked part path (TakesNot part path fault) before after

-- the part was to lose its name
pub record Drops (part : List ℕ) (before after : Option (List AskedOfNames)) : Type 0 where
  pub removed : Came
  pub calls : after ≡ and_one before (Remove part) removed
