-- WHAT NAMING TWO FILES TOGETHER ASKS: the one beside a path first, and then the one at the path. Between the two the first keeps the name of
-- its part, where files can have two. And what is looked at before the first name is taken back.
use Rattle.std.specs.Prelude.{◌≡◌, ◌⊎◌, ℕ, Bool, true, false, List, [], ◌∷◌, Option}
use Rattle.part_files.specs.declared.names.PartFault.{PartFault}
use Rattle.part_files.specs.declared.pair.Pair.{Pair}
use Rattle.part_files.specs.Names.{AskedOfNames, Came, WhileHeld, asked, and_one, and_then}
use Rattle.part_files.specs.Names.NameCall.{Claim, Remove, Link, SyncFolder, IsThere, IsOneFile, HasOneName}
use Rattle.part_files.specs.Names.Came.{Done, Told, Refused}
use Rattle.part_files.specs.Parts.{Publishes, PublishesNot, TakesName, Unlinked}

-- ---- what a run that was killed has begun

-- IT HAS just where nothing has the path, the file beside has the name of its part too, and the part of the file has no other name
abbrev pub LooksBegun : Pair → (begun : Bool) → (before after : Option (List AskedOfNames)) → Type 0
LooksBegun p true before after =
    after
    ≡ and_then before (asked (IsThere p.path.now) (Told false) ∷ asked (IsOneFile p.beside.now p.beside_part.now) (Told true) ∷ asked (HasOneName p.part.now) (Told true) ∷ [])
LooksBegun p false before after =
    (after ≡ and_one before (IsThere p.path.now) (Told true))
    ⊎ (after ≡ and_then before (asked (IsThere p.path.now) (Told false) ∷ asked (IsOneFile p.beside.now p.beside_part.now) (Told false) ∷ []))
    ⊎ (after
    ≡ and_then before (asked (IsThere p.path.now) (Told false) ∷ asked (IsOneFile p.beside.now p.beside_part.now) (Told true) ∷ asked (HasOneName p.part.now) (Told false) ∷ []))

-- one of these looks had a fault
abbrev pub LooksNot : Pair → (fault : PartFault) → (before after : Option (List AskedOfNames)) → Type 0
LooksNot p fault before after =
    (after ≡ and_one before (IsThere p.path.now) (Refused fault))
    ⊎ (after ≡ and_then before (asked (IsThere p.path.now) (Told false) ∷ asked (IsOneFile p.beside.now p.beside_part.now) (Refused fault) ∷ []))
    ⊎ (after
    ≡ and_then before (asked (IsThere p.path.now) (Told false) ∷ asked (IsOneFile p.beside.now p.beside_part.now) (Told true) ∷ asked (HasOneName p.part.now) (Refused fault) ∷ []))

-- it was seen to have, and this came after
pub record AfterBegun (p : Pair) (After : (before after : Option (List AskedOfNames)) → Type 0) (before after : Option (List AskedOfNames)) : Type 0 where
  pub seen : Option (List AskedOfNames)
  pub looks : LooksBegun p true before seen
  pub calls : After seen after

-- the name beside was removed just where it was seen to be what was begun
abbrev pub ClearsBeside : Pair → (before after : Option (List AskedOfNames)) → Type 0
ClearsBeside p before after = LooksBegun p false before after ⊎ AfterBegun p (λ seen last. last ≡ and_one seen (Remove p.beside.now) Done) before after

abbrev pub ClearsNot : Pair → (fault : PartFault) → (before after : Option (List AskedOfNames)) → Type 0
ClearsNot p fault before after = LooksNot p fault before after ⊎ AfterBegun p (λ seen last. last ≡ and_one seen (Remove p.beside.now) (Refused fault)) before after

-- WHAT WAS BEGUN IS TAKEN BACK, and nothing else: it is looked at once more while the part is held
abbrev pub TakesBack : Pair → (before after : Option (List AskedOfNames)) → Type 0
TakesBack p before after = LooksBegun p false before after ⊎ AfterBegun p (WhileHeld (Claim p.part.now) (ClearsBeside p)) before after

-- the part was not to be held; or it was, and what came then had a fault
abbrev pub ClaimsNot : Pair → (fault : PartFault) → (before after : Option (List AskedOfNames)) → Type 0
ClaimsNot p fault before after = (after ≡ and_one before (Claim p.part.now) (Refused fault)) ⊎ WhileHeld (Claim p.part.now) (ClearsNot p fault) before after

abbrev pub TakesNotBack : Pair → (fault : PartFault) → (before after : Option (List AskedOfNames)) → Type 0
TakesNotBack p fault before after = LooksNot p fault before after ⊎ AfterBegun p (ClaimsNot p fault) before after

-- ---- both names

-- a name was to be removed
pub record Removes (name : List ℕ) (before after : Option (List AskedOfNames)) : Type 0 where
  pub removed : Came
  pub calls : after ≡ and_one before (Remove name) removed

-- the file beside has its name, and that of its part too; or, where it can have but one, it has taken its name
pub record LinksBeside (part beside : List ℕ) (before after : Option (List AskedOfNames)) : Type 0 where
  pub synced : Came
  pub calls : after ≡ and_then before (asked (Link part beside) Done ∷ asked (SyncFolder beside) synced ∷ [])

abbrev pub NamesBeside : (part beside : List ℕ) → (before after : Option (List AskedOfNames)) → Type 0
NamesBeside part beside before after = LinksBeside part beside before after ⊎ Unlinked part beside (TakesName part beside) before after

-- BOTH HAVE THEIR NAMES, WHICH NO FILES HAD; and what was the name of the part beside is removed last
pub record PublishesPair (p : Pair) (before after : Option (List AskedOfNames)) : Type 0 where
  pub one : Option (List AskedOfNames)
  pub both : Option (List AskedOfNames)
  pub first : NamesBeside p.beside_part.now p.beside.now before one
  pub second : Publishes p.part.now p.path.now one both
  pub last : Removes p.beside_part.now both after

-- the second was not to be had, and the name of the first was removed again
pub record PublishesHalf (p : Pair) (fault : PartFault) (before after : Option (List AskedOfNames)) : Type 0 where
  pub one : Option (List AskedOfNames)
  pub both : Option (List AskedOfNames)
  pub first : NamesBeside p.beside_part.now p.beside.now before one
  pub second : PublishesNot p.part.now p.path.now fault one both
  pub last : Removes p.beside.now both after

-- the first was not to be had, as of a file that was to be published; or the second was not
abbrev pub PublishesNoPair : Pair → (fault : PartFault) → (before after : Option (List AskedOfNames)) → Type 0
PublishesNoPair p fault before after = PublishesNot p.beside_part.now p.beside.now fault before after ⊎ PublishesHalf p fault before after
