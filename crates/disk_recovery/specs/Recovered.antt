-- A STORE IS RECOVERED, AND ITS DISK IS OPENED.
use Rattle.std.specs.Prelude.{◌≡◌, ◌⊎◌, ℕ, Bool, true, false, List}
use Rattle.page_layout.specs.Counter.{HasRisen}
use Rattle.file_die.specs.Store.{Held}
use Rattle.crash_recovery.specs.Asked.{HasLooked}
use Rattle.crash_recovery.specs.Taken.{Recovers, RecoversSome}
use Rattle.disk_server.specs.declared.opened.OpenStoreFault.{OpenStoreFault}
use Rattle.disk_server.specs.declared.opened.OpenStoreFault.TheVariants.{Device, OutOfMemory}
use Rattle.disk_server.specs.Opened.{ComesBack, HasCome, IsStoreUnopened, bytes_of}
use Rattle.disk_server.specs.Stopped.{IsOpenedWith, IsUnopenedLater}

-- a store that was mounted was recovered once, by whether anything was torn
pub record IsRecovered (mark : ℕ) (s : Held) (changed : Bool) (t : Held) : Type 0 where
  pub mounted : Held
  pub geometry : mounted.geometry ≡ s.geometry
  pub pages : mounted.pages ≡ s.pages
  pub recovers : Recovers mark mounted t changed

-- THE STORE AS IT IS OPENED: nothing was torn; or what was is taken away, and the store was mounted and recovered once more, since a block has no live page only once what was newer is cut
abbrev pub IsLeftRecovered : (mark : ℕ) → (s t : Held) → Type 0
IsLeftRecovered mark s t = IsRecovered mark s false t ⊎ ((mid : Held) × IsRecovered mark s true mid × ((changed : Bool) × IsRecovered mark mid changed t))

-- THE BYTES OF THE DISK are those of the array of the pages that are left
pub record HoldsRecovered (mark : ℕ) (s : Held) (bytes : List ℕ) : Type 0 where
  pub left : Held
  pub recovered : IsLeftRecovered mark s left
  pub bytes_are : bytes ≡ bytes_of left

-- THE ENTRIES OF ITS CACHE: what was left was opened to be written. So where it had too many stale sectors it was flushed, and opened again
pub record IsOpenedLeft {S : Type 0} (held : S → Held) (honest : S → Bool) (failed : S → ℕ) (mark : ℕ) (store : S) (capacity share entries : ℕ) : Type 0 where
  pub left : S
  pub as_honest : honest left ≡ honest store
  pub recovered : honest store ≡ true → IsLeftRecovered mark (held store) (held left)
  pub opened : IsOpenedWith held honest failed true left capacity share entries

-- IT WAS NOT RECOVERED ONCE: a growth was refused, and the store is as it was and has not failed; or it failed, and counted it. What was torn may be taken away in part
pub record IsNotTaken {S : Type 0} (held : S → Held) (honest : S → Bool) (failed : S → ℕ) (mark : ℕ) (store given : S) (fault : OpenStoreFault) : Type 0 where
  pub as_honest : honest given ≡ honest store
  pub some : honest store ≡ true → RecoversSome mark (held store) (held given)
  pub why : ((fault ≡ OutOfMemory) × HasLooked held honest failed store true given) ⊎ ((fault ≡ Device) × HasRisen (failed store) (failed given))

-- nor once more: it was not mounted for the largest cache, or came back of that and was not recovered
abbrev pub IsNotAgain : {S : Type 0} → (S → Held) → (honest : S → Bool) → (failed : S → ℕ) → (mark : ℕ) → S → S → OpenStoreFault → Type 0
IsNotAgain {S} held honest failed mark store given fault =
    (IsStoreUnopened held honest failed store 65536 given fault × ComesBack held honest store fault given)
    ⊎ ((mounted : S) × HasCome held honest store mounted × IsNotTaken held honest failed mark mounted given fault)

-- why there is no disk of a store that was mounted, and what came back: it was not recovered; or what was torn was taken away, and it was not recovered once more; or what was left was not opened
abbrev pub IsUnrecovered : {S : Type 0} → (S → Held) → (honest : S → Bool) → (failed : S → ℕ) → S → (capacity share mark : ℕ) → S → OpenStoreFault → Type 0
IsUnrecovered {S} held honest failed store capacity share mark given fault =
    IsNotTaken held honest failed mark store given fault
    ⊎ (((taken : S) × (honest taken ≡ honest store) × (honest store ≡ true → IsRecovered mark (held store) true (held taken)) × IsNotAgain held honest failed mark taken given fault)
    ⊎ ((left : S) × (honest left ≡ honest store) × (honest store ≡ true → IsLeftRecovered mark (held store) (held left)) × IsUnopenedLater held honest failed left capacity share given fault))
